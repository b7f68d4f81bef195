-- What holds of the bodies of the unit `list`, with their modes, holds of the bodies of all predicates of units.
use mathlib.Core.Path.{fun_ext}
use Rattle.std.proofs.Common.{◌≡◌, ℕ, inl, inr, List, ◌++◌, map, length, Some, None, refl, sym, ap, subst, ◌∙◌}
use Rattle.std.specs.List.{flat_map}
use Rattle.merc_base.specs.Names.{append_name, fixed_names, length_name, list_reverse_onto_name, member_name}
use Rattle.merc_tree.specs.Term.{Term}
use Rattle.merc_tree.specs.declared.declarations.Clause.{Clause}
use Rattle.merc_tree.specs.declared.declarations.ModeDecl.{ModeDecl}
use Rattle.merc_tree.specs.declared.declarations.PredDecl.{PredDecl}
use Rattle.merc_tree.specs.declared.declarations.Module.{Module}
use Rattle.merc_goal_tree.specs.Nodes.{Node}
use Rattle.merc_bodies.specs.Bodies.{as_one, clauses_of, joined_forms}
use Rattle.merc_order.specs.Procedures.{modes_of}
use Rattle.merc_flat.specs.Flat.{clause_node}
use Rattle.merc_entries.specs.Entries.{Entry, entries, own_entries}
use Rattle.merc_entries.specs.LibraryItems.{library_items, list_items}
use Rattle.merc_items.specs.ModuleOf.{module_of, pred_decls, unit_items}
use Rattle.merc_items.specs.Phases.{HasNoFault}
use Rattle.merc_items.specs.ReadModule.{IsModule}
use Rattle.merc_program_laws.specs.ClauseFaults.{IsAmong, file_clauses}
use Rattle.merc_program_laws.specs.UnitClauses.{IsTable}
use Rattle.merc_program_laws.proofs.FirstFaults.{all_at, among_either}
use Rattle.merc_program_laws.proofs.ListLookups.{number_of}
use Rattle.merc_program_laws.proofs.UnitClauses.{has_library}
use Rattle.merc_program_laws.specs.UnitProcedures.{body_in}
use Rattle.merc_program_laws.proofs.ListModule.{StandsInList, append_stands, append_predicate, length_predicate, length_stands, list_predicates, member_stands, member_predicate, onto_stands, own_unit, predicate_there, predicates_are, reverse_stands, reverse_predicate, onto_predicate}
use Rattle.merc_program_laws.proofs.ListOrders.{append_body, append_modes, length_body, length_modes, member_body, member_modes, onto_body, onto_modes, reverse_body, reverse_modes}

-- The bodies of the predicates of the unit `list` over its clauses, where each calls what its name means in the module.
module _ (behind : List (List ℕ)) (known : Module) where
  abbrev names : List (List ℕ)
  names = fixed_names ++ behind

  abbrev body_from : ℕ → List Clause → Node
  body_from arity clauses = as_one clauses (joined_forms arity arity (map (clause_node names known) clauses))

  abbrev list_clauses : PredDecl → List Clause
  list_clauses declared = clauses_of (file_clauses list_items) declared

  append_body-is : body_from 3 (list_clauses (append_predicate append_modes)) ≡ append_body (number_of known append_name 3)
  unfolding fixed_names list_items
  append_body-is = refl

  member_body-is : body_from 2 (list_clauses (member_predicate member_modes)) ≡ member_body (number_of known member_name 2)
  unfolding fixed_names list_items
  member_body-is = refl

  length_body-is : body_from 2 (list_clauses (length_predicate length_modes)) ≡ length_body (number_of known length_name 2)
  unfolding fixed_names list_items
  length_body-is = refl

  reverse_body-is : body_from 2 (list_clauses (reverse_predicate reverse_modes)) ≡ reverse_body (number_of known list_reverse_onto_name 3)
  unfolding fixed_names list_items
  reverse_body-is = refl

  onto_body-is : body_from 3 (list_clauses (onto_predicate onto_modes)) ≡ onto_body (number_of known list_reverse_onto_name 3)
  unfolding fixed_names list_items
  onto_body-is = refl

-- Given is what may hold of a body, with the modes of each predicate, the number of its own arguments, and its own modes.
module _ (Holds : (ℕ → List ModeDecl) → ℕ → List ModeDecl → Node → Type 0) where
  -- It holds of the bodies of the unit `list` where the predicate that they call has its modes.
  pub record HoldsOfList : Type 0 where
    pub append : (number : ℕ) (modes : ℕ → List ModeDecl) → modes number ≡ append_modes → Holds modes 3 append_modes (append_body number)
    pub member : (number : ℕ) (modes : ℕ → List ModeDecl) → modes number ≡ member_modes → Holds modes 2 member_modes (member_body number)
    pub length_of : (number : ℕ) (modes : ℕ → List ModeDecl) → modes number ≡ length_modes → Holds modes 2 length_modes (length_body number)
    pub reverse : (number : ℕ) (modes : ℕ → List ModeDecl) → modes number ≡ onto_modes → Holds modes 2 reverse_modes (reverse_body number)
    pub onto : (number : ℕ) (modes : ℕ → List ModeDecl) → modes number ≡ onto_modes → Holds modes 3 onto_modes (onto_body number)

  -- it holds of the body of this predicate
  abbrev pub HoldsOf : List (List ℕ) → Module → PredDecl → Type 0
  HoldsOf texts known declared = Holds (modes_of known.preds) (length declared.args) declared.modes (body_in texts known declared)

  -- it holds of those of all predicates of units
  abbrev pub HoldsOfUnits : List (List ℕ) → Module → Type 0
  HoldsOfUnits texts known = (declared : PredDecl) (unit : ℕ) → IsAmong declared known.preds → declared.unit ≡ Some unit → HoldsOf texts known declared

  module _ (behind : List (List ℕ)) (known : Module) (holds : HoldsOfList) where
    abbrev In : PredDecl → Type 0
    In declared = HoldsOf (fixed_names ++ behind) known declared

    by_body : (declared : PredDecl) → StandsInList known declared → (body : Node) → body_from behind known (length declared.args) (list_clauses behind known declared) ≡ body
        → Holds (modes_of known.preds) (length declared.args) declared.modes body → In declared
    by_body declared stands body is one =
        subst (Holds (modes_of known.preds) (length declared.args) declared.modes) (sym (ap (body_from behind known (length declared.args)) stands.clauses ∙ is)) one

    append_holds : StandsInList known (append_predicate append_modes) → In (append_predicate append_modes)
    append_holds stands = by_body (append_predicate append_modes) stands (append_body (number_of known append_name 3)) (append_body-is behind known)
        (holds.append (number_of known append_name 3) (modes_of known.preds) stands.modes)

    member_holds : StandsInList known (member_predicate member_modes) → In (member_predicate member_modes)
    member_holds stands = by_body (member_predicate member_modes) stands (member_body (number_of known member_name 2)) (member_body-is behind known)
        (holds.member (number_of known member_name 2) (modes_of known.preds) stands.modes)

    length_holds : StandsInList known (length_predicate length_modes) → In (length_predicate length_modes)
    length_holds stands = by_body (length_predicate length_modes) stands (length_body (number_of known length_name 2)) (length_body-is behind known)
        (holds.length_of (number_of known length_name 2) (modes_of known.preds) stands.modes)

    reverse_holds : StandsInList known (reverse_predicate reverse_modes) → StandsInList known (onto_predicate onto_modes) → In (reverse_predicate reverse_modes)
    reverse_holds stands onto = by_body (reverse_predicate reverse_modes) stands (reverse_body (number_of known list_reverse_onto_name 3)) (reverse_body-is behind known)
        (holds.reverse (number_of known list_reverse_onto_name 3) (modes_of known.preds) onto.modes)

    onto_holds : StandsInList known (onto_predicate onto_modes) → In (onto_predicate onto_modes)
    onto_holds stands = by_body (onto_predicate onto_modes) stands (onto_body (number_of known list_reverse_onto_name 3)) (onto_body-is behind known)
        (holds.onto (number_of known list_reverse_onto_name 3) (modes_of known.preds) stands.modes)

  -- Given are names behind the constants, and the items of a file without a fault.
  module _ (behind : List (List ℕ)) (terms : List Term) (faultless : HasNoFault (fixed_names ++ behind) terms (entries library_items terms)) (holds : HoldsOfList) where
    abbrev all : List Entry
    all = entries library_items terms

    abbrev found : Module
    found = module_of (fixed_names ++ behind) terms all

    abbrev There : PredDecl → Type 0
    There declared = HoldsOf (fixed_names ++ behind) found declared

    of_unit : (declared : PredDecl) → IsAmong declared (flat_map (pred_decls (fixed_names ++ behind) (unit_items all)) (unit_items all)) → There declared
    of_unit declared among =
        let there = predicate_there (fixed_names ++ behind) terms declared among in
        let onto = onto_stands behind terms faultless there.0 there.1 in
        all_at There declared list_predicates (
          append_holds behind found holds (append_stands behind terms faultless there.0 there.1),
          (
            member_holds behind found holds (member_stands behind terms faultless there.0 there.1),
            (
              length_holds behind found holds (length_stands behind terms faultless there.0 there.1),
              (
                reverse_holds behind found holds (reverse_stands behind terms faultless there.0 there.1) onto,
                (onto_holds behind found holds onto, tt),
              ),
            ),
          ),
        )
        (subst (IsAmong declared) (predicates_are behind terms faultless there.0 there.1) among)

    of_units : HoldsOfUnits (fixed_names ++ behind) found
    of_units declared unit among is =
        elim (among_either declared (flat_map (pred_decls (fixed_names ++ behind) (own_entries all)) (own_entries all)) (flat_map (pred_decls (fixed_names ++ behind) (unit_items all)) (unit_items all)) among)
        as (λ _. There declared) [
          | inl own ↦ absurd (let wrong : Some unit ≡ None = sym is ∙ own_unit (fixed_names ++ behind) all declared own in cc)
          | inr there ↦ of_unit declared there
        ]

  -- in each module that a text is
  pub holds_of_units : HoldsOfList → (before after : List (List ℕ)) (text : List ℕ) (terms : List Term) (found : Module) → IsTable before → IsModule before after text terms found → HoldsOfUnits after found
  holds_of_units holds before after text terms found table is =
      let library = has_library before after text terms found table is in
      let items_are : library_items ≡ is.is.items = fun_ext library.items_are in
      let faultless = subst (λ (items : ℕ → List Term). HasNoFault after terms (entries items terms)) (sym items_are) is.is.faultless in
      let there = of_units library.behind terms (subst (λ (names : List (List ℕ)). HasNoFault names terms (entries library_items terms)) library.front faultless) holds in
      let over = subst (λ (names : List (List ℕ)). HoldsOfUnits names (module_of names terms (entries library_items terms))) (sym library.front) there in
      let whole = subst (λ (items : ℕ → List Term). HoldsOfUnits after (module_of after terms (entries items terms))) items_are over in
      subst (HoldsOfUnits after) (sym is.is.same) whole
