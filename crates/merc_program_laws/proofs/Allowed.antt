-- The categories that library units declare allow those that are inferred of their bodies.
use mathlib.Core.Path.{fun_ext}
use Rattle.std.proofs.Common.{◌≡◌, ℕ, inl, inr, true, List, [], ◌∷◌, ◌++◌, map, length, Option, Some, None, is_some, refl, sym, ap, subst, ◌∙◌}
use Rattle.std.specs.List.{AllByRecursion, flat_map}
use Rattle.std.specs.Option.{option_map}
use Rattle.merc_base.specs.Names.{fixed_names}
use Rattle.merc_base.specs.declared.refusal.Rule.TheVariants.{DeclaredTwice}
use Rattle.merc_base.specs.declared.refusal.Detail.TheVariants.{Plain}
use Rattle.merc_tree.specs.Term.{Term}
use Rattle.merc_tree.specs.Types.{TypeExpr}
use Rattle.merc_tree.specs.declared.declarations.Constructor.{Constructor}
use Rattle.merc_tree.specs.declared.declarations.ModeDecl.{ModeDecl}
use Rattle.merc_tree.specs.declared.declarations.Module.{Module}
use Rattle.merc_tree.specs.declared.declarations.PredDecl.{PredDecl}
use Rattle.merc_tree.specs.declared.declarations.TypeDef.{TypeDef}
use Rattle.merc_goal_tree.specs.Nodes.{Node as WrittenNode}
use Rattle.merc_graded_tree.specs.Nodes.{Node}
use Rattle.merc_order.specs.Procedures.{IsProcedure, modes_of, numbers_below, tree_of}
use Rattle.merc_flat.specs.Flat.{clause_node}
use Rattle.merc_entries.specs.DoubleFaults.{constructor_again, predicate_again}
use Rattle.merc_entries.specs.Entries.{Entry, entries, own_entries}
use Rattle.merc_entries.specs.LibraryItems.{library_items}
use Rattle.merc_items.specs.ModuleOf.{module_of, pred_decls, unit_items}
use Rattle.merc_items.specs.Phases.{double, doubles_phase, HasNoFault}
use Rattle.merc_items.specs.ReadModule.{IsModule}
use Rattle.merc_grading.specs.Fitting.{fellows, Fits}
use Rattle.merc_grading.specs.Faults.{allows, Body, Procedure, procedures_of, with_modes}
use Rattle.merc_grading.specs.Known.{symbol_of}
use Rattle.merc_order_laws.specs.Fitting.{HasNoSwitch}
use Rattle.merc_order_laws.specs.ProcedureBodies.{AreBodiesOf, IsBodyOf}
use Rattle.merc_order_laws.proofs.Spelt.{spelt_has_no_switch}
use Rattle.merc_order_laws.proofs.TypedFitting.{typed_fits}
use Rattle.merc_order_laws.proofs.TypesApart.{types_are_told_apart}
use Rattle.merc_program_laws.specs.ProgramBodies.{UnitsAllow}
use Rattle.merc_program_laws.specs.ClauseFaults.{IsAmong}
use Rattle.merc_program_laws.specs.UnitClauses.{IsTable}
use Rattle.merc_program_laws.proofs.FirstFaults.{all_at, among_either}
use Rattle.merc_program_laws.proofs.ListLookups.{KnowsList, knows_list}
use Rattle.merc_program_laws.proofs.UnitClauses.{has_library}
use Rattle.merc_program_laws.proofs.UnitEntries.{flat_mapped, mapped}
use Rattle.merc_program_laws.specs.UnitProcedures.{body_in}
use Rattle.merc_program_laws.proofs.ListModule.{own_unit, predicate_there}
use Rattle.merc_program_laws.proofs.ListOrders.{append_body, append_modes, length_body, length_modes, member_body, member_modes, onto_body, onto_modes, reverse_body, reverse_modes}
use Rattle.merc_program_laws.proofs.UnitBodies.{HoldsOfList, holds_of_units}
use Rattle.merc_program_laws.specs.AllowedUnits.{UnitsAreAllowed}
use Rattle.merc_program_laws.proofs.ListTrees.{cell, nil, append_parts, append_parts-ordered, append_parts_tree, append_whole, append_whole-ordered, append_whole_tree, length-ordered, length_mode, length_tree, member_each, member_each-ordered, member_each_tree, member_test, member_test-ordered, member_test_tree, onto-ordered, onto_mode, onto_tree, reverse-ordered, reverse_mode, reverse_tree, trees_in}
use Rattle.merc_program_laws.proofs.ListCategories.{inferred, list_symbols, append_parts-inferred, append_whole-inferred, length-inferred, member_each-inferred, member_test-inferred, onto-inferred, reverse-inferred}

-- Among the declared types the symbols of lists have each other as fellows.
record KnowsSymbols (declared : List TypeDef) : Type 0 where
  nil_is : fellows declared nil ≡ list_symbols
  cell_is : fellows declared cell ≡ list_symbols

-- The trees of a body in a mode have a category that is allowed, where the symbols fit their types.
abbrev AllowsIn : (ℕ → List ModeDecl) → ℕ → WrittenNode → ModeDecl → Type 0
AllowsIn modes arity goal mode = (declared : List TypeDef) (types : ℕ → TypeExpr) (tree : Node) → KnowsSymbols declared → Fits declared types tree
    → IsProcedure modes arity mode goal tree → allows mode.category (inferred declared types modes mode tree) ≡ true

-- the same in each of its own modes
abbrev IsAllowed : (ℕ → List ModeDecl) → ℕ → List ModeDecl → WrittenNode → Type 0
IsAllowed modes arity own goal = AllByRecursion (AllowsIn modes arity goal) own

-- where it has this tree
by_tree : (modes : ℕ → List ModeDecl) (arity : ℕ) (goal : WrittenNode) (mode : ModeDecl) (computed : Node) → trees_in modes arity mode goal ≡ computed ∷ []
    → ((declared : List TypeDef) (types : ℕ → TypeExpr) → KnowsSymbols declared → Fits declared types computed → inferred declared types modes mode computed ≡ mode.category)
    → allows mode.category mode.category ≡ true → AllowsIn modes arity goal mode
by_tree modes arity goal mode computed trees infers allowed declared types tree knows fits is =
    let whole : tree ∷ [] ≡ computed ∷ [] = ap (λ (t : Node). t ∷ []) is.2 ∙ sym (ap (tree_of modes (numbers_below arity) goal) is.1) ∙ trees in
    let same : tree ≡ computed = cc in
    ap (λ (t : Node). allows mode.category (inferred declared types modes mode t)) same ∙ ap (allows mode.category) (infers declared types knows (subst (Fits declared types) same fits)) ∙ allowed

-- The bodies of the unit `list` are allowed.

module _ (number : ℕ) (modes : ℕ → List ModeDecl) where
  append_allowed : modes number ≡ append_modes → IsAllowed modes 3 append_modes (append_body number)
  append_allowed are = (
    by_tree modes 3 (append_body number) append_whole (append_whole_tree number) (append_whole-ordered number modes are)
        (λ declared types knows fits. append_whole-inferred declared types number modes are (fits.0.0 ∙ knows.nil_is)) refl,
    (
      by_tree modes 3 (append_body number) append_parts (append_parts_tree number) (append_parts-ordered number modes are)
          (λ declared types knows fits. append_parts-inferred declared types number modes are (fits.1.0.0 ∙ knows.cell_is)) refl,
      tt,
    ),
  )

  member_allowed : modes number ≡ member_modes → IsAllowed modes 2 member_modes (member_body number)
  member_allowed are = (
    by_tree modes 2 (member_body number) member_test (member_test_tree number) (member_test-ordered number modes are)
        (λ declared types knows fits. member_test-inferred declared types number modes are (fits.0.0 ∙ knows.cell_is)) refl,
    (
      by_tree modes 2 (member_body number) member_each (member_each_tree number) (member_each-ordered number modes are)
          (λ declared types knows fits. member_each-inferred declared types number modes are (fits.0 ∙ knows.cell_is)) refl,
      tt,
    ),
  )

  length_allowed : modes number ≡ length_modes → IsAllowed modes 2 length_modes (length_body number)
  length_allowed are = (
    by_tree modes 2 (length_body number) length_mode (length_tree number) (length-ordered number modes are)
        (λ declared types knows fits. length-inferred declared types number modes are (fits.0.0 ∙ knows.nil_is)) refl,
    tt,
  )

  reverse_allowed : modes number ≡ onto_modes → IsAllowed modes 2 reverse_modes (reverse_body number)
  reverse_allowed are = (
    by_tree modes 2 (reverse_body number) reverse_mode (reverse_tree number) (reverse-ordered number modes are)
        (λ declared types knows fits. reverse-inferred declared types number modes are) refl,
    tt,
  )

  onto_allowed : modes number ≡ onto_modes → IsAllowed modes 3 onto_modes (onto_body number)
  onto_allowed are = (
    by_tree modes 3 (onto_body number) onto_mode (onto_tree number) (onto-ordered number modes are)
        (λ declared types knows fits. onto-inferred declared types number modes are (fits.0.0 ∙ knows.nil_is)) refl,
    tt,
  )

list_allowed : HoldsOfList IsAllowed
list_allowed = record { append = append_allowed; member = member_allowed; length_of = length_allowed; reverse = reverse_allowed; onto = onto_allowed }

-- A module that has a predicate of a unit has the type `list`.

abbrev KnowsOfUnits : Module → Type 0
KnowsOfUnits known = (declared : PredDecl) (unit : ℕ) → IsAmong declared known.preds → declared.unit ≡ Some unit → KnowsSymbols known.types

module _ (behind : List (List ℕ)) (terms : List Term) (faultless : HasNoFault (fixed_names ++ behind) terms (entries library_items terms)) where
  abbrev all : List Entry
  all = entries library_items terms

  abbrev found : Module
  found = module_of (fixed_names ++ behind) terms all

  knows_symbols : KnowsList found → KnowsSymbols found.types
  knows_symbols knows = record {
    nil_is = ap (option_map (λ (one : TypeDef × Constructor). map symbol_of one.0.constructors)) knows.nil_is;
    cell_is = ap (option_map (λ (one : TypeDef × Constructor). map symbol_of one.0.constructors)) knows.cons_is;
  }

  of_unit : (declared : PredDecl) → IsAmong declared (flat_map (pred_decls (fixed_names ++ behind) (unit_items all)) (unit_items all)) → KnowsSymbols found.types
  of_unit declared among =
      let there = predicate_there (fixed_names ++ behind) terms declared among in
      knows_symbols (knows_list behind terms all there.0 there.1
      (λ at again. faultless doubles_phase DeclaredTwice Plain at (double at (constructor_again at again)))
      (λ at again. faultless doubles_phase DeclaredTwice Plain at (double at (predicate_again at again))))

  knows_of_units : KnowsOfUnits found
  knows_of_units declared unit among is =
      elim (among_either declared (flat_map (pred_decls (fixed_names ++ behind) (own_entries all)) (own_entries all)) (flat_map (pred_decls (fixed_names ++ behind) (unit_items all)) (unit_items all)) among)
      as (λ _. KnowsSymbols found.types) [
        | inl own ↦ absurd (let wrong : Some unit ≡ None = sym is ∙ own_unit (fixed_names ++ behind) all declared own in cc)
        | inr there ↦ of_unit declared there
      ]

knows_units : (before after : List (List ℕ)) (text : List ℕ) (terms : List Term) (found : Module) → IsTable before → IsModule before after text terms found → KnowsOfUnits found
knows_units before after text terms found table is =
    let library = has_library before after text terms found table is in
    let items_are : library_items ≡ is.is.items = fun_ext library.items_are in
    let faultless = subst (λ (items : ℕ → List Term). HasNoFault after terms (entries items terms)) (sym items_are) is.is.faultless in
    let there = knows_of_units library.behind terms (subst (λ (names : List (List ℕ)). HasNoFault names terms (entries library_items terms)) library.front faultless) in
    let over = subst (λ (names : List (List ℕ)). KnowsOfUnits (module_of names terms (entries library_items terms))) (sym library.front) there in
    let whole = subst (λ (items : ℕ → List Term). KnowsOfUnits (module_of after terms (entries items terms))) items_are over in
    subst KnowsOfUnits (sym is.is.same) whole

-- the procedures of predicates, each a predicate in one of its modes
procedure_among : (procedure : Procedure) (predicates : List PredDecl) → IsAmong procedure (procedures_of predicates) → IsAmong procedure.predicate predicates × IsAmong procedure.mode procedure.predicate.modes
procedure_among procedure predicates among =
    let from = flat_mapped (λ (declared : PredDecl). with_modes declared declared.modes) procedure predicates among in
    let one = mapped (λ (mode : ModeDecl). record { predicate = from.from; mode = mode }) procedure from.from.modes from.inside in
    subst (λ (p : Procedure). IsAmong p.predicate predicates × IsAmong p.mode p.predicate.modes) (sym one.same) (from.among, one.among)

-- Given are the texts of names and a module.
module _ (names : List (List ℕ)) (known : Module) where
  abbrev IsAllowedBody : Procedure → Body → Type 0
  IsAllowedBody procedure body = allows procedure.mode.category (inferred known.types body.types (modes_of known.preds) procedure.mode body.tree) ≡ true

  allow_all : (procedures : List Procedure) (bodies : List Body)
      → ((procedure : Procedure) → IsAmong procedure procedures → is_some procedure.predicate.unit ≡ true → (body : Body) → IsBodyOf known (clause_node names known) procedure body → IsAllowedBody procedure body)
      → AreBodiesOf known (clause_node names known) procedures bodies → UnitsAllow known procedures bodies
  allow_all [] bodies allowed are = tt
  allow_all (procedure ∷ procedures) [] allowed are = tt
  allow_all (procedure ∷ procedures) (body ∷ bodies) allowed are =
      (λ unit. allowed procedure (inl refl) unit body are.0, allow_all procedures bodies (λ other among. allowed other (inr among)) are.1)

unit_of : (unit : Option ℕ) → is_some unit ≡ true → (own : ℕ) × (unit ≡ Some own)
unit_of None is = absurd cc
unit_of (Some own) is = (own, refl)

pub units_allowed : UnitsAreAllowed
units_allowed before after text terms found bodies fixed distinct is are = allow_all after found (procedures_of found.preds) bodies allowed are
  where
    table : IsTable before
    table = record { fixed = fixed; distinct = distinct }

    allowed : (procedure : Procedure) → IsAmong procedure (procedures_of found.preds) → is_some procedure.predicate.unit ≡ true → (body : Body) → IsBodyOf found (clause_node after found) procedure body
        → IsAllowedBody after found procedure body
    allowed procedure among some body has =
        let inside = procedure_among procedure found.preds among in
        let unit = unit_of procedure.predicate.unit some in
        let knows = knows_units before after text terms found table is procedure.predicate unit.0 inside.0 unit.1 in
        let holds = holds_of_units IsAllowed list_allowed before after text terms found table is procedure.predicate unit.0 inside.0 unit.1 in
        let apart = types_are_told_apart before after text terms found fixed distinct is in
        let tree = has.tree in
        let none = subst HasNoSwitch (sym tree.2) (spelt_has_no_switch (modes_of found.preds) _ tree.0) in
        all_at (AllowsIn (modes_of found.preds) (length procedure.predicate.args) (body_in after found procedure.predicate)) procedure.mode procedure.predicate.modes holds inside.1
        found.types body.types body.tree knows (typed_fits found body.types body.tree apart none has.typed) has.tree
