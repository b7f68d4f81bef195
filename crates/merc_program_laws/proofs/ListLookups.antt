-- What the names of the unit `list` mean in a module that imports it: its own declarations, since nothing is declared twice.
use Rattle.std.proofs.Common.{◌≡◌, ℕ, inl, inr, ◌==◌, ◌||◌, ◌&&◌, Bool, true, false, List, [], ◌∷◌, ◌++◌, map, length, slice_get, Option, Some, None, refl, sym, ap, subst, ◌∙◌, arith}
use Rattle.std.proofs.Math.Bool.{or-true}
use Rattle.std.proofs.lemmas.Bool.{and_parts}
use Rattle.std.proofs.lemmas.Bool.Decides.{nat_tests}
use Rattle.std.proofs.lemmas.List.{length-map}
use Rattle.std.proofs.lemmas.List.Folds.{find_at, list_any-append}
use Rattle.std.specs.Bool.{if◌then◌else◌}
use Rattle.std.specs.List.{find, flat_map, list_any, position_or_len}
use Rattle.std.specs.Option.{option_map}
use Rattle.merc_base.specs.Names.{append_name, cons_name, division_by_zero_name, fixed_names, length_name, list_name, list_reverse_onto_name, member_name, nil_name, reverse_name, t_name}
use Rattle.merc_base.specs.declared.place.Place.{Place}
use Rattle.merc_base.specs.declared.place.Span.{Span}
use Rattle.merc_tree.specs.Term.{Term, Variable, Integer, Text, Application, no_span, list_of, span_of}
use Rattle.merc_tree.specs.Shape.{arguments_of}
use Rattle.merc_tree.specs.Types.{TypeExpr, TypeVariable, IntType, TypeApplication, no_types, more_types}
use Rattle.merc_tree.specs.declared.declarations.Constructor.{Constructor}
use Rattle.merc_tree.specs.declared.declarations.TypeDef.{TypeDef}
use Rattle.merc_tree.specs.declared.declarations.PredDecl.{PredDecl}
use Rattle.merc_tree.specs.declared.declarations.Module.{Module}
use Rattle.merc_item_forms.specs.Forms.{argument_type}
use Rattle.merc_item_forms.specs.Items.{Item, Opening, Ending, Section, Import, TypeItem, PredicateItem, ModeItem, ClauseItem, OtherType, OtherFunction, OtherGrammar, OtherDeclaration, Formless, item_of}
use Rattle.merc_entries.specs.DoubleFaults.{IsAgain}
use Rattle.merc_entries.specs.Entries.{Entry, constructors_of, declared_by, is_key, key, key_of, own_entries, predicates_of}
use Rattle.merc_entries.specs.LibraryItems.{append_declaration, length_declaration, list_items, list_type, member_declaration, onto_declaration, reverse_declaration}
use Rattle.merc_entries.specs.Joining.{unit_entry}
use Rattle.merc_items.specs.ModuleOf.{constructor_of, declared_type, head_name, modes_in, module_of, pred_decls, pred_decls_of, type_defs, type_defs_of, unit_items}
use Rattle.merc_name_resolution.specs.Known.{constructor_in, has_name, is_constructor, is_predicate}
use Rattle.merc_program_laws.specs.ClauseFaults.{IsAmong}
use Rattle.merc_program_laws.proofs.FirstFaults.{among_either, among_right}
use Rattle.merc_program_laws.proofs.UnitEntries.{flat_among, flat_mapped, own_among, unique, unit_among, unit_there}

-- what is declared

abbrev pub t : TypeExpr
t = TypeVariable t_name

abbrev pub list_of_t : TypeExpr
list_of_t = TypeApplication list_name (more_types t no_types)

abbrev pub nil_constructor : Constructor
nil_constructor = record { name = nil_name; args = [] }

abbrev pub cons_constructor : Constructor
cons_constructor = record { name = cons_name; args = t ∷ list_of_t ∷ [] }

abbrev pub list_declared : TypeDef
list_declared = record { name = list_name; params = t_name ∷ []; constructors = nil_constructor ∷ cons_constructor ∷ []; unit = Some list_name }

-- the number of the first predicate of this name with so many arguments
abbrev pub number_of : Module → ℕ → ℕ → ℕ
number_of known name arity = position_or_len (is_predicate known.name name None arity) known.preds

-- the predicate that a call means, whose arguments have these types
pub record Means (known : Module) (name arity : ℕ) (types : List TypeExpr) : Type 0 where
  pub declared : PredDecl
  pub there : slice_get known.preds (number_of known name arity) ≡ Some declared
  pub types_are : declared.args ≡ types

pub record KnowsList (known : Module) : Type 0 where
  pub nil : is_constructor known nil_name None 0 ≡ true
  pub nil_is : constructor_in known.types nil_name 0 ≡ Some (list_declared, nil_constructor)
  pub cons : is_constructor known cons_name None 2 ≡ true
  pub cons_is : constructor_in known.types cons_name 2 ≡ Some (list_declared, cons_constructor)
  pub append : Means known append_name 3 (list_of_t ∷ list_of_t ∷ list_of_t ∷ [])
  pub member : Means known member_name 2 (t ∷ list_of_t ∷ [])
  pub length_is : Means known length_name 2 (list_of_t ∷ IntType ∷ [])
  pub reverse : Means known reverse_name 2 (list_of_t ∷ list_of_t ∷ [])
  pub onto : Means known list_reverse_onto_name 3 (list_of_t ∷ list_of_t ∷ list_of_t ∷ [])

-- look-ups in lists

any_among : {A : Type 0} (test : A → Bool) (one : A) (all : List A) → IsAmong one all → test one ≡ true → list_any test all ≡ true
any_among test one [] among is = absurd among
any_among test one (first ∷ rest) (inl same) is = ap (λ (b : Bool). b || list_any test rest) (ap test (sym same) ∙ is)
any_among test one (first ∷ rest) (inr among) is = ap (λ (b : Bool). test first || b) (any_among test one rest among is) ∙ or-true (test first)

-- the first that passes a test which one passes alone
first_is : {A : Type 0} (test : A → Bool) (P : A → Type 0) (all : List A) (one : A) → IsAmong one all → test one ≡ true
    → ((other : A) → IsAmong other all → test other ≡ true → P other) → (found : A) × (find test all ≡ Some found) × P found
first_is test P [] one among is only = absurd among
first_is {A} test P (first ∷ rest) one among is only =
    by (test first) refl (λ there. first_is test P rest one there is (λ other among' passes. only other (inr among') passes)) among
  where
    by : (b : Bool) → test first ≡ b → (IsAmong one rest → (found : A) × (find test rest ≡ Some found) × P found) → IsAmong one (first ∷ rest) → (found : A) × ((if b then Some first else find test rest) ≡ Some found) × P found
    by true passes inner there = (first, refl, only first (inl refl) passes)
    by false fails inner (inl same) = absurd (let wrong : true ≡ false = sym is ∙ ap test same ∙ fails in cc)
    by false fails inner (inr there) = inner there

abbrev first_of : ℕ → ℕ → TypeDef → Option (TypeDef × Constructor)
first_of name arity declared = option_map (λ constructor. (declared, constructor)) (find (has_name name arity) declared.constructors)

constructor_is : (name arity : ℕ) (types : List TypeDef) (one : TypeDef) → IsAmong one types → list_any (has_name name arity) one.constructors ≡ true
    → ((other : TypeDef) → IsAmong other types → list_any (has_name name arity) other.constructors ≡ true → other ≡ one)
    → constructor_in types name arity ≡ first_of name arity one
constructor_is name arity [] one among is only = absurd among
constructor_is name arity (first ∷ rest) one among is only =
    by (list_any (has_name name arity) first.constructors) refl
    (λ there. constructor_is name arity rest one there is (λ other among' passes. only other (inr among') passes)) among
  where
    by : (b : Bool) → list_any (has_name name arity) first.constructors ≡ b → (IsAmong one rest → constructor_in rest name arity ≡ first_of name arity one) → IsAmong one (first ∷ rest) → (if b then first_of name arity first else constructor_in rest name arity) ≡ first_of name arity one
    by true passes inner there = ap (first_of name arity) (only first (inl refl) passes)
    by false fails inner (inl same) = absurd (let wrong : true ≡ false = sym is ∙ ap (λ (d : TypeDef). list_any (has_name name arity) d.constructors) same ∙ fails in cc)
    by false fails inner (inr there) = inner there

-- keys of terms

pub swapped : (a b : ℕ) → (a == b) ≡ (b == a)
swapped a b = grind (arith, nat_tests)

key_among : (name arity own other : ℕ) → ((own == name) && (other == arity)) ≡ true → is_key (key name arity) (key own other) ≡ true
key_among name arity own other is =
    let parts = and_parts (own == name) (other == arity) is in
    let names = swapped name own ∙ parts.0 in
    let arities = swapped arity other ∙ parts.1 in
    ap (λ (b : Bool). b && (arity == other)) names ∙ arities

either : (a b c d : Bool) → (a ≡ true → c ≡ true) → (b ≡ true → d ≡ true) → (a || b) ≡ true → (c || d) ≡ true
either true b c d left right is = ap (λ (x : Bool). x || d) (left refl)
either false b c d left right is = ap (λ (x : Bool). c || x) (right is) ∙ or-true c

module _ (names : List (List ℕ)) where
  named_key : (name arity : ℕ) → (division_by_zero_name == name) ≡ false → (term : Term) → has_name name arity (constructor_of names term) ≡ true → list_any (is_key (key name arity)) (key_of term) ≡ true
  named_key name arity other (Application own qualifier arguments span) is =
      let whole : ((own == name) && (length (list_of arguments) == arity)) ≡ true =
      ap (λ (n : ℕ). (own == name) && (n == arity)) (sym (length-map (list_of arguments) (declared_type names))) ∙ is
      in
      ap (λ (b : Bool). b || false) (key_among name arity own (length (list_of arguments)) whole)
  named_key name arity other (Variable own span) is = absurd (let parts = (and_parts (division_by_zero_name == name) (0 == arity) is).0 in cc)
  named_key name arity other (Integer value span) is = absurd (let parts = (and_parts (division_by_zero_name == name) (0 == arity) is).0 in cc)
  named_key name arity other (Text own span) is = absurd (let parts = (and_parts (division_by_zero_name == name) (0 == arity) is).0 in cc)

  named_keys : (name arity : ℕ) → (division_by_zero_name == name) ≡ false → (terms : List Term) → list_any (has_name name arity) (map (constructor_of names) terms) ≡ true
      → list_any (is_key (key name arity)) (flat_map key_of terms) ≡ true
  named_keys name arity other [] is = is
  named_keys name arity other (term ∷ rest) is =
      list_any-append (is_key (key name arity)) (key_of term) (flat_map key_of rest)
      ∙ either (has_name name arity (constructor_of names term)) (list_any (has_name name arity) (map (constructor_of names) rest)) _ _
      (named_key name arity other term) (named_keys name arity other rest) is

  -- a type that has a constructor comes from an entry that declares it
  type_key : (name arity : ℕ) → (division_by_zero_name == name) ≡ false → (unit : Option ℕ) (item : Item) (one : TypeDef) → IsAmong one (type_defs_of names unit item)
      → list_any (has_name name arity) one.constructors ≡ true → list_any (is_key (key name arity)) (constructors_of item) ≡ true
  type_key name arity other unit (TypeItem head constructors) one (inl same) is =
      named_keys name arity other constructors (ap (λ (d : TypeDef). list_any (has_name name arity) d.constructors) (sym same) ∙ is)
  type_key name arity other unit (TypeItem head constructors) one (inr among) is = absurd among
  type_key name arity other unit (Opening own) one among is = absurd among
  type_key name arity other unit (Ending own) one among is = absurd among
  type_key name arity other unit Section one among is = absurd among
  type_key name arity other unit (Import units) one among is = absurd among
  type_key name arity other unit (PredicateItem head category) one among is = absurd among
  type_key name arity other unit (ModeItem head category) one among is = absurd among
  type_key name arity other unit (ClauseItem head body) one among is = absurd among
  type_key name arity other unit (OtherType head) one among is = absurd among
  type_key name arity other unit OtherFunction one among is = absurd among
  type_key name arity other unit OtherGrammar one among is = absurd among
  type_key name arity other unit OtherDeclaration one among is = absurd among
  type_key name arity other unit Formless one among is = absurd among

  head_key : (own name arity : ℕ) → (division_by_zero_name == name) ≡ false → (head : Term) (declared : PredDecl) → declared.name ≡ head_name head → length declared.args ≡ length (arguments_of head)
      → is_predicate own name None arity declared ≡ true → list_any (is_key (key name arity)) (key_of head) ≡ true
  head_key own name arity other head declared named long is = by head named long
    where
      parts : ((declared.name == name) ≡ true) × ((length declared.args == arity) ≡ true)
      parts = and_parts (declared.name == name) (length declared.args == arity) (and_parts ((declared.name == name) && (length declared.args == arity)) true is).0

      by : (head : Term) → declared.name ≡ head_name head → length declared.args ≡ length (arguments_of head) → list_any (is_key (key name arity)) (key_of head) ≡ true
      by (Application found qualifier arguments span) named long =
          let same_name : (found == name) ≡ true = ap (λ (n : ℕ). n == name) (sym named) ∙ parts.0 in
          let same_count : (length (list_of arguments) == arity) ≡ true = ap (λ (n : ℕ). n == arity) (sym long) ∙ parts.1 in
          ap (λ (b : Bool). b || false) (key_among name arity found (length (list_of arguments)) (ap (λ (b : Bool). b && (length (list_of arguments) == arity)) same_name ∙ same_count))
      by (Variable found span) named long = absurd (let wrong : true ≡ false = sym parts.0 ∙ ap (λ (n : ℕ). n == name) named ∙ other in cc)
      by (Integer value span) named long = absurd (let wrong : true ≡ false = sym parts.0 ∙ ap (λ (n : ℕ). n == name) named ∙ other in cc)
      by (Text found span) named long = absurd (let wrong : true ≡ false = sym parts.0 ∙ ap (λ (n : ℕ). n == name) named ∙ other in cc)

  pub predicate_key : (own name arity : ℕ) → (division_by_zero_name == name) ≡ false → (all : List Entry) (unit : Option ℕ) (span : Span) (item : Item) (one : PredDecl)
      → IsAmong one (pred_decls_of names all unit span item) → is_predicate own name None arity one ≡ true → list_any (is_key (key name arity)) (predicates_of item) ≡ true
  predicate_key own name arity other all unit span (PredicateItem head category) one (inl same) is =
      head_key own name arity other head one (ap (λ (d : PredDecl). d.name) same)
      (ap (λ (d : PredDecl). length d.args) same ∙ length-map (arguments_of head) (λ argument. declared_type names (argument_type argument))) is
  predicate_key own name arity other all unit span (PredicateItem head category) one (inr among) is = absurd among
  predicate_key own name arity other all unit span (TypeItem head constructors) one among is = absurd among
  predicate_key own name arity other all unit span (Opening found) one among is = absurd among
  predicate_key own name arity other all unit span (Ending found) one among is = absurd among
  predicate_key own name arity other all unit span Section one among is = absurd among
  predicate_key own name arity other all unit span (Import units) one among is = absurd among
  predicate_key own name arity other all unit span (ModeItem head category) one among is = absurd among
  predicate_key own name arity other all unit span (ClauseItem head body) one among is = absurd among
  predicate_key own name arity other all unit span (OtherType head) one among is = absurd among
  predicate_key own name arity other all unit span OtherFunction one among is = absurd among
  predicate_key own name arity other all unit span OtherGrammar one among is = absurd among
  predicate_key own name arity other all unit span OtherDeclaration one among is = absurd among
  predicate_key own name arity other all unit span Formless one among is = absurd among

-- the head that a declaration has
abbrev head_in : Item → Term
head_in (PredicateItem head category) = head
head_in other = Variable t_name no_span

abbrev category_in : Item → Option Term
category_in (PredicateItem head category) = category
category_in other = None

-- Given are names behind the constants, and entries among which the unit `list` stands, none of which declares again what another does.
module _ (behind : List (List ℕ)) (terms : List Term) (all : List Entry) (place : Place)
    (whole : (term : Term) → IsAmong term list_items → IsAmong (unit_entry place list_name term) all)
    (constructed : (at : Place) → IsAgain is_key (declared_by constructors_of all) at → ⊥)
    (named : (at : Place) → IsAgain is_key (declared_by predicates_of all) at → ⊥) where
  abbrev names : List (List ℕ)
  names = fixed_names ++ behind

  abbrev known : Module
  known = module_of names terms all

  -- the entry of an item of the unit
  abbrev entry_of : Term → Entry
  entry_of term = unit_entry place list_name term

  in_unit : (term : Term) → IsAmong term list_items → IsAmong (entry_of term) (unit_items all)
  in_unit term among = unit_there (entry_of term) all (whole term among) refl

  type_among : IsAmong list_type list_items
  unfolding list_items
  type_among = inl refl

  type_declared : IsAmong list_declared (type_defs names (entry_of list_type))
  unfolding fixed_names
  type_declared = inl refl

  type_there : IsAmong list_declared known.types
  type_there =
      among_right list_declared (flat_map (type_defs names) (own_entries all)) (flat_map (type_defs names) (unit_items all))
      (flat_among (type_defs names) (entry_of list_type) list_declared (unit_items all) (in_unit list_type type_among) type_declared)

  -- where a type of the module comes from
  type_from : (one : TypeDef) → IsAmong one known.types → (entry : Entry) × IsAmong entry all × IsAmong one (type_defs names entry)
  type_from one among =
      elim (among_either one (flat_map (type_defs names) (own_entries all)) (flat_map (type_defs names) (unit_items all)) among)
      as (λ _. (entry : Entry) × IsAmong entry all × IsAmong one (type_defs names entry)) [
        | inl own ↦ (let from = flat_mapped (type_defs names) one (own_entries all) own in (from.from, own_among from.from all from.among, from.inside))
        | inr unit ↦ (let from = flat_mapped (type_defs names) one (unit_items all) unit in (from.from, (unit_among from.from all from.among).0, from.inside))
      ]

  -- it declares one type
  only_declared : (one : TypeDef) → IsAmong one (type_defs names (entry_of list_type)) → one ≡ list_declared
  unfolding fixed_names
  only_declared one (inl same) = same
  only_declared one (inr among) = absurd among

  module _ (name arity : ℕ) (other : (division_by_zero_name == name) ≡ false) (has : list_any (is_key (key name arity)) (constructors_of (item_of list_type)) ≡ true) where
    only_list : (one : TypeDef) → IsAmong one known.types → list_any (has_name name arity) one.constructors ≡ true → one ≡ list_declared
    only_list one among is =
        let from = type_from one among in
        let same = unique constructors_of (key name arity) all constructed from.0 (entry_of list_type) from.1 (whole list_type type_among)
        (type_key names name arity other from.0.unit from.0.item one from.2 is) has
        in
        only_declared one (subst (λ (entry : Entry). IsAmong one (type_defs names entry)) same from.2)

    found_constructor : list_any (has_name name arity) list_declared.constructors ≡ true
        → constructor_in known.types name arity ≡ first_of name arity list_declared
    found_constructor is = constructor_is name arity known.types list_declared type_there is only_list

  constructor_known : (name arity : ℕ) → list_any (has_name name arity) list_declared.constructors ≡ true → is_constructor known name None arity ≡ true
  constructor_known name arity is = any_among (λ (declared : TypeDef). list_any (has_name name arity) declared.constructors) list_declared known.types type_there is

  -- where a predicate of the module comes from
  predicate_from : (one : PredDecl) → IsAmong one known.preds → (entry : Entry) × (those : List Entry) × IsAmong entry all × IsAmong one (pred_decls names those entry)
  predicate_from one among =
      elim (among_either one (flat_map (pred_decls names (own_entries all)) (own_entries all)) (flat_map (pred_decls names (unit_items all)) (unit_items all)) among)
      as (λ _. (entry : Entry) × (those : List Entry) × IsAmong entry all × IsAmong one (pred_decls names those entry)) [
        | inl own ↦ (let from = flat_mapped (pred_decls names (own_entries all)) one (own_entries all) own in (from.from, own_entries all, own_among from.from all from.among, from.inside))
        | inr unit ↦ (let from = flat_mapped (pred_decls names (unit_items all)) one (unit_items all) unit in (from.from, unit_items all, (unit_among from.from all from.among).0, from.inside))
      ]

  -- a declaration of the unit, with its name and what its arguments are
  module _ (term : Term) (among : IsAmong term list_items) (is_item : item_of term ≡ PredicateItem (head_in (item_of term)) (category_in (item_of term)))
      (name arity : ℕ) (other : (division_by_zero_name == name) ≡ false) (has : list_any (is_key (key name arity)) (predicates_of (item_of term)) ≡ true) where
    abbrev head : Term
    head = head_in (item_of term)

    abbrev types : List TypeExpr
    types = map (λ argument. declared_type names (argument_type argument)) (arguments_of head)

    abbrev own_declaration : PredDecl
    own_declaration = record {
      name = head_name head;
      args = types;
      modes = flat_map (modes_in (key_of head)) (unit_items all);
      span = span_of term;
      unit = Some list_name;
    }

    abbrev declared_in : List Entry → Item → List PredDecl
    declared_in those item = pred_decls_of names those (Some list_name) (span_of term) item

    alone : (those : List Entry) (item : Item) → item ≡ PredicateItem head (category_in (item_of term)) → (one : PredDecl) → IsAmong one (declared_in those item) → one.args ≡ types
    alone those item is one among' = by (subst (λ (i : Item). IsAmong one (declared_in those i)) is among')
      where
        by : IsAmong one (declared_in those (PredicateItem head (category_in (item_of term)))) → one.args ≡ types
        by (inl same) = ap (λ (d : PredDecl). d.args) same
        by (inr none) = absurd none

    only_predicate : (one : PredDecl) → IsAmong one known.preds → is_predicate known.name name None arity one ≡ true → one.args ≡ types
    only_predicate one among' is =
        let from = predicate_from one among' in
        let same = unique predicates_of (key name arity) all named from.0 (entry_of term) from.2 (whole term among)
        (predicate_key names known.name name arity other from.1 from.0.unit from.0.span from.0.item one from.3 is) has
        in
        alone from.1 (item_of term) is_item one (subst (λ (entry : Entry). IsAmong one (pred_decls names from.1 entry)) same from.3)

    -- the declaration itself
    record IsThere : Type 0 where
      one : PredDecl
      inside : IsAmong one known.preds
      name_is : one.name ≡ head_name head
      types_are : one.args ≡ types

    declaration : IsThere
    declaration = record {
      one = own_declaration;
      inside = among_right own_declaration (flat_map (pred_decls names (own_entries all)) (own_entries all)) (flat_map (pred_decls names (unit_items all)) (unit_items all))
          (flat_among (pred_decls names (unit_items all)) (entry_of term) own_declaration (unit_items all) (in_unit term among)
          (subst (λ (i : Item). IsAmong own_declaration (declared_in (unit_items all) i)) (sym is_item) (inl refl)));
      name_is = refl;
      types_are = refl;
    }

    means : (head_name head == name) ≡ true → (length types == arity) ≡ true → Means known name arity types
    means named' long =
        let passes : is_predicate known.name name None arity declaration.one ≡ true =
        ap (λ (n : ℕ). ((n == name) && (length declaration.one.args == arity)) && true) declaration.name_is
        ∙ ap (λ (l : List TypeExpr). ((head_name head == name) && (length l == arity)) && true) declaration.types_are
        ∙ ap (λ (b : Bool). (b && (length types == arity)) && true) named' ∙ ap (λ (b : Bool). b && true) long
        in
        let found = first_is (is_predicate known.name name None arity) (λ one. one.args ≡ types) known.preds declaration.one declaration.inside passes only_predicate in
        record { declared = found.0; there = sym (find_at (is_predicate known.name name None arity) known.preds) ∙ found.1; types_are = found.2 }

  -- The module knows what the unit declares.
  pub knows_list : KnowsList known
  unfolding fixed_names list_items
  knows_list = record {
    nil = constructor_known nil_name 0 refl;
    nil_is = found_constructor nil_name 0 refl refl refl;
    cons = constructor_known cons_name 2 refl;
    cons_is = found_constructor cons_name 2 refl refl refl;
    append = means append_declaration (inr (inl refl)) refl append_name 3 refl refl refl refl;
    member = means member_declaration (inr (inr (inr (inr (inr (inr (inl refl))))))) refl member_name 2 refl refl refl refl;
    length_is = means length_declaration (inr (inr (inr (inr (inr (inr (inr (inr (inr (inr (inr (inl refl)))))))))))) refl length_name 2 refl refl refl refl;
    reverse = means reverse_declaration (inr (inr (inr (inr (inr (inr (inr (inr (inr (inr (inr (inr (inr (inr (inl refl))))))))))))))) refl reverse_name 2 refl refl refl refl;
    onto = means onto_declaration (inr (inr (inr (inr (inr (inr (inr (inr (inr (inr (inr (inr (inr (inr (inr (inr (inl refl))))))))))))))))) refl list_reverse_onto_name 3 refl refl refl refl;
  }
