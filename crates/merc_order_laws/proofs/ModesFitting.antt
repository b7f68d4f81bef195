-- Each mode of a module's predicates has a place for each argument: it is declared for a predicate of so many.
use Rattle.std.proofs.Common.{◌≡◌, ℕ, suc, Bool, true, false, ◌==◌, ◌&&◌, List, [], ◌∷◌, length, map, flat_map, Option, Some, None, if◌then◌else◌, refl, ap, sym, subst, ◌∙◌, eqb-true}
use Rattle.std.proofs.lemmas.Bool.{and_parts}
use Rattle.std.proofs.lemmas.List.{length-map}
use Rattle.std.specs.List.{AllByRecursion, list_all}
use Rattle.merc_base.specs.declared.place.Span.{Span}
use Rattle.merc_tree.specs.Term.{Term, Variable, Integer, Text, Application, none, more}
use Rattle.merc_tree.specs.Shape.{arguments_of}
use Rattle.merc_tree.specs.declared.declarations.ModeDecl.{ModeDecl}
use Rattle.merc_tree.specs.declared.declarations.Module.{Module}
use Rattle.merc_tree.specs.declared.declarations.PredDecl.{PredDecl}
use Rattle.merc_item_forms.specs.Forms.{argument_mode, argument_type, is_moded}
use Rattle.merc_item_forms.specs.Items.{Item, Opening, Ending, Section, Import, TypeItem, PredicateItem, ModeItem, ClauseItem, OtherType, OtherFunction, OtherGrammar, OtherDeclaration, Formless}
use Rattle.merc_entries.specs.Entries.{Entry, are_keys, has_mode, has_mode_among, entries, key_of, own_entries}
use Rattle.merc_items.specs.ModuleOf.{args_of, declared_type, mode_decl, modes_in, modes_in_item, pred_decls, pred_decls_of, unit_items}
use Rattle.merc_order_laws.specs.TypedTree.{ModesFit}
use Rattle.merc_order_laws.proofs.Written.{all_joined}
use Rattle.merc_order_laws.specs.Existence.{ModuleModesFit}

-- of all that lists are mapped to
all_flat : {A B : Type 0} (P : B → Type 0) (f : A → List B) → ((one : A) → AllByRecursion P (f one)) → (all : List A) → AllByRecursion P (flat_map f all)
all_flat P f each [] = tt
all_flat P f each (first ∷ rest) = all_joined P (f first) (flat_map f rest) (each first) (all_flat P f each rest)

-- the places of a mode

mode_there : (argument : Term) → is_moded argument ≡ true → (mode : Term) × (argument_mode argument ≡ Some mode)
mode_there (Application name None (more first (more second none)) span) is = (second, ap (λ (b : Bool). if b then Some second else None) is)
mode_there (Application name None (more first (more second (more third rest))) span) is = absurd cc
mode_there (Application name None (more first none) span) is = absurd cc
mode_there (Application name None none span) is = absurd cc
mode_there (Application name (Some qualifier) arguments span) is = absurd cc
mode_there (Variable name span) is = absurd cc
mode_there (Integer value span) is = absurd cc
mode_there (Text text span) is = absurd cc

moded_length : (arguments : List Term) → list_all is_moded arguments ≡ true → length (args_of (map argument_mode arguments)) ≡ length arguments
moded_length [] all = refl
moded_length (first ∷ rest) all =
    let parts = and_parts (is_moded first) (list_all is_moded rest) all in
    ap (λ (mode : Option Term). length (args_of (mode ∷ map argument_mode rest))) (mode_there first parts.0).1 ∙ ap suc (moded_length rest parts.1)

with_mode_length : (arguments : List Term) (category : Option Term) → has_mode_among arguments category ≡ true → length (args_of (map argument_mode arguments)) ≡ length arguments
with_mode_length [] category has = refl
with_mode_length (first ∷ rest) category has = moded_length (first ∷ rest) has

mode_length : (arguments : List Term) → length (args_of (map Some arguments)) ≡ length arguments
mode_length [] = refl
mode_length (first ∷ rest) = ap suc (mode_length rest)

same_length : (head other : Term) → are_keys (key_of head) (key_of other) ≡ true → length (arguments_of other) ≡ length (arguments_of head)
same_length (Application name qualifier arguments span) (Application name' qualifier' arguments' span') are =
    let one = Application name qualifier arguments span in
    let other = Application name' qualifier' arguments' span' in
    sym (eqb-true (length (arguments_of one)) (length (arguments_of other)) (and_parts (name == name') (length (arguments_of one) == length (arguments_of other)) are).1)
same_length (Application name qualifier arguments span) (Variable name' span') are = absurd cc
same_length (Application name qualifier arguments span) (Integer value span') are = absurd cc
same_length (Application name qualifier arguments span) (Text text span') are = absurd cc
same_length (Variable name span) other are = absurd cc
same_length (Integer value span) other are = absurd cc
same_length (Text text span) other are = absurd cc

-- Given is a number of arguments.
module _ (count : ℕ) where
  abbrev HasPlaces : ModeDecl → Type 0
  HasPlaces mode = length mode.args ≡ count

  if_fits : (is : Bool) (mode : ModeDecl) → (is ≡ true → HasPlaces mode) → AllByRecursion HasPlaces (if is then mode ∷ [] else [])
  if_fits true mode fits = (fits refl, tt)
  if_fits false mode fits = tt

-- the modes of a predicate with this head
module _ (head : Term) where
  abbrev count : ℕ
  count = length (arguments_of head)

  item_fits : (span : Span) (item : Item) → AllByRecursion (HasPlaces count) (modes_in_item (key_of head) span item)
  item_fits span (PredicateItem other category) =
      if_fits count (are_keys (key_of head) (key_of other) && has_mode other category) (mode_decl (map argument_mode (arguments_of other)) category span)
      (λ is. let parts = and_parts (are_keys (key_of head) (key_of other)) (has_mode other category) is in
      with_mode_length (arguments_of other) category parts.1 ∙ same_length head other parts.0)
  item_fits span (ModeItem other category) =
      if_fits count (are_keys (key_of head) (key_of other)) (mode_decl (map Some (arguments_of other)) category span)
      (λ is. mode_length (arguments_of other) ∙ same_length head other is)
  item_fits span (Opening name) = tt
  item_fits span (Ending name) = tt
  item_fits span Section = tt
  item_fits span (Import units) = tt
  item_fits span (TypeItem other constructors) = tt
  item_fits span (ClauseItem other body) = tt
  item_fits span (OtherType other) = tt
  item_fits span OtherFunction = tt
  item_fits span OtherGrammar = tt
  item_fits span OtherDeclaration = tt
  item_fits span Formless = tt

abbrev HasModes : PredDecl → Type 0
HasModes declared = AllByRecursion (HasPlaces (length declared.args)) declared.modes

-- Given are the table of names, and the entries among which modes are declared.
module _ (names : List (List ℕ)) (those : List Entry) where
  modes_fit : (head : Term) → AllByRecursion (HasPlaces (length (map (λ argument. declared_type names (argument_type argument)) (arguments_of head)))) (flat_map (modes_in (key_of head)) those)
  modes_fit head =
      subst (λ (n : ℕ). AllByRecursion (HasPlaces n) (flat_map (modes_in (key_of head)) those)) (sym (length-map (arguments_of head) (λ argument. declared_type names (argument_type argument))))
      (all_flat (HasPlaces (length (arguments_of head))) (modes_in (key_of head)) (λ entry. item_fits head entry.span entry.item) those)

  declared_fit : (unit : Option ℕ) (span : Span) (item : Item) → AllByRecursion HasModes (pred_decls_of names those unit span item)
  declared_fit unit span (PredicateItem head category) = (modes_fit head, tt)
  declared_fit unit span (Opening name) = tt
  declared_fit unit span (Ending name) = tt
  declared_fit unit span Section = tt
  declared_fit unit span (Import units) = tt
  declared_fit unit span (TypeItem head constructors) = tt
  declared_fit unit span (ModeItem head category) = tt
  declared_fit unit span (ClauseItem head body) = tt
  declared_fit unit span (OtherType head) = tt
  declared_fit unit span OtherFunction = tt
  declared_fit unit span OtherGrammar = tt
  declared_fit unit span OtherDeclaration = tt
  declared_fit unit span Formless = tt

  all_declared_fit : AllByRecursion HasModes (flat_map (pred_decls names those) those)
  all_declared_fit = all_flat HasModes (pred_decls names those) (λ entry. declared_fit entry.unit entry.span entry.item) those

pub module_modes_fit : ModuleModesFit
module_modes_fit before after text terms found is =
    let all = entries is.is.items terms in
    subst (λ (known : Module). ModesFit known.preds) (sym is.is.same)
    (all_joined HasModes (flat_map (pred_decls after (own_entries all)) (own_entries all)) (flat_map (pred_decls after (unit_items all)) (unit_items all))
    (all_declared_fit after (own_entries all)) (all_declared_fit after (unit_items all)))
