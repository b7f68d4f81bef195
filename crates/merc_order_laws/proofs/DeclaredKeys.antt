-- What the items of a module declare has the keys that it is declared by.
use Rattle.std.proofs.Common.{◌≡◌, ℕ, suc, Bool, true, false, ◌==◌, List, [], ◌∷◌, ◌++◌, length, map, flat_map, slice_get, Option, Some, if◌then◌else◌, refl, ap, ap₂, sym, subst, ◌∙◌, append_assoc}
use Rattle.std.proofs.lemmas.List.{length-map, map-append}
use Rattle.std.specs.List.{AllByRecursion, IsDistinct, list_all}
use Rattle.std.specs.Str.{bytes_eq}
use Rattle.merc_base.specs.Names.{bool_name, list_name, maybe_name, HoldsFixed}
use Rattle.merc_base.specs.declared.groups.Key.{Key}
use Rattle.merc_base.specs.declared.place.Place.{Place}
use Rattle.merc_base.specs.declared.place.Span.{Span}
use Rattle.merc_base.specs.declared.refusal.Rule.TheVariants.{WrongForm}
use Rattle.merc_base.specs.declared.refusal.Detail.TheVariants.{Plain}
use Rattle.merc_base.proofs.NameLaws.{slice_get-front}
use Rattle.merc_tree.specs.Term.{Term, Variable, Integer, Text, Application}
use Rattle.merc_tree.specs.Shape.{arguments_of}
use Rattle.merc_tree.specs.declared.declarations.PredDecl.{PredDecl}
use Rattle.merc_tree.specs.declared.declarations.Module.{Module}
use Rattle.merc_terms.proofs.TextLaws.{ReadsItems-distinct, ReadsItems-grows}
use Rattle.merc_item_forms.specs.FormFaults.{is_nil, own_name, wrong}
use Rattle.merc_item_forms.specs.Forms.{argument_type, is_application, is_in, is_variable, no_name, parameters as parameters_fault, predicate_head, IsWrong, type_head}
use Rattle.merc_item_forms.specs.Items.{Item, Opening, Ending, Section, Import, TypeItem, PredicateItem, ModeItem, ClauseItem, OtherType, OtherFunction, OtherGrammar, OtherDeclaration, Formless, item_of, place_of}
use Rattle.merc_entries.specs.Entries.{Entry, entries, entries_from, imports, is_own, key, own_entries, predicates_of, types_of, unit_entries, with_units}
use Rattle.merc_entries.specs.Joining.{unit_entry}
use Rattle.merc_entries.specs.LibraryItems.{bool_items, library_items, list_items, maybe_items}
use Rattle.merc_entries.proofs.LibraryReads.{units_are-library}
use Rattle.merc_items.specs.ModuleOf.{declared_type, parameters, pred_decls, pred_decls_of, type_defs, type_defs_of, unit_items}
use Rattle.merc_items.specs.Phases.{form, forms_phase, HasNoFault}
use Rattle.merc_items.specs.ReadModule.{IsModule}
use Rattle.merc_order_laws.proofs.ApartKeys.{key_of_type}
use Rattle.merc_order_laws.proofs.MovedKeys.{keys_in}

abbrev pub key_of_predicate : PredDecl → Key
key_of_predicate declared = key declared.name (length declared.args)

is_true : (b : Bool) → (b ≡ false → ⊥) → b ≡ true
is_true true never = refl
is_true false never = absurd (never refl)

-- Given is the table of names.
module _ (names : List (List ℕ)) where
  -- an item's type and its predicate have the keys that the item declares

  abbrev TypesFit : Item → Type 0
  TypesFit item = (unit : Option ℕ) → map key_of_type (type_defs_of names unit item) ≡ types_of item

  abbrev PredicatesFit : Item → Type 0
  PredicatesFit item = (those : List Entry) (unit : Option ℕ) (span : Span) → map key_of_predicate (pred_decls_of names those unit span item) ≡ predicates_of item

  abbrev FitsItem : Item → Type 0
  FitsItem item = TypesFit item × PredicatesFit item

  abbrev FitsTerm : Term → Type 0
  FitsTerm term = FitsItem (item_of term)

  abbrev pub FitsEntry : Entry → Type 0
  FitsEntry entry = FitsItem entry.item

  parameters_length : (arguments : List Term) → list_all is_variable arguments ≡ true → length (parameters names arguments) ≡ length arguments
  parameters_length [] all = refl
  parameters_length (Variable name span ∷ rest) all = ap suc (parameters_length rest all)
  parameters_length (Integer value span ∷ rest) all = absurd cc
  parameters_length (Text name span ∷ rest) all = absurd cc
  parameters_length (Application name qualifier arguments span ∷ rest) all = absurd cc

  type_fits : (head : Term) (constructors : List Term) → is_application head ≡ true → list_all is_variable (arguments_of head) ≡ true → TypesFit (TypeItem head constructors)
  type_fits (Application name qualifier arguments span) constructors is all unit =
      ap (λ (n : ℕ). key name n ∷ []) (parameters_length (arguments_of (Application name qualifier arguments span)) all)
  type_fits (Variable name span) constructors is all unit = absurd cc
  type_fits (Integer value span) constructors is all unit = absurd cc
  type_fits (Text name span) constructors is all unit = absurd cc

  arguments_length : (head : Term) → length (map (λ argument. declared_type names (argument_type argument)) (arguments_of head)) ≡ length (arguments_of head)
  arguments_length head = length-map (arguments_of head) (λ argument. declared_type names (argument_type argument))

  predicate_fits : (own : ℕ) (first last : Bool) (head : Term) (category : Option Term) → (IsWrong names own first last (PredicateItem head category) → ⊥) → PredicatesFit (PredicateItem head category)
  predicate_fits own first last (Application name qualifier arguments span) category right those unit span' =
      ap (λ (n : ℕ). key name n ∷ []) (arguments_length (Application name qualifier arguments span))
  predicate_fits own first last (Variable name span) category right those unit span' = absurd (right (predicate_head first last (Variable name span) category refl))
  predicate_fits own first last (Integer value span) category right those unit span' = absurd (right (predicate_head first last (Integer value span) category refl))
  predicate_fits own first last (Text text span) category right those unit span' = absurd (right (predicate_head first last (Text text span) category refl))

  item_fits : (own : ℕ) (first last : Bool) (item : Item) → (IsWrong names own first last item → ⊥) → FitsItem item
  item_fits own first last (TypeItem head constructors) right = (
    type_fits head constructors
        (is_true (is_application head) (λ is. right (type_head first last head constructors (no_name is))))
        (is_true (list_all is_variable (arguments_of head)) (λ is. right (type_head first last head constructors (parameters_fault is)))),
    λ those unit span. refl,
  )
  item_fits own first last (PredicateItem head category) right = (λ unit. refl, predicate_fits own first last head category right)
  item_fits own first last (Opening name) right = (λ unit. refl, λ those unit span. refl)
  item_fits own first last (Ending name) right = (λ unit. refl, λ those unit span. refl)
  item_fits own first last Section right = (λ unit. refl, λ those unit span. refl)
  item_fits own first last (Import units) right = (λ unit. refl, λ those unit span. refl)
  item_fits own first last (ModeItem head category) right = (λ unit. refl, λ those unit span. refl)
  item_fits own first last (ClauseItem head body) right = (λ unit. refl, λ those unit span. refl)
  item_fits own first last (OtherType head) right = (λ unit. refl, λ those unit span. refl)
  item_fits own first last OtherFunction right = (λ unit. refl, λ those unit span. refl)
  item_fits own first last OtherGrammar right = (λ unit. refl, λ those unit span. refl)
  item_fits own first last OtherDeclaration right = (λ unit. refl, λ those unit span. refl)
  item_fits own first last Formless right = (λ unit. refl, λ those unit span. refl)

  own_fit : (terms : List Term) (all : List Entry) → HasNoFault names terms all → (front rest : List Term) → terms ≡ front ++ rest → AllByRecursion FitsTerm rest
  own_fit terms all faultless front [] same = tt
  own_fit terms all faultless front (term ∷ rest) same = (
    item_fits (own_name terms) (is_nil front) (is_nil rest) (item_of term)
        (λ is. faultless forms_phase WrongForm Plain (place_of term) (form WrongForm Plain (place_of term) (wrong front rest term same is))),
    own_fit terms all faultless (front ++ term ∷ []) rest (same ∙ sym (append_assoc front (term ∷ []) rest)),
  )

  list_fit : AllByRecursion FitsTerm list_items
  unfolding list_items
  list_fit = (fits, (fits, (fits, (fits, (fits, (fits, (fits, (fits, (fits, (fits, (fits, (fits, (fits, (fits, (fits, (fits, (fits, (fits, (fits, tt)))))))))))))))))))
    where
      fits : {A B : Type 0} {one : A} {other : B} → ((unit : Option ℕ) → one ≡ one) × ((those : List Entry) (unit : Option ℕ) (span : Span) → other ≡ other)
      fits = (λ unit. refl, λ those unit span. refl)

  bool_fit : AllByRecursion FitsTerm bool_items
  unfolding bool_items
  bool_fit = ((λ unit. refl, λ those unit span. refl), tt)

  maybe_fit : AllByRecursion FitsTerm maybe_items
  unfolding maybe_items
  maybe_fit = ((λ unit. refl, λ those unit span. refl), tt)

  library_fit : (unit : ℕ) → AllByRecursion FitsTerm (library_items unit)
  library_fit unit = at_list (unit == list_name)
    where
      at_maybe : (b : Bool) → AllByRecursion FitsTerm (if b then maybe_items else [])
      at_maybe true = maybe_fit
      at_maybe false = tt

      at_bool : (b : Bool) → AllByRecursion FitsTerm (if b then bool_items else if unit == maybe_name then maybe_items else [])
      at_bool true = bool_fit
      at_bool false = at_maybe (unit == maybe_name)

      at_list : (b : Bool) → AllByRecursion FitsTerm (if b then list_items else if unit == bool_name then bool_items else if unit == maybe_name then maybe_items else [])
      at_list true = list_fit
      at_list false = at_bool (unit == bool_name)

  -- Given are the items of each unit, of which each fits.
  module _ (items : ℕ → List Term) (units_fit : (unit : ℕ) → AllByRecursion FitsTerm (items unit)) where
    terms_fit : (place : Place) (unit : ℕ) (terms : List Term) (behind : List Entry) → AllByRecursion FitsTerm terms → AllByRecursion FitsEntry behind
        → AllByRecursion FitsEntry (map (unit_entry place unit) terms ++ behind)
    terms_fit place unit [] behind fit others = others
    terms_fit place unit (term ∷ rest) behind fit others = (fit.0, terms_fit place unit rest behind fit.1 others)

    unit_entries_fit : (place : Place) (seen units : List ℕ) (behind : List Entry) → AllByRecursion FitsEntry behind → AllByRecursion FitsEntry (unit_entries items place seen units ++ behind)
    unit_entries_fit place seen [] behind others = others
    unit_entries_fit place seen (unit ∷ rest) behind others =
        by (is_in unit seen) (unit_entries_fit place seen rest behind others) (unit_entries_fit place (seen ++ unit ∷ []) rest behind others)
      where
        by : (b : Bool) → AllByRecursion FitsEntry (unit_entries items place seen rest ++ behind) → AllByRecursion FitsEntry (unit_entries items place (seen ++ unit ∷ []) rest ++ behind)
            → AllByRecursion FitsEntry ((if b then unit_entries items place seen rest else map (unit_entry place unit) (items unit) ++ unit_entries items place (seen ++ unit ∷ []) rest) ++ behind)
        by true known new = known
        by false known new =
            subst (AllByRecursion FitsEntry) (sym (append_assoc (map (unit_entry place unit) (items unit)) (unit_entries items place (seen ++ unit ∷ []) rest) behind))
            (terms_fit place unit (items unit) (unit_entries items place (seen ++ unit ∷ []) rest ++ behind) (units_fit unit) new)

    entries_fit : (seen : List ℕ) (terms : List Term) → AllByRecursion FitsTerm terms → AllByRecursion FitsEntry (entries_from items seen terms)
    entries_fit seen [] fit = tt
    entries_fit seen (term ∷ rest) fit = (
      fit.0,
      unit_entries_fit (place_of term) seen (imports (item_of term)) (entries_from items (with_units seen (imports (item_of term))) rest)
          (entries_fit (with_units seen (imports (item_of term))) rest fit.1),
    )

  -- so the entries of the file do, and those of units

  own_entries_fit : (all : List Entry) → AllByRecursion FitsEntry all → AllByRecursion FitsEntry (own_entries all)
  own_entries_fit [] fit = tt
  own_entries_fit (first ∷ rest) fit = by (is_own first) (own_entries_fit rest fit.1)
    where
      by : (b : Bool) → AllByRecursion FitsEntry (own_entries rest) → AllByRecursion FitsEntry (if b then first ∷ own_entries rest else own_entries rest)
      by true others = (fit.0, others)
      by false others = others

  unit_items_fit : (all : List Entry) → AllByRecursion FitsEntry all → AllByRecursion FitsEntry (unit_items all)
  unit_items_fit [] fit = tt
  unit_items_fit (first ∷ rest) fit = by (is_own first) (unit_items_fit rest fit.1)
    where
      by : (b : Bool) → AllByRecursion FitsEntry (unit_items rest) → AllByRecursion FitsEntry (if b then unit_items rest else first ∷ unit_items rest)
      by true others = others
      by false others = (fit.0, others)

  -- the keys of all types and predicates of entries

  pub type_keys : (all : List Entry) → AllByRecursion FitsEntry all → map key_of_type (flat_map (type_defs names) all) ≡ keys_in types_of all
  type_keys [] fit = refl
  type_keys (first ∷ rest) fit =
      map-append key_of_type (type_defs names first) (flat_map (type_defs names) rest)
      ∙ ap₂ (λ (some others : List Key). some ++ others) (fit.0.0 first.unit) (type_keys rest fit.1)

  pub predicate_keys : (those all : List Entry) → AllByRecursion FitsEntry all → map key_of_predicate (flat_map (pred_decls names those) all) ≡ keys_in predicates_of all
  predicate_keys those [] fit = refl
  predicate_keys those (first ∷ rest) fit =
      map-append key_of_predicate (pred_decls names those first) (flat_map (pred_decls names those) rest)
      ∙ ap₂ (λ (some others : List Key). some ++ others) (fit.0.1 those first.unit first.span) (predicate_keys those rest fit.1)

-- the entries of a module that a text is
pub record FitEntries (names : List (List ℕ)) (all : List Entry) : Type 0 where
  pub own : AllByRecursion (FitsEntry names) (own_entries all)
  pub units : AllByRecursion (FitsEntry names) (unit_items all)

pub module_entries_fit : (before after : List (List ℕ)) (text : List ℕ) (terms : List Term) (found : Module) → HoldsFixed before → IsDistinct bytes_eq before
    → (is : IsModule before after text terms found) → FitEntries after (entries is.is.items terms)
module_entries_fit before after text terms found fixed distinct is =
    let grown = ReadsItems-grows before is.read_names text terms is.reads in
    let read_fixed : HoldsFixed is.read_names = record {
      text = λ number kept there. subst (λ (names : List (List ℕ)). slice_get names number ≡ Some kept) (sym grown.1) (slice_get-front before grown.0 number kept (fixed.text number kept there));
    } in
    let library = units_are-library is.read_names after is.is.items read_fixed (ReadsItems-distinct before text distinct is.read_names terms is.reads) is.is.units in
    let all = entries is.is.items terms in
    let fit = entries_fit after is.is.items (λ unit. subst (AllByRecursion (FitsTerm after)) (library.items_are unit) (library_fit after unit)) [] terms
    (own_fit after terms all is.is.faultless [] terms refl)
    in
    record { own = own_entries_fit after all fit; units = unit_items_fit after all fit }
