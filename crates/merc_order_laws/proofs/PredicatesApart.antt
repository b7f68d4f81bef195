-- A call of a declared predicate's name and number of arguments is of that predicate.
use Rattle.std.proofs.Common.{◌≡◌, ℕ, suc, ◌+◌, Bool, true, false, ◌==◌, ◌&&◌, ◌||◌, not, cond, List, [], ◌∷◌, ◌++◌, length, map, flat_map, slice_get, Some, None, if◌then◌else◌, refl, ap, ap₂, sym, subst, ◌∙◌, append_assoc, arith}
use Rattle.std.proofs.lemmas.List.{map-append}
use Rattle.std.proofs.lemmas.List.Folds.{list_any-append}
use Rattle.std.specs.List.{AllByRecursion, IsDistinct, list_any, position_or_len}
use Rattle.std.specs.Str.{bytes_eq}
use Rattle.merc_base.specs.Names.{error_name, require_name, HoldsFixed}
use Rattle.merc_base.specs.declared.groups.Key.{Key}
use Rattle.merc_base.specs.declared.place.Place.{Place}
use Rattle.merc_base.specs.declared.refusal.Rule.TheVariants.{DeclaredTwice}
use Rattle.merc_base.specs.declared.refusal.Detail.TheVariants.{Plain}
use Rattle.merc_tree.specs.Term.{Term}
use Rattle.merc_tree.specs.declared.declarations.PredDecl.{PredDecl}
use Rattle.merc_tree.specs.declared.declarations.Module.{Module}
use Rattle.merc_item_forms.specs.Forms.{is_in}
use Rattle.merc_item_forms.specs.Items.{item_of, place_of}
use Rattle.merc_entries.specs.DoubleFaults.{HasDouble, error_again, import_place, later, predicate_again}
use Rattle.merc_entries.specs.Entries.{Entry, declared_by, entries, entries_from, imports, is_key, key, own_entries, predicates_of, unit_entries, units_of, with_units}
use Rattle.merc_name_resolution.specs.Known.{callee_in, is_error, is_predicate}
use Rattle.merc_items.specs.ModuleOf.{module_of, pred_decls, unit_items}
use Rattle.merc_items.specs.Phases.{double, doubles_phase}
use Rattle.merc_items.specs.ReadModule.{IsModule}
use Rattle.merc_name_resolution.specs.declared.callee.Callee.TheVariants.{Predicate, Error}
use Rattle.merc_type_check.specs.Checked.{head_types}
use Rattle.merc_order_laws.specs.HeadTypes.{called_arguments}
use Rattle.merc_order_laws.proofs.ApartKeys.{AreKeysApart, key_self, keys_apart}
use Rattle.merc_order_laws.proofs.DeclaredKeys.{key_of_predicate, module_entries_fit, predicate_keys}
use Rattle.merc_order_laws.proofs.MovedKeys.{equal_turned, key_turned, keys_are, keys_in, neither, parted_any, parted_apart}

-- The first predicate that passes is found.

found_here : (test : PredDecl → Bool) (first : PredDecl) (rest : List PredDecl) → test first ≡ true → slice_get (first ∷ rest) (position_or_len test (first ∷ rest)) ≡ Some first
found_here test first rest is = ap (λ (b : Bool). slice_get (first ∷ rest) (cond (not b) (1 + position_or_len test rest) 0)) is

found_behind : (test : PredDecl → Bool) (first : PredDecl) (rest : List PredDecl) → test first ≡ false
    → slice_get (first ∷ rest) (position_or_len test (first ∷ rest)) ≡ slice_get rest (position_or_len test rest)
found_behind test first rest other =
    let next : 1 + position_or_len test rest ≡ suc (position_or_len test rest) = omega arith in
    ap (λ (b : Bool). slice_get (first ∷ rest) (cond (not b) (1 + position_or_len test rest) 0)) other ∙ ap (slice_get (first ∷ rest)) next

-- whether a predicate has the key of this one
module _ (own : ℕ) where
  abbrev means : PredDecl → PredDecl → Bool
  means declared other = is_predicate own declared.name None (length declared.args) other

  abbrev IsFound : List PredDecl → PredDecl → Type 0
  IsFound all declared = slice_get all (position_or_len (means declared) all) ≡ Some declared

  and_true : (b : Bool) → (b && true) ≡ b
  and_true true = refl
  and_true false = refl

  means_same : (declared other : PredDecl) → means declared other ≡ is_key (key_of_predicate other) (key_of_predicate declared)
  means_same declared other = and_true (is_key (key_of_predicate other) (key_of_predicate declared))

  behind_first : (first : PredDecl) (rest some : List PredDecl) → list_any (λ other. is_key other (key_of_predicate first)) (map key_of_predicate some) ≡ false
      → AllByRecursion (IsFound rest) some → AllByRecursion (IsFound (first ∷ rest)) some
  behind_first first rest [] none all = tt
  behind_first first rest (declared ∷ some) none all =
      let one = key_of_predicate first in
      let parts = neither (is_key (key_of_predicate declared) one) (list_any (λ other. is_key other one) (map key_of_predicate some)) none in (
        found_behind (means declared) first rest (means_same declared first ∙ key_turned one (key_of_predicate declared) ∙ parts.0) ∙ all.0,
        behind_first first rest some parts.1 all.1,
      )

  all_found : (all : List PredDecl) → AreKeysApart (map key_of_predicate all) → AllByRecursion (IsFound all) all
  all_found [] apart = tt
  all_found (first ∷ rest) apart = (
    found_here (means first) first rest (means_same first first ∙ key_self (key_of_predicate first)),
    behind_first first rest rest apart.0 (all_found rest apart.1),
  )

-- Where units are imported, the first import has a place.

-- `require` is imported
abbrev IsImported : List Entry → Type 0
IsImported all = (place : Place) × (import_place require_name all ≡ Some place)

imported_behind : (some all : List Entry) → IsImported all → IsImported (some ++ all)
imported_behind [] all imported = imported
imported_behind (first ∷ rest) all imported = by (is_in require_name (imports first.item)) (imported_behind rest all imported)
  where
    by : (b : Bool) → IsImported (rest ++ all) → (place : Place) × ((if b then Some first.place else import_place require_name (rest ++ all)) ≡ Some place)
    by true inner = (first.place, refl)
    by false inner = inner

imported_in : (items : ℕ → List Term) (seen : List ℕ) (terms : List Term) → list_any (λ unit. require_name == unit) (flat_map (λ term. imports (item_of term)) terms) ≡ true
    → IsImported (entries_from items seen terms)
imported_in items seen [] is = absurd cc
imported_in items seen (term ∷ rest) is =
    by (is_in require_name (imports (item_of term))) (sym (list_any-append (λ unit. require_name == unit) (imports (item_of term)) (flat_map (λ term. imports (item_of term)) rest)) ∙ is)
    (imported_in items (with_units seen (imports (item_of term))) rest)
  where
    by : (b : Bool) → (b || list_any (λ unit. require_name == unit) (flat_map (λ term. imports (item_of term)) rest)) ≡ true
        → (list_any (λ unit. require_name == unit) (flat_map (λ term. imports (item_of term)) rest) ≡ true → IsImported (entries_from items (with_units seen (imports (item_of term))) rest))
        → (place : Place) × ((if b then Some (place_of term) else import_place require_name (unit_entries items (place_of term) seen (imports (item_of term)) ++ entries_from items (with_units seen (imports (item_of term))) rest)) ≡ Some place)
    by true is' inner = (place_of term, refl)
    by false is' inner =
        imported_behind (unit_entries items (place_of term) seen (imports (item_of term))) (entries_from items (with_units seen (imports (item_of term))) rest) (inner is')

weaker : (a b c : Bool) → (a || c) ≡ true → (a || (b || c)) ≡ true
weaker true b c is = refl
weaker false true c is = refl
weaker false false c is = is

regrouped : (a b c : Bool) → ((a || (b || false)) || c) ≡ true → (a || (b || c)) ≡ true
regrouped true b c is = refl
regrouped false true c is = refl
regrouped false false c is = is

any_units : (test : ℕ → Bool) (seen units : List ℕ) → list_any test (with_units seen units) ≡ true → (list_any test seen || list_any test units) ≡ true
any_units test seen [] is = ap (λ (b : Bool). b || false) is
any_units test seen (unit ∷ rest) is = by (is_in unit seen) (any_units test seen rest) (any_units test (seen ++ unit ∷ []) rest) is
  where
    by : (b : Bool) → (list_any test (with_units seen rest) ≡ true → (list_any test seen || list_any test rest) ≡ true)
        → (list_any test (with_units (seen ++ unit ∷ []) rest) ≡ true → (list_any test (seen ++ unit ∷ []) || list_any test rest) ≡ true)
        → list_any test (if b then with_units seen rest else with_units (seen ++ unit ∷ []) rest) ≡ true → (list_any test seen || (test unit || list_any test rest)) ≡ true
    by true known new is' = weaker (list_any test seen) (test unit) (list_any test rest) (known is')
    by false known new is' =
        regrouped (list_any test seen) (test unit) (list_any test rest)
        (ap (λ (b : Bool). b || list_any test rest) (sym (list_any-append test seen (unit ∷ []))) ∙ new is')

any_turned : (units : List ℕ) → list_any (λ unit. unit == require_name) units ≡ list_any (λ unit. require_name == unit) units
any_turned [] = refl
any_turned (first ∷ rest) = ap₂ (λ (a b : Bool). a || b) (equal_turned first require_name) (any_turned rest)

module_imports : (items : ℕ → List Term) (terms : List Term) → list_any (λ unit. unit == require_name) (units_of terms) ≡ true → IsImported (entries items terms)
module_imports items terms is =
    imported_in items [] terms (any_units (λ unit. require_name == unit) [] (flat_map (λ term. imports (item_of term)) terms) (sym (any_turned (units_of terms)) ∙ is))

-- Where `require` is imported, no predicate is `error/1`.

module _ (all : List Entry) (never : (place : Place) → HasDouble all place → ⊥) (imported : IsImported all) where
  abbrev is_error_key : Key → Bool
  is_error_key = is_key (key error_name 1)

  no_error : (front rest : List Entry) → all ≡ front ++ rest → list_any is_error_key (keys_in predicates_of rest) ≡ false
  no_error front [] same = refl
  no_error front (entry ∷ rest) same =
      list_any-append is_error_key (predicates_of entry.item) (keys_in predicates_of rest)
      ∙ ap₂ (λ (a b : Bool). a || b) (by (list_any is_error_key (predicates_of entry.item)) refl) (no_error (front ++ entry ∷ []) rest (same ∙ sym (append_assoc front (entry ∷ []) rest)))
    where
      by : (b : Bool) → list_any is_error_key (predicates_of entry.item) ≡ b → list_any is_error_key (predicates_of entry.item) ≡ false
      by true is = absurd (never (later imported.0 entry.place) (error_again front rest entry imported.0 same is imported.1))
      by false is = is

-- Given is a module.
module _ (known : Module) where
  abbrev IsNoError : PredDecl → Type 0
  IsNoError declared = is_error known declared.name None (length declared.args) ≡ false

  abbrev imports_require : Bool
  imports_require = list_any (λ unit. unit == require_name) known.units

  none_imported : (b : Bool) → ((b && false) && true) ≡ false
  none_imported true = refl
  none_imported false = refl

  are_no_errors : (some : List PredDecl) → (imports_require ≡ true → list_any (is_key (key error_name 1)) (map key_of_predicate some) ≡ false) → AllByRecursion IsNoError some
  are_no_errors [] none = tt
  are_no_errors (declared ∷ rest) none = (by imports_require refl, are_no_errors rest (λ is. (parts is).1))
    where
      parts : imports_require ≡ true → (is_key (key error_name 1) (key_of_predicate declared) ≡ false) × (list_any (is_key (key error_name 1)) (map key_of_predicate rest) ≡ false)
      parts is = neither (is_key (key error_name 1) (key_of_predicate declared)) (list_any (is_key (key error_name 1)) (map key_of_predicate rest)) (none is)

      by : (b : Bool) → imports_require ≡ b → IsNoError declared
      by true is = ap (λ (b : Bool). (b && imports_require) && true) (key_turned (key_of_predicate declared) (key error_name 1) ∙ (parts is).0)
      by false is = ap (λ (b : Bool). (is_key (key_of_predicate declared) (key error_name 1) && b) && true) is ∙ none_imported (is_key (key_of_predicate declared) (key error_name 1))

  -- a call of a predicate's name and number of arguments has its types
  abbrev pub HasItsTypes : PredDecl → Type 0
  HasItsTypes declared = called_arguments known (callee_in known declared.name None (length declared.args)) ≡ declared.args

  have_types : (some : List PredDecl) → AllByRecursion IsNoError some → AllByRecursion (IsFound known.name known.preds) some → AllByRecursion HasItsTypes some
  have_types [] no_errors found = tt
  have_types (declared ∷ rest) no_errors found = (
    ap (λ (b : Bool). called_arguments known (if b then Error else Predicate (position_or_len (means known.name declared) known.preds))) no_errors.0 ∙ ap head_types found.0,
    have_types rest no_errors.1 found.1,
  )

pub predicates_have_types : (before after : List (List ℕ)) (text : List ℕ) (terms : List Term) (found : Module) → HoldsFixed before → IsDistinct bytes_eq before
    → IsModule before after text terms found → AllByRecursion (HasItsTypes found) found.preds
predicates_have_types before after text terms found fixed distinct is =
    let all = entries is.is.items terms in
    let fit = module_entries_fit before after text terms found fixed distinct is in
    let never : (place : Place) → HasDouble all place → ⊥ = λ place again. is.is.faultless doubles_phase DeclaredTwice Plain place (double place again) in
    let own = flat_map (pred_decls after (own_entries all)) (own_entries all) in
    let units = flat_map (pred_decls after (unit_items all)) (unit_items all) in
    let same = map-append key_of_predicate own units
    ∙ ap₂ (λ (some others : List Key). some ++ others) (predicate_keys after (own_entries all) (own_entries all) fit.own) (predicate_keys after (unit_items all) (unit_items all) fit.units)
    in
    let apart = parted_apart predicates_of all
    (subst AreKeysApart (keys_are predicates_of all) (keys_apart [] (declared_by predicates_of all) (λ again. never again.at (predicate_again again.at again.again))))
    in
    let known = module_of after terms all in
    subst (λ (known : Module). AllByRecursion (HasItsTypes known) known.preds) (sym is.is.same)
    (have_types known (own ++ units)
    (are_no_errors known (own ++ units)
    (λ imported. ap (list_any (is_key (key error_name 1))) same ∙ sym (parted_any predicates_of (is_key (key error_name 1)) all)
    ∙ no_error all never (module_imports is.is.items terms imported) [] all refl))
    (all_found known.name (own ++ units) (subst AreKeysApart (sym same) apart)))
