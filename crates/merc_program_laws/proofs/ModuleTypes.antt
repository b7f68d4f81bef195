-- The types of a module are good.
use Rattle.std.proofs.Common.{◌≡◌, ℕ, Bool, true, false, ◌&&◌, List, [], ◌∷◌, ◌++◌, flat_map, slice_get, Some, refl, sym, subst, ap₂, ◌∙◌, append_assoc}
use Rattle.std.specs.List.{AllByRecursion}
use Rattle.merc_base.specs.Names.{HoldsFixed}
use Rattle.merc_base.specs.declared.refusal.Rule.TheVariants.{UnknownType}
use Rattle.merc_base.specs.declared.refusal.Detail.TheVariants.{Plain}
use Rattle.merc_base.proofs.NameLaws.{slice_get-front}
use Rattle.merc_tree.specs.Term.{Term}
use Rattle.merc_tree.specs.declared.declarations.Module.{Module}
use Rattle.merc_terms.proofs.TextLaws.{ReadsItems-distinct, ReadsItems-grows}
use Rattle.merc_item_forms.specs.FormFaults.{own_name}
use Rattle.merc_item_forms.specs.Items.{item_of}
use Rattle.merc_entries.specs.Entries.{Entry, entries, is_own, own_entries}
use Rattle.merc_entries.specs.Joining.{own_entry}
use Rattle.merc_entries.proofs.LibraryReads.{units_are-library}
use Rattle.merc_declared.specs.UnknownTypes.{has_unknown}
use Rattle.merc_items.specs.ModuleOf.{type_defs, unit_items}
use Rattle.merc_items.specs.Phases.{HasNoFault, types_phase, unknown_type}
use Rattle.merc_order_laws.proofs.Written.{all_joined}
use Rattle.merc_program_laws.specs.GoodPrograms.{IsScoped}
use Rattle.merc_order_laws.proofs.TypesApart.{types_are_told_apart}
use Rattle.merc_program_laws.specs.TextLaws.{ModuleHasGoodTypes, ModuleIsScoped}
use Rattle.merc_program_laws.proofs.EntryFacts.{of_entries, of_own, of_unit_items}
use Rattle.merc_program_laws.proofs.LibraryTypes.{library_scoped}
use Rattle.merc_program_laws.proofs.Lists.{all_flat, all_implied}
use Rattle.merc_program_laws.proofs.ScopedTypes.{ItemIsScoped, item_scoped}

is_false : (b : Bool) → (b ≡ true → ⊥) → b ≡ false
is_false true never = absurd (never refl)
is_false false never = refl

-- Given are the table of names, and the entries of a file with these items.
module _ (names : List (List ℕ)) (terms : List Term) (all : List Entry) where
  abbrev EntryIsScoped : Entry → Type 0
  EntryIsScoped entry = ItemIsScoped names entry.item

  own_known : HasNoFault names terms all → (front rest : List Entry) → all ≡ front ++ rest → AllByRecursion (λ entry. is_own entry ≡ true → has_unknown names (own_name terms) all entry.item ≡ false) rest
  own_known faultless front [] same = tt
  own_known faultless front (entry ∷ rest) same = (
    λ own. is_false (has_unknown names (own_name terms) all entry.item) (λ has.
        faultless types_phase UnknownType Plain entry.place (unknown_type entry.place (record {
          front = front;
          item = entry;
          back = rest;
          whole = same;
          passes = ap₂ (λ (a b : Bool). a && b) own has;
          there = refl;
        }))),
    own_known faultless (front ++ entry ∷ []) rest (same ∙ sym (append_assoc front (entry ∷ []) rest)),
  )

  own_scoped : HasNoFault names terms all → AllByRecursion EntryIsScoped (own_entries all)
  own_scoped faultless =
      of_own EntryIsScoped all
      (all_implied (λ entry. is_own entry ≡ true → has_unknown names (own_name terms) all entry.item ≡ false) (λ entry. is_own entry ≡ true → EntryIsScoped entry) all
      (λ entry known own. item_scoped names (own_name terms) all entry.item (known own)) (own_known faultless [] all refl))

  types_scoped : (some : List Entry) → AllByRecursion EntryIsScoped some → AllByRecursion IsScoped (flat_map (type_defs names) some)
  types_scoped some h = all_flat EntryIsScoped IsScoped (type_defs names) some (λ entry scoped. scoped entry.unit) h

abbrev IsScopedUnit : List (List ℕ) → Entry → Type 0
IsScopedUnit names entry = is_own entry ≡ false → ItemIsScoped names entry.item

-- no entry of the file is a unit's
no_units : (names : List (List ℕ)) (terms : List Term) → AllByRecursion (λ term. IsScopedUnit names (own_entry term)) terms
no_units names [] = tt
no_units names (term ∷ rest) = (λ other. absurd cc, no_units names rest)

pub module_is_scoped : ModuleIsScoped
module_is_scoped before after text terms found fixed distinct is =
    let grown = ReadsItems-grows before is.read_names text terms is.reads in
    let read_fixed : HoldsFixed is.read_names = record {
      text = λ number kept there. subst (λ (names : List (List ℕ)). slice_get names number ≡ Some kept) (sym grown.1) (slice_get-front before grown.0 number kept (fixed.text number kept there));
    } in
    let items = is.is.items in
    let library = units_are-library is.read_names after items read_fixed (ReadsItems-distinct before text distinct is.read_names terms is.reads) is.is.units in
    let after_fixed = subst HoldsFixed library.same read_fixed in
    let all = entries items terms in
    let of_unit : (unit : ℕ) → AllByRecursion (λ term. ItemIsScoped after (item_of term)) (items unit) =
    λ unit. subst (AllByRecursion (λ term. ItemIsScoped after (item_of term))) (library.items_are unit) (library_scoped after after_fixed unit)
    in
    let units = of_entries (IsScopedUnit after) items
    (λ place unit. all_implied (λ term. ItemIsScoped after (item_of term)) (λ term. false ≡ false → ItemIsScoped after (item_of term)) (items unit) (λ term h other. h) (of_unit unit)) [] terms (no_units after terms)
    in
    subst (λ (known : Module). AllByRecursion IsScoped known.types) (sym is.is.same)
    (all_joined IsScoped (flat_map (type_defs after) (own_entries all)) (flat_map (type_defs after) (unit_items all))
    (types_scoped after terms all (own_entries all) (own_scoped after terms all is.is.faultless))
    (types_scoped after terms all (unit_items all) (of_unit_items (λ entry. ItemIsScoped after entry.item) all units)))

pub module_has_good_types : ModuleHasGoodTypes
module_has_good_types before after text terms found fixed distinct is = record {
  apart = types_are_told_apart before after text terms found fixed distinct is;
  scoped = module_is_scoped before after text terms found fixed distinct is;
}
