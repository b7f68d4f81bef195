-- What holds of all entries of a module, those of units among them.
use Rattle.std.proofs.Common.{◌≡◌, ℕ, Bool, true, false, List, [], ◌∷◌, ◌++◌, map, if◌then◌else◌, refl, sym, subst, append_assoc}
use Rattle.std.specs.List.{AllByRecursion}
use Rattle.merc_base.specs.declared.place.Place.{Place}
use Rattle.merc_tree.specs.Term.{Term}
use Rattle.merc_item_forms.specs.Forms.{is_in}
use Rattle.merc_item_forms.specs.Items.{item_of, place_of}
use Rattle.merc_entries.specs.Entries.{Entry, entries_from, imports, is_own, own_entries, unit_entries, with_units}
use Rattle.merc_entries.specs.Joining.{own_entry, unit_entry}
use Rattle.merc_items.specs.ModuleOf.{unit_items}

module _ (P : Entry → Type 0) where
  -- Given are the items of each unit, of which each is so.
  module _ (items : ℕ → List Term) (units : (place : Place) (unit : ℕ) → AllByRecursion (λ term. P (unit_entry place unit term)) (items unit)) where
    put_before : (place : Place) (unit : ℕ) (terms : List Term) (behind : List Entry) → AllByRecursion (λ term. P (unit_entry place unit term)) terms → AllByRecursion P behind
        → AllByRecursion P (map (unit_entry place unit) terms ++ behind)
    put_before place unit [] behind h others = others
    put_before place unit (term ∷ rest) behind h others = (h.0, put_before place unit rest behind h.1 others)

    of_units : (place : Place) (seen imported : List ℕ) (behind : List Entry) → AllByRecursion P behind → AllByRecursion P (unit_entries items place seen imported ++ behind)
    of_units place seen [] behind others = others
    of_units place seen (unit ∷ rest) behind others =
        by (is_in unit seen) (of_units place seen rest behind others) (of_units place (seen ++ unit ∷ []) rest behind others)
      where
        by : (b : Bool) → AllByRecursion P (unit_entries items place seen rest ++ behind) → AllByRecursion P (unit_entries items place (seen ++ unit ∷ []) rest ++ behind)
            → AllByRecursion P ((if b then unit_entries items place seen rest else map (unit_entry place unit) (items unit) ++ unit_entries items place (seen ++ unit ∷ []) rest) ++ behind)
        by true known new = known
        by false known new =
            subst (AllByRecursion P) (sym (append_assoc (map (unit_entry place unit) (items unit)) (unit_entries items place (seen ++ unit ∷ []) rest) behind))
            (put_before place unit (items unit) (unit_entries items place (seen ++ unit ∷ []) rest ++ behind) (units place unit) new)

    pub of_entries : (seen : List ℕ) (terms : List Term) → AllByRecursion (λ term. P (own_entry term)) terms → AllByRecursion P (entries_from items seen terms)
    of_entries seen [] h = tt
    of_entries seen (term ∷ rest) h = (
      h.0,
      of_units (place_of term) seen (imports (item_of term)) (entries_from items (with_units seen (imports (item_of term))) rest)
          (of_entries (with_units seen (imports (item_of term))) rest h.1),
    )

  pub of_own : (all : List Entry) → AllByRecursion (λ entry. is_own entry ≡ true → P entry) all → AllByRecursion P (own_entries all)
  of_own [] h = tt
  of_own (first ∷ rest) h = by (is_own first) refl (of_own rest h.1)
    where
      by : (b : Bool) → is_own first ≡ b → AllByRecursion P (own_entries rest) → AllByRecursion P (if b then first ∷ own_entries rest else own_entries rest)
      by true is others = (h.0 is, others)
      by false is others = others

  pub of_unit_items : (all : List Entry) → AllByRecursion (λ entry. is_own entry ≡ false → P entry) all → AllByRecursion P (unit_items all)
  of_unit_items [] h = tt
  of_unit_items (first ∷ rest) h = by (is_own first) refl (of_unit_items rest h.1)
    where
      by : (b : Bool) → is_own first ≡ b → AllByRecursion P (unit_items rest) → AllByRecursion P (if b then unit_items rest else first ∷ unit_items rest)
      by true is others = others
      by false is others = (h.0 is, others)
