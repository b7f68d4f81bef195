-- The steps in which the entries of a module are joined.
use Rattle.std.specs.List.{slice_get}
use Rattle.std.proofs.Common.{◌≡◌, ℕ, suc, ◌+◌, ◌<◌, Bool, true, false, if◌then◌else◌, List, [], ◌∷◌, ◌++◌, map, drop, length, get_or, Some, None, refl, ap, sym, ◌∙◌, append_assoc, add-one}
use Rattle.std.proofs.Math.Seq.{drop-cons}
use Rattle.std.proofs.lemmas.List.{map-append}
use Rattle.merc_base.specs.declared.place.Place.{Place}
use Rattle.merc_base.specs.declared.place.Span.{Span}
use Rattle.merc_tree.specs.Term.{Term, span_of}
use Rattle.merc_entries.specs.declared.entry.Entry.{Entry as CodeEntry}
use Rattle.merc_item_forms.specs.declared.item.Item.{Item as CodeItem}
use Rattle.merc_entries.specs.EntryValue.{entry_value, entry_values}
use Rattle.merc_item_forms.specs.ItemValue.{item_value}
use Rattle.merc_item_forms.specs.Items.{item_of, place_of}
use Rattle.merc_item_forms.specs.Forms.{is_in}
use Rattle.merc_entries.specs.Entries.{Entry, entries_from, imports, unit_entries, with_units}
use Rattle.merc_entries.specs.Joining.{own_entry, unit_entry, entries_of_unit}
use Rattle.merc_entries.proofs.ListSteps.{got, gone_on}

-- one more element that is put behind others
pub mapped_step : {A B : Type 0} (f : A → B) (xs : List A) (i : ℕ) (x : A) (before now whole : List B) → slice_get xs i ≡ Some x → now ≡ before ++ f x ∷ []
    → before ++ map f (drop i xs) ≡ whole → now ++ map f (drop (i + 1) xs) ≡ whole
mapped_step f xs i x before now whole found now_is left =
    ap (λ l. l ++ map f (drop (i + 1) xs)) now_is
    ∙ append_assoc before (f x ∷ []) (map f (drop (i + 1) xs))
    ∙ ap (λ l. before ++ map f l) (sym (got xs i x found))
    ∙ left

-- no more
pub mapped_past : {A B : Type 0} (f : A → B) (xs : List A) (i : ℕ) (before now whole : List B) → slice_get xs i ≡ None → now ≡ before
    → before ++ map f (drop i xs) ≡ whole → now ++ map f (drop (i + 1) xs) ≡ whole
mapped_past f xs i before now whole found now_is left = ap (λ l. l ++ map f (drop (i + 1) xs)) now_is ∙ ap (λ l. before ++ map f l) (gone_on xs i found) ∙ left

-- a unit's item that is put behind the entries
pub pushed : (entries : List CodeEntry) (item : CodeItem) (span : Span) (place : Place) (unit : ℕ) (term : Term) → item_value item ≡ item_of term → span ≡ span_of term
    → entry_values (entries ++ record { item = item; span = span; place = place; unit = Some unit } ∷ []) ≡ entry_values entries ++ unit_entry place unit term ∷ []
pushed entries item span place unit term item_is span_is =
    map-append entry_value entries _ ∙ ap (λ i. entry_values entries ++ record { item = i; span = span; place = place; unit = Some unit } ∷ []) item_is
    ∙ ap (λ s. entry_values entries ++ record { item = item_of term; span = s; place = place; unit = Some unit } ∷ []) span_is

-- one item more of the file
pub item_step : (items : ℕ → List Term) (terms : List Term) (i : ℕ) (term : Term) (seen known : List ℕ) (before now whole : List Entry) → slice_get terms i ≡ Some term
    → now ≡ before ++ own_entry term ∷ unit_entries items (place_of term) seen (imports (item_of term)) → known ≡ with_units seen (imports (item_of term))
    → before ++ entries_from items seen (drop i terms) ≡ whole → now ++ entries_from items known (drop (i + 1) terms) ≡ whole
item_step items terms i term seen known before now whole found now_is known_is left =
    let rest = drop (i + 1) terms in
    let some = unit_entries items (place_of term) seen (imports (item_of term)) in
    ap (λ s. now ++ entries_from items s rest) known_is
    ∙ ap (λ l. l ++ entries_from items (with_units seen (imports (item_of term))) rest) now_is
    ∙ append_assoc before (own_entry term ∷ some) (entries_from items (with_units seen (imports (item_of term))) rest)
    ∙ ap (λ l. before ++ entries_from items seen l) (sym (got terms i term found))
    ∙ left

-- no item more
pub item_past : (items : ℕ → List Term) (terms : List Term) (i : ℕ) (seen known : List ℕ) (before now whole : List Entry) → slice_get terms i ≡ None → now ≡ before → known ≡ seen
    → before ++ entries_from items seen (drop i terms) ≡ whole → now ++ entries_from items known (drop (i + 1) terms) ≡ whole
item_past items terms i seen known before now whole found now_is known_is left =
    ap (λ s. now ++ entries_from items s (drop (i + 1) terms)) known_is
    ∙ ap (λ l. l ++ entries_from items seen (drop (i + 1) terms)) now_is
    ∙ ap (λ l. before ++ entries_from items seen l) (gone_on terms i found)
    ∙ left

-- the units that are left, from an index on
cut_at : (units : List ℕ) (index unit : ℕ) → index < length units → unit ≡ get_or units index unit → drop index units ≡ unit ∷ drop (suc index) units
cut_at units index unit within unit_is = drop-cons units index unit within ∙ ap (λ u. u ∷ drop (suc index) units) (sym unit_is)

unit_more : (items : ℕ → List Term) (place : Place) (seen : List ℕ) (unit : ℕ) (rest : List ℕ)
    → unit_entries items place seen (unit ∷ rest)
    ≡ (if is_in unit seen then [] else entries_of_unit items place unit) ++ unit_entries items place (if is_in unit seen then seen else seen ++ unit ∷ []) rest
unit_more items place seen unit rest = go (is_in unit seen)
  where
    go : (is : Bool) → (if is then unit_entries items place seen rest else entries_of_unit items place unit ++ unit_entries items place (seen ++ unit ∷ []) rest)
        ≡ (if is then [] else entries_of_unit items place unit) ++ unit_entries items place (if is then seen else seen ++ unit ∷ []) rest
    go true = refl
    go false = refl

seen_more : (seen : List ℕ) (unit : ℕ) (rest : List ℕ) → with_units seen (unit ∷ rest) ≡ with_units (if is_in unit seen then seen else seen ++ unit ∷ []) rest
seen_more seen unit rest = go (is_in unit seen)
  where
    go : (is : Bool) → (if is then with_units seen rest else with_units (seen ++ unit ∷ []) rest) ≡ with_units (if is then seen else seen ++ unit ∷ []) rest
    go true = refl
    go false = refl

-- one unit more, whose items are put behind the entries if it is new
pub unit_step : (items : ℕ → List Term) (place : Place) (units : List ℕ) (index unit : ℕ) (seen known : List ℕ) (before now whole : List Entry) → index < length units → unit ≡ get_or units index unit
    → now ≡ before ++ (if is_in unit seen then [] else entries_of_unit items place unit) → known ≡ (if is_in unit seen then seen else seen ++ unit ∷ [])
    → before ++ unit_entries items place seen (drop index units) ≡ whole → now ++ unit_entries items place known (drop (index + 1) units) ≡ whole
unit_step items place units index unit seen known before now whole within unit_is now_is known_is left =
    let rest = drop (suc index) units in
    ap (λ n. now ++ unit_entries items place known (drop n units)) (add-one index)
    ∙ ap (λ s. now ++ unit_entries items place s rest) known_is
    ∙ ap (λ l. l ++ unit_entries items place (if is_in unit seen then seen else seen ++ unit ∷ []) rest) now_is
    ∙ append_assoc before (if is_in unit seen then [] else entries_of_unit items place unit) (unit_entries items place (if is_in unit seen then seen else seen ++ unit ∷ []) rest)
    ∙ ap (λ l. before ++ l) (sym (unit_more items place seen unit rest))
    ∙ ap (λ l. before ++ unit_entries items place seen l) (sym (cut_at units index unit within unit_is))
    ∙ left

pub seen_step : (units : List ℕ) (index unit : ℕ) (seen known all : List ℕ) → index < length units → unit ≡ get_or units index unit → known ≡ (if is_in unit seen then seen else seen ++ unit ∷ [])
    → with_units seen (drop index units) ≡ all → with_units known (drop (index + 1) units) ≡ all
seen_step units index unit seen known all within unit_is known_is left =
    let rest = drop (suc index) units in
    ap (λ n. with_units known (drop n units)) (add-one index)
    ∙ ap (λ s. with_units s rest) known_is
    ∙ sym (seen_more seen unit rest)
    ∙ ap (λ l. with_units seen l) (sym (cut_at units index unit within unit_is))
    ∙ left
