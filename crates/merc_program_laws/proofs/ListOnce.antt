-- The items of the unit `list` stand among a module's entries at most once.
use Rattle.std.proofs.Common.{◌≡◌, ℕ, ◌⊎◌, inl, inr, ◌==◌, ◌||◌, Bool, true, false, List, [], ◌∷◌, ◌++◌, map, if◌then◌else◌, refl, sym, ap, ap₂, subst, ◌∙◌, append-nil, eqb-true}
use Rattle.std.proofs.Math.Bool.{or-true}
use Rattle.std.proofs.lemmas.List.Concat.{flat_map-append}
use Rattle.std.proofs.lemmas.List.Folds.{list_any-append}
use Rattle.std.specs.List.{flat_map}
use Rattle.merc_base.specs.Names.{bool_name, list_name, maybe_name}
use Rattle.merc_base.specs.declared.place.Place.{Place}
use Rattle.merc_tree.specs.Term.{Term}
use Rattle.merc_item_forms.specs.Forms.{is_in}
use Rattle.merc_item_forms.specs.Items.{item_of, place_of}
use Rattle.merc_entries.specs.Entries.{Entry, entries, entries_from, imports, is_own, unit_entries, with_units}
use Rattle.merc_entries.specs.LibraryItems.{bool_items, bool_type, library_items, list_items, maybe_items, maybe_type}
use Rattle.merc_entries.specs.Joining.{unit_entry}
use Rattle.merc_items.specs.ModuleOf.{unit_items}
use Rattle.merc_program_laws.specs.ClauseFaults.{IsAmong}
use Rattle.merc_program_laws.proofs.ListLookups.{swapped}
use Rattle.merc_program_laws.proofs.UnitEntries.{comes_from, flat_among, flat_mapped, map_among, unit_among, unit_there}

unit_items-append : (some others : List Entry) → unit_items (some ++ others) ≡ unit_items some ++ unit_items others
unit_items-append [] others = refl
unit_items-append (first ∷ some) others = by (is_own first) (unit_items-append some others)
  where
    by : (b : Bool) → unit_items (some ++ others) ≡ unit_items some ++ unit_items others
        → (if b then unit_items (some ++ others) else first ∷ unit_items (some ++ others)) ≡ (if b then unit_items some else first ∷ unit_items some) ++ unit_items others
    by true inner = inner
    by false inner = ap (λ (l : List Entry). first ∷ l) inner

unit_items-unit : (place : Place) (unit : ℕ) (terms : List Term) → unit_items (map (unit_entry place unit) terms) ≡ map (unit_entry place unit) terms
unit_items-unit place unit [] = refl
unit_items-unit place unit (term ∷ terms) = ap (λ (l : List Entry). unit_entry place unit term ∷ l) (unit_items-unit place unit terms)

in_left : (one : ℕ) (some others : List ℕ) → is_in one some ≡ true → is_in one (some ++ others) ≡ true
in_left one some others is = list_any-append (λ other. one == other) some others ∙ ap (λ (b : Bool). b || is_in one others) is

in_last : (one last : ℕ) (some : List ℕ) → (last == one) ≡ true → is_in one (some ++ last ∷ []) ≡ true
in_last one last some is =
    let there : is_in one (last ∷ []) ≡ true = ap (λ (b : Bool). b || false) (swapped one last ∙ is) in
    list_any-append (λ other. one == other) some (last ∷ []) ∙ ap (λ (b : Bool). is_in one some || b) there ∙ or-true (is_in one some)

in_units : (one : ℕ) (seen units : List ℕ) → is_in one seen ≡ true → is_in one (with_units seen units) ≡ true
in_units one seen [] is = is
in_units one seen (unit ∷ rest) is = by (is_in unit seen) (in_units one seen rest is) (in_units one (seen ++ unit ∷ []) rest (in_left one seen (unit ∷ []) is))
  where
    by : (b : Bool) → is_in one (with_units seen rest) ≡ true → is_in one (with_units (seen ++ unit ∷ []) rest) ≡ true
        → is_in one (if b then with_units seen rest else with_units (seen ++ unit ∷ []) rest) ≡ true
    by true known new = known
    by false known new = new

abbrev pub is_empty : {B : Type 0} → List B → Bool
is_empty [] = true
is_empty (first ∷ rest) = false

some_made : {B : Type 0} (all : List B) → is_empty all ≡ false → ((one : B) → IsAmong one all → ⊥) → ⊥
some_made [] is none = cc
some_made (first ∷ rest) is none = none first (inl refl)

both : {B : Type 0} (some others some' others' : List B) → some ≡ some' → others ≡ others' → some ++ others ≡ some' ++ others'
both {B} some others some' others' is is' = ap₂ (λ (a b : List B). a ++ b) is is'

-- What is made of each entry, where nothing is made of the items of other units.
module _ {B : Type 0} (made : Entry → List B) (nothing : (place : Place) (unit : ℕ) → (unit == list_name) ≡ false → flat_map made (map (unit_entry place unit) (library_items unit)) ≡ []) where
  abbrev of_units : List Entry → List B
  of_units all = flat_map made (unit_items all)

  abbrev listed : Place → List B
  listed place = flat_map made (map (unit_entry place list_name) (library_items list_name))

  of_both : (some others : List Entry) → of_units (some ++ others) ≡ of_units some ++ of_units others
  of_both some others = ap (flat_map made) (unit_items-append some others) ∙ flat_map-append made (unit_items some) (unit_items others)

  of_unit : (place : Place) (unit : ℕ) (others : List Entry) → of_units (map (unit_entry place unit) (library_items unit) ++ others) ≡ flat_map made (map (unit_entry place unit) (library_items unit)) ++ of_units others
  of_unit place unit others =
      of_both (map (unit_entry place unit) (library_items unit)) others
      ∙ ap (λ (l : List Entry). flat_map made l ++ of_units others) (unit_items-unit place unit (library_items unit))

  alone : (place : Place) (others : List B) → others ≡ [] → listed place ++ others ≡ listed place
  alone place others is = ap (λ (l : List B). listed place ++ l) is ∙ append-nil (listed place)

  abbrev behind : Place → List ℕ → ℕ → List ℕ → List Entry
  behind place seen unit rest = unit_entries library_items place (seen ++ unit ∷ []) rest

  none_again : (place : Place) (seen units : List ℕ) → is_in list_name seen ≡ true → of_units (unit_entries library_items place seen units) ≡ []
  none_again place seen [] is = refl
  none_again place seen (unit ∷ rest) is =
      by (is_in unit seen) refl (none_again place seen rest is) (none_again place (seen ++ unit ∷ []) rest (in_left list_name seen (unit ∷ []) is))
    where
      other : (b : Bool) → (unit == list_name) ≡ b → is_in unit seen ≡ false → (unit == list_name) ≡ false
      other false is' new = is'
      other true is' new = absurd (let wrong : true ≡ false = sym is ∙ ap (λ (n : ℕ). is_in n seen) (sym (eqb-true unit list_name is')) ∙ new in cc)

      by : (b : Bool) → is_in unit seen ≡ b → of_units (unit_entries library_items place seen rest) ≡ [] → of_units (behind place seen unit rest) ≡ []
          → of_units (if b then unit_entries library_items place seen rest else map (unit_entry place unit) (library_items unit) ++ behind place seen unit rest) ≡ []
      by true known left right = left
      by false new left right = of_unit place unit (behind place seen unit rest) ∙ both _ _ [] [] (nothing place unit (other (unit == list_name) refl new)) right

  -- nothing, or what is made of the unit `list`, which is seen then
  abbrev IsOnce : Place → List B → List ℕ → Type 0
  IsOnce place found seen = (found ≡ []) ⊎ ((found ≡ listed place) × (is_in list_name seen ≡ true))

  once_of : (place : Place) (seen units : List ℕ) → IsOnce place (of_units (unit_entries library_items place seen units)) (with_units seen units)
  once_of place seen [] = inl refl
  once_of place seen (unit ∷ rest) = by (is_in unit seen) (once_of place seen rest) (once_of place (seen ++ unit ∷ []) rest)
    where
      later : List ℕ
      later = with_units (seen ++ unit ∷ []) rest

      others : List Entry
      others = behind place seen unit rest

      new : (b : Bool) → (unit == list_name) ≡ b → IsOnce place (of_units others) later → IsOnce place (of_units (map (unit_entry place unit) (library_items unit) ++ others)) later
      new true is inner = inr (
        of_unit place unit others
            ∙ ap (λ (n : ℕ). flat_map made (map (unit_entry place n) (library_items n)) ++ of_units others) (eqb-true unit list_name is)
            ∙ alone place (of_units others) (none_again place (seen ++ unit ∷ []) rest (in_last list_name unit seen is)),
        in_units list_name (seen ++ unit ∷ []) rest (in_last list_name unit seen is),
      )
      new false is (inl none) = inl (of_unit place unit others ∙ both _ _ [] [] (nothing place unit is) none)
      new false is (inr some) = inr (of_unit place unit others ∙ both _ _ [] (listed place) (nothing place unit is) some.0, some.1)

      by : (b : Bool) → IsOnce place (of_units (unit_entries library_items place seen rest)) (with_units seen rest) → IsOnce place (of_units others) later
          → IsOnce place (of_units (if b then unit_entries library_items place seen rest else map (unit_entry place unit) (library_items unit) ++ others)) (if b then with_units seen rest else later)
      by true known inner = known
      by false known inner = new (unit == list_name) refl inner

  none_behind : (seen : List ℕ) (terms : List Term) → is_in list_name seen ≡ true → of_units (entries_from library_items seen terms) ≡ []
  none_behind seen [] is = refl
  none_behind seen (term ∷ rest) is =
      of_both (unit_entries library_items (place_of term) seen (imports (item_of term))) (entries_from library_items (with_units seen (imports (item_of term))) rest)
      ∙ both _ _ [] [] (none_again (place_of term) seen (imports (item_of term)) is)
      (none_behind (with_units seen (imports (item_of term))) rest (in_units list_name seen (imports (item_of term)) is))

  abbrev Once : List Entry → Type 0
  Once entries = (of_units entries ≡ []) ⊎ ((place : Place) × (of_units entries ≡ listed place))

  once_behind : (seen : List ℕ) (terms : List Term) → Once (entries_from library_items seen terms)
  once_behind seen [] = inl refl
  once_behind seen (term ∷ rest) =
      by (once_of (place_of term) seen (imports (item_of term))) (once_behind (with_units seen (imports (item_of term))) rest)
    where
      inside : List Entry
      inside = unit_entries library_items (place_of term) seen (imports (item_of term))

      others : List Entry
      others = entries_from library_items (with_units seen (imports (item_of term))) rest

      by : IsOnce (place_of term) (of_units inside) (with_units seen (imports (item_of term))) → Once others → Once (entries_from library_items seen (term ∷ rest))
      by (inl none) (inl none') = inl (of_both inside others ∙ both _ _ [] [] none none')
      by (inl none) (inr some) = inr (some.0, of_both inside others ∙ both _ _ [] (listed some.0) none some.1)
      by (inr some) later = inr (
        place_of term,
        of_both inside others ∙ ap (λ (l : List B). l ++ of_units others) some.0
            ∙ alone (place_of term) (of_units others) (none_behind (with_units seen (imports (item_of term))) rest some.1),
      )

  -- Given are the items of a file. What is made of an item of the unit `list` stands among what is made of all.
  module _ (terms : List Term) where
    abbrev all : List Entry
    all = entries library_items terms

    abbrev There : Type 0
    There = (place : Place) × ((term : Term) → IsAmong term list_items → IsAmong (unit_entry place list_name term) all)

    -- something that is made comes from the unit, all of whose items are entries
    pub list_there : (one : B) → IsAmong one (of_units all) → There
    list_there one among =
        let entry = flat_mapped made one (unit_items all) among in
        let stands = unit_among entry.from all entry.among in
        let from = comes_from library_items all entry.from [] terms (λ other is. is) stands.1 stands.0 in
        by from.place from.unit from.whole
        (flat_among made (unit_entry from.place from.unit from.term) one (map (unit_entry from.place from.unit) (library_items from.unit))
        (map_among (unit_entry from.place from.unit) from.term (library_items from.unit) from.among) (subst (λ (e : Entry). IsAmong one (made e)) from.same entry.inside))
        (from.unit == list_name) refl
      where
        by : (place : Place) (unit : ℕ) → ((term : Term) → IsAmong term (library_items unit) → IsAmong (unit_entry place unit term) all)
            → IsAmong one (flat_map made (map (unit_entry place unit) (library_items unit))) → (b : Bool) → (unit == list_name) ≡ b → There
        by place unit whole inside true is = (place, subst (λ (n : ℕ). (term : Term) → IsAmong term (library_items n) → IsAmong (unit_entry place n term) all) (eqb-true unit list_name is) whole)
        by place unit whole inside false is = absurd (subst (IsAmong one) (nothing place unit is) inside)

    -- All that is made comes from the unit, where it is imported and something is made of one of its items.
    pub listed_once : (place : Place) → ((term : Term) → IsAmong term list_items → IsAmong (unit_entry place list_name term) all)
        → (term : Term) → IsAmong term list_items → is_empty (made (unit_entry place list_name term)) ≡ false → (there : Place) × (of_units all ≡ listed there)
    listed_once place whole term among some_is =
        elim (once_behind [] terms) as (λ _. (there : Place) × (of_units all ≡ listed there)) [
          | inl none ↦ absurd (some_made (made (unit_entry place list_name term)) some_is (λ one inside.
              subst (IsAmong one) none (flat_among made (unit_entry place list_name term) one (unit_items all) (unit_there (unit_entry place list_name term) all (whole term among) refl) inside)))
          | inr some ↦ some
        ]

-- Nothing is made of the items of other units, where none is of the types that they declare.

module _ {B : Type 0} (made : Entry → List B) (place : Place) (unit : ℕ) where
  abbrev Nothing : List Term → Type 0
  Nothing items = flat_map made (map (unit_entry place unit) items) ≡ []

  no_bool : made (unit_entry place unit bool_type) ≡ [] → Nothing bool_items
  unfolding bool_items
  no_bool none = ap (λ (l : List B). l ++ []) none

  no_maybe : made (unit_entry place unit maybe_type) ≡ [] → Nothing maybe_items
  unfolding maybe_items
  no_maybe none = ap (λ (l : List B). l ++ []) none

  pub other_units : made (unit_entry place unit bool_type) ≡ [] → made (unit_entry place unit maybe_type) ≡ [] → (unit == list_name) ≡ false → Nothing (library_items unit)
  other_units bool maybe is = at_list (unit == list_name) is
    where
      at_maybe : (b : Bool) → Nothing (if b then maybe_items else [])
      at_maybe true = no_maybe maybe
      at_maybe false = refl

      at_bool : (b : Bool) → Nothing (if b then bool_items else if unit == maybe_name then maybe_items else [])
      at_bool true = no_bool bool
      at_bool false = at_maybe (unit == maybe_name)

      at_list : (b : Bool) → b ≡ false → Nothing (if b then list_items else if unit == bool_name then bool_items else if unit == maybe_name then maybe_items else [])
      at_list true other = absurd cc
      at_list false other = at_bool (unit == bool_name)
