-- The walk over the items of a module, by index and by list.
use Rattle.std.proofs.Common.{◌≡◌, ℕ, suc, zero, ◌+◌, ◌<◌, ◌≤◌, ◌==◌, Bool, true, false, List, [], ◌∷◌, length, drop, Option, Some, None, refl, ap, sym, ◌∙◌, add-one, ne_eqb, eq-eqb, eqb-true, ◌-◌, arith}
use Rattle.std.proofs.lemmas.List.{drop_all, length-drop}
use Rattle.merc_item_forms.proofs.Indexes.{within_items}
use Rattle.std.specs.List.{slice_get}
use Rattle.merc_base.specs.declared.refusal.Refusal.{Refusal}
use Rattle.merc_tree.specs.Term.{Term}
use Rattle.merc_item_forms.specs.Items.{item_of}
use Rattle.merc_item_forms.specs.FormFaults.{is_nil, opened}
use Rattle.merc_item_forms.specs.FormChecks.{refusal_of, or_else, refusal_at_term, refusal_at, refusal_from, first_refusal}

-- the rest of a list from an index on
drop_at_index : {X : Type 0} (items : List X) (index : ℕ) (item : X) → Some item ≡ slice_get items index → drop index items ≡ item ∷ drop (suc index) items
drop_at_index [] index item at = cc
drop_at_index (first ∷ rest) zero item at = let same : item ≡ first = cc in ap (λ x. x ∷ rest) (sym same)
drop_at_index (first ∷ rest) (suc index) item at = drop_at_index rest index item at

same_test : (test other : Bool) → (test ≡ true → other ≡ true) → (other ≡ true → test ≡ true) → test ≡ other
same_test true true to back = refl
same_test true false to back = sym (to refl)
same_test false true to back = back refl
same_test false false to back = refl

nil_length : (terms : List Term) → is_nil terms ≡ true → length terms ≡ 0
nil_length [] is = refl
nil_length (first ∷ rest) is = cc

length_nil : (terms : List Term) → length terms ≡ 0 → is_nil terms ≡ true
length_nil [] is = refl
length_nil (first ∷ rest) is = absurd (omega (arith, is))

last_here : (terms : List Term) (index : ℕ) → index < length terms → is_nil (drop (suc index) terms) ≡ (index + 1 == length terms)
last_here terms index within =
    let left : length (drop (suc index) terms) ≡ length terms - suc index = length-drop (suc index) terms in
    same_test (is_nil (drop (suc index) terms)) (index + 1 == length terms)
    (λ is. eq-eqb (index + 1) (length terms) (omega (arith, left, within, nil_length (drop (suc index) terms) is)))
    (λ is. length_nil (drop (suc index) terms) (omega (arith, left, within, eqb-true (index + 1) (length terms) is)))

-- the item at an index, and those behind it
at_index : (names : List (List ℕ)) (own : ℕ) (first : Bool) (terms : List Term) (index : ℕ) (term : Term) → Some term ≡ slice_get terms index
    → refusal_from names own first (drop index terms)
    ≡ or_else (refusal_at_term names own first (index + 1 == length terms) (slice_get terms index)) (refusal_from names own false (drop (suc index) terms))
at_index names own first terms index term at =
    ap (refusal_from names own first) (drop_at_index terms index term at)
    ∙ ap (λ last. or_else (refusal_of names own first last term) (refusal_from names own false (drop (suc index) terms))) (last_here terms index (within_items terms index term at))
    ∙ ap (λ o. or_else (refusal_at_term names own first (index + 1 == length terms) o) (refusal_from names own false (drop (suc index) terms))) at

some_at : {X : Type 0} (items : List X) (index : ℕ) → index < length items → (item : X) × (Some item ≡ slice_get items index)
some_at [] index within = absurd (omega (arith, within))
some_at (first ∷ rest) zero within = (first, refl)
some_at (first ∷ rest) (suc index) within = some_at rest index (omega (arith, within))

not_first : (index : ℕ) → (index + 1 == 0) ≡ false
not_first index = ne_eqb (index + 1) 0 (λ same. omega (arith, same))

module _ (names : List (List ℕ)) (own : ℕ) (terms : List Term) (index : ℕ) (within : index < length terms) (whole : Option Refusal)
    (before : refusal_from names own (index == 0) (drop index terms) ≡ whole) where
  step : or_else (refusal_at names own terms index) (refusal_from names own false (drop (suc index) terms)) ≡ whole
  step = let found = some_at terms index within in sym (at_index names own (index == 0) terms index found.0 found.1) ∙ before

  pub refused_at : (refusal : Refusal) → Some refusal ≡ refusal_at names own terms index → Some refusal ≡ whole
  refused_at refusal is = ap (λ o. or_else o (refusal_from names own false (drop (suc index) terms))) is ∙ step

  pub passed_at : None ≡ refusal_at names own terms index → refusal_from names own (index + 1 == 0) (drop (index + 1) terms) ≡ whole
  passed_at is =
      ap (λ b. refusal_from names own b (drop (index + 1) terms)) (not_first index)
      ∙ ap (λ n. refusal_from names own false (drop n terms)) (add-one index)
      ∙ ap (λ o. or_else o (refusal_from names own false (drop (suc index) terms))) is
      ∙ step

pub first_by : (names : List (List ℕ)) (own : ℕ) (terms : List Term) (first : Term) → Some first ≡ slice_get terms 0 → own ≡ opened (item_of first)
    → refusal_from names own true terms ≡ first_refusal names terms
first_by names own [] first at is = cc
first_by names own (found ∷ rest) first at is =
    let same : first ≡ found = cc in
    ap (λ n. refusal_from names n true (found ∷ rest)) (is ∙ ap (λ t. opened (item_of t)) same)

pub all_passed : (names : List (List ℕ)) (own : ℕ) (first : Bool) (terms : List Term) (index : ℕ) → length terms ≤ index → None ≡ refusal_from names own first (drop index terms)
all_passed names own first terms index past = ap (refusal_from names own first) (sym (drop_all index terms past))
