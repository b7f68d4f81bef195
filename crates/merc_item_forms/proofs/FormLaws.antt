-- The first refusal of the items is the first of their faults.
use Rattle.std.proofs.Common.{◌≡◌, ℕ, ◌<◌, ◌≤◌, inl, inr, Bool, true, false, List, [], ◌∷◌, ◌++◌, Option, Some, None, refl, ap, sym, subst, ◌∙◌, arith}
use Rattle.merc_base.specs.Refusal.{rule_number}
use Rattle.merc_base.specs.FirstFault.{ComesFirst, HasNone, IsFirst}
use Rattle.merc_base.specs.declared.place.Place.{Place}
use Rattle.merc_base.specs.declared.refusal.Construct.{Construct}
use Rattle.merc_base.specs.declared.refusal.Rule.{Rule}
use Rattle.merc_base.specs.declared.refusal.Rule.TheVariants.{WrongForm, OutsideProfile, LimitPassed}
use Rattle.merc_base.specs.declared.refusal.Detail.{Detail}
use Rattle.merc_base.specs.declared.refusal.Detail.TheVariants.{Plain, Word, Limit}
use Rattle.merc_base.specs.declared.refusal.LimitName.TheVariants.{Arity}
use Rattle.merc_base.specs.declared.refusal.Refusal.{Refusal}
use Rattle.merc_tree.specs.Term.{Term, span_of}
use Rattle.merc_item_forms.specs.Items.{Item, item_of, place_of}
use Rattle.merc_item_forms.specs.Forms.{words, is_too_wide}
use Rattle.merc_item_forms.specs.FormFaults.{is_nil, opened, own_name, HasFormFault, no_item as no_item_at_all, wrong, outside, wide, Rises}
use Rattle.merc_item_forms.specs.FormChecks.{is_wrong, first_of, least_fault, fault_of, at_place, or_else, refusal_from, no_item, first_refusal}
use Rattle.merc_item_forms.proofs.WrongForms.{wrong_if, if_wrong}

-- the faults of one item

data ItemFault (names : List (List ℕ)) (own : ℕ) (first last : Bool) (item : Item) : Rule → Detail → Type 0 where
  wrong_item : is_wrong names own first last item ≡ true → ItemFault names own first last item WrongForm Plain
  outside_item : (word : Construct) → first_of (words item) ≡ Some word → ItemFault names own first last item OutsideProfile (Word word)
  wide_item : is_too_wide item ≡ true → ItemFault names own first last item LimitPassed (Limit Arity)

-- the fault that is computed is one of them, and of the lowest rule
record IsLeast (names : List (List ℕ)) (own : ℕ) (first last : Bool) (item : Item) (rule : Rule) (detail : Detail) : Type 0 where
  is : ItemFault names own first last item rule detail
  least : (other : Rule) (other_detail : Detail) → ItemFault names own first last item other other_detail → rule_number rule ≤ rule_number other

abbrev IsFaultOf : (names : List (List ℕ)) (own : ℕ) (first last : Bool) (item : Item) → Option (Rule × Detail) → Type 0
IsFaultOf names own first last item None = (rule : Rule) (detail : Detail) → ItemFault names own first last item rule detail → ⊥
IsFaultOf names own first last item (Some (rule, detail)) = IsLeast names own first last item rule detail

never : false ≡ true → ⊥
never same = grind (arith, same)

no_word : (word : Construct) → None ≡ Some word → ⊥
no_word word same = grind (arith, same)

module _ (names : List (List ℕ)) (own : ℕ) (first last : Bool) (item : Item) where
  abbrev Fault : Rule → Detail → Type 0
  Fault rule detail = ItemFault names own first last item rule detail

  at_least_three : {rule : Rule} {detail : Detail} → Fault rule detail → 3 ≤ rule_number rule
  at_least_three (wrong_item is) = omega arith
  at_least_three (outside_item word is) = omega arith
  at_least_three (wide_item is) = omega arith

  at_least_fifteen : is_wrong names own first last item ≡ false → {rule : Rule} {detail : Detail} → Fault rule detail → 15 ≤ rule_number rule
  at_least_fifteen right (wrong_item is) = absurd (never (sym right ∙ is))
  at_least_fifteen right (outside_item word is) = omega arith
  at_least_fifteen right (wide_item is) = omega arith

  at_least_sixteen : is_wrong names own first last item ≡ false → first_of (words item) ≡ None → {rule : Rule} {detail : Detail} → Fault rule detail → 16 ≤ rule_number rule
  at_least_sixteen right inside (wrong_item is) = absurd (never (sym right ∙ is))
  at_least_sixteen right inside (outside_item word is) = absurd (no_word word (sym inside ∙ is))
  at_least_sixteen right inside (wide_item is) = omega arith

  none_at_all : is_wrong names own first last item ≡ false → first_of (words item) ≡ None → is_too_wide item ≡ false → {rule : Rule} {detail : Detail} → Fault rule detail → ⊥
  none_at_all right inside narrow (wrong_item is) = never (sym right ∙ is)
  none_at_all right inside narrow (outside_item word is) = no_word word (sym inside ∙ is)
  none_at_all right inside narrow (wide_item is) = never (sym narrow ∙ is)

  least_is : (bad : Bool) (word : Option Construct) (broad : Bool) → is_wrong names own first last item ≡ bad → first_of (words item) ≡ word → is_too_wide item ≡ broad
      → IsFaultOf names own first last item (least_fault bad word broad)
  least_is true word broad is_bad is_word is_broad = record { is = wrong_item is_bad; least = λ other detail fault. at_least_three fault }
  least_is false (Some word) broad is_bad is_word is_broad = record { is = outside_item word is_word; least = λ other detail fault. at_least_fifteen is_bad fault }
  least_is false None true is_bad is_word is_broad = record { is = wide_item is_broad; least = λ other detail fault. at_least_sixteen is_bad is_word fault }
  least_is false None false is_bad is_word is_broad = λ rule detail fault. none_at_all is_bad is_word is_broad fault

  fault_is : IsFaultOf names own first last item (fault_of names own first last item)
  fault_is = least_is (is_wrong names own first last item) (first_of (words item)) (is_too_wide item) refl refl refl

-- the faults of a list of items

abbrev at_front : Bool → List Term → Bool
at_front first [] = first
at_front first (term ∷ rest) = false

at_front-false : (front : List Term) → at_front false front ≡ false
at_front-false [] = refl
at_front-false (term ∷ rest) = refl

at_front-true : (front : List Term) → at_front true front ≡ is_nil front
at_front-true [] = refl
at_front-true (term ∷ rest) = refl

-- a fault of the item behind the front of a list
record FaultAt (names : List (List ℕ)) (own : ℕ) (first : Bool) (terms : List Term) (rule : Rule) (detail : Detail) (place : Place) : Type 0 where
  front : List Term
  term : Term
  back : List Term
  whole : terms ≡ front ++ term ∷ back
  fault : ItemFault names own (at_front first front) (is_nil back) (item_of term) rule detail
  there : place ≡ place_of term

-- it is a fault of the first item or of one behind it
data Splits (names : List (List ℕ)) (own : ℕ) (first : Bool) (start : Term) (rest : List Term) (rule : Rule) (detail : Detail) (place : Place) : Type 0 where
  here : ItemFault names own first (is_nil rest) (item_of start) rule detail → place ≡ place_of start → Splits names own first start rest rule detail place
  behind : FaultAt names own false rest rule detail place → Splits names own first start rest rule detail place

head_same : (start term : Term) (rest back : List Term) → start ∷ rest ≡ term ∷ back → (start ≡ term) × (rest ≡ back)
head_same start term rest back same = (cc, cc)

module _ (names : List (List ℕ)) (own : ℕ) (first : Bool) (start : Term) (rest : List Term) {rule : Rule} {detail : Detail} {place : Place} where
  split_at : (front : List Term) (term : Term) (back : List Term) → start ∷ rest ≡ front ++ term ∷ back
      → ItemFault names own (at_front first front) (is_nil back) (item_of term) rule detail → place ≡ place_of term → Splits names own first start rest rule detail place
  split_at [] term back whole fault there =
      let same = head_same start term rest back whole in
      let P : Term → Type 0 = λ t. ItemFault names own first (is_nil back) (item_of t) rule detail in
      let Q : List Term → Type 0 = λ l. ItemFault names own first (is_nil l) (item_of start) rule detail in
      here (subst Q (sym same.1) (subst P (sym same.0) fault)) (there ∙ ap place_of (sym same.0))
  split_at (next ∷ front) term back whole fault there =
      let same = head_same start next rest (front ++ term ∷ back) whole in
      let P : Bool → Type 0 = λ b. ItemFault names own b (is_nil back) (item_of term) rule detail in
      behind (record { front = front; term = term; back = back; whole = same.1; fault = subst P (sym (at_front-false front)) fault; there = there })

  split : FaultAt names own first (start ∷ rest) rule detail place → Splits names own first start rest rule detail place
  split at = split_at at.front at.term at.back at.whole at.fault at.there

-- the refusal that is computed is such a fault, and no other comes before it

abbrev IsRefusalOf : (names : List (List ℕ)) (own : ℕ) (first : Bool) (terms : List Term) → Option Refusal → Type 0
IsRefusalOf names own first terms None = HasNone (FaultAt names own first terms)
IsRefusalOf names own first terms (Some refusal) = IsFirst (FaultAt names own first terms) refusal

rises_rest : (start : Term) (rest : List Term) → Rises (start ∷ rest) → Rises rest
rises_rest start [] up = tt
rises_rest start (next ∷ rest) up = up.1

rises_to : (start : Term) (rest front back : List Term) (term : Term) → Rises (start ∷ rest) → rest ≡ front ++ term ∷ back → (span_of start).first < (span_of term).first
rises_to start [] [] back term up whole = cc
rises_to start [] (next ∷ front) back term up whole = cc
rises_to start (next ∷ rest) [] back term up whole =
    let same = head_same next term rest back whole in
    let P : Term → Type 0 = λ t. (span_of start).first < (span_of t).first in
    subst P same.0 up.0
rises_to start (next ∷ rest) (other ∷ front) back term up whole =
    let same = head_same next other rest (front ++ term ∷ back) whole in
    omega (arith, up.0, rises_to next rest front back term up.1 same.1)

not_here : (names : List (List ℕ)) (own : ℕ) (first : Bool) (start : Term) (rest : List Term)
    → IsFaultOf names own first (is_nil rest) (item_of start) None → (rule : Rule) (detail : Detail) (place : Place)
    → Splits names own first start rest rule detail place → FaultAt names own false rest rule detail place
not_here names own first start rest none rule detail place (here fault there) = absurd (none rule detail fault)
not_here names own first start rest none rule detail place (behind at) = at

module _ (names : List (List ℕ)) (own : ℕ) (first : Bool) (start : Term) (rest : List Term) where
  at_start : (rule : Rule) (detail : Detail) → ItemFault names own first (is_nil rest) (item_of start) rule detail
      → FaultAt names own first (start ∷ rest) rule detail (place_of start)
  at_start rule detail fault = record { front = []; term = start; back = rest; whole = refl; fault = fault; there = refl }

  moved : {rule : Rule} {detail : Detail} {place : Place} → FaultAt names own false rest rule detail place → FaultAt names own first (start ∷ rest) rule detail place
  moved {rule} {detail} at =
      let P : Bool → Type 0 = λ b. ItemFault names own b (is_nil at.back) (item_of at.term) rule detail in
      record {
        front = start ∷ at.front;
        term = at.term;
        back = at.back;
        whole = ap (λ l. start ∷ l) at.whole;
        fault = subst P (at_front-false at.front) at.fault;
        there = at.there;
      }

  first_here : (rule : Rule) (detail : Detail) → Rises (start ∷ rest) → IsLeast names own first (is_nil rest) (item_of start) rule detail
      → (other : Rule) (other_detail : Detail) (place : Place) → Splits names own first start rest other other_detail place
      → ComesFirst (place_of start).byte rule place.byte other
  first_here rule detail up least other other_detail place (here fault there) = inr (ap (λ (p : Place). p.byte) (sym there), least.least other other_detail fault)
  first_here rule detail up least other other_detail place (behind at) =
      let later : (span_of start).first < (span_of at.term).first = rises_to start rest at.front at.back at.term up at.whole in
      let P : Place → Type 0 = λ p. (place_of start).byte < p.byte in
      inl (subst P (sym at.there) later)

  or_behind : (fault : Option (Rule × Detail)) (refusal : Option Refusal) → Rises (start ∷ rest) → IsFaultOf names own first (is_nil rest) (item_of start) fault
      → IsRefusalOf names own false rest refusal → IsRefusalOf names own first (start ∷ rest) (or_else (at_place (place_of start) fault) refusal)
  or_behind (Some (rule, detail)) refusal up least others =
      record {
        fault = at_start rule detail least.is;
        first = λ other other_detail place at. first_here rule detail up least other other_detail place (split names own first start rest at);
      }
  or_behind None None up none others =
      λ rule detail place at. others rule detail place (not_here names own first start rest none rule detail place (split names own first start rest at))
  or_behind None (Some refusal) up none others =
      record {
        fault = moved others.fault;
        first = λ other other_detail place at.
            others.first other other_detail place (not_here names own first start rest none other other_detail place (split names own first start rest at));
      }

nothing_in_none : (names : List (List ℕ)) (own : ℕ) (first : Bool) (rule : Rule) (detail : Detail) (place : Place) (front back : List Term) (term : Term)
    → [] ≡ front ++ term ∷ back → ⊥
nothing_in_none names own first rule detail place [] back term whole = grind (arith, whole)
nothing_in_none names own first rule detail place (next ∷ front) back term whole = grind (arith, whole)

refusal_is : (names : List (List ℕ)) (own : ℕ) (first : Bool) (terms : List Term) → Rises terms → IsRefusalOf names own first terms (refusal_from names own first terms)
refusal_is names own first [] up = λ rule detail place at. nothing_in_none names own first rule detail place at.front at.back at.term at.whole
refusal_is names own first (start ∷ rest) up =
    or_behind names own first start rest _ _ up (fault_is names own first (is_nil rest) (item_of start)) (refusal_is names own false rest (rises_rest start rest up))

-- such faults are the faults of the forms

first_word : (word : Construct) (all : List Construct) → first_of all ≡ Some word → (rest : List Construct) × (all ≡ word ∷ rest)
first_word word [] is = absurd (no_word word is)
first_word word (other ∷ rest) is = let same : other ≡ word = cc in (rest, ap (λ w. w ∷ rest) same)

module _ (names : List (List ℕ)) (terms : List Term) where
  form_fault : {rule : Rule} {detail : Detail} (front back : List Term) (term : Term) → terms ≡ front ++ term ∷ back
      → ItemFault names (own_name terms) (is_nil front) (is_nil back) (item_of term) rule detail → HasFormFault names terms rule detail (place_of term)
  form_fault front back term whole (wrong_item is) = wrong front back term whole (wrong_if names (own_name terms) (is_nil front) (is_nil back) (item_of term) is)
  form_fault front back term whole (outside_item word is) = let found = first_word word (words (item_of term)) is in outside front back term word found.0 whole found.1
  form_fault front back term whole (wide_item is) = wide front back term whole is

  from_place : (rule : Rule) (detail : Detail) (place : Place) → FaultAt names (own_name terms) true terms rule detail place → HasFormFault names terms rule detail place
  from_place rule detail place at =
      let P : Bool → Type 0 = λ b. ItemFault names (own_name terms) b (is_nil at.back) (item_of at.term) rule detail in
      let Q : Place → Type 0 = λ p. HasFormFault names terms rule detail p in
      subst Q (sym at.there) (form_fault at.front at.back at.term at.whole (subst P (at_front-true at.front) at.fault))

  to_front : {rule : Rule} {detail : Detail} (front back : List Term) (term : Term) → terms ≡ front ++ term ∷ back
      → ItemFault names (own_name terms) (is_nil front) (is_nil back) (item_of term) rule detail → FaultAt names (own_name terms) true terms rule detail (place_of term)
  to_front {rule} {detail} front back term whole fault =
      let P : Bool → Type 0 = λ b. ItemFault names (own_name terms) b (is_nil back) (item_of term) rule detail in
      record { front = front; term = term; back = back; whole = whole; fault = subst P (sym (at_front-true front)) fault; there = refl }

  to_place : (terms ≡ [] → ⊥) → {rule : Rule} {detail : Detail} {place : Place} → HasFormFault names terms rule detail place → FaultAt names (own_name terms) true terms rule detail place
  to_place some (no_item_at_all empty) = absurd (some empty)
  to_place some (wrong front back term whole is) = to_front front back term whole (wrong_item (if_wrong names (own_name terms) is))
  to_place some (outside front back term word rest whole is) = to_front front back term whole (outside_item word (ap first_of is))
  to_place some (wide front back term whole is) = to_front front back term whole (wide_item is)

some_term : (start : Term) (rest : List Term) → start ∷ rest ≡ [] → ⊥
some_term start rest same = grind (arith, same)

some_refusal : (refusal : Refusal) → None ≡ Some refusal → ⊥
some_refusal refusal same = grind (arith, same)

pub no_fault : (names : List (List ℕ)) (terms : List Term) → Rises terms → None ≡ first_refusal names terms → HasNone (HasFormFault names terms)
no_fault names [] up none rule detail place fault = some_refusal no_item none
no_fault names (start ∷ rest) up none rule detail place fault =
    let P : Option Refusal → Type 0 = λ o. IsRefusalOf names (opened (item_of start)) true (start ∷ rest) o in
    let clear : IsRefusalOf names (opened (item_of start)) true (start ∷ rest) None =
    subst P (sym none) (refusal_is names (opened (item_of start)) true (start ∷ rest) up) in
    clear rule detail place (to_place names (start ∷ rest) (some_term start rest) fault)

only_no_item : (names : List (List ℕ)) {rule : Rule} {detail : Detail} {place : Place} → HasFormFault names [] rule detail place
    → ComesFirst no_item.place.byte no_item.rule place.byte rule
only_no_item names (no_item_at_all empty) = inr (refl, omega arith)
only_no_item names (wrong front back term whole is) = absurd (nothing_in_none names 0 true WrongForm Plain no_item.place front back term whole)
only_no_item names (outside front back term word rest whole is) = absurd (nothing_in_none names 0 true WrongForm Plain no_item.place front back term whole)
only_no_item names (wide front back term whole is) = absurd (nothing_in_none names 0 true WrongForm Plain no_item.place front back term whole)

first_no_item : (names : List (List ℕ)) → IsFirst (HasFormFault names []) no_item
first_no_item names = record { fault = no_item_at_all refl; first = λ rule detail place fault. only_no_item names fault }

same_refusal : (refusal other : Refusal) → Some refusal ≡ Some other → refusal ≡ other
same_refusal refusal other same = cc

pub first_fault : (names : List (List ℕ)) (terms : List Term) (refusal : Refusal) → Rises terms → Some refusal ≡ first_refusal names terms → IsFirst (HasFormFault names terms) refusal
first_fault names [] refusal up found =
    let P : Refusal → Type 0 = λ r. IsFirst (HasFormFault names []) r in subst P (sym (same_refusal refusal no_item found)) (first_no_item names)
first_fault names (start ∷ rest) refusal up found =
    let P : Option Refusal → Type 0 = λ o. IsRefusalOf names (opened (item_of start)) true (start ∷ rest) o in
    let least : IsFirst (FaultAt names (opened (item_of start)) true (start ∷ rest)) refusal =
    subst P (sym found) (refusal_is names (opened (item_of start)) true (start ∷ rest) up) in
    record {
      fault = from_place names (start ∷ rest) refusal.rule refusal.detail refusal.place least.fault;
      first = λ rule detail place fault. least.first rule detail place (to_place names (start ∷ rest) (some_term start rest) fault);
    }
