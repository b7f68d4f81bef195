-- What holds of each row of the operator table.
use Rattle.std.proofs.Common.{◌≡◌, ℕ, ◌+◌, ◌-◌, ◌<◌, ◌≤◌, Bool, true, false, ◌||◌, ◌&&◌, not, cond, ◌==◌, nat_le, List, [], ◌∷◌, Some, None, refl, sym, ap, subst, ◌∙◌, arith, eqb-true, leb-true}
use Rattle.std.specs.Bool.{if◌then◌else◌}
use Rattle.std.specs.List.{find, list_all}
use Rattle.std.proofs.lemmas.Bool.{and_parts}
use Rattle.std.proofs.lemmas.Option.{same_Some}
use Rattle.merc_base.specs.Names.{comma_name, minus_name, minus_name, minus_name}
use Rattle.merc_terms.specs.declared.operators.Operator.{Operator}
use Rattle.merc_terms.specs.Operators.{operators, infix_named, prefix_named, is_infix, begins_y, ends_y, takes_two, first_most, last_most}

pub find_holds : (test : Operator → Bool) (rows : List Operator) (row : Operator) → find test rows ≡ Some row → test row ≡ true
find_holds test [] row found = cc
find_holds test (first ∷ rows) row found = go (test first) refl found (λ same. find_holds test rows row same)
  where
    go : (b : Bool) → test first ≡ b → cond b (Some first) (find test rows) ≡ Some row → (find test rows ≡ Some row → test row ≡ true) → test row ≡ true
    go true is same later = ap test (sym (same_Some first row same)) ∙ is
    go false is same later = later same

-- what holds of each row holds of the one that is found
pub find_all : (property test : Operator → Bool) (rows : List Operator) (row : Operator) → list_all property rows ≡ true → find test rows ≡ Some row → property row ≡ true
find_all property test [] row all found = cc
find_all property test (first ∷ rows) row all found =
    let parts = and_parts (property first) (list_all property rows) all in
    go (test first) parts.0 (λ same. find_all property test rows row parts.1 same) found
  where
    go : (b : Bool) → property first ≡ true → (find test rows ≡ Some row → property row ≡ true) → cond b (Some first) (find test rows) ≡ Some row → property row ≡ true
    go true here later same = ap property (sym (same_Some first row same)) ∙ here
    go false here later same = later same

-- No priority is 0. An operator that may have its own priority to the left has at most 500, one that may have it to the right
-- more than 500. One that takes two operands has less than 1000.
abbrev is_apart : Operator → Bool
is_apart operator =
    nat_le 1 operator.priority
    && ((not (begins_y operator.fixity) || nat_le operator.priority 500)
    && ((not (ends_y operator.fixity) || nat_le 501 operator.priority)
    && (not (takes_two operator.fixity) || nat_le operator.priority 999)))

all_apart : list_all is_apart operators ≡ true
unfolding operators
all_apart = refl

pub record IsApart (operator : Operator) : Type 0 where
  pub least : 1 ≤ operator.priority
  pub left : begins_y operator.fixity ≡ true → operator.priority ≤ 500
  pub right : ends_y operator.fixity ≡ true → 501 ≤ operator.priority
  pub two : takes_two operator.fixity ≡ true → operator.priority ≤ 999

implied : (b c : Bool) → (not b || c) ≡ true → b ≡ true → c ≡ true
implied true c either is = either
implied false c either is = cc

apart_by : (operator : Operator) → is_apart operator ≡ true → IsApart operator
apart_by operator all =
    let a = and_parts (nat_le 1 operator.priority) _ all in
    let c = and_parts (not (begins_y operator.fixity) || nat_le operator.priority 500) _ a.1 in
    let d = and_parts (not (ends_y operator.fixity) || nat_le 501 operator.priority) _ c.1 in
    record {
      least = leb-true 1 operator.priority a.0;
      left = λ is. leb-true operator.priority 500 (implied (begins_y operator.fixity) (nat_le operator.priority 500) c.0 is);
      right = λ is. leb-true 501 operator.priority (implied (ends_y operator.fixity) (nat_le 501 operator.priority) d.0 is);
      two = λ is. leb-true operator.priority 999 (implied (takes_two operator.fixity) (nat_le operator.priority 999) d.1 is);
    }

pub infix_apart : (name : ℕ) (operator : Operator) → infix_named name ≡ Some operator → IsApart operator
infix_apart name operator found = apart_by operator (find_all is_apart _ operators operator all_apart found)

pub prefix_apart : (name : ℕ) (operator : Operator) → prefix_named name ≡ Some operator → IsApart operator
prefix_apart name operator found = apart_by operator (find_all is_apart _ operators operator all_apart found)

pub infix_name : (name : ℕ) (operator : Operator) → infix_named name ≡ Some operator → operator.name ≡ name
infix_name name operator found =
    eqb-true operator.name name (and_parts (operator.name == name) (is_infix operator.fixity) (find_holds (λ row. (row.name == name) && is_infix row.fixity) operators operator found)).0

pub prefix_name : (name : ℕ) (operator : Operator) → prefix_named name ≡ Some operator → operator.name ≡ name
prefix_name name operator found =
    eqb-true operator.name name (and_parts (operator.name == name) (not (is_infix operator.fixity)) (find_holds (λ row. (row.name == name) && not (is_infix row.fixity)) operators operator found)).0

-- an operator that takes two operands binds tighter than an argument may

abbrev is_quantifier_row : Operator → Bool
is_quantifier_row operator = not (takes_two operator.fixity) || operator.priority == 950

all_quantifiers : list_all is_quantifier_row operators ≡ true
unfolding operators
all_quantifiers = refl

pub quantifier_priority : (name : ℕ) (operator : Operator) → prefix_named name ≡ Some operator → takes_two operator.fixity ≡ true → operator.priority ≡ 950
quantifier_priority name operator found two =
    let either = find_all is_quantifier_row _ operators operator all_quantifiers found in
    eqb-true operator.priority 950 (implied (takes_two operator.fixity) (operator.priority == 950) either two)

-- the comma's row
pub comma_row : (operator : Operator) → infix_named comma_name ≡ Some operator → operator.priority ≡ 1000
unfolding operators
comma_row operator found = ap (λ (o : Operator). o.priority) (sym (same_Some _ operator found))

-- the sign's name is a prefix operator's
pub minus_prefix : (name : ℕ) → prefix_named name ≡ None → (name == minus_name) ≡ false
unfolding operators
minus_prefix name none = go (name == minus_name) refl
  where
    go : (b : Bool) → (name == minus_name) ≡ b → b ≡ false
    go true is = let named : prefix_named minus_name ≡ None = subst (λ (n : ℕ). prefix_named n ≡ None) (eqb-true name minus_name is) none in cc
    go false is = refl

-- the greatest priorities of operands

pub first_most_below : (operator : Operator) → first_most operator ≤ operator.priority
first_most_below operator = go (begins_y operator.fixity)
  where
    go : (b : Bool) → (if b then operator.priority else operator.priority - 1) ≤ operator.priority
    go true = omega arith
    go false = omega arith

pub last_most_below : (operator : Operator) → last_most operator ≤ operator.priority
last_most_below operator = go (ends_y operator.fixity)
  where
    go : (b : Bool) → (if b then operator.priority else operator.priority - 1) ≤ operator.priority
    go true = omega arith
    go false = omega arith

-- An infix operator that a term at the first one's priority may stand before does not stand in the first one's last operand.
pub most_apart : (operator other : Operator) → IsApart operator → IsApart other → operator.priority ≤ first_most other → last_most operator < other.priority
most_apart operator other apart apart' fits = go (ends_y operator.fixity) (begins_y other.fixity) apart.right apart'.left fits
  where
    go : (b c : Bool) → (b ≡ true → 501 ≤ operator.priority) → (c ≡ true → other.priority ≤ 500)
        → operator.priority ≤ (if c then other.priority else other.priority - 1) → (if b then operator.priority else operator.priority - 1) < other.priority
    go true true right left within = let low = right refl in let high = left refl in omega (arith, apart.least, apart'.least)
    go true false right left within = omega (arith, apart.least, apart'.least)
    go false true right left within = omega (arith, apart.least, apart'.least)
    go false false right left within = omega (arith, apart.least, apart'.least)

pub first_most_two : (operator : Operator) → IsApart operator → takes_two operator.fixity ≡ true → first_most operator ≤ 999
first_most_two operator apart two = let below = first_most_below operator in let most = apart.two two in omega arith

pub first_most_least : (operator : Operator) → operator.priority ≤ first_most operator + 1
first_most_least operator = go (begins_y operator.fixity)
  where
    go : (b : Bool) → operator.priority ≤ (if b then operator.priority else operator.priority - 1) + 1
    go true = omega arith
    go false = omega arith
