-- Counters that take in more.
use Rattle.std.proofs.Common.{◌≡◌, ℕ, zero, suc, ◌+◌, ◌≤◌, ◌==◌, Bool, true, false, if◌then◌else◌, Some, refl, ap, sym, ◌∙◌, subst, arith}
use Rattle.std.proofs.lemmas.Bool.{eqb-true, eqb-false}
use Rattle.merc_meaning.specs.Counting.{counted}
use Rattle.merc_pool.specs.declared.load.Carried.{Carried}
use Rattle.merc_pool.specs.declared.hand.Hand.{Hand}
use Rattle.merc_pool.specs.declared.hand.Hand.TheVariants.{Empty, Runs, Given, Ends, Came}
use Rattle.merc_pool.specs.declared.shared.Slot.{Slot}
use Rattle.merc_pool.specs.Sessions.{steps_of, steps_told}

step_less : (low high : ℕ) (x y : Bool) → (low == 18446744073709551615) ≡ x → (high == 18446744073709551615) ≡ y → low ≤ high → (if x then low else suc low) ≤ (if y then high else suc high)
step_less low high true true e f less = less
step_less low high true false e f less = omega (arith, less)
step_less low high false true e f less = omega (arith, less, eqb-true high 18446744073709551615 f, eqb-false low 18446744073709551615 e)
step_less low high false false e f less = omega (arith, less)

step_more : (before : ℕ) (x : Bool) → before ≤ (if x then before else suc before)
step_more before true = omega arith
step_more before false = omega arith

-- who has counted more counts to more
pub counted_less : (made low high : ℕ) → low ≤ high → counted low made ≤ counted high made
counted_less zero low high less = less
counted_less (suc made) low high less =
    counted_less made (if low == 18446744073709551615 then low else suc low) (if high == 18446744073709551615 then high else suc high)
    (step_less low high (low == 18446744073709551615) (high == 18446744073709551615) refl refl less)

pub counted_more : (made before : ℕ) → before ≤ counted before made
counted_more zero before = omega arith
counted_more (suc made) before =
    let step = step_more before (before == 18446744073709551615) in
    let rest = counted_more made (if before == 18446744073709551615 then before else suc before) in
    omega (arith, step, rest)

-- what is taken in behind more is counted
pub counted_behind : (made before between after : ℕ) → before ≤ between → counted between made ≤ after → counted before made ≤ after
counted_behind made before between after less known =
    let more = counted_less made before between less in
    omega (arith, more, known)

-- .. and so is what is taken in before more
pub counted_before : (made before between after : ℕ) → counted before made ≤ between → between ≤ after → counted before made ≤ after
counted_before made before between after less known = omega (arith, less, known)

module _ {M N H : Type 0} where
  hand_told : (put_by before between after : ℕ) (hand : Hand (Carried M N) H) → between ≡ counted before put_by → counted between (steps_of 0 hand) ≤ after → counted before (steps_of put_by hand) ≤ after
  hand_told put_by before between after Empty is known = omega (arith, is, known)
  hand_told put_by before between after (Runs branch) is known =
      counted_behind branch.value.load.ticks before between after (rw is (counted_more put_by before)) known
  hand_told put_by before between after (Given branch value) is known = omega (arith, is, known)
  hand_told put_by before between after (Ends branch outcome) is known = omega (arith, is, known)
  hand_told put_by before between after (Came branch stop) is known = omega (arith, is, known)

module _ {M N H S P : Type 0} where
  pub slot_told : (put_by before between after : ℕ) (slot : Slot (Carried M N) H S P) → between ≡ counted before put_by → counted between (steps_of 0 slot.hand) ≤ after
      → counted before (steps_told put_by (Some slot)) ≤ after
  slot_told put_by before between after slot is known = hand_told put_by before between after slot.hand is known

-- who has counted more has counted enough
pub counted_on : (before between after made : ℕ) → before ≤ between → counted between made ≤ after → before ≤ after
counted_on before between after made less known =
    let more = counted_more made between in
    omega (arith, less, more, known)

-- what a worker has of its own comes behind what the root has that it has in hand
module _ {M N H : Type 0} where
  pub runs_counted : (before between after own ticks : ℕ) (hand : Hand (Carried M N) H) (branch : _) → hand ≡ Runs branch → ticks ≡ branch.value.load.ticks
      → between ≡ counted before ticks → after ≡ counted between own → counted before (steps_of 0 hand) ≤ after
  runs_counted before between after own ticks hand branch in_hand same one two =
      let e : steps_of 0 hand ≡ ticks = ap (λ h. steps_of 0 h) in_hand ∙ sym same in
      let less = counted_more own between in
      subst (λ k. counted before k ≤ after) (sym e) (omega (arith, less, one, two))

  pub others_counted : (before between after own : ℕ) (hand : Hand (Carried M N) H) → ((branch : _) → hand ≡ Runs branch → ⊥) → between ≡ before → after ≡ counted between own
      → counted before (steps_of 0 hand) ≤ after
  others_counted before between after own Empty not one two = let less = counted_more own between in omega (arith, less, one, two)
  others_counted before between after own (Runs branch) not one two = absurd (not branch refl)
  others_counted before between after own (Given branch value) not one two = let less = counted_more own between in omega (arith, less, one, two)
  others_counted before between after own (Ends branch outcome) not one two = let less = counted_more own between in omega (arith, less, one, two)
  others_counted before between after own (Came branch stop) not one two = let less = counted_more own between in omega (arith, less, one, two)
