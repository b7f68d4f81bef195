-- What is passed from a frame with a sum in it.
use Rattle.std.proofs.Common.{◌≡◌, ℕ, zero, suc, ◌<◌, List, [], ◌∷◌, ◌++◌, length, slice_get, slice_set, refl, sym, ap, ◌∙◌, subst}
use Rattle.std.specs.List.{All}
use Rattle.std.proofs.lemmas.List.Elements.{All-head, All-tail}
use Rattle.merc_frames.specs.declared.passing.Pass.{Pass}
use Rattle.merc_frames.specs.declared.slot.Slot.{Slot}
use Rattle.merc_frames.specs.Handing.{passed, slot_or_empty}
use Rattle.merc_load.specs.PassingSum.{IsTakenOut}
use Rattle.merc_store.proofs.FrameLemmas.{get_set_same, get_set_other}

-- It is not passed to the slot, and not from the variable.

abbrev NotTo : ℕ → Pass → Type 0
NotTo slot pass = pass.to ≡ slot → ⊥

abbrev NotFrom : ℕ → Pass → Type 0
NotFrom variable pass = pass.from ≡ variable → ⊥

-- two slots that are set, in either order
set_turned : (xs : List Slot) (i j : ℕ) (a b : Slot) → (i ≡ j → ⊥) → slice_set (slice_set xs i a) j b ≡ slice_set (slice_set xs j b) i a
set_turned [] zero zero a b apart = refl
set_turned [] zero (suc j) a b apart = refl
set_turned [] (suc i) zero a b apart = refl
set_turned [] (suc i) (suc j) a b apart = refl
set_turned (x ∷ xs) zero zero a b apart = absurd (apart refl)
set_turned (x ∷ xs) zero (suc j) a b apart = refl
set_turned (x ∷ xs) (suc i) zero a b apart = refl
set_turned (x ∷ xs) (suc i) (suc j) a b apart = ap (λ ys. x ∷ ys) (set_turned xs i j a b (λ e. apart (ap suc e)))

passed_append : (before behind : List Pass) (from to : List Slot) → passed (before ++ behind) from to ≡ passed behind from (passed before from to)
passed_append [] behind from to = refl
passed_append (pass ∷ before) behind from to = passed_append before behind from (slice_set to pass.to (slot_or_empty (slice_get from pass.from)))

-- a slot to which nothing is passed may be set before or behind
set_behind : (passes : List Pass) (from to : List Slot) (slot : ℕ) (held : Slot) → All (NotTo slot) passes → passed passes from (slice_set to slot held) ≡ slice_set (passed passes from to) slot held
set_behind [] from to slot held alone = refl
set_behind (pass ∷ passes) from to slot held alone =
    let given : Slot = slot_or_empty (slice_get from pass.from) in
    let apart : pass.to ≡ slot → ⊥ = All-head (NotTo slot) pass passes alone in
    ap (passed passes from) (set_turned to slot pass.to held given (λ e. apart (sym e)))
    ∙ set_behind passes from (slice_set to pass.to given) slot held (All-tail (NotTo slot) pass passes alone)

-- Given is a variable of the old frame, and what it comes to hold.
module _ (variable : ℕ) (held : Slot) where
  abbrev changed : List Slot → List Slot
  changed from = slice_set from variable held

  passed_unused : (passes : List Pass) (from to : List Slot) → All (NotFrom variable) passes → passed passes (changed from) to ≡ passed passes from to
  passed_unused [] from to unused = refl
  passed_unused (pass ∷ passes) from to unused =
      ap (λ s. passed passes (changed from) (slice_set to pass.to (slot_or_empty s))) (get_set_other from variable pass.from held (All-head (NotFrom variable) pass passes unused))
      ∙ passed_unused passes from (slice_set to pass.to (slot_or_empty (slice_get from pass.from))) (All-tail (NotFrom variable) pass passes unused)

  passed_last : (before behind : List Pass) (from : List Slot) (slot : ℕ) (to : List Slot) → variable < length from → All (NotTo slot) behind → All (NotFrom variable) (before ++ behind)
      → passed (before ++ record { from = variable; to = slot } ∷ behind) (changed from) to ≡ slice_set (passed (before ++ behind) from to) slot held
  passed_last before behind from slot to within alone unused =
      passed_append before (record { from = variable; to = slot } ∷ behind) (changed from) to
      ∙ ap (λ s. passed behind (changed from) (slice_set (passed before (changed from) to) slot (slot_or_empty s))) (get_set_same from variable held within)
      ∙ set_behind behind (changed from) (passed before (changed from) to) slot held alone
      ∙ ap (λ t. slice_set t slot held) (sym (passed_append before behind (changed from) to) ∙ passed_unused (before ++ behind) from to unused)

  -- A variable that is passed once may keep what it holds: the new frame is given it behind all that is passed.
  pub sum_handed : (slot : ℕ) (inputs passes : List Pass) (from to : List Slot) → variable < length from → IsTakenOut variable slot inputs passes
      → passed inputs (changed from) to ≡ slice_set (passed passes from to) slot held
  sum_handed slot inputs passes from to within out =
      ap (λ ps. passed ps (changed from) to) out.whole
      ∙ passed_last out.before out.behind from slot to within out.alone (subst (All (NotFrom variable)) out.left_is out.passed_once)
      ∙ ap (λ ps. slice_set (passed ps from to) slot held) (sym out.left_is)
