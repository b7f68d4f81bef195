-- Counts of one of a few lists of disjuncts.
use Rattle.std.specs.Prelude.{◌≡◌, ℕ, [], ◌∷◌, Some, None}
use Rattle.std.proofs.Common.{◌∙◌, sym, arith}
use Rattle.merc_grading.specs.GradingExamples.{n}
use Rattle.merc_switch_choice.specs.declared.counts.VarCounts.{VarCounts}
use Rattle.merc_switch_choice.specs.Counting.{count_of}
use Rattle.merc_switch.specs.SelectionsExamples.{whole, two}
use Rattle.merc_switch.specs.Handing.{IsHanded}

none_handed : IsHanded whole None (two ∷ [])
none_handed = tt

-- where each variable has the count 0

of_the_second : (counts : VarCounts) → ((variable : ℕ) → count_of counts variable ≡ 0) → IsHanded whole (Some (record { counts = counts; index = 1 })) (two ∷ [] ∷ [])
of_the_second counts none = λ within. none

not_of_the_first : (counts : VarCounts) → ((variable : ℕ) → count_of counts variable ≡ 0) → IsHanded whole (Some (record { counts = counts; index = 0 })) (two ∷ [] ∷ []) → ⊥
not_of_the_first counts none are = let wrong : ◌≡◌ {A = ℕ} 0 1 = sym (none n) ∙ are (omega arith) n in absurd (omega (arith, wrong))

-- the list is there no more
taken_out : (counts : VarCounts) → IsHanded whole (Some (record { counts = counts; index = 1 })) (two ∷ [])
taken_out counts within = absurd (omega (arith, within))
