-- What is known of a few disjuncts together, over the goals of the examples of categories.
use Rattle.std.specs.Prelude.{◌≡◌, ℕ, [], ◌∷◌}
use Rattle.std.proofs.Common.{◌∙◌, sym, arith}
use Rattle.merc_grading.specs.GradingExamples.{c, is_red}
use Rattle.merc_switch_choice.specs.declared.summary.Summary.{Summary}
use Rattle.merc_switch_choice.specs.Counting.{count_of}
use Rattle.merc_switch_choice.specs.Summaries.{Describes, DescribesAll}

-- nothing is counted
of_none : (summary : Summary) → ((variable : ℕ) → count_of summary.counts variable ≡ 0) → Describes summary []
of_none summary none = record { counts_are = none; gaps_are = tt }

-- `C = red` splits C
of_one_not : (summary : Summary) → ((variable : ℕ) → count_of summary.counts variable ≡ 0) → Describes summary (is_red c ∷ []) → ⊥
of_one_not summary none describes = let wrong : ◌≡◌ {A = ℕ} 0 1 = sym (none c) ∙ describes.counts_are c in absurd (omega (arith, wrong))

of_no_lists : (summary : Summary) → ((variable : ℕ) → count_of summary.counts variable ≡ 0) → DescribesAll summary ([] ∷ [] ∷ [])
of_no_lists summary none = record { counts_are = none; gaps_are = (tt, (tt, tt)) }

of_lists_not : (summary : Summary) → ((variable : ℕ) → count_of summary.counts variable ≡ 0) → DescribesAll summary ([] ∷ (is_red c ∷ []) ∷ []) → ⊥
of_lists_not summary none describes = let wrong : ◌≡◌ {A = ℕ} 0 1 = sym (none c) ∙ describes.counts_are c in absurd (omega (arith, wrong))
