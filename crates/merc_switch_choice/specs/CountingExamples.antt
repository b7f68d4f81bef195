-- How many of a few disjuncts split a variable, over the goals of the examples of categories.
use Rattle.std.specs.Prelude.{◌≡◌, ℕ, true, false, List, [], ◌∷◌, Some, None, refl}
use Rattle.std.proofs.Common.{◌∙◌, sym, arith}
use Rattle.merc_graded_tree.specs.Nodes.{Node}
use Rattle.merc_grading.specs.GradingExamples.{c, d, both, is_red, is_green}
use Rattle.merc_switch_choice.specs.declared.counts.VarCounts.{VarCounts}
use Rattle.merc_switch_choice.specs.Counting.{occurrences, counting, all_counting, splitting, all_splitting, number_of, count_of, Counts}

twice : occurrences (c ∷ d ∷ c ∷ []) c ≡ 2
twice = refl

not_twice : occurrences (c ∷ d ∷ c ∷ []) d ≡ 2 → ⊥
not_twice wrong = cc

-- `C = red` and `C = red, D = green`
abbrev two : List Node
two = is_red c ∷ both (is_red c ∷ is_green d ∷ []) ∷ []

-- the test that none passes, and that each passes

none_passes : counting (λ disjunct. false) two ≡ 0
none_passes = refl

not_one_passes : counting (λ disjunct. true) two ≡ 1 → ⊥
not_one_passes wrong = cc

each_of_both_lists : all_counting (λ disjunct. true) (two ∷ two ∷ []) ≡ 4
each_of_both_lists = refl

not_the_first_alone : all_counting (λ disjunct. true) (two ∷ two ∷ []) ≡ 2 → ⊥
not_the_first_alone wrong = cc

split_by_both : splitting two c ≡ 2
split_by_both = refl

split_by_one : splitting two d ≡ 1
split_by_one = refl

not_by_both : splitting two d ≡ 2 → ⊥
not_by_both wrong = cc

of_both_lists : all_splitting (two ∷ (is_green d ∷ []) ∷ []) d ≡ 2
of_both_lists = refl

not_of_the_first : all_splitting (two ∷ (is_green d ∷ []) ∷ []) d ≡ 1 → ⊥
not_of_the_first wrong = cc

no_count : number_of None ≡ 0
no_count = refl

a_count : number_of (Some 3) ≡ 3
a_count = refl

-- counts with C once are not those of both
too_few : (counts : VarCounts) → count_of counts c ≡ 1 → Counts counts two → ⊥
too_few counts once are = let wrong : ◌≡◌ {A = ℕ} 1 2 = sym once ∙ are c in absurd (omega (arith, wrong))
