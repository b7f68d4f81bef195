-- In how many of a few disjuncts an output occurs, over the goals of the examples of categories.
use Rattle.std.specs.Prelude.{◌≡◌, ℕ, true, List, [], ◌∷◌, Some, None, refl}
use Rattle.std.proofs.Common.{◌∙◌, sym, arith}
use Rattle.merc_graded_tree.specs.declared.basic.BasicGoal.TheVariants.{Test}
use Rattle.merc_graded_tree.specs.Nodes.{Node, node, Disjunction, nodes_of, span_of}
use Rattle.merc_grading.specs.GradingExamples.{c, d, n, m, basic, both, is_red, is_green}
use Rattle.merc_switch_choice.specs.declared.counts.VarCounts.{VarCounts}
use Rattle.merc_switch_choice.specs.Counting.{counting, count_of}
use Rattle.merc_switch.specs.Selections.{has_output, CountsOutputs, MayCount, MayCountAll}

-- `C = red, N = M` and `C = green`
abbrev pub two : List Node
two = both (is_red c ∷ basic (Test n m) ∷ []) ∷ is_green c ∷ []

occurs : has_output (n ∷ d ∷ []) n (basic (Test n m)) ≡ true
occurs = refl

occurs_not : has_output (n ∷ d ∷ []) d (basic (Test n m)) ≡ true → ⊥
occurs_not wrong = cc

-- M occurs, and is no output
no_output : has_output (n ∷ d ∷ []) m (basic (Test n m)) ≡ true → ⊥
no_output wrong = cc

-- N occurs in one, C in both
counted : counting (has_output (n ∷ c ∷ []) n) two ≡ 1
counted = refl

counted_both : counting (has_output (n ∷ c ∷ []) c) two ≡ 2
counted_both = refl

-- where each variable has the count 0

counts_none : (counts : VarCounts) → ((variable : ℕ) → count_of counts variable ≡ 0) → CountsOutputs (n ∷ []) counts []
counts_none counts none = none

counts_not : (counts : VarCounts) → ((variable : ℕ) → count_of counts variable ≡ 0) → CountsOutputs (n ∷ []) counts two → ⊥
counts_not counts none are = let wrong : ◌≡◌ {A = ℕ} 0 1 = sym (none n) ∙ are n in absurd (omega (arith, wrong))

-- a disjunction of which N is the only output
abbrev pub whole : Node
whole = node (Disjunction (nodes_of two)) (n ∷ []) None (span_of (is_green c))

not_yet : MayCount whole None two
not_yet = tt

wrongly : (counts : VarCounts) → ((variable : ℕ) → count_of counts variable ≡ 0) → MayCount whole (Some counts) two → ⊥
wrongly counts none are = counts_not counts none are

together : (counts : VarCounts) → ((variable : ℕ) → count_of counts variable ≡ 0) → MayCountAll whole (Some counts) ([] ∷ [] ∷ [])
together counts none = none

-- N occurs in one of them
together_not : (counts : VarCounts) → ((variable : ℕ) → count_of counts variable ≡ 0) → MayCountAll whole (Some counts) ([] ∷ two ∷ []) → ⊥
together_not counts none are = let wrong : ◌≡◌ {A = ℕ} 0 1 = sym (none n) ∙ are n in absurd (omega (arith, wrong))
