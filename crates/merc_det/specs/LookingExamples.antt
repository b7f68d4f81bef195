-- The faults of a few goals that are left to look at.
use Rattle.std.specs.Prelude.{◌≡◌, ℕ, [], ◌∷◌, Some, None, refl}
use Rattle.merc_base.specs.declared.category.Category.{Category}
use Rattle.merc_base.specs.declared.category.Category.TheVariants.{Det, Semidet}
use Rattle.merc_base.specs.Places.{place_of}
use Rattle.merc_base.specs.declared.refusal.Detail.TheVariants.{Conjunct}
use Rattle.merc_base.specs.declared.refusal.Refusal.{Refusal}
use Rattle.merc_base.specs.declared.refusal.Rule.TheVariants.{ParallelCategory}
use Rattle.merc_graded_tree.specs.declared.basic.BasicGoal.TheVariants.{True, Test}
use Rattle.merc_graded_tree.specs.declared.entries.Running.TheVariants.{Sequential, Parallel}
use Rattle.merc_graded_tree.specs.Nodes.{Node, node, Goal, Basic, Conjunction, Negation, nodes_of}
use Rattle.merc_grading.specs.GradingExamples.{at, n, m}
use Rattle.merc_det.specs.Looking.{own_goal_faults, faults_in}

abbrev goal_at : ℕ → Category → Goal → Node
goal_at byte category goal = node goal [] (Some category) (at byte)

abbrev truth : Node
truth = goal_at 5 Det (Basic True)

abbrev test_at : ℕ → Node
test_at byte = goal_at byte Semidet (Basic (Test n m))

abbrev beside : ℕ → Goal
beside byte = Conjunction (Parallel None) (nodes_of (truth ∷ test_at byte ∷ []))

abbrev fault_at : ℕ → Refusal
fault_at byte = record { rule = ParallelCategory; place = place_of (at byte); detail = Conjunct 2 Semidet }

own : own_goal_faults (beside 20) ≡ fault_at 20 ∷ []
own = refl

-- those of a goal inside are not its own
own_not : own_goal_faults (Negation (goal_at 19 Semidet (beside 20))) ≡ []
own_not = refl

one_after_the_other : own_goal_faults (Conjunction Sequential (nodes_of (test_at 20 ∷ []))) ≡ []
one_after_the_other = refl

-- the last is looked at first
both : faults_in (goal_at 30 Semidet (beside 31) ∷ goal_at 19 Semidet (Negation (goal_at 19 Semidet (beside 20))) ∷ []) ≡ fault_at 20 ∷ fault_at 31 ∷ []
both = refl

both_not : faults_in (goal_at 30 Semidet (beside 31) ∷ goal_at 19 Semidet (beside 20) ∷ []) ≡ fault_at 20 ∷ [] → ⊥
both_not wrong = cc
