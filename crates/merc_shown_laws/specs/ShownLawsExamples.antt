-- Worked examples of goals that show their runs: `X = 1 & Y = X`, of which Y is an output.
use Rattle.std.specs.Prelude.{◌≡◌, ℕ, suc, zero, pos, [], ◌∷◌, Option, Some, None, refl}
use Rattle.merc_base.specs.declared.category.Category.TheVariants.{Det}
use Rattle.merc_base.specs.declared.place.Span.{Span}
use Rattle.merc_goal_tree.specs.declared.goal.Symbol.TheVariants.{Integer}
use Rattle.merc_graded_tree.specs.declared.basic.BasicGoal.TheVariants.{Assign, Build}
use Rattle.merc_graded_tree.specs.declared.entries.Running.TheVariants.{Parallel}
use Rattle.merc_graded_tree.specs.Nodes.{Node, node, Basic, Conjunction, no_nodes, more_nodes}
use Rattle.merc_value.specs.Value.{Value, Int}
use Rattle.merc_meaning.specs.Trace.{Run, RunDone, Ends as RunEnds, Answer as RunAnswer}
use Rattle.merc_script.specs.declared.outcome.Outcome.TheVariants.{Ok as Fine}
use Rattle.merc_script.specs.Script.{Ends, WaitThen}
use Rattle.merc_course.specs.Course.{Ends as CourseEnds, Answer, Meets, AtWait, no_courses}
use Rattle.merc_carried.specs.Runs.{behind_steps}
use Rattle.merc_shown_laws.specs.Shows.{Shows, done, answers, waits, goes_on}
use Rattle.merc_shown_laws.specs.ShownLaws.{ShowsItsRun}

abbrev nowhere : Span
nowhere = record { first = 0; past = 0; line = 1 }

abbrev x_is_one : Node
x_is_one = node (Basic (Build 0 (Integer (pos 1)) [])) (0 ∷ []) (Some Det) nowhere

abbrev y_is_x : Node
y_is_x = node (Basic (Assign 1 0)) (1 ∷ []) (Some Det) nowhere

abbrev beside : Node
beside = node (Conjunction (Parallel None) (more_nodes x_is_one (more_nodes y_is_x no_nodes))) (1 ∷ []) (Some Det) nowhere

abbrev one : Value
one = Int (pos 1)

-- Y has its value beside others too ..
shows-example : ShowsItsRun [] [] beside 5 (1 ∷ [])
shows-example = goes_on 5 0 _ (RunAnswer (Some one ∷ []) (RunEnds RunDone)) 0 _ _ _ _ _ _ refl refl (waits 5 _ 1 1 one _ _ _ refl (answers 5 _ _ _ _ (done 5 0)))

-- .. and X, of which nothing is asked, has one in the run alone.
shows-not : ShowsItsRun [] [] beside 5 (0 ∷ []) → ⊥
shows-not (goes_on _ steps _ behind _ _ _ _ _ _ _ joins run_is shows) = other steps behind joins run_is (has_none _ _ behind shows) where
  has_none : (values : ℕ → Option Value) (left : ℕ) (run : Run) → Shows values left run (Meets (AtWait 1) no_courses (λ reply. Answer (None ∷ []) (CourseEnds RunDone))) (WaitThen 1 (Ends (Fine 0)))
      → run ≡ RunAnswer (None ∷ []) (RunEnds RunDone)
  has_none values left run (waits _ _ _ _ _ _ _ _ _ (answers _ _ _ _ _ (done _ _))) = refl

  other : (steps : ℕ) (behind : Run) → Fine 0 ≡ Fine steps → RunAnswer (Some one ∷ []) (RunEnds RunDone) ≡ behind_steps steps behind → behind ≡ RunAnswer (None ∷ []) (RunEnds RunDone) → ⊥
  other zero behind joins run_is none = cc
  other (suc steps) behind joins run_is none = cc
