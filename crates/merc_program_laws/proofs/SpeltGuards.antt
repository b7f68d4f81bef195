-- An ordered goal with its tests written out has no switch.
use Rattle.std.proofs.Common.{ℕ, suc, ◌+◌, List, [], ◌∷◌, length}
use Rattle.merc_base.specs.declared.place.Span.{Span}
use Rattle.merc_tree.specs.declared.declarations.ModeDecl.{ModeDecl}
use Rattle.merc_graded_tree.specs.declared.basic.BasicGoal.{BasicGoal}
use Rattle.merc_graded_tree.specs.declared.basic.BasicGoal.TheVariants.{Split as SplitGoal, Arithmetic, Call}
use Rattle.merc_order.specs.Ordered.{Ordered, Step, Ordereds, put, Truth, Failure, Assign, Test, Build, Split, Computed, Compared, Raised, Called, Sequence, Beside, Choice, Decision, Denial, Within, no_goals, more_goals}
use Rattle.merc_order.specs.Spelt.{replaced, tested_places, untested_places, written, tests_of, with_tests, first_of, inputs_at, twins, spelt, spelt_step, spelt_all}
use Rattle.merc_program_laws.specs.Guarding.{HasGuards, AllHaveGuards}

tests_have : (at : ℕ) (variables : List ℕ) (span : Span) → AllHaveGuards (tests_of at variables span)
tests_have at [] span = tt
tests_have at (variable ∷ variables) span = (tt, tests_have (suc at) variables span)

tested_has : (at : ℕ) (goal : BasicGoal) (writes tested outputs : List ℕ) (span : Span) → HasGuards (with_tests at goal writes tested outputs span)
tested_has at goal writes [] outputs span = tt
tested_has at goal writes (first ∷ rest) outputs span = (tt, tests_have at (first ∷ rest) span)

module _ (modes : ℕ → List ModeDecl) where
  mutual
    pub spelt_has_guards : (at : ℕ) (ordered : Ordered) → HasGuards (spelt modes at ordered)
    spelt_has_guards at (put step outputs span) = step_has at step outputs span

    step_has : (at : ℕ) (step : Step) (outputs : List ℕ) (span : Span) → HasGuards (spelt_step modes at step outputs span)
    step_has at Truth outputs span = tt
    step_has at Failure outputs span = tt
    step_has at (Assign to from) outputs span = tt
    step_has at (Test one other) outputs span = tt
    step_has at (Build whole symbol arguments) outputs span = tt
    step_has at (Split whole symbol arguments tests) outputs span =
        tested_has at (SplitGoal whole symbol (replaced at arguments tests)) (untested_places arguments tests) (tested_places arguments tests) outputs span
    step_has at (Computed operation result left right tests) outputs span =
        tested_has at (Arithmetic operation (first_of (replaced at (result ∷ []) tests)) left right) (untested_places (result ∷ []) tests) (tested_places (result ∷ []) tests) outputs span
    step_has at (Compared comparison left right) outputs span = tt
    step_has at (Raised text) outputs span = tt
    step_has at (Called predicate mode arguments tests) outputs span =
        tested_has at (Call (record { predicate = predicate; mode = mode }) (replaced at arguments tests)) (written (inputs_at modes predicate mode) arguments tests) (tested_places arguments tests) outputs span
    step_has at (Sequence goals) outputs span = all_have at goals
    step_has at (Beside goals) outputs span = all_have at goals
    step_has at (Choice goals) outputs span = all_have at goals
    step_has at (Decision condition then_part else_part) outputs span = (
      spelt_has_guards at condition,
      spelt_has_guards (at + length (twins condition)) then_part,
      spelt_has_guards (at + length (twins condition) + length (twins then_part)) else_part,
    )
    step_has at (Denial goal) outputs span = spelt_has_guards at goal
    step_has at (Within own goal) outputs span = spelt_has_guards at goal

    all_have : (at : ℕ) (goals : Ordereds) → AllHaveGuards (spelt_all modes at goals)
    all_have at no_goals = tt
    all_have at (more_goals first rest) = (spelt_has_guards at first, all_have (at + length (twins first)) rest)
