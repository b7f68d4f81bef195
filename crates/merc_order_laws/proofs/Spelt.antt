-- An ordered goal with its tests written out has no switch.
use Rattle.std.proofs.Common.{ℕ, suc, ◌+◌, List, [], ◌∷◌, length}
use Rattle.merc_base.specs.declared.place.Span.{Span}
use Rattle.merc_tree.specs.declared.declarations.ModeDecl.{ModeDecl}
use Rattle.merc_graded_tree.specs.declared.basic.BasicGoal.{BasicGoal}
use Rattle.merc_graded_tree.specs.declared.basic.BasicGoal.TheVariants.{Split as SplitGoal, Arithmetic, Call}
use Rattle.merc_order.specs.Ordered.{Ordered, Step, Ordereds, put, Truth, Failure, Assign, Test, Build, Split, Computed, Compared, Raised, Called, Sequence, Beside, Choice, Decision, Denial, Within, no_goals, more_goals}
use Rattle.merc_order.specs.Spelt.{replaced, tested_places, untested_places, written, tests_of, with_tests, first_of, inputs_at, twins, spelt, spelt_step, spelt_all}
use Rattle.merc_order_laws.specs.Fitting.{HasNoSwitch, HaveNoSwitch, SpeltHasNoSwitch}

tests_have_none : (at : ℕ) (variables : List ℕ) (span : Span) → HaveNoSwitch (tests_of at variables span)
tests_have_none at [] span = tt
tests_have_none at (variable ∷ variables) span = (tt, tests_have_none (suc at) variables span)

tested_has_none : (at : ℕ) (goal : BasicGoal) (writes tested outputs : List ℕ) (span : Span) → HasNoSwitch (with_tests at goal writes tested outputs span)
tested_has_none at goal writes [] outputs span = tt
tested_has_none at goal writes (first ∷ rest) outputs span = (tt, tests_have_none at (first ∷ rest) span)

module _ (modes : ℕ → List ModeDecl) where
  mutual
    has_none : (at : ℕ) (ordered : Ordered) → HasNoSwitch (spelt modes at ordered)
    has_none at (put step outputs span) = step_has_none at step outputs span

    step_has_none : (at : ℕ) (step : Step) (outputs : List ℕ) (span : Span) → HasNoSwitch (spelt_step modes at step outputs span)
    step_has_none at Truth outputs span = tt
    step_has_none at Failure outputs span = tt
    step_has_none at (Assign to from) outputs span = tt
    step_has_none at (Test one other) outputs span = tt
    step_has_none at (Build whole symbol arguments) outputs span = tt
    step_has_none at (Split whole symbol arguments tests) outputs span =
        tested_has_none at (SplitGoal whole symbol (replaced at arguments tests)) (untested_places arguments tests) (tested_places arguments tests) outputs span
    step_has_none at (Computed operation result left right tests) outputs span =
        tested_has_none at (Arithmetic operation (first_of (replaced at (result ∷ []) tests)) left right) (untested_places (result ∷ []) tests) (tested_places (result ∷ []) tests) outputs span
    step_has_none at (Compared comparison left right) outputs span = tt
    step_has_none at (Raised text) outputs span = tt
    step_has_none at (Called predicate mode arguments tests) outputs span =
        tested_has_none at (Call (record { predicate = predicate; mode = mode }) (replaced at arguments tests))
        (written (inputs_at modes predicate mode) arguments tests) (tested_places arguments tests) outputs span
    step_has_none at (Sequence goals) outputs span = all_have_none at goals
    step_has_none at (Beside goals) outputs span = all_have_none at goals
    step_has_none at (Choice goals) outputs span = all_have_none at goals
    step_has_none at (Decision condition then_part else_part) outputs span = (
      has_none at condition,
      has_none (at + length (twins condition)) then_part,
      has_none (at + length (twins condition) + length (twins then_part)) else_part,
    )
    step_has_none at (Denial goal) outputs span = has_none at goal
    step_has_none at (Within own goal) outputs span = has_none at goal

    all_have_none : (at : ℕ) (goals : Ordereds) → HaveNoSwitch (spelt_all modes at goals)
    all_have_none at no_goals = tt
    all_have_none at (more_goals first rest) = (has_none at first, all_have_none (at + length (twins first)) rest)

pub spelt_has_no_switch : SpeltHasNoSwitch
spelt_has_no_switch modes number ordered = has_none modes number ordered
