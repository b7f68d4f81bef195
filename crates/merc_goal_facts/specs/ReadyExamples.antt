-- When the condition and the then part of an if-then-else are ready, over variables by their numbers.
use Rattle.std.specs.Prelude.{◌≡◌, ℕ, ◌==◌, true, false, List, [], refl}
use Rattle.merc_goal_tree.specs.declared.goal.SimpleGoal.TheVariants.{Same, Raise}
use Rattle.merc_goal_tree.specs.Nodes.{Node, Simple}
use Rattle.merc_order.specs.Bound.{Bound, nothing}
use Rattle.merc_tree.specs.Term.{no_span}
use Rattle.merc_tree.specs.declared.declarations.ModeDecl.{ModeDecl}
use Rattle.merc_goal_facts.specs.Ready.{is_arm_ready}

abbrev raise : ℕ → Node
raise variable = Simple (Raise variable) no_span

-- each variable occurs once, or more often
abbrev often : ℕ → ℕ → ℕ
often count variable = count

abbrev no_modes : ℕ → List ModeDecl
no_modes predicate = []

abbrev only_two : Bound
only_two variable = variable == 2

-- `1 = 2 -> error 1`, where 2 is bound and 1 occurs nowhere else: the condition binds 1 for the then part
bound_by_condition : is_arm_ready (often 2) no_modes (Simple (Same 1 2) no_span) (raise 1) only_two ≡ true
bound_by_condition = refl

-- The same where 1 occurs outside too.
bound_outside : is_arm_ready (often 3) no_modes (Simple (Same 1 2) no_span) (raise 1) only_two ≡ false
bound_outside = refl

nothing_bound : is_arm_ready (often 2) no_modes (Simple (Same 1 2) no_span) (raise 1) nothing ≡ false
nothing_bound = refl

-- The then part needs 3.
then_not_ready : is_arm_ready (often 2) no_modes (Simple (Same 1 2) no_span) (raise 3) only_two ≡ false
then_not_ready = refl
