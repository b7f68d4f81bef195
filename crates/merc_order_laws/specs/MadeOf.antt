-- Which of the goals of a goal as it is written each goal of it as it is ordered stands for.
use Rattle.std.specs.Prelude.{ℕ, suc, ◌==◌, List, [], ◌∷◌, map, if◌then◌else◌}
use Rattle.std.specs.List.{AllByRecursion, Contains}
use Rattle.merc_goal_tree.specs.declared.goal.SimpleGoal.{SimpleGoal}
use Rattle.merc_goal_tree.specs.declared.goal.SimpleGoal.TheVariants.{True, Fail, Same, Shape, Arithmetic, Compare, Raise, Call}
use Rattle.merc_goal_tree.specs.Nodes.{Node}
use Rattle.merc_graded_tree.specs.Nodes.{Node as OrderedNode}
use Rattle.merc_order_laws.specs.WrittenGoals.{simple_goals, basic_goals, written_goal}

-- other variables in the place of a goal's
abbrev pub renamed : (ℕ → ℕ) → SimpleGoal → SimpleGoal
renamed new True = True
renamed new Fail = Fail
renamed new (Same one other) = Same (new one) (new other)
renamed new (Shape whole symbol arguments) = Shape (new whole) symbol (map new arguments)
renamed new (Arithmetic operation result left right) = Arithmetic operation (new result) (new left) (new right)
renamed new (Compare comparison left right) = Compare comparison (new left) (new right)
renamed new (Raise text) = Raise (new text)
renamed new (Call predicate arguments) = Call predicate (map new arguments)

-- The variable that one stands for: the fresh ones, numbered from here on, stand for these, and all others for themselves.
abbrev pub original : ℕ → List ℕ → ℕ → ℕ
original number [] variable = variable
original number (twin ∷ twins) variable = if variable == number then twin else original (suc number) twins variable

-- A goal is one of these, a unification among these turned round, or a unification of a variable with itself.
pub data StandsFor (goals : List SimpleGoal) : SimpleGoal → Type 0 where
  as_written : (goal : SimpleGoal) → Contains goals goal → StandsFor goals goal
  turned_round : (one other : ℕ) → Contains goals (Same one other) → StandsFor goals (Same other one)
  with_itself : (variable : ℕ) → StandsFor goals (Same variable variable)

-- Each goal of an ordered goal that holds no others stands for one of the goal as it is written, once other variables stand in the place of its own.
abbrev pub IsMadeOf : Node → (ℕ → ℕ) → OrderedNode → Type 0
IsMadeOf goal new tree = AllByRecursion (λ basic. StandsFor (simple_goals goal) (renamed new (written_goal basic))) (basic_goals tree)
