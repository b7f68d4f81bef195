-- The variables of goals in flat form.
use Rattle.std.specs.Prelude.{ℕ, ◌==◌, List, [], ◌∷◌, ◌++◌, length, if◌then◌else◌}
use Rattle.std.specs.List.{filter, list_any}
use Rattle.merc_goal_tree.specs.declared.goal.SimpleGoal.{SimpleGoal}
use Rattle.merc_goal_tree.specs.declared.goal.SimpleGoal.TheVariants.{True, Fail, Same, Shape, Arithmetic, Compare, Raise, Call}
use Rattle.merc_goal_tree.specs.Nodes.{Node, Nodes, Simple, Conjunction, Parallel, Disjunction, Conditional, Negation, Quantified, no_nodes, more_nodes}

-- the variables of a goal that holds no others, each as often as it occurs
abbrev pub variables_of : SimpleGoal → List ℕ
variables_of True = []
variables_of Fail = []
variables_of (Same one other) = one ∷ other ∷ []
variables_of (Shape variable symbol arguments) = variable ∷ arguments
variables_of (Arithmetic operation result left right) = result ∷ left ∷ right ∷ []
variables_of (Compare comparison left right) = left ∷ right ∷ []
variables_of (Raise text) = text ∷ []
variables_of (Call number arguments) = arguments

-- the same of any goal, in the order of its parts; a quantifier's list is no occurrence
abbrev mutual
  pub variables : Node → List ℕ
  variables (Simple goal span) = variables_of goal
  variables (Conjunction goals span) = all_variables goals
  variables (Parallel goals span) = all_variables goals
  variables (Disjunction goals span) = all_variables goals
  variables (Conditional condition then_part else_part span) = variables condition ++ (variables then_part ++ variables else_part)
  variables (Negation goal span) = variables goal
  variables (Quantified own goal span) = variables goal

  pub all_variables : Nodes → List ℕ
  all_variables no_nodes = []
  all_variables (more_nodes first rest) = variables first ++ all_variables rest

-- how often a variable is among these
abbrev pub count : ℕ → List ℕ → ℕ
count variable among = length (filter (λ other. other == variable) among)

-- each number once
abbrev pub distinct : List ℕ → List ℕ
distinct [] = []
distinct (first ∷ rest) = if list_any (λ other. first == other) rest then distinct rest else first ∷ distinct rest
