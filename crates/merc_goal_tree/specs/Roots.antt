-- What a goal is at its root, and goals that become one.
use Rattle.std.specs.Prelude.{ℕ, ◌-◌, List, [], ◌∷◌, ◌++◌, length, take, drop}
use Rattle.std.specs.List.{slice_index_or}
use Rattle.merc_base.specs.declared.place.Span.{Span}
use Rattle.merc_tree.specs.Term.{no_span}
use Rattle.merc_goal_tree.specs.declared.goal.SimpleGoal.TheVariants.{True}
use Rattle.merc_goal_tree.specs.declared.entries.Root.{Root}
use Rattle.merc_goal_tree.specs.declared.entries.Root.TheVariants.{Simple as SimpleRoot, Conjunction as ConjunctionRoot, Parallel as ParallelRoot, Disjunction as DisjunctionRoot, Conditional as ConditionalRoot, Negation as NegationRoot, Quantified as QuantifiedRoot}
use Rattle.merc_goal_tree.specs.Nodes.{Node, Simple, Conjunction, Parallel, Disjunction, Conditional, Negation, Quantified, nodes_of, list_of}

abbrev pub root_of : Node → Root
root_of (Simple goal span) = SimpleRoot goal
root_of (Conjunction goals span) = ConjunctionRoot (length (list_of goals))
root_of (Parallel goals span) = ParallelRoot (length (list_of goals))
root_of (Disjunction goals span) = DisjunctionRoot (length (list_of goals))
root_of (Conditional condition then_part else_part span) = ConditionalRoot
root_of (Negation goal span) = NegationRoot
root_of (Quantified variables goal span) = QuantifiedRoot variables

-- the goals that a goal joins
abbrev pub goals_of : Node → List Node
goals_of (Simple goal span) = []
goals_of (Conjunction goals span) = list_of goals
goals_of (Parallel goals span) = list_of goals
goals_of (Disjunction goals span) = list_of goals
goals_of (Conditional condition then_part else_part span) = condition ∷ then_part ∷ else_part ∷ []
goals_of (Negation goal span) = goal ∷ []
goals_of (Quantified variables goal span) = goal ∷ []

-- how many goals a root joins
abbrev pub arity_of : Root → ℕ
arity_of (SimpleRoot goal) = 0
arity_of (ConjunctionRoot count) = count
arity_of (ParallelRoot count) = count
arity_of (DisjunctionRoot count) = count
arity_of ConditionalRoot = 3
arity_of NegationRoot = 1
arity_of (QuantifiedRoot variables) = 1

-- the goal at an index, or one that is never asked for
abbrev pub goal_at : List Node → ℕ → Node
goal_at goals index = slice_index_or goals index (Simple True no_span)

-- the goal of a root that joins these
abbrev pub joining : Root → Span → List Node → Node
joining (SimpleRoot goal) span goals = Simple goal span
joining (ConjunctionRoot count) span goals = Conjunction (nodes_of goals) span
joining (ParallelRoot count) span goals = Parallel (nodes_of goals) span
joining (DisjunctionRoot count) span goals = Disjunction (nodes_of goals) span
joining ConditionalRoot span goals = Conditional (goal_at goals 0) (goal_at goals 1) (goal_at goals 2) span
joining NegationRoot span goals = Negation (goal_at goals 0) span
joining (QuantifiedRoot variables) span goals = Quantified variables (goal_at goals 0) span

-- The last goals of a list, as many as a root joins, become one.
abbrev pub joined : Root → Span → List Node → List Node
joined root span goals =
    let before = length goals - arity_of root in
    take before goals ++ joining root span (drop before goals) ∷ []
