-- What a goal is at its root, and goals that become one.
use Rattle.std.specs.Prelude.{ℕ, ◌-◌, List, [], ◌∷◌, ◌++◌, length, take, drop, None}
use Rattle.std.specs.List.{slice_index_or}
use Rattle.merc_base.specs.declared.place.Span.{Span}
use Rattle.merc_tree.specs.Term.{no_span}
use Rattle.merc_goal_tree.specs.declared.goal.Symbol.{Symbol}
use Rattle.merc_graded_tree.specs.declared.basic.BasicGoal.TheVariants.{True}
use Rattle.merc_graded_tree.specs.declared.entries.Label.{Label}
use Rattle.merc_graded_tree.specs.declared.entries.Root.{Root}
use Rattle.merc_graded_tree.specs.declared.entries.Root.TheVariants.{Basic as BasicRoot, Conjunction as ConjunctionRoot, Disjunction as DisjunctionRoot, Switch as SwitchRoot, Conditional as ConditionalRoot, Negation as NegationRoot, Quantified as QuantifiedRoot}
use Rattle.merc_graded_tree.specs.Nodes.{Node, node, Goal, Basic, Conjunction, Disjunction, Switch, Conditional, Negation, Quantified, Arms, no_arms, more_arms, nodes_of, list_of, goal_of, outputs_of, category_of, span_of}

-- the symbols of arms, and their goals
abbrev pub symbols_of : Arms → List Symbol
symbols_of no_arms = []
symbols_of (more_arms symbol body rest) = symbol ∷ symbols_of rest

abbrev pub bodies_of : Arms → List Node
bodies_of no_arms = []
bodies_of (more_arms symbol body rest) = body ∷ bodies_of rest

-- the arms of as many symbols as goals
abbrev pub arms_of : List Symbol → List Node → Arms
arms_of [] bodies = no_arms
arms_of (symbol ∷ symbols) [] = no_arms
arms_of (symbol ∷ symbols) (body ∷ bodies) = more_arms symbol body (arms_of symbols bodies)

abbrev pub root_of : Goal → Root
root_of (Basic goal) = BasicRoot goal
root_of (Conjunction running goals) = ConjunctionRoot running (length (list_of goals))
root_of (Disjunction goals) = DisjunctionRoot (length (list_of goals))
root_of (Switch variable arms) = SwitchRoot variable (symbols_of arms)
root_of (Conditional condition then_part else_part) = ConditionalRoot
root_of (Negation goal) = NegationRoot
root_of (Quantified own goal) = QuantifiedRoot own

-- the goals that a goal joins
abbrev pub goals_in : Goal → List Node
goals_in (Basic goal) = []
goals_in (Conjunction running goals) = list_of goals
goals_in (Disjunction goals) = list_of goals
goals_in (Switch variable arms) = bodies_of arms
goals_in (Conditional condition then_part else_part) = condition ∷ then_part ∷ else_part ∷ []
goals_in (Negation goal) = goal ∷ []
goals_in (Quantified own goal) = goal ∷ []

abbrev pub goals_of : Node → List Node
goals_of whole = goals_in (goal_of whole)

-- what a goal has besides the goals that it joins
abbrev pub label_of : Node → Label
label_of whole = record { root = root_of (goal_of whole); outputs = outputs_of whole; category = category_of whole; span = span_of whole }

-- how many goals a root joins
abbrev pub arity_of : Root → ℕ
arity_of (BasicRoot goal) = 0
arity_of (ConjunctionRoot running count) = count
arity_of (DisjunctionRoot count) = count
arity_of (SwitchRoot variable symbols) = length symbols
arity_of ConditionalRoot = 3
arity_of NegationRoot = 1
arity_of (QuantifiedRoot own) = 1

-- the goal at an index, or one that is never asked for
abbrev pub goal_at : List Node → ℕ → Node
goal_at goals index = slice_index_or goals index (node (Basic True) [] None no_span)

-- the goal of a root that joins these
abbrev pub joining : Root → List Node → Goal
joining (BasicRoot goal) goals = Basic goal
joining (ConjunctionRoot running count) goals = Conjunction running (nodes_of goals)
joining (DisjunctionRoot count) goals = Disjunction (nodes_of goals)
joining (SwitchRoot variable symbols) goals = Switch variable (arms_of symbols goals)
joining ConditionalRoot goals = Conditional (goal_at goals 0) (goal_at goals 1) (goal_at goals 2)
joining NegationRoot goals = Negation (goal_at goals 0)
joining (QuantifiedRoot own) goals = Quantified own (goal_at goals 0)

-- the goal that has this label and joins these
abbrev pub labelled : Label → List Node → Node
labelled label goals = node (joining label.root goals) label.outputs label.category label.span

-- The last goals of a list, as many as a label's root joins, become one that has the label.
abbrev pub last_joined : Label → List Node → List Node
last_joined label goals =
    let before = length goals - arity_of label.root in
    take before goals ++ labelled label (drop before goals) ∷ []

-- The same where the goal has no category yet.
abbrev pub joined : Root → List ℕ → Span → List Node → List Node
joined root outputs span goals = last_joined (record { root = root; outputs = outputs; category = None; span = span }) goals
