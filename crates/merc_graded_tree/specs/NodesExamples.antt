-- Worked examples of ordered goals: what they are at their roots, their parts, goals that become one, and what is seen of one.
use Rattle.std.specs.Prelude.{◌≡◌, ℕ, List, [], ◌∷◌, map, refl, Some, None}
use Rattle.std.proofs.Common.{ap}
use Rattle.std.specs.Borrow.{Bor}
use Rattle.merc_base.specs.declared.category.Category.TheVariants.{Det}
use Rattle.merc_base.specs.declared.place.Span.{Span}
use Rattle.merc_goal_tree.specs.declared.goal.Symbol.{Symbol}
use Rattle.merc_goal_tree.specs.declared.goal.Symbol.TheVariants.{Constructor, Text}
use Rattle.merc_graded_tree.specs.declared.basic.BasicGoal.{BasicGoal}
use Rattle.merc_graded_tree.specs.declared.basic.BasicGoal.TheVariants.{Call}
use Rattle.merc_graded_tree.specs.declared.entries.Root.{Root}
use Rattle.merc_graded_tree.specs.declared.entries.Root.TheVariants.{Conjunction as ConjunctionRoot, Disjunction as DisjunctionRoot, Switch as SwitchRoot, Conditional as ConditionalRoot, Negation as NegationRoot, Quantified as QuantifiedRoot}
use Rattle.merc_graded_tree.specs.declared.entries.Running.TheVariants.{Sequential, Parallel}
use Rattle.merc_graded_tree.specs.declared.node_ref.NodeView.TheVariants.{Basic as BasicView, Quantified as QuantifiedView, Switch as SwitchView, Conjunction as ConjunctionView, Disjunction as DisjunctionView, Conditional as ConditionalView, Negation as NegationView}
use Rattle.merc_graded_tree.specs.Nodes.{Node, node, Goal, Basic, Conjunction, Disjunction, Switch, Conditional, Negation, Quantified, no_nodes, more_nodes, Arms, no_arms, more_arms, goal_of, outputs_of, category_of, span_of}
use Rattle.merc_graded_tree.specs.Roots.{symbols_of, bodies_of, arms_of, root_of, goals_of, label_of, arity_of, goal_at, joining, labelled, last_joined, joined}
use Rattle.merc_graded_tree.specs.Labels.{labels_of, all_labels, built}
use Rattle.merc_graded_tree.specs.Views.{viewed}

abbrev pub at : ℕ → Span
at first = record { first = first; past = first; line = 1 }

-- calls of predicates without arguments, and `( a, b ; not c )`, where `not c` has a category

abbrev pub call : ℕ → Goal
call number = Basic (Call (record { predicate = number; mode = 0 }) [])

abbrev pub a : Node
a = node (call 0) (5 ∷ []) None (at 0)

abbrev pub b : Node
b = node (call 1) (6 ∷ []) None (at 1)

abbrev pub c : Node
c = node (call 2) [] None (at 2)

abbrev pub both : Node
both = node (Conjunction Sequential (more_nodes a (more_nodes b no_nodes))) (5 ∷ 6 ∷ []) None (at 3)

abbrev pub not_c : Node
not_c = node (Negation c) [] (Some Det) (at 4)

abbrev pub choice : Node
choice = node (Disjunction (more_nodes both (more_nodes not_c no_nodes))) (6 ∷ []) None (at 5)

-- a switch on the variable 7: `a` where it is `red`, `b` where it is a text

abbrev red : Symbol
red = Constructor 200 0

abbrev text : Symbol
text = Text 201

abbrev arms : Arms
arms = more_arms red a (more_arms text b no_arms)

abbrev pub switch : Node
switch = node (Switch 7 arms) [] None (at 6)

-- what a goal has

outputs_of-example : outputs_of both ≡ 5 ∷ 6 ∷ []
outputs_of-example = refl

outputs_of-not : outputs_of both ≡ 5 ∷ [] → ⊥
outputs_of-not of_the_first = cc

category_of-example : category_of not_c ≡ Some Det
category_of-example = refl

category_of-not : category_of choice ≡ Some Det → ⊥
category_of-not of_the_last = cc

span_of-example : span_of choice ≡ at 5
span_of-example = refl

span_of-not : span_of choice ≡ at 3 → ⊥
span_of-not of_the_first =
    let places : ◌≡◌ {A = ℕ} 5 3 = ap (λ s. s.first) of_the_first in
    cc

-- arms

symbols_of-example : symbols_of arms ≡ red ∷ text ∷ []
symbols_of-example = refl

symbols_of-not : symbols_of arms ≡ text ∷ red ∷ [] → ⊥
symbols_of-not backwards = cc

bodies_of-example : bodies_of arms ≡ a ∷ b ∷ []
bodies_of-example = refl

bodies_of-not : bodies_of arms ≡ b ∷ a ∷ [] → ⊥
bodies_of-not backwards = cc

arms_of-example : arms_of (red ∷ text ∷ []) (a ∷ b ∷ []) ≡ arms
arms_of-example = refl

arms_of-not : arms_of (red ∷ text ∷ []) (b ∷ a ∷ []) ≡ arms → ⊥
arms_of-not backwards = cc

-- roots

root_of-example : root_of (goal_of choice) ≡ DisjunctionRoot 2
root_of-example = refl

root_of-switch : root_of (goal_of switch) ≡ SwitchRoot 7 (red ∷ text ∷ [])
root_of-switch = refl

root_of-not : root_of (goal_of both) ≡ ConjunctionRoot Sequential 3 → ⊥
root_of-not counts_itself = cc

goals_of-example : goals_of choice ≡ both ∷ not_c ∷ []
goals_of-example = refl

goals_of-switch : goals_of switch ≡ a ∷ b ∷ []
goals_of-switch = refl

goals_of-not : goals_of choice ≡ a ∷ b ∷ c ∷ [] → ⊥
goals_of-not all_below = cc

label_of-example : label_of not_c ≡ record { root = NegationRoot; outputs = []; category = Some Det; span = at 4 }
label_of-example = refl

label_of-not : label_of not_c ≡ label_of c → ⊥
label_of-not of_the_negated =
    let roots : ◌≡◌ {A = Root} NegationRoot (root_of (call 2)) = ap (λ l. l.root) of_the_negated in
    cc

arity_of-example : arity_of (SwitchRoot 7 (red ∷ text ∷ [])) ≡ 2
arity_of-example = refl

arity_of-quantified : arity_of (QuantifiedRoot (7 ∷ 8 ∷ [])) ≡ 1
arity_of-quantified = refl

arity_of-not : arity_of (QuantifiedRoot (7 ∷ 8 ∷ [])) ≡ 2 → ⊥
arity_of-not counts_variables = cc

goal_at-example : goal_at (a ∷ b ∷ []) 1 ≡ b
goal_at-example = refl

goal_at-not : goal_at (a ∷ b ∷ []) 1 ≡ a → ⊥
goal_at-not from_one = cc

-- goals that become one

joining-example : joining ConditionalRoot (c ∷ a ∷ b ∷ []) ≡ Conditional c a b
joining-example = refl

joining-switch : joining (SwitchRoot 7 (red ∷ text ∷ [])) (a ∷ b ∷ []) ≡ Switch 7 arms
joining-switch = refl

joining-not : joining ConditionalRoot (c ∷ a ∷ b ∷ []) ≡ Conditional b a c → ⊥
joining-not backwards = cc

labelled-example : labelled (label_of not_c) (c ∷ []) ≡ not_c
labelled-example = refl

labelled-not : labelled (label_of not_c) (a ∷ []) ≡ not_c → ⊥
labelled-not any_goal = cc

last_joined-example : last_joined (label_of not_c) (both ∷ c ∷ []) ≡ both ∷ not_c ∷ []
last_joined-example = refl

last_joined-not : last_joined (label_of not_c) (both ∷ c ∷ []) ≡ not_c ∷ [] → ⊥
last_joined-not takes_all = cc

joined-example : joined (DisjunctionRoot 2) (6 ∷ []) (at 5) (c ∷ both ∷ not_c ∷ []) ≡ c ∷ choice ∷ []
joined-example = refl

joined-sequential : joined (ConjunctionRoot Sequential 2) (5 ∷ 6 ∷ []) (at 3) (a ∷ b ∷ []) ≡ both ∷ []
joined-sequential = refl

joined-parallel : joined (ConjunctionRoot (Parallel (Some (record { number = 9 }))) 2) [] (at 3) (c ∷ a ∷ b ∷ [])
    ≡ c ∷ node (Conjunction (Parallel (Some (record { number = 9 }))) (more_nodes a (more_nodes b no_nodes))) [] None (at 3) ∷ []
joined-parallel = refl

joined-switch : joined (SwitchRoot 7 (red ∷ text ∷ [])) [] (at 6) (c ∷ a ∷ b ∷ []) ≡ c ∷ switch ∷ []
joined-switch = refl

joined-quantified : joined (QuantifiedRoot (8 ∷ [])) [] (at 4) (a ∷ c ∷ []) ≡ a ∷ node (Quantified (8 ∷ []) c) [] None (at 4) ∷ []
joined-quantified = refl

joined-not : joined (ConjunctionRoot Sequential 2) (5 ∷ 6 ∷ []) (at 3) (b ∷ a ∷ []) ≡ both ∷ [] → ⊥
joined-not backwards = cc

joined-no_category : joined NegationRoot [] (at 4) (c ∷ []) ≡ not_c ∷ [] → ⊥
joined-no_category known = cc

-- the parts of a goal

labels_of-example : labels_of choice ≡ label_of a ∷ label_of b ∷ label_of both ∷ label_of c ∷ label_of not_c ∷ label_of choice ∷ []
labels_of-example = refl

labels_of-switch : labels_of switch ≡ label_of a ∷ label_of b ∷ label_of switch ∷ []
labels_of-switch = refl

labels_of-conditional : labels_of (node (Conditional c a b) [] None (at 5)) ≡ label_of c ∷ label_of a ∷ label_of b ∷ record { root = ConditionalRoot; outputs = []; category = None; span = at 5 } ∷ []
labels_of-conditional = refl

labels_of-quantified : labels_of (node (Quantified (8 ∷ []) c) [] None (at 4)) ≡ label_of c ∷ record { root = QuantifiedRoot (8 ∷ []); outputs = []; category = None; span = at 4 } ∷ []
labels_of-quantified = refl

labels_of-not : labels_of not_c ≡ label_of not_c ∷ label_of c ∷ [] → ⊥
labels_of-not root_first =
    let roots : ◌≡◌ {A = List Root} (root_of (call 2) ∷ NegationRoot ∷ []) (NegationRoot ∷ root_of (call 2) ∷ []) = ap (map (λ l. l.root)) root_first in
    cc

all_labels-example : all_labels (c ∷ switch ∷ []) ≡ label_of c ∷ label_of a ∷ label_of b ∷ label_of switch ∷ []
all_labels-example = refl

all_labels-not : all_labels (c ∷ switch ∷ []) ≡ label_of c ∷ label_of switch ∷ [] → ⊥
all_labels-not roots_alone = cc

built-example : built (label_of c ∷ label_of not_c ∷ []) (a ∷ []) ≡ a ∷ not_c ∷ []
built-example = refl

built-not : built (label_of c ∷ label_of not_c ∷ []) (a ∷ []) ≡ a ∷ c ∷ not_c ∷ [] → ⊥
built-not keeps_goals = cc

-- what is seen of a goal

viewed-example : viewed (ConjunctionView Sequential (a ∷ b ∷ [])) ≡ goal_of both
viewed-example = refl

viewed-disjunction : viewed (DisjunctionView (both ∷ not_c ∷ [])) ≡ goal_of choice
viewed-disjunction = refl

viewed-basic : (goal : Bor BasicGoal) → goal.now ≡ Call (record { predicate = 0; mode = 0 }) [] → viewed (BasicView goal) ≡ goal_of a
viewed-basic goal same = ap Basic same

viewed-switch : (symbols : Bor (List Symbol)) → symbols.now ≡ red ∷ text ∷ [] → viewed (SwitchView 7 symbols (a ∷ b ∷ [])) ≡ goal_of switch
viewed-switch symbols same = ap (λ l. Switch 7 (arms_of l (a ∷ b ∷ []))) same

viewed-quantified : (own : Bor (List ℕ)) → own.now ≡ 8 ∷ [] → viewed (QuantifiedView own c) ≡ Quantified (8 ∷ []) c
viewed-quantified own same = ap (λ l. Quantified l c) same

viewed-conditional : viewed (ConditionalView c a b) ≡ Conditional c a b
viewed-conditional = refl

viewed-negation : viewed (NegationView c) ≡ goal_of not_c
viewed-negation = refl

viewed-not : viewed (ConjunctionView (Parallel None) (a ∷ b ∷ [])) ≡ goal_of both → ⊥
viewed-not same = cc
