-- The labels of the parts of goals stand for these goals, by which the logic stores a goal.
use Rattle.std.specs.Prelude.{◌≡◌, List, [], ◌∷◌, ◌++◌, refl}
use Rattle.std.specs.Coded.{Coded, code_by, coded_list}
use Rattle.std.proofs.Common.{◌∙◌, ap, sym}
use Rattle.std.proofs.lemmas.List.{append_assoc, append-nil}
use Rattle.merc_graded_tree.specs.declared.entries.Label.{Label}
use Rattle.merc_graded_tree.specs.contracts.entries.Label as label
use Rattle.merc_graded_tree.specs.Nodes.{Node, node, Goal, Basic, Conjunction, Disjunction, Switch, Conditional, Negation, Quantified, Nodes, no_nodes, more_nodes, Arms, no_arms, more_arms, list_of}
use Rattle.merc_graded_tree.specs.Roots.{bodies_of, goals_in, goals_of, goal_at, label_of, last_joined}
use Rattle.merc_graded_tree.specs.RootLaws.{rejoined}
use Rattle.merc_graded_tree.specs.Labels.{labels_of, inner_labels, joined_labels, arm_labels, all_labels, built}
use Rattle.merc_graded_tree.specs.Induction.{of_all}

-- labels one after the other
built-append : (front back : List Label) (goals : List Node) → built (front ++ back) goals ≡ built back (built front goals)
built-append [] back goals = refl
built-append (label ∷ front) back goals = built-append front back (last_joined label goals)

-- a goal's labels are those of the goals that it joins, and its own
joined_labels-all : (goals : Nodes) → joined_labels goals ≡ all_labels (list_of goals)
joined_labels-all no_nodes = refl
joined_labels-all (more_nodes first rest) = ap (λ l. labels_of first ++ l) (joined_labels-all rest)

arm_labels-all : (arms : Arms) → arm_labels arms ≡ all_labels (bodies_of arms)
arm_labels-all no_arms = refl
arm_labels-all (more_arms symbol body rest) = ap (λ l. labels_of body ++ l) (arm_labels-all rest)

inner_labels-all : (goal : Goal) → inner_labels goal ≡ all_labels (goals_in goal)
inner_labels-all (Basic goal) = refl
inner_labels-all (Conjunction running goals) = joined_labels-all goals
inner_labels-all (Disjunction goals) = joined_labels-all goals
inner_labels-all (Switch variable arms) = arm_labels-all arms
inner_labels-all (Conditional condition then_part else_part) =
    ap (λ l. labels_of condition ++ (labels_of then_part ++ l)) (sym (append-nil (labels_of else_part)))
inner_labels-all (Negation goal) = sym (append-nil (labels_of goal))
inner_labels-all (Quantified own goal) = sym (append-nil (labels_of goal))

pub labels_are : (whole : Node) → labels_of whole ≡ all_labels (goals_of whole) ++ label_of whole ∷ []
labels_are (node goal outputs category span) = ap (λ l. l ++ label_of (node goal outputs category span) ∷ []) (inner_labels-all goal)

-- labels of goals build these goals

abbrev Builds : List Node → Type 0
Builds goals = (before : List Node) → built (all_labels goals) before ≡ before ++ goals

builds_none : Builds []
builds_none before = sym (append-nil before)

builds_more : (first : Node) (rest : List Node) → Builds (first ∷ []) → Builds rest → Builds (first ∷ rest)
builds_more first rest one others before =
    built-append (labels_of first) (all_labels rest) before
    ∙ ap (λ l. built (all_labels rest) (built l before)) (sym (append-nil (labels_of first)))
    ∙ ap (built (all_labels rest)) (one before)
    ∙ others (before ++ first ∷ [])
    ∙ append_assoc before (first ∷ []) rest

builds_one : (whole : Node) → Builds (goals_of whole) → Builds (whole ∷ [])
builds_one whole inner before =
    ap (λ l. built l before) (append-nil (labels_of whole) ∙ labels_are whole)
    ∙ built-append (all_labels (goals_of whole)) (label_of whole ∷ []) before
    ∙ ap (last_joined (label_of whole)) (inner before)
    ∙ rejoined whole before

pub built-all_labels : (goals before : List Node) → built (all_labels goals) before ≡ before ++ goals
built-all_labels goals = of_all Builds builds_none builds_more builds_one goals

-- the goal that labels stand for
abbrev labelled_goal : List Label → Node
labelled_goal labels = goal_at (built labels []) 0

pub labelled_goal-labels_of : (whole : Node) → labelled_goal (labels_of whole) ≡ whole
labelled_goal-labels_of whole =
    ap (λ l. labelled_goal l) (sym (append-nil (labels_of whole))) ∙ ap (λ l. goal_at l 0) (built-all_labels (whole ∷ []) [])

-- a goal is stored as its labels
abbrev pub node_code : Coded Node
node_code = code_by (List Label) (coded_list label.the_row.coded) labels_of labelled_goal labelled_goal-labels_of

abbrev pub node_list_code : Coded (List Node)
node_list_code = coded_list node_code
