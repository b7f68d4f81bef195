-- Goals that become one, as their last ones, and goals as what they join.
use Rattle.std.specs.Prelude.{◌≡◌, ◌-◌, List, [], ◌∷◌, ◌++◌, length, take, drop, refl, suc}
use Rattle.std.proofs.Common.{◌∙◌, ap}
use Rattle.std.proofs.Math.Nat.{add-sub_cancel}
use Rattle.std.proofs.Math.Seq.{take-append_seam, drop-append_seam}
use Rattle.std.proofs.lemmas.List.{length-append}
use Rattle.merc_graded_tree.specs.declared.entries.Label.{Label}
use Rattle.merc_graded_tree.specs.Nodes.{Node, node, Goal, Basic, Conjunction, Disjunction, Switch, Conditional, Negation, Quantified, Nodes, no_nodes, more_nodes, Arms, no_arms, more_arms, nodes_of, list_of}
use Rattle.merc_graded_tree.specs.Roots.{symbols_of, bodies_of, arms_of, root_of, goals_in, goals_of, label_of, arity_of, joining, labelled, last_joined}

pub nodes_of-list_of : (goals : Nodes) → nodes_of (list_of goals) ≡ goals
nodes_of-list_of no_nodes = refl
nodes_of-list_of (more_nodes first rest) = ap (more_nodes first) (nodes_of-list_of rest)

pub arms_of-parts : (arms : Arms) → arms_of (symbols_of arms) (bodies_of arms) ≡ arms
arms_of-parts no_arms = refl
arms_of-parts (more_arms symbol body rest) = ap (more_arms symbol body) (arms_of-parts rest)

arm_count : (arms : Arms) → length (symbols_of arms) ≡ length (bodies_of arms)
arm_count no_arms = refl
arm_count (more_arms symbol body rest) = ap suc (arm_count rest)

-- a goal's root and the goals that it joins make the goal
pub joining_is : (goal : Goal) → joining (root_of goal) (goals_in goal) ≡ goal
joining_is (Basic goal) = refl
joining_is (Conjunction running goals) = ap (Conjunction running) (nodes_of-list_of goals)
joining_is (Disjunction goals) = ap Disjunction (nodes_of-list_of goals)
joining_is (Switch variable arms) = ap (Switch variable) (arms_of-parts arms)
joining_is (Conditional condition then_part else_part) = refl
joining_is (Negation goal) = refl
joining_is (Quantified own goal) = refl

labelled_is : (whole : Node) → labelled (label_of whole) (goals_of whole) ≡ whole
labelled_is (node goal outputs category span) = ap (λ g. node g outputs category span) (joining_is goal)

pub arity_is : (goal : Goal) → arity_of (root_of goal) ≡ length (goals_in goal)
arity_is (Basic goal) = refl
arity_is (Conjunction running goals) = refl
arity_is (Disjunction goals) = refl
arity_is (Switch variable arms) = arm_count arms
arity_is (Conditional condition then_part else_part) = refl
arity_is (Negation goal) = refl
arity_is (Quantified own goal) = refl

-- the last goals become one
pub last_joined_is : (label : Label) (goals last : List Node) → arity_of label.root ≡ length last
    → last_joined label (goals ++ last) ≡ goals ++ labelled label last ∷ []
last_joined_is label goals last arity =
    let before : length (goals ++ last) - arity_of label.root ≡ length goals =
    ap (λ n. length (goals ++ last) - n) arity ∙ ap (λ n. n - length last) (length-append goals last) ∙ add-sub_cancel (length goals) (length last) in
    ap (λ n. take n (goals ++ last) ++ labelled label (drop n (goals ++ last)) ∷ []) before
    ∙ ap (λ front. front ++ labelled label (drop (length goals) (goals ++ last)) ∷ []) (take-append_seam goals last)
    ∙ ap (λ back. goals ++ labelled label back ∷ []) (drop-append_seam goals last)

-- the goals that a goal joins become it again
pub rejoined : (whole : Node) (goals : List Node) → last_joined (label_of whole) (goals ++ goals_of whole) ≡ goals ++ whole ∷ []
rejoined (node goal outputs category span) goals =
    let whole = node goal outputs category span in
    last_joined_is (label_of whole) goals (goals_in goal) (arity_is goal) ∙ ap (λ n. goals ++ n ∷ []) (labelled_is whole)
