-- Goals that become one, as their last ones, and goals as what they join.
use Rattle.std.specs.Prelude.{◌≡◌, ◌-◌, List, [], ◌∷◌, ◌++◌, length, take, drop, refl}
use Rattle.std.proofs.Common.{◌∙◌, ap}
use Rattle.std.proofs.Math.Nat.{add-sub_cancel}
use Rattle.std.proofs.Math.Seq.{take-append_seam, drop-append_seam}
use Rattle.std.proofs.lemmas.List.{length-append}
use Rattle.merc_base.specs.declared.place.Span.{Span}
use Rattle.merc_goal_tree.specs.declared.entries.Root.{Root}
use Rattle.merc_goal_tree.specs.Nodes.{Node, Nodes, Simple, Conjunction, Parallel, Disjunction, Conditional, Negation, Quantified, no_nodes, more_nodes, nodes_of, list_of, span_of}
use Rattle.merc_goal_tree.specs.Roots.{root_of, goals_of, arity_of, joining, joined}

pub nodes_of-list_of : (goals : Nodes) → nodes_of (list_of goals) ≡ goals
nodes_of-list_of no_nodes = refl
nodes_of-list_of (more_nodes first rest) = ap (more_nodes first) (nodes_of-list_of rest)

pub list_of-nodes_of : (goals : List Node) → list_of (nodes_of goals) ≡ goals
list_of-nodes_of [] = refl
list_of-nodes_of (first ∷ rest) = ap (λ l. first ∷ l) (list_of-nodes_of rest)

-- a goal's root and the goals that it joins make the goal
pub joining_is : (node : Node) → joining (root_of node) (span_of node) (goals_of node) ≡ node
joining_is (Simple goal span) = refl
joining_is (Conjunction goals span) = ap (λ l. Conjunction l span) (nodes_of-list_of goals)
joining_is (Parallel goals span) = ap (λ l. Parallel l span) (nodes_of-list_of goals)
joining_is (Disjunction goals span) = ap (λ l. Disjunction l span) (nodes_of-list_of goals)
joining_is (Conditional condition then_part else_part span) = refl
joining_is (Negation goal span) = refl
joining_is (Quantified variables goal span) = refl

pub arity_is : (node : Node) → arity_of (root_of node) ≡ length (goals_of node)
arity_is (Simple goal span) = refl
arity_is (Conjunction goals span) = refl
arity_is (Parallel goals span) = refl
arity_is (Disjunction goals span) = refl
arity_is (Conditional condition then_part else_part span) = refl
arity_is (Negation goal span) = refl
arity_is (Quantified variables goal span) = refl

-- the last goals become one
pub joined_last : (root : Root) (span : Span) (goals last : List Node) → arity_of root ≡ length last
    → joined root span (goals ++ last) ≡ goals ++ joining root span last ∷ []
joined_last root span goals last arity =
    let before : length (goals ++ last) - arity_of root ≡ length goals =
    ap (λ n. length (goals ++ last) - n) arity ∙ ap (λ n. n - length last) (length-append goals last) ∙ add-sub_cancel (length goals) (length last) in
    ap (λ n. take n (goals ++ last) ++ joining root span (drop n (goals ++ last)) ∷ []) before
    ∙ ap (λ front. front ++ joining root span (drop (length goals) (goals ++ last)) ∷ []) (take-append_seam goals last)
    ∙ ap (λ back. goals ++ joining root span back ∷ []) (drop-append_seam goals last)

-- the goals that a goal joins become it again
pub rejoined : (node : Node) (goals : List Node) → joined (root_of node) (span_of node) (goals ++ goals_of node) ≡ goals ++ node ∷ []
rejoined node goals =
    joined_last (root_of node) (span_of node) goals (goals_of node) (arity_is node) ∙ ap (λ n. goals ++ n ∷ []) (joining_is node)
