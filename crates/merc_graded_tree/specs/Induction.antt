-- What holds of no goals, of a goal in front of others, and of a goal where it holds of those that the goal joins, holds of all goals.
use Rattle.std.specs.Prelude.{List, [], ◌∷◌}
use Rattle.merc_graded_tree.specs.Nodes.{Node, node, Goal, Basic, Conjunction, Disjunction, Switch, Conditional, Negation, Quantified, Nodes, no_nodes, more_nodes, Arms, no_arms, more_arms, list_of}
use Rattle.merc_graded_tree.specs.Roots.{bodies_of, goals_in, goals_of}

module _ (P : List Node → Type 0) (none : P []) (more : (first : Node) (rest : List Node) → P (first ∷ []) → P rest → P (first ∷ rest)) (one : (whole : Node) → P (goals_of whole) → P (whole ∷ [])) where
  mutual
    pub of_one : (whole : Node) → P (whole ∷ [])
    of_one (node goal outputs category span) = one (node goal outputs category span) (of_inner goal)

    of_inner : (goal : Goal) → P (goals_in goal)
    of_inner (Basic goal) = none
    of_inner (Conjunction running goals) = of_joined goals
    of_inner (Disjunction goals) = of_joined goals
    of_inner (Switch variable arms) = of_arms arms
    of_inner (Conditional condition then_part else_part) =
        more condition (then_part ∷ else_part ∷ []) (of_one condition) (more then_part (else_part ∷ []) (of_one then_part) (of_one else_part))
    of_inner (Negation goal) = of_one goal
    of_inner (Quantified own goal) = of_one goal

    of_joined : (goals : Nodes) → P (list_of goals)
    of_joined no_nodes = none
    of_joined (more_nodes first rest) = more first (list_of rest) (of_one first) (of_joined rest)

    of_arms : (arms : Arms) → P (bodies_of arms)
    of_arms no_arms = none
    of_arms (more_arms symbol body rest) = more body (bodies_of rest) (of_one body) (of_arms rest)

  pub of_all : (goals : List Node) → P goals
  of_all [] = none
  of_all (first ∷ rest) = more first rest (of_one first) (of_all rest)
