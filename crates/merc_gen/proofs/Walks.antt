-- Goals whose parts are looked at one after the other; those that are left are taken from the last to the first.
use Rattle.std.specs.Prelude.{◌≡◌, ◌<◌, ◌+◌, ℕ, suc, Bool, List, [], ◌∷◌, ◌++◌, map, reverse, Some, None, refl}
use Rattle.std.proofs.Common.{◌∙◌, ap, sym, arith}
use Rattle.std.proofs.lemmas.List.{append_assoc, append-nil, map-append, reverse-append, reverse-reverse}
use Rattle.merc_graded_tree.specs.declared.basic.Procedure.{Procedure}
use Rattle.merc_graded_tree.specs.declared.entries.Running.TheVariants.{Sequential, Parallel}
use Rattle.merc_graded_tree.specs.Nodes.{Node, node, Goal, Basic, Conjunction, Disjunction, Switch, Conditional, Negation, Quantified, Nodes, no_nodes, more_nodes, Arms, no_arms, more_arms, nodes_of, list_of, goal_of}
use Rattle.merc_graded_tree.specs.Roots.{bodies_of, goals_of}
use Rattle.merc_graded_tree.specs.Variables.{variables_of}
use Rattle.merc_graded_tree.proofs.Reversed.{reverse-last}
use Rattle.merc_course.specs.Variables.{node_variables, all_variables, arms_variables}
use Rattle.merc_code.specs.Steps.{ConjunctCode}
use Rattle.merc_gen.specs.Generated.{conjunct_code, conjunct_codes}
use Rattle.merc_gen.specs.Sites.{forked_in, forked_in_all, forked_in_arms}
use Rattle.merc_gen.specs.Turns.{node_turns, joined_turns, list_turns}
use Rattle.merc_gen.specs.Walking.{own_variables, own_forked}
use Rattle.merc_gen.proofs.Quieting.{turns-append, turns-reverse, turns-joined, turns-arms}

-- what goals have that are joined is what they have in a list

nodes-listed : (ns : Nodes) → nodes_of (list_of ns) ≡ ns
nodes-listed no_nodes = refl
nodes-listed (more_nodes n ns) = ap (λ x. more_nodes n x) (nodes-listed ns)

variables-arms : (arms : Arms) → arms_variables arms ≡ all_variables (nodes_of (bodies_of arms))
variables-arms no_arms = refl
variables-arms (more_arms s n arms) = ap (λ l. node_variables n ++ l) (variables-arms arms)

variables-parts : (n : Node) → node_variables n ≡ own_variables (goal_of n) ++ all_variables (nodes_of (goals_of n))
variables-parts (node (Basic g) outputs category span) = sym (append-nil (variables_of g))
variables-parts (node (Conjunction running ns) outputs category span) = ap all_variables (sym (nodes-listed ns))
variables-parts (node (Disjunction ns) outputs category span) = ap all_variables (sym (nodes-listed ns))
variables-parts (node (Switch x arms) outputs category span) = ap (λ l. x ∷ l) (variables-arms arms)
variables-parts (node (Conditional c t e) outputs category span) =
    ap (λ l. node_variables c ++ (node_variables t ++ l)) (sym (append-nil (node_variables e)))
variables-parts (node (Negation n) outputs category span) = sym (append-nil (node_variables n))
variables-parts (node (Quantified own n) outputs category span) = sym (append-nil (node_variables n))

forked-arms : (arms : Arms) → forked_in_arms arms ≡ forked_in_all (nodes_of (bodies_of arms))
forked-arms no_arms = refl
forked-arms (more_arms s n arms) = ap (λ l. forked_in n ++ l) (forked-arms arms)

forked-parts : (n : Node) → forked_in n ≡ own_forked (goal_of n) ++ forked_in_all (nodes_of (goals_of n))
forked-parts (node (Basic g) outputs category span) = refl
forked-parts (node (Conjunction Sequential ns) outputs category span) = ap forked_in_all (sym (nodes-listed ns))
forked-parts (node (Conjunction (Parallel None) ns) outputs category span) = ap forked_in_all (sym (nodes-listed ns))
forked-parts (node (Conjunction (Parallel (Some site)) ns) outputs category span) = ap (λ l. ns ∷ l) (ap forked_in_all (sym (nodes-listed ns)))
forked-parts (node (Disjunction ns) outputs category span) = ap forked_in_all (sym (nodes-listed ns))
forked-parts (node (Switch x arms) outputs category span) = forked-arms arms
forked-parts (node (Conditional c t e) outputs category span) = ap (λ l. forked_in c ++ (forked_in t ++ l)) (sym (append-nil (forked_in e)))
forked-parts (node (Negation n) outputs category span) = sym (append-nil (forked_in n))
forked-parts (node (Quantified own n) outputs category span) = sym (append-nil (forked_in n))

-- A goal is taken, and the goals that it joins are left in its place.
module _ {X : Type 0} (own : Goal → List X) (whole : Node → List X) (all : Nodes → List X) (none : all no_nodes ≡ []) (more : (n : Node) (ns : Nodes) → all (more_nodes n ns) ≡ whole n ++ all ns)
    (parts : (n : Node) → whole n ≡ own (goal_of n) ++ all (nodes_of (goals_of n))) where
  all-append : (xs ys : List Node) → all (nodes_of (xs ++ ys)) ≡ all (nodes_of xs) ++ all (nodes_of ys)
  all-append [] ys = ap (λ l. l ++ all (nodes_of ys)) (sym none)
  all-append (x ∷ xs) ys =
      more x (nodes_of (xs ++ ys)) ∙ (ap (λ l. whole x ++ l) (all-append xs ys) ∙ (sym (append_assoc (whole x) (all (nodes_of xs)) (all (nodes_of ys)))
      ∙ ap (λ l. l ++ all (nodes_of ys)) (sym (more x (nodes_of xs)))))

  -- what is found, and what is left
  pub walked : (left rest later : List Node) (n : Node) (found now total : List X) → left ≡ rest ++ n ∷ [] → later ≡ rest ++ reverse (goals_of n)
      → now ≡ found ++ own (goal_of n) → found ++ all (nodes_of (reverse left)) ≡ total → now ++ all (nodes_of (reverse later)) ≡ total
  walked left rest later n found now total taken put e same =
      let behind = all (nodes_of (reverse rest)) in
      let inside = all (nodes_of (goals_of n)) in
      let first : all (nodes_of (reverse left)) ≡ (own (goal_of n) ++ inside) ++ behind =
      ap (λ l. all (nodes_of l)) (ap reverse taken ∙ reverse-last rest n) ∙ (more n (nodes_of (reverse rest)) ∙ ap (λ l. l ++ behind) (parts n)) in
      let then : all (nodes_of (reverse later)) ≡ inside ++ behind =
      ap (λ l. all (nodes_of l)) (ap reverse put ∙ (reverse-append rest (reverse (goals_of n)) ∙ ap (λ l. l ++ reverse rest) (reverse-reverse (goals_of n))))
      ∙ all-append (goals_of n) (reverse rest) in
      ap (λ l. now ++ l) then ∙ (ap (λ l. l ++ (inside ++ behind)) e ∙ (append_assoc found (own (goal_of n)) (inside ++ behind)
      ∙ (ap (λ l. found ++ l) (sym (append_assoc (own (goal_of n)) inside behind)) ∙ (ap (λ l. found ++ l) (sym first) ∙ same))))

pub variables-walked : (left rest later : List Node) (n : Node) (found now total : List ℕ) → left ≡ rest ++ n ∷ [] → later ≡ rest ++ reverse (goals_of n)
    → now ≡ found ++ own_variables (goal_of n) → found ++ all_variables (nodes_of (reverse left)) ≡ total → now ++ all_variables (nodes_of (reverse later)) ≡ total
variables-walked = walked own_variables node_variables all_variables refl (λ n ns. refl) variables-parts

-- the code of conjuncts that are forked
module _ (code : Nodes → List ConjunctCode) where
  codes-parts : (n : Node) → map code (forked_in n) ≡ map code (own_forked (goal_of n)) ++ map code (forked_in_all (nodes_of (goals_of n)))
  codes-parts n = ap (map code) (forked-parts n) ∙ map-append code (own_forked (goal_of n)) (forked_in_all (nodes_of (goals_of n)))

  pub forked-walked : (left rest later : List Node) (n : Node) (found now total : List (List ConjunctCode)) → left ≡ rest ++ n ∷ [] → later ≡ rest ++ reverse (goals_of n)
      → now ≡ found ++ map code (own_forked (goal_of n)) → found ++ map code (forked_in_all (nodes_of (reverse left))) ≡ total
      → now ++ map code (forked_in_all (nodes_of (reverse later))) ≡ total
  forked-walked = walked (λ g. map code (own_forked g)) (λ n. map code (forked_in n)) (λ ns. map code (forked_in_all ns)) refl (λ n ns. map-append code (forked_in n) (forked_in_all ns)) codes-parts

  -- one tree more
  pub forked-more : (trees rest : List Node) (tree : Node) (found now total : List (List ConjunctCode)) → trees ≡ tree ∷ rest → now ≡ found ++ map code (forked_in tree)
      → found ++ map code (forked_in_all (nodes_of trees)) ≡ total → now ++ map code (forked_in_all (nodes_of rest)) ≡ total
  forked-more trees rest tree found now total t e same =
      ap (λ l. l ++ map code (forked_in_all (nodes_of rest))) e ∙ (append_assoc found (map code (forked_in tree)) (map code (forked_in_all (nodes_of rest)))
      ∙ (ap (λ l. found ++ l) (sym (map-append code (forked_in tree) (forked_in_all (nodes_of rest)))) ∙ (ap (λ l. found ++ map code (forked_in_all (nodes_of l))) (sym t) ∙ same)))

-- Something for each goal.

pub codes-each : (single : Procedure → Bool) (goals : List Node) → conjunct_codes single (nodes_of goals) ≡ map (conjunct_code single) goals
codes-each single [] = refl
codes-each single (n ∷ goals) = ap (λ l. conjunct_code single n ∷ l) (codes-each single goals)

-- Fewer turns are left.

parts_fewer : (n : Node) → list_turns (goals_of n) < suc (suc (suc (node_turns n)))
parts_fewer (node (Basic g) outputs category span) = omega arith
parts_fewer (node (Conjunction running ns) outputs category span) = omega (arith, turns-joined (list_of ns), ap joined_turns (nodes-listed ns))
parts_fewer (node (Disjunction ns) outputs category span) = omega (arith, turns-joined (list_of ns), ap joined_turns (nodes-listed ns))
parts_fewer (node (Switch x arms) outputs category span) = omega (arith, turns-arms arms)
parts_fewer (node (Conditional c t e) outputs category span) = omega arith
parts_fewer (node (Negation n) outputs category span) = omega arith
parts_fewer (node (Quantified own n) outputs category span) = omega arith

pub walks_fewer : (left rest later : List Node) (n : Node) → left ≡ rest ++ n ∷ [] → later ≡ rest ++ reverse (goals_of n) → list_turns later < list_turns left
walks_fewer left rest later n taken put =
    omega (arith, ap list_turns taken, ap list_turns put, turns-append rest (n ∷ []), turns-append rest (reverse (goals_of n)), turns-reverse (goals_of n), parts_fewer n)

pub one_fewer : (left rest : List Node) (n : Node) → left ≡ rest ++ n ∷ [] → list_turns rest < list_turns left
one_fewer left rest n taken = omega (arith, ap list_turns taken, turns-append rest (n ∷ []))
