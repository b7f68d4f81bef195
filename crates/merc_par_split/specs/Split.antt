-- The split tree: the graded tree with the waits and signals of its parallel conjuncts, and a site for each `&`.
use Rattle.std.specs.Prelude.{ℕ, suc, ◌+◌, Bool, true, false, ◌==◌, ◌&&◌, ◌||◌, not, List, [], ◌∷◌, ◌++◌, length, map, Option, Some, None, if◌then◌else◌}
use Rattle.std.specs.List.{flat_map}
use Rattle.merc_base.specs.Category.{can_fail_of}
use Rattle.merc_base.specs.declared.category.Category.{Category}
use Rattle.merc_base.specs.declared.place.Span.{Span}
use Rattle.merc_graded_tree.specs.declared.entries.Running.TheVariants.{Sequential, Parallel}
use Rattle.merc_graded_tree.specs.Nodes.{Node, node, Goal, Basic, Conjunction, Disjunction, Switch, Conditional, Negation, Quantified, Nodes, no_nodes, more_nodes, Arms, no_arms, more_arms, outputs_of}
use Rattle.merc_graded_tree.specs.Variables.{in_nodes}
use Rattle.merc_rights.specs.Rights.{Right, right_to, those, used_in, unused_in, passed_by, bound_in, unbound_in, wait_at, between, around, ahead_of, users, signals_of}
use Rattle.merc_par_split.specs.Forks.{forks}

-- a goal of a category that is not known may fail
abbrev pub may_fail : Option Category → Bool
may_fail None = true
may_fail (Some category) = can_fail_of category

abbrev pub nothing : ℕ → Bool
nothing variable = false

-- The right to wait moves into the one conjunct that uses the variable, where it is not used behind the `&`.
abbrev pub moves_in : (ℕ → Bool) → Nodes → ℕ → Bool
moves_in later goals variable = not (later variable) && (length (users 1 goals variable) == 1)

-- A goal of a conjunct with its rights to wait, each for a variable that it uses, and to signal, each for a variable that it binds. `later` has the
-- variables that are used behind the goal, on the way through it, in the conjunct. The sites of its parallel conjunctions have numbers from `site` on, in
-- the order of the text.
abbrev mutual
  -- signals go into goals that cannot fail
  pub placed : ℕ → (ℕ → Bool) → List Right → List Right → Node → Node
  placed site later waits signals (node goal outputs category span) =
      if may_fail category then around [] signals (placed_goal site later waits [] goal outputs category span)
      else placed_goal site later waits signals goal outputs category span

  -- They do not go into a disjunction, a condition or a negation, and no more do waits. Nor do waits go into the arms of a switch on the variable, or where
  -- a condition uses it.
  pub placed_goal : ℕ → (ℕ → Bool) → List Right → List Right → Goal → List ℕ → Option Category → Span → Node
  placed_goal site later waits signals (Basic goal) outputs category span = around waits signals (node (Basic goal) outputs category span)
  placed_goal site later waits signals (Conjunction Sequential goals) outputs category span =
      node (Conjunction Sequential (placed_in_turn site later waits signals goals)) outputs category span
  placed_goal site later waits signals (Conjunction (Parallel unknown) goals) outputs category span =
      between (those (λ variable. not (moves_in later goals variable)) waits)
      (node (Conjunction (Parallel (Some (record { number = site }))) (placed_conjuncts (suc site) 1 outputs (those (moves_in later goals) waits) signals [] goals)) outputs category span)
      (map (λ variable. wait_at span (right_to 0 variable)) outputs)
  placed_goal site later waits signals (Disjunction goals) outputs category span =
      around waits signals (node (Disjunction (placed_alone site goals)) outputs category span)
  placed_goal site later waits signals (Switch variable arms) outputs category span =
      around (those (λ other. other == variable) waits) []
      (node (Switch variable (placed_arms site later (those (λ other. not (other == variable)) waits) signals arms)) outputs category span)
  placed_goal site later waits signals (Conditional condition then_part else_part) outputs category span =
      let inner = unused_in condition waits in
      around (used_in condition waits) []
      (node (Conditional (placed site nothing [] [] condition)
      (ahead_of (placed (site + forks condition) later (used_in then_part inner) (bound_in then_part signals) then_part) (passed_by later then_part inner))
      (ahead_of (placed (site + forks condition + forks then_part) later (used_in else_part inner) (bound_in else_part signals) else_part) (passed_by later else_part inner)))
      outputs category span)
  placed_goal site later waits signals (Negation goal) outputs category span =
      around waits signals (node (Negation (placed site nothing [] [] goal)) outputs category span)
  placed_goal site later waits signals (Quantified own goal) outputs category span =
      node (Quantified own (placed site later waits signals goal)) outputs category span

  -- each right goes to the first goal that uses its variable, or binds it
  pub placed_in_turn : ℕ → (ℕ → Bool) → List Right → List Right → Nodes → Nodes
  placed_in_turn site later waits signals no_nodes = no_nodes
  placed_in_turn site later waits signals (more_nodes first rest) =
      more_nodes (placed site (λ variable. later variable || in_nodes rest variable) (used_in first waits) (bound_in first signals) first)
      (placed_in_turn (site + forks first) later (unused_in first waits) (unbound_in first signals) rest)

  -- The conjuncts from this number on of an `&` with these outputs, where conjuncts to the left have bound these. One waits for what it uses of these and of
  -- what moves in, and signals what it binds.
  pub placed_conjuncts : ℕ → ℕ → List ℕ → List Right → List Right → List ℕ → Nodes → Nodes
  placed_conjuncts site number outputs waits signals left no_nodes = no_nodes
  placed_conjuncts site number outputs waits signals left (more_nodes first rest) =
      more_nodes (placed site nothing (used_in first (map (right_to number) left ++ waits)) (flat_map (signals_of (suc number) rest outputs signals) (outputs_of first)) first)
      (placed_conjuncts (site + forks first) (suc number) outputs waits signals (left ++ outputs_of first) rest)

  -- an arm that does not use a variable which is used behind the switch waits for it at its end
  pub placed_arms : ℕ → (ℕ → Bool) → List Right → List Right → Arms → Arms
  placed_arms site later waits signals no_arms = no_arms
  placed_arms site later waits signals (more_arms symbol body rest) =
      more_arms symbol (ahead_of (placed site later (used_in body waits) (bound_in body signals) body) (passed_by later body waits))
      (placed_arms (site + forks body) later waits signals rest)

  pub placed_alone : ℕ → Nodes → Nodes
  placed_alone site no_nodes = no_nodes
  placed_alone site (more_nodes first rest) = more_nodes (placed site nothing [] [] first) (placed_alone (site + forks first) rest)

-- the split tree of a body or of a goal that is asked, which is in no conjunct
abbrev pub split : ℕ → Node → Node
split site tree = placed site nothing [] [] tree

-- those of a program's trees in order, with sites from this number on
abbrev pub all_split : ℕ → List Node → List Node
all_split site [] = []
all_split site (first ∷ rest) = split site first ∷ all_split (site + forks first) rest
