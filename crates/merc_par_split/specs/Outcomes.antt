-- What comes of a goal: its split tree and its sites, where each right to wait tells whether its variable is used behind the goal.
use Rattle.std.specs.Prelude.{ℕ, suc, ◌+◌, Bool, ◌==◌, ◌&&◌, ◌||◌, not, List, [], ◌∷◌, ◌++◌, length, map, Option, Some, if◌then◌else◌}
use Rattle.std.specs.List.{filter, flat_map}
use Rattle.merc_base.specs.declared.category.Category.{Category}
use Rattle.merc_base.specs.declared.place.Span.{Span}
use Rattle.merc_graded_tree.specs.declared.entries.Running.TheVariants.{Sequential, Parallel}
use Rattle.merc_graded_tree.specs.Nodes.{Node, node, Goal, Basic, Conjunction, Disjunction, Switch, Conditional, Negation, Quantified, Nodes, no_nodes, more_nodes, Arms, no_arms, more_arms, outputs_of}
use Rattle.merc_graded_tree.specs.Variables.{in_node, in_nodes}
use Rattle.merc_rights.specs.declared.rights.Awaited.{Awaited}
use Rattle.merc_rights.specs.declared.sites.SiteInfo.{SiteInfo}
use Rattle.merc_rights.specs.Rights.{Right, right_to, used_in, bound_in, unbound_in, wait_at, between, around, ahead_of, signals_of}
use Rattle.merc_rights.specs.Waits.{rights_of, fresh, those_waits, others, moves, stays}
use Rattle.merc_par_split.specs.Split.{may_fail}
use Rattle.merc_par_split.specs.Sites.{site_info}

-- what goes to the first of goals that come one after the other
abbrev pub turned : Nodes → Awaited → Awaited
turned rest wait = record { right = wait.right; later = wait.later || in_nodes rest wait.right.variable }

-- what is waited for behind an arm
abbrev pub is_passed : Node → Awaited → Bool
is_passed body wait = wait.later && not (in_node body wait.right.variable)

abbrev mutual
  pub outcome : ℕ → List Awaited → List Right → Node → Node × List SiteInfo
  outcome site waits signals (node goal outputs category span) =
      if may_fail category
      then (around [] signals (entered site waits [] goal outputs category span).0, (entered site waits [] goal outputs category span).1)
      else entered site waits signals goal outputs category span

  pub entered : ℕ → List Awaited → List Right → Goal → List ℕ → Option Category → Span → Node × List SiteInfo
  entered site waits signals (Basic goal) outputs category span = (around (rights_of waits) signals (node (Basic goal) outputs category span), [])
  entered site waits signals (Conjunction Sequential goals) outputs category span =
      let inner = in_turn site waits signals goals in (node (Conjunction Sequential inner.0) outputs category span, inner.1)
  entered site waits signals (Conjunction (Parallel unknown) goals) outputs category span =
      let moved = rights_of (filter (moves goals) waits) in
      let inner = side_by_side (suc site) 1 outputs moved signals [] goals in (
        between (rights_of (filter (stays goals) waits)) (node (Conjunction (Parallel (Some (record { number = site }))) inner.0) outputs category span)
            (map (λ variable. wait_at span (right_to 0 variable)) outputs),
        site_info outputs moved signals goals ∷ inner.1,
      )
  entered site waits signals (Disjunction goals) outputs category span =
      let inner = alone site goals in (around (rights_of waits) signals (node (Disjunction inner.0) outputs category span), inner.1)
  entered site waits signals (Switch variable arms) outputs category span =
      let inner = armed site (those_waits (others (λ other. other == variable)) waits) signals arms in
      (around (rights_of (those_waits (λ other. other == variable) waits)) [] (node (Switch variable inner.0) outputs category span), inner.1)
  entered site waits signals (Conditional condition then_part else_part) outputs category span =
      let inner = those_waits (others (in_node condition)) waits in
      let one = outcome site [] [] condition in
      let two = outcome (site + length one.1) (those_waits (in_node then_part) inner) (bound_in then_part signals) then_part in
      let three = outcome (site + length one.1 + length two.1) (those_waits (in_node else_part) inner) (bound_in else_part signals) else_part in (
        around (rights_of (those_waits (in_node condition) waits)) []
            (node (Conditional one.0 (ahead_of two.0 (rights_of (filter (is_passed then_part) inner))) (ahead_of three.0 (rights_of (filter (is_passed else_part) inner)))) outputs category span),
        one.1 ++ (two.1 ++ three.1),
      )
  entered site waits signals (Negation goal) outputs category span =
      let inner = outcome site [] [] goal in (around (rights_of waits) signals (node (Negation inner.0) outputs category span), inner.1)
  entered site waits signals (Quantified own goal) outputs category span =
      let inner = outcome site waits signals goal in (node (Quantified own inner.0) outputs category span, inner.1)

  pub in_turn : ℕ → List Awaited → List Right → Nodes → Nodes × List SiteInfo
  in_turn site waits signals no_nodes = (no_nodes, [])
  in_turn site waits signals (more_nodes first rest) =
      let one = outcome site (map (turned rest) (those_waits (in_node first) waits)) (bound_in first signals) first in
      let more = in_turn (site + length one.1) (those_waits (others (in_node first)) waits) (unbound_in first signals) rest in
      (more_nodes one.0 more.0, one.1 ++ more.1)

  pub side_by_side : ℕ → ℕ → List ℕ → List Right → List Right → List ℕ → Nodes → Nodes × List SiteInfo
  side_by_side site number outputs waits signals left no_nodes = (no_nodes, [])
  side_by_side site number outputs waits signals left (more_nodes first rest) =
      let one = outcome site (map fresh (used_in first (map (right_to number) left ++ waits))) (flat_map (signals_of (suc number) rest outputs signals) (outputs_of first)) first in
      let more = side_by_side (site + length one.1) (suc number) outputs waits signals (left ++ outputs_of first) rest in
      (more_nodes one.0 more.0, one.1 ++ more.1)

  pub armed : ℕ → List Awaited → List Right → Arms → Arms × List SiteInfo
  armed site waits signals no_arms = (no_arms, [])
  armed site waits signals (more_arms symbol body rest) =
      let one = outcome site (those_waits (in_node body) waits) (bound_in body signals) body in
      let more = armed (site + length one.1) waits signals rest in
      (more_arms symbol (ahead_of one.0 (rights_of (filter (is_passed body) waits))) more.0, one.1 ++ more.1)

  pub alone : ℕ → Nodes → Nodes × List SiteInfo
  alone site no_nodes = (no_nodes, [])
  alone site (more_nodes first rest) =
      let one = outcome site [] [] first in
      let more = alone (site + length one.1) rest in
      (more_nodes one.0 more.0, one.1 ++ more.1)
