-- The sites of the split tree have one number after the other.
use Rattle.std.specs.Prelude.{◌≡◌, ℕ, zero, suc, ◌+◌, Bool, true, false, ◌==◌, ◌||◌, not, List, [], ◌∷◌, ◌++◌, map, Option, Some, if◌then◌else◌, refl}
use Rattle.std.specs.List.{flat_map}
use Rattle.std.proofs.Common.{◌∙◌, ap, sym, arith}
use Rattle.std.proofs.lemmas.List.{append-nil}
use Rattle.merc_base.specs.declared.category.Category.{Category}
use Rattle.merc_base.specs.declared.place.Span.{Span}
use Rattle.merc_graded_tree.specs.declared.basic.Site.{Site}
use Rattle.merc_graded_tree.specs.declared.entries.Running.TheVariants.{Sequential, Parallel}
use Rattle.merc_graded_tree.specs.Nodes.{Node, node, Goal, Basic, Conjunction, Disjunction, Switch, Conditional, Negation, Quantified, Nodes, no_nodes, more_nodes, Arms, no_arms, more_arms, nodes_of, outputs_of}
use Rattle.merc_graded_tree.specs.Variables.{in_nodes}
use Rattle.merc_rights.specs.Rights.{Right, right_to, those, used_in, unused_in, passed_by, bound_in, unbound_in, wait_at, signal_at, between, around, ahead_of, signals_of}
use Rattle.merc_par_split.specs.Forks.{forks, goal_forks, all_forks, arm_forks}
use Rattle.merc_par_split.specs.Split.{may_fail, nothing, moves_in, placed, placed_goal, placed_in_turn, placed_conjuncts, placed_arms, placed_alone, split}
use Rattle.merc_par_split.specs.SplitLaws.{sites_of, all_sites, arm_sites, sites_from}

more_sites : (number count more : ℕ) → sites_from number count ++ sites_from (number + count) more ≡ sites_from number (count + more)
more_sites number zero more =
    let start : number + 0 ≡ number = omega arith in
    let sum : 0 + more ≡ more = omega arith in
    ap (λ n. sites_from n more) start ∙ ap (λ n. sites_from number n) (sym sum)
more_sites number (suc count) more =
    let start : number + suc count ≡ suc number + count = omega arith in
    let sum : suc count + more ≡ suc (count + more) = omega arith in
    ap (λ l. Some (record { number = number }) ∷ l) (ap (λ n. sites_from (suc number) count ++ sites_from n more) start ∙ more_sites (suc number) count more)
    ∙ ap (λ n. sites_from number n) (sym sum)

-- sites of goals one after the other
both_sites : (number count more : ℕ) (first rest : List (Option Site)) → first ≡ sites_from number count → rest ≡ sites_from (number + count) more → first ++ rest ≡ sites_from number (count + more)
both_sites number count more first rest h k = ap (λ l. l ++ rest) h ∙ ap (λ l. sites_from number count ++ l) k ∙ more_sites number count more

signals_none : (span : Span) (signals : List Right) → all_sites (nodes_of (map (signal_at span) signals)) ≡ []
signals_none span [] = refl
signals_none span (first ∷ rest) = signals_none span rest

waits_none : (span : Span) (waits : List Right) → all_sites (nodes_of (map (wait_at span) waits)) ≡ []
waits_none span [] = refl
waits_none span (first ∷ rest) = waits_none span rest

parent_waits_none : (span : Span) (outputs : List ℕ) → all_sites (nodes_of (map (λ variable. wait_at span (right_to 0 variable)) outputs)) ≡ []
parent_waits_none span [] = refl
parent_waits_none span (first ∷ rest) = parent_waits_none span rest

behind_waits : (span : Span) (waits : List Right) (goals : List Node) → all_sites (nodes_of (map (wait_at span) waits ++ goals)) ≡ all_sites (nodes_of goals)
behind_waits span [] goals = refl
behind_waits span (first ∷ rest) goals = behind_waits span rest goals

alone : (whole : Node) (behind : List Node) → all_sites (nodes_of behind) ≡ [] → all_sites (nodes_of (whole ∷ behind)) ≡ sites_of whole
alone whole behind h = ap (λ l. sites_of whole ++ l) h ∙ append-nil (sites_of whole)

between_sites : (waits : List Right) (whole : Node) (behind : List Node) → all_sites (nodes_of behind) ≡ [] → sites_of (between waits whole behind) ≡ sites_of whole
between_sites [] whole [] h = refl
between_sites [] whole (next ∷ behind) h = alone whole (next ∷ behind) h
between_sites (first ∷ waits) (node g outputs category span) behind h =
    behind_waits span waits (node g outputs category span ∷ behind) ∙ alone (node g outputs category span) behind h

around_sites : (waits signals : List Right) (whole : Node) → sites_of (around waits signals whole) ≡ sites_of whole
around_sites waits signals (node g outputs category span) = between_sites waits (node g outputs category span) (map (signal_at span) signals) (signals_none span signals)

ahead_sites : (waits : List Right) (whole : Node) → sites_of (ahead_of whole waits) ≡ sites_of whole
ahead_sites waits (node g outputs category span) = between_sites [] (node g outputs category span) (map (wait_at span) waits) (waits_none span waits)

either_sites : (b : Bool) (one other : Node) (sites : List (Option Site)) → sites_of one ≡ sites → sites_of other ≡ sites → sites_of (if b then one else other) ≡ sites
either_sites true one other sites h k = h
either_sites false one other sites h k = k

mutual
  placed_sites : (n : Node) (site : ℕ) (later : ℕ → Bool) (waits signals : List Right) → sites_of (placed site later waits signals n) ≡ sites_from site (forks n)
  placed_sites (node g outputs category span) site later waits signals =
      either_sites (may_fail category) (around [] signals (placed_goal site later waits [] g outputs category span)) (placed_goal site later waits signals g outputs category span)
      (sites_from site (goal_forks g))
      (around_sites [] signals (placed_goal site later waits [] g outputs category span) ∙ placed_goal_sites g site later waits [] outputs category span)
      (placed_goal_sites g site later waits signals outputs category span)

  placed_goal_sites : (g : Goal) (site : ℕ) (later : ℕ → Bool) (waits signals : List Right) (outputs : List ℕ) (category : Option Category) (span : Span)
      → sites_of (placed_goal site later waits signals g outputs category span) ≡ sites_from site (goal_forks g)
  placed_goal_sites (Basic g) site later waits signals outputs category span = around_sites waits signals (node (Basic g) outputs category span)
  placed_goal_sites (Conjunction Sequential goals) site later waits signals outputs category span = in_turn_sites goals site later waits signals
  placed_goal_sites (Conjunction (Parallel unknown) goals) site later waits signals outputs category span =
      let conjuncts = placed_conjuncts (suc site) 1 outputs (those (moves_in later goals) waits) signals [] goals in
      between_sites (those (λ variable. not (moves_in later goals variable)) waits) (node (Conjunction (Parallel (Some (record { number = site }))) conjuncts) outputs category span)
      (map (λ variable. wait_at span (right_to 0 variable)) outputs) (parent_waits_none span outputs)
      ∙ ap (λ l. Some (record { number = site }) ∷ l) (conjuncts_sites goals (suc site) 1 outputs (those (moves_in later goals) waits) signals [])
  placed_goal_sites (Disjunction goals) site later waits signals outputs category span =
      around_sites waits signals (node (Disjunction (placed_alone site goals)) outputs category span) ∙ alone_sites goals site
  placed_goal_sites (Switch variable arms) site later waits signals outputs category span =
      let inner = those (λ other. not (other == variable)) waits in
      around_sites (those (λ other. other == variable) waits) [] (node (Switch variable (placed_arms site later inner signals arms)) outputs category span)
      ∙ arms_sites arms site later inner signals
  placed_goal_sites (Conditional condition then_part else_part) site later waits signals outputs category span =
      let inner = unused_in condition waits in
      let one = placed site nothing [] [] condition in
      let two = placed (site + forks condition) later (used_in then_part inner) (bound_in then_part signals) then_part in
      let three = placed (site + forks condition + forks then_part) later (used_in else_part inner) (bound_in else_part signals) else_part in
      let second = ahead_of two (passed_by later then_part inner) in
      let third = ahead_of three (passed_by later else_part inner) in
      around_sites (used_in condition waits) [] (node (Conditional one second third) outputs category span)
      ∙ both_sites site (forks condition) (forks then_part + forks else_part) (sites_of one) (sites_of second ++ sites_of third) (placed_sites condition site nothing [] [])
      (both_sites (site + forks condition) (forks then_part) (forks else_part) (sites_of second) (sites_of third)
      (ahead_sites (passed_by later then_part inner) two ∙ placed_sites then_part (site + forks condition) later (used_in then_part inner) (bound_in then_part signals))
      (ahead_sites (passed_by later else_part inner) three ∙ placed_sites else_part (site + forks condition + forks then_part) later (used_in else_part inner) (bound_in else_part signals)))
  placed_goal_sites (Negation goal) site later waits signals outputs category span =
      around_sites waits signals (node (Negation (placed site nothing [] [] goal)) outputs category span) ∙ placed_sites goal site nothing [] []
  placed_goal_sites (Quantified own goal) site later waits signals outputs category span = placed_sites goal site later waits signals

  in_turn_sites : (goals : Nodes) (site : ℕ) (later : ℕ → Bool) (waits signals : List Right) → all_sites (placed_in_turn site later waits signals goals) ≡ sites_from site (all_forks goals)
  in_turn_sites no_nodes site later waits signals = refl
  in_turn_sites (more_nodes first rest) site later waits signals =
      let here : ℕ → Bool = λ variable. later variable || in_nodes rest variable in
      both_sites site (forks first) (all_forks rest) (sites_of (placed site here (used_in first waits) (bound_in first signals) first))
      (all_sites (placed_in_turn (site + forks first) later (unused_in first waits) (unbound_in first signals) rest))
      (placed_sites first site here (used_in first waits) (bound_in first signals)) (in_turn_sites rest (site + forks first) later (unused_in first waits) (unbound_in first signals))

  conjuncts_sites : (goals : Nodes) (site number : ℕ) (outputs : List ℕ) (waits signals : List Right) (left : List ℕ)
      → all_sites (placed_conjuncts site number outputs waits signals left goals) ≡ sites_from site (all_forks goals)
  conjuncts_sites no_nodes site number outputs waits signals left = refl
  conjuncts_sites (more_nodes first rest) site number outputs waits signals left =
      let awaited = used_in first (map (right_to number) left ++ waits) in
      let given = flat_map (signals_of (suc number) rest outputs signals) (outputs_of first) in
      both_sites site (forks first) (all_forks rest) (sites_of (placed site nothing awaited given first))
      (all_sites (placed_conjuncts (site + forks first) (suc number) outputs waits signals (left ++ outputs_of first) rest))
      (placed_sites first site nothing awaited given) (conjuncts_sites rest (site + forks first) (suc number) outputs waits signals (left ++ outputs_of first))

  arms_sites : (arms : Arms) (site : ℕ) (later : ℕ → Bool) (waits signals : List Right) → arm_sites (placed_arms site later waits signals arms) ≡ sites_from site (arm_forks arms)
  arms_sites no_arms site later waits signals = refl
  arms_sites (more_arms symbol body rest) site later waits signals =
      let inner = placed site later (used_in body waits) (bound_in body signals) body in
      both_sites site (forks body) (arm_forks rest) (sites_of (ahead_of inner (passed_by later body waits))) (arm_sites (placed_arms (site + forks body) later waits signals rest))
      (ahead_sites (passed_by later body waits) inner ∙ placed_sites body site later (used_in body waits) (bound_in body signals)) (arms_sites rest (site + forks body) later waits signals)

  alone_sites : (goals : Nodes) (site : ℕ) → all_sites (placed_alone site goals) ≡ sites_from site (all_forks goals)
  alone_sites no_nodes site = refl
  alone_sites (more_nodes first rest) site =
      both_sites site (forks first) (all_forks rest) (sites_of (placed site nothing [] [] first)) (all_sites (placed_alone (site + forks first) rest))
      (placed_sites first site nothing [] []) (alone_sites rest (site + forks first))

pub split_sites : (site : ℕ) (tree : Node) → sites_of (split site tree) ≡ sites_from site (forks tree)
split_sites site tree = placed_sites tree site nothing [] []
