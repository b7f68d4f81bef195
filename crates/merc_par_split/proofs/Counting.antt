-- The split tree has as many parallel conjunctions as the graded one, and calls the same procedures.
use Rattle.std.specs.Prelude.{◌≡◌, ℕ, suc, ◌+◌, Bool, true, false, ◌==◌, ◌||◌, not, List, [], ◌∷◌, ◌++◌, map, Option, Some, if◌then◌else◌, refl}
use Rattle.std.specs.List.{flat_map}
use Rattle.std.proofs.Common.{◌∙◌, ap, add-zero, zero-add}
use Rattle.std.proofs.lemmas.List.{append-nil}
use Rattle.merc_base.specs.declared.category.Category.{Category}
use Rattle.merc_base.specs.declared.place.Span.{Span}
use Rattle.merc_graded_tree.specs.declared.entries.Running.TheVariants.{Sequential, Parallel}
use Rattle.merc_graded_tree.specs.Nodes.{Node, node, Goal, Basic, Conjunction, Disjunction, Switch, Conditional, Negation, Quantified, Nodes, no_nodes, more_nodes, Arms, no_arms, more_arms, nodes_of, outputs_of}
use Rattle.merc_graded_tree.specs.Variables.{in_nodes}
use Rattle.merc_rights.specs.Rights.{Right, right_to, those, used_in, unused_in, passed_by, bound_in, unbound_in, wait_at, signal_at, between, around, ahead_of, signals_of}
use Rattle.merc_par_split.specs.Forks.{forks, all_forks, arm_forks}
use Rattle.merc_par_split.specs.Split.{may_fail, nothing, moves_in, placed, placed_goal, placed_in_turn, placed_conjuncts, placed_arms, placed_alone, split}
use Rattle.merc_par_split.specs.SplitLaws.{calls_of, all_calls, arm_calls}

-- A goal has as many parallel conjunctions as another, and calls the same procedures.
pub record Alike (tree whole : Node) : Type 0 where
  pub as_many : forks whole ≡ forks tree
  pub same_calls : calls_of whole ≡ calls_of tree

pub record AllAlike (trees goals : Nodes) : Type 0 where
  pub as_many : all_forks goals ≡ all_forks trees
  pub same_calls : all_calls goals ≡ all_calls trees

pub record ArmsAlike (trees arms : Arms) : Type 0 where
  pub as_many : arm_forks arms ≡ arm_forks trees
  pub same_calls : arm_calls arms ≡ arm_calls trees

-- goals that have none and call none
pub record HaveNone (goals : List Node) : Type 0 where
  pub no_forks : all_forks (nodes_of goals) ≡ 0
  pub no_calls : all_calls (nodes_of goals) ≡ []

signals_none : (span : Span) (signals : List Right) → HaveNone (map (signal_at span) signals)
signals_none span [] = record { no_forks = refl; no_calls = refl }
signals_none span (first ∷ rest) =
    let inner = signals_none span rest in
    record { no_forks = zero-add (all_forks (nodes_of (map (signal_at span) rest))) ∙ inner.no_forks; no_calls = inner.no_calls }

waits_none : (span : Span) (waits : List Right) → HaveNone (map (wait_at span) waits)
waits_none span [] = record { no_forks = refl; no_calls = refl }
waits_none span (first ∷ rest) =
    let inner = waits_none span rest in
    record { no_forks = zero-add (all_forks (nodes_of (map (wait_at span) rest))) ∙ inner.no_forks; no_calls = inner.no_calls }

parent_waits_none : (span : Span) (outputs : List ℕ) → HaveNone (map (λ variable. wait_at span (right_to 0 variable)) outputs)
parent_waits_none span [] = record { no_forks = refl; no_calls = refl }
parent_waits_none span (first ∷ rest) =
    let inner = parent_waits_none span rest in
    record { no_forks = zero-add (all_forks (nodes_of (map (λ variable. wait_at span (right_to 0 variable)) rest))) ∙ inner.no_forks; no_calls = inner.no_calls }

behind_waits : (span : Span) (waits : List Right) (goals : List Node)
    → (all_forks (nodes_of (map (wait_at span) waits ++ goals)) ≡ all_forks (nodes_of goals)) × (all_calls (nodes_of (map (wait_at span) waits ++ goals)) ≡ all_calls (nodes_of goals))
behind_waits span [] goals = (refl, refl)
behind_waits span (first ∷ rest) goals =
    let inner = behind_waits span rest goals in (zero-add (all_forks (nodes_of (map (wait_at span) rest ++ goals))) ∙ inner.0, inner.1)

forks_alone : (whole : Node) (behind : List Node) → HaveNone behind → all_forks (nodes_of (whole ∷ behind)) ≡ forks whole
forks_alone whole behind h = ap (λ n. forks whole + n) h.no_forks ∙ add-zero (forks whole)

calls_alone : (whole : Node) (behind : List Node) → HaveNone behind → all_calls (nodes_of (whole ∷ behind)) ≡ calls_of whole
calls_alone whole behind h = ap (λ calls. calls_of whole ++ calls) h.no_calls ∙ append-nil (calls_of whole)

between_alike : (waits : List Right) (tree whole : Node) (behind : List Node) → Alike tree whole → HaveNone behind → Alike tree (between waits whole behind)
between_alike [] tree whole [] h k = h
between_alike [] tree whole (next ∷ behind) h k = record {
  as_many = forks_alone whole (next ∷ behind) k ∙ h.as_many;
  same_calls = calls_alone whole (next ∷ behind) k ∙ h.same_calls;
}
between_alike (first ∷ waits) tree (node g outputs category span) behind h k =
    let whole = node g outputs category span in
    let passed = behind_waits span waits (whole ∷ behind) in
    record {
      as_many = zero-add (all_forks (nodes_of (map (wait_at span) waits ++ whole ∷ behind))) ∙ passed.0 ∙ forks_alone whole behind k ∙ h.as_many;
      same_calls = passed.1 ∙ calls_alone whole behind k ∙ h.same_calls;
    }

around_alike : (waits signals : List Right) (tree whole : Node) → Alike tree whole → Alike tree (around waits signals whole)
around_alike waits signals tree (node g outputs category span) h = between_alike waits tree (node g outputs category span) (map (signal_at span) signals) h (signals_none span signals)

ahead_alike : (waits : List Right) (tree whole : Node) → Alike tree whole → Alike tree (ahead_of whole waits)
ahead_alike waits tree (node g outputs category span) h = between_alike [] tree (node g outputs category span) (map (wait_at span) waits) h (waits_none span waits)

either_alike : (b : Bool) (tree one other : Node) → Alike tree one → Alike tree other → Alike tree (if b then one else other)
either_alike true tree one other h k = h
either_alike false tree one other h k = k

more_alike : (tree whole : Node) (trees goals : Nodes) → Alike tree whole → AllAlike trees goals → AllAlike (more_nodes tree trees) (more_nodes whole goals)
more_alike tree whole trees goals h k = record {
  as_many = ap (λ n. n + all_forks goals) h.as_many ∙ ap (λ n. forks tree + n) k.as_many;
  same_calls = ap (λ l. l ++ all_calls goals) h.same_calls ∙ ap (λ l. calls_of tree ++ l) k.same_calls;
}

mutual
  placed_alike : (n : Node) (site : ℕ) (later : ℕ → Bool) (waits signals : List Right) → Alike n (placed site later waits signals n)
  placed_alike (node g outputs category span) site later waits signals =
      either_alike (may_fail category) (node g outputs category span) (around [] signals (placed_goal site later waits [] g outputs category span))
      (placed_goal site later waits signals g outputs category span)
      (around_alike [] signals (node g outputs category span) (placed_goal site later waits [] g outputs category span) (goal_alike g site later waits [] outputs category span))
      (goal_alike g site later waits signals outputs category span)

  goal_alike : (g : Goal) (site : ℕ) (later : ℕ → Bool) (waits signals : List Right) (outputs : List ℕ) (category : Option Category) (span : Span)
      → Alike (node g outputs category span) (placed_goal site later waits signals g outputs category span)
  goal_alike (Basic g) site later waits signals outputs category span =
      around_alike waits signals (node (Basic g) outputs category span) (node (Basic g) outputs category span) (record { as_many = refl; same_calls = refl })
  goal_alike (Conjunction Sequential goals) site later waits signals outputs category span =
      let inner = in_turn_alike goals site later waits signals in record { as_many = inner.as_many; same_calls = inner.same_calls }
  goal_alike (Conjunction (Parallel unknown) goals) site later waits signals outputs category span =
      let conjuncts = placed_conjuncts (suc site) 1 outputs (those (moves_in later goals) waits) signals [] goals in
      let inner = conjuncts_alike goals (suc site) 1 outputs (those (moves_in later goals) waits) signals [] in
      between_alike (those (λ variable. not (moves_in later goals variable)) waits) (node (Conjunction (Parallel unknown) goals) outputs category span)
      (node (Conjunction (Parallel (Some (record { number = site }))) conjuncts) outputs category span) (map (λ variable. wait_at span (right_to 0 variable)) outputs)
      (record { as_many = ap suc inner.as_many; same_calls = inner.same_calls }) (parent_waits_none span outputs)
  goal_alike (Disjunction goals) site later waits signals outputs category span =
      let inner = alone_alike goals site in
      around_alike waits signals (node (Disjunction goals) outputs category span) (node (Disjunction (placed_alone site goals)) outputs category span)
      (record { as_many = inner.as_many; same_calls = inner.same_calls })
  goal_alike (Switch variable arms) site later waits signals outputs category span =
      let left = those (λ other. not (other == variable)) waits in
      let inner = arms_alike arms site later left signals in
      around_alike (those (λ other. other == variable) waits) [] (node (Switch variable arms) outputs category span) (node (Switch variable (placed_arms site later left signals arms)) outputs category span)
      (record { as_many = inner.as_many; same_calls = inner.same_calls })
  goal_alike (Conditional condition then_part else_part) site later waits signals outputs category span =
      let inner = unused_in condition waits in
      let one = placed site nothing [] [] condition in
      let two = placed (site + forks condition) later (used_in then_part inner) (bound_in then_part signals) then_part in
      let three = placed (site + forks condition + forks then_part) later (used_in else_part inner) (bound_in else_part signals) else_part in
      let two_ahead = ahead_of two (passed_by later then_part inner) in
      let three_ahead = ahead_of three (passed_by later else_part inner) in
      let first = placed_alike condition site nothing [] [] in
      let second = ahead_alike (passed_by later then_part inner) then_part two (placed_alike then_part (site + forks condition) later (used_in then_part inner) (bound_in then_part signals)) in
      let third = ahead_alike (passed_by later else_part inner) else_part three
      (placed_alike else_part (site + forks condition + forks then_part) later (used_in else_part inner) (bound_in else_part signals)) in
      around_alike (used_in condition waits) [] (node (Conditional condition then_part else_part) outputs category span) (node (Conditional one two_ahead three_ahead) outputs category span)
      (record {
        as_many = ap (λ n. n + (forks two_ahead + forks three_ahead)) first.as_many ∙ ap (λ n. forks condition + (n + forks three_ahead)) second.as_many
            ∙ ap (λ n. forks condition + (forks then_part + n)) third.as_many;
        same_calls = ap (λ l. l ++ (calls_of two_ahead ++ calls_of three_ahead)) first.same_calls ∙ ap (λ l. calls_of condition ++ (l ++ calls_of three_ahead)) second.same_calls
            ∙ ap (λ l. calls_of condition ++ (calls_of then_part ++ l)) third.same_calls;
      })
  goal_alike (Negation goal) site later waits signals outputs category span =
      let inner = placed_alike goal site nothing [] [] in
      around_alike waits signals (node (Negation goal) outputs category span) (node (Negation (placed site nothing [] [] goal)) outputs category span)
      (record { as_many = inner.as_many; same_calls = inner.same_calls })
  goal_alike (Quantified own goal) site later waits signals outputs category span =
      let inner = placed_alike goal site later waits signals in record { as_many = inner.as_many; same_calls = inner.same_calls }

  in_turn_alike : (goals : Nodes) (site : ℕ) (later : ℕ → Bool) (waits signals : List Right) → AllAlike goals (placed_in_turn site later waits signals goals)
  in_turn_alike no_nodes site later waits signals = record { as_many = refl; same_calls = refl }
  in_turn_alike (more_nodes first rest) site later waits signals =
      let here : ℕ → Bool = λ variable. later variable || in_nodes rest variable in
      more_alike first (placed site here (used_in first waits) (bound_in first signals) first) rest
      (placed_in_turn (site + forks first) later (unused_in first waits) (unbound_in first signals) rest)
      (placed_alike first site here (used_in first waits) (bound_in first signals)) (in_turn_alike rest (site + forks first) later (unused_in first waits) (unbound_in first signals))

  conjuncts_alike : (goals : Nodes) (site number : ℕ) (outputs : List ℕ) (waits signals : List Right) (left : List ℕ)
      → AllAlike goals (placed_conjuncts site number outputs waits signals left goals)
  conjuncts_alike no_nodes site number outputs waits signals left = record { as_many = refl; same_calls = refl }
  conjuncts_alike (more_nodes first rest) site number outputs waits signals left =
      let awaited = used_in first (map (right_to number) left ++ waits) in
      let given = flat_map (signals_of (suc number) rest outputs signals) (outputs_of first) in
      more_alike first (placed site nothing awaited given first) rest (placed_conjuncts (site + forks first) (suc number) outputs waits signals (left ++ outputs_of first) rest)
      (placed_alike first site nothing awaited given) (conjuncts_alike rest (site + forks first) (suc number) outputs waits signals (left ++ outputs_of first))

  arms_alike : (arms : Arms) (site : ℕ) (later : ℕ → Bool) (waits signals : List Right) → ArmsAlike arms (placed_arms site later waits signals arms)
  arms_alike no_arms site later waits signals = record { as_many = refl; same_calls = refl }
  arms_alike (more_arms symbol body rest) site later waits signals =
      let arm = ahead_of (placed site later (used_in body waits) (bound_in body signals) body) (passed_by later body waits) in
      let others = placed_arms (site + forks body) later waits signals rest in
      let first = ahead_alike (passed_by later body waits) body (placed site later (used_in body waits) (bound_in body signals) body)
      (placed_alike body site later (used_in body waits) (bound_in body signals)) in
      let inner = arms_alike rest (site + forks body) later waits signals in
      record {
        as_many = ap (λ n. n + arm_forks others) first.as_many ∙ ap (λ n. forks body + n) inner.as_many;
        same_calls = ap (λ l. l ++ arm_calls others) first.same_calls ∙ ap (λ l. calls_of body ++ l) inner.same_calls;
      }

  alone_alike : (goals : Nodes) (site : ℕ) → AllAlike goals (placed_alone site goals)
  alone_alike no_nodes site = record { as_many = refl; same_calls = refl }
  alone_alike (more_nodes first rest) site =
      more_alike first (placed site nothing [] [] first) rest (placed_alone (site + forks first) rest) (placed_alike first site nothing [] []) (alone_alike rest (site + forks first))

pub split_forks : (site : ℕ) (tree : Node) → forks (split site tree) ≡ forks tree
split_forks site tree = let alike = placed_alike tree site nothing [] [] in alike.as_many

pub split_calls : (site : ℕ) (tree : Node) → calls_of (split site tree) ≡ calls_of tree
split_calls site tree = let alike = placed_alike tree site nothing [] [] in alike.same_calls
