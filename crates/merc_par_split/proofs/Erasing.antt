-- Without its waits, signals and sites the split tree is the graded one.
use Rattle.std.specs.Prelude.{◌≡◌, ℕ, suc, ◌+◌, Bool, true, false, ◌==◌, ◌||◌, not, List, [], ◌∷◌, ◌++◌, map, Option, Some, if◌then◌else◌, refl}
use Rattle.std.specs.List.{flat_map}
use Rattle.std.proofs.Common.{◌∙◌, ap}
use Rattle.merc_base.specs.declared.category.Category.{Category}
use Rattle.merc_base.specs.declared.place.Span.{Span}
use Rattle.merc_graded_tree.specs.declared.entries.Running.{Running}
use Rattle.merc_graded_tree.specs.declared.entries.Running.TheVariants.{Sequential, Parallel}
use Rattle.merc_graded_tree.specs.Nodes.{Node, node, Goal, Basic, Conjunction, Disjunction, Switch, Conditional, Negation, Quantified, Nodes, no_nodes, more_nodes, Arms, no_arms, more_arms, nodes_of, outputs_of}
use Rattle.merc_graded_tree.specs.Variables.{in_nodes}
use Rattle.merc_rights.specs.Rights.{Right, right_to, those, used_in, unused_in, passed_by, bound_in, unbound_in, wait_at, signal_at, between, around, ahead_of, signals_of}
use Rattle.merc_par_split.specs.Forks.{forks}
use Rattle.merc_par_split.specs.Split.{may_fail, nothing, moves_in, placed, placed_goal, placed_in_turn, placed_conjuncts, placed_arms, placed_alone, split}
use Rattle.merc_par_split.specs.SplitLaws.{marks, any_marks, unsited, first_if, erased, erased_all, erased_arms, Unsplit, UnsplitGoal, AllUnsplit, ArmsUnsplit}

-- A goal of the split tree stands for one of the graded tree: it is no wait and no signal, and without those it is that goal.
pub record StandsFor (tree whole : Node) : Type 0 where
  pub no_mark : marks whole ≡ false
  pub same : erased whole ≡ tree

-- goals that are waits and signals
abbrev AllMarks : List Node → Type 0
AllMarks [] = Unit {0}
AllMarks (first ∷ rest) = (marks first ≡ true) × AllMarks rest

signals_mark : (span : Span) (signals : List Right) → AllMarks (map (signal_at span) signals)
signals_mark span [] = tt
signals_mark span (first ∷ rest) = (refl, signals_mark span rest)

waits_mark : (span : Span) (waits : List Right) → AllMarks (map (wait_at span) waits)
waits_mark span [] = tt
waits_mark span (first ∷ rest) = (refl, waits_mark span rest)

parent_waits_mark : (span : Span) (outputs : List ℕ) → AllMarks (map (λ variable. wait_at span (right_to 0 variable)) outputs)
parent_waits_mark span [] = tt
parent_waits_mark span (first ∷ rest) = (refl, parent_waits_mark span rest)

marks_erased : (goals : List Node) → AllMarks goals → erased_all (nodes_of goals) ≡ no_nodes
marks_erased [] h = refl
marks_erased (first ∷ rest) (h, k) =
    ap (λ mark. if mark then erased_all (nodes_of rest) else more_nodes (erased first) (erased_all (nodes_of rest))) h ∙ marks_erased rest k

whole_erased : (whole : Node) (behind : List Node) → marks whole ≡ false → AllMarks behind → erased_all (nodes_of (whole ∷ behind)) ≡ more_nodes (erased whole) no_nodes
whole_erased whole behind h k =
    ap (λ mark. if mark then erased_all (nodes_of behind) else more_nodes (erased whole) (erased_all (nodes_of behind))) h
    ∙ ap (λ goals. more_nodes (erased whole) goals) (marks_erased behind k)

waits_erased : (span : Span) (waits : List Right) (goals : List Node) → erased_all (nodes_of (map (wait_at span) waits ++ goals)) ≡ erased_all (nodes_of goals)
waits_erased span [] goals = refl
waits_erased span (first ∷ rest) goals = waits_erased span rest goals

or_true : (b : Bool) → (b || true) ≡ true
or_true true = refl
or_true false = refl

second_marks : (whole next : Node) (behind : Nodes) → marks next ≡ true → any_marks (more_nodes whole (more_nodes next behind)) ≡ true
second_marks whole next behind h = ap (λ mark. marks whole || (mark || any_marks behind)) h ∙ or_true (marks whole)

-- a goal that stands for one does so also with waits before it, and waits and signals behind it
between_stands : (waits : List Right) (tree whole : Node) (behind : List Node) → StandsFor tree whole → AllMarks behind → StandsFor tree (between waits whole behind)
between_stands [] tree whole [] h k = h
between_stands [] tree (node g outputs category span) (next ∷ behind) h (k, l) =
    let whole = node g outputs category span in
    record {
      no_mark = refl;
      same = ap (λ mark. first_if mark (erased_all (nodes_of (whole ∷ next ∷ behind))) (node (Conjunction Sequential (erased_all (nodes_of (whole ∷ next ∷ behind)))) outputs category span))
          (second_marks whole next (nodes_of behind) k)
          ∙ ap (λ goals. first_if true goals (node (Conjunction Sequential goals) outputs category span)) (whole_erased whole (next ∷ behind) h.no_mark (k, l)) ∙ h.same;
    }
between_stands (first ∷ waits) tree (node g outputs category span) behind h k =
    let whole = node g outputs category span in
    record {
      no_mark = refl;
      same = ap (λ goals. first_if true goals (node (Conjunction Sequential goals) outputs category span))
          (waits_erased span waits (whole ∷ behind) ∙ whole_erased whole behind h.no_mark k) ∙ h.same;
    }

around_stands : (waits signals : List Right) (tree whole : Node) → StandsFor tree whole → StandsFor tree (around waits signals whole)
around_stands waits signals tree (node g outputs category span) h = between_stands waits tree (node g outputs category span) (map (signal_at span) signals) h (signals_mark span signals)

ahead_stands : (waits : List Right) (tree whole : Node) → StandsFor tree whole → StandsFor tree (ahead_of whole waits)
ahead_stands waits tree (node g outputs category span) h = between_stands [] tree (node g outputs category span) (map (wait_at span) waits) h (waits_mark span waits)

either_stands : (b : Bool) (tree one other : Node) → StandsFor tree one → StandsFor tree other → StandsFor tree (if b then one else other)
either_stands true tree one other h k = h
either_stands false tree one other h k = k

-- goals that stand for those of the graded tree
pub record StandFor (tree goals : Nodes) : Type 0 where
  pub no_marks : any_marks goals ≡ false
  pub same : erased_all goals ≡ tree

more_stand : (tree whole : Node) (trees goals : Nodes) → StandsFor tree whole → StandFor trees goals → StandFor (more_nodes tree trees) (more_nodes whole goals)
more_stand tree whole trees goals h k = record {
  no_marks = ap (λ mark. mark || any_marks goals) h.no_mark ∙ k.no_marks;
  same = ap (λ mark. if mark then erased_all goals else more_nodes (erased whole) (erased_all goals)) h.no_mark
      ∙ ap (λ first. more_nodes first (erased_all goals)) h.same ∙ ap (λ rest. more_nodes tree rest) k.same;
}

joined_stand : (running new : Running) (trees goals : Nodes) (outputs : List ℕ) (category : Option Category) (span : Span) → unsited new ≡ running → StandFor trees goals
    → StandsFor (node (Conjunction running trees) outputs category span) (node (Conjunction new goals) outputs category span)
joined_stand running new trees goals outputs category span h k = record {
  no_mark = refl;
  same = ap (λ mark. first_if mark (erased_all goals) (node (Conjunction (unsited new) (erased_all goals)) outputs category span)) k.no_marks
      ∙ ap (λ r. node (Conjunction r (erased_all goals)) outputs category span) h ∙ ap (λ g. node (Conjunction running g) outputs category span) k.same;
}

mutual
  placed_stands : (n : Node) (site : ℕ) (later : ℕ → Bool) (waits signals : List Right) → Unsplit n → StandsFor n (placed site later waits signals n)
  placed_stands (node g outputs category span) site later waits signals h =
      either_stands (may_fail category) (node g outputs category span) (around [] signals (placed_goal site later waits [] g outputs category span))
      (placed_goal site later waits signals g outputs category span)
      (around_stands [] signals (node g outputs category span) (placed_goal site later waits [] g outputs category span) (goal_stands g site later waits [] outputs category span h))
      (goal_stands g site later waits signals outputs category span h)

  goal_stands : (g : Goal) (site : ℕ) (later : ℕ → Bool) (waits signals : List Right) (outputs : List ℕ) (category : Option Category) (span : Span) → UnsplitGoal g
      → StandsFor (node g outputs category span) (placed_goal site later waits signals g outputs category span)
  goal_stands (Basic g) site later waits signals outputs category span h =
      around_stands waits signals (node (Basic g) outputs category span) (node (Basic g) outputs category span) (record { no_mark = h; same = refl })
  goal_stands (Conjunction Sequential goals) site later waits signals outputs category span (h, k) =
      joined_stand Sequential Sequential goals (placed_in_turn site later waits signals goals) outputs category span refl (in_turn_stand goals site later waits signals k)
  goal_stands (Conjunction (Parallel unknown) goals) site later waits signals outputs category span (h, k) =
      let tree = node (Conjunction (Parallel unknown) goals) outputs category span in
      let conjuncts = placed_conjuncts (suc site) 1 outputs (those (moves_in later goals) waits) signals [] goals in
      between_stands (those (λ variable. not (moves_in later goals variable)) waits) tree (node (Conjunction (Parallel (Some (record { number = site }))) conjuncts) outputs category span)
      (map (λ variable. wait_at span (right_to 0 variable)) outputs)
      (joined_stand (Parallel unknown) (Parallel (Some (record { number = site }))) goals conjuncts outputs category span h
      (conjuncts_stand goals (suc site) 1 outputs (those (moves_in later goals) waits) signals [] k)) (parent_waits_mark span outputs)
  goal_stands (Disjunction goals) site later waits signals outputs category span h =
      let inner = alone_stand goals site h in
      around_stands waits signals (node (Disjunction goals) outputs category span) (node (Disjunction (placed_alone site goals)) outputs category span)
      (record { no_mark = refl; same = ap (λ g. node (Disjunction g) outputs category span) inner.same })
  goal_stands (Switch variable arms) site later waits signals outputs category span h =
      let inner = those (λ other. not (other == variable)) waits in
      around_stands (those (λ other. other == variable) waits) [] (node (Switch variable arms) outputs category span) (node (Switch variable (placed_arms site later inner signals arms)) outputs category span)
      (record { no_mark = refl; same = ap (λ a. node (Switch variable a) outputs category span) (arms_stand arms site later inner signals h) })
  goal_stands (Conditional condition then_part else_part) site later waits signals outputs category span (h, (k, l)) =
      let inner = unused_in condition waits in
      let one = placed site nothing [] [] condition in
      let two = placed (site + forks condition) later (used_in then_part inner) (bound_in then_part signals) then_part in
      let three = placed (site + forks condition + forks then_part) later (used_in else_part inner) (bound_in else_part signals) else_part in
      let first = placed_stands condition site nothing [] [] h in
      let second = ahead_stands (passed_by later then_part inner) then_part two (placed_stands then_part (site + forks condition) later (used_in then_part inner) (bound_in then_part signals) k) in
      let third = ahead_stands (passed_by later else_part inner) else_part three
      (placed_stands else_part (site + forks condition + forks then_part) later (used_in else_part inner) (bound_in else_part signals) l) in
      let then_erased = erased (ahead_of two (passed_by later then_part inner)) in
      let else_erased = erased (ahead_of three (passed_by later else_part inner)) in
      around_stands (used_in condition waits) [] (node (Conditional condition then_part else_part) outputs category span)
      (node (Conditional one (ahead_of two (passed_by later then_part inner)) (ahead_of three (passed_by later else_part inner))) outputs category span)
      (record {
        no_mark = refl;
        same = ap (λ n. node (Conditional n then_erased else_erased) outputs category span) first.same
            ∙ ap (λ n. node (Conditional condition n else_erased) outputs category span) second.same
            ∙ ap (λ n. node (Conditional condition then_part n) outputs category span) third.same;
      })
  goal_stands (Negation goal) site later waits signals outputs category span h =
      let inner = placed_stands goal site nothing [] [] h in
      around_stands waits signals (node (Negation goal) outputs category span) (node (Negation (placed site nothing [] [] goal)) outputs category span)
      (record { no_mark = refl; same = ap (λ n. node (Negation n) outputs category span) inner.same })
  goal_stands (Quantified own goal) site later waits signals outputs category span h =
      let inner = placed_stands goal site later waits signals h in
      record { no_mark = refl; same = ap (λ n. node (Quantified own n) outputs category span) inner.same }

  in_turn_stand : (goals : Nodes) (site : ℕ) (later : ℕ → Bool) (waits signals : List Right) → AllUnsplit goals → StandFor goals (placed_in_turn site later waits signals goals)
  in_turn_stand no_nodes site later waits signals h = record { no_marks = refl; same = refl }
  in_turn_stand (more_nodes first rest) site later waits signals (h, k) =
      let here : ℕ → Bool = λ variable. later variable || in_nodes rest variable in
      more_stand first (placed site here (used_in first waits) (bound_in first signals) first) rest
      (placed_in_turn (site + forks first) later (unused_in first waits) (unbound_in first signals) rest)
      (placed_stands first site here (used_in first waits) (bound_in first signals) h)
      (in_turn_stand rest (site + forks first) later (unused_in first waits) (unbound_in first signals) k)

  conjuncts_stand : (goals : Nodes) (site number : ℕ) (outputs : List ℕ) (waits signals : List Right) (left : List ℕ) → AllUnsplit goals
      → StandFor goals (placed_conjuncts site number outputs waits signals left goals)
  conjuncts_stand no_nodes site number outputs waits signals left h = record { no_marks = refl; same = refl }
  conjuncts_stand (more_nodes first rest) site number outputs waits signals left (h, k) =
      let awaited = used_in first (map (right_to number) left ++ waits) in
      let given = flat_map (signals_of (suc number) rest outputs signals) (outputs_of first) in
      more_stand first (placed site nothing awaited given first) rest (placed_conjuncts (site + forks first) (suc number) outputs waits signals (left ++ outputs_of first) rest)
      (placed_stands first site nothing awaited given h) (conjuncts_stand rest (site + forks first) (suc number) outputs waits signals (left ++ outputs_of first) k)

  arms_stand : (arms : Arms) (site : ℕ) (later : ℕ → Bool) (waits signals : List Right) → ArmsUnsplit arms → erased_arms (placed_arms site later waits signals arms) ≡ arms
  arms_stand no_arms site later waits signals h = refl
  arms_stand (more_arms symbol body rest) site later waits signals (h, k) =
      let inner = placed site later (used_in body waits) (bound_in body signals) body in
      let arm = ahead_stands (passed_by later body waits) body inner (placed_stands body site later (used_in body waits) (bound_in body signals) h) in
      ap (λ n. more_arms symbol n (erased_arms (placed_arms (site + forks body) later waits signals rest))) arm.same
      ∙ ap (λ a. more_arms symbol body a) (arms_stand rest (site + forks body) later waits signals k)

  alone_stand : (goals : Nodes) (site : ℕ) → AllUnsplit goals → StandFor goals (placed_alone site goals)
  alone_stand no_nodes site h = record { no_marks = refl; same = refl }
  alone_stand (more_nodes first rest) site (h, k) =
      more_stand first (placed site nothing [] [] first) rest (placed_alone (site + forks first) rest) (placed_stands first site nothing [] [] h) (alone_stand rest (site + forks first) k)

pub erased_split : (site : ℕ) (tree : Node) → Unsplit tree → erased (split site tree) ≡ tree
erased_split site tree h = let stands = placed_stands tree site nothing [] [] h in stands.same
