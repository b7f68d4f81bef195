mod Links
mod Conjuncts
use Rattle.std.proofs.Common.{◌≡◌, ◌+◌, ◌-◌, ◌∙◌, true, false, [], ◌∷◌, Ok, Err, None, drop, length, length-append, ap, sym, subst, refl, arith}
use Rattle.std.proofs.lemmas.List.{drop_all}
use Rattle.std.proofs.lemmas.Result.{err_from_is_err_and}
use Rattle.std.proofs.lemmas.Slice.{between_to_end}
use Rattle.std.specs.List.{slice_range}
use Rattle.merc_goal_tree.specs.Nodes.{Node, Simple, Conjunction, Disjunction, Negation, Quantified, nodes_of, Parallel, span_of}
use Rattle.merc_goal_tree.specs.Parts.{parts_of, all_parts}
use Rattle.merc_graded_tree.specs.declared.entries.Root.TheVariants.{Conjunction as ConjunctionRoot, Disjunction as DisjunctionRoot, Negation as NegationRoot, Quantified as QuantifiedRoot}
use Rattle.merc_graded_tree.specs.declared.entries.Running.TheVariants.{Parallel as Beside}
use Rattle.merc_goal_tree.specs.Variables.{variables, all_variables}
use Rattle.merc_order.specs.Bound.{among, are_bound, with}
use Rattle.merc_order.specs.Moves.{each_from, beside}
use Rattle.merc_order.specs.Order.{from, moves, outputs_of}
use Rattle.merc_order.specs.Ordered.{and_all, is_ready}
use Rattle.merc_order.specs.Procedures.{modes_of}
use Rattle.merc_goal_facts.specs.Facts.{AreKnown, subgoals, all_subgoals}
use Rattle.merc_simple_goals.specs.Writing.{Gives}
use Rattle.merc_simple_goals.specs.declared.written.Written.{Written}
use Rattle.merc_goal_order.proofs.Positions.{next_item, some_parts}
use Rattle.merc_goal_order.proofs.Stretches.{stretch_front}
use Rattle.merc_goal_order.specs.Beside.{all_beside, TellsStuck}
use Rattle.merc_goal_order.specs.Conjuncts.{GoesIfReady}
use Rattle.merc_goal_order.specs.Walking.{Orders}
use Rattle.merc_goal_order.specs.Walks.{Walked}
use Rattle.merc_readiness.proofs.Binding.{extends_on}
use Rattle.merc_readiness.proofs.Lengths.{front_length}
use Rattle.merc_goal_order.proofs.Beside.{facts_of_first, facts_from, blank_there, beside_goes, beside_stuck, beside_err, walked_tells, never_stuck}
use Rattle.merc_readiness.proofs.Marking.{subgoals_length, all_subgoals_length, parts_length}
use Rattle.merc_readiness.proofs.Stepping.{facts_of_next}
use Rattle.merc_goal_order.proofs.Lengths.{part_length, cleared_length, joined_length}
use Rattle.merc_goal_order.proofs.Walked.{walked_on, walked_end, walked_stuck}
use Rattle.merc_goal_order.proofs.Wholes.{end_within, at_behind, undone_is, known_parts, known_own, negation_stuck, negation_binds, negation_ready, quantified_stuck, quantified_ready, disjunction_stuck, disjunction_differs, disjunction_ready, parallel_stuck, parallel_ready}
use Rattle.merc_goal_order.proofs.+walking.Goals as goal
use Rattle.merc_goal_order.proofs.+walking.Answers.Conjuncts as conjuncts_of
use Rattle.merc_goal_order.proofs.+walking.Answers.Links as links_of

-- negations

pub walking::walk_negation-walk-requires : goal.walking::walk_negation-walk-requires
walking::walk_negation-walk-requires t c =
    let size = length (parts_of c.args.inner.now) in (
      omega arith,
      (
        front_length c.args.whole.now.facts.now c.part_count-own.result size 1 c.requires.known c.part_count-own.ensures,
        (front_length c.args.marks.now c.part_count-own.result size 1 c.requires.marked c.part_count-own.ensures, c.requires.seen),
      ),
    )

pub walking::walk_negation-bounds-facts-own : goal.walking::walk_negation-bounds-facts-own
walking::walk_negation-bounds-facts-own t c = omega (arith, c.requires.known, c.part_count-own.ensures)

pub walking::walk_negation-negate-requires : goal.walking::walk_negation-negate-requires
walking::walk_negation-negate-requires t c = omega (arith, c.in_ok-walk.ensures.adds.more)

pub walking::walk_negation-returns-clause-adds : goal.walking::walk_negation-returns-clause-adds
walking::walk_negation-returns-clause-adds t c = record {
  more =
      let long : length c.negate.new.self + 1 ≡ length c.walk.new.written.nodes + 1 = joined_length NegationRoot c.new.result c.args.whole.now.span c.walk.new.written.nodes c.negate.new.self (omega (arith, c.in_ok-walk.ensures.adds.more)) c.in_ok-negate.ensures.ok in
      omega (arith, long, c.in_ok-walk.ensures.adds.more);
  cleared = c.in_ok-walk.ensures.adds.cleared;
}

pub walking::walk_negation-returns-in_err-walk-clause-orders : goal.walking::walk_negation-returns-in_err-walk-clause-orders
walking::walk_negation-returns-in_err-walk-clause-orders t c =
    let p = err_from_is_err_and c.from_residual.result c.from_residual.ensures.1 in
    rw (p.1, p.2) (λ total known stretch.
    let modes = modes_of c.args.setting.now.predicates.now in
    let own : c.part_count-own.result ≡ length (subgoals c.args.inner.now) = c.part_count-own.ensures ∙ sym (subgoals_length c.args.inner.now) in
    let k = known_parts total modes (subgoals c.args.inner.now) (Negation c.args.inner.now c.args.whole.now.span) c.args.whole.now.facts.now c.part_count-own.result known own in
    negation_stuck total modes c.args.inner.now c.args.whole.now.span (among c.args.bound.now) c.args.written.now c.walk.new.written c.walk.new.written c.in_err-walk.field-0.0 (c.in_err-walk.ensures.orders total k stretch))

pub walking::walk_negation-returns-then-not-are_bound-clause-orders : goal.walking::walk_negation-returns-then-not-are_bound-clause-orders
walking::walk_negation-returns-then-not-are_bound-clause-orders t c =
    rw c.fault_at.ensures (λ total known stretch.
    let modes = modes_of c.args.setting.now.predicates.now in
    let own : c.part_count-own.result ≡ length (subgoals c.args.inner.now) = c.part_count-own.ensures ∙ sym (subgoals_length c.args.inner.now) in
    let k = known_parts total modes (subgoals c.args.inner.now) (Negation c.args.inner.now c.args.whole.now.span) c.args.whole.now.facts.now c.part_count-own.result known own in
    let f = known_own total modes (subgoals c.args.inner.now) (Negation c.args.inner.now c.args.whole.now.span) c.args.whole.now.facts.now c.part_count-own.result c.index-facts-own.result known own c.index-facts-own.is in
    let owed : are_bound (among c.args.bound.now) c.index-facts-own.result.owed ≡ false =
    ap (λ b. are_bound (among b) c.index-facts-own.result.owed) (sym c.in_ok-walk.ensures.same) ∙ ap (λ l. are_bound (among c.walk.new.bound) l) (sym c.as_slice.ensures)
    ∙ sym c.are_bound.ensures ∙ c.if-not-are_bound.true in
    negation_binds total modes c.args.inner.now c.args.whole.now.span (among c.args.bound.now) c.index-facts-own.result c.args.written.now c.walk.new.written c.in_ok-walk.field-0 (c.in_ok-walk.ensures.orders total k stretch) f owed)

pub walking::walk_negation-returns-clause-orders : goal.walking::walk_negation-returns-clause-orders
walking::walk_negation-returns-clause-orders t c = λ total known stretch.
    let modes = modes_of c.args.setting.now.predicates.now in
    let own : c.part_count-own.result ≡ length (subgoals c.args.inner.now) = c.part_count-own.ensures ∙ sym (subgoals_length c.args.inner.now) in
    let k = known_parts total modes (subgoals c.args.inner.now) (Negation c.args.inner.now c.args.whole.now.span) c.args.whole.now.facts.now c.part_count-own.result known own in
    let f = known_own total modes (subgoals c.args.inner.now) (Negation c.args.inner.now c.args.whole.now.span) c.args.whole.now.facts.now c.part_count-own.result c.index-facts-own.result known own c.index-facts-own.is in
    let owed : are_bound (among c.args.bound.now) c.index-facts-own.result.owed ≡ true =
    ap (λ b. are_bound (among b) c.index-facts-own.result.owed) (sym c.in_ok-walk.ensures.same) ∙ ap (λ l. are_bound (among c.walk.new.bound) l) (sym c.as_slice.ensures)
    ∙ sym c.are_bound.ensures ∙ c.if-not-are_bound.false in
    let new : Written = record { nodes = c.negate.new.self; fresh = c.walk.new.written.fresh; seen = c.walk.new.written.seen } in
    negation_ready total modes c.args.inner.now c.args.whole.now.span (among c.args.bound.now) c.index-facts-own.result c.new.result c.args.written.now c.walk.new.written new c.in_ok-walk.field-0
    (c.in_ok-walk.ensures.orders total k stretch) f owed c.new.ensures c.in_ok-negate.ensures.ok refl refl

-- goals with variables of their own

pub walking::walk_quantified-walk-requires : goal.walking::walk_quantified-walk-requires
walking::walk_quantified-walk-requires t c =
    let size = length (parts_of c.args.scope.now.inner.now) in (
      omega arith,
      (
        front_length c.args.whole.now.facts.now c.part_count-last.result size 1 c.requires.known c.part_count-last.ensures,
        (front_length c.args.marks.now c.part_count-last.result size 1 c.requires.marked c.part_count-last.ensures, c.requires.seen),
      ),
    )

pub walking::walk_quantified-bounds-facts-last : goal.walking::walk_quantified-bounds-facts-last
walking::walk_quantified-bounds-facts-last t c = omega (arith, c.requires.known, c.part_count-last.ensures)

pub walking::walk_quantified-quantify-requires : goal.walking::walk_quantified-quantify-requires
walking::walk_quantified-quantify-requires t c = omega (arith, c.in_ok-walk.ensures.adds.more)

pub walking::walk_quantified-returns-clause-adds : goal.walking::walk_quantified-returns-clause-adds
walking::walk_quantified-returns-clause-adds t c = record {
  more =
      let long : length c.quantify.new.self + 1 ≡ length c.walk.new.written.nodes + 1 =
      joined_length (QuantifiedRoot c.in_ok-own.own) c.in_ok-outputs.outputs c.args.whole.now.span c.walk.new.written.nodes c.quantify.new.self (omega (arith, c.in_ok-walk.ensures.adds.more)) c.in_ok-quantify.ensures.ok in
      omega (arith, long, c.in_ok-walk.ensures.adds.more);
  cleared = c.in_ok-outputs.ensures.cleared;
}

pub walking::walk_quantified-returns-in_err-walk-clause-orders : goal.walking::walk_quantified-returns-in_err-walk-clause-orders
walking::walk_quantified-returns-in_err-walk-clause-orders t c =
    let p = err_from_is_err_and c.from_residual.result c.from_residual.ensures.1 in
    rw (p.1, p.2) (λ total known stretch.
    let modes = modes_of c.args.setting.now.predicates.now in
    let own : c.part_count-last.result ≡ length (subgoals c.args.scope.now.inner.now) = c.part_count-last.ensures ∙ sym (subgoals_length c.args.scope.now.inner.now) in
    let k = known_parts total modes (subgoals c.args.scope.now.inner.now) (Quantified c.args.scope.now.own.now c.args.scope.now.inner.now c.args.whole.now.span) c.args.whole.now.facts.now c.part_count-last.result known own in
    quantified_stuck total modes c.args.scope.now.own.now c.args.scope.now.inner.now c.args.whole.now.span (among c.args.bound.now) c.args.written.now c.walk.new.written c.walk.new.written c.in_err-walk.field-0.0
    (c.in_err-walk.ensures.orders total k stretch))

pub walking::walk_quantified-returns-clause-orders : goal.walking::walk_quantified-returns-clause-orders
walking::walk_quantified-returns-clause-orders t c = λ total known stretch.
    let modes = modes_of c.args.setting.now.predicates.now in
    let goal : Node = Quantified c.args.scope.now.own.now c.args.scope.now.inner.now c.args.whole.now.span in
    let own : c.part_count-last.result ≡ length (subgoals c.args.scope.now.inner.now) = c.part_count-last.ensures ∙ sym (subgoals_length c.args.scope.now.inner.now) in
    let k = known_parts total modes (subgoals c.args.scope.now.inner.now) goal c.args.whole.now.facts.now c.part_count-last.result known own in
    let f = known_own total modes (subgoals c.args.scope.now.inner.now) goal c.args.whole.now.facts.now c.part_count-last.result c.index-facts-last.result known own c.index-facts-last.is in
    let outs : c.in_ok-outputs.outputs ≡ outputs_of total modes (among c.args.bound.now) goal =
    c.in_ok-outputs.ensures.outputs total modes goal f stretch ∙ ap (λ b. outputs_of total modes (among b) goal) c.in_ok-walk.ensures.same in
    let new : Written = record { nodes = c.quantify.new.self; fresh = c.walk.new.written.fresh; seen = c.outputs_of.new.seen } in
    quantified_ready total modes c.args.scope.now.own.now c.args.scope.now.inner.now c.args.whole.now.span (among c.args.bound.now) c.in_ok-own.own c.in_ok-outputs.outputs c.args.written.now c.walk.new.written new c.in_ok-walk.field-0
    (c.in_ok-walk.ensures.orders total k stretch) c.in_ok-own.ensures outs c.in_ok-quantify.ensures.ok refl (c.in_ok-outputs.ensures.cleared ∙ sym c.in_ok-walk.ensures.adds.cleared)

-- disjunctions

pub disjuncts::walk_disjunction-overflow_sub-own : goal.disjuncts::walk_disjunction-overflow_sub-own
disjuncts::walk_disjunction-overflow_sub-own t c = omega (arith, c.requires.known)

pub disjuncts::walk_disjunction-bounds-facts-own : goal.disjuncts::walk_disjunction-bounds-facts-own
disjuncts::walk_disjunction-bounds-facts-own t c = omega (arith, c.requires.known)

pub disjuncts::walk_disjunction-walk_arms-requires : goal.disjuncts::walk_disjunction-walk_arms-requires
disjuncts::walk_disjunction-walk_arms-requires t c =
    let size = length (all_parts (nodes_of c.args.arms.now)) in (
      omega arith,
      (
        front_length c.args.whole.now.facts.now (length c.args.whole.now.facts.now - 1) size 1 c.requires.known (omega (arith, c.requires.known)),
        (front_length c.args.marks.now (length c.args.whole.now.facts.now - 1) size 1 c.requires.marked (omega (arith, c.requires.known)), c.requires.seen),
      ),
    )

pub disjuncts::walk_disjunction-overflow_sub-count : goal.disjuncts::walk_disjunction-overflow_sub-count
disjuncts::walk_disjunction-overflow_sub-count t c = omega (arith, c.len.ensures, c.len-before.ensures, c.in_ok-walk_arms.ensures.adds.more)

pub disjuncts::walk_disjunction-disjoin-requires : goal.disjuncts::walk_disjunction-disjoin-requires
disjuncts::walk_disjunction-disjoin-requires t c = omega (arith, c.len.ensures)

pub disjuncts::walk_disjunction-returns-clause-adds : goal.disjuncts::walk_disjunction-returns-clause-adds
disjuncts::walk_disjunction-returns-clause-adds t c = record {
  more =
      let count = c.len.result - c.len-before.result in
      let long : length c.disjoin.new.self + count ≡ length c.walk_arms.new.written.nodes + 1 =
      joined_length (DisjunctionRoot count) c.in_ok-outputs.outputs c.args.whole.now.span c.walk_arms.new.written.nodes c.disjoin.new.self (omega (arith, c.len.ensures)) c.in_ok-disjoin.ensures.ok in
      omega (arith, long, c.len.ensures, c.len-before.ensures, c.in_ok-walk_arms.ensures.adds.more);
  cleared = c.in_ok-outputs.ensures.cleared;
}

pub disjuncts::walk_disjunction-returns-in_err-walk_arms-clause-orders : goal.disjuncts::walk_disjunction-returns-in_err-walk_arms-clause-orders
disjuncts::walk_disjunction-returns-in_err-walk_arms-clause-orders t c =
    let p = err_from_is_err_and c.from_residual.result c.from_residual.ensures.1 in
    rw (p.1, p.2) (λ total known stretch.
    let modes = modes_of c.args.setting.now.predicates.now in
    let arms = nodes_of c.args.arms.now in
    let own : length c.args.whole.now.facts.now - 1 ≡ length (all_subgoals arms) = omega (arith, c.requires.known, all_subgoals_length arms) in
    let k = known_parts total modes (all_subgoals arms) (Disjunction arms c.args.whole.now.span) c.args.whole.now.facts.now (length c.args.whole.now.facts.now - 1) known own in
    disjunction_stuck total modes arms c.args.whole.now.span (among c.args.bound.now) c.args.written.now c.walk_arms.new.written c.walk_arms.new.written c.in_err-walk_arms.field-0.0
    (c.in_err-walk_arms.ensures.orders total k stretch))

pub disjuncts::walk_disjunction-returns-then-not-are_bound-clause-orders : goal.disjuncts::walk_disjunction-returns-then-not-are_bound-clause-orders
disjuncts::walk_disjunction-returns-then-not-are_bound-clause-orders t c =
    rw c.fault_at.ensures (λ total known stretch.
    let modes = modes_of c.args.setting.now.predicates.now in
    let arms = nodes_of c.args.arms.now in
    let own : length c.args.whole.now.facts.now - 1 ≡ length (all_subgoals arms) = omega (arith, c.requires.known, all_subgoals_length arms) in
    let k = known_parts total modes (all_subgoals arms) (Disjunction arms c.args.whole.now.span) c.args.whole.now.facts.now (length c.args.whole.now.facts.now - 1) known own in
    let f = known_own total modes (all_subgoals arms) (Disjunction arms c.args.whole.now.span) c.args.whole.now.facts.now (length c.args.whole.now.facts.now - 1) c.index-facts-own.result known own c.index-facts-own.is in
    let owed : are_bound (among c.args.bound.now) c.index-facts-own.result.owed ≡ false =
    ap (λ b. are_bound (among b) c.index-facts-own.result.owed) (sym c.in_ok-walk_arms.ensures.same) ∙ ap (λ l. are_bound (among c.walk_arms.new.bound) l) (sym c.as_slice.ensures)
    ∙ sym c.are_bound.ensures ∙ c.if-not-are_bound.true in
    disjunction_differs total modes arms c.args.whole.now.span (among c.args.bound.now) c.index-facts-own.result c.args.written.now c.walk_arms.new.written c.in_ok-walk_arms.field-0
    (c.in_ok-walk_arms.ensures.orders total k stretch) f owed)

pub disjuncts::walk_disjunction-returns-clause-orders : goal.disjuncts::walk_disjunction-returns-clause-orders
disjuncts::walk_disjunction-returns-clause-orders t c = λ total known stretch.
    let modes = modes_of c.args.setting.now.predicates.now in
    let arms = nodes_of c.args.arms.now in
    let goal : Node = Disjunction arms c.args.whole.now.span in
    let own : length c.args.whole.now.facts.now - 1 ≡ length (all_subgoals arms) = omega (arith, c.requires.known, all_subgoals_length arms) in
    let k = known_parts total modes (all_subgoals arms) goal c.args.whole.now.facts.now (length c.args.whole.now.facts.now - 1) known own in
    let f = known_own total modes (all_subgoals arms) goal c.args.whole.now.facts.now (length c.args.whole.now.facts.now - 1) c.index-facts-own.result known own c.index-facts-own.is in
    let owed : are_bound (among c.args.bound.now) c.index-facts-own.result.owed ≡ true =
    ap (λ b. are_bound (among b) c.index-facts-own.result.owed) (sym c.in_ok-walk_arms.ensures.same) ∙ ap (λ l. are_bound (among c.walk_arms.new.bound) l) (sym c.as_slice.ensures)
    ∙ sym c.are_bound.ensures ∙ c.if-not-are_bound.false in
    let outs : c.in_ok-outputs.outputs ≡ outputs_of total modes (among c.args.bound.now) goal =
    c.in_ok-outputs.ensures.outputs total modes goal f stretch ∙ ap (λ b. outputs_of total modes (among b) goal) c.in_ok-walk_arms.ensures.same in
    let new : Written = record { nodes = c.disjoin.new.self; fresh = c.walk_arms.new.written.fresh; seen = c.outputs_of.new.seen } in
    disjunction_ready total modes arms c.args.whole.now.span (among c.args.bound.now) c.index-facts-own.result (c.len.result - c.len-before.result) c.in_ok-outputs.outputs c.args.written.now c.walk_arms.new.written new
    c.in_ok-walk_arms.field-0 (c.in_ok-walk_arms.ensures.orders total k stretch) f owed outs
    (ap (λ n. n - c.len-before.result) c.len.ensures ∙ ap (λ n. length c.walk_arms.new.written.nodes - n) c.len-before.ensures)
    c.in_ok-disjoin.ensures.ok refl (c.in_ok-outputs.ensures.cleared ∙ sym c.in_ok-walk_arms.ensures.adds.cleared)

pub disjuncts::walk_arms-walk-requires : goal.disjuncts::walk_arms-walk-requires
disjuncts::walk_arms-walk-requires t c =
    let within = end_within c.args.placed.now.goals.now c.loop-arm.arm-index c.arm-item.result c.loop-arm.at c.part_count.result c.loop-arm-test.true c.arm-item.is c.part_count.ensures c.loop-arm.invariant.at_is in
    let size = length (parts_of c.arm-item.result) in (
      omega (arith, within, c.part_count.ensures),
      (
        part_length c.args.placed.now.facts.now c.loop-arm.at c.part_count.result size (omega (arith, within, c.requires.known)) c.part_count.ensures,
        (part_length c.loop-arm.marks c.loop-arm.at c.part_count.result size (omega (arith, within, c.requires.marked, c.loop-arm.auto.marks)) c.part_count.ensures, c.loop-arm.invariant.adds.cleared),
      ),
    )

pub disjuncts::walk_arms-returns-in_err-walk-clause-orders : goal.disjuncts::walk_arms-returns-in_err-walk-clause-orders
disjuncts::walk_arms-returns-in_err-walk-clause-orders t c =
    let p = err_from_is_err_and c.from_residual.result c.from_residual.ensures.1 in
    rw (p.1, p.2) (λ total known stretch.
    let modes = modes_of c.args.setting.now.predicates.now in
    let arm = c.arm-item.result in
    let rest = drop (c.loop-arm.arm-index + 1) c.args.placed.now.goals.now in
    let whole = each_from (moves total modes (nodes_of c.args.placed.now.goals.now)) (among c.args.bound.now) in
    let w = subst (λ l. Walked total modes (nodes_of l) c.args.placed.now.facts.now c.loop-arm.at c.args.setting.now.all.now c.loop-arm.place whole (each_from (moves total modes (nodes_of l)) (among c.args.bound.now)) c.args.written.now c.loop-arm.written)
    (next_item c.args.placed.now.goals.now c.loop-arm.arm-index arm c.loop-arm-test.true c.arm-item.is) (c.loop-arm.invariant.walked total known stretch) in
    let k = facts_of_next total modes arm (nodes_of rest) c.args.placed.now.facts.now c.loop-arm.at (c.loop-arm.at + c.part_count.result) w.known (ap (λ n. c.loop-arm.at + n) c.part_count.ensures) in
    let s = stretch_front total c.args.setting.now.all.now c.loop-arm.place (variables arm) (all_variables (nodes_of rest)) w.stretch in
    let gives = subst (λ b. Gives modes (from total modes arm (among b)) c.loop-arm.written c.walk.new.written (Err c.in_err-walk.field-0.0)) c.loop-arm.invariant.same (c.in_err-walk.ensures.orders total k s) in
    walked_stuck total modes c.args.placed.now.facts.now c.loop-arm.at c.args.setting.now.all.now c.loop-arm.place whole (each_from (moves total modes (nodes_of (arm ∷ rest))) (among c.args.bound.now))
    c.args.written.now c.loop-arm.written c.walk.new.written c.walk.new.written (nodes_of (arm ∷ rest)) (from total modes arm (among c.args.bound.now)) c.in_err-walk.field-0.0 w
    (λ refusal is. ap (λ o. and_all o (each_from (moves total modes (nodes_of rest)) (among c.args.bound.now))) is) gives)

pub disjuncts::walk_arms-overflow_sub-own : goal.disjuncts::walk_arms-overflow_sub-own
disjuncts::walk_arms-overflow_sub-own t c = omega (arith, some_parts c.arm-item.result c.part_count.result c.part_count.ensures)

pub disjuncts::walk_arms-bounds-facts-own : goal.disjuncts::walk_arms-bounds-facts-own
disjuncts::walk_arms-bounds-facts-own t c =
    let one = some_parts c.arm-item.result c.part_count.result c.part_count.ensures in
    let end = end_within c.args.placed.now.goals.now c.loop-arm.arm-index c.arm-item.result c.loop-arm.at c.part_count.result c.loop-arm-test.true c.arm-item.is c.part_count.ensures c.loop-arm.invariant.at_is in
    omega (arith, one, end, c.requires.known)

pub disjuncts::walk_arms-loop-arm-preserved : goal.disjuncts::walk_arms-loop-arm-preserved
disjuncts::walk_arms-loop-arm-preserved t c = record {
  at_is = at_behind c.args.placed.now.goals.now c.loop-arm.arm-index c.arm-item.result c.loop-arm.at c.part_count.result c.loop-arm-test.true c.arm-item.is c.part_count.ensures c.loop-arm.invariant.at_is;
  same = c.in_ok-walk.ensures.same ∙ c.loop-arm.invariant.same;
  adds = record { more = omega (arith, c.loop-arm.invariant.adds.more, c.in_ok-walk.ensures.adds.more); cleared = c.in_ok-walk.ensures.adds.cleared };
  walked = λ total known stretch.
      let modes = modes_of c.args.setting.now.predicates.now in
      let arm = c.arm-item.result in
      let rest = drop (c.loop-arm.arm-index + 1) c.args.placed.now.goals.now in
      let whole = each_from (moves total modes (nodes_of c.args.placed.now.goals.now)) (among c.args.bound.now) in
      let w = subst (λ l. Walked total modes (nodes_of l) c.args.placed.now.facts.now c.loop-arm.at c.args.setting.now.all.now c.loop-arm.place whole (each_from (moves total modes (nodes_of l)) (among c.args.bound.now)) c.args.written.now c.loop-arm.written)
      (next_item c.args.placed.now.goals.now c.loop-arm.arm-index arm c.loop-arm-test.true c.arm-item.is) (c.loop-arm.invariant.walked total known stretch) in
      let k = facts_of_next total modes arm (nodes_of rest) c.args.placed.now.facts.now c.loop-arm.at (c.loop-arm.at + c.part_count.result) w.known (ap (λ n. c.loop-arm.at + n) c.part_count.ensures) in
      let s = stretch_front total c.args.setting.now.all.now c.loop-arm.place (variables arm) (all_variables (nodes_of rest)) w.stretch in
      let gives = subst (λ b. Gives modes (from total modes arm (among b)) c.loop-arm.written c.walk.new.written (Ok c.in_ok-walk.field-0)) c.loop-arm.invariant.same (c.in_ok-walk.ensures.orders total k s) in
      let one = some_parts arm c.part_count.result c.part_count.ensures in
      walked_on total modes arm (nodes_of rest) c.args.placed.now.facts.now c.loop-arm.at (c.loop-arm.at + c.part_count.result - 1) (c.loop-arm.at + c.part_count.result) c.args.setting.now.all.now c.loop-arm.place c.place_behind-place.result
      c.index-facts-own.result whole (each_from (moves total modes (nodes_of (arm ∷ rest))) (among c.args.bound.now)) (each_from (moves total modes (nodes_of rest)) (among c.args.bound.now)) gives.0
      c.args.written.now c.loop-arm.written c.walk.new.written w (omega (arith, one, c.part_count.ensures)) (ap (λ n. c.loop-arm.at + n) c.part_count.ensures) c.index-facts-own.is c.place_behind-place.ensures.within
      (ap (λ o. and_all o (each_from (moves total modes (nodes_of rest)) (among c.args.bound.now))) gives.1) gives.2;
}

pub disjuncts::walk_arms-returns-clause-orders : goal.disjuncts::walk_arms-returns-clause-orders
disjuncts::walk_arms-returns-clause-orders t c = λ total known stretch.
    let modes = modes_of c.args.setting.now.predicates.now in
    let rest = drop c.loop-arm.arm-index c.args.placed.now.goals.now in
    let none : rest ≡ [] = drop_all c.loop-arm.arm-index c.args.placed.now.goals.now (omega arith) in
    walked_end total modes c.args.placed.now.facts.now c.loop-arm.at c.args.setting.now.all.now c.loop-arm.place (each_from (moves total modes (nodes_of c.args.placed.now.goals.now)) (among c.args.bound.now))
    (each_from (moves total modes (nodes_of rest)) (among c.args.bound.now)) c.args.written.now c.loop-arm.written (nodes_of rest) (c.loop-arm.invariant.walked total known stretch)
    (ap (λ l. each_from (moves total modes (nodes_of l)) (among c.args.bound.now)) none)

-- conjunctions

pub conjuncts::walk_conjunction-overflow_sub-own : goal.conjuncts::walk_conjunction-overflow_sub-own
conjuncts::walk_conjunction-overflow_sub-own = conjuncts_of.conjuncts::walk_conjunction-overflow_sub-own

pub conjuncts::walk_conjunction-bounds-facts-own : goal.conjuncts::walk_conjunction-bounds-facts-own
conjuncts::walk_conjunction-bounds-facts-own = conjuncts_of.conjuncts::walk_conjunction-bounds-facts-own

pub conjuncts::walk_conjunction-walk_rounds-requires : goal.conjuncts::walk_conjunction-walk_rounds-requires
conjuncts::walk_conjunction-walk_rounds-requires = conjuncts_of.conjuncts::walk_conjunction-walk_rounds-requires

pub conjuncts::walk_conjunction-overflow_sub-count : goal.conjuncts::walk_conjunction-overflow_sub-count
conjuncts::walk_conjunction-overflow_sub-count = conjuncts_of.conjuncts::walk_conjunction-overflow_sub-count

pub conjuncts::walk_conjunction-conjoin-requires : goal.conjuncts::walk_conjunction-conjoin-requires
conjuncts::walk_conjunction-conjoin-requires = conjuncts_of.conjuncts::walk_conjunction-conjoin-requires

pub conjuncts::walk_conjunction-returns-clause-adds : goal.conjuncts::walk_conjunction-returns-clause-adds
conjuncts::walk_conjunction-returns-clause-adds = conjuncts_of.conjuncts::walk_conjunction-returns-clause-adds

pub conjuncts::walk_conjunction-returns-clause-same : goal.conjuncts::walk_conjunction-returns-clause-same
conjuncts::walk_conjunction-returns-clause-same = conjuncts_of.conjuncts::walk_conjunction-returns-clause-same

pub conjuncts::walk_conjunction-returns-in_err-walk_rounds-clause-orders : goal.conjuncts::walk_conjunction-returns-in_err-walk_rounds-clause-orders
conjuncts::walk_conjunction-returns-in_err-walk_rounds-clause-orders = conjuncts_of.conjuncts::walk_conjunction-returns-in_err-walk_rounds-clause-orders

pub conjuncts::walk_conjunction-returns-clause-orders : goal.conjuncts::walk_conjunction-returns-clause-orders
conjuncts::walk_conjunction-returns-clause-orders = conjuncts_of.conjuncts::walk_conjunction-returns-clause-orders

pub conjuncts::walk_rounds-walk_next-requires : goal.conjuncts::walk_rounds-walk_next-requires
conjuncts::walk_rounds-walk_next-requires = conjuncts_of.conjuncts::walk_rounds-walk_next-requires

pub conjuncts::walk_rounds-loop-round-init : goal.conjuncts::walk_rounds-loop-round-init
conjuncts::walk_rounds-loop-round-init = conjuncts_of.conjuncts::walk_rounds-loop-round-init

pub conjuncts::walk_rounds-returns-in_err-walk_next-clause-orders : goal.conjuncts::walk_rounds-returns-in_err-walk_next-clause-orders
conjuncts::walk_rounds-returns-in_err-walk_next-clause-orders = conjuncts_of.conjuncts::walk_rounds-returns-in_err-walk_next-clause-orders

pub conjuncts::walk_rounds-loop-round-preserved : goal.conjuncts::walk_rounds-loop-round-preserved
conjuncts::walk_rounds-loop-round-preserved = conjuncts_of.conjuncts::walk_rounds-loop-round-preserved

pub conjuncts::walk_rounds-returns-clause-orders : goal.conjuncts::walk_rounds-returns-clause-orders
conjuncts::walk_rounds-returns-clause-orders = conjuncts_of.conjuncts::walk_rounds-returns-clause-orders

pub conjuncts::walk_next-loop-index-init : goal.conjuncts::walk_next-loop-index-init
conjuncts::walk_next-loop-index-init = conjuncts_of.conjuncts::walk_next-loop-index-init

pub conjuncts::walk_next-bounds-goals-index : goal.conjuncts::walk_next-bounds-goals-index
conjuncts::walk_next-bounds-goals-index = conjuncts_of.conjuncts::walk_next-bounds-goals-index

pub conjuncts::walk_next-start-here-requires : goal.conjuncts::walk_next-start-here-requires
conjuncts::walk_next-start-here-requires = conjuncts_of.conjuncts::walk_next-start-here-requires

pub conjuncts::walk_next-walk_member-requires : goal.conjuncts::walk_next-walk_member-requires
conjuncts::walk_next-walk_member-requires = conjuncts_of.conjuncts::walk_next-walk_member-requires

pub conjuncts::walk_next-loop-index-preserved : goal.conjuncts::walk_next-loop-index-preserved
conjuncts::walk_next-loop-index-preserved = conjuncts_of.conjuncts::walk_next-loop-index-preserved

pub conjuncts::walk_next-returns-in_err-walk_member-clause-next : goal.conjuncts::walk_next-returns-in_err-walk_member-clause-next
conjuncts::walk_next-returns-in_err-walk_member-clause-next = conjuncts_of.conjuncts::walk_next-returns-in_err-walk_member-clause-next

pub conjuncts::walk_next-returns-then-branch-clause-next : goal.conjuncts::walk_next-returns-then-branch-clause-next
conjuncts::walk_next-returns-then-branch-clause-next = conjuncts_of.conjuncts::walk_next-returns-then-branch-clause-next

pub conjuncts::walk_next-returns-clause-next : goal.conjuncts::walk_next-returns-clause-next
conjuncts::walk_next-returns-clause-next = conjuncts_of.conjuncts::walk_next-returns-clause-next

pub conjuncts::walk_next-returns-then-branch-clause-watches : goal.conjuncts::walk_next-returns-then-branch-clause-watches
conjuncts::walk_next-returns-then-branch-clause-watches = conjuncts_of.conjuncts::walk_next-returns-then-branch-clause-watches

pub conjuncts::walk_member-walk_if_ready-requires : goal.conjuncts::walk_member-walk_if_ready-requires
conjuncts::walk_member-walk_if_ready-requires = conjuncts_of.conjuncts::walk_member-walk_if_ready-requires

pub conjuncts::walk_member-overflow_sub-own : goal.conjuncts::walk_member-overflow_sub-own
conjuncts::walk_member-overflow_sub-own = conjuncts_of.conjuncts::walk_member-overflow_sub-own

pub conjuncts::walk_member-bounds-marks-own : goal.conjuncts::walk_member-bounds-marks-own
conjuncts::walk_member-bounds-marks-own = conjuncts_of.conjuncts::walk_member-bounds-marks-own

pub conjuncts::walk_member-returns-then-marks-own-clause-asks : goal.conjuncts::walk_member-returns-then-marks-own-clause-asks
conjuncts::walk_member-returns-then-marks-own-clause-asks = conjuncts_of.conjuncts::walk_member-returns-then-marks-own-clause-asks

pub conjuncts::walk_member-returns-then-is_shut-clause-asks : goal.conjuncts::walk_member-returns-then-is_shut-clause-asks
conjuncts::walk_member-returns-then-is_shut-clause-asks = conjuncts_of.conjuncts::walk_member-returns-then-is_shut-clause-asks

pub conjuncts::walk_member-returns-then-branch-clause-asks : goal.conjuncts::walk_member-returns-then-branch-clause-asks
conjuncts::walk_member-returns-then-branch-clause-asks = conjuncts_of.conjuncts::walk_member-returns-then-branch-clause-asks

pub conjuncts::walk_member-returns-in_err-walk_if_ready-clause-asks : goal.conjuncts::walk_member-returns-in_err-walk_if_ready-clause-asks
conjuncts::walk_member-returns-in_err-walk_if_ready-clause-asks = conjuncts_of.conjuncts::walk_member-returns-in_err-walk_if_ready-clause-asks

pub conjuncts::walk_member-returns-clause-watches : goal.conjuncts::walk_member-returns-clause-watches
conjuncts::walk_member-returns-clause-watches = conjuncts_of.conjuncts::walk_member-returns-clause-watches

pub conjuncts::walk_member-returns-clause-asks : goal.conjuncts::walk_member-returns-clause-asks
conjuncts::walk_member-returns-clause-asks = conjuncts_of.conjuncts::walk_member-returns-clause-asks

pub conjuncts::walk_if_ready-walk-requires : goal.conjuncts::walk_if_ready-walk-requires
conjuncts::walk_if_ready-walk-requires = conjuncts_of.conjuncts::walk_if_ready-walk-requires

pub conjuncts::walk_if_ready-returns-then-not-branch-clause-goes : goal.conjuncts::walk_if_ready-returns-then-not-branch-clause-goes
conjuncts::walk_if_ready-returns-then-not-branch-clause-goes = conjuncts_of.conjuncts::walk_if_ready-returns-then-not-branch-clause-goes

pub conjuncts::walk_if_ready-overflow_sub-own : goal.conjuncts::walk_if_ready-overflow_sub-own
conjuncts::walk_if_ready-overflow_sub-own = conjuncts_of.conjuncts::walk_if_ready-overflow_sub-own

pub conjuncts::walk_if_ready-bounds-marks-own : goal.conjuncts::walk_if_ready-bounds-marks-own
conjuncts::walk_if_ready-bounds-marks-own = conjuncts_of.conjuncts::walk_if_ready-bounds-marks-own

pub conjuncts::walk_if_ready-bounds-facts-own : goal.conjuncts::walk_if_ready-bounds-facts-own
conjuncts::walk_if_ready-bounds-facts-own = conjuncts_of.conjuncts::walk_if_ready-bounds-facts-own

pub conjuncts::walk_if_ready-returns-clause-extends : goal.conjuncts::walk_if_ready-returns-clause-extends
conjuncts::walk_if_ready-returns-clause-extends = conjuncts_of.conjuncts::walk_if_ready-returns-clause-extends

pub conjuncts::walk_if_ready-returns-clause-goes : goal.conjuncts::walk_if_ready-returns-clause-goes
conjuncts::walk_if_ready-returns-clause-goes = conjuncts_of.conjuncts::walk_if_ready-returns-clause-goes

pub conjuncts::walk_first_left-walk-requires : goal.conjuncts::walk_first_left-walk-requires
conjuncts::walk_first_left-walk-requires = conjuncts_of.conjuncts::walk_first_left-walk-requires

pub conjuncts::walk_first_left-bounds-facts-own : goal.conjuncts::walk_first_left-bounds-facts-own
conjuncts::walk_first_left-bounds-facts-own = conjuncts_of.conjuncts::walk_first_left-bounds-facts-own

pub conjuncts::walk_first_left-overflow_sub-own : goal.conjuncts::walk_first_left-overflow_sub-own
conjuncts::walk_first_left-overflow_sub-own = conjuncts_of.conjuncts::walk_first_left-overflow_sub-own

pub conjuncts::walk_first_left-bounds-marks-own : goal.conjuncts::walk_first_left-bounds-marks-own
conjuncts::walk_first_left-bounds-marks-own = conjuncts_of.conjuncts::walk_first_left-bounds-marks-own

pub conjuncts::walk_first_left-returns-then-not-marks-own-clause-tells : goal.conjuncts::walk_first_left-returns-then-not-marks-own-clause-tells
conjuncts::walk_first_left-returns-then-not-marks-own-clause-tells = conjuncts_of.conjuncts::walk_first_left-returns-then-not-marks-own-clause-tells

pub conjuncts::walk_first_left-loop-goal-preserved : goal.conjuncts::walk_first_left-loop-goal-preserved
conjuncts::walk_first_left-loop-goal-preserved = conjuncts_of.conjuncts::walk_first_left-loop-goal-preserved

pub conjuncts::walk_first_left-returns-clause-tells : goal.conjuncts::walk_first_left-returns-clause-tells
conjuncts::walk_first_left-returns-clause-tells = conjuncts_of.conjuncts::walk_first_left-returns-clause-tells

-- a goal that is entered

pub walking::walk-walk_parts-walked-requires : goal.walking::walk-walk_parts-walked-requires
walking::walk-walk_parts-walked-requires t c = let h = parts_length c.args.placed.now.goal.now in (omega arith, (c.requires.known, (c.requires.marked, c.requires.seen)))

-- goals that hold no others

pub walking::walk_parts-walk_conjunction-requires : goal.walking::walk_parts-walk_conjunction-requires
walking::walk_parts-walk_conjunction-requires t c =
    let same : Conjunction (nodes_of c.deref.result.now) (span_of c.args.placed.now.goal.now) ≡ c.args.placed.now.goal.now =
    ap (λ l. Conjunction (nodes_of l) (span_of c.args.placed.now.goal.now)) (c.deref.ensures.value ∙ c.in_ok-goals-in-Conjunction.ensures) ∙ c.in-Conjunction.ensures in
    let long : length (parts_of c.args.placed.now.goal.now) ≡ length (all_parts (nodes_of c.deref.result.now)) + 1 = ap (λ g. length (parts_of g)) (sym same) ∙ length-append (all_parts (nodes_of c.deref.result.now)) _ in
    (omega (arith, long), (omega (arith, long, c.requires.known), (omega (arith, long, c.requires.marked), c.requires.seen)))

pub walking::walk_parts-returns-in_ok-goals-in-Conjunction-clause-orders : goal.walking::walk_parts-returns-in_ok-goals-in-Conjunction-clause-orders
walking::walk_parts-returns-in_ok-goals-in-Conjunction-clause-orders t c =
    let same : Conjunction (nodes_of c.deref.result.now) (span_of c.args.placed.now.goal.now) ≡ c.args.placed.now.goal.now =
    ap (λ l. Conjunction (nodes_of l) (span_of c.args.placed.now.goal.now)) (c.deref.ensures.value ∙ c.in_ok-goals-in-Conjunction.ensures) ∙ c.in-Conjunction.ensures in
    subst (λ g. Orders c.args.setting.now.predicates.now g c.args.placed.now.facts.now c.args.setting.now.all.now c.args.placed.now.start c.args.bound.now c.args.written.now c.walk_conjunction.new.written c.walk_conjunction.result)
    (ap (λ s. Conjunction (nodes_of c.deref.result.now) s) c.span-span.ensures ∙ same) c.walk_conjunction.ensures.orders

pub walking::walk_parts-walk_parallel-requires : goal.walking::walk_parts-walk_parallel-requires
walking::walk_parts-walk_parallel-requires t c =
    let same : Parallel (nodes_of c.deref-in-Parallel.result.now) (span_of c.args.placed.now.goal.now) ≡ c.args.placed.now.goal.now =
    ap (λ l. Parallel (nodes_of l) (span_of c.args.placed.now.goal.now)) (c.deref-in-Parallel.ensures.value ∙ c.in_ok-goals-in-Parallel.ensures) ∙ c.in-Parallel.ensures in
    let long : length (parts_of c.args.placed.now.goal.now) ≡ length (all_parts (nodes_of c.deref-in-Parallel.result.now)) + 1 = ap (λ g. length (parts_of g)) (sym same) ∙ length-append (all_parts (nodes_of c.deref-in-Parallel.result.now)) _ in
    (omega (arith, long), (omega (arith, long, c.requires.known), (omega (arith, long, c.requires.marked), c.requires.seen)))

pub walking::walk_parts-returns-in_ok-goals-in-Parallel-clause-orders : goal.walking::walk_parts-returns-in_ok-goals-in-Parallel-clause-orders
walking::walk_parts-returns-in_ok-goals-in-Parallel-clause-orders t c =
    let same : Parallel (nodes_of c.deref-in-Parallel.result.now) (span_of c.args.placed.now.goal.now) ≡ c.args.placed.now.goal.now =
    ap (λ l. Parallel (nodes_of l) (span_of c.args.placed.now.goal.now)) (c.deref-in-Parallel.ensures.value ∙ c.in_ok-goals-in-Parallel.ensures) ∙ c.in-Parallel.ensures in
    subst (λ g. Orders c.args.setting.now.predicates.now g c.args.placed.now.facts.now c.args.setting.now.all.now c.args.placed.now.start c.args.bound.now c.args.written.now c.walk_parallel.new.written c.walk_parallel.result)
    (ap (λ s. Parallel (nodes_of c.deref-in-Parallel.result.now) s) c.span-span.ensures ∙ same) c.walk_parallel.ensures.orders

pub walking::walk_parts-walk_disjunction-requires : goal.walking::walk_parts-walk_disjunction-requires
walking::walk_parts-walk_disjunction-requires t c =
    let same : Disjunction (nodes_of c.deref-in-Disjunction.result.now) (span_of c.args.placed.now.goal.now) ≡ c.args.placed.now.goal.now =
    ap (λ l. Disjunction (nodes_of l) (span_of c.args.placed.now.goal.now)) (c.deref-in-Disjunction.ensures.value ∙ c.in_ok-arms-in-Disjunction.ensures) ∙ c.in-Disjunction.ensures in
    let long : length (parts_of c.args.placed.now.goal.now) ≡ length (all_parts (nodes_of c.deref-in-Disjunction.result.now)) + 1 = ap (λ g. length (parts_of g)) (sym same) ∙ length-append (all_parts (nodes_of c.deref-in-Disjunction.result.now)) _ in
    (omega (arith, long), (omega (arith, long, c.requires.known), (omega (arith, long, c.requires.marked), c.requires.seen)))

pub walking::walk_parts-returns-in_ok-arms-in-Disjunction-clause-orders : goal.walking::walk_parts-returns-in_ok-arms-in-Disjunction-clause-orders
walking::walk_parts-returns-in_ok-arms-in-Disjunction-clause-orders t c =
    let same : Disjunction (nodes_of c.deref-in-Disjunction.result.now) (span_of c.args.placed.now.goal.now) ≡ c.args.placed.now.goal.now =
    ap (λ l. Disjunction (nodes_of l) (span_of c.args.placed.now.goal.now)) (c.deref-in-Disjunction.ensures.value ∙ c.in_ok-arms-in-Disjunction.ensures) ∙ c.in-Disjunction.ensures in
    subst (λ g. Orders c.args.setting.now.predicates.now g c.args.placed.now.facts.now c.args.setting.now.all.now c.args.placed.now.start c.args.bound.now c.args.written.now c.walk_disjunction.new.written c.walk_disjunction.result)
    (ap (λ s. Disjunction (nodes_of c.deref-in-Disjunction.result.now) s) c.span-span.ensures ∙ same) c.walk_disjunction.ensures.orders

pub walking::walk_parts-walk_negation-requires : goal.walking::walk_parts-walk_negation-requires
walking::walk_parts-walk_negation-requires t c =
    let long : length (parts_of c.args.placed.now.goal.now) ≡ length (parts_of c.in-Negation.inner) + 1 =
    ap (λ g. length (parts_of g)) (sym c.in-Negation.ensures) ∙ length-append (parts_of c.in-Negation.inner) _ in
    (omega (arith, long), (omega (arith, long, c.requires.known), (omega (arith, long, c.requires.marked), c.requires.seen)))

pub walking::walk_parts-returns-in-Negation-clause-orders : goal.walking::walk_parts-returns-in-Negation-clause-orders
walking::walk_parts-returns-in-Negation-clause-orders t c =
    let same : Negation c.in-Negation.inner c.span-span.result ≡ c.args.placed.now.goal.now = ap (λ s. Negation c.in-Negation.inner s) c.span-span.ensures ∙ c.in-Negation.ensures in
    subst (λ g. Orders c.args.setting.now.predicates.now g c.args.placed.now.facts.now c.args.setting.now.all.now c.args.placed.now.start c.args.bound.now c.args.written.now c.walk_negation.new.written c.walk_negation.result) same
    c.walk_negation.ensures.orders

pub walking::walk_parts-walk_quantified-requires : goal.walking::walk_parts-walk_quantified-requires
walking::walk_parts-walk_quantified-requires t c =
    let long : length (parts_of c.args.placed.now.goal.now) ≡ length (parts_of c.in-Quantified.inner) + 1 =
    ap (λ g. length (parts_of g)) (sym c.in-Quantified.ensures) ∙ length-append (parts_of c.in-Quantified.inner) _ in
    (omega (arith, long), (omega (arith, long, c.requires.known), (omega (arith, long, c.requires.marked), c.requires.seen)))

pub walking::walk_parts-returns-in-Quantified-clause-orders : goal.walking::walk_parts-returns-in-Quantified-clause-orders
walking::walk_parts-returns-in-Quantified-clause-orders t c =
    let same : Quantified c.in-Quantified.own.now c.in-Quantified.inner c.span-span.result ≡ c.args.placed.now.goal.now = ap (λ s. Quantified c.in-Quantified.own.now c.in-Quantified.inner s) c.span-span.ensures ∙ c.in-Quantified.ensures in
    subst (λ g. Orders c.args.setting.now.predicates.now g c.args.placed.now.facts.now c.args.setting.now.all.now c.args.placed.now.start c.args.bound.now c.args.written.now c.walk_quantified.new.written c.walk_quantified.result) same
    c.walk_quantified.ensures.orders

pub walking::walk_parts-returns-in-Simple-clause-orders : goal.walking::walk_parts-returns-in-Simple-clause-orders
walking::walk_parts-returns-in-Simple-clause-orders t c =
    let same : Simple c.in-Simple.simple.now c.span-span.result ≡ c.args.placed.now.goal.now = ap (λ s. Simple c.in-Simple.simple.now s) c.span-span.ensures ∙ c.in-Simple.ensures in
    subst (λ g. Orders c.args.setting.now.predicates.now g c.args.placed.now.facts.now c.args.setting.now.all.now c.args.placed.now.start c.args.bound.now c.args.written.now c.walk_simple.new.written c.walk_simple.result) same
    c.walk_simple.ensures.orders

-- if-then-elses

pub links::walk_guard-walk-requires : goal.links::walk_guard-walk-requires
links::walk_guard-walk-requires = links_of.links::walk_guard-walk-requires

pub links::walk_chain-walk_guard-requires : goal.links::walk_chain-walk_guard-requires
links::walk_chain-walk_guard-requires = links_of.links::walk_chain-walk_guard-requires

pub links::walk_chain-overflow_sub-last : goal.links::walk_chain-overflow_sub-last
links::walk_chain-overflow_sub-last = links_of.links::walk_chain-overflow_sub-last

pub links::walk_chain-bounds-known-last : goal.links::walk_chain-bounds-known-last
links::walk_chain-bounds-known-last = links_of.links::walk_chain-bounds-known-last

pub links::walk_chain-close_links-requires : goal.links::walk_chain-close_links-requires
links::walk_chain-close_links-requires = links_of.links::walk_chain-close_links-requires

pub links::walk_guard-returns-in_err-walk-clause-guards : goal.links::walk_guard-returns-in_err-walk-clause-guards
links::walk_guard-returns-in_err-walk-clause-guards = links_of.links::walk_guard-returns-in_err-walk-clause-guards

pub links::walk_guard-returns-then-not-are_bound-clause-guards : goal.links::walk_guard-returns-then-not-are_bound-clause-guards
links::walk_guard-returns-then-not-are_bound-clause-guards = links_of.links::walk_guard-returns-then-not-are_bound-clause-guards

pub links::walk_guard-overflow_sub-last : goal.links::walk_guard-overflow_sub-last
links::walk_guard-overflow_sub-last = links_of.links::walk_guard-overflow_sub-last

pub links::walk_guard-bounds-facts-last : goal.links::walk_guard-bounds-facts-last
links::walk_guard-bounds-facts-last = links_of.links::walk_guard-bounds-facts-last

pub links::walk_guard-overflow_sub-end : goal.links::walk_guard-overflow_sub-end
links::walk_guard-overflow_sub-end = links_of.links::walk_guard-overflow_sub-end

pub links::walk_guard-bounds-facts-end : goal.links::walk_guard-bounds-facts-end
links::walk_guard-bounds-facts-end = links_of.links::walk_guard-bounds-facts-end

pub links::walk_guard-returns-clause-same : goal.links::walk_guard-returns-clause-same
links::walk_guard-returns-clause-same = links_of.links::walk_guard-returns-clause-same

pub links::walk_guard-returns-clause-guards : goal.links::walk_guard-returns-clause-guards
links::walk_guard-returns-clause-guards = links_of.links::walk_guard-returns-clause-guards

pub links::walk_guard-returns-in_err-walk-2-clause-guards : goal.links::walk_guard-returns-in_err-walk-2-clause-guards
links::walk_guard-returns-in_err-walk-2-clause-guards = links_of.links::walk_guard-returns-in_err-walk-2-clause-guards

pub links::walk_chain-returns-in_err-next-clause-orders : goal.links::walk_chain-returns-in_err-next-clause-orders
links::walk_chain-returns-in_err-next-clause-orders = links_of.links::walk_chain-returns-in_err-next-clause-orders

pub links::walk_chain-loop-condition-init : goal.links::walk_chain-loop-condition-init
links::walk_chain-loop-condition-init = links_of.links::walk_chain-loop-condition-init

pub links::walk_chain-loop-condition-preserved : goal.links::walk_chain-loop-condition-preserved
links::walk_chain-loop-condition-preserved = links_of.links::walk_chain-loop-condition-preserved

pub links::walk_chain-returns-in_err-walk-clause-orders : goal.links::walk_chain-returns-in_err-walk-clause-orders
links::walk_chain-returns-in_err-walk-clause-orders = links_of.links::walk_chain-returns-in_err-walk-clause-orders

pub links::walk_chain-returns-clause-orders : goal.links::walk_chain-returns-clause-orders
links::walk_chain-returns-clause-orders = links_of.links::walk_chain-returns-clause-orders

-- goals side by side

pub parallel::walk_parallel-overflow_sub-own : goal.parallel::walk_parallel-overflow_sub-own
parallel::walk_parallel-overflow_sub-own t c = omega (arith, c.requires.known)

pub parallel::walk_parallel-bounds-facts-own : goal.parallel::walk_parallel-bounds-facts-own
parallel::walk_parallel-bounds-facts-own t c = omega (arith, c.requires.known)

pub parallel::walk_parallel-walk_conjuncts-requires : goal.parallel::walk_parallel-walk_conjuncts-requires
parallel::walk_parallel-walk_conjuncts-requires t c =
    let size = length (all_parts (nodes_of c.args.goals.now)) in (
      omega arith,
      (
        front_length c.args.whole.now.facts.now (length c.args.whole.now.facts.now - 1) size 1 c.requires.known (omega (arith, c.requires.known)),
        (front_length c.args.marks.now (length c.args.whole.now.facts.now - 1) size 1 c.requires.marked (omega (arith, c.requires.known)), c.requires.seen),
      ),
    )

pub parallel::walk_parallel-overflow_sub-count : goal.parallel::walk_parallel-overflow_sub-count
parallel::walk_parallel-overflow_sub-count t c = omega (arith, c.len.ensures, c.len-before.ensures, c.in_ok-walk_conjuncts.ensures.adds.more)

pub parallel::walk_parallel-conjoin-requires : goal.parallel::walk_parallel-conjoin-requires
parallel::walk_parallel-conjoin-requires t c = omega (arith, c.len.ensures)

pub parallel::walk_parallel-returns-clause-adds : goal.parallel::walk_parallel-returns-clause-adds
parallel::walk_parallel-returns-clause-adds t c = record {
  more =
      let count = c.len.result - c.len-before.result in
      let long : length c.conjoin.new.self + count ≡ length c.walk_conjuncts.new.written.nodes + 1 =
      joined_length (ConjunctionRoot (Beside None) count) c.in_ok-outputs.outputs c.args.whole.now.span c.walk_conjuncts.new.written.nodes c.conjoin.new.self (omega (arith, c.len.ensures)) c.in_ok-conjoin.ensures.ok in
      omega (arith, long, c.len.ensures, c.len-before.ensures, c.in_ok-walk_conjuncts.ensures.adds.more);
  cleared = c.in_ok-outputs.ensures.cleared;
}

pub parallel::walk_parallel-returns-clause-same : goal.parallel::walk_parallel-returns-clause-same
parallel::walk_parallel-returns-clause-same t c = undone_is c.args.bound.now c.walk_conjuncts.new.bound c.undo.new.self c.mark-known.result c.in_ok-walk_conjuncts.ensures.extends c.mark-known.ensures c.undo.ensures

pub parallel::walk_parallel-returns-in_err-walk_conjuncts-clause-orders : goal.parallel::walk_parallel-returns-in_err-walk_conjuncts-clause-orders
parallel::walk_parallel-returns-in_err-walk_conjuncts-clause-orders t c =
    let p = err_from_is_err_and c.from_residual.result c.from_residual.ensures.1 in
    rw (p.1, p.2) (λ total known stretch.
    let modes = modes_of c.args.setting.now.predicates.now in
    let goals = nodes_of c.args.goals.now in
    let own : length c.args.whole.now.facts.now - 1 ≡ length (all_subgoals goals) = omega (arith, c.requires.known, all_subgoals_length goals) in
    let k = known_parts total modes (all_subgoals goals) (Parallel goals c.args.whole.now.span) c.args.whole.now.facts.now (length c.args.whole.now.facts.now - 1) known own in
    parallel_stuck total modes goals c.args.whole.now.span (among c.args.bound.now) c.args.written.now c.walk_conjuncts.new.written c.walk_conjuncts.new.written c.in_err-walk_conjuncts.field-0.0
    (c.in_err-walk_conjuncts.ensures.orders total k stretch))

pub parallel::walk_parallel-returns-clause-orders : goal.parallel::walk_parallel-returns-clause-orders
parallel::walk_parallel-returns-clause-orders t c = λ total known stretch.
    let modes = modes_of c.args.setting.now.predicates.now in
    let goals = nodes_of c.args.goals.now in
    let goal : Node = Parallel goals c.args.whole.now.span in
    let own : length c.args.whole.now.facts.now - 1 ≡ length (all_subgoals goals) = omega (arith, c.requires.known, all_subgoals_length goals) in
    let k = known_parts total modes (all_subgoals goals) goal c.args.whole.now.facts.now (length c.args.whole.now.facts.now - 1) known own in
    let f = known_own total modes (all_subgoals goals) goal c.args.whole.now.facts.now (length c.args.whole.now.facts.now - 1) c.index-facts-own.result known own c.index-facts-own.is in
    let same : c.undo.new.self ≡ c.args.bound.now = undone_is c.args.bound.now c.walk_conjuncts.new.bound c.undo.new.self c.mark-known.result c.in_ok-walk_conjuncts.ensures.extends c.mark-known.ensures c.undo.ensures in
    let outs : c.in_ok-outputs.outputs ≡ outputs_of total modes (among c.args.bound.now) goal =
    c.in_ok-outputs.ensures.outputs total modes goal f stretch ∙ ap (λ b. outputs_of total modes (among b) goal) same in
    let new : Written = record { nodes = c.conjoin.new.self; fresh = c.walk_conjuncts.new.written.fresh; seen = c.outputs_of.new.seen } in
    parallel_ready total modes goals c.args.whole.now.span (among c.args.bound.now) (c.len.result - c.len-before.result) c.in_ok-outputs.outputs c.args.written.now c.walk_conjuncts.new.written new
    c.in_ok-walk_conjuncts.field-0 (c.in_ok-walk_conjuncts.ensures.orders total k stretch) outs
    (ap (λ n. n - c.len-before.result) c.len.ensures ∙ ap (λ n. length c.walk_conjuncts.new.written.nodes - n) c.len-before.ensures)
    c.in_ok-conjoin.ensures.ok refl (c.in_ok-outputs.ensures.cleared ∙ sym c.in_ok-walk_conjuncts.ensures.adds.cleared)

pub parallel::walk_conjuncts-walk_if_ready-requires : goal.parallel::walk_conjuncts-walk_if_ready-requires
parallel::walk_conjuncts-walk_if_ready-requires t c =
    let within = end_within c.args.placed.now.goals.now c.loop-index.index c.index-goals-index.result c.loop-index.at c.part_count.result c.loop-index-test.true c.index-goals-index.is c.part_count.ensures c.loop-index.invariant.at_is in
    let size = length (parts_of c.index-goals-index.result) in (
      omega (arith, within, c.part_count.ensures),
      (
        part_length c.args.placed.now.facts.now c.loop-index.at c.part_count.result size (omega (arith, within, c.requires.known)) c.part_count.ensures,
        (
          cleared_length c.loop-index.marks c.clear.new.marks c.loop-index.at c.part_count.result size (omega (arith, within, c.requires.marked, c.loop-index.auto.marks)) c.part_count.ensures c.clear.ensures,
          c.loop-index.invariant.adds.cleared,
        ),
      ),
    )

pub parallel::walk_conjuncts-overflow_sub-own : goal.parallel::walk_conjuncts-overflow_sub-own
parallel::walk_conjuncts-overflow_sub-own t c = omega (arith, some_parts c.index-goals-index.result c.part_count.result c.part_count.ensures)

pub parallel::walk_conjuncts-bounds-facts-own : goal.parallel::walk_conjuncts-bounds-facts-own
parallel::walk_conjuncts-bounds-facts-own t c =
    let goal = c.index-goals-index.result in
    let one = some_parts goal c.part_count.result c.part_count.ensures in
    let end = end_within c.args.placed.now.goals.now c.loop-index.index goal c.loop-index.at c.part_count.result c.loop-index-test.true c.index-goals-index.is c.part_count.ensures c.loop-index.invariant.at_is in
    omega (arith, one, end, c.requires.known)

pub parallel::walk_conjuncts-returns-in_err-walk_if_ready-clause-orders : goal.parallel::walk_conjuncts-returns-in_err-walk_if_ready-clause-orders
parallel::walk_conjuncts-returns-in_err-walk_if_ready-clause-orders t c =
    let p = err_from_is_err_and c.from_residual.result c.from_residual.ensures.1 in
    rw (p.1, p.2) (λ total known stretch.
    let modes = modes_of c.args.setting.now.predicates.now in
    let goal = c.index-goals-index.result in
    let rest = drop (c.loop-index.index + 1) c.args.placed.now.goals.now in
    let whole = all_beside (moves total modes (nodes_of c.args.placed.now.goals.now)) (among c.args.bound.now) in
    let w = subst (λ l. Walked total modes (nodes_of l) c.args.placed.now.facts.now c.loop-index.at c.args.setting.now.all.now c.loop-index.place whole (beside (c.loop-index.index + 1) (moves total modes (nodes_of l)) (among c.loop-index.bound)) c.args.written.now c.loop-index.written)
    (next_item c.args.placed.now.goals.now c.loop-index.index goal c.loop-index-test.true c.index-goals-index.is) (c.loop-index.invariant.walked total known stretch) in
    let within = end_within c.args.placed.now.goals.now c.loop-index.index goal c.loop-index.at c.part_count.result c.loop-index-test.true c.index-goals-index.is c.part_count.ensures c.loop-index.invariant.at_is in
    let end : c.loop-index.at + c.part_count.result ≡ c.loop-index.at + length (parts_of goal) = ap (λ n. c.loop-index.at + n) c.part_count.ensures in
    let k = facts_of_next total modes goal (nodes_of rest) c.args.placed.now.facts.now c.loop-index.at (c.loop-index.at + c.part_count.result) w.known end in
    let s = stretch_front total c.args.setting.now.all.now c.loop-index.place (variables goal) (all_variables (nodes_of rest)) w.stretch in
    let m = blank_there total modes goal c.loop-index.marks c.clear.new.marks c.loop-index.at (c.loop-index.at + c.part_count.result) (among c.loop-index.bound)
    (omega (arith, within, c.requires.marked, c.loop-index.auto.marks)) end c.clear.ensures in
    beside_err total modes goal c.walk_if_ready.new.marks c.loop-index.bound c.walk_if_ready.new.bound whole c.args.written.now c.loop-index.written c.walk_if_ready.new.written c.walk_if_ready.new.written
    c.in_err-walk_if_ready.field-0.0 (c.in_err-walk_if_ready.ensures.goes total k s m))

pub parallel::walk_conjuncts-returns-then-not-branch-clause-orders : goal.parallel::walk_conjuncts-returns-then-not-branch-clause-orders
parallel::walk_conjuncts-returns-then-not-branch-clause-orders t c = λ total known stretch.
    let modes = modes_of c.args.setting.now.predicates.now in
    let goal = c.index-goals-index.result in
    let rest = drop (c.loop-index.index + 1) c.args.placed.now.goals.now in
    let whole = all_beside (moves total modes (nodes_of c.args.placed.now.goals.now)) (among c.args.bound.now) in
    let w = subst (λ l. Walked total modes (nodes_of l) c.args.placed.now.facts.now c.loop-index.at c.args.setting.now.all.now c.loop-index.place whole (beside (c.loop-index.index + 1) (moves total modes (nodes_of l)) (among c.loop-index.bound)) c.args.written.now c.loop-index.written)
    (next_item c.args.placed.now.goals.now c.loop-index.index goal c.loop-index-test.true c.index-goals-index.is) (c.loop-index.invariant.walked total known stretch) in
    let within = end_within c.args.placed.now.goals.now c.loop-index.index goal c.loop-index.at c.part_count.result c.loop-index-test.true c.index-goals-index.is c.part_count.ensures c.loop-index.invariant.at_is in
    let end : c.loop-index.at + c.part_count.result ≡ c.loop-index.at + length (parts_of goal) = ap (λ n. c.loop-index.at + n) c.part_count.ensures in
    let k = facts_of_next total modes goal (nodes_of rest) c.args.placed.now.facts.now c.loop-index.at (c.loop-index.at + c.part_count.result) w.known end in
    let s = stretch_front total c.args.setting.now.all.now c.loop-index.place (variables goal) (all_variables (nodes_of rest)) w.stretch in
    let m = blank_there total modes goal c.loop-index.marks c.clear.new.marks c.loop-index.at (c.loop-index.at + c.part_count.result) (among c.loop-index.bound)
    (omega (arith, within, c.requires.marked, c.loop-index.auto.marks)) end c.clear.ensures in
    let stays = subst (λ b. GoesIfReady total modes goal c.walk_if_ready.new.marks c.loop-index.bound c.walk_if_ready.new.bound c.loop-index.written c.walk_if_ready.new.written (Ok b)) c.if-not-branch.true
    (c.in_ok-walk_if_ready.ensures.goes total k s m) in
    let those = slice_range c.args.placed.now.goals.now (c.loop-index.index + 1) (length c.args.placed.now.goals.now) in
    let same : those ≡ rest = between_to_end c.args.placed.now.goals.now (c.loop-index.index + 1) (length c.args.placed.now.goals.now) (omega arith) in
    let behind : AreKnown total modes (all_subgoals (nodes_of (goal ∷ those))) (slice_range c.args.placed.now.facts.now c.loop-index.at (length c.args.placed.now.facts.now)) =
    subst (λ l. AreKnown total modes (all_subgoals (nodes_of (goal ∷ l))) (slice_range c.args.placed.now.facts.now c.loop-index.at (length c.args.placed.now.facts.now))) (sym same)
    (subst (λ l. AreKnown total modes (all_subgoals (nodes_of (goal ∷ rest))) l) (sym (between_to_end c.args.placed.now.facts.now c.loop-index.at (length c.args.placed.now.facts.now) (omega arith)))
    (facts_from total modes (all_subgoals (nodes_of (goal ∷ rest))) c.args.placed.now.facts.now c.loop-index.at w.known)) in
    let stuck : is_ready (from total modes goal (among c.walk_if_ready.new.bound)) ≡ false = ap (λ b. is_ready (from total modes goal (among b))) stays.same_bound ∙ stays.stuck in
    walked_tells total modes c.args.placed.now.facts.now c.loop-index.at c.args.setting.now.all.now c.loop-index.place whole (beside (c.loop-index.index + 1) (moves total modes (nodes_of (goal ∷ rest))) (among c.loop-index.bound))
    c.args.written.now c.loop-index.written c.walk_stuck.new.written (nodes_of (goal ∷ rest)) c.walk_stuck.result w
    (subst (λ b. TellsStuck (beside (c.loop-index.index + 1) (moves total modes (nodes_of (goal ∷ rest))) (among b)) c.walk_stuck.result) stays.same_bound
    (subst (λ l. TellsStuck (beside (c.loop-index.index + 1) (moves total modes (nodes_of (goal ∷ l))) (among c.walk_if_ready.new.bound)) c.walk_stuck.result) same (c.walk_stuck.ensures.tells total behind s stuck)))

pub parallel::walk_conjuncts-loop-index-preserved : goal.parallel::walk_conjuncts-loop-index-preserved
parallel::walk_conjuncts-loop-index-preserved t c = record {
  at_is = at_behind c.args.placed.now.goals.now c.loop-index.index c.index-goals-index.result c.loop-index.at c.part_count.result c.loop-index-test.true c.index-goals-index.is c.part_count.ensures c.loop-index.invariant.at_is;
  extends = extends_on c.args.bound.now c.loop-index.bound c.walk_if_ready.new.bound c.loop-index.invariant.extends c.in_ok-walk_if_ready.ensures.extends;
  adds = record { more = omega (arith, c.loop-index.invariant.adds.more, c.in_ok-walk_if_ready.ensures.adds.more); cleared = c.in_ok-walk_if_ready.ensures.adds.cleared };
  walked = λ total known stretch.
      let modes = modes_of c.args.setting.now.predicates.now in
      let goal = c.index-goals-index.result in
      let rest = drop (c.loop-index.index + 1) c.args.placed.now.goals.now in
      let whole = all_beside (moves total modes (nodes_of c.args.placed.now.goals.now)) (among c.args.bound.now) in
      let w = subst (λ l. Walked total modes (nodes_of l) c.args.placed.now.facts.now c.loop-index.at c.args.setting.now.all.now c.loop-index.place whole (beside (c.loop-index.index + 1) (moves total modes (nodes_of l)) (among c.loop-index.bound)) c.args.written.now c.loop-index.written)
      (next_item c.args.placed.now.goals.now c.loop-index.index goal c.loop-index-test.true c.index-goals-index.is) (c.loop-index.invariant.walked total known stretch) in
      let within = end_within c.args.placed.now.goals.now c.loop-index.index goal c.loop-index.at c.part_count.result c.loop-index-test.true c.index-goals-index.is c.part_count.ensures c.loop-index.invariant.at_is in
      let end : c.loop-index.at + c.part_count.result ≡ c.loop-index.at + length (parts_of goal) = ap (λ n. c.loop-index.at + n) c.part_count.ensures in
      let k = facts_of_next total modes goal (nodes_of rest) c.args.placed.now.facts.now c.loop-index.at (c.loop-index.at + c.part_count.result) w.known end in
      let s = stretch_front total c.args.setting.now.all.now c.loop-index.place (variables goal) (all_variables (nodes_of rest)) w.stretch in
      let m = blank_there total modes goal c.loop-index.marks c.clear.new.marks c.loop-index.at (c.loop-index.at + c.part_count.result) (among c.loop-index.bound)
      (omega (arith, within, c.requires.marked, c.loop-index.auto.marks)) end c.clear.ensures in
      let goes = subst (λ b. GoesIfReady total modes goal c.walk_if_ready.new.marks c.loop-index.bound c.walk_if_ready.new.bound c.loop-index.written c.walk_if_ready.new.written (Ok b)) c.if-not-branch.false
      (c.in_ok-walk_if_ready.ensures.goes total k s m) in
      let one = some_parts goal c.part_count.result c.part_count.ensures in
      walked_on total modes goal (nodes_of rest) c.args.placed.now.facts.now c.loop-index.at (c.loop-index.at + c.part_count.result - 1) (c.loop-index.at + c.part_count.result) c.args.setting.now.all.now c.loop-index.place
      c.place_behind-place.result c.index-facts-own.result whole (beside (c.loop-index.index + 1) (moves total modes (nodes_of (goal ∷ rest))) (among c.loop-index.bound))
      (beside (c.loop-index.index + 1 + 1) (moves total modes (nodes_of rest)) (among c.walk_if_ready.new.bound)) goes.ordered c.args.written.now c.loop-index.written c.walk_if_ready.new.written w
      (omega (arith, one, c.part_count.ensures)) end c.index-facts-own.is c.place_behind-place.ensures.within
      (beside_goes total modes goal (nodes_of rest) (among c.loop-index.bound) (among c.walk_if_ready.new.bound) (c.loop-index.index + 1) goes.ordered goes.outcome goes.bound_is) goes.written;
}

pub parallel::walk_conjuncts-returns-clause-orders : goal.parallel::walk_conjuncts-returns-clause-orders
parallel::walk_conjuncts-returns-clause-orders t c = λ total known stretch.
    let modes = modes_of c.args.setting.now.predicates.now in
    let rest = drop c.loop-index.index c.args.placed.now.goals.now in
    let none : rest ≡ [] = drop_all c.loop-index.index c.args.placed.now.goals.now (omega arith) in
    walked_end total modes c.args.placed.now.facts.now c.loop-index.at c.args.setting.now.all.now c.loop-index.place (all_beside (moves total modes (nodes_of c.args.placed.now.goals.now)) (among c.args.bound.now))
    (beside (c.loop-index.index + 1) (moves total modes (nodes_of rest)) (among c.loop-index.bound)) c.args.written.now c.loop-index.written (nodes_of rest) (c.loop-index.invariant.walked total known stretch)
    (ap (λ l. beside (c.loop-index.index + 1) (moves total modes (nodes_of l)) (among c.loop-index.bound)) none)

pub parallel::walk_stuck-walk-result-requires : goal.parallel::walk_stuck-walk-result-requires
parallel::walk_stuck-walk-result-requires t c =
    let size = length (parts_of c.args.waiting.now.goal.now) in
    let more = length (all_parts (nodes_of c.args.waiting.now.others.now)) in (
      omega arith,
      (
        front_length c.args.waiting.now.facts.now c.part_count-own.result size more c.requires.known c.part_count-own.ensures,
        (front_length c.needed_by.new.marks c.part_count-own.result size more (omega (arith, c.requires.marked, c.needed_by.auto.marks)) c.part_count-own.ensures, c.requires.seen),
      ),
    )

pub parallel::walk_stuck-returns-in-Ok-clause-tells : goal.parallel::walk_stuck-returns-in-Ok-clause-tells
parallel::walk_stuck-returns-in-Ok-clause-tells t c = λ total known stretch stuck.
    let modes = modes_of c.args.setting.now.predicates.now in
    let goal = c.args.waiting.now.goal.now in
    let k = facts_of_first total modes goal (nodes_of c.args.waiting.now.others.now) c.args.waiting.now.facts.now c.part_count-own.result known c.part_count-own.ensures in
    never_stuck total modes goal (among c.needed_by.new.bound) c.args.written.now c.walk-result.new.written c.in-Ok.field-0 (c.in-Ok.ensures.orders total k stretch)
    (ap (λ b. is_ready (from total modes goal (among b))) c.in_ok-other.ensures.same ∙ stuck)

pub parallel::walk_stuck-returns-in_ok-told-in-Refused-clause-tells : goal.parallel::walk_stuck-returns-in_ok-told-in-Refused-clause-tells
parallel::walk_stuck-returns-in_ok-told-in-Refused-clause-tells t c = λ total known stretch stuck.
    let modes = modes_of c.args.setting.now.predicates.now in
    let goal = c.args.waiting.now.goal.now in
    let others = nodes_of c.args.waiting.now.others.now in
    let k = facts_of_first total modes goal others c.args.waiting.now.facts.now c.part_count-own.result known c.part_count-own.ensures in
    let gives = subst (λ f. Gives modes (from total modes goal (among c.needed_by.new.bound)) c.args.written.now c.walk-result.new.written (Err f)) c.in-Refused.is (c.in-Err.ensures.orders total k stretch) in
    beside_stuck total modes goal others (among c.args.bound.now) c.args.waiting.now.number c.in_ok-other.other c.span.result c.in-Refused.refusal c.in_ok-told-in-Refused.told
    (ap (λ b. from total modes goal (among b)) (sym c.in_ok-other.ensures.same) ∙ gives) (c.in_ok-other.ensures.needs total known) c.span.ensures c.in_ok-told-in-Refused.ensures
