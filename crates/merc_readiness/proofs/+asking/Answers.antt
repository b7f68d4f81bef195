use Rattle.std.proofs.Common.{◌≡◌, ◌∙◌, ◌+◌, ◌-◌, ◌≤◌, ◌<◌, ◌++◌, [], suc, ap, sym, subst, refl, true, false, IfOk, length, take, drop, slice_range, arith}
use Rattle.std.specs.List.{slice_index_or}
use Rattle.std.proofs.lemmas.List.{drop_all, append-nil}
use Rattle.std.proofs.lemmas.Result.{IfOk-weaker}
use borrow.Rule.Slice.PartMut.{put_mid}
use Rattle.merc_goal_tree.specs.Nodes.{Node, Conjunction, Parallel, Disjunction, nodes_of, span_of}
use Rattle.merc_goal_tree.specs.Parts.{parts_of, all_parts}
use Rattle.merc_order.specs.Bound.{among, are_bound}
use Rattle.merc_order.specs.Procedures.{modes_of}
use Rattle.merc_goal_facts.specs.Bounds.{all_behind}
use Rattle.merc_goal_facts.specs.declared.facts.Facts.{Facts}
use Rattle.merc_readiness.specs.Asking.{joined_by, Asked, AskedParts}
use Rattle.merc_readiness.specs.Chains.{AskedArm, AskedLinks, IsOpen, IsReached, Told}
use Rattle.merc_readiness.specs.Sweeps.{Extends, ArePlaced, AreGone, AreStuck, DuringArms, DuringBeside, listed_if_left}
use Rattle.merc_readiness.specs.declared.waiting.Waiting.{Waiting}
use Rattle.merc_goal_facts.proofs.Needs.{not_without_needs}
use Rattle.merc_readiness.proofs.Asked.{asked_marked, parts_marked, marked_again}
use Rattle.merc_readiness.proofs.Asks.{undone, rest_length, no_rest, own_known, gone_at_first}
use Rattle.merc_readiness.proofs.Binding.{extends_same, extends_on, extends_all}
use Rattle.merc_readiness.proofs.ChainLaws.{begin_chain, conditional_length}
use Rattle.merc_readiness.proofs.Conjunctions.{all_went, none_went, is_empty}
use Rattle.merc_readiness.proofs.Each.{begin_beside, not_by_arms, end_arms, end_beside}
use Rattle.merc_readiness.proofs.Halves.{condition_stops, owed_stops, then_asked, arm_stops_decision, decision_owes, decision_asked, negation_stops, negation_asked, quantified_asked}
use Rattle.merc_readiness.proofs.Lengths.{front_length, part_length, tail_length, whole_length}
use Rattle.merc_readiness.proofs.Listed.{not_empty, none_counted, placed_here, parts_here, placed_if_left, placed-reverse, within_if_left, gone_reversed}
use Rattle.merc_readiness.proofs.Marking.{parts_length}
use Rattle.merc_readiness.proofs.Turns.{arm_stops, arm_goes, beside_stops, beside_goes, link_stops, link_goes, last_stops, last_goes, member_stays, member_goes, member_asked}
use Rattle.merc_readiness.proofs.+asking.Goals.{sweeping::sweep_once-then-not-branch+in_ok-push, sweeping::sweep_once-else-not-branch}
use Rattle.merc_readiness.proofs.+asking.Goals as goal

pub asking::advance-advance_within-requires : goal.asking::advance-advance_within-requires
asking::advance-advance_within-requires t c =
    let h = parts_length c.args.goal.now in
    let size = length (all_parts (joined_by c.args.goal.now)) in
    let own : c.part_count-own.result - 1 ≡ size = omega (arith, h, c.part_count-own.ensures) in (
      omega (arith, h),
      (
        front_length c.args.facts.now (c.part_count-own.result - 1) size 1 (omega (arith, h, c.requires.known)) own,
        front_length c.args.marks.now (c.part_count-own.result - 1) size 1 (omega (arith, h, c.requires.marked)) own,
      ),
    )

pub asking::advance-overflow_sub-own : goal.asking::advance-overflow_sub-own
asking::advance-overflow_sub-own t c = let h = parts_length c.args.goal.now in omega arith

pub asking::advance-bounds-marks-own : goal.asking::advance-bounds-marks-own
asking::advance-bounds-marks-own t c = let h = parts_length c.args.goal.now in omega arith

pub asking::advance-returns-then-marks-own-clause-asked : goal.asking::advance-returns-then-marks-own-clause-asked
asking::advance-returns-then-marks-own-clause-asked t c = λ total known m.
    let h = parts_length c.args.goal.now in
    let own_is : suc (c.part_count-own.result - 1) ≡ length (parts_of c.args.goal.now) = omega arith in
    asked_marked total (modes_of c.args.predicates.now) c.args.goal.now c.args.marks.now (among c.args.bound.now) (c.part_count-own.result - 1) own_is c.if-marks-own.true m

pub asking::advance-bounds-facts-own : goal.asking::advance-bounds-facts-own
asking::advance-bounds-facts-own t c = let h = parts_length c.args.goal.now in omega arith

pub asking::advance-returns-clause-asked : goal.asking::advance-returns-clause-asked
asking::advance-returns-clause-asked t c = λ total known m.
    let h = parts_length c.args.goal.now in
    let own_is : suc (c.part_count-own.result - 1) ≡ length (parts_of c.args.goal.now) = omega arith in
    let k = own_known total (modes_of c.args.predicates.now) c.args.goal.now c.args.facts.now (c.part_count-own.result - 1) c.index-facts-own.result known own_is c.index-facts-own.is in
    let (is, marked) = c.in_ok-ready.ensures.asked total k.parts_known k.own_known (parts_marked total (modes_of c.args.predicates.now) c.args.goal.now c.args.marks.now
    (among c.args.bound.now) (c.part_count-own.result - 1) own_is c.if-marks-own.false m) in (
      is,
      marked_again total (modes_of c.args.predicates.now) c.args.goal.now c.args.marks.now c.advance_within.new.marks (among c.args.bound.now)
          (c.part_count-own.result - 1) c.in_ok-ready.ready own_is m is marked,
    )

pub asking::advance_within-advance_parts-asked-requires : goal.asking::advance_within-advance_parts-asked-requires
asking::advance_within-advance_parts-asked-requires t c = (omega arith, (c.requires.known, c.requires.marked))

pub asking::advance_within-returns-then-not-are_bound-clause-asked : goal.asking::advance_within-returns-then-not-are_bound-clause-asked
asking::advance_within-returns-then-not-are_bound-clause-asked t c = λ total known own_known m.
    let needs : are_bound (among c.args.bound.now) c.args.own.now.needs ≡ false =
    sym (c.are_bound.ensures ∙ ap (λ l. are_bound (among c.args.bound.now) l) c.as_slice.ensures) ∙ c.if-not-are_bound.true in
    (not_without_needs total (modes_of c.args.predicates.now) c.args.goal.now c.args.own.now (among c.args.bound.now) own_known needs, m)

pub asking::advance_within-returns-clause-asked : goal.asking::advance_within-returns-clause-asked
asking::advance_within-returns-clause-asked t c =
    subst (λ b. IfOk c.advance_parts-asked.result (λ ready. AskedParts c.args.predicates.now c.args.goal.now c.args.facts.now c.args.own.now c.args.marks.now c.advance_parts-asked.new.marks (among b) ready))
    c.enter.ensures c.advance_parts-asked.ensures.asked

pub asking::advance_arms-advance-requires : goal.asking::advance_arms-advance-requires
asking::advance_arms-advance-requires t c =
    let room : c.loop-arm.arm-index < length c.args.arms.now = omega arith in
    let parts = rest_length c.args.arms.now c.loop-arm.arm-index c.arm-item.result room c.arm-item.is in
    let size = length (parts_of c.arm-item.result) in
    let end : c.loop-arm.at + c.part_count.result ≡ c.loop-arm.at + size = ap (λ n. c.loop-arm.at + n) c.part_count.ensures in
    let within : c.loop-arm.at + c.part_count.result ≤ length (all_parts (nodes_of c.args.arms.now)) = omega (arith, parts, end, c.loop-arm.invariant.at_is) in (
      omega (arith, within, end),
      (
        part_length c.args.facts.now c.loop-arm.at (c.loop-arm.at + c.part_count.result) size (omega (arith, within, c.requires.known)) end,
        part_length c.loop-arm.marks c.loop-arm.at (c.loop-arm.at + c.part_count.result) size (omega (arith, within, c.requires.marked, c.loop-arm.auto.marks)) end,
      ),
    )

pub asking::advance_arms-returns-then-not-are_bound-clause-asked : goal.asking::advance_arms-returns-then-not-are_bound-clause-asked
asking::advance_arms-returns-then-not-are_bound-clause-asked t c = λ span total known own_known m.
    let owed : are_bound (among c.args.bound.now) c.args.own.now.owed ≡ false =
    sym (c.are_bound.ensures ∙ ap (λ l. are_bound (among c.args.bound.now) l) c.as_slice.ensures) ∙ c.if-not-are_bound.true in
    (not_by_arms total (modes_of c.args.predicates.now) (nodes_of c.args.arms.now) span (among c.args.bound.now) (sym (own_known.owed_are (among c.args.bound.now)) ∙ owed), m)

pub asking::advance_arms-returns-then-not-branch-clause-asked : goal.asking::advance_arms-returns-then-not-branch-clause-asked
asking::advance_arms-returns-then-not-branch-clause-asked t c = λ span total known own_known m.
    let room : c.loop-arm.arm-index < length c.args.arms.now = omega arith in
    let end_is : c.loop-arm.at + c.part_count.result ≡ c.loop-arm.at + length (parts_of c.arm-item.result) = ap (λ n. c.loop-arm.at + n) c.part_count.ensures in
    let size_is : c.loop-arm.at + c.part_count.result - c.loop-arm.at ≡ length (parts_of c.arm-item.result) = let same = c.part_count.ensures in omega arith in
    let (k, d) = c.loop-arm.invariant.during total span known m in
    let asked =
    subst (λ r. Asked c.args.predicates.now c.arm-item.result (slice_range c.args.facts.now c.loop-arm.at (c.loop-arm.at + c.part_count.result)) (slice_range c.loop-arm.marks c.loop-arm.at
    (c.loop-arm.at + c.part_count.result)) c.advance.new.marks (among c.args.bound.now) r) c.if-not-branch.true
    (subst (λ b. Asked c.args.predicates.now c.arm-item.result (slice_range c.args.facts.now c.loop-arm.at (c.loop-arm.at + c.part_count.result))
    (slice_range c.loop-arm.marks c.loop-arm.at (c.loop-arm.at + c.part_count.result))
    c.advance.new.marks (among b) c.in_ok-advance.field-0) c.loop-arm.invariant.same c.in_ok-advance.ensures.asked) in
    arm_stops c.args.predicates.now c.args.arms.now c.loop-arm.arm-index c.arm-item.result c.args.facts.now c.loop-arm.marks c.advance.new.marks c.loop-arm.at
    (c.loop-arm.at + c.part_count.result) (c.loop-arm.at + c.part_count.result - c.loop-arm.at) (among c.args.bound.now)
    room c.arm-item.is end_is size_is asked total span k d

pub asking::advance_arms-loop-arm-preserved : goal.asking::advance_arms-loop-arm-preserved
asking::advance_arms-loop-arm-preserved t c =
    let room : c.loop-arm.arm-index < length c.args.arms.now = omega arith in
    let end_is : c.loop-arm.at + c.part_count.result ≡ c.loop-arm.at + length (parts_of c.arm-item.result) = ap (λ n. c.loop-arm.at + n) c.part_count.ensures in
    let size_is : c.loop-arm.at + c.part_count.result - c.loop-arm.at ≡ length (parts_of c.arm-item.result) = let same = c.part_count.ensures in omega arith in
    let asked =
    subst (λ r. Asked c.args.predicates.now c.arm-item.result (slice_range c.args.facts.now c.loop-arm.at (c.loop-arm.at + c.part_count.result)) (slice_range c.loop-arm.marks c.loop-arm.at
    (c.loop-arm.at + c.part_count.result)) c.advance.new.marks (among c.args.bound.now) r) c.if-not-branch.false
    (subst (λ b. Asked c.args.predicates.now c.arm-item.result (slice_range c.args.facts.now c.loop-arm.at (c.loop-arm.at + c.part_count.result))
    (slice_range c.loop-arm.marks c.loop-arm.at (c.loop-arm.at + c.part_count.result))
    c.advance.new.marks (among b) c.in_ok-advance.field-0) c.loop-arm.invariant.same c.in_ok-advance.ensures.asked) in
    record {
      at_is = let parts = rest_length c.args.arms.now c.loop-arm.arm-index c.arm-item.result room c.arm-item.is in let at_is = c.loop-arm.invariant.at_is in omega arith;
      same = c.in_ok-advance.ensures.same ∙ c.loop-arm.invariant.same;
      during = λ total span known m.
          let (k, d) = c.loop-arm.invariant.during total span known m in
          arm_goes c.args.predicates.now c.args.arms.now c.loop-arm.arm-index c.arm-item.result c.args.facts.now c.loop-arm.marks c.advance.new.marks c.loop-arm.at
          (c.loop-arm.at + c.part_count.result) (c.loop-arm.at + c.part_count.result - c.loop-arm.at) (among c.args.bound.now)
          room c.arm-item.is end_is size_is asked total k d;
    }

pub asking::advance_arms-returns-clause-asked : goal.asking::advance_arms-returns-clause-asked
asking::advance_arms-returns-clause-asked t c = λ span total known own_known m.
    let (k, d) = c.loop-arm.invariant.during total span known m in
    let none_left = no_rest c.args.arms.now c.loop-arm.arm-index (omega arith) in
    let last = subst (λ n. DuringArms total (modes_of c.args.predicates.now) (nodes_of c.args.arms.now) (among c.args.bound.now) n c.loop-arm.marks c.loop-arm.at) none_left d in
    let (is, marked) = end_arms total (modes_of c.args.predicates.now) (nodes_of c.args.arms.now) span (among c.args.bound.now) c.loop-arm.marks c.loop-arm.at last in
    let owed : are_bound (among c.args.bound.now) c.args.own.now.owed ≡ true =
    sym (c.are_bound.ensures ∙ ap (λ l. are_bound (among c.args.bound.now) l) c.as_slice.ensures) ∙ c.if-not-are_bound.false in
    (is ∙ sym (own_known.owed_are (among c.args.bound.now)) ∙ owed, marked)

pub asking::advance_beside-advance-requires : goal.asking::advance_beside-advance-requires
asking::advance_beside-advance-requires t c =
    let room : c.loop-goal.goal-index < length c.args.goals.now = omega arith in
    let parts = rest_length c.args.goals.now c.loop-goal.goal-index c.goal-item.result room c.goal-item.is in
    let size = length (parts_of c.goal-item.result) in
    let end : c.loop-goal.at + c.part_count.result ≡ c.loop-goal.at + size = ap (λ n. c.loop-goal.at + n) c.part_count.ensures in
    let within : c.loop-goal.at + c.part_count.result ≤ length (all_parts (nodes_of c.args.goals.now)) = omega (arith, parts, end, c.loop-goal.invariant.at_is) in (
      omega (arith, within, end),
      (
        part_length c.args.facts.now c.loop-goal.at (c.loop-goal.at + c.part_count.result) size (omega (arith, within, c.requires.known)) end,
        part_length c.loop-goal.marks c.loop-goal.at (c.loop-goal.at + c.part_count.result) size (omega (arith, within, c.requires.marked, c.loop-goal.auto.marks)) end,
      ),
    )

pub asking::advance_beside-returns-clause-same : goal.asking::advance_beside-returns-clause-same
asking::advance_beside-returns-clause-same t c = c.undo-2.ensures ∙ undone c.args.bound.now c.loop-goal.bound c.mark-before.result c.loop-goal.invariant.extends c.mark-before.ensures

pub asking::advance_beside-returns-then-not-branch-clause-same : goal.asking::advance_beside-returns-then-not-branch-clause-same
asking::advance_beside-returns-then-not-branch-clause-same t c =
    c.undo.ensures ∙ ap (λ l. take c.mark-before.result l) c.in_ok-advance.ensures.same
    ∙ undone c.args.bound.now c.loop-goal.bound c.mark-before.result c.loop-goal.invariant.extends c.mark-before.ensures

pub asking::advance_beside-loop-goal-init : goal.asking::advance_beside-loop-goal-init
asking::advance_beside-loop-goal-init t c = record {
  at_is = omega arith;
  extends = extends_same c.args.bound.now;
  during = λ total span known m. (
    record { front = []; back = c.args.facts.now; at_is = refl; facts_are = refl; known = known },
    begin_beside total (modes_of c.args.predicates.now) (nodes_of c.args.goals.now) span c.args.marks.now (among c.args.bound.now) m,
  );
}

pub asking::advance_beside-returns-then-not-branch-clause-asked : goal.asking::advance_beside-returns-then-not-branch-clause-asked
asking::advance_beside-returns-then-not-branch-clause-asked t c = λ span own total known own_known m.
    let room : c.loop-goal.goal-index < length c.args.goals.now = omega arith in
    let end_is : c.loop-goal.at + c.part_count.result ≡ c.loop-goal.at + length (parts_of c.goal-item.result) = ap (λ n. c.loop-goal.at + n) c.part_count.ensures in
    let size_is : c.loop-goal.at + c.part_count.result - c.loop-goal.at ≡ length (parts_of c.goal-item.result) = let same = c.part_count.ensures in omega arith in
    let (k, d) = c.loop-goal.invariant.during total span known m in
    let asked =
    subst (λ r. Asked c.args.predicates.now c.goal-item.result (slice_range c.args.facts.now c.loop-goal.at (c.loop-goal.at + c.part_count.result))
    (slice_range c.loop-goal.marks c.loop-goal.at (c.loop-goal.at + c.part_count.result)) c.advance.new.marks (among c.loop-goal.bound) r) c.if-not-branch.true
    c.in_ok-advance.ensures.asked in
    beside_stops c.args.predicates.now c.args.goals.now c.loop-goal.goal-index c.goal-item.result c.args.facts.now c.loop-goal.marks c.advance.new.marks c.loop-goal.at
    (c.loop-goal.at + c.part_count.result) (c.loop-goal.at + c.part_count.result - c.loop-goal.at) (among c.args.bound.now) (among c.loop-goal.bound)
    room c.goal-item.is end_is size_is asked total span k d

pub asking::advance_beside-overflow_sub-end : goal.asking::advance_beside-overflow_sub-end
asking::advance_beside-overflow_sub-end t c = let h = parts_length c.goal-item.result in let same = c.part_count.ensures in omega arith

pub asking::advance_beside-bounds-facts-end : goal.asking::advance_beside-bounds-facts-end
asking::advance_beside-bounds-facts-end t c =
    let room : c.loop-goal.goal-index < length c.args.goals.now = omega arith in
    let h = parts_length c.goal-item.result in
    let same = c.part_count.ensures in
    let parts = rest_length c.args.goals.now c.loop-goal.goal-index c.goal-item.result room c.goal-item.is in
    let at_is = c.loop-goal.invariant.at_is in
    omega arith

pub asking::advance_beside-loop-goal-preserved : goal.asking::advance_beside-loop-goal-preserved
asking::advance_beside-loop-goal-preserved t c =
    let room : c.loop-goal.goal-index < length c.args.goals.now = omega arith in
    let end_is : c.loop-goal.at + c.part_count.result ≡ c.loop-goal.at + length (parts_of c.goal-item.result) = ap (λ n. c.loop-goal.at + n) c.part_count.ensures in
    let size_is : c.loop-goal.at + c.part_count.result - c.loop-goal.at ≡ length (parts_of c.goal-item.result) = let same = c.part_count.ensures in omega arith in
    let h = parts_length c.goal-item.result in
    let own_is : suc (c.loop-goal.at + c.part_count.result - 1) ≡ c.loop-goal.at + length (parts_of c.goal-item.result) = let same = c.part_count.ensures in omega arith in
    let asked =
    subst (λ r. Asked c.args.predicates.now c.goal-item.result (slice_range c.args.facts.now c.loop-goal.at (c.loop-goal.at + c.part_count.result))
    (slice_range c.loop-goal.marks c.loop-goal.at (c.loop-goal.at + c.part_count.result)) c.advance.new.marks (among c.loop-goal.bound) r) c.if-not-branch.false
    c.in_ok-advance.ensures.asked in
    let set : c.bind_all.new.self ≡ all_behind c.loop-goal.bound c.index-facts-end.result.binds =
    c.in_ok-bind_all.ensures ∙ ap (λ b. all_behind b c.as_slice.result.now) c.in_ok-advance.ensures.same ∙ ap (λ l. all_behind c.loop-goal.bound l) c.as_slice.ensures
    ∙ ap (λ (f : Facts). all_behind c.loop-goal.bound f.binds) (sym c.index-facts-end.is) in
    record {
      at_is = let parts = rest_length c.args.goals.now c.loop-goal.goal-index c.goal-item.result room c.goal-item.is in let at_is = c.loop-goal.invariant.at_is in let same =
          c.part_count.ensures in omega arith;
      extends = extends_on c.args.bound.now c.loop-goal.bound c.bind_all.new.self c.loop-goal.invariant.extends
          (subst (λ l. Extends c.loop-goal.bound l) (sym set) (extends_all c.loop-goal.bound c.index-facts-end.result.binds));
      during = λ total span known m.
          let (k, d) = c.loop-goal.invariant.during total span known m in
          let (on, going) = beside_goes c.args.predicates.now c.args.goals.now c.loop-goal.goal-index c.goal-item.result c.args.facts.now c.loop-goal.marks c.advance.new.marks
          c.loop-goal.at (c.loop-goal.at + c.part_count.result) (c.loop-goal.at + c.part_count.result - c.loop-goal.at)
          (among c.args.bound.now) c.loop-goal.bound c.index-facts-end.result
          room c.goal-item.is end_is size_is own_is c.index-facts-end.is asked total k d in (
            on,
            subst (λ b. DuringBeside total (modes_of c.args.predicates.now) (nodes_of c.args.goals.now) (among c.args.bound.now) (nodes_of (drop (c.loop-goal.goal-index + 1) c.args.goals.now))
                (put_mid c.loop-goal.at (c.loop-goal.at + c.part_count.result - c.loop-goal.at) c.loop-goal.marks c.advance.new.marks) (c.loop-goal.at + c.part_count.result) (among b))
                (sym set) going,
          );
    }

pub asking::advance_beside-returns-clause-asked : goal.asking::advance_beside-returns-clause-asked
asking::advance_beside-returns-clause-asked t c = λ span own total known own_known m.
    let (k, d) = c.loop-goal.invariant.during total span known m in
    let none_left = no_rest c.args.goals.now c.loop-goal.goal-index (omega arith) in
    end_beside total (modes_of c.args.predicates.now) (nodes_of c.args.goals.now) span (among c.args.bound.now) c.loop-goal.marks c.loop-goal.at (among c.loop-goal.bound)
    (subst (λ n. DuringBeside total (modes_of c.args.predicates.now) (nodes_of c.args.goals.now) (among c.args.bound.now) n c.loop-goal.marks c.loop-goal.at (among c.loop-goal.bound)) none_left d)

pub asking::advance_parts-advance_all-requires : goal.asking::advance_parts-advance_all-requires
asking::advance_parts-advance_all-requires t c =
    let same : Conjunction (nodes_of c.deref.result.now) (span_of c.args.goal.now) ≡ c.args.goal.now =
    ap (λ l. Conjunction (nodes_of l) (span_of c.args.goal.now)) (c.deref.ensures.value ∙ c.in_ok-goals-in-Conjunction.ensures) ∙ c.in-Conjunction.ensures in
    let parts : length (all_parts (joined_by c.args.goal.now)) ≡ length (all_parts (nodes_of c.deref.result.now)) = ap (λ g. length (all_parts (joined_by g))) (sym same) in
    (omega (arith, parts), (c.requires.known ∙ parts, c.requires.marked ∙ parts))

pub asking::advance_parts-advance_beside-requires : goal.asking::advance_parts-advance_beside-requires
asking::advance_parts-advance_beside-requires t c =
    let same : Parallel (nodes_of c.deref-in-Parallel.result.now) (span_of c.args.goal.now) ≡ c.args.goal.now =
    ap (λ l. Parallel (nodes_of l) (span_of c.args.goal.now)) (c.deref-in-Parallel.ensures.value ∙ c.in_ok-goals-in-Parallel.ensures) ∙ c.in-Parallel.ensures in
    let parts : length (all_parts (joined_by c.args.goal.now)) ≡ length (all_parts (nodes_of c.deref-in-Parallel.result.now)) = ap (λ g. length (all_parts (joined_by g))) (sym same) in
    (omega (arith, parts), (c.requires.known ∙ parts, c.requires.marked ∙ parts))

pub asking::advance_parts-advance_arms-requires : goal.asking::advance_parts-advance_arms-requires
asking::advance_parts-advance_arms-requires t c =
    let same : Disjunction (nodes_of c.deref-in-Disjunction.result.now) (span_of c.args.goal.now) ≡ c.args.goal.now =
    ap (λ l. Disjunction (nodes_of l) (span_of c.args.goal.now)) (c.deref-in-Disjunction.ensures.value ∙ c.in_ok-arms-in-Disjunction.ensures) ∙ c.in-Disjunction.ensures in
    let parts : length (all_parts (joined_by c.args.goal.now)) ≡ length (all_parts (nodes_of c.deref-in-Disjunction.result.now)) = ap (λ g. length (all_parts (joined_by g))) (sym same) in
    (omega (arith, parts), (c.requires.known ∙ parts, c.requires.marked ∙ parts))

pub asking::advance_parts-returns-in_ok-arms-in-Disjunction-clause-asked : goal.asking::advance_parts-returns-in_ok-arms-in-Disjunction-clause-asked
asking::advance_parts-returns-in_ok-arms-in-Disjunction-clause-asked t c =
    let same : Disjunction (nodes_of c.deref-in-Disjunction.result.now) (span_of c.args.goal.now) ≡ c.args.goal.now =
    ap (λ l. Disjunction (nodes_of l) (span_of c.args.goal.now)) (c.deref-in-Disjunction.ensures.value ∙ c.in_ok-arms-in-Disjunction.ensures) ∙ c.in-Disjunction.ensures in
    IfOk-weaker c.advance_arms.result _ _
    (λ ready told. subst (λ (g : Node). AskedParts c.args.predicates.now g c.args.facts.now c.args.own.now c.args.marks.now c.advance_arms.new.marks (among c.args.bound.now) ready) same
    (told (span_of c.args.goal.now))) c.advance_arms.ensures.asked

pub asking::advance_parts-returns-in-Conditional-clause-asked : goal.asking::advance_parts-returns-in-Conditional-clause-asked
asking::advance_parts-returns-in-Conditional-clause-asked t c =
    IfOk-weaker c.advance_decision.result _ _
    (λ ready told. subst (λ (g : Node). AskedParts c.args.predicates.now g c.args.facts.now c.args.own.now c.args.marks.now c.advance_decision.new.marks (among c.args.bound.now) ready) c.in-Conditional.ensures
    (told (span_of c.args.goal.now))) c.advance_decision.ensures.asked

pub asking::advance_parts-returns-in_ok-goals-in-Conjunction-clause-asked : goal.asking::advance_parts-returns-in_ok-goals-in-Conjunction-clause-asked
asking::advance_parts-returns-in_ok-goals-in-Conjunction-clause-asked t c =
    let same : Conjunction (nodes_of c.deref.result.now) (span_of c.args.goal.now) ≡ c.args.goal.now =
    ap (λ l. Conjunction (nodes_of l) (span_of c.args.goal.now)) (c.deref.ensures.value ∙ c.in_ok-goals-in-Conjunction.ensures) ∙ c.in-Conjunction.ensures in
    IfOk-weaker c.advance_all.result _ _
    (λ ready told. subst (λ (g : Node). AskedParts c.args.predicates.now g c.args.facts.now c.args.own.now c.args.marks.now c.advance_all.new.marks (among c.args.bound.now) ready) same
    (told (span_of c.args.goal.now) c.args.own.now)) c.advance_all.ensures.asked

pub asking::advance_parts-returns-in_ok-goals-in-Parallel-clause-asked : goal.asking::advance_parts-returns-in_ok-goals-in-Parallel-clause-asked
asking::advance_parts-returns-in_ok-goals-in-Parallel-clause-asked t c =
    let same : Parallel (nodes_of c.deref-in-Parallel.result.now) (span_of c.args.goal.now) ≡ c.args.goal.now =
    ap (λ l. Parallel (nodes_of l) (span_of c.args.goal.now)) (c.deref-in-Parallel.ensures.value ∙ c.in_ok-goals-in-Parallel.ensures) ∙ c.in-Parallel.ensures in
    IfOk-weaker c.advance_beside.result _ _
    (λ ready told. subst (λ (g : Node). AskedParts c.args.predicates.now g c.args.facts.now c.args.own.now c.args.marks.now c.advance_beside.new.marks (among c.args.bound.now) ready) same
    (told (span_of c.args.goal.now) c.args.own.now)) c.advance_beside.ensures.asked

pub asking::advance_parts-returns-then-branch-clause-asked : goal.asking::advance_parts-returns-then-branch-clause-asked
asking::advance_parts-returns-then-branch-clause-asked t c =
    let owed : are_bound (among c.args.bound.now) c.args.own.now.owed ≡ c.are_bound.result =
    sym (c.are_bound.ensures ∙ ap (λ l. are_bound (among c.advance.new.bound) l) c.as_slice.ensures ∙ ap (λ b. are_bound (among b) c.args.own.now.owed) c.in_ok-advance-in-Negation.ensures.same) in
    subst (λ (g : Node). AskedParts c.args.predicates.now g c.args.facts.now c.args.own.now c.args.marks.now c.advance.new.marks (among c.args.bound.now) c.are_bound.result) c.in-Negation.ensures
    (negation_asked c.args.predicates.now c.in-Negation.inner (span_of c.args.goal.now) c.args.facts.now c.args.own.now c.args.marks.now c.advance.new.marks
    (among c.args.bound.now) c.are_bound.result owed
    (subst (λ r. Asked c.args.predicates.now c.in-Negation.inner c.args.facts.now c.args.marks.now c.advance.new.marks (among c.args.bound.now) r) c.if-branch.true
    c.in_ok-advance-in-Negation.ensures.asked))

pub asking::advance_parts-returns-else-branch-clause-asked : goal.asking::advance_parts-returns-else-branch-clause-asked
asking::advance_parts-returns-else-branch-clause-asked t c =
    subst (λ (g : Node). AskedParts c.args.predicates.now g c.args.facts.now c.args.own.now c.args.marks.now c.advance.new.marks
    (among c.args.bound.now) c.in_ok-advance-in-Negation.field-0) c.in-Negation.ensures
    (negation_stops c.args.predicates.now c.in-Negation.inner (span_of c.args.goal.now) c.args.facts.now c.args.own.now c.args.marks.now c.advance.new.marks
    (among c.args.bound.now) c.in_ok-advance-in-Negation.field-0 c.if-branch.false c.in_ok-advance-in-Negation.ensures.asked)

pub asking::advance_parts-returns-in-Quantified-clause-asked : goal.asking::advance_parts-returns-in-Quantified-clause-asked
asking::advance_parts-returns-in-Quantified-clause-asked t c =
    IfOk-weaker c.advance-in-Quantified.result _ _
    (λ ready told. subst (λ (g : Node). AskedParts c.args.predicates.now g c.args.facts.now c.args.own.now c.args.marks.now c.advance-in-Quantified.new.marks
    (among c.args.bound.now) ready) c.in-Quantified.ensures
    (quantified_asked c.args.predicates.now c.in-Quantified.field-0.now c.in-Quantified.inner (span_of c.args.goal.now) c.args.facts.now c.args.own.now c.args.marks.now
    c.advance-in-Quantified.new.marks (among c.args.bound.now) ready told)) c.advance-in-Quantified.ensures.asked

pub chains::advance_arm-advance-requires : goal.chains::advance_arm-advance-requires
chains::advance_arm-advance-requires t c =
    let size = length (parts_of c.args.link.now.condition) in
    let more = length (parts_of c.args.link.now.then_part) in (
      omega arith,
      (
        front_length c.args.facts.now c.part_count-first.result size more c.requires.known c.part_count-first.ensures,
        front_length c.args.marks.now c.part_count-first.result size more c.requires.marked c.part_count-first.ensures,
      ),
    )

pub chains::advance_arm-advance-requires-2 : goal.chains::advance_arm-advance-requires-2
chains::advance_arm-advance-requires-2 t c =
    let size = length (parts_of c.args.link.now.condition) in
    let more = length (parts_of c.args.link.now.then_part) in
    let first = c.part_count-first.result in
    let whole = whole_length c.args.marks.now first size more c.advance.new.marks c.requires.marked c.part_count-first.ensures c.advance.auto.marks in (
      omega arith,
      (
        tail_length c.args.facts.now first size more c.requires.known c.part_count-first.ensures,
        tail_length (c.advance.new.marks ++ drop first c.args.marks.now) first size more whole c.part_count-first.ensures,
      ),
    )

pub chains::advance_arm-returns-then-not-branch-clause-asked : goal.chains::advance_arm-returns-then-not-branch-clause-asked
chains::advance_arm-returns-then-not-branch-clause-asked t c = λ total else_part span known own_known m.
    condition_stops c.args.predicates.now c.args.link.now.condition c.args.link.now.then_part c.args.facts.now c.args.marks.now c.advance.new.marks c.part_count-first.result
    (among c.args.bound.now) c.part_count-first.ensures
    (subst (λ r. Asked c.args.predicates.now c.args.link.now.condition (take c.part_count-first.result c.args.facts.now) (take c.part_count-first.result c.args.marks.now)
    c.advance.new.marks (among c.args.bound.now) r) c.if-not-branch.true c.in_ok-advance.ensures.asked) total known m

pub chains::advance_arm-returns-then-not-are_bound-clause-asked : goal.chains::advance_arm-returns-then-not-are_bound-clause-asked
chains::advance_arm-returns-then-not-are_bound-clause-asked t c =
    let owed : are_bound (among c.args.bound.now) c.args.own.now.owed_by_condition ≡ false =
    sym (c.are_bound.ensures ∙ ap (λ l. are_bound (among c.advance.new.bound) l) c.as_slice.ensures ∙ ap (λ b. are_bound (among b) c.args.own.now.owed_by_condition) c.in_ok-advance.ensures.same)
    ∙ c.if-not-are_bound.true in
    owed_stops c.args.predicates.now c.args.link.now.condition c.args.link.now.then_part c.args.facts.now c.args.own.now c.args.marks.now c.advance.new.marks c.part_count-first.result
    (among c.args.bound.now) c.part_count-first.ensures
    (subst (λ r. Asked c.args.predicates.now c.args.link.now.condition (take c.part_count-first.result c.args.facts.now) (take c.part_count-first.result c.args.marks.now)
    c.advance.new.marks (among c.args.bound.now) r) c.if-not-branch.false c.in_ok-advance.ensures.asked) owed

pub chains::advance_arm-overflow_sub-first : goal.chains::advance_arm-overflow_sub-first
chains::advance_arm-overflow_sub-first t c = let h = parts_length c.args.link.now.condition in omega arith

pub chains::advance_arm-bounds-facts-first : goal.chains::advance_arm-bounds-facts-first
chains::advance_arm-bounds-facts-first t c = let h = parts_length c.args.link.now.condition in omega arith

pub chains::advance_arm-returns-clause-same : goal.chains::advance_arm-returns-clause-same
chains::advance_arm-returns-clause-same t c =
    c.undo.ensures ∙ ap (λ l. take c.mark-before.result l) (c.in_ok-ready.ensures.same ∙ c.in_ok-bind_all.ensures)
    ∙ undone c.advance.new.bound (all_behind c.advance.new.bound c.as_slice-2.result.now) c.mark-before.result (extends_all c.advance.new.bound c.as_slice-2.result.now) c.mark-before.ensures
    ∙ c.in_ok-advance.ensures.same

pub chains::advance_arm-returns-clause-asked : goal.chains::advance_arm-returns-clause-asked
chains::advance_arm-returns-clause-asked t c =
    let h = parts_length c.args.link.now.condition in
    let own_is : c.part_count-first.result - 1 + 1 ≡ length (parts_of c.args.link.now.condition) = let same = c.part_count-first.ensures in omega arith in
    let owed : are_bound (among c.args.bound.now) c.args.own.now.owed_by_condition ≡ true =
    sym (c.are_bound.ensures ∙ ap (λ l. are_bound (among c.advance.new.bound) l) c.as_slice.ensures ∙ ap (λ b. are_bound (among b) c.args.own.now.owed_by_condition) c.in_ok-advance.ensures.same)
    ∙ c.if-not-are_bound.false in
    let set : c.bind_all.new.self ≡ all_behind c.args.bound.now c.index-facts-first.result.binds =
    c.in_ok-bind_all.ensures ∙ ap (λ b. all_behind b c.as_slice-2.result.now) c.in_ok-advance.ensures.same ∙ ap (λ l. all_behind c.args.bound.now l) c.as_slice-2.ensures
    ∙ ap (λ (f : Facts). all_behind c.args.bound.now f.binds) (sym c.index-facts-first.is) in
    then_asked c.args.predicates.now c.args.link.now.condition c.args.link.now.then_part c.args.facts.now c.args.own.now c.index-facts-first.result c.args.marks.now c.advance.new.marks
    c.advance-2.new.marks c.part_count-first.result c.args.bound.now c.in_ok-ready.ready
    c.part_count-first.ensures own_is c.index-facts-first.is
    (subst (λ r. Asked c.args.predicates.now c.args.link.now.condition (take c.part_count-first.result c.args.facts.now) (take c.part_count-first.result c.args.marks.now)
    c.advance.new.marks (among c.args.bound.now) r) c.if-not-branch.false c.in_ok-advance.ensures.asked) owed
    (subst (λ b. Asked c.args.predicates.now c.args.link.now.then_part (slice_range c.args.facts.now c.part_count-first.result (length c.args.facts.now)) (slice_range
    (c.advance.new.marks ++ drop c.part_count-first.result c.args.marks.now) c.part_count-first.result (length (c.advance.new.marks ++ drop c.part_count-first.result c.args.marks.now)))
    c.advance-2.new.marks (among b) c.in_ok-ready.ready) set c.in_ok-ready.ensures.asked)

pub chains::advance_chain-returns-in-Some-clause-asked : goal.chains::advance_chain-returns-in-Some-clause-asked
chains::advance_chain-returns-in-Some-clause-asked t c = λ total known m.
    let reached = subst (λ e. AskedLinks c.args.predicates.now c.args.goal.now c.args.facts.now c.args.marks.now c.advance_links.new.marks
    (among c.args.bound.now) e) c.in-Some.is c.in_ok-end.ensures.asked total known m in
    subst (λ b. Told total (modes_of c.args.predicates.now) c.args.goal.now c.close_links.new.marks (among b) c.close_links.result) c.in_ok-end.ensures.same
    (c.close_links.ensures total (modes_of c.args.predicates.now) c.args.goal.now
    (subst (λ b. IsReached total (modes_of c.args.predicates.now) c.args.goal.now c.advance_links.new.marks c.args.facts.now c.in-Some.end (among b)) (sym c.in_ok-end.ensures.same) reached))

pub chains::advance_chain-returns-in-None-clause-asked : goal.chains::advance_chain-returns-in-None-clause-asked
chains::advance_chain-returns-in-None-clause-asked t c = λ total known m.
    subst (λ e. AskedLinks c.args.predicates.now c.args.goal.now c.args.facts.now c.args.marks.now c.advance_links.new.marks
    (among c.args.bound.now) e) c.in-None.is c.in_ok-end.ensures.asked total known m

pub chains::advance_decision-advance_arm-requires : goal.chains::advance_decision-advance_arm-requires
chains::advance_decision-advance_arm-requires t c =
    let size = length (parts_of c.args.link.now.condition) + length (parts_of c.args.link.now.then_part) in
    let more = length (parts_of c.args.link.now.else_part) in
    let first = c.part_count.result + c.part_count-2.result in
    let first_is : first ≡ size = omega (arith, c.part_count.ensures, c.part_count-2.ensures) in
    (omega arith, (front_length c.args.facts.now first size more c.requires.known first_is, front_length c.args.marks.now first size more c.requires.marked first_is))

pub chains::advance_decision-advance_chain-requires : goal.chains::advance_decision-advance_chain-requires
chains::advance_decision-advance_chain-requires t c =
    let size = length (parts_of c.args.link.now.condition) + length (parts_of c.args.link.now.then_part) in
    let more = length (parts_of c.args.link.now.else_part) in
    let first = c.part_count.result + c.part_count-2.result in
    let first_is : first ≡ size = omega (arith, c.part_count.ensures, c.part_count-2.ensures) in
    let whole = whole_length c.args.marks.now first size more c.advance_arm.new.marks c.requires.marked first_is c.advance_arm.auto.marks in
    (omega arith, (tail_length c.args.facts.now first size more c.requires.known first_is, tail_length (c.advance_arm.new.marks ++ drop first c.args.marks.now) first size more whole first_is))

pub chains::advance_decision-returns-then-not-are_bound-clause-asked : goal.chains::advance_decision-returns-then-not-are_bound-clause-asked
chains::advance_decision-returns-then-not-are_bound-clause-asked t c = λ span.
    let owed : are_bound (among c.args.bound.now) c.args.own.now.owed ≡ false =
    sym (c.are_bound.ensures ∙ ap (λ l. are_bound (among c.args.bound.now) l) c.as_slice.ensures) ∙ c.if-not-are_bound.true in
    decision_owes c.args.predicates.now c.args.link.now.condition c.args.link.now.then_part c.args.link.now.else_part span c.args.facts.now c.args.own.now c.args.marks.now
    (among c.args.bound.now) owed

pub chains::advance_decision-returns-then-not-branch-clause-asked : goal.chains::advance_decision-returns-then-not-branch-clause-asked
chains::advance_decision-returns-then-not-branch-clause-asked t c = λ span.
    let first_is : (c.part_count.result + c.part_count-2.result) ≡ length (parts_of c.args.link.now.condition) + length (parts_of c.args.link.now.then_part) = let one = c.part_count.ensures
    in let two = c.part_count-2.ensures in omega arith in
    arm_stops_decision c.args.predicates.now c.args.link.now.condition c.args.link.now.then_part c.args.link.now.else_part span c.args.facts.now c.args.own.now c.args.marks.now
    c.advance_arm.new.marks (c.part_count.result + c.part_count-2.result) (among c.args.bound.now) first_is
    (subst (λ r. AskedArm c.args.predicates.now c.args.link.now.condition c.args.link.now.then_part (take (c.part_count.result + c.part_count-2.result) c.args.facts.now) c.args.own.now
    (take (c.part_count.result + c.part_count-2.result) c.args.marks.now) c.advance_arm.new.marks (among c.args.bound.now) r) c.if-not-branch.true c.in_ok-advance_arm.ensures.asked)

pub chains::advance_decision-returns-clause-asked : goal.chains::advance_decision-returns-clause-asked
chains::advance_decision-returns-clause-asked t c =
    let first_is : (c.part_count.result + c.part_count-2.result) ≡ length (parts_of c.args.link.now.condition) + length (parts_of c.args.link.now.then_part) = let one = c.part_count.ensures
    in let two = c.part_count-2.ensures in omega arith in
    let owed : are_bound (among c.args.bound.now) c.args.own.now.owed ≡ true =
    sym (c.are_bound.ensures ∙ ap (λ l. are_bound (among c.args.bound.now) l) c.as_slice.ensures) ∙ c.if-not-are_bound.false in
    IfOk-weaker c.advance_chain.result _ _
    (λ ready told. λ span. decision_asked c.args.predicates.now c.args.link.now.condition c.args.link.now.then_part c.args.link.now.else_part span c.args.facts.now c.args.own.now
    c.args.marks.now c.advance_arm.new.marks c.advance_chain.new.marks (c.part_count.result + c.part_count-2.result) (among c.args.bound.now) ready first_is
    (subst (λ r. AskedArm c.args.predicates.now c.args.link.now.condition c.args.link.now.then_part (take (c.part_count.result + c.part_count-2.result) c.args.facts.now) c.args.own.now
    (take (c.part_count.result + c.part_count-2.result) c.args.marks.now) c.advance_arm.new.marks (among c.args.bound.now) r) c.if-not-branch.false c.in_ok-advance_arm.ensures.asked)
    (subst (λ b. Asked c.args.predicates.now c.args.link.now.else_part (slice_range c.args.facts.now (c.part_count.result + c.part_count-2.result) (length c.args.facts.now)) (slice_range
    (c.advance_arm.new.marks ++ drop (c.part_count.result + c.part_count-2.result) c.args.marks.now) (c.part_count.result + c.part_count-2.result) (length
    (c.advance_arm.new.marks ++ drop (c.part_count.result + c.part_count-2.result) c.args.marks.now))) c.advance_chain.new.marks (among b) ready)
    c.in_ok-advance_arm.ensures.same told) owed) c.advance_chain.ensures.asked

pub chains::advance_links-advance_arm-requires : goal.chains::advance_links-advance_arm-requires
chains::advance_links-advance_arm-requires t c =
    let last_is = c.in-Some.ensures.1 in
    let parts : length (parts_of c.loop-link.last) ≡ suc (length (parts_of c.in-Some.link.condition) + length (parts_of c.in-Some.link.then_part) + length (parts_of c.in-Some.link.else_part)) =
    ap (λ n. length (parts_of n)) last_is ∙ conditional_length c.in-Some.link.condition c.in-Some.link.then_part c.in-Some.link.else_part (span_of c.loop-link.last) in
    let size = length (parts_of c.in-Some.link.condition) + length (parts_of c.in-Some.link.then_part) in
    let next = c.loop-link.at + c.part_count.result + c.part_count-in-Some.result in
    let next_is : next ≡ c.loop-link.at + size = omega (arith, c.part_count.ensures, c.part_count-in-Some.ensures) in
    let within : next ≤ length c.args.facts.now = omega (arith, parts, next_is, c.loop-link.invariant.end_is, c.loop-link.invariant.room) in (
      omega (arith, parts, c.loop-link.invariant.end_is, c.loop-link.invariant.room, c.requires.known),
      (
        part_length c.args.facts.now c.loop-link.at next size within next_is,
        part_length c.loop-link.marks c.loop-link.at next size (omega (arith, within, c.requires.known, c.requires.marked, c.loop-link.auto.marks)) next_is,
      ),
    )

pub chains::advance_links-bounds-facts-end : goal.chains::advance_links-bounds-facts-end
chains::advance_links-bounds-facts-end t c =
    let last_is = c.in-Some.ensures.1 in
    let parts : length (parts_of c.loop-link.last) ≡ suc (length (parts_of c.in-Some.link.condition) + length (parts_of c.in-Some.link.then_part) + length (parts_of c.in-Some.link.else_part)) =
    ap (λ n. length (parts_of n)) last_is ∙ conditional_length c.in-Some.link.condition c.in-Some.link.then_part c.in-Some.link.else_part (span_of c.loop-link.last) in
    omega (arith, parts, c.loop-link.invariant.end_is, c.loop-link.invariant.room)

pub chains::advance_links-advance-requires : goal.chains::advance_links-advance-requires
chains::advance_links-advance-requires t c =
    let i = c.loop-link.invariant in
    let size = length (parts_of c.loop-link.last) in (
      omega (arith, i.end_is, i.room, c.requires.known),
      (
        part_length c.args.facts.now c.loop-link.at c.loop-link.end size i.room i.end_is,
        part_length c.loop-link.marks c.loop-link.at c.loop-link.end size (omega (arith, i.room, c.requires.known, c.requires.marked, c.loop-link.auto.marks)) i.end_is,
      ),
    )

pub chains::advance_links-loop-link-init : goal.chains::advance_links-loop-link-init
chains::advance_links-loop-link-init t c = record {
  end_is = let same = ap (λ n. length (parts_of n)) c.copy-last.ensures in let known = c.requires.known in omega arith;
  room = omega arith;
  same = refl;
  chain = λ total known m. subst (λ n. IsOpen total (modes_of c.args.predicates.now) c.args.goal.now n c.args.marks.now c.args.facts.now 0 (among c.args.bound.now))
      (sym c.copy-last.ensures) (begin_chain total (modes_of c.args.predicates.now) c.args.goal.now c.args.marks.now c.args.facts.now (among c.args.bound.now) known m);
}

pub chains::advance_links-overflow_sub-end : goal.chains::advance_links-overflow_sub-end
chains::advance_links-overflow_sub-end t c = let h = parts_length c.loop-link.last in omega arith

pub chains::advance_links-bounds-marks-end : goal.chains::advance_links-bounds-marks-end
chains::advance_links-bounds-marks-end t c = let h = parts_length c.loop-link.last in omega arith

pub chains::advance_links-returns-then-not-branch-clause-asked : goal.chains::advance_links-returns-then-not-branch-clause-asked
chains::advance_links-returns-then-not-branch-clause-asked t c = λ total known m.
    let last_is = c.in-Some.ensures.1 in
    let parts : length (parts_of c.loop-link.last) ≡ suc (length (parts_of c.in-Some.link.condition) + length (parts_of c.in-Some.link.then_part) + length (parts_of c.in-Some.link.else_part)) =
    ap (λ n. length (parts_of n)) last_is ∙ conditional_length c.in-Some.link.condition c.in-Some.link.then_part c.in-Some.link.else_part (span_of c.loop-link.last) in
    let one = c.part_count.ensures in
    let two = c.part_count-in-Some.ensures in
    let end_is = c.loop-link.invariant.end_is in
    let next_is : (c.loop-link.at + c.part_count.result + c.part_count-in-Some.result) ≡ c.loop-link.at + length (parts_of c.in-Some.link.condition) + length
    (parts_of c.in-Some.link.then_part) = omega arith in
    let size_is : (c.loop-link.at + c.part_count.result + c.part_count-in-Some.result) ≡ c.loop-link.at + ((c.loop-link.at + c.part_count.result + c.part_count-in-Some.result) -
    c.loop-link.at) = omega arith in
    let own_is : c.loop-link.end - 1 ≡ (c.loop-link.at + c.part_count.result + c.part_count-in-Some.result) + length (parts_of c.in-Some.link.else_part) = omega arith in
    let asked =
    subst (λ r. AskedArm c.args.predicates.now c.in-Some.link.condition c.in-Some.link.then_part (slice_range c.args.facts.now c.loop-link.at
    (c.loop-link.at + c.part_count.result + c.part_count-in-Some.result)) c.index-facts-end.result (slice_range c.loop-link.marks c.loop-link.at
    (c.loop-link.at + c.part_count.result + c.part_count-in-Some.result)) c.advance_arm.new.marks (among c.args.bound.now) r) c.if-not-branch.true
    (subst (λ b. AskedArm c.args.predicates.now c.in-Some.link.condition c.in-Some.link.then_part (slice_range c.args.facts.now c.loop-link.at
    (c.loop-link.at + c.part_count.result + c.part_count-in-Some.result)) c.index-facts-end.result (slice_range c.loop-link.marks c.loop-link.at
    (c.loop-link.at + c.part_count.result + c.part_count-in-Some.result)) c.advance_arm.new.marks (among b)
    c.in_ok-advance_arm.field-0) c.loop-link.invariant.same c.in_ok-advance_arm.ensures.asked) in
    link_stops c.args.predicates.now c.args.goal.now c.loop-link.last c.in-Some.link.condition c.in-Some.link.then_part c.in-Some.link.else_part
    (span_of c.loop-link.last) c.args.facts.now c.loop-link.marks c.advance_arm.new.marks c.loop-link.at c.loop-link.end
    (c.loop-link.at + c.part_count.result + c.part_count-in-Some.result) ((c.loop-link.at + c.part_count.result + c.part_count-in-Some.result) - c.loop-link.at)
    (among c.args.bound.now) c.index-facts-end.result
    last_is end_is c.in-Some.ensures.0 next_is size_is own_is c.index-facts-end.is asked total (c.loop-link.invariant.chain total known m)

pub chains::advance_links-loop-link-preserved : goal.chains::advance_links-loop-link-preserved
chains::advance_links-loop-link-preserved t c =
    let last_is = c.in-Some.ensures.1 in
    let parts : length (parts_of c.loop-link.last) ≡ suc (length (parts_of c.in-Some.link.condition) + length (parts_of c.in-Some.link.then_part) + length (parts_of c.in-Some.link.else_part)) =
    ap (λ n. length (parts_of n)) last_is ∙ conditional_length c.in-Some.link.condition c.in-Some.link.then_part c.in-Some.link.else_part (span_of c.loop-link.last) in
    let one = c.part_count.ensures in
    let two = c.part_count-in-Some.ensures in
    let end_is = c.loop-link.invariant.end_is in
    let next_is : (c.loop-link.at + c.part_count.result + c.part_count-in-Some.result) ≡ c.loop-link.at + length (parts_of c.in-Some.link.condition) + length
    (parts_of c.in-Some.link.then_part) = omega arith in
    let size_is : (c.loop-link.at + c.part_count.result + c.part_count-in-Some.result) ≡ c.loop-link.at + ((c.loop-link.at + c.part_count.result + c.part_count-in-Some.result) -
    c.loop-link.at) = omega arith in
    let own_is : c.loop-link.end - 1 ≡ (c.loop-link.at + c.part_count.result + c.part_count-in-Some.result) + length (parts_of c.in-Some.link.else_part) = omega arith in
    let asked =
    subst (λ r. AskedArm c.args.predicates.now c.in-Some.link.condition c.in-Some.link.then_part (slice_range c.args.facts.now c.loop-link.at
    (c.loop-link.at + c.part_count.result + c.part_count-in-Some.result)) c.index-facts-end.result (slice_range c.loop-link.marks c.loop-link.at
    (c.loop-link.at + c.part_count.result + c.part_count-in-Some.result)) c.advance_arm.new.marks (among c.args.bound.now) r) c.if-not-branch.false
    (subst (λ b. AskedArm c.args.predicates.now c.in-Some.link.condition c.in-Some.link.then_part (slice_range c.args.facts.now c.loop-link.at
    (c.loop-link.at + c.part_count.result + c.part_count-in-Some.result)) c.index-facts-end.result (slice_range c.loop-link.marks c.loop-link.at
    (c.loop-link.at + c.part_count.result + c.part_count-in-Some.result)) c.advance_arm.new.marks (among b)
    c.in_ok-advance_arm.field-0) c.loop-link.invariant.same c.in_ok-advance_arm.ensures.asked) in
    record {
      end_is = own_is;
      room = let room = c.loop-link.invariant.room in omega arith;
      same = c.in_ok-advance_arm.ensures.same ∙ c.loop-link.invariant.same;
      chain = λ total known m.
          link_goes c.args.predicates.now c.args.goal.now c.loop-link.last c.in-Some.link.condition c.in-Some.link.then_part c.in-Some.link.else_part
          (span_of c.loop-link.last) c.args.facts.now c.loop-link.marks c.advance_arm.new.marks c.loop-link.at c.loop-link.end
          (c.loop-link.at + c.part_count.result + c.part_count-in-Some.result) ((c.loop-link.at + c.part_count.result + c.part_count-in-Some.result) - c.loop-link.at)
          (among c.args.bound.now) c.index-facts-end.result
          last_is end_is c.in-Some.ensures.0 next_is size_is own_is c.index-facts-end.is asked total (c.loop-link.invariant.chain total known m);
    }

pub chains::advance_links-returns-then-branch-clause-asked : goal.chains::advance_links-returns-then-branch-clause-asked
chains::advance_links-returns-then-branch-clause-asked t c = λ total known m.
    let end_is = c.loop-link.invariant.end_is in
    let size_is : c.loop-link.end - c.loop-link.at ≡ length (parts_of c.loop-link.last) = omega arith in
    last_goes c.args.predicates.now c.args.goal.now c.loop-link.last c.args.facts.now c.loop-link.marks c.advance.new.marks c.loop-link.at c.loop-link.end
    (c.loop-link.end - c.loop-link.at) (among c.args.bound.now) end_is size_is
    (subst (λ r. Asked c.args.predicates.now c.loop-link.last (slice_range c.args.facts.now c.loop-link.at c.loop-link.end)
    (slice_range c.loop-link.marks c.loop-link.at c.loop-link.end) c.advance.new.marks (among c.args.bound.now) r) c.if-branch.true
    (subst (λ b. Asked c.args.predicates.now c.loop-link.last (slice_range c.args.facts.now c.loop-link.at c.loop-link.end)
    (slice_range c.loop-link.marks c.loop-link.at c.loop-link.end) c.advance.new.marks (among b) c.in_ok-advance.field-0)
    c.loop-link.invariant.same c.in_ok-advance.ensures.asked)) total (c.loop-link.invariant.chain total known m)

pub chains::advance_links-returns-else-branch-clause-asked : goal.chains::advance_links-returns-else-branch-clause-asked
chains::advance_links-returns-else-branch-clause-asked t c = λ total known m.
    let end_is = c.loop-link.invariant.end_is in
    let size_is : c.loop-link.end - c.loop-link.at ≡ length (parts_of c.loop-link.last) = omega arith in
    last_stops c.args.predicates.now c.args.goal.now c.loop-link.last c.args.facts.now c.loop-link.marks c.advance.new.marks c.loop-link.at c.loop-link.end
    (c.loop-link.end - c.loop-link.at) (among c.args.bound.now) end_is size_is
    (subst (λ r. Asked c.args.predicates.now c.loop-link.last (slice_range c.args.facts.now c.loop-link.at c.loop-link.end)
    (slice_range c.loop-link.marks c.loop-link.at c.loop-link.end) c.advance.new.marks (among c.args.bound.now) r) c.if-branch.false
    (subst (λ b. Asked c.args.predicates.now c.loop-link.last (slice_range c.args.facts.now c.loop-link.at c.loop-link.end)
    (slice_range c.loop-link.marks c.loop-link.at c.loop-link.end) c.advance.new.marks (among b) c.in_ok-advance.field-0)
    c.loop-link.invariant.same c.in_ok-advance.ensures.asked)) total (c.loop-link.invariant.chain total known m)

pub sweeping::advance_all-returns-clause-same : goal.sweeping::advance_all-returns-clause-same
sweeping::advance_all-returns-clause-same t c =
    c.undo.ensures ∙ undone c.args.bound.now c.sweep_all.new.bound c.mark-before.result
    (extends_on c.args.bound.now c.bind_gone.new.bound c.sweep_all.new.bound c.in_ok-left.ensures.extends c.in_ok-ready.ensures.extends) c.mark-before.ensures

pub sweeping::advance_all-sweep_all-requires : goal.sweeping::advance_all-sweep_all-requires
sweeping::advance_all-sweep_all-requires t c = (omega arith, (c.requires.known, (c.requires.marked, c.in_ok-left.ensures.placed)))

pub sweeping::advance_all-returns-clause-asked : goal.sweeping::advance_all-returns-clause-asked
sweeping::advance_all-returns-clause-asked t c = λ span own total known own_known m.
    c.in_ok-ready.ensures.asked total (among c.args.bound.now) span known (gone_at_first total (modes_of c.args.predicates.now) c.args.goals.now span c.args.facts.now c.args.marks.now
    c.args.bound.now c.bind_gone.new.bound c.in_ok-left.left.items known m c.in_ok-left.ensures.binds)

pub sweeping::ask_member-advance-requires : goal.sweeping::ask_member-advance-requires
sweeping::ask_member-advance-requires t c =
    let size = length (parts_of c.args.goal.now) in
    let end : c.args.at + c.part_count.result ≡ c.args.at + size = ap (λ n. c.args.at + n) c.part_count.ensures in (
      omega arith,
      (
        part_length c.args.facts.now c.args.at (c.args.at + c.part_count.result) size (omega (arith, end, c.requires.known)) end,
        part_length c.args.marks.now c.args.at (c.args.at + c.part_count.result) size (omega (arith, end, c.requires.marked)) end,
      ),
    )

pub sweeping::ask_member-overflow_sub-end : goal.sweeping::ask_member-overflow_sub-end
sweeping::ask_member-overflow_sub-end t c = let h = parts_length c.args.goal.now in omega (arith, c.part_count.ensures)

pub sweeping::ask_member-bounds-facts-end : goal.sweeping::ask_member-bounds-facts-end
sweeping::ask_member-bounds-facts-end t c = let h = parts_length c.args.goal.now in omega (arith, c.part_count.ensures)

pub sweeping::ask_member-returns-then-not-branch-clause-asks : goal.sweeping::ask_member-returns-then-not-branch-clause-asks
sweeping::ask_member-returns-then-not-branch-clause-asks t c =
    let same = c.part_count.ensures in
    let end = c.args.at + c.part_count.result in
    let end_is : end ≡ c.args.at + length (parts_of c.args.goal.now) = omega arith in
    let size_is : end - c.args.at ≡ length (parts_of c.args.goal.now) = omega arith in
    member_stays c.args.predicates.now c.args.goal.now c.args.facts.now c.args.marks.now c.advance.new.marks c.args.at end (end - c.args.at) c.args.bound.now c.advance.new.bound end_is size_is
    c.in_ok-advance.ensures.same
    (subst (λ r. Asked c.args.predicates.now c.args.goal.now (slice_range c.args.facts.now c.args.at end) (slice_range c.args.marks.now c.args.at end) c.advance.new.marks (among c.args.bound.now) r)
    c.if-not-branch.true c.in_ok-advance.ensures.asked)

pub sweeping::ask_member-returns-clause-extends : goal.sweeping::ask_member-returns-clause-extends
sweeping::ask_member-returns-clause-extends t c =
    subst (λ l. Extends c.args.bound.now l) (sym (c.in_ok-bind_all.ensures ∙ ap (λ b. all_behind b c.as_slice.result.now) c.in_ok-advance.ensures.same))
    (extends_all c.args.bound.now c.as_slice.result.now)

pub sweeping::ask_member-returns-clause-asks : goal.sweeping::ask_member-returns-clause-asks
sweeping::ask_member-returns-clause-asks t c =
    let h = parts_length c.args.goal.now in
    let same = c.part_count.ensures in
    let end = c.args.at + c.part_count.result in
    let end_is : end ≡ c.args.at + length (parts_of c.args.goal.now) = omega arith in
    let size_is : end - c.args.at ≡ length (parts_of c.args.goal.now) = omega arith in
    let own_is : suc (end - 1) ≡ c.args.at + length (parts_of c.args.goal.now) = omega arith in
    let set : c.bind_all.new.self ≡ all_behind c.args.bound.now c.index-facts-end.result.binds =
    c.in_ok-bind_all.ensures ∙ ap (λ b. all_behind b c.as_slice.result.now) c.in_ok-advance.ensures.same ∙ ap (λ l. all_behind c.args.bound.now l) c.as_slice.ensures
    ∙ ap (λ (f : Facts). all_behind c.args.bound.now f.binds) (sym c.index-facts-end.is) in
    member_goes c.args.predicates.now c.args.goal.now c.args.facts.now c.args.marks.now c.advance.new.marks c.args.at end (end - 1) (end - c.args.at) c.args.bound.now c.bind_all.new.self
    c.index-facts-end.result end_is size_is own_is c.index-facts-end.is set
    (subst (λ r. Asked c.args.predicates.now c.args.goal.now (slice_range c.args.facts.now c.args.at end) (slice_range c.args.marks.now c.args.at end) c.advance.new.marks (among c.args.bound.now) r)
    c.if-not-branch.false c.in_ok-advance.ensures.asked)

pub sweeping::sweep_all-sweep_once-requires : goal.sweeping::sweep_all-sweep_once-requires
sweeping::sweep_all-sweep_once-requires t c = (
  omega arith,
  (
    c.requires.known,
    (
      omega (arith, c.requires.marked, c.loop-alloc.auto.marks),
      subst (λ l. ArePlaced c.args.goals.now l) (sym c.deref.ensures.value) c.loop-alloc.invariant.placed,
    ),
  ),
)

pub sweeping::sweep_all-returns-then-len-clause-asked : goal.sweeping::sweep_all-returns-then-len-clause-asked
sweeping::sweep_all-returns-then-len-clause-asked t c = λ total start span known gone.
    let (now, stuck) = c.in_ok-kept.ensures.sweeps total start known (subst (λ l. AreGone total (modes_of c.args.predicates.now) (nodes_of c.args.goals.now) start c.loop-alloc.marks (among c.loop-alloc.bound) l)
    (sym c.deref.ensures.value) (c.loop-alloc.invariant.gone total start known gone)) in
    let rest_is : length c.deref.result.now ≡ length c.loop-alloc.rest.items = ap (λ l. length l) c.deref.ensures.value in
    let some = not_empty c.loop-alloc.rest.len c.loop-alloc-test.ensures in
    let same : length c.in_ok-kept.kept.items ≡ length c.deref.result.now = omega (arith, rest_is, c.in_ok-kept.kept.ok.0, c.loop-alloc.rest.ok.0, c.len.ensures, c.len-in-loop-alloc.ensures, c.if-len.true) in
    none_went total (modes_of c.args.predicates.now) c.args.goals.now start c.sweep_once.new.marks (among c.sweep_once.new.bound) c.in_ok-kept.kept.items span
    (omega (arith, some, same, rest_is, c.loop-alloc.rest.ok.0)) now (stuck same)

pub sweeping::sweep_all-loop-alloc-preserved : goal.sweeping::sweep_all-loop-alloc-preserved
sweeping::sweep_all-loop-alloc-preserved t c = record {
  placed = subst (λ l. ArePlaced c.args.goals.now l) (sym c.reverse.ensures.items) (placed-reverse c.args.goals.now c.in_ok-kept.kept.items c.in_ok-kept.ensures.placed);
  extends = extends_on c.args.bound.now c.loop-alloc.bound c.sweep_once.new.bound c.loop-alloc.invariant.extends c.in_ok-kept.ensures.extends;
  gone = λ total start known gone.
      subst (λ l. AreGone total (modes_of c.args.predicates.now) (nodes_of c.args.goals.now) start c.sweep_once.new.marks (among c.sweep_once.new.bound) l) (sym c.reverse.ensures.items)
      (gone_reversed total (modes_of c.args.predicates.now) (nodes_of c.args.goals.now) start c.sweep_once.new.marks (among c.sweep_once.new.bound) c.in_ok-kept.kept.items
      (c.in_ok-kept.ensures.sweeps total start known (subst (λ l. AreGone total (modes_of c.args.predicates.now) (nodes_of c.args.goals.now) start c.loop-alloc.marks (among c.loop-alloc.bound) l)
      (sym c.deref.ensures.value) (c.loop-alloc.invariant.gone total start known gone))).0);
}

pub sweeping::sweep_all-returns-clause-asked : goal.sweeping::sweep_all-returns-clause-asked
sweeping::sweep_all-returns-clause-asked t c = λ total start span known gone.
    let none = none_counted c.loop-alloc.rest.len c.loop-alloc-test.ensures in
    all_went total (modes_of c.args.predicates.now) (nodes_of c.args.goals.now) start c.loop-alloc.marks (among c.loop-alloc.bound) span
    (subst (λ l. AreGone total (modes_of c.args.predicates.now) (nodes_of c.args.goals.now) start c.loop-alloc.marks (among c.loop-alloc.bound) l)
    (is_empty c.loop-alloc.rest.items (omega (arith, none, c.loop-alloc.rest.ok.0))) (c.loop-alloc.invariant.gone total start known gone))

pub sweeping::sweep_once-bounds-goals-waiting : goal.sweeping::sweep_once-bounds-goals-waiting
sweeping::sweep_once-bounds-goals-waiting t c = (placed_here c.args.goals.now c.args.left.now c.loop-waiting.waiting-index _ _ c.requires.placed c.loop-waiting-test.true refl).0

pub sweeping::sweep_once-offset_bounds-goals-waiting : goal.sweeping::sweep_once-offset_bounds-goals-waiting
sweeping::sweep_once-offset_bounds-goals-waiting t c =
    let first : Waiting = record { index = 0; at = 0 } in
    let waiting = slice_index_or c.args.left.now c.loop-waiting.waiting-index first in
    let within = (placed_here c.args.goals.now c.args.left.now c.loop-waiting.waiting-index waiting first c.requires.placed c.loop-waiting-test.true refl).0 in
    omega (arith, within)

pub sweeping::sweep_once-ask_member-requires : goal.sweeping::sweep_once-ask_member-requires
sweeping::sweep_once-ask_member-requires t c =
    let first : Waiting = record { index = 0; at = 0 } in
    let waiting = slice_index_or c.args.left.now c.loop-waiting.waiting-index first in
    let placed = placed_here c.args.goals.now c.args.left.now c.loop-waiting.waiting-index waiting first c.requires.placed c.loop-waiting-test.true refl in
    let within = parts_here c.args.goals.now waiting c.index-goals-waiting.result placed c.index-goals-waiting.is in
    (omega (arith, within), (omega (arith, within, c.requires.known), omega (arith, within, c.requires.marked, c.loop-waiting.auto.marks)))

pub sweeping::sweep_once-loop-waiting-preserved : goal.sweeping::sweep_once-loop-waiting-preserved
sweeping::sweep_once-loop-waiting-preserved t c =
    let index = c.loop-waiting.waiting-index in
    let first : Waiting = record { index = 0; at = 0 } in
    let waiting = slice_index_or c.args.left.now index first in
    let kept = c.loop-waiting.kept.items in
    let ready = c.in_ok-ask_member.field-0 in
    let placed = placed_here c.args.goals.now c.args.left.now index waiting first c.requires.placed c.loop-waiting-test.true refl in
    let listed : c.if-not-branch.kept.items ≡ listed_if_left ready waiting kept = elim c.if-not-branch.branch [
      | sweeping::sweep_once-then-not-branch+in_ok-push w ↦
          ap (λ v. v.items) w.kept-is ∙ w.in_ok-push.ensures.items ∙ sym (ap (λ b. listed_if_left b waiting kept) w.if-not-branch.true)
      | sweeping::sweep_once-else-not-branch w ↦ ap (λ v. v.items) w.kept-is ∙ sym (ap (λ b. listed_if_left b waiting kept) w.if-not-branch.false)
    ] in
    record {
      placed = subst (λ l. ArePlaced c.args.goals.now l) (sym listed) (placed_if_left c.args.goals.now ready waiting kept placed c.loop-waiting.invariant.placed);
      fewer = subst (λ l. length l ≤ index + 1) (sym listed) (within_if_left ready waiting kept index c.loop-waiting.invariant.fewer);
      extends = extends_on c.args.bound.now c.loop-waiting.bound c.ask_member.new.bound c.loop-waiting.invariant.extends c.in_ok-ask_member.ensures.extends;
      gone = λ total start known gone.
          let (now, stuck) = c.loop-waiting.invariant.gone total start known gone in
          subst (λ l. AreGone total (modes_of c.args.predicates.now) (nodes_of c.args.goals.now) start c.ask_member.new.marks (among c.ask_member.new.bound) (l ++ drop (index + 1) c.args.left.now)
          × (length l ≡ index + 1 → AreStuck total (modes_of c.args.predicates.now) c.args.goals.now l (among c.ask_member.new.bound))) (sym listed)
          (member_asked c.args.predicates.now c.args.goals.now c.index-goals-waiting.result c.args.facts.now c.loop-waiting.marks c.ask_member.new.marks c.loop-waiting.bound c.ask_member.new.bound
          kept c.args.left.now waiting first index ready c.loop-waiting-test.true refl c.requires.placed c.index-goals-waiting.is c.loop-waiting.invariant.fewer c.in_ok-ask_member.ensures.asks
          total start known now stuck);
    }

pub sweeping::sweep_once-returns-clause-sweeps : goal.sweeping::sweep_once-returns-clause-sweeps
sweeping::sweep_once-returns-clause-sweeps t c = λ total start known gone.
    let index = c.loop-waiting.waiting-index in
    let kept = c.loop-waiting.kept.items in
    let (now, stuck) = c.loop-waiting.invariant.gone total start known gone in
    let none_left : drop index c.args.left.now ≡ [] = drop_all index c.args.left.now (omega (arith, c.loop-waiting-test.false)) in (
      subst (λ l. AreGone total (modes_of c.args.predicates.now) (nodes_of c.args.goals.now) start c.loop-waiting.marks (among c.loop-waiting.bound) l) (append-nil kept)
          (subst (λ l. AreGone total (modes_of c.args.predicates.now) (nodes_of c.args.goals.now) start c.loop-waiting.marks (among c.loop-waiting.bound) (kept ++ l)) none_left now),
      λ same. stuck (omega (arith, same, c.loop-waiting-test.false, c.loop-waiting.invariant.fewer)),
    )
