-- Each round meets the arguments of the next pair of cells.
use Rattle.std.proofs.Common.{arith, length, refl}
use Rattle.merc_heap.proofs.MetLemmas.{met_found, all_same, round_met, round_each, round_parts, round_before, round_covered, round_falls}
use Rattle.merc_heap.proofs.heap.Heap.meet_all.Goals as goal

pub meet_arguments-requires-clause-one : goal.meet_arguments-requires-clause-one
meet_arguments-requires-clause-one c =
    (met_found c.args.self.now c.loop-next.met.keys c.loop-next.next (c.index.result.now.0, c.index.result.now.1) c.loop-next.invariant.met c.index.ensures).below

pub meet_arguments-requires-clause-other : goal.meet_arguments-requires-clause-other
meet_arguments-requires-clause-other c =
    (met_found c.args.self.now c.loop-next.met.keys c.loop-next.next (c.index.result.now.0, c.index.result.now.1) c.loop-next.invariant.met c.index.ensures).other_below

pub meet_arguments-requires-clause-count : goal.meet_arguments-requires-clause-count
meet_arguments-requires-clause-count c =
    (met_found c.args.self.now c.loop-next.met.keys c.loop-next.next (c.index.result.now.0, c.index.result.now.1) c.loop-next.invariant.met c.index.ensures).alike.count

pub returns-then-not-branch-2 : goal.returns-then-not-branch-2
returns-then-not-branch-2 c = (
  (λ yes. absurd (cc (yes))),
  (λ same. absurd (c.in_ok-meet_arguments.ensures.no c.if-not-branch-2.true
      (round_parts c.args.self.now c.in_ok-meet_arguments.ensures.lower c.loop-next.met.keys c.loop-next.met.keys c.loop-next.next c.index.result.now.0 c.index.result.now.1 c.index.ensures c.loop-next.invariant.met (c.loop-next.invariant.each same)))),
)

pub loop-next-smaller : goal.loop-next-smaller
loop-next-smaller c =
    round_falls c.args.self.now c.in_ok-meet_arguments.ensures.lower c.loop-next.met.keys c.meet_arguments.new.met.keys c.loop-next.next c.index.result.now.0 c.index.result.now.1 c.index.ensures c.loop-next.invariant.met (c.in_ok-meet_arguments.ensures.yes c.if-not-branch-2.false)

pub loop-next-preserved : goal.loop-next-preserved
loop-next-preserved c =
    let meets = c.in_ok-meet_arguments.ensures.yes c.if-not-branch-2.false in
    record {
      whole = λ same. c.loop-next.invariant.whole (round_before c.args.self.now c.in_ok-meet_arguments.ensures.lower c.loop-next.met.keys c.meet_arguments.new.met.keys c.loop-next.next c.index.result.now.0 c.index.result.now.1 c.index.ensures c.loop-next.invariant.met meets (length c.args.self.now) same);
      each = λ same. round_each c.args.self.now c.in_ok-meet_arguments.ensures.lower c.loop-next.met.keys c.meet_arguments.new.met.keys c.loop-next.next c.index.result.now.0 c.index.result.now.1 c.index.ensures c.loop-next.invariant.met meets (c.loop-next.invariant.each same);
      met = round_met c.args.self.now c.in_ok-meet_arguments.ensures.lower c.loop-next.met.keys c.meet_arguments.new.met.keys c.loop-next.next c.index.result.now.0 c.index.result.now.1 c.index.ensures c.loop-next.invariant.met meets;
      covered = round_covered c.args.self.now c.in_ok-meet_arguments.ensures.lower c.loop-next.met.keys c.meet_arguments.new.met.keys c.loop-next.next c.index.result.now.0 c.index.result.now.1 c.index.ensures c.loop-next.invariant.met meets c.loop-next.invariant.covered;
    }

pub returns : goal.returns
returns c = (
  (λ yes. c.loop-next.invariant.whole
      (all_same c.args.self.now c.loop-next.met.keys
      (λ k one other within. c.loop-next.invariant.covered k one other (omega (arith, within, c.len.ensures.len, c.loop-next-test.false))) (length c.args.self.now))),
  (λ same. refl),
)
