use Rattle.std.proofs.Common.{length}
use Rattle.merc_type_graph.proofs.Equating.{last_below, equating_differs, equating_on}
use Rattle.merc_type_graph.proofs.joining.equate.Goals as goal

pub meet-requires-clause-one : goal.meet-requires-clause-one
meet-requires-clause-one c = (last_below (length c.loop-pair.cells) c.loop-pair.pairs.items c.pop.new.self.items c.in-Some.pair c.in-Some.ensures.items c.loop-pair.invariant.below).1.0

pub meet-requires-clause-other : goal.meet-requires-clause-other
meet-requires-clause-other c = (last_below (length c.loop-pair.cells) c.loop-pair.pairs.items c.pop.new.self.items c.in-Some.pair c.in-Some.ensures.items c.loop-pair.invariant.below).1.1

pub meet-requires-clause-pairs : goal.meet-requires-clause-pairs
meet-requires-clause-pairs c = (last_below (length c.loop-pair.cells) c.loop-pair.pairs.items c.pop.new.self.items c.in-Some.pair c.in-Some.ensures.items c.loop-pair.invariant.below).0

pub returns-then-not-branch-clause-made : goal.returns-then-not-branch-clause-made
returns-then-not-branch-clause-made c = equating_differs c.args.store.now c.args.cells.now c.loop-pair.cells c.meet.new.cells c.loop-pair.pairs.items c.pop.new.self.items c.meet.new.pairs.items c.in-Some.pair c.args.one c.args.other c.in_ok-meet.field-0 c.loop-pair.invariant c.in-Some.ensures.items c.if-not-branch.true c.in_ok-meet.ensures.made

pub loop-pair-preserved : goal.loop-pair-preserved
loop-pair-preserved c = (equating_on c.args.store.now c.args.cells.now c.loop-pair.cells c.meet.new.cells c.loop-pair.pairs.items c.pop.new.self.items c.meet.new.pairs.items c.in-Some.pair c.args.one c.args.other c.in_ok-meet.field-0 c.loop-pair.invariant c.in-Some.ensures.items c.if-not-branch.false c.in_ok-meet.ensures.made).0

pub loop-pair-smaller : goal.loop-pair-smaller
loop-pair-smaller c = (equating_on c.args.store.now c.args.cells.now c.loop-pair.cells c.meet.new.cells c.loop-pair.pairs.items c.pop.new.self.items c.meet.new.pairs.items c.in-Some.pair c.args.one c.args.other c.in_ok-meet.field-0 c.loop-pair.invariant c.in-Some.ensures.items c.if-not-branch.false c.in_ok-meet.ensures.made).1
