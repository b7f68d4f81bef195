use Rattle.std.proofs.Common.{length}
use Rattle.merc_terms.proofs.ItemLaws.{ItemsSoFar}
use Rattle.merc_terms.proofs.reading.Reader.read_all.Given as goal

abbrev pub invariant-loop-alloc : goal.invariant-loop-alloc
invariant-loop-alloc l = ItemsSoFar l.fn.self.progress.rest.now l.self.progress

abbrev pub decreases-loop-alloc : goal.decreases-loop-alloc
decreases-loop-alloc l = length l.self.progress.rest.now
