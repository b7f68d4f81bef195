-- The places of the words so far are added.
use Rattle.std.proofs.Common.{take}
use Rattle.merc_segments.specs.Places.{Adds}
use Rattle.merc_segments.proofs.reaching.add_words.Given as goal

abbrev pub invariant-loop-word : goal.invariant-loop-word
invariant-loop-word l = Adds (take l.word-index l.words) l.fn.pending l.pending
