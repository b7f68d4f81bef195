use Rattle.std.proofs.Common.{◌≡◌, ◌+◌, length}
use Rattle.merc_tokens.specs.Pieces.{comment_past}
use Rattle.merc_tokens.proofs.pieces.comment_past.Given as goal

abbrev pub invariant-loop-rest : goal.invariant-loop-rest
invariant-loop-rest l = record {
  same : comment_past l.past l.rest ≡ comment_past 0 l.text;
  count : l.past + length l.rest ≡ length l.text;
}

abbrev pub decreases-loop-rest : goal.decreases-loop-rest
decreases-loop-rest l = length l.rest
