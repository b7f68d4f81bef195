use Rattle.std.proofs.Common.{◌≡◌, ◌+◌, length}
use Rattle.merc_tokens.specs.Quoted.{quoted}
use Rattle.merc_tokens.proofs.quoting.push_quoted.Given as goal

abbrev pub invariant-loop-rest : goal.invariant-loop-rest
invariant-loop-rest l = record {
  same : quoted l.quote l.content l.past l.rest ≡ quoted l.quote l.fn.content 0 l.text;
  count : l.past + length l.rest ≡ length l.text;
}

abbrev pub decreases-loop-rest : goal.decreases-loop-rest
decreases-loop-rest l = length l.rest
