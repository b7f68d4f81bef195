use Rattle.std.proofs.Common.{◌≡◌, ◌++◌, drop, filter}
use Rattle.merc_order.specs.Bound.{among}
use Rattle.merc_switch.proofs.ordering.those_among.Given as goal

abbrev pub invariant-loop-output : goal.invariant-loop-output
invariant-loop-output l = l.kept ++ filter (λ output. among l.variables output) (drop l.output-index l.outputs) ≡ filter (λ output. among l.variables output) l.outputs
