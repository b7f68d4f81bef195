use Rattle.std.proofs.Common.{◌≡◌, drop}
use Rattle.std.specs.List.{list_all}
use Rattle.merc_order.specs.Bound.{among}
use Rattle.merc_switch.proofs.occurring.has_all.Given as goal

abbrev pub invariant-loop-output : goal.invariant-loop-output
invariant-loop-output l = list_all (λ output. among l.variables output) (drop l.output-index l.outputs) ≡ list_all (λ output. among l.variables output) l.outputs
