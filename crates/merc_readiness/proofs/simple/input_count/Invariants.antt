use Rattle.std.proofs.Common.{◌≡◌, ◌≤◌, ◌+◌, drop}
use Rattle.merc_order.specs.CallModes.{width}
use Rattle.merc_readiness.proofs.simple.input_count.Given as goal

abbrev pub invariant-loop-place : goal.invariant-loop-place
invariant-loop-place l = record { counted : l.count + width (drop l.place-index l.places) ≡ width l.places; small : l.count ≤ l.place-index }
