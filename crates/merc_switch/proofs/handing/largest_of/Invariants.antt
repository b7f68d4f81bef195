use Rattle.std.proofs.Common.{◌<◌, length, IfSome}
use Rattle.merc_switch.proofs.handing.largest_of.Given as goal

abbrev pub invariant-loop-index : goal.invariant-loop-index
invariant-loop-index l = IfSome l.largest (λ index. index < length l.groups)
