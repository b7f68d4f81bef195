use Rattle.std.proofs.Common.{◌≡◌, ◌++◌, drop}
use Rattle.merc_frames.specs.Handing.{carried}
use Rattle.merc_store.proofs.carrying.gather.Given as goal

abbrev pub invariant-loop-variable : goal.invariant-loop-variable
invariant-loop-variable l = l.into.items ++ carried (drop l.variable-index l.own) l.frames.stacks.current ≡ carried l.own l.frames.stacks.current
