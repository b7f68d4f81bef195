use Rattle.std.proofs.Common.{◌≡◌, replicate}
use Rattle.merc_join.specs.declared.stub.Slot.TheVariants.{Empty}
use Rattle.merc_join.proofs.making.empty_slots.Given as goal

abbrev pub invariant-loop-i : goal.invariant-loop-i
invariant-loop-i g l = l.slots.items ≡ replicate l.i Empty
