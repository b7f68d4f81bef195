-- The arguments so far are moved.
use Rattle.std.proofs.Common.{◌≡◌, map, take}
use Rattle.merc_value.specs.Sharing.{moved}
use Rattle.merc_value.proofs.sharing.moved_all.Given as goal

abbrev pub invariant-loop-argument : goal.invariant-loop-argument
invariant-loop-argument l = l.all.items ≡ map (moved l.words) (take l.argument-index l.arguments)
