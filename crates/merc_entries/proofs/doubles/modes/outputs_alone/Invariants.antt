use Rattle.std.proofs.Common.{◌≡◌, ◌++◌, map, drop, Some}
use Rattle.merc_entries.specs.Entries.{outputs_of}
use Rattle.merc_entries.proofs.doubles.modes.outputs_alone.Given as goal

abbrev pub invariant-loop-argument : goal.invariant-loop-argument
invariant-loop-argument l = l.outputs.items ++ outputs_of (map Some (drop l.argument-index l.arguments)) ≡ outputs_of (map Some l.arguments)
