use Rattle.std.proofs.Common.{◌≡◌, ◌++◌, map, drop}
use Rattle.merc_item_forms.specs.Forms.{argument_mode}
use Rattle.merc_entries.specs.Entries.{outputs_of}
use Rattle.merc_entries.proofs.doubles.modes.outputs_with_types.Given as goal

abbrev pub invariant-loop-argument : goal.invariant-loop-argument
invariant-loop-argument l = l.outputs.items ++ outputs_of (map argument_mode (drop l.argument-index l.arguments)) ≡ outputs_of (map argument_mode l.arguments)
