use Rattle.std.proofs.Common.{◌≡◌, ◌++◌, map, drop}
use Rattle.merc_item_forms.specs.Forms.{argument_mode}
use Rattle.merc_items.specs.ModuleOf.{args_of}
use Rattle.merc_items.proofs.declared_modes.args_with_types.Given as goal

abbrev pub invariant-loop-argument : goal.invariant-loop-argument
invariant-loop-argument l = l.args ++ args_of (map argument_mode (drop l.argument-index l.terms)) ≡ args_of (map argument_mode l.terms)
