use Rattle.std.proofs.Common.{◌≡◌, ◌++◌, map, drop, Some}
use Rattle.merc_items.specs.ModuleOf.{args_of}
use Rattle.merc_items.proofs.declared_modes.args_alone.Given as goal

abbrev pub invariant-loop-argument : goal.invariant-loop-argument
invariant-loop-argument l = l.args ++ args_of (map Some (drop l.argument-index l.terms)) ≡ args_of (map Some l.terms)
