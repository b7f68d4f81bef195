use Rattle.std.proofs.Common.{◌≡◌, ◌++◌, map, drop}
use Rattle.merc_item_forms.specs.Forms.{argument_type}
use Rattle.merc_items.specs.ModuleOf.{declared_type}
use Rattle.merc_items.proofs.declared_types.argument_types.Given as goal

abbrev pub invariant-loop-argument : goal.invariant-loop-argument
invariant-loop-argument l =
    l.types ++ map (λ argument. declared_type l.names (argument_type argument)) (drop l.argument-index l.arguments) ≡ map (λ argument. declared_type l.names (argument_type argument)) l.arguments
