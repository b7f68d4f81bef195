use Rattle.std.proofs.Common.{◌≡◌, ◌-◌, false, length, take}
use Rattle.std.specs.List.{list_any}
use Rattle.merc_tree.specs.Postfix.{shapes_of}
use Rattle.merc_declared.specs.KnownTypes.{is_wrong_shape}
use Rattle.merc_declared.proofs.known_types.KnownTypes.has_wrong_constructor.Given as goal

abbrev pub invariant-loop-constructor : goal.invariant-loop-constructor
invariant-loop-constructor l =
    list_any (λ constructor. list_any (is_wrong_shape l.names l.self l.variables) (take (length (shapes_of constructor) - 1) (shapes_of constructor))) (take l.constructor-index l.constructors) ≡ false
