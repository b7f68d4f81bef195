use Rattle.std.proofs.Common.{◌≡◌, false, take}
use Rattle.std.specs.List.{list_any}
use Rattle.merc_tree.specs.Postfix.{shapes_of}
use Rattle.merc_declared.specs.KnownTypes.{is_wrong_shape}
use Rattle.merc_declared.proofs.known_types.KnownTypes.has_wrong_part.Given as goal

abbrev pub invariant-loop-index : goal.invariant-loop-index
invariant-loop-index l = list_any (is_wrong_shape l.names l.self l.variables) (take l.index (shapes_of l.term)) ≡ false
