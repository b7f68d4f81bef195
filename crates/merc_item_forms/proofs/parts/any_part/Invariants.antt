use Rattle.std.proofs.Common.{◌≡◌, false, take}
use Rattle.std.specs.List.{list_any}
use Rattle.merc_tree.specs.Postfix.{shapes_of}
use Rattle.merc_item_forms.specs.Parts.{shape_test}
use Rattle.merc_item_forms.proofs.parts.any_part.Given as goal

abbrev pub invariant-loop-index : goal.invariant-loop-index
invariant-loop-index l = list_any (shape_test l.test) (take l.index (shapes_of l.term)) ≡ false
