-- The values of cells.
use Rattle.std.specs.Prelude.{Option, Some, None, slice_get}
use Rattle.merc_value.specs.Value.{Value}
use Rattle.merc_value.specs.Block.{BlockData, root_values}

-- the value that the first root of a block stands for
abbrev pub value_shown : Option BlockData → Option Value
value_shown None = None
value_shown (Some block) = slice_get (root_values block) 0
