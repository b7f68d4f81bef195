-- Which yard it is.
use Rattle.atomic_table.specs.Seated.{TableId}
use Rattle.merc_yard.specs.declared.yard.Yard.{Yard}

module _ {T L : Type 0} where
  -- the table of a yard
  abbrev pub yard_table : Yard T L → TableId
  yard_table yard = yard.table.shared.table_id
