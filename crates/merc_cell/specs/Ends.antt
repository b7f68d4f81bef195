-- The two ends of a cell: their names, and the tables of their seats. And what the seat of an end knows behind its step.
use Rattle.std.specs.Prelude.{ℕ, List}
use Rattle.atomic_table.specs.Seated.{TableId}
use Rattle.merc_cell.specs.declared.glance.Glance.{Glance}
use Rattle.merc_cell.specs.declared.ends.Consumer.{Consumer}
use Rattle.merc_cell.specs.declared.ends.Producer.{Producer}
use Rattle.merc_cell.specs.declared.ends.Spent.{Spent}

module _ {V W : Type 0} where
  abbrev pub consumer_name : Consumer V W → List ℕ
  consumer_name consumer = consumer.seat.me.0.name

  abbrev pub producer_name : Producer V W → List ℕ
  producer_name producer = producer.seat.me.0.name

  abbrev pub consumer_table : Consumer V W → TableId
  consumer_table consumer = consumer.seat.table_id

  abbrev pub producer_table : Producer V W → TableId
  producer_table producer = producer.seat.table_id

  abbrev pub spent_table : Spent V W → TableId
  spent_table spent = spent.seat.table_id

  abbrev pub spent_view : Spent V W → Glance V W
  spent_view spent = spent.seat.me.0
