-- The tickets of a join. And what the seat of a ticket knows behind its step.
use Rattle.std.specs.Prelude.{◌≡◌, ℕ, ◌-◌, List, length, slice_get, Some}
use Rattle.atomic_table.specs.Seated.{TableId}
use Rattle.merc_join.specs.declared.stub.Stub.{Stub}
use Rattle.merc_join.specs.declared.ends.Ticket.{Ticket}
use Rattle.merc_join.specs.declared.ends.SpentTicket.{SpentTicket}

module _ {P : Type 0} where
  abbrev pub ticket_parent : Ticket P → P
  ticket_parent ticket = ticket.seat.me.0.parent

  abbrev pub ticket_child : Ticket P → ℕ
  ticket_child ticket = ticket.child

  abbrev pub ticket_children : Ticket P → ℕ
  ticket_children ticket = ticket.seat.table_id.slots - 1

  abbrev pub ticket_table : Ticket P → TableId
  ticket_table ticket = ticket.seat.table_id

  abbrev pub spent_table : SpentTicket P → TableId
  spent_table spent = spent.seat.table_id

  abbrev pub spent_view : SpentTicket P → Stub P
  spent_view spent = spent.seat.me.0

  -- tickets of this join, for the first children, in order
  abbrev pub AreDealt : ℕ → P → TableId → List (Ticket P) → Type 0
  AreDealt children parent join tickets = (i : ℕ) (ticket : Ticket P) → slice_get tickets i ≡ Some ticket
      → (ticket_child ticket ≡ i) × (ticket_parent ticket ≡ parent) × (ticket_children ticket ≡ children) × (ticket.seat.table_id ≡ join)

  -- one ticket for each child, in order, all of one join
  pub record AreTickets (children : ℕ) (parent : P) (tickets : List (Ticket P)) : Type 0 where
    pub join : TableId
    pub count : length tickets ≡ children
    pub each : AreDealt children parent join tickets
