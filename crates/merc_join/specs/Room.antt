-- What is made for a join before its seats are dealt.
use Rattle.std.specs.Prelude.{◌≡◌, ℕ, ◌+◌, ◌≤◌, [], length, All}
use Rattle.std.specs.Vec.{vec_capacity}
use Rattle.std.specs.Arc.{arc_value}
use Rattle.merc_join.specs.declared.making.Room.{Room}
use Rattle.merc_join.specs.Join.{first_stub, begun, IsSeated}

module _ {P : Type 0} where
  -- the memory for so many children
  pub record IsRoom (children : ℕ) (room : Room P) : Type 0 where
    pub seated : IsSeated room.seat.table_id (arc_value room.table).shared.table_id
    pub slots : (arc_value room.table).shared.table_id.slots ≡ children + 1
    pub count : length room.others.items + 1 ≡ children
    pub owners : All (λ owner. arc_value owner ≡ arc_value room.table) room.others.items
    pub tickets : room.tickets.items ≡ []
    pub capacity : children ≤ vec_capacity room.tickets

  -- its seat has done nothing
  abbrev pub IsFresh : P → ℕ → Room P → Type 0
  IsFresh parent children room = ((arc_value room.table).shared.key.parent.value ≡ parent) × (room.seat.me ≡ (first_stub parent children, []))

  -- the parent is there
  abbrev pub IsReady : ℕ → Room P → Type 0
  IsReady children room = IsRoom children room × (room.seat.me ≡ (begun room.seat.me.0.parent 0 children, []))
