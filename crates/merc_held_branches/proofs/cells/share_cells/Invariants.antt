use Rattle.std.proofs.Common.{◌≡◌, ◌≤◌, ◌+◌, ◌*◌, ◌-◌, ℕ, List, length, map, take}
use Rattle.std.specs.List.{All}
use Rattle.std.specs.Vec.{vec_capacity}
use Rattle.merc_cell.specs.Ends.{consumer_name}
use Rattle.merc_board.specs.Rights.{no_rights, own_waits}
use Rattle.merc_held_branches.specs.Beds.{IsNamed}
use Rattle.merc_held_branches.specs.Lying.{due_of}
use Rattle.merc_held_branches.specs.Owning.{spot_held}
use Rattle.merc_held_branches.specs.Kids.{AreFor, HaveBerths}
use Rattle.merc_held_branches.specs.Sharing.{cells_ahead, own_rights}
use Rattle.merc_held_branches.proofs.cells.share_cells.Given as goal

abbrev pub invariant-loop-place : goal.invariant-loop-place
invariant-loop-place g l = record {
  given : (room : ℕ) (loads : List _) → AreFor g.N.Room.table (2 * length l.shared + room) loads (λ _. no_rights) l.fn.kids.items
      → AreFor g.N.Room.table (2 * (length l.shared - l.place) + room) loads (own_rights (take l.place l.shared) (take l.place (cells_ahead g.M.Load.root (spot_held l.hold.berth)))) l.kids.items;
  behind : map due_of l.behind.items ≡ own_waits 0 (take l.place l.shared) (take l.place (cells_ahead g.M.Load.root (spot_held l.hold.berth)));
  named : All (λ right. IsNamed g.N.Room.table (consumer_name right.end)) l.behind.items;
  room : (length l.behind.items ≤ l.place) × (vec_capacity l.fn.behind ≤ vec_capacity l.behind);
  berths : HaveBerths g.N.Room.table l.fn.kids.items → HaveBerths g.N.Room.table l.kids.items;
}
