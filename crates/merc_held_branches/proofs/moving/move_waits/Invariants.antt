use Rattle.std.proofs.Common.{◌≡◌, ◌≤◌, ◌+◌, ◌++◌, ℕ, List, length, map}
use Rattle.std.specs.List.{All}
use Rattle.std.specs.Vec.{vec_capacity}
use Rattle.merc_cell.specs.Ends.{consumer_name}
use Rattle.merc_board.specs.Rights.{Rights, waits_kept}
use Rattle.merc_held_branches.specs.Beds.{IsNamed}
use Rattle.merc_held_branches.specs.Lying.{due_of}
use Rattle.merc_held_branches.specs.Kids.{AreFor, HaveBerths, with_waits}
use Rattle.merc_held_branches.proofs.moving.move_waits.Given as goal

abbrev pub invariant-loop-right : goal.invariant-loop-right
invariant-loop-right g l = record {
  whole : l.yielded ++ l.right-iterator.rest.items ≡ l.fn.waits.items;
  given : (room : ℕ) (loads : List _) (has : ℕ → Rights) → AreFor g.N.Room.table (length l.fn.waits.items + room) loads has l.fn.kids.items
      → AreFor g.N.Room.table (length l.right-iterator.rest.items + room) loads (with_waits l.given (map due_of l.yielded) has) l.kids.items;
  kept : map due_of l.kept.items ≡ map due_of l.fn.kept.items ++ waits_kept l.given (map due_of l.yielded);
  named : All (λ right. IsNamed g.N.Room.table (consumer_name right.end)) l.kept.items;
  room : length l.kept.items + length l.right-iterator.rest.items ≤ vec_capacity l.kept;
  berths : HaveBerths g.N.Room.table l.fn.kids.items → HaveBerths g.N.Room.table l.kids.items;
}
