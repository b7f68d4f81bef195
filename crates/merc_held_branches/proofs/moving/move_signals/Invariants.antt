use Rattle.std.proofs.Common.{◌≡◌, ◌≤◌, ◌+◌, ◌++◌, ℕ, List, length, map}
use Rattle.std.specs.List.{All}
use Rattle.std.specs.Vec.{vec_capacity}
use Rattle.merc_cell.specs.Ends.{producer_name}
use Rattle.merc_board.specs.Rights.{Rights, signals_kept}
use Rattle.merc_held_branches.specs.Beds.{IsNamed}
use Rattle.merc_held_branches.specs.Lying.{owed_of}
use Rattle.merc_held_branches.specs.Kids.{AreFor, HaveBerths, with_signals}
use Rattle.merc_held_branches.proofs.moving.move_signals.Given as goal

abbrev pub invariant-loop-right : goal.invariant-loop-right
invariant-loop-right g l = record {
  whole : l.yielded ++ l.right-iterator.rest.items ≡ l.fn.signals.items;
  given : (room : ℕ) (loads : List _) (has : ℕ → Rights) → AreFor g.N.Room.table (length l.fn.signals.items + room) loads has l.fn.kids.items
      → AreFor g.N.Room.table (length l.right-iterator.rest.items + room) loads (with_signals l.given (map owed_of l.yielded) has) l.kids.items;
  kept : map owed_of l.kept.items ≡ map owed_of l.fn.kept.items ++ signals_kept l.given (map owed_of l.yielded);
  named : All (λ right. IsNamed g.N.Room.table (producer_name right.end)) l.kept.items;
  room : length l.kept.items + length l.right-iterator.rest.items ≤ vec_capacity l.kept;
  berths : HaveBerths g.N.Room.table l.fn.kids.items → HaveBerths g.N.Room.table l.kids.items;
}
