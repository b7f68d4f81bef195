use Rattle.std.proofs.Common.{◌≡◌, length}
use Rattle.std.specs.List.{All}
use Rattle.merc_held_branches.specs.Lying.{AreNamed}
use Rattle.merc_held_branches.specs.Owning.{Runs}
use Rattle.merc_held_branches.specs.Kids.{HaveBerths}
use Rattle.merc_stealing.proofs.preparing.take_back.Given as goal

abbrev pub invariant-loop-kid : goal.invariant-loop-kid
invariant-loop-kid g l = record {
  passes : l.seat.passes ≡ l.fn.seat.passes;
  runs : Runs g.M.Load.root g.N.Room.table l.parent;
  berths : HaveBerths g.N.Room.table l.kids.items;
  named : All (λ kid. AreNamed g.N.Room.table kid.value.hold) l.kids.items;
}

abbrev pub decreases-loop-kid : goal.decreases-loop-kid
decreases-loop-kid g l = length l.kids.items
