use Rattle.std.proofs.Common.{◌≡◌, length, sym, subst}
use Rattle.merc_held_branches.specs.Owning.{spot_held}
use Rattle.merc_held_branches.specs.Sharing.{cells_ahead}
use Rattle.merc_stealing.proofs.ForkLaws.{ahead_count}
use Rattle.merc_stealing.proofs.preparing.prepare.Goals as goal

pub make_fork-requires-clause-count : goal.make_fork-requires-clause-count
make_fork-requires-clause-count g c =
    subst (λ (b : _). length (cells_ahead g.M.Load.root (spot_held b.hold.berth)) ≡ length c.args.shared.now) (sym c.deref.ensures)
    (ahead_count g.M.Load.root g.M.Load.stands g.M.Load.awaits g.M.Load.forked g.M.Load.shows g.N.Room.table c.args.parent.value c.args.shared.now c.args.given.now c.args.limit c.args.loads.items c.requires.prepares)
