use Rattle.std.proofs.Common.{subst, sym}
use Rattle.merc_det.specs.Seen.{Finds}
use Rattle.merc_det.proofs.SeenLaws.{removed}
use Rattle.merc_det.proofs.seen.remove_last.Goals as goal

pub set_latest-requires : goal.set_latest-requires
set_latest-requires c =
    (removed c.args.entries.now.items c.pop.new.self.items c.args.latest.now c.in-Some.last c.number.result c.requires c.in-Some.ensures.items c.number.ensures).room

pub returns-in-Some-clause-finds : goal.returns-in-Some-clause-finds
returns-in-Some-clause-finds c =
    subst (λ table. Finds c.pop.new.self.items table) (sym c.set_latest.ensures)
    (removed c.args.entries.now.items c.pop.new.self.items c.args.latest.now c.in-Some.last c.number.result c.requires c.in-Some.ensures.items c.number.ensures).finds
