use Rattle.std.proofs.Common.{rules, subst, sym}
use Rattle.merc_yard.specs.Yards.{yard_table}
use Rattle.merc_yard.specs.declared.spot.Fill.TheVariants.{Filled}
use Rattle.merc_yard.specs.declared.spot.Purpose.TheVariants.{Forks}
use Rattle.merc_held_branches.specs.Beds.{IsMoored}
use Rattle.merc_held_branches.specs.Owning.{Runs}
use Rattle.merc_stealing.proofs.Dealing.{made_of}
use Rattle.merc_stealing.proofs.Naming.{runs_behind}
use Rattle.merc_stealing.proofs.ForkLaws.{all_named}
use Rattle.merc_stealing.proofs.preparing.join_kids.Goals as goal

pub deal-requires-clause-made : goal.deal-requires-clause-made
deal-requires-clause-made g c = made_of g.M.Load.root g.M.Load.stands g.M.Load.awaits g.M.Load.forked g.M.Load.shows g.N.Room.table c.args.kids.items c.args.parent.value _ _ c.in-Ok.tickets.items c.requires.joins
    (subst (λ t. IsMoored t Filled Forks c.moor_parent.result) c.requires.tied c.moor_parent.ensures.moored) c.moor_parent.ensures.spot (search rules) c.in-Ok.ensures

pub take_back-requires-clause-kids : goal.take_back-requires-clause-kids
take_back-requires-clause-kids g c = (c.requires.joins.berths, all_named g.M.Load.root g.M.Load.stands g.M.Load.awaits g.M.Load.forked g.M.Load.shows g.N.Room.table c.args.kids.items c.args.parent.value c.requires.joins)

pub take_back-requires-clause-runs : goal.take_back-requires-clause-runs
take_back-requires-clause-runs g c =
    let moored = subst (λ (bed : _). IsMoored (yard_table c.args.lot.now) Filled Forks bed.berth) (sym c.in-Err.ensures) c.moor_parent.ensures.moored in
    subst (λ (b : _). Runs g.M.Load.root g.N.Room.table b.hold) (sym c.deref_mut.ensures.value)
    (subst (λ t. Runs g.M.Load.root t c.unmoor-parent.result.value.hold) c.requires.tied
    (runs_behind g.M.Load.root g.M.Load.stands g.M.Load.awaits g.M.Load.forked g.M.Load.shows (yard_table c.args.lot.now) c.in-Err.bed.berth c.unmoor-parent.result.value c.unmoor-parent.ensures moored))
