use Rattle.std.proofs.Common.{◌≤◌, sym, subst}
use Rattle.merc_meaning.specs.Counting.{counted}
use Rattle.merc_pool.specs.Sessions.{steps_told}
use Rattle.merc_pool.proofs.Counters.{slot_told}
use Rattle.merc_pool.proofs.session.count_home.Goals as goal

pub returns-in-Some : goal.returns-in-Some
returns-in-Some g c =
    subst (λ h. counted c.args.into.now (steps_told c.args.put_by.now h) ≤ c.count_slot.new.into) (sym c.in-Some.is)
    (slot_told c.args.put_by.now c.args.into.now c.take_in.new.self c.count_slot.new.into c.in-Some.slot c.take_in.ensures.sum c.count_slot.ensures)
