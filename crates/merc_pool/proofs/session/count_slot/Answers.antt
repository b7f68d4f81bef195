use Rattle.std.proofs.Common.{◌≤◌, ap, ◌∙◌}
use Rattle.merc_meaning.specs.Counting.{counted}
use Rattle.merc_pool.specs.Sessions.{steps_of}
use Rattle.merc_pool.proofs.Counters.{others_counted, runs_counted}
use Rattle.merc_pool.proofs.session.count_slot.Goals as goal
use Rattle.merc_pool.proofs.session.count_slot.Goals.{in-Runs, in_default}

pub returns : goal.returns
returns g c =
    elim c.match-hand.branch as (λ _. counted c.args.into.now (steps_of 0 c.args.slot.hand) ≤ c.take_in-2.new.self) [
      | in-Runs w ↦ runs_counted c.args.into.now c.match-hand.into c.take_in-2.new.self c.args.slot.worker.ticks w.deref_mut.result.now.load.ticks c.args.slot.hand w.in-Runs.branch w.in-Runs.is
          (ap (λ b. b.load.ticks) w.deref_mut.ensures.value) (w.into-is ∙ w.take_in.ensures.sum) c.take_in-2.ensures.sum
      | in_default w ↦ others_counted c.args.into.now c.match-hand.into c.take_in-2.new.self c.args.slot.worker.ticks c.args.slot.hand w.in_default.not-Runs w.into-is c.take_in-2.ensures.sum
    ]
