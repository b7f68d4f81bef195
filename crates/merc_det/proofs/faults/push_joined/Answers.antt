use Rattle.merc_det.proofs.Pushing.{either_pushed}
use Rattle.merc_det.proofs.faults.push_joined.Goals as goal

pub returns-in_ok-push_all-in-Conjunction : goal.returns-in_ok-push_all-in-Conjunction
returns-in_ok-push_all-in-Conjunction c =
    either_pushed c.args.view c.in-Conjunction.goals c.args.left.now.items c.push_all.new.left.items c.in-Conjunction.is c.in_ok-push_all-in-Conjunction.ensures
