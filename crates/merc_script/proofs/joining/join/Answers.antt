use Rattle.merc_script.proofs.JoiningLaws.{joined-in-order}
use Rattle.merc_script.proofs.joining.join.Goals as goal

pub loop-outcome-init : goal.loop-outcome-init
loop-outcome-init c = joined-in-order c.args.limit c.args.outcomes.now
