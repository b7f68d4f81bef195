use Rattle.merc_goal_facts.proofs.Keeping.{all_same, all_on}
use Rattle.merc_goal_facts.proofs.needing.leave_out.Goals as goal

pub loop-goal-init : goal.loop-goal-init
loop-goal-init c = all_same c.args.facts.now

pub loop-goal-preserved : goal.loop-goal-preserved
loop-goal-preserved c = all_on c.args.facts.now c.loop-goal.facts c.leave_out_of.new.facts c.loop-goal.invariant c.in_ok-leave_out_of.ensures
