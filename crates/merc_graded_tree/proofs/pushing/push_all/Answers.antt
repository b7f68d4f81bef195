use Rattle.merc_graded_tree.proofs.Reversed.{reversed_step}
use Rattle.merc_graded_tree.proofs.pushing.push_all.Goals as goal

pub loop-last-preserved : goal.loop-last-preserved
loop-last-preserved c =
    reversed_step c.loop-last.left.items c.push.new.self.items c.loop-last.goals c.take_last.new.self c.in-Some.last _ c.in-Some.ensures c.in_ok-push.ensures.items c.loop-last.invariant
