use Rattle.std.proofs.Common.{◌∙◌, ◌+◌, ap}
use Rattle.merc_rights.proofs.MemberLaws.{starts_more, starts_end}
use Rattle.merc_rights.proofs.members.starts.Goals as goal

pub loop-goal-preserved : goal.loop-goal-preserved
loop-goal-preserved c =
    starts_more c.args.goals.now c.loop-goal.goal-index c.goal-item.result c.loop-goal.start c.in_ok-start.start c.loop-goal.starts.items c.push.new.self.items _
    c.goal-item.is c.loop-goal-test.true c.in_ok-push.ensures.items (c.in_ok-start.ensures ∙ ap (λ n. c.loop-goal.start + n) c.part_count.ensures) c.loop-goal.invariant

pub returns : goal.returns
returns c =
    starts_end c.args.goals.now c.loop-goal.goal-index c.loop-goal.start c.loop-goal.starts.items c.push-2.new.self.items _ c.loop-goal-test.false c.in_ok-push-2.ensures.items c.loop-goal.invariant
