use Rattle.merc_rights.specs.Groups.{numbered}
use Rattle.merc_par_split.proofs.Leaving.{ok_weaker, arms_left}
use Rattle.merc_par_split.proofs.placing.leave_arms.Goals as goal

pub returns : goal.returns
returns c =
    let members = c.in_ok-members.members in
    let shares = c.in_ok-shares.shares in
    ok_weaker c.leave_members.result _ _
    (arms_left c.args.goals.items members.goals.items c.args.first members.first c.args.waits.now c.args.signals shares.waits (numbered shares.signals.items) shares.passed c.args.tasks.now c.leave_members.new.tasks
    c.in_ok-members.ensures.goals c.in_ok-members.ensures.first c.in_ok-shares.ensures.waits c.in_ok-shares.ensures.signals c.in_ok-shares.ensures.passed) c.leave_members.ensures
