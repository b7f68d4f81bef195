use Rattle.std.proofs.Common.{◌∙◌, refl}
use Rattle.merc_graded_tree.specs.declared.entries.Root.TheVariants.{Conjunction}
use Rattle.merc_graded_tree.specs.declared.entries.Running.TheVariants.{Sequential}
use Rattle.merc_par_split.specs.Tasks.{relabelled}
use Rattle.merc_rights.specs.Groups.{numbered}
use Rattle.merc_par_split.proofs.Leaving.{ok_weaker, turns_left}
use Rattle.merc_par_split.proofs.placing.leave_turns.Goals as goal

pub returns : goal.returns
returns c =
    let members = c.in_ok-members.members in
    let shares = c.in_ok-shares.shares in
    let placing = c.args.placing.now in
    ok_weaker c.leave_members.result _ _
    (turns_left placing c.args.goals members.goals.items members.first c.len.result placing.waits placing.signals shares.waits (numbered shares.signals.items) shares.passed
    (relabelled placing.goal (Conjunction Sequential c.len.result)) c.args.tasks.now c.leave_close.new.tasks c.leave_members.new.tasks
    (c.in_ok-members.ensures.goals ∙ c.in_ok-listed.ensures) c.in_ok-members.ensures.first refl refl c.in_ok-shares.ensures.waits c.in_ok-shares.ensures.signals c.in_ok-shares.ensures.passed
    refl c.len.ensures c.in_ok-leave_close.ensures) c.leave_members.ensures
