use Rattle.std.proofs.Common.{[], ap, refl}
use Rattle.merc_rights.specs.Groups.{numbered}
use Rattle.merc_rights.specs.Rows.{row_of}
use Rattle.merc_par_split.proofs.Leaving.{ok_weaker, members_left}
use Rattle.merc_par_split.proofs.placing.leave_found.Goals as goal

pub returns-clause-tasks : goal.returns-clause-tasks
returns-clause-tasks c =
    let members = c.args.members in
    let found = c.args.found in
    let signals = numbered found.signals.items in
    ok_weaker c.leave_members.result _ _
    (members_left members.first members.first members.goals.items members.goals.items found.waits.items c.in_ok-of.field-0 signals signals [] c.none.result
    c.args.tasks.now c.leave_members.new.tasks refl refl c.in_ok-of.ensures (λ n. refl) (λ n. ap (λ l. row_of n l) c.none.ensures)) c.leave_members.ensures
