use Rattle.std.proofs.Common.{[], ap}
use Rattle.merc_rights.specs.Rows.{row_of}
use Rattle.merc_rights.specs.Groups.{numbered}
use Rattle.merc_par_split.proofs.Leaving.{ok_weaker, members_left}
use Rattle.merc_par_split.proofs.placing.leave_alone.Goals as goal

pub returns : goal.returns
returns c =
    let members = c.in_ok-members.members in
    ok_weaker c.leave_members.result _ _
    (members_left c.args.first members.first c.args.goals.items members.goals.items [] c.none.result [] (numbered c.new.result.items) [] c.none-2.result c.args.tasks.now c.leave_members.new.tasks
    c.in_ok-members.ensures.first c.in_ok-members.ensures.goals (λ n. ap (λ l. row_of n l) c.none.ensures) (λ n. ap (λ l. row_of n (numbered l)) c.new.ensures.items) (λ n. ap (λ l. row_of n l) c.none-2.ensures))
    c.leave_members.ensures
