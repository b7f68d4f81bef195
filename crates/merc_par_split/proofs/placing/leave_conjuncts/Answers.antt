use Rattle.std.proofs.Common.{◌∙◌, ap}
use Rattle.std.specs.List.{filter}
use Rattle.merc_graded_tree.specs.Nodes.{nodes_of}
use Rattle.merc_rights.specs.Waits.{rights_of, moves, stays}
use Rattle.merc_par_split.proofs.Leaving.{ok_weaker, conjuncts_left}
use Rattle.merc_par_split.proofs.placing.leave_conjuncts.Goals as goal

pub returns : goal.returns
returns c =
    let members = c.in_ok-members.members in
    let goals = nodes_of members.goals.items in
    let parted = c.in_ok-parted.parted in
    let left = c.in_ok-leave_parted.ensures in
    ok_weaker c.push.result _ _
    (conjuncts_left c.args.placing.now c.args.goals members.goals.items members.first parted.inside parted.before left.0 c.span-span.result c.args.sites.now.items c.leave_parted.new.sites.items
    c.args.tasks.now c.leave_parted.new.tasks c.push.new.self (c.in_ok-members.ensures.goals ∙ c.in_ok-listed.ensures) c.in_ok-members.ensures.first c.span-span.ensures
    (c.in_ok-parted.ensures.before ∙ ap (λ l. rights_of (filter (stays goals) l)) c.as_slice.ensures) (c.in_ok-parted.ensures.inside ∙ ap (filter (moves goals)) c.as_slice.ensures)
    left.1.0 left.1.1.0 left.1.1.1) c.push.ensures
