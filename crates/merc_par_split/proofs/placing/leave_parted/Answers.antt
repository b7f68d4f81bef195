use Rattle.std.proofs.Common.{◌∙◌, ◌++◌, [], ap, length, subst}
use Rattle.merc_par_split.specs.Constructs.{site_tasks, FindsMoved}
use Rattle.merc_par_split.specs.Tasks.{member_tasks, shares_of}
use Rattle.merc_rights.specs.Groups.{numbered}
use Rattle.merc_par_split.proofs.Leaving.{ok_both}
use Rattle.merc_par_split.proofs.placing.leave_parted.Goals as goal

pub returns : goal.returns
returns c =
    let members = c.args.members in
    let goals = members.goals.items in
    let found = c.in_ok-found.found in
    let number = length c.args.sites.now.items in
    let front = member_tasks members.first (shares_of 0 goals found.waits.items (numbered found.signals.items) []) in
    let finds : FindsMoved goals c.args.placing.now c.args.parted.now.inside found = subst (λ l. FindsMoved goals c.args.placing.now l found) c.as_slice-inside.ensures c.in_ok-found.ensures.found in
    ok_both c.leave_beside.result _ _ _
    (λ tasks sites. (
      found,
      (
        finds,
        (
          sites,
          tasks ∙ ap (λ g. front ++ (site_tasks g (length goals) number (length c.as_slice-before.result.now) ++ c.args.tasks.now)) c.in_ok-found.ensures.goal
              ∙ ap (λ n. front ++ (site_tasks c.args.placing.now.goal (length goals) number n ++ c.args.tasks.now)) (ap length c.as_slice-before.ensures),
        ),
      ),
    )) c.leave_beside.ensures.tasks c.leave_beside.ensures.sites
