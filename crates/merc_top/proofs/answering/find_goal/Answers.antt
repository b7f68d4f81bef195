-- A goal that breaks a rule is refused by that rule; else its run is made ready.
use Rattle.std.proofs.Common.{lit<, codes, refl}
use Rattle.merc_check.specs.Checked.{RefusesQuery}
use Rattle.merc_transfer.specs.Statuses.{goal_status}
use Rattle.merc_top.specs.Output.IsDue.{goal_refused}
use Rattle.merc_top.proofs.Dues.{fault-goal, one-goal, run-found}
use Rattle.merc_top.proofs.answering.find_goal.Goals as goal

pub prepare-requires : goal.prepare-requires
prepare-requires c =
    let checked = c.args.checked.now in
    let query = c.in-Ok.query in
    one-goal c.requires.0 c.args.goal.now c.args.names c.check_query.new.names checked.items checked.module checked.trees query.goal query.trees c.requires.1
    c.in-Ok.ensures.accepted c.in-Ok.ensures.graded

pub returns-in_ok-ready-in-Ok : goal.returns-in_ok-ready-in-Ok
returns-in_ok-ready-in-Ok c = λ name text accepted graded.
    let checked = c.args.checked.now in
    let query = c.in-Ok.query in
    run-found text c.args.goal.now c.args.names c.check_query.new.names checked.items checked.module checked.trees query.goal query.trees accepted
    c.in-Ok.ensures.accepted c.in-Ok.ensures.graded name c.args.steps c.args.most query.names query.answers c.in_ok-ready-in-Ok.ready
    graded c.in-Ok.ensures.names c.in-Ok.ensures.answers c.in_ok-ready-in-Ok.ensures

pub returns-in_ok-due-in-Err : goal.returns-in_ok-due-in-Err
returns-in_ok-due-in-Err c = λ name text accepted graded.
    let checked = c.args.checked.now in
    fault-goal name text c.args.goal.now (codes "goal") (codes "goal") c.args.steps c.args.most goal_status c.in-Err.fault c.in_ok-due-in-Err.due
    (RefusesQuery c.args.names checked.module c.args.goal.now) refl (lit< tt)
    (λ refusal refuses. goal_refused c.args.names checked.items checked.module refusal accepted refuses) c.in-Err.ensures.refused c.in_ok-due-in-Err.ensures
