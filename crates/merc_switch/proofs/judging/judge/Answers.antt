use Rattle.std.proofs.Common.{◌∙◌, ◌++◌, ap}
use Rattle.std.proofs.lemmas.Result.{on_ok_weaker}
use Rattle.merc_switch.specs.Plans.{group_plan}
use Rattle.merc_switch.proofs.InnerGroups.{choice_split}
use Rattle.merc_switch.proofs.JudgedGroups.{judges}
use Rattle.merc_switch.proofs.judging.judge.Goals as goal

pub plan_group-requires : goal.plan_group-requires
plan_group-requires c = choice_split c.args.known.now.types c.args.bound.now c.enter_arms.new.group c.in-Ok.choice c.in-Ok.ensures.choice

pub returns-in-Ok : goal.returns-in-Ok
returns-in-Ok c =
    let group = c.enter_arms.new.group in
    let tasks = c.enter_arms.new.tasks in
    on_ok_weaker c.plan_group.result
    (λ put goals. c.in-Ok.ensures.planned goals c.plan_group.new.tasks
    (judges c.args.known.now.types group tasks c.plan_group.new.tasks goals c.args.bound.now (put ∙ ap (λ o. group_plan o group ++ tasks) c.in-Ok.ensures.choice))) c.plan_group.ensures
