use Rattle.std.proofs.Common.{◌∙◌, ◌∷◌, ◌++◌, ap, map, refl}
use Rattle.std.proofs.lemmas.Result.{on_ok_weaker}
use Rattle.merc_graded_tree.specs.declared.entries.Root.TheVariants.{Switch as SwitchRoot}
use Rattle.merc_switch.specs.declared.tasks.Task.TheVariants.{Close}
use Rattle.merc_switch.specs.Plans.{arm_plan}
use Rattle.merc_switch.proofs.JudgedGroups.{plans_switch, switch_label}
use Rattle.merc_switch.proofs.judging.plan_switch.Goals as goal

pub returns-in-Ok : goal.returns-in-Ok
returns-in-Ok c =
    let arms = c.in-Ok.arms in
    let group = c.args.group in
    let variable = c.args.variable in
    let closed = Close (switch_label variable group c.from_vec.result c.span-span.result) ∷ c.args.tasks.now in
    on_ok_weaker c.push_switch.result
    (λ put. plans_switch variable group arms.symbols.items c.from_vec.result arms.groups.items c.span-span.result c.args.tasks.now closed c.push_switch.new.tasks c.in-Ok.ensures.arms c.from_vec.ensures c.span-span.ensures refl
    (put ∙ ap (λ whole. map (λ disjuncts. arm_plan whole group.used group.left variable disjuncts) arms.groups.items ++ closed) c.in-Ok.ensures.whole)) c.push_switch.ensures
