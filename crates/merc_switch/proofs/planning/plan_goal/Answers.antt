use Rattle.std.proofs.Common.{◌∙◌, ap}
use Rattle.merc_graded_tree.specs.declared.entries.Root.TheVariants.{Conjunction as ConjunctionRoot}
use Rattle.merc_switch_choice.proofs.BeginningLaws.{OnOk-weaker}
use Rattle.merc_switch.proofs.PlanLaws.{with_root, plans_conjunction, plans_disjunction}
use Rattle.merc_switch.proofs.planning.plan_goal.Goals as goal

pub returns-in_ok-push-in-Conjunction : goal.returns-in_ok-push-in-Conjunction
returns-in_ok-push-in-Conjunction c =
    let made = c.in_ok-label-in-Conjunction.ensures ∙ ap (λ n. with_root c.args.goal.now (ConjunctionRoot c.in-Conjunction.running n)) c.len.ensures in
    OnOk-weaker c.plan_conjuncts.result _ _ (plans_conjunction c.args.mark c.args.goal.now _ _ _ _ _ _ c.in-Conjunction.ensures made c.in_ok-push-in-Conjunction.ensures) c.plan_conjuncts.ensures

pub returns-in-Disjunction : goal.returns-in-Disjunction
returns-in-Disjunction c =
    OnOk-weaker c.plan_disjunction.result _ _ (plans_disjunction c.args.mark c.args.goal.now c.in-Disjunction.goals _ _ c.in-Disjunction.ensures) c.plan_disjunction.ensures
