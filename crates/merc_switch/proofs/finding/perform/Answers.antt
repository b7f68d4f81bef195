use Rattle.merc_switch_choice.proofs.BeginningLaws.{OnOk-weaker}
use Rattle.merc_switch.proofs.TaskSteps.{performs_find, performs_keep, performs_bind, performs_unbind, performs_judge, performs_close, close_enough}
use Rattle.merc_switch.proofs.finding.perform.Goals as goal

pub returns-in-Find : goal.returns-in-Find
returns-in-Find c = OnOk-weaker c.plan_goal.result _ _ (performs_find _ _ _ _ _ c.in-Find.goal _ _ c.in-Find.is c.len.ensures) c.plan_goal.ensures

pub returns-in-Keep : goal.returns-in-Keep
returns-in-Keep c = OnOk-weaker c.put_copy.result _ _ (performs_keep _ _ _ _ _ c.in-Keep.goal _ c.in-Keep.is) c.put_copy.ensures

pub returns-in-Bind : goal.returns-in-Bind
returns-in-Bind c = OnOk-weaker c.add_all.result _ _ (performs_bind _ _ _ _ _ c.in-Bind.goal _ _ _ c.in-Bind.is c.outputs.ensures c.as_slice.ensures) c.add_all.ensures

pub returns-in-Unbind : goal.returns-in-Unbind
returns-in-Unbind c = performs_unbind _ _ _ _ _ c.in-Unbind.mark _ c.in-Unbind.is c.truncate.ensures

pub returns-in-Judge : goal.returns-in-Judge
returns-in-Judge c = OnOk-weaker c.judge.result _ _ (performs_judge _ _ _ _ _ c.in-Judge.group _ c.in-Judge.is) c.judge.ensures

pub put-requires : goal.put-requires
put-requires c = close_enough _ _ _ c.in-Close.label c.in-Close.is c.requires

pub returns-in-Close : goal.returns-in-Close
returns-in-Close c = OnOk-weaker c.put.result _ _ (performs_close _ _ _ _ _ c.in-Close.label _ c.in-Close.is) c.put.ensures.ok
