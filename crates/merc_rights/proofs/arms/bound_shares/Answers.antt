use Rattle.std.proofs.Common.{◌∙◌, ap, map, subst}
use Rattle.std.proofs.lemmas.Result.{IfOk-weaker}
use Rattle.merc_graded_tree.specs.Nodes.{outputs_of}
use Rattle.merc_rights.specs.Rows.{row_of, Tells}
use Rattle.merc_rights.proofs.SpreadLaws.{shares_bound}
use Rattle.merc_rights.proofs.arms.bound_shares.Goals as goal

pub returns : goal.returns
returns c =
    let goals = c.args.members.now.goals.items in
    let tells : Tells c.in_ok-binders.binders (map outputs_of goals) = subst (λ l. Tells c.in_ok-binders.binders (map outputs_of l)) c.deref.ensures.value c.in_ok-binders.ensures in
    IfOk-weaker c.spread_all.result _ _ (λ shares told number. told (map outputs_of goals) tells number ∙ ap (row_of number) (shares_bound goals c.args.signals)) c.spread_all.ensures
