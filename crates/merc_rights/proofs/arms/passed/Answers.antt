use Rattle.std.proofs.Common.{◌∙◌, [], ap}
use Rattle.std.specs.List.{flat_map}
use Rattle.std.proofs.lemmas.List.{take_all}
use Rattle.std.proofs.lemmas.Result.{IfOk-weaker}
use Rattle.merc_rights.specs.Members.{pass_shares}
use Rattle.merc_rights.specs.Rows.{row_of}
use Rattle.merc_rights.proofs.Indexes.{flat_more}
use Rattle.merc_rights.proofs.arms.passed.Goals as goal

pub loop-wait-preserved : goal.loop-wait-preserved
loop-wait-preserved c =
    flat_more (pass_shares c.args.members.now.goals.items) c.args.waits.now c.loop-wait.wait-index c.wait-item.result [] c.loop-wait.found.items c.put_if_later.new.found.items
    c.wait-item.is c.loop-wait-test.true c.loop-wait.invariant
    c.in_ok-put_if_later.ensures

pub returns : goal.returns
returns c =
    IfOk-weaker c.of.result _ _ (λ rows told number. told number ∙ ap (row_of number) (c.loop-wait.invariant
    ∙ ap (flat_map (pass_shares c.args.members.now.goals.items)) (take_all c.loop-wait.wait-index c.args.waits.now c.loop-wait-test.false))) c.of.ensures
