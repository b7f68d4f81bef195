use Rattle.std.proofs.Common.{◌∙◌, ap, not, ◌∷◌, [], length, arith}
use Rattle.merc_rights.specs.Members.{spared}
use Rattle.merc_rights.proofs.Indexes.{step_at, unless_is}
use Rattle.merc_rights.proofs.arms.spared_by.Goals as goal

pub loop-number-preserved : goal.loop-number-preserved
loop-number-preserved c =
    step_at (λ number. number) (spared c.args.variable) c.loop-number.number c.args.members.now.goals.items (not c.is_user-used.result) c.loop-number.numbers.items c.put_unless.new.numbers.items _
    (omega (arith, c.loop-number-test.true, ap length c.as_slice-number-end.ensures.value)) (λ d less. ap not (c.is_user-used.ensures d less)) (c.in_ok-put_unless.ensures ∙ unless_is c.is_user-used.result c.loop-number.numbers.items (c.loop-number.number ∷ [])) c.loop-number.invariant
