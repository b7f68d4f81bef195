use Rattle.std.proofs.Common.{◌-◌, arith}
use Rattle.std.proofs.lemmas.Result.{IfOk-equal}
use Rattle.merc_flat_form.proofs.FrameLaws.{only_one, many_joined}
use Rattle.merc_flat_form.proofs.closing.make_one.Goals as goal

pub returns-then-count-eq1 : goal.returns-then-count-eq1
returns-then-count-eq1 c = only_one c.args.start c.args.span c.args.nodes.now (omega (arith, c.len.ensures))

pub returns : goal.returns
returns c =
    IfOk-equal c.conjoin.result _ _ _ c.conjoin.ensures.ok
    (many_joined c.args.start (c.len.result - c.args.start) c.args.span c.args.nodes.now c.requires (omega (arith, c.len.ensures)) (omega arith))
