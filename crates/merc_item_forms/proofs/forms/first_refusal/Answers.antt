use Rattle.std.proofs.Common.{◌<◌, ◌==◌, length, sym, ap, ◌∙◌, arith}
use Rattle.merc_item_forms.specs.FormFaults.{opened}
use Rattle.merc_item_forms.proofs.FormWalk.{refused_at, passed_at, first_by, all_passed}
use Rattle.merc_item_forms.proofs.forms.first_refusal.Goals as goal

pub returns-in-Some-2 : goal.returns-in-Some-2
returns-in-Some-2 c =
    let terms = c.args.terms.now in
    let within : c.loop-index.index < length terms = omega (arith, c.loop-index-test.true, c.len-index-end.ensures) in
    refused_at c.args.names.now c.opened-own.result terms c.loop-index.index within _ c.loop-index.invariant c.in-Some-2.refusal (sym c.in-Some-2.is ∙ c.in_ok-refusal.ensures)
    ∙ first_by c.args.names.now c.opened-own.result terms c.in-Some.first c.in-Some.ensures (c.opened-own.ensures ∙ ap opened c.item_of.ensures)

pub loop-index-preserved : goal.loop-index-preserved
loop-index-preserved c =
    let terms = c.args.terms.now in
    let within : c.loop-index.index < length terms = omega (arith, c.loop-index-test.true, c.len-index-end.ensures) in
    passed_at c.args.names.now c.opened-own.result terms c.loop-index.index within _ c.loop-index.invariant (sym c.in_default.is ∙ c.in_ok-refusal.ensures)

pub returns : goal.returns
returns c =
    let terms = c.args.terms.now in
    all_passed c.args.names.now c.opened-own.result (c.loop-index.index == 0) terms c.loop-index.index (omega (arith, c.loop-index-test.false, c.len-index-end.ensures))
    ∙ c.loop-index.invariant
    ∙ first_by c.args.names.now c.opened-own.result terms c.in-Some.first c.in-Some.ensures (c.opened-own.ensures ∙ ap opened c.item_of.ensures)
