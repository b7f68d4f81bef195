use Rattle.std.proofs.Common.{◌∙◌, ap, sym, arith, map, take, ◌++◌, ◌+◌}
use Rattle.std.proofs.lemmas.List.{take_all, take-map}
use Rattle.std.proofs.lemmas.Result.{IfOk-weaker}
use Rattle.merc_graded_tree.specs.Nodes.{outputs_of}
use Rattle.merc_rights.specs.Rows.{row_of, pairs_from}
use Rattle.merc_rights.proofs.Indexes.{pairs_more, pairs_rise, got}
use Rattle.merc_rights.proofs.members.binders.Goals as goal

pub loop-number-preserved : goal.loop-number-preserved
loop-number-preserved c =
    let goals = c.args.goals.now in
    let number = c.loop-number.number in
    pairs_more outputs_of goals number c.index-goals-number.result c.loop-number.pairs.items c.put_all.new.pairs.items
    (got goals number c.index-goals-number.result c.index-goals-number.is c.loop-number-test.true) (c.loop-number.invariant ∙ ap (λ l. pairs_from 0 l) (sym (take-map outputs_of number goals)))
    (c.in_ok-put_all.ensures ∙ ap (λ l. c.loop-number.pairs.items ++ map (λ variable. (variable, number)) l) (c.as_slice.ensures ∙ c.outputs.ensures))
    ∙ ap (λ l. pairs_from 0 l) (take-map outputs_of (number + 1) goals)

pub of-requires : goal.of-requires
of-requires c = pairs_rise c.loop-number.pairs.items (map outputs_of (take c.loop-number.number c.args.goals.now)) c.loop-number.invariant

pub returns : goal.returns
returns c =
    IfOk-weaker c.of.result _ _ (λ index told variable. told variable ∙ ap (row_of variable) (c.loop-number.invariant ∙ ap (λ l. pairs_from 0 (map outputs_of l)) (take_all c.loop-number.number c.args.goals.now (omega (arith, c.loop-number-test.false))))) c.of.ensures
