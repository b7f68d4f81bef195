use Rattle.std.proofs.Common.{◌∙◌, ap, sym, arith, map, take, ◌∷◌, []}
use Rattle.std.proofs.lemmas.List.{append-nil, take_all}
use Rattle.std.proofs.lemmas.Result.{IfOk-weaker}
use Rattle.merc_rights.specs.Groups.{held_variables}
use Rattle.merc_rights.specs.Rows.{row_of, pairs_from}
use Rattle.merc_rights.proofs.Indexes.{pairs_rise}
use Rattle.merc_rights.proofs.JoinLaws.{held_more}
use Rattle.merc_rights.proofs.conjuncts.set_of_held.Goals as goal

pub loop-group-preserved : goal.loop-group-preserved
loop-group-preserved c =
    held_more c.args.groups.now c.loop-group.group-index c.group-item.result c.loop-group.pairs.items c.put_held.new.pairs.items c.group-item.is c.loop-group-test.true c.loop-group.invariant c.in_ok-put_held.ensures

pub of-requires : goal.of-requires
of-requires c =
    let variables = held_variables (take c.loop-group.group-index c.args.groups.now) in
    pairs_rise c.loop-group.pairs.items (variables ∷ []) (c.loop-group.invariant ∙ sym (append-nil (map (λ variable. (variable, 0)) variables)))

pub returns : goal.returns
returns c =
    let variables = held_variables (take c.loop-group.group-index c.args.groups.now) in
    IfOk-weaker c.of.result _ _ (λ index told variable. told variable
    ∙ ap (row_of variable) (c.loop-group.invariant ∙ sym (append-nil (map (λ variable. (variable, 0)) variables))
    ∙ ap (λ l. pairs_from 0 (held_variables l ∷ [])) (take_all c.loop-group.group-index c.args.groups.now (omega (arith, c.loop-group-test.false))))) c.of.ensures
