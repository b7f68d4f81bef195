use Rattle.std.proofs.Common.{◌∙◌, ap, sym, arith, map, take, ◌∷◌, [], ◌+◌, ℕ, List}
use Rattle.std.proofs.lemmas.List.{take_all, take-map}
use Rattle.std.proofs.lemmas.Result.{IfOk-weaker}
use Rattle.merc_rights.specs.Rows.{row_of, pairs_from}
use Rattle.merc_rights.specs.declared.groups.NumberedGroup.{NumberedGroup}
use Rattle.merc_rights.proofs.Indexes.{pairs_more, pairs_rise, got}
use Rattle.merc_rights.proofs.conjuncts.places.Goals as goal

abbrev variable_at : NumberedGroup → List ℕ
variable_at item = item.group.variable ∷ []

pub loop-place-preserved : goal.loop-place-preserved
loop-place-preserved c =
    let groups = c.args.groups.now in
    let place = c.loop-place.place in
    pairs_more variable_at groups place c.index-groups-place.result c.loop-place.pairs.items c.put.new.pairs.items
    (got groups place c.index-groups-place.result c.index-groups-place.is c.loop-place-test.true) (c.loop-place.invariant ∙ ap (λ l. pairs_from 0 l) (sym (take-map variable_at place groups)))
    c.in_ok-put.ensures
    ∙ ap (λ l. pairs_from 0 l) (take-map variable_at (place + 1) groups)

pub of-requires : goal.of-requires
of-requires c = pairs_rise c.loop-place.pairs.items (map variable_at (take c.loop-place.place c.args.groups.now)) c.loop-place.invariant

pub returns : goal.returns
returns c =
    IfOk-weaker c.of.result _ _ (λ index told variable. told variable
    ∙ ap (row_of variable) (c.loop-place.invariant ∙ ap (λ l. pairs_from 0 (map variable_at l)) (take_all c.loop-place.place c.args.groups.now (omega (arith, c.loop-place-test.false))))) c.of.ensures
