use Rattle.std.proofs.Common.{◌∷◌, [], map, subst}
use Rattle.std.proofs.lemmas.Result.{IfOk-weaker}
use Rattle.merc_rights.specs.Groups.{numbered}
use Rattle.merc_rights.specs.Rows.{Tells}
use Rattle.merc_rights.proofs.JoinLaws.{are_at}
use Rattle.merc_rights.proofs.conjuncts.with_moved.Goals as goal

pub returns : goal.returns
returns c =
    let own = c.args.own.items in
    let lists = map (λ item. item.group.variable ∷ []) own in
    let tells : Tells c.in_ok-places.places lists = subst (λ l. Tells c.in_ok-places.places (map (λ item. item.group.variable ∷ []) l)) c.deref.ensures.value c.in_ok-places.ensures in
    IfOk-weaker c.joined.result _ _ (λ all is. is c.args.signals
    (are_at own c.args.signals (numbered c.in_ok-spread_all.field-0.items) (numbered c.in_ok-moved.moved.items) (c.in_ok-spread_all.ensures lists tells) c.in_ok-moved.ensures.same)) c.joined.ensures
