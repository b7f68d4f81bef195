use Rattle.std.proofs.Common.{◌≡◌, ◌∙◌, ◌++◌, ◌∷◌, [], ap, sym, subst, length, refl, rules}
use Rattle.std.specs.Vec.Iter.{into_iter_items, into_iter_len}
use Rattle.merc_rights.specs.Groups.{all_rights, rights_in, AllFor}
use Rattle.merc_rights.specs.Rights.{with_rights}
use Rattle.merc_rights.proofs.SignalLaws.{none_left, with_append, all_front, all_back}
use Rattle.merc_rights.proofs.signals.with_others.Goals as goal

pub loop-other-init : goal.loop-other-init
loop-other-init c =
    let all : into_iter_items c.into_iter-other-iterator.result ≡ c.into_groups-other-items.result.items = search rules in
    let are : all_rights (into_iter_items c.into_iter-other-iterator.result) ≡ c.args.others = ap all_rights all ∙ c.into_groups-other-items.ensures in
    record {
      same = refl;
      left = λ one. (subst (AllFor c.args.own.variable) (sym are) one, ap (λ l. with_rights l (rights_in c.args.own)) are);
    }

pub loop-other-preserved : goal.loop-other-preserved
loop-other-preserved c =
    let variable = c.args.own.variable in
    let group = c.loop-other.group in
    let other = c.in-Some.other in
    let rest = into_iter_items c.next.new.self in
    let step : into_iter_items c.loop-other.other-iterator ≡ other ∷ rest = c.in-Some.ensures.steps.0 in
    record {
      same = c.in_ok-group.ensures.variable ∙ c.loop-other.invariant.same;
      left = λ one.
          let so = c.loop-other.invariant.left one in
          let both : AllFor variable (rights_in other ++ all_rights rest) = subst (λ l. AllFor variable (all_rights l)) step so.0 in
          let now = c.in_ok-group.ensures.rights (subst (λ v. AllFor v (rights_in other)) (sym c.loop-other.invariant.same) (all_front variable (rights_in other) (all_rights rest) both)) in (
            all_back variable (rights_in other) (all_rights rest) both,
            ap (with_rights (all_rights rest)) now ∙ sym (with_append (rights_in other) (all_rights rest) (rights_in group))
                ∙ ap (λ l. with_rights (all_rights l) (rights_in group)) (sym step) ∙ so.1,
          );
    }

pub returns : goal.returns
returns c one =
    let it = c.loop-other.other-iterator in
    let counted : length (into_iter_items it) ≡ into_iter_len it = search rules in
    let ended : into_iter_items it ≡ [] = none_left (into_iter_items it) (counted ∙ c.in-None.ensures.steps.0) in
    ap (λ l. with_rights (all_rights l) (rights_in c.loop-other.group)) (sym ended) ∙ (c.loop-other.invariant.left one).1
