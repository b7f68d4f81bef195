use Rattle.std.proofs.Common.{sym, ap, ◌∙◌}
use Rattle.std.specs.Option.{is_some}
use Rattle.merc_scopes.specs.FirstPlaces.{place_in}
use Rattle.merc_scopes.proofs.PlaceLaws.{over, over_new}
use Rattle.merc_scopes.proofs.first_places.put_before.Goals as goal

pub loop-name-preserved : goal.loop-name-preserved
loop-name-preserved c =
    let from = place_in c.loop-name.before in
    let from_new = place_in (record { by_name = c.pop_first.new.self }) in
    let all = place_in c.loop-name.all in
    let all_new = place_in (record { by_name = c.insert.new.self }) in
    let removed = c.in-Some.ensures.updates.0 in
    let inserted = c.in_ok-insert.ensures.updates.0 in
    let is = ap is_some (sym c.in_ok-insert.ensures.old) ∙ sym c.is_some.ensures ∙ c.if-is_some.false in
    record {
      joined = λ name. over _ _ from from_new c.in-Some.ensures.value removed all all_new inserted name ∙ c.loop-name.invariant.joined name;
      step = c.loop-name.invariant.step;
      twice = λ name. over_new _ _ from from_new c.in-Some.ensures.value removed all all_new inserted is (place_in c.loop-name.shared.places name) name ∙ c.loop-name.invariant.twice name;
    }
