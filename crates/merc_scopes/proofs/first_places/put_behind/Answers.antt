use Rattle.std.proofs.Common.{sym, ◌∙◌}
use Rattle.merc_scopes.specs.FirstPlaces.{place_in}
use Rattle.merc_scopes.proofs.PlaceLaws.{under_new, under_shared}
use Rattle.merc_scopes.proofs.first_places.put_behind.Goals as goal

pub loop-name-preserved : goal.loop-name-preserved
loop-name-preserved c =
    let from = place_in c.loop-name.behind in
    let from_new = place_in (record { by_name = c.pop_first.new.self }) in
    let all = place_in c.loop-name.all in
    let all_new = place_in (record { by_name = c.insert.new.self }) in
    let removed = c.in-Some.ensures.updates.0 in
    let inserted = c.in_ok-insert-in-None.ensures.updates.0 in
    let is = sym c.in-None.ensures.value in
    record {
      joined = λ name. under_new _ _ from from_new c.in-Some.ensures.value removed all all_new inserted is name ∙ c.loop-name.invariant.joined name;
      step = c.loop-name.invariant.step;
      twice = λ name. under_shared _ _ from from_new c.in-Some.ensures.value removed all all_new inserted is (place_in c.loop-name.shared.places name) name ∙ c.loop-name.invariant.twice name;
    }
