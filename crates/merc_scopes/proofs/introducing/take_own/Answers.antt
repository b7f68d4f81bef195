use Rattle.std.proofs.Common.{◌≡◌, ◌++◌, ap, sym, ◌∙◌}
use Rattle.std.proofs.lemmas.List.{append-nil}
use Rattle.merc_scopes.specs.FirstPlaces.{place_in}
use Rattle.merc_scopes.proofs.Owning.{listed, take_none, take_more, take_all}
use Rattle.merc_scopes.proofs.introducing.take_own.Goals as goal
use Rattle.merc_scopes.proofs.introducing.take_own.Goals.{in-Some+in_ok-push, in_default}

pub loop-name-init : goal.loop-name-init
loop-name-init c = λ found holds. take_none (place_in c.args.places.now) c.new-own.result c.args.variables.now found c.new-own.ensures holds

pub loop-name-preserved : goal.loop-name-preserved
loop-name-preserved c = λ found holds.
    let name = c.name-item.result in
    let places = place_in c.loop-name.places in
    let pushed : c.match-take.own ≡ c.loop-name.own ++ listed name (places name) = elim c.match-take.branch [
      | in-Some+in_ok-push w ↦ w.own-is ∙ w.in_ok-push.ensures.ok ∙ ap (λ o. c.loop-name.own ++ listed name o) w.in-Some.ensures.taken
      | in_default w ↦ w.own-is ∙ sym (append-nil c.loop-name.own) ∙ ap (λ o. c.loop-name.own ++ listed name o) w.in_default.ensures.taken
    ] in
    take_more places (place_in c.take.new.self) c.loop-name.own c.match-take.own c.args.variables.now c.loop-name.name-index name found _ c.loop-name-test.true c.name-item.is pushed c.take.ensures.places
    (c.loop-name.invariant found holds)

pub returns : goal.returns
returns c = λ found holds. take_all (place_in c.loop-name.places) c.loop-name.own c.args.variables.now c.loop-name.name-index found _ c.loop-name-test.false (c.loop-name.invariant found holds)
