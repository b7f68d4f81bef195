use Rattle.std.proofs.Common.{List, ◌∷◌, [], Option, refl, ap, sym, subst, ◌∙◌, reverse}
use Rattle.std.proofs.lemmas.List.{reverse-append}
use Rattle.merc_type_check.specs.declared.building.Frame.{Frame}
use Rattle.merc_type_check.specs.Building.{Finds, IsUnderWay}
use Rattle.merc_type_check.proofs.Built.{under_way_found, under_way_argument, less_found, less_argument}
use Rattle.merc_type_check.proofs.checker.Checker.argument.Goals as goal

pub returns-in_ok-push-in-Some-clause-under_way : goal.returns-in_ok-push-in-Some-clause-under_way
returns-in_ok-push-in-Some-clause-under_way c = λ start whole is.
    under_way_found c.args.user start c.args.self.now c.part.new.self c.args.built.now c.part.new.built c.args.frame
    (record { number = c.args.frame.number; rest = c.args.rest; places = c.push.new.self }) (reverse c.args.below.now.items) c.args.first c.args.rest c.in-Some.place whole
    c.requires.split (subst (λ (o : Option _). Finds c.args.user c.args.self.now c.part.new.self c.part.new.built c.args.first o) c.in-Some.is c.in_ok-place.ensures.found) refl refl
    c.in_ok-push-in-Some.ensures.items is

pub returns-in_ok-push-in-Some-clause-less : goal.returns-in_ok-push-in-Some-clause-less
returns-in_ok-push-in-Some-clause-less c =
    less_found c.args.self.now.graph.table c.args.frame (record { number = c.args.frame.number; rest = c.args.rest; places = c.push.new.self }) (reverse c.args.below.now.items)
    c.args.first c.args.rest c.requires.split refl

pub returns-in_ok-push-in-None-clause-under_way : goal.returns-in_ok-push-in-None-clause-under_way
returns-in_ok-push-in-None-clause-under_way c = λ start whole is.
    let waits : Frame = record { number = c.args.frame.number; rest = c.args.rest; places = c.args.frame.places } in
    let top : Frame = record { number = c.args.first; rest = c.args.first; places = c.new.result } in
    subst (λ (l : List Frame). IsUnderWay c.args.user start c.part.new.self c.part.new.built top l whole)
    (sym (ap reverse c.in_ok-push-in-None.ensures.items ∙ reverse-append c.args.below.now.items (waits ∷ [])))
    (under_way_argument c.args.user start c.args.self.now c.part.new.self c.args.built.now c.part.new.built c.args.frame waits top (reverse c.args.below.now.items) c.args.first c.args.rest whole
    c.requires.split (subst (λ (o : Option _). Finds c.args.user c.args.self.now c.part.new.self c.part.new.built c.args.first o) c.in-None.is c.in_ok-place.ensures.found) refl refl refl refl refl
    c.new.ensures.items is)

pub returns-in_ok-push-in-None-clause-less : goal.returns-in_ok-push-in-None-clause-less
returns-in_ok-push-in-None-clause-less c =
    let waits : Frame = record { number = c.args.frame.number; rest = c.args.rest; places = c.args.frame.places } in
    let top : Frame = record { number = c.args.first; rest = c.args.first; places = c.new.result } in
    rw (ap reverse c.in_ok-push-in-None.ensures.items ∙ reverse-append c.args.below.now.items (waits ∷ []))
    (less_argument c.args.self.now.graph.table c.args.frame waits top (reverse c.args.below.now.items) c.args.first c.args.rest c.requires.split refl refl)
