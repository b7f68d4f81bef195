use Rattle.std.proofs.Common.{◌≡◌, ◌≤◌, ℕ, List, length, refl, sym, subst}
use Rattle.std.proofs.lemmas.List.{take_all}
use Rattle.std.proofs.lemmas.Option.{slice_get_read}
use Rattle.merc_type_matching.specs.declared.matching.NamePair.{NamePair}
use Rattle.merc_type_matching.specs.Matched.{AgreeOn}
use Rattle.merc_type_check.specs.Progress.{Nothing, Step}
use Rattle.merc_type_check.proofs.Steps.{grow_nothing, step_as}
use Rattle.merc_type_check.proofs.Asked.{pairs_refused, pairs_step, refused, taken}
use Rattle.merc_type_check.proofs.checker.Checker.stand_alike.Goals as goal

pub loop-pair-init : goal.loop-pair-init
loop-pair-init c =
    step_as c.args.self.now c.args.self.now Nothing _ (λ types instance asked. tt) (λ types instance asked. tt) (grow_nothing c.args.self.now c.requires.sound)

pub stands_alike-requires-clause-sound : goal.stands_alike-requires-clause-sound
stands_alike-requires-clause-sound c = c.loop-pair.invariant.sound

pub stands_alike-requires-clause-one : goal.stands_alike-requires-clause-one
stands_alike-requires-clause-one c = subst (λ (n : ℕ). c.args.one ≤ n) (sym c.loop-pair.invariant.same_part) c.requires.one

pub stands_alike-requires-clause-other : goal.stands_alike-requires-clause-other
stands_alike-requires-clause-other c = subst (λ (n : ℕ). c.args.other ≤ n) (sym c.loop-pair.invariant.same_part) c.requires.other

pub loop-pair-preserved : goal.loop-pair-preserved
loop-pair-preserved c =
    pairs_step c.args.one c.args.other c.args.self.now c.loop-pair.self c.stands_alike.new.self c.args.pairs.now c.loop-pair.pair-index c.pair-item.result
    (slice_get_read c.args.pairs.now (length c.args.pairs.now) c.loop-pair.pair-index c.pair-item.result refl c.loop-pair-test.true c.pair-item.is)
    c.loop-pair.invariant
    (taken c.in_ok-done.done c.loop-pair.self c.stands_alike.new.self (λ types instance. instance c.args.one c.pair-item.result.one ≡ instance c.args.other c.pair-item.result.other)
    c.if-not-done.false c.in_ok-done.ensures)

pub returns-then-not-done : goal.returns-then-not-done
returns-then-not-done c =
    pairs_refused c.args.one c.args.other c.args.self.now c.loop-pair.self c.args.pairs.now c.loop-pair.pair-index c.pair-item.result
    (slice_get_read c.args.pairs.now (length c.args.pairs.now) c.loop-pair.pair-index c.pair-item.result refl c.loop-pair-test.true c.pair-item.is)
    c.loop-pair.invariant
    (refused c.in_ok-done.done c.loop-pair.self c.stands_alike.new.self
    (λ types instance. instance c.args.one c.pair-item.result.one ≡ instance c.args.other c.pair-item.result.other) c.if-not-done.true c.in_ok-done.ensures)

pub returns : goal.returns
returns c =
    subst (λ (l : List NamePair). Step c.args.self.now c.loop-pair.self (λ types instance. AgreeOn (instance c.args.one) (instance c.args.other) l))
    (take_all c.loop-pair.pair-index c.args.pairs.now c.loop-pair-test.false) c.loop-pair.invariant
