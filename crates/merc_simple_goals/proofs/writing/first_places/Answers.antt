use Rattle.std.proofs.Common.{◌+◌, sym, subst, take, arith}
use Rattle.std.proofs.lemmas.List.{take_all}
use Rattle.std.proofs.lemmas.List.Filters.{dedup_is}
use Rattle.merc_simple_goals.specs.Places.{AreFirstPlaces}
use Rattle.merc_simple_goals.proofs.Firsts.{AreFirsts, next_firsts, next_same, firsts_sorted}
use Rattle.merc_simple_goals.proofs.writing.first_places.Goals as goal
use Rattle.merc_simple_goals.proofs.writing.first_places.Goals.{in-Some+in_ok-push, in_default}

pub loop-variable-preserved : goal.loop-variable-preserved
loop-variable-preserved c =
    let index = c.loop-variable.variable-index in
    let variables = c.args.variables.now in
    elim c.match-first.branch [
      | in-Some+in_ok-push w ↦
          subst (λ places. AreFirsts c.args.start c.args.end (take (index + 1) variables) c.args.all.now places.items) (sym w.places-is)
          (subst (AreFirsts c.args.start c.args.end (take (index + 1) variables) c.args.all.now) (sym w.in_ok-push.ensures.items)
          (next_firsts c.args.start c.args.end variables index c.variable-item.result c.args.all.now c.loop-variable.places.items c.within.result.now w.in-Some.place.now c.loop-variable.invariant
          c.loop-variable-test.true c.variable-item.is c.within.ensures w.in-Some.ensures.value))
      | in_default w ↦
          subst (λ places. AreFirsts c.args.start c.args.end (take (index + 1) variables) c.args.all.now places.items) (sym w.places-is)
          (next_same c.args.start c.args.end variables index c.variable-item.result c.args.all.now c.loop-variable.places.items c.within.result.now c.loop-variable.invariant c.loop-variable-test.true c.variable-item.is c.within.ensures
          w.in_default.ensures.value)
    ]

pub returns : goal.returns
returns c =
    let all = take_all c.loop-variable.variable-index c.args.variables.now (omega (arith, c.loop-variable-test.false)) in
    subst (AreFirstPlaces c.args.start c.args.end c.args.variables.now c.args.all.now) (sym (dedup_is _ _ _ c.dedup.ensures.filtered))
    (firsts_sorted c.args.start c.args.end c.args.variables.now c.args.all.now c.loop-variable.places.items c.sort_unstable.new.self.items
    (subst (λ variables. AreFirsts c.args.start c.args.end variables c.args.all.now c.loop-variable.places.items) all c.loop-variable.invariant)
    c.sort_unstable.ensures.permutation c.sort_unstable.ensures.sorted)
