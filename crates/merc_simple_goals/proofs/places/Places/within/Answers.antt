use Rattle.std.proofs.Common.{◌∙◌, sym, subst}
use Rattle.std.specs.List.Sorted.{IsNonDecreasing}
use Rattle.std.proofs.lemmas.List.{take_rest}
use Rattle.std.proofs.lemmas.List.Sorted.{IsNonDecreasingBy-drop}
use Rattle.merc_simple_goals.proofs.Within.{row_is, rows_rise, within_is}
use Rattle.merc_simple_goals.proofs.places.Places.within.Goals as goal

pub count_before-from-requires : goal.count_before-from-requires
count_before-from-requires c =
    rows_rise c.self.inside.by_variable.items c.deref.result.now c.args.self.now c.self.inside.occurrences c.args.variable c.number.result c.places_at-places.result.now c.self.invariant c.self.view_is
    c.deref.ensures.value c.number.ensures c.places_at-places.ensures

pub count_before-count-requires : goal.count_before-count-requires
count_before-count-requires c =
    let rise = rows_rise c.self.inside.by_variable.items c.deref.result.now c.args.self.now c.self.inside.occurrences c.args.variable c.number.result c.places_at-places.result.now c.self.invariant c.self.view_is
    c.deref.ensures.value c.number.ensures c.places_at-places.ensures in
    subst IsNonDecreasing (sym (take_rest c.places_at-places.result.now c.count_before-from.result)) (IsNonDecreasingBy-drop (λ place. place) c.count_before-from.result c.places_at-places.result.now rise)

pub returns : goal.returns
returns c =
    let row = row_is c.self.inside.by_variable.items c.deref.result.now c.args.self.now c.self.inside.occurrences c.args.variable c.number.result c.places_at-places.result.now c.self.invariant c.self.view_is
    c.deref.ensures.value c.number.ensures c.places_at-places.ensures in
    c.count_before-count.ensures.before
    ∙ within_is c.args.start c.args.end c.args.variable c.count_before-from.result c.args.self.now c.places_at-places.result.now _ row (take_rest c.places_at-places.result.now c.count_before-from.result)
    c.count_before-from.ensures.behind
