use Rattle.std.proofs.Common.{◌-◌, ◌<◌, length, refl, ap, sym, subst, arith, length-set}
use Rattle.std.proofs.Math.ListN.{set}
use Rattle.merc_core.proofs.StartPlaces.{IsPastFrom, past-nowhere, past-more, at-place}
use Rattle.merc_core.proofs.making.course_of.Goals as goal

pub loop-place-init : goal.loop-place-init
loop-place-init c = record {
  items = refl;
  long = omega (arith, c.in_ok-past.ensures.len, c.len.ensures);
  past = past-nowhere c.args.items.items c.in_ok-past.past.items c.len-place.result (omega (arith, c.len-place.ensures));
}

pub loop-place-preserved : goal.loop-place-preserved
loop-place-preserved c =
    let i = c.loop-place.invariant in
    let items = c.loop-place.course.items.items in
    let past = c.loop-place.course.past.items in
    let place = c.loop-place.place - 1 in
    let same = ap length i.items in
    let in_range : place < length items = omega (arith, c.loop-place.auto.place, c.loop-place-test.true, c.len-place.ensures, same) in
    let at = at-place items place in_range in
    record {
      items = i.items;
      long = (let e = length-set past place c.past_item-past.result in omega (arith, e, i.long));
      past = subst (λ v. IsPastFrom place items (set past place v)) (sym (c.past_item-past.ensures at.0 at.2))
          (past-more items past place c.loop-place.place at.0 (omega (arith, c.loop-place-test.true)) in_range i.long at.1 i.past);
    }
