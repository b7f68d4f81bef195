use Rattle.std.proofs.Common.{◌≡◌, map}
use Rattle.std.specs.Ordering.{eq_by_cmp}
use Rattle.merc_entries.specs.FirstPlaces.{declared_value, again_from, first_again}
use Rattle.merc_entries.proofs.FirstAgain.{HoldsKeys}
use Rattle.merc_entries.proofs.doubles.again.first_again.Given as goal

abbrev pub invariant-loop-next : goal.invariant-loop-next
invariant-loop-next g l = record {
  holds : HoldsKeys g.K.Ord.cmp l.seen (map (declared_value (λ key. key)) l.yielded);
  same : again_from (eq_by_cmp g.K.Ord.cmp) (map (declared_value (λ key. key)) l.yielded) (map (declared_value (λ key. key)) l.next-iterator.rest.items)
      ≡ first_again (eq_by_cmp g.K.Ord.cmp) (map (declared_value (λ key. key)) l.fn.declared.items);
}
