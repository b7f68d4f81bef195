use Rattle.std.proofs.Common.{rules, ◌+◌, sym, ap, subst}
use Rattle.atomic_table.specs.Table.{Splits}
use Rattle.merc_yard.specs.Slots.{label, nowhere, Kept}
use Rattle.merc_yard.specs.declared.spot.Fill.TheVariants.{Dealer, Vacant}
use Rattle.merc_yard.proofs.Keeping.{cuts}
use Rattle.merc_yard.proofs.calls.deal.Goals as goal

pub split_seat-seat-requires : goal.split_seat-seat-requires
split_seat-seat-requires g c = let lies = g.L.Lies.lies in
    (search rules, search rules, subst (λ v. Splits (Kept lies) c.loop-slot.dealer.id v (label (v.slot + 1) Dealer nowhere) (label v.slot Vacant nowhere)) (sym (ap (λ m. m.0) c.loop-slot.invariant.view)) (cuts lies _ c.loop-slot.slot))
