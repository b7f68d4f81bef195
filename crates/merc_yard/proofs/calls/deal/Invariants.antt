use Rattle.std.proofs.Common.{◌≡◌, ◌≤◌, [], length}
use Rattle.std.specs.List.{All}
use Rattle.std.specs.Vec.{vec_capacity}
use Rattle.merc_yard.specs.declared.spot.Fill.TheVariants.{Dealer}
use Rattle.merc_yard.specs.Slots.{label, nowhere}
use Rattle.merc_yard.specs.Berths.{IsVacant}
use Rattle.merc_yard.proofs.calls.deal.Given as goal

abbrev pub invariant-loop-slot : goal.invariant-loop-slot
invariant-loop-slot g l = record {
  seated : l.dealer.table_id ≡ l.word.table_id;
  view : l.dealer.me ≡ (label l.slot Dealer nowhere, []);
  count : length l.berths.items ≡ l.slot;
  dealt : All (IsVacant l.word.table_id nowhere) l.berths.items;
  capacity : l.count ≤ vec_capacity l.berths;
}
