use Rattle.std.proofs.Common.{◌≡◌, ◌||◌, ℕ, drop}
use Rattle.std.specs.List.{list_any}
use Rattle.merc_order.specs.Bound.{among}
use Rattle.merc_switch.proofs.OrderedOutputs.{stands_at}
use Rattle.merc_switch.proofs.ordering.places_of.Given as goal

abbrev pub invariant-loop-number : goal.invariant-loop-number
invariant-loop-number l =
    (place : ℕ) → (among l.places.keys place || list_any (λ variable. stands_at l.outputs place variable) (drop l.number-index l.number-items)) ≡ list_any (λ variable. stands_at l.outputs place variable) l.variables
