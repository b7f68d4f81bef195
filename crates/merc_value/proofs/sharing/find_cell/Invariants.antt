-- None of the cells so far is the one.
use Rattle.std.proofs.Common.{◌≡◌, ◌<◌, ℕ, Some, slice_get}
use Rattle.merc_value.proofs.sharing.find_cell.Given as goal

abbrev pub invariant-loop-place : goal.invariant-loop-place
invariant-loop-place l = (k : ℕ) → k < l.place → slice_get l.cells k ≡ Some (record { symbol = l.symbol; arguments = l.arguments }) → ⊥
