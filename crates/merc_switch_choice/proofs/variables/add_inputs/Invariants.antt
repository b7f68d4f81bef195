use Rattle.std.proofs.Common.{◌≡◌, ℕ, take}
use Rattle.merc_order.specs.Bound.{among}
use Rattle.merc_order.specs.Procedures.{bound_at}
use Rattle.merc_switch_choice.proofs.variables.add_inputs.Given as goal

abbrev pub invariant-loop-index : goal.invariant-loop-index
invariant-loop-index l = (variable : ℕ) → among l.bound variable ≡ bound_at (take l.index l.inputs) variable
