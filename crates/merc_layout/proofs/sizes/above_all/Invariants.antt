use Rattle.std.proofs.Common.{ℕ, ◌<◌}
use Rattle.std.specs.List.{slice_index_or}
use Rattle.merc_layout.proofs.sizes.above_all.Given as goal

abbrev pub invariant-loop-variable : goal.invariant-loop-variable
invariant-loop-variable l = (k d : ℕ) → k < l.variable-index → slice_index_or l.variables k d < l.most
