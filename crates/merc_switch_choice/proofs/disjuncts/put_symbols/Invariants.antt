use Rattle.std.proofs.Common.{◌≡◌, ◌≤◌, ℕ, nat_eq, drop, length}
use Rattle.indexmap.specs.IndexMap.{get}
use Rattle.merc_grading.specs.Switches.{symbol_in}
use Rattle.merc_switch_choice.proofs.disjuncts.put_symbols.Given as goal

abbrev pub invariant-loop-index : goal.invariant-loop-index
invariant-loop-index l = record {
  within : l.index ≤ length l.splits;
  known : (variable : ℕ) → get nat_eq l.symbols variable ≡ symbol_in (drop l.index l.splits) variable;
}

abbrev pub decreases-loop-index : goal.decreases-loop-index
decreases-loop-index l = l.index
