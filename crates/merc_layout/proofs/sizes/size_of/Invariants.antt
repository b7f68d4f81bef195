use Rattle.std.proofs.Common.{ℕ, List, ◌≤◌, ◌<◌}
use Rattle.std.specs.List.{slice_index_or}
use Rattle.merc_code.specs.declared.instruction.Instruction.{Instruction}
use Rattle.merc_code.specs.Steps.{ConjunctCode}
use Rattle.merc_layout.specs.Sizes.{IsWithin, TellsLent}
use Rattle.merc_layout.proofs.sizes.size_of.Given as goal

abbrev pub invariant-loop-instruction : goal.invariant-loop-instruction
invariant-loop-instruction l = record {
  arguments : l.arity ≤ l.variables;
  within : (conjuncts : ℕ → List ConjunctCode) → TellsLent l.lent conjuncts → (k : ℕ) (d : Instruction) → k < l.instruction-index → IsWithin conjuncts l.variables l.marks (slice_index_or l.code k d);
}
