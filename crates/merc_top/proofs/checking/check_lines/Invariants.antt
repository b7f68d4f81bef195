-- The lines are those of the predicates before this one.
use Rattle.std.proofs.Common.{◌≡◌, ◌≤◌, length, take}
use Rattle.merc_grading.specs.Faults.{procedures_of}
use Rattle.merc_top.specs.Checking.{procedure_lines}
use Rattle.merc_top.proofs.checking.check_lines.Given as goal

abbrev pub invariant-loop-declared : goal.invariant-loop-declared
invariant-loop-declared l =
    length (procedures_of l.module.preds) ≤ length l.trees
    → l.lines ≡ procedure_lines l.names (procedures_of (take l.declared-index (take l.module.own l.module.preds))) l.trees
