use Rattle.std.proofs.Common.{take}
use Rattle.merc_grading.specs.Faults.{procedures_of}
use Rattle.merc_categories.specs.Progress.{IsDone}
use Rattle.merc_categories.proofs.checking.check_categories.Given as goal

abbrev pub invariant-loop-declared : goal.invariant-loop-declared
invariant-loop-declared l = IsDone l.known l.trees (procedures_of (take l.declared-index l.known.preds)) l.progress
