use Rattle.std.proofs.Common.{◌≡◌, ◌+◌, ◌++◌, List, take}
use Rattle.merc_grading.specs.Faults.{Procedure, with_modes}
use Rattle.merc_categories.specs.Progress.{IsDone}
use Rattle.merc_categories.proofs.checking.check_modes.Given as goal

abbrev pub invariant-loop-mode : goal.invariant-loop-mode
invariant-loop-mode l = (l.progress.left + l.mode-index ≡ l.fn.progress.left)
    × ((procedures : List Procedure) → IsDone l.known l.trees procedures l.fn.progress
    → IsDone l.known l.trees (procedures ++ with_modes l.declared (take l.mode-index l.declared.modes)) l.progress)
