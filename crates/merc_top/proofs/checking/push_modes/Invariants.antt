-- The lines go on with those of the modes before this one.
use Rattle.std.proofs.Common.{◌≡◌, ◌≤◌, ◌+◌, ◌++◌, drop, length, take}
use Rattle.merc_grading.specs.Faults.{with_modes}
use Rattle.merc_top.specs.Checking.{procedure_lines}
use Rattle.merc_top.proofs.checking.push_modes.Given as goal

abbrev pub invariant-loop-mode : goal.invariant-loop-mode
invariant-loop-mode l =
    length l.fn.lines + length l.declared.modes ≤ length l.trees
    → l.lines ≡ l.fn.lines ++ procedure_lines l.names (with_modes l.declared (take l.mode-index l.declared.modes)) (drop (length l.fn.lines) l.trees)
