use Rattle.std.proofs.Common.{◌≡◌, ◌++◌, drop}
use Rattle.merc_items.proofs.declared_modes.copy_modes.Given as goal

abbrev pub invariant-loop-mode : goal.invariant-loop-mode
invariant-loop-mode l = l.copy ++ drop l.mode-index l.mode-items ≡ l.mode-items
