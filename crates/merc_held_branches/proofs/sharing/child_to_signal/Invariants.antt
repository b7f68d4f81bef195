use Rattle.std.proofs.Common.{◌≡◌, true, drop}
use Rattle.merc_board.specs.Rights.{child_for}
use Rattle.merc_held_branches.proofs.sharing.child_to_signal.Given as goal

abbrev pub invariant-loop-one : goal.invariant-loop-one
invariant-loop-one l = child_for true l.variable (drop l.one-index l.given) ≡ child_for true l.variable l.given
