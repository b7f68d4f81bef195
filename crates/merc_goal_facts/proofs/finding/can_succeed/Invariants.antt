use Rattle.std.proofs.Common.{◌≡◌, drop}
use Rattle.merc_order.specs.CallModes.{can_succeed}
use Rattle.merc_goal_facts.proofs.finding.can_succeed.Given as goal

abbrev pub invariant-loop-mode : goal.invariant-loop-mode
invariant-loop-mode l = can_succeed (drop l.mode-index l.modes) ≡ can_succeed l.modes
