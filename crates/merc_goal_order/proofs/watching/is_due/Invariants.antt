use Rattle.std.proofs.Common.{◌-◌, ◌+◌, length}
use Rattle.merc_goal_order.proofs.watching.is_due.Given as goal

abbrev pub decreases-loop-accounts : goal.decreases-loop-accounts
decreases-loop-accounts l = l.index + 1 - length l.accounts.items
