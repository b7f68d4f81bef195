-- The place past those that are left is the place past all.
use Rattle.std.proofs.Common.{◌≡◌}
use Rattle.merc_core.specs.Forking.{past_scripts}
use Rattle.merc_core.proofs.course.Course.past_scripts.Given as goal

abbrev pub invariant-loop-left : goal.invariant-loop-left
invariant-loop-left l = past_scripts l.self.past.items l.at l.left ≡ past_scripts l.self.past.items l.place l.scripts

abbrev pub decreases-loop-left : goal.decreases-loop-left
decreases-loop-left l = l.left
