use Rattle.std.proofs.Common.{◌≡◌, reverse}
use Rattle.merc_goals.specs.Entries.{entries_of}
use Rattle.merc_goals.proofs.RoleLaws.{goal_at}
use Rattle.merc_goals.proofs.Writing.{run}
use Rattle.merc_goals.proofs.PlanSizes.{total}
use Rattle.merc_goals.proofs.NumberLaws.{TasksFit}
use Rattle.merc_goals.proofs.reading.backward_entries.Given as goal

abbrev pub invariant-loop-task : goal.invariant-loop-task
invariant-loop-task l = record {
  written : run l.tasks.items l.entries.items ≡ reverse (entries_of (goal_at l.fn.root));
  fit : TasksFit l.tasks.items;
}

abbrev pub decreases-loop-task : goal.decreases-loop-task
decreases-loop-task l = total l.tasks.items
