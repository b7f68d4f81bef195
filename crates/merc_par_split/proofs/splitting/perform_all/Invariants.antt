use Rattle.std.proofs.Common.{◌≡◌, length}
use Rattle.merc_par_split.specs.Tasks.{after_all, total, AllLie, HaveEnough}
use Rattle.merc_par_split.proofs.StepLaws.{at_with}
use Rattle.merc_par_split.proofs.splitting.perform_all.Given as goal

abbrev pub invariant-loop-task : goal.invariant-loop-task
invariant-loop-task l = record {
  same : after_all l.tasks (at_with l.nodes l.sites.items) ≡ after_all l.fn.tasks (at_with l.fn.nodes l.fn.sites.items);
  enough : HaveEnough (length l.nodes) l.tasks;
  lie : AllLie l.occurrences l.tasks;
}

abbrev pub decreases-loop-task : goal.decreases-loop-task
decreases-loop-task l = total l.tasks
