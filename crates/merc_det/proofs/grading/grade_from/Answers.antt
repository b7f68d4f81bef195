use Rattle.std.proofs.Common.{[], ◌∷◌}
use Rattle.merc_order.specs.Procedures.{modes_of}
use Rattle.merc_det.specs.declared.planning.Task.TheVariants.{Grade}
use Rattle.merc_det.proofs.Keeping.{leads_on}
use Rattle.merc_det.proofs.grading.grade_from.Goals as goal

pub loop-task-preserved : goal.loop-task-preserved
loop-task-preserved c = record {
  enough = c.in_ok-perform.ensures.enough;
  leads = λ types fits. leads_on c.args.known.now.types (modes_of c.args.known.now.preds) types (Grade c.args.goal.now ∷ [])
      c.loop-task.tasks.items c.pop.new.self.items c.perform.new.tasks.items c.in-Some.task
      (record { goals = c.args.nodes.now; known = c.args.seen.now }) (record { goals = c.loop-task.nodes; known = c.loop-task.seen }) (record { goals = c.perform.new.nodes; known = c.perform.new.seen })
      c.in-Some.ensures.items (c.loop-task.invariant.leads types fits) (c.in_ok-perform.ensures.same types);
}
