use Rattle.std.proofs.Common.{ℕ, [], ◌∷◌, length}
use Rattle.merc_tree.specs.Types.{TypeExpr}
use Rattle.merc_order.specs.Procedures.{modes_of}
use Rattle.merc_grading.specs.Fitting.{Fits}
use Rattle.merc_det.specs.Tasks.{all_turns, AreEnough, Leads}
use Rattle.merc_det.specs.declared.planning.Task.TheVariants.{Grade}
use Rattle.merc_det.proofs.grading.grade_from.Given as goal

abbrev pub invariant-loop-task : goal.invariant-loop-task
invariant-loop-task l = record {
  enough : AreEnough l.tasks.items (length l.nodes);
  leads : (types : ℕ → TypeExpr) → Fits l.known.types types l.goal
      → Leads l.known.types (modes_of l.known.preds) types (Grade l.goal ∷ []) (record { goals = l.fn.nodes; known = l.fn.seen }) l.tasks.items (record { goals = l.nodes; known = l.seen });
}

abbrev pub decreases-loop-task : goal.decreases-loop-task
decreases-loop-task l = all_turns l.tasks.items
