use Rattle.std.proofs.Common.{◌∙◌, ◌++◌, ap, reverse}
use Rattle.merc_graded_tree.specs.Nodes.{goal_of}
use Rattle.merc_graded_tree.specs.Roots.{goals_in}
use Rattle.merc_grading.specs.Faults.{parallel_faults}
use Rattle.merc_det.specs.Looking.{own_goal_faults}
use Rattle.merc_det.proofs.Faulting.{look, look_found, look_fewer}
use Rattle.merc_det.proofs.faults.query_fault.Goals as goal

pub loop-goal-smaller : goal.loop-goal-smaller
loop-goal-smaller c =
    look_fewer c.loop-goal.left.items c.pop.new.self.items c.push_joined.new.left.items c.in-Some.goal c.in-Some.ensures.items
    (c.in_ok-push_joined.ensures ∙ ap (λ g. c.pop.new.self.items ++ reverse (goals_in g)) c.view.ensures)

pub loop-goal-preserved : goal.loop-goal-preserved
loop-goal-preserved c = record {
  done = c.loop-goal.invariant.done ++ own_goal_faults (goal_of c.in-Some.goal);
  found = look_found c.loop-goal.invariant.done c.in-Some.goal c.loop-goal.found c.in_ok-own_fault.field-0 c.first_of-found.result
      c.loop-goal.invariant.found c.in_ok-own_fault.ensures c.first_of-found.ensures;
  whole = look c.loop-goal.invariant.done c.loop-goal.left.items c.pop.new.self.items c.push_joined.new.left.items c.in-Some.goal (parallel_faults c.args.tree.now)
      c.in-Some.ensures.items (c.in_ok-push_joined.ensures ∙ ap (λ g. c.pop.new.self.items ++ reverse (goals_in g)) c.view.ensures) c.loop-goal.invariant.whole;
}
