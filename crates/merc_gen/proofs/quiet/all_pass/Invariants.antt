use Rattle.std.proofs.Common.{◌≡◌}
use Rattle.merc_graded_tree.specs.Nodes.{goal_of}
use Rattle.merc_gen.specs.Generated.{quiet}
use Rattle.merc_gen.specs.Singles.{contained}
use Rattle.merc_gen.specs.Turns.{list_turns}
use Rattle.merc_gen.specs.Waiting.{are_quiet}
use Rattle.merc_gen.proofs.quiet.all_pass.Given as goal

abbrev pub invariant-loop-next : goal.invariant-loop-next
invariant-loop-next l = are_quiet (contained l.singles) l.left.items ≡ quiet (contained l.singles) (goal_of l.goal)

abbrev pub decreases-loop-next : goal.decreases-loop-next
decreases-loop-next l = list_turns l.left.items
