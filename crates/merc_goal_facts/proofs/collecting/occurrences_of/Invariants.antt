use Rattle.std.proofs.Common.{◌≡◌, ◌++◌, take}
use Rattle.merc_goal_tree.specs.Parts.{parts_of}
use Rattle.merc_goal_facts.specs.Occurring.{parts_variables}
use Rattle.merc_goal_facts.proofs.collecting.occurrences_of.Given as goal

abbrev pub invariant-loop-index : goal.invariant-loop-index
invariant-loop-index l = l.all ≡ l.heads ++ parts_variables (take l.index (parts_of l.goal))
