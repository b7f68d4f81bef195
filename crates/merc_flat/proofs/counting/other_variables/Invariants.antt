use Rattle.merc_goal_tree.specs.Parts.{parts_of}
use Rattle.merc_flat.specs.Counted.{HasThese}
use Rattle.merc_flat.proofs.CountLaws.{before}
use Rattle.merc_flat.proofs.counting.other_variables.Given as goal

abbrev pub invariant-loop-index : goal.invariant-loop-index
invariant-loop-index l = HasThese l.found (before l.arity (parts_of l.goal) l.index)
