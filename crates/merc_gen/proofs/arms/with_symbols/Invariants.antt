use Rattle.std.proofs.Common.{◌≡◌, List, length}
use Rattle.merc_goal_tree.specs.declared.goal.Symbol.{Symbol}
use Rattle.merc_graded_tree.specs.Roots.{arms_of}
use Rattle.merc_gen.proofs.arms.with_symbols.Given as goal

abbrev pub invariant-loop-left : goal.invariant-loop-left
invariant-loop-left l = (symbols : List Symbol) → length symbols ≡ l.count → arms_of symbols l.left ≡ arms_of symbols l.fn.arms

abbrev pub decreases-loop-left : goal.decreases-loop-left
decreases-loop-left l = length l.left
