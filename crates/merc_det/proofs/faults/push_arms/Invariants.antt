use Rattle.std.proofs.Common.{◌≡◌, ◌++◌, length, reverse}
use Rattle.merc_graded_tree.specs.Roots.{arms_of, bodies_of}
use Rattle.merc_det.proofs.faults.push_arms.Given as goal

abbrev pub invariant-loop-last : goal.invariant-loop-last
invariant-loop-last l =
    l.left.items ++ reverse (bodies_of (arms_of l.symbols l.arms)) ≡ l.fn.left.items ++ reverse (bodies_of (arms_of l.symbols l.fn.arms))

abbrev pub decreases-loop-last : goal.decreases-loop-last
decreases-loop-last l = length l.arms
