use Rattle.std.proofs.Common.{◌≡◌, ◌++◌, map, length}
use Rattle.merc_graded_tree.specs.Nodes.{nodes_of}
use Rattle.merc_gen.specs.Generated.{conjunct_codes}
use Rattle.merc_gen.specs.Singles.{contained}
use Rattle.merc_gen.specs.Sites.{forked_in_all}
use Rattle.merc_gen.proofs.forked.put_trees.Given as goal

abbrev pub invariant-loop-tree : goal.invariant-loop-tree
invariant-loop-tree l =
    l.conjuncts ++ map (conjunct_codes (contained l.singles)) (forked_in_all (nodes_of l.left)) ≡ map (conjunct_codes (contained l.singles)) (forked_in_all (nodes_of l.trees))

abbrev pub decreases-loop-tree : goal.decreases-loop-tree
decreases-loop-tree l = length l.left
