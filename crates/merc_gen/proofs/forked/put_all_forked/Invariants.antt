use Rattle.std.proofs.Common.{◌≡◌, ◌++◌, map, reverse}
use Rattle.merc_graded_tree.specs.Nodes.{nodes_of}
use Rattle.merc_gen.specs.Generated.{conjunct_codes}
use Rattle.merc_gen.specs.Singles.{contained}
use Rattle.merc_gen.specs.Sites.{forked_in, forked_in_all}
use Rattle.merc_gen.specs.Turns.{list_turns}
use Rattle.merc_gen.proofs.forked.put_all_forked.Given as goal

abbrev pub invariant-loop-next : goal.invariant-loop-next
invariant-loop-next l =
    l.conjuncts ++ map (conjunct_codes (contained l.singles)) (forked_in_all (nodes_of (reverse l.left.items)))
    ≡ l.fn.conjuncts ++ map (conjunct_codes (contained l.singles)) (forked_in l.goal)

abbrev pub decreases-loop-next : goal.decreases-loop-next
decreases-loop-next l = list_turns l.left.items
