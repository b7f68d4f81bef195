use Rattle.std.proofs.Common.{◌≡◌, ◌++◌, map, reverse}
use Rattle.merc_gen.specs.Generated.{conjunct_code}
use Rattle.merc_gen.specs.Singles.{contained}
use Rattle.merc_gen.specs.Turns.{list_turns}
use Rattle.merc_gen.proofs.forked.put_each.Given as goal

abbrev pub invariant-loop-goal : goal.invariant-loop-goal
invariant-loop-goal l =
    l.codes ++ map (conjunct_code (contained l.singles)) (reverse l.left.items) ≡ map (conjunct_code (contained l.singles)) l.fn.goals

abbrev pub decreases-loop-goal : goal.decreases-loop-goal
decreases-loop-goal l = list_turns l.left.items
