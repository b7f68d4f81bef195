use Rattle.std.proofs.Common.{◌≡◌, [], ◌∷◌}
use Rattle.merc_gen.specs.Generated.{node_code}
use Rattle.merc_gen.specs.Singles.{contained}
use Rattle.merc_gen.specs.Tasks.{after_all, all_turns}
use Rattle.merc_gen.proofs.generating.perform_all.Given as goal

abbrev pub invariant-loop-task : goal.invariant-loop-task
invariant-loop-task l = after_all (contained l.singles) l.tasks.items l.code ≡ node_code (contained l.singles) l.goal 0 (l.fn.last ∷ [])

abbrev pub decreases-loop-task : goal.decreases-loop-task
decreases-loop-task l = all_turns l.tasks.items
