use Rattle.std.proofs.Common.{◌≡◌, ◌++◌, map, drop}
use Rattle.merc_goals.specs.declared.planning.Task.TheVariants.{Read}
use Rattle.merc_goals.proofs.planning.read_all.Given as goal

abbrev pub invariant-loop-member : goal.invariant-loop-member
invariant-loop-member l = l.tasks.items ++ map (λ n. Read n) (drop l.member-index l.members) ≡ l.fn.tasks.items ++ map (λ n. Read n) l.members
