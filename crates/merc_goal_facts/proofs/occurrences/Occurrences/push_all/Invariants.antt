use Rattle.std.proofs.Common.{◌≡◌, ◌++◌, take}
use Rattle.merc_goal_facts.proofs.occurrences.Occurrences.push_all.Given as goal

abbrev pub invariant-loop-variable : goal.invariant-loop-variable
invariant-loop-variable l = l.self ≡ l.fn.self ++ take l.variable-index l.variables
