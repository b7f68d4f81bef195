use Rattle.std.proofs.Common.{take}
use Rattle.merc_simple_goals.proofs.Firsts.{AreFirsts}
use Rattle.merc_simple_goals.proofs.writing.first_places.Given as goal

abbrev pub invariant-loop-variable : goal.invariant-loop-variable
invariant-loop-variable l = AreFirsts l.start l.end (take l.variable-index l.variables) l.all l.places.items
