use Rattle.std.proofs.Common.{◌++◌, ◌-◌}
use Rattle.merc_type_expr.specs.Solving.{IsSolving}
use Rattle.merc_type_expr.proofs.solving.solve.Given as goal

abbrev pub invariant-loop-next : goal.invariant-loop-next
invariant-loop-next l = IsSolving l.under (l.under ++ l.found.items) l.a l.b l.pairs.items l.next

-- the list of pairs fits the memory, so it ends
abbrev pub decreases-loop-next : goal.decreases-loop-next
decreases-loop-next l = 18446744073709551616 - l.next
