use Rattle.std.proofs.Common.{◌++◌, ◌-◌}
use Rattle.merc_type_expr.specs.Solving.{IsSearching}
use Rattle.merc_type_expr.proofs.occurring.occurs.Given as goal

abbrev pub invariant-loop-next : goal.invariant-loop-next
invariant-loop-next l = IsSearching (l.under ++ l.found) l.name l.of l.types.items l.next

-- the list of types fits the memory, so it ends
abbrev pub decreases-loop-next : goal.decreases-loop-next
decreases-loop-next l = 18446744073709551616 - l.next
