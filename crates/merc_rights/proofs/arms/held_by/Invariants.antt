use Rattle.std.proofs.Common.{ℕ, List, ◌≡◌, ◌++◌, map, length, nat_le}
use Rattle.std.specs.List.{filter}
use Rattle.merc_graded_tree.specs.Variables.{among}
use Rattle.merc_rights.specs.Rows.{numbers_from, row_of, Tells}
use Rattle.merc_rights.proofs.arms.held_by.Given as goal

abbrev pub invariant-loop-next : goal.invariant-loop-next
invariant-loop-next l = (lists : List (List ℕ)) → Tells l.holders lists
    → l.numbers.items ++ map (λ number. number) (numbers_from (λ list. among list l.variable) l.next 0 lists) ≡ numbers_from (λ list. among list l.variable) 0 0 lists

abbrev pub decreases-loop-next : goal.decreases-loop-next
decreases-loop-next l = length (filter (nat_le l.next) (row_of l.variable l.holders))
