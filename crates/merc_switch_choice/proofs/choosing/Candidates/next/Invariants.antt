use Rattle.std.proofs.Common.{◌≡◌, ℕ, List, length}
use Rattle.merc_order.specs.Bound.{Bound}
use Rattle.merc_switch_choice.specs.Choosing.{AreLeft}
use Rattle.merc_switch_choice.proofs.choosing.Candidates.next.Given as goal

abbrev pub invariant-loop-variable : goal.invariant-loop-variable
invariant-loop-variable l = record {
  left : (bound : Bound) (used : List ℕ) → AreLeft l.known.types bound used l.fn.disjuncts l.fn.self.untried l.fn.self.uncovered → AreLeft l.known.types bound used l.fn.disjuncts l.self.untried l.self.uncovered;
  disjuncts : l.disjuncts ≡ l.fn.disjuncts;
}

abbrev pub decreases-loop-variable : goal.decreases-loop-variable
decreases-loop-variable l = length l.self.untried
