use Rattle.std.proofs.Common.{ℕ, Bool, List, reverse}
use Rattle.merc_goals.specs.Written.{Written}
use Rattle.merc_answer_variables.specs.Reading.{HoldEach}
use Rattle.merc_answer_variables.proofs.TakingLaws.{IsTaking}
use Rattle.merc_answer_variables.proofs.reader.take_all.Given as goal

abbrev pub invariant-loop-left : goal.invariant-loop-left
invariant-loop-left l = (blank : ℕ → Bool) (written : List Written) → HoldEach blank written (reverse l.fn.goals.items) → IsTaking blank l.count l.left written l.goals.items l.all

abbrev pub decreases-loop-left : goal.decreases-loop-left
decreases-loop-left l = l.left
