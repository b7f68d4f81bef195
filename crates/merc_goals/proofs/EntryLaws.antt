-- A goal has an entry.
use Rattle.std.proofs.Common.{◌<◌, length, arith}
use Rattle.merc_goals.specs.Written.{Written, Truth, Failure, Equal, Compared, Called, Conjunction, Parallel, Disjunction, Conditional, Negated, Quantified, WrongForm, OutsideProfile}
use Rattle.merc_goals.specs.Entries.{entries_of}

pub some_entry : (goal : Written) → 0 < length (entries_of goal)
some_entry (Truth span) = omega arith
some_entry (Failure span) = omega arith
some_entry (Equal at left right span) = omega arith
some_entry (Compared at name left right span) = omega arith
some_entry (Called at name qualifier arguments span) = omega arith
some_entry (Conjunction goals span) = omega arith
some_entry (Parallel goals span) = omega arith
some_entry (Disjunction goals span) = omega arith
some_entry (Conditional condition then_part else_part span) = omega arith
some_entry (Negated goal span) = omega arith
some_entry (Quantified variables goal span) = omega arith
some_entry (WrongForm span) = omega arith
some_entry (OutsideProfile span) = omega arith
