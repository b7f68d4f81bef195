use Rattle.std.proofs.Common.{◌≡◌, ◌++◌, reverse, length}
use Rattle.merc_answer_variables.proofs.terms.push_arguments.Given as goal

abbrev pub invariant-loop-last : goal.invariant-loop-last
invariant-loop-last l = l.terms.items ++ reverse l.arguments ≡ l.fn.terms.items ++ reverse l.fn.arguments

abbrev pub decreases-loop-last : goal.decreases-loop-last
decreases-loop-last l = length l.arguments
