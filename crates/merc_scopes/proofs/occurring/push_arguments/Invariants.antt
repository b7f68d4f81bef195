use Rattle.std.proofs.Common.{◌≡◌, ◌≤◌, ◌+◌, ◌++◌, reverse, length}
use Rattle.merc_tree.specs.Term.{terms_of}
use Rattle.merc_tree.specs.Shape.{arguments_of}
use Rattle.merc_goals.specs.Written.{parts_of}
use Rattle.merc_goals.specs.Numbers.{number_limit, numbered_from}
use Rattle.merc_scopes.proofs.occurring.push_arguments.Given as goal

abbrev pub invariant-loop-last : goal.invariant-loop-last
invariant-loop-last l = record {
  number : l.past ≡ l.at + 2 + parts_of (terms_of l.rest);
  limit : l.past ≤ number_limit;
  pushed : l.stack.items ++ reverse (numbered_from (l.at + 2) l.rest) ≡ l.fn.stack.items ++ reverse (numbered_from (l.at + 2) (arguments_of l.term));
}

abbrev pub decreases-loop-last : goal.decreases-loop-last
decreases-loop-last l = length l.rest
