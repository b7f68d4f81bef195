use Rattle.std.proofs.Common.{◌≡◌, ◌≤◌, ◌+◌, ◌++◌, reverse}
use Rattle.merc_goals.specs.Numbers.{number_limit}
use Rattle.merc_value.specs.Text.{is_blank}
use Rattle.merc_answer_variables.specs.Reading.{listed}
use Rattle.merc_answer_variables.proofs.TermLaws.{all_parts}
use Rattle.merc_answer_variables.proofs.terms.term_variables.Given as goal

abbrev pub invariant-loop-term : goal.invariant-loop-term
invariant-loop-term l = record {
  found : l.found.items ++ listed (is_blank l.names) l.at (reverse l.terms.items) ≡ listed (is_blank l.names) l.fn.at (reverse l.fn.terms.items);
  fits : l.at + all_parts (reverse l.terms.items) ≤ number_limit;
}

abbrev pub decreases-loop-term : goal.decreases-loop-term
decreases-loop-term l = all_parts (reverse l.terms.items)
