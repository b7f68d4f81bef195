use Rattle.std.proofs.Common.{◌≡◌, ◌≤◌, ◌+◌, ◌++◌, drop}
use Rattle.merc_tree.specs.Term.{terms_of}
use Rattle.merc_goals.specs.Written.{parts_of}
use Rattle.merc_goals.specs.Numbers.{number_limit, numbered_from}
use Rattle.merc_flat_form.proofs.numbering.number_from.Given as goal

abbrev pub invariant-loop-term : goal.invariant-loop-term
invariant-loop-term l = record {
  found : l.found.items ++ numbered_from l.at (drop l.term-index l.terms) ≡ numbered_from l.first l.terms;
  fits : l.at + parts_of (terms_of (drop l.term-index l.terms)) ≤ number_limit;
}
