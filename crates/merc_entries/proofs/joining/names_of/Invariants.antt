use Rattle.std.proofs.Common.{◌≡◌, ◌++◌, drop}
use Rattle.merc_entries.specs.Entries.{names_of}
use Rattle.merc_entries.proofs.joining.names_of.Given as goal

abbrev pub invariant-loop-term : goal.invariant-loop-term
invariant-loop-term l = l.names.items ++ names_of (drop l.term-index l.terms) ≡ names_of l.terms
