use Rattle.std.proofs.Common.{◌≡◌, drop}
use Rattle.merc_item_forms.specs.Forms.{is_in}
use Rattle.merc_entries.specs.Entries.{names_of}
use Rattle.merc_entries.proofs.doubles.imports.is_named.Given as goal

abbrev pub invariant-loop-term : goal.invariant-loop-term
invariant-loop-term l = is_in l.unit (names_of (drop l.term-index l.terms)) ≡ is_in l.unit (names_of l.terms)
