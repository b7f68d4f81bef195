use Rattle.std.proofs.Common.{sym}
use Rattle.merc_entries.specs.EntryValue.{entry_values}
use Rattle.merc_declared.proofs.ModeFaultLaws.{no_mode_fault, first_mode_fault, lacks_least, many_least}
use Rattle.merc_declared.proofs.mode_counts.check_modes.Goals as goal

pub returns-in-None-clause-fine : goal.returns-in-None-clause-fine
returns-in-None-clause-fine c =
    let entries = entry_values c.args.entries.now in
    no_mode_fault entries c.first_missing-missing.result c.first_many-many.result
    (lacks_least entries c.first_missing-missing.result c.requires.order c.first_missing-missing.ensures)
    (many_least entries c.first_many-many.result c.requires.order c.first_many-many.ensures) (sym c.in-None.ensures)

pub returns-in-Some-clause-refused : goal.returns-in-Some-clause-refused
returns-in-Some-clause-refused c =
    let entries = entry_values c.args.entries.now in
    first_mode_fault entries c.first_missing-missing.result c.first_many-many.result c.in-Some.refusal
    (lacks_least entries c.first_missing-missing.result c.requires.order c.first_missing-missing.ensures)
    (many_least entries c.first_many-many.result c.requires.order c.first_many-many.ensures) (sym c.in-Some.ensures)
