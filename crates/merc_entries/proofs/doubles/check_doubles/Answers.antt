use Rattle.std.proofs.Common.{◌≡◌, List, Some, None, sym, subst, ◌∙◌}
use Rattle.merc_base.specs.FirstPlace.{IsLeast}
use Rattle.merc_base.specs.declared.refusal.Rule.TheVariants.{DeclaredTwice}
use Rattle.merc_base.proofs.FirstFaultLaws.{none_at_places, first_at_places}
use Rattle.merc_entries.specs.Entries.{Entry}
use Rattle.merc_entries.specs.EntryValue.{entry_values}
use Rattle.merc_entries.specs.DoubleFaults.{HasDouble}
use Rattle.merc_entries.specs.FirstPlaces.{first_double}
use Rattle.merc_entries.proofs.FirstDoubles.{first_double-least}
use Rattle.merc_entries.proofs.doubles.check_doubles.Goals as goal

pub returns-in-None-clause-fine : goal.returns-in-None-clause-fine
returns-in-None-clause-fine c =
    let entries : List Entry = entry_values c.args.entries.now in
    let found : None ≡ first_double entries = sym c.in-None.is ∙ c.in_ok-first_double.ensures in
    none_at_places DeclaredTwice (HasDouble entries) (subst (IsLeast (HasDouble entries)) (sym found) (first_double-least entries c.requires.order))

pub returns-in-Some-clause-refused : goal.returns-in-Some-clause-refused
returns-in-Some-clause-refused c =
    let entries : List Entry = entry_values c.args.entries.now in
    let found : Some c.in-Some.place ≡ first_double entries = sym c.in-Some.is ∙ c.in_ok-first_double.ensures in
    first_at_places DeclaredTwice (HasDouble entries) c.in-Some.place (subst (IsLeast (HasDouble entries)) (sym found) (first_double-least entries c.requires.order))
