use Rattle.std.proofs.Common.{refl}
use Rattle.std.proofs.lemmas.Result.{IfOk-weaker, IfErr-weaker}
use Rattle.merc_entries.specs.Entries.{entries}
use Rattle.merc_entries.specs.Units.{items_of}
use Rattle.merc_items.proofs.ReadingLaws.{items-refused, is_module}
use Rattle.merc_items.proofs.reading.module_of_items.Goals as goal

pub returns-clause-found : goal.returns-clause-found
returns-clause-found c =
    let items = items_of c.in_ok-units.units in
    IfOk-weaker c.module_with-found.result _ _
    (λ found is. is_module c.args.names.now c.read_units.new.names c.args.terms.now items c.in_ok-units.ensures.read (entries items c.args.terms.now) refl found is.0 is.1)
    c.module_with-found.ensures.found

pub returns-clause-refused : goal.returns-clause-refused
returns-clause-refused c =
    let items = items_of c.in_ok-units.units in
    IfErr-weaker c.module_with-found.result _ _
    (λ fault refuses. items-refused c.args.names.now c.read_units.new.names c.args.terms.now items c.in_ok-units.ensures.read (entries items c.args.terms.now) refl fault refuses)
    c.module_with-found.ensures.refused
