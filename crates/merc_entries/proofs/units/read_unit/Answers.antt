use Rattle.std.proofs.Common.{subst}
use Rattle.merc_base.specs.declared.refusal.Fault.{Fault}
use Rattle.merc_terms.specs.Items.{IsRefusal}
use Rattle.merc_terms.specs.Texts.{RefusesText}
use Rattle.merc_entries.specs.Units.{constant_text}
use Rattle.merc_entries.proofs.LibraryReads.{unit-unrefused}
use Rattle.merc_entries.proofs.units.read_unit.Goals as goal

pub unreachable-requires : goal.unreachable-requires
unreachable-requires c =
    let text = c.library_text-text.ensures in
    let refused = subst (λ (fault : Fault). IsRefusal (RefusesText c.args.names.now c.library_text-text.result.now) fault) c.in-Err-Refused.field-0-is c.in-Err-Refused.ensures.refused in
    unit-unrefused (constant_text c.args.unit) c.library_text-text.result.now text.value c.args.names.now text.fixed text.distinct c.in-Err-Refused.field-0-0 refused
