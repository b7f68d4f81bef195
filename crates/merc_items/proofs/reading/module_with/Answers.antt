use Rattle.std.proofs.Common.{◌≡◌, List, ◌∙◌, ap, subst}
use Rattle.std.proofs.lemmas.Result.{IfOk-weaker, IfErr-weaker}
use Rattle.merc_base.specs.FirstFault.{IsFirstOf}
use Rattle.merc_terms.specs.Items.{IsRefusal}
use Rattle.merc_entries.specs.Entries.{Entry, entries}
use Rattle.merc_entries.specs.EntryValue.{entry_values}
use Rattle.merc_entries.specs.Units.{items_of}
use Rattle.merc_items.specs.ModuleOf.{module_of}
use Rattle.merc_items.specs.Phases.{HasFault, HasNoFault}
use Rattle.merc_items.proofs.ReadingLaws.{entries-order}
use Rattle.merc_items.proofs.reading.module_with.Goals as goal

pub module_of_entries-found-requires-clause-entries : goal.module_of_entries-found-requires-clause-entries
module_of_entries-found-requires-clause-entries c =
    entries-order c.args.terms.now (items_of c.args.units.now) (entry_values c.deref.result.now) c.requires
    (ap entry_values c.deref.ensures.value ∙ c.in_ok-entries.ensures)

pub returns-clause-found : goal.returns-clause-found
returns-clause-found c =
    let same : entry_values c.deref.result.now ≡ entries (items_of c.args.units.now) c.args.terms.now = ap entry_values c.deref.ensures.value ∙ c.in_ok-entries.ensures in
    IfOk-weaker c.module_of_entries-found.result _ _
    (λ found is. (subst (HasNoFault c.args.names.now c.args.terms.now) same is.0, is.1 ∙ ap (module_of c.args.names.now c.args.terms.now) same))
    c.module_of_entries-found.ensures.found

pub returns-clause-refused : goal.returns-clause-refused
returns-clause-refused c =
    let same : entry_values c.deref.result.now ≡ entries (items_of c.args.units.now) c.args.terms.now = ap entry_values c.deref.ensures.value ∙ c.in_ok-entries.ensures in
    IfErr-weaker c.module_of_entries-found.result _ _
    (λ fault refuses. subst (λ (all : List Entry). IsRefusal (IsFirstOf (HasFault c.args.names.now c.args.terms.now all)) fault) same refuses)
    c.module_of_entries-found.ensures.refused
