use Rattle.std.proofs.Common.{ap, sym, ◌∙◌}
use Rattle.merc_entries.specs.Entries.{imports, with_units}
use Rattle.merc_items.proofs.Assembled.{units_step, units_past}
use Rattle.merc_items.proofs.assembling.insert_imports.Goals as goal
use Rattle.merc_items.proofs.assembling.insert_imports.Goals.{in-Some+in_ok-imports+in_ok-insert_all, in_default}

pub loop-index-preserved : goal.loop-index-preserved
loop-index-preserved c =
    elim c.match-get.branch [
      | in-Some+in_ok-imports+in_ok-insert_all w ↦
          units_step c.args.terms.now c.loop-index.index w.in-Some.term c.loop-index.units c.match-get.units _ (sym w.in-Some.ensures)
          (w.units-is ∙ w.in_ok-insert_all.ensures ∙ ap (with_units c.loop-index.units) (w.deref.ensures.value ∙ w.in_ok-imports.ensures ∙ ap imports w.item_of.ensures))
          c.loop-index.invariant
      | in_default w ↦ units_past c.args.terms.now c.loop-index.index c.loop-index.units c.match-get.units _ (sym w.in_default.ensures) w.units-is c.loop-index.invariant
    ]
