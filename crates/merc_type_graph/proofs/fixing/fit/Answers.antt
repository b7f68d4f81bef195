use Rattle.std.proofs.Common.{sym, subst}
use Rattle.merc_type_table.specs.Table.{type_at}
use Rattle.merc_type_graph.specs.Cells.{entry_of}
use Rattle.merc_type_graph.specs.Fixing.{FitsBy, FitsOrDiffers}
use Rattle.merc_type_graph.specs.declared.cell.Known.{Known}
use Rattle.merc_type_graph.proofs.Fixings.{fits_unknown, fits_whole}
use Rattle.merc_type_graph.proofs.fixing.fit.Goals as goal

pub returns-in-Whole : goal.returns-in-Whole
returns-in-Whole c =
    subst (λ (k : Known). FitsOrDiffers c.args.store.now.table.now c.is_same.result c.args.fixings.now.items c.args.fixings.now.items (entry_of c.args.store.now k)
    (type_at c.args.store.now.table.now c.args.whole)) (sym c.in-Whole.is)
    (fits_whole c.is_same.result c.args.store.now.table.now c.args.fixings.now.items (type_at c.args.store.now.table.now c.in-Whole.other)
    (type_at c.args.store.now.table.now c.args.whole) c.is_same.ensures)

pub returns-in-Nothing : goal.returns-in-Nothing
returns-in-Nothing c =
    subst (λ (k : Known). FitsBy c.args.store.now.table.now c.args.fixings.now.items c.args.fixings.now.items (entry_of c.args.store.now k)
    (type_at c.args.store.now.table.now c.args.whole)) (sym c.in-Nothing.is)
    (fits_unknown c.args.store.now.table.now c.args.fixings.now.items (type_at c.args.store.now.table.now c.args.whole))
