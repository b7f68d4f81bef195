use Rattle.merc_rights.specs.Rows.{row_of}
use Rattle.merc_rights.proofs.Indexes.{row_rises}
use Rattle.merc_rights.proofs.occurrences.Index.next.Goals as goal

pub first_from-requires : goal.first_from-requires
first_from-requires c = row_rises c.row.result.now (row_of c.number.result c.self.inside.rows) c.row.ensures (c.self.invariant c.number.result)
