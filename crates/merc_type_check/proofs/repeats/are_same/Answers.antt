use Rattle.std.proofs.lemmas.Bool.Decides.{Decides-eqb}
use Rattle.std.proofs.lemmas.Slice.Eq.{slice_eq-Decides}
use Rattle.merc_type_check.proofs.Repeating.{equal_if}
use Rattle.merc_type_check.proofs.repeats.are_same.Goals as goal

pub returns : goal.returns
returns c = equal_if c.eq.result c.args.ones.now c.args.others.now (slice_eq-Decides Decides-eqb _ _ _ c.eq.ensures)
