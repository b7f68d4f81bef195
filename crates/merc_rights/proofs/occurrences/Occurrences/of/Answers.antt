use Rattle.merc_rights.specs.Uses.{uses_of}
use Rattle.merc_rights.proofs.Indexes.{pairs_rise}
use Rattle.merc_rights.proofs.occurrences.Occurrences.of.Goals as goal

pub of-requires : goal.of-requires
of-requires c = pairs_rise c.in_ok-part_pairs.field-0.items (uses_of c.args.goal.now) c.in_ok-part_pairs.ensures
