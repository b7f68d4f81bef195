use Rattle.std.proofs.lemmas.List.{append-nil}
use Rattle.merc_base.specs.Names.{fixed_names}
use Rattle.merc_base.proofs.NameLaws.{fixed_names-distinct}
use Rattle.merc_base.proofs.names.Names.new.Goals as goal

pub invariant_of-result : goal.invariant_of-result
invariant_of-result c = rw (c.new.ensures, append-nil fixed_names) fixed_names-distinct
