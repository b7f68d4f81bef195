use Rattle.std.proofs.Common.{not}
use Rattle.merc_terms.specs.Operators.{is_infix}
use Rattle.merc_terms.proofs.OperatorLaws.{found_named}
use Rattle.merc_terms.proofs.operators.prefix_in.Goals as goal

pub returns : goal.returns
returns c = found_named (λ fixity. not (is_infix fixity)) c.args.name c.args.rows.now _ c.requires c.first_prefix.ensures
