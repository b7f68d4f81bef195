use Rattle.std.proofs.Common.{length, ap, arith}
use Rattle.merc_flat.proofs.ArityLaws.{fewer_arguments}
use Rattle.merc_flat.proofs.clauses.arity_of.Goals as goal

pub returns-clause-few : goal.returns-clause-few
returns-clause-few c =
    omega (arith, c.has_few_parts.ensures, c.len.ensures, ap length c.arguments.ensures, fewer_arguments c.as_ref-head.result)
