use Rattle.std.proofs.Common.{sym, ◌∙◌}
use Rattle.merc_type_check.proofs.checker.Checker.are_alike.Goals as goal

pub leads-requires-clause-waits : goal.leads-requires-clause-waits
leads-requires-clause-waits c = sym c.waits_with.ensures ∙ c.in-Some.is
