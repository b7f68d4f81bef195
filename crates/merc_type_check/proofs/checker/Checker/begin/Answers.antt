use Rattle.merc_type_check.proofs.Steps.{begun_fresh}
use Rattle.merc_type_check.proofs.checker.Checker.begin.Goals as goal

pub returns-clause-fresh : goal.returns-clause-fresh
returns-clause-fresh c = λ sound. begun_fresh c.args.self.now c.args.number c.requires sound
