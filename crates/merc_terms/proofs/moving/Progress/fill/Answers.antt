use Rattle.merc_terms.proofs.moving.Progress.fill.Goals as goal

pub returns-in-FirstOperand-clause-same : goal.returns-in-FirstOperand-clause-same
returns-in-FirstOperand-clause-same c = λ parts priority. rw c.in-FirstOperand.is (c.second_operand.ensures.same parts c.args.self.now.built c.args.span priority)
