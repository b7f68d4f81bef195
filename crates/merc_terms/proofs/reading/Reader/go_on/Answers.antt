use Rattle.std.proofs.Common.{◌∙◌, ap}
use Rattle.merc_terms.specs.Reader.{operand_bound}
use Rattle.merc_terms.proofs.ReaderSteps.{operator_step}
use Rattle.merc_terms.proofs.reading.Reader.go_on.Goals as goal

pub returns-in_ok-push-in-Some : goal.returns-in_ok-push-in-Some
returns-in_ok-push-in-Some c =
    operator_step c.args.self.now c.in-Some.rest c.args.span c.args.priority c.in-Some.operator c.operand-inner.result c.push.new.self c.requires c.in-Some.ensures.there c.in-Some.ensures.shorter
    (c.operand-inner.ensures ∙ ap (λ max. operand_bound max c.args.self.now.bound) c.last_most.ensures) c.in_ok-push-in-Some.ensures
