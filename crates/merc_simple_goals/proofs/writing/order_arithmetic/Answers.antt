use Rattle.std.proofs.Common.{◌∙◌, sym}
use Rattle.merc_simple_goals.proofs.Putting.{computed_gives, computed_tested}
use Rattle.merc_simple_goals.proofs.writing.order_arithmetic.Goals as goal

pub returns-then-not-is_bound : goal.returns-then-not-is_bound
returns-then-not-is_bound c = λ total modes.
    computed_gives modes c.args.operation c.args.target c.args.operands.0 c.args.operands.1 c.args.frame.outputs c.args.frame.span _ _ _ c.args.written.now c.put_if.new.written c.put_if.result
    (sym c.are_both_bound.ensures ∙ c.if-not-are_both_bound.false) (sym c.is_bound.ensures ∙ c.if-not-is_bound.true) c.put_if.ensures

pub returns : goal.returns
returns c = λ total modes.
    computed_tested modes c.args.operation c.args.target c.new-fresh.result c.args.operands.0 c.args.operands.1 c.args.frame.outputs c.args.frame.span _ _ _ c.args.written.now c.put_with_tests.new.written
    (sym c.are_both_bound.ensures ∙ c.if-not-are_both_bound.false) (sym c.is_bound.ensures ∙ c.if-not-is_bound.false) c.new-fresh.ensures c.in_ok-put_with_tests.ensures
