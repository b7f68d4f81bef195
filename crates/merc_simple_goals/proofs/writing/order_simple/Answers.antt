use Rattle.std.proofs.Common.{◌∙◌, sym, ap}
use Rattle.merc_goal_tree.specs.declared.goal.SimpleGoal.TheVariants.{Shape, Call}
use Rattle.merc_order.specs.Procedures.{modes_of}
use Rattle.merc_simple_goals.proofs.Putting.{by_goal, truth_gives, failure_gives, compared_gives, raised_gives}
use Rattle.merc_simple_goals.proofs.writing.order_simple.Goals as goal

pub returns-in-True : goal.returns-in-True
returns-in-True c = λ total. by_goal total (modes_of c.args.predicates.now) c.args.goal.now _ c.args.outputs c.args.span _ c.args.written.now c.put_if.new.written c.put_if.result c.in-True.is
    (truth_gives (modes_of c.args.predicates.now) c.args.outputs c.args.span c.args.written.now c.put_if.new.written c.put_if.result c.put_if.ensures)

pub returns-in-Fail : goal.returns-in-Fail
returns-in-Fail c = λ total. by_goal total (modes_of c.args.predicates.now) c.args.goal.now _ c.args.outputs c.args.span _ c.args.written.now c.put_if-in-Fail.new.written c.put_if-in-Fail.result c.in-Fail.is
    (failure_gives (modes_of c.args.predicates.now) c.args.outputs c.args.span c.args.written.now c.put_if-in-Fail.new.written c.put_if-in-Fail.result c.put_if-in-Fail.ensures)

pub returns-in-Same : goal.returns-in-Same
returns-in-Same c = λ total. by_goal total (modes_of c.args.predicates.now) c.args.goal.now _ c.args.outputs c.args.span _ c.args.written.now c.order_same.new.written c.order_same.result c.in-Same.is
    (c.order_same.ensures total (modes_of c.args.predicates.now))

pub returns-in-Shape : goal.returns-in-Shape
returns-in-Shape c = λ total. by_goal total (modes_of c.args.predicates.now) c.args.goal.now _ c.args.outputs c.args.span _ c.args.written.now c.order_shape.new.written c.order_shape.result (c.in-Shape.is ∙ ap (Shape c.in-Shape.whole c.in-Shape.symbol) (sym c.as_slice-arguments.ensures))
    (c.order_shape.ensures total (modes_of c.args.predicates.now))

pub returns-in-Arithmetic : goal.returns-in-Arithmetic
returns-in-Arithmetic c = λ total. by_goal total (modes_of c.args.predicates.now) c.args.goal.now _ c.args.outputs c.args.span _ c.args.written.now c.order_arithmetic.new.written c.order_arithmetic.result c.in-Arithmetic.is
    (c.order_arithmetic.ensures total (modes_of c.args.predicates.now))

pub returns-in-Compare : goal.returns-in-Compare
returns-in-Compare c = λ total. by_goal total (modes_of c.args.predicates.now) c.args.goal.now _ c.args.outputs c.args.span _ c.args.written.now c.put_if-in-Compare.new.written c.put_if-in-Compare.result c.in-Compare.is
    (compared_gives (modes_of c.args.predicates.now) c.in-Compare.comparison c.in-Compare.left c.in-Compare.right c.args.outputs c.args.span _ _ c.args.written.now c.put_if-in-Compare.new.written c.put_if-in-Compare.result
    c.are_both_bound-is_ready.ensures c.put_if-in-Compare.ensures)

pub returns-in-Raise : goal.returns-in-Raise
returns-in-Raise c = λ total. by_goal total (modes_of c.args.predicates.now) c.args.goal.now _ c.args.outputs c.args.span _ c.args.written.now c.put_if-in-Raise.new.written c.put_if-in-Raise.result c.in-Raise.is
    (raised_gives (modes_of c.args.predicates.now) c.in-Raise.text c.args.outputs c.args.span _ _ c.args.written.now c.put_if-in-Raise.new.written c.put_if-in-Raise.result c.is_bound-is_ready.ensures c.put_if-in-Raise.ensures)

pub returns-in-Call : goal.returns-in-Call
returns-in-Call c = λ total. by_goal total (modes_of c.args.predicates.now) c.args.goal.now _ c.args.outputs c.args.span _ c.args.written.now c.order_call.new.written c.order_call.result (c.in-Call.is ∙ ap (Call c.in-Call.predicate) (sym c.as_slice-arguments-in-Call.ensures))
    (c.order_call.ensures total (modes_of c.args.predicates.now) (sym c.modes_at-modes.ensures))
