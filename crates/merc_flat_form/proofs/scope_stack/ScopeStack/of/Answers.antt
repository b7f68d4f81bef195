use Rattle.merc_flat_form.proofs.WholeGoals.{alone}
use Rattle.merc_flat_form.proofs.scope_stack.ScopeStack.of.Goals as goal

pub returns : goal.returns
returns c = alone c.args.scope.now c.bind_over.new.self c.enter.new.self c.new-stack.result c.new-stack.ensures c.in_ok-enter.ensures c.in_ok-bind_over.ensures.shown
