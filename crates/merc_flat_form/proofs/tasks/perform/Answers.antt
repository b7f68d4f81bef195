use Rattle.std.proofs.Common.{◌≡◌, ◌∷◌, ◌++◌, []}
use Rattle.merc_value.specs.Text.{is_blank}
use Rattle.merc_flat_form.specs.Levels.{scope_of}
use Rattle.merc_flat_form.specs.declared.tasks.Task.TheVariants.{Give, Put}
use Rattle.merc_flat_form.proofs.TaskLaws.{give_step, give_size, put_step, put_size}
use Rattle.merc_flat_form.proofs.tasks.perform.Goals as goal

pub loop-task-smaller-in-Continue-1 : goal.loop-task-smaller-in-Continue-1
loop-task-smaller-in-Continue-1 c =
    let popping : c.loop-task.tasks.items ≡ c.pop.new.self.items ++ Give c.in-Give.variable c.in-Give.whole ∷ [] = cc (c.in-Some.ensures.items, c.in-Give.is) in
    give_size (is_blank c.args.names.now) (scope_of c.args.stack.now) c.loop-task.tasks.items c.pop.new.self.items c.plan.new.tasks.items c.in-Give.variable c.in-Give.whole popping c.in_ok-plan-in-Give.ensures

pub loop-task-preserved-in-Continue-1 : goal.loop-task-preserved-in-Continue-1
loop-task-preserved-in-Continue-1 c =
    let popping : c.loop-task.tasks.items ≡ c.pop.new.self.items ++ Give c.in-Give.variable c.in-Give.whole ∷ [] = cc (c.in-Some.ensures.items, c.in-Give.is) in
    give_step (is_blank c.args.names.now) (scope_of c.args.stack.now) c.loop-task.tasks.items c.pop.new.self.items c.plan.new.tasks.items c.in-Give.variable c.in-Give.whole c.loop-task.goals.items _ popping c.in_ok-plan-in-Give.ensures c.loop-task.invariant

pub loop-task-smaller : goal.loop-task-smaller
loop-task-smaller c =
    let popping : c.loop-task.tasks.items ≡ c.pop.new.self.items ++ Put c.in-Put.goal ∷ [] = cc (c.in-Some.ensures.items, c.in-Put.is) in
    put_size c.loop-task.tasks.items c.pop.new.self.items c.in-Put.goal popping

pub loop-task-preserved : goal.loop-task-preserved
loop-task-preserved c =
    let popping : c.loop-task.tasks.items ≡ c.pop.new.self.items ++ Put c.in-Put.goal ∷ [] = cc (c.in-Some.ensures.items, c.in-Put.is) in
    put_step (is_blank c.args.names.now) (scope_of c.args.stack.now) c.loop-task.tasks.items c.pop.new.self.items c.in-Put.goal c.loop-task.goals.items c.push.new.self.items _ popping c.in_ok-push-in-Put.ensures.items c.loop-task.invariant
