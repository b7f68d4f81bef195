use Rattle.merc_gen.specs.Singles.{contained}
use Rattle.merc_gen.proofs.Performing.{goes_on, fewer}
use Rattle.merc_gen.proofs.generating.perform_all.Goals as goal

pub loop-task-smaller : goal.loop-task-smaller
loop-task-smaller c =
    fewer (contained c.args.singles.now) c.loop-task.tasks.items c.pop.new.self.items c.perform.new.tasks.items c.in-Some.task c.loop-task.code c.perform.new.code c.in-Some.ensures.items
    c.in_ok-perform.ensures

pub loop-task-preserved : goal.loop-task-preserved
loop-task-preserved c =
    goes_on (contained c.args.singles.now) c.loop-task.tasks.items c.pop.new.self.items c.perform.new.tasks.items c.in-Some.task c.loop-task.code c.perform.new.code _ c.in-Some.ensures.items
    c.in_ok-perform.ensures c.loop-task.invariant
