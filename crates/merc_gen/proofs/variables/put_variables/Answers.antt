use Rattle.merc_course.specs.Variables.{node_variables}
use Rattle.merc_gen.proofs.Walks.{variables-walked, walks_fewer}
use Rattle.merc_gen.proofs.variables.put_variables.Goals as goal

pub loop-next-smaller : goal.loop-next-smaller
loop-next-smaller c = walks_fewer c.loop-next.left.items c.pop.new.self.items c.push_parts.new.left.items c.in-Some.next c.in-Some.ensures.items c.in_ok-push_parts.ensures

pub loop-next-preserved : goal.loop-next-preserved
loop-next-preserved c =
    variables-walked c.loop-next.left.items c.pop.new.self.items c.push_parts.new.left.items c.in-Some.next c.loop-next.variables c.put_own_variables.new.variables
    (node_variables c.args.goal.now) c.in-Some.ensures.items c.in_ok-push_parts.ensures c.in_ok-put_own_variables.ensures c.loop-next.invariant
