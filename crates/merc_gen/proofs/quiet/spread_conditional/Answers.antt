use Rattle.merc_gen.proofs.Quieting.{parts}
use Rattle.merc_gen.proofs.quiet.spread_conditional.Goals as goal

pub returns : goal.returns
returns c = λ single.
    parts single c.args.condition.now c.args.then_part c.args.else_part c.is_once.result c.args.left.now.items c.push.new.self.items c.push-2.new.self.items c.is_once.ensures
    c.in_ok-push.ensures.items c.in_ok-push-2.ensures.items
