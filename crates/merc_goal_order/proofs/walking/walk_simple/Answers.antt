use Rattle.std.proofs.Common.{◌∙◌, [], sym, subst, refl}
use Rattle.merc_goal_tree.specs.Nodes.{Simple}
use Rattle.merc_order.specs.Bound.{among}
use Rattle.merc_order.specs.Order.{simple_from}
use Rattle.merc_order.specs.Procedures.{modes_of}
use Rattle.merc_goal_facts.specs.Facts.{AreFactsOf}
use Rattle.merc_simple_goals.specs.Writing.{Gives}
use Rattle.merc_simple_goals.specs.declared.written.Written.{Written}
use Rattle.merc_goal_order.proofs.Emitted.{gives_from, adds_one}
use Rattle.merc_goal_order.proofs.Wholes.{known_own}
use Rattle.merc_goal_order.proofs.walking.walk_simple.Goals as goal

pub returns-clause-orders : goal.returns-clause-orders
returns-clause-orders c = λ total known stretch.
    let modes = modes_of c.args.setting.now.predicates.now in
    let facts : AreFactsOf total modes (Simple c.args.goal.now c.args.whole.now.span) c.index-facts-0.result = known_own total modes [] (Simple c.args.goal.now c.args.whole.now.span) c.args.whole.now.facts.now 0 c.index-facts-0.result known refl c.index-facts-0.is in
    let is = c.in_ok-outputs.ensures.outputs total modes (Simple c.args.goal.now c.args.whole.now.span) facts stretch in
    let mid : Written = record { nodes = c.args.written.now.nodes; fresh = c.args.written.now.fresh; seen = c.outputs_of.new.seen } in
    subst (λ outputs. Gives modes (simple_from total modes c.args.goal.now outputs c.args.whole.now.span (among c.args.bound.now)) c.args.written.now c.order_simple.new.written c.order_simple.result) is
    (gives_from modes (simple_from total modes c.args.goal.now c.in_ok-outputs.outputs c.args.whole.now.span (among c.args.bound.now)) c.args.written.now mid c.order_simple.new.written c.order_simple.result
    refl refl (c.in_ok-outputs.ensures.cleared ∙ sym c.requires.seen) (c.order_simple.ensures total))

pub returns-clause-adds : goal.returns-clause-adds
returns-clause-adds c =
    let modes = modes_of c.args.setting.now.predicates.now in
    let mid : Written = record { nodes = c.args.written.now.nodes; fresh = c.args.written.now.fresh; seen = c.outputs_of.new.seen } in
    adds_one modes (simple_from (λ v. 0) modes c.args.goal.now c.in_ok-outputs.outputs c.args.whole.now.span (among c.args.bound.now)) c.args.written.now mid c.order_simple.new.written c.order_simple.result
    refl c.in_ok-outputs.ensures.cleared (c.order_simple.ensures (λ v. 0))
