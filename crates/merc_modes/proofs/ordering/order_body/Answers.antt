use Rattle.std.proofs.Common.{◌∙◌, ap, sym, subst, refl, Err}
use Rattle.merc_order.specs.Bound.{among}
use Rattle.merc_order.specs.Procedures.{are_bound_behind, body_from, modes_of, total_of}
use Rattle.merc_modes.specs.Bodies.{PutsTree}
use Rattle.merc_modes.proofs.Bodies.{body_put, body_unbound, facts_length, goal_stretch, facts_known, own_known, some_facts}
use Rattle.merc_modes.proofs.ordering.order_body.Goals as goal

pub order_goal-requires-clause-known : goal.order_goal-requires-clause-known
order_goal-requires-clause-known c = facts_length (modes_of c.args.predicates.now) c.args.heads.now c.args.goal.now c.deref.result.now c.args.body.now c.deref.ensures.value c.requires

pub own_facts-requires : goal.own_facts-requires
own_facts-requires c = some_facts (modes_of c.args.predicates.now) c.args.heads.now c.args.goal.now c.deref-2.result.now c.args.body.now c.deref-2.ensures.value c.requires

pub returns-then-branch : goal.returns-then-branch
returns-then-branch c =
    let modes = modes_of c.args.predicates.now in
    let heads = c.args.heads.now in
    let goal = c.args.goal.now in
    let bound = c.args.bound.now in
    let is = c.deref-2.ensures.value in
    let went = c.in_ok-order_goal.ensures.orders (total_of heads goal) (facts_known modes heads goal c.deref.result.now c.args.body.now c.deref.ensures.value c.requires) (goal_stretch modes heads goal c.args.body.now.all _ c.requires.all_are refl) in
    let are = c.in_ok-are_bound_behind.ensures modes goal (own_known modes heads goal c.deref-2.result.now _ c.own_facts.result.now c.args.body.now is c.requires c.own_facts.ensures) in
    body_put modes heads goal (among bound) c.args.span went.0 c.in_ok-are_bound_behind.field-0 c.args.body.now.fresh c.args.written.now.nodes c.order_goal.new.written.nodes went.1
    (are ∙ ap (λ l. are_bound_behind modes heads (among l) goal) c.in_ok-order_goal.ensures.same) c.if-branch.true c.requires.fresh_is went.2.nodes

pub returns-else-branch : goal.returns-else-branch
returns-else-branch c =
    let modes = modes_of c.args.predicates.now in
    let heads = c.args.heads.now in
    let goal = c.args.goal.now in
    let bound = c.args.bound.now in
    let is = c.deref-2.ensures.value in
    let went = c.in_ok-order_goal.ensures.orders (total_of heads goal) (facts_known modes heads goal c.deref.result.now c.args.body.now c.deref.ensures.value c.requires) (goal_stretch modes heads goal c.args.body.now.all _ c.requires.all_are refl) in
    let are = c.in_ok-are_bound_behind.ensures modes goal (own_known modes heads goal c.deref-2.result.now _ c.own_facts.result.now c.args.body.now is c.requires c.own_facts.ensures) in
    subst (λ fault. PutsTree modes heads goal (body_from modes heads (among bound) c.args.span goal) c.args.written.now.nodes c.order_goal.new.written.nodes (Err fault)) (sym c.fault_at.ensures)
    (body_unbound modes heads goal (among bound) c.args.span went.0 c.in_ok-are_bound_behind.field-0 went.1
    (are ∙ ap (λ l. are_bound_behind modes heads (among l) goal) c.in_ok-order_goal.ensures.same) c.if-branch.false)
