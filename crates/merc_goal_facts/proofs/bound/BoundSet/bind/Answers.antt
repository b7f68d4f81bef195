use Rattle.std.proofs.Common.{◌≡◌, ◌<◌, ◌∙◌, sym, subst, length, false}
use Rattle.merc_order.specs.Bound.{among}
use Rattle.merc_goal_facts.proofs.Bounds.{bound_more}
use Rattle.merc_goal_facts.proofs.bound.BoundSet.bind.Goals as goal

pub invariant_of-self-2 : goal.invariant_of-self-2
invariant_of-self-2 c =
    let fresh : among c.self.inside.trail.items c.args.variable ≡ false = rw (c.self.view_is) (sym c.is_bound.ensures ∙ c.if-is_bound.false) in
    bound_more c.self.inside.table.items c.make_room.new.table.items c.self.inside.trail.items c.push.new.self.items c.args.variable c.number-2.result
    c.number-2.ensures c.in_ok-push.ensures.items fresh c.make_room.ensures.same
    (subst (λ number. number < length c.make_room.new.table.items) (c.number.ensures ∙ sym c.number-2.ensures) c.in_ok-make_room.ensures.room) c.self.invariant
