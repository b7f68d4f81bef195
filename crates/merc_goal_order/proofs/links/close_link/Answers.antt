use Rattle.std.proofs.Common.{◌≡◌, ◌∙◌, true, false, ap, sym, refl}
use Rattle.merc_order.specs.Bound.{among, are_bound}
use Rattle.merc_order.specs.Procedures.{modes_of}
use Rattle.merc_simple_goals.specs.declared.written.Written.{Written}
use Rattle.merc_goal_order.proofs.Chaining.{closed_stuck, closed_one}
use Rattle.merc_goal_order.proofs.links.close_link.Goals as goal

pub returns-then-not-are_bound-clause-closes : goal.returns-then-not-are_bound-clause-closes
returns-then-not-are_bound-clause-closes c =
    rw c.fault_at.ensures (λ total whole links old closing.
    let owed : are_bound (among c.args.bound.now) c.args.link.own.now.owed ≡ false =
    ap (λ l. are_bound (among c.args.bound.now) l) (sym c.as_slice.ensures) ∙ sym c.are_bound.ensures ∙ c.if-not-are_bound.true in
    closed_stuck total (modes_of c.args.setting.now.predicates.now) c.args.setting.now.all.now (among c.args.bound.now) whole c.args.link links old c.args.written.now closing owed)

pub returns-clause-closes : goal.returns-clause-closes
returns-clause-closes c = λ total whole links old closing.
    let modes = modes_of c.args.setting.now.predicates.now in
    let owed : are_bound (among c.args.bound.now) c.args.link.own.now.owed ≡ true =
    ap (λ l. are_bound (among c.args.bound.now) l) (sym c.as_slice.ensures) ∙ sym c.are_bound.ensures ∙ c.if-not-are_bound.false in
    let new : Written = record { nodes = c.decide.new.self; fresh = c.args.written.now.fresh; seen = c.outputs_of.new.seen } in
    closed_one total modes c.args.setting.now.all.now (among c.args.bound.now) whole c.args.link links c.in_ok-outputs.outputs old c.args.written.now new closing owed
    (λ goal known stretch. c.in_ok-outputs.ensures.outputs total modes goal known stretch) c.in_ok-decide.ensures.ok refl (c.in_ok-outputs.ensures.cleared ∙ sym c.requires.seen)
