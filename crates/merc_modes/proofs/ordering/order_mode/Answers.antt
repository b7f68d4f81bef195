use Rattle.std.proofs.Common.{◌∙◌, ap, subst, refl, Ok, Err}
use Rattle.merc_base.specs.declared.refusal.Fault.{Fault}
use Rattle.merc_base.specs.declared.refusal.Fault.TheVariants.{Refused}
use Rattle.merc_order.specs.Bound.{among}
use Rattle.merc_order.specs.Procedures.{body_from, bound_at, modes_of}
use Rattle.merc_modes.specs.Bodies.{PutsTree}
use Rattle.merc_modes.proofs.Procedures.{fault_found, tree_found}
use Rattle.merc_modes.proofs.ordering.order_mode.Goals as goal

pub returns-in-Ok : goal.returns-in-Ok
returns-in-Ok c = λ faults trees found.
    let modes = modes_of c.args.predicates.now in
    let heads = c.args.heads.now in
    let goal = c.args.goal.now in
    let nodes = c.args.found.now.written.nodes in
    let is = c.in_ok-bind_inputs.ensures ∙ ap bound_at c.as_slice.ensures in
    tree_found modes heads goal _ faults trees c.args.found.now _ tt
    (subst (λ bound. PutsTree modes heads goal (body_from modes heads bound c.args.mode.now.span goal) nodes c.order_body.new.written.nodes (Ok tt)) is c.in-Ok.ensures)
    refl found

pub returns-in-Err-Refused : goal.returns-in-Err-Refused
returns-in-Err-Refused c = λ faults trees found.
    let modes = modes_of c.args.predicates.now in
    let heads = c.args.heads.now in
    let goal = c.args.goal.now in
    let nodes = c.args.found.now.written.nodes in
    let is = c.in_ok-bind_inputs.ensures ∙ ap bound_at c.as_slice.ensures in
    fault_found modes heads goal _ faults trees c.args.found.now _ c.in-Err-Refused.refusal c.first_fault.result
    (subst (λ bound. PutsTree modes heads goal (body_from modes heads bound c.args.mode.now.span goal) nodes c.order_body.new.written.nodes (Err (Refused c.in-Err-Refused.refusal))) is
    (subst (λ (fault : Fault). PutsTree modes heads goal (body_from modes heads (among c.bind_inputs.new.bound) c.args.mode.now.span goal) nodes c.order_body.new.written.nodes (Err fault))
    c.in-Err-Refused.field-0-is c.in-Err-Refused.ensures))
    c.first_fault.ensures refl found
