use Rattle.std.proofs.Common.{◌∙◌, ◌==◌, ap}
use Rattle.merc_rights.specs.Waits.{rights_of, those_waits, others}
use Rattle.merc_par_split.proofs.Leaving.{ok_weaker, switch_left}
use Rattle.merc_par_split.proofs.placing.leave_switch.Goals as goal

pub returns : goal.returns
returns c =
    let parted = c.in_ok-parted.parted in
    let variable = c.args.variable in
    ok_weaker c.push.result _ _
    (switch_left c.args.placing.now variable c.args.symbols.now c.args.arms parted.before parted.inside c.span-span.result c.args.tasks.now c.leave_switch_inside.new.tasks c.push.new.self
    (c.in_ok-parted.ensures.before ∙ ap (λ l. rights_of (those_waits (λ other. other == variable) l)) c.as_slice.ensures)
    (c.in_ok-parted.ensures.inside ∙ ap (λ l. those_waits (others (λ other. other == variable)) l) c.as_slice.ensures)
    c.span-span.ensures c.in_ok-leave_switch_inside.ensures) c.push.ensures
