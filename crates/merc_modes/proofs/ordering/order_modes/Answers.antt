use Rattle.std.proofs.Common.{◌∙◌, ap, length, arith}
use Rattle.std.specs.List.{slice_index_or}
use Rattle.merc_order.specs.Procedures.{modes_of, numbers_below}
use Rattle.merc_modes.proofs.Procedures.{all_modes, next_mode}
use Rattle.merc_modes.proofs.ordering.order_modes.Goals as goal

pub loop-mode-preserved : goal.loop-mode-preserved
loop-mode-preserved c = λ faults trees found.
    let modes = modes_of c.args.predicates.now in
    let declared = c.args.declared.now in
    let items = c.as_slice-mode-items.ensures in
    next_mode modes (length declared.args) declared.modes c.args.goal.now faults trees c.loop-mode.mode-index c.mode-item.result c.deref-in-loop-mode.result.now c.loop-mode.found c.order_mode.new.found
    (omega (arith, c.loop-mode-test.true, ap (λ l. length l) items)) (c.mode-item.is ∙ ap (λ l. slice_index_or l c.loop-mode.mode-index c.mode-item.result) items)
    (c.deref-in-loop-mode.ensures.value ∙ c.in_ok-heads.ensures ∙ ap numbers_below c.len.ensures) (c.loop-mode.invariant faults trees found) c.in_ok-order_mode.ensures

pub returns : goal.returns
returns c = λ faults trees found.
    all_modes (modes_of c.args.predicates.now) (length c.args.declared.now.args) c.args.declared.now.modes c.args.goal.now faults trees c.loop-mode.mode-index c.loop-mode.found
    (omega (arith, c.loop-mode-test.false, ap (λ l. length l) c.as_slice-mode-items.ensures)) (c.loop-mode.invariant faults trees found)
