use Rattle.std.proofs.Common.{◌∙◌, ◌&&◌, ◌||◌, ap}
use Rattle.std.specs.Prelude.{nat_lt}
use Rattle.merc_order.specs.Bound.{among}
use Rattle.merc_switch_choice.specs.Counting.{count_of}
use Rattle.merc_switch_choice.proofs.CountLaws.{counted_key}
use Rattle.merc_switch_choice.proofs.counts.VarCounts.add_counted.Goals as goal

pub loop-number-init : goal.loop-number-init
loop-number-init c = λ variable.
    let counts = c.args.self.now in
    let above = nat_lt 0 (count_of counts variable) in
    ap (λ l. among l variable || (among c.as_slice-number-items.result.now variable && above)) c.requires
    ∙ ap (λ l. among l variable && above) (c.as_slice-number-items.ensures ∙ c.keys.ensures.rest) ∙ counted_key variable counts.by_number.entries
