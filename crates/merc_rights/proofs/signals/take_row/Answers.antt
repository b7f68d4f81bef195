use Rattle.std.proofs.Common.{◌∙◌, ap, sym, subst, drop, take, nat_lt, nat_le}
use Rattle.std.specs.List.{filter}
use Rattle.std.specs.List.Sorted.{IsNonDecreasingBy}
use Rattle.std.proofs.lemmas.List.Sorted.{IsNonDecreasingBy-take}
use Rattle.std.proofs.lemmas.Result.{IfOk-weaker}
use Rattle.merc_rights.proofs.SignalLaws.{row_taken, row_left}
use Rattle.merc_rights.proofs.signals.take_row.Goals as goal

pub returns-clause-row : goal.returns-clause-row
returns-clause-row c =
    let number = c.args.number in
    let items = c.args.rows.now.items in
    IfOk-weaker c.signals_of.result _ _ (λ signals is. row_taken number items c.in_ok-taken.taken.items signals
    (c.in_ok-taken.ensures.tail ∙ ap (drop c.count_below-from.result) (sym c.deref.ensures.value) ∙ c.count_below-from.ensures.back ∙ ap (filter (λ item. nat_le number item.number)) c.deref.ensures.value)
    is) c.signals_of.ensures

pub returns-clause-rest : goal.returns-clause-rest
returns-clause-rest c =
    let number = c.args.number in
    let items = c.args.rows.now.items in
    IfOk-weaker c.signals_of.result _ _ (λ signals is other less. row_left number other items c.split_off.new.self.items less
    (c.in_ok-taken.ensures.items ∙ ap (take c.count_below-from.result) (sym c.deref.ensures.value) ∙ c.count_below-from.ensures.front ∙ ap (filter (λ item. nat_lt item.number number)) c.deref.ensures.value)) c.signals_of.ensures

pub returns-clause-in_order : goal.returns-clause-in_order
returns-clause-in_order c =
    IfOk-weaker c.signals_of.result _ _ (λ signals is. subst (λ l. IsNonDecreasingBy (λ item. item.number) l) (sym c.in_ok-taken.ensures.items)
    (IsNonDecreasingBy-take (λ item. item.number) c.count_below-from.result c.args.rows.now.items c.requires)) c.signals_of.ensures
