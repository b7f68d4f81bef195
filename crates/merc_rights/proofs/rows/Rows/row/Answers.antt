use Rattle.std.proofs.Common.{◌∙◌, ap, sym, subst, nat_le, drop, take, ◌-◌, length}
use Rattle.std.specs.List.{filter}
use Rattle.std.specs.List.Sorted.{IsNonDecreasingBy}
use Rattle.std.proofs.lemmas.List.{take_rest}
use Rattle.std.proofs.lemmas.List.Sorted.{IsNonDecreasingBy-drop}
use Rattle.merc_rights.proofs.RowLaws.{row_is}
use Rattle.merc_rights.proofs.rows.Rows.row.Goals as goal

pub count_before-from-requires : goal.count_before-from-requires
count_before-from-requires g c = subst (λ l. IsNonDecreasingBy (λ item. item.0) l) (sym c.deref.ensures.value) c.self.invariant

pub count_up_to-count-requires : goal.count_up_to-count-requires
count_up_to-count-requires g c =
    let items = c.deref-2.result.now in
    let from = c.count_before-from.result in
    let rise : IsNonDecreasingBy (λ item. item.0) items = subst (λ l. IsNonDecreasingBy (λ item. item.0) l) (sym c.deref-2.ensures.value) c.self.invariant in
    subst (λ l. IsNonDecreasingBy (λ item. item.0) l) (sym (take_rest items from)) (IsNonDecreasingBy-drop (λ item. item.0) from items rise)

pub returns : goal.returns
returns g c =
    let number = c.args.number in
    let items = c.deref-2.result.now in
    let from = c.count_before-from.result in
    let later = take (length items - from) (drop from items) in
    row_is number c.args.self.now later (take c.count_up_to-count.result later)
    (take_rest items from ∙ ap (λ l. drop from l) (c.deref-2.ensures.value ∙ sym c.deref.ensures.value) ∙ c.count_before-from.ensures.behind
    ∙ ap (λ l. filter (λ item. nat_le number item.0) l) (c.deref.ensures.value ∙ c.self.view_is)) c.count_up_to-count.ensures.front
