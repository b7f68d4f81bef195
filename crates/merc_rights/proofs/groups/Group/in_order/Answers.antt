use Rattle.std.proofs.Common.{sym, subst, ap, ◌∙◌, drop, take, nat_lt, nat_le}
use Rattle.std.specs.List.{filter}
use Rattle.std.specs.List.Sorted.{IsNonDecreasing}
use Rattle.std.proofs.lemmas.List.Sorted.{IsNonDecreasingBy-from_sort}
use Rattle.merc_rights.proofs.GroupLaws.{turned_is}
use Rattle.merc_rights.proofs.groups.Group.in_order.Goals as goal

pub zeros-count-requires : goal.zeros-count-requires
zeros-count-requires c =
    subst IsNonDecreasing (sym c.deref.ensures.value) (IsNonDecreasingBy-from_sort (λ n. n) c.sort.new.self.items c.in_ok-sort.ensures.sorted)

pub returns : goal.returns
returns c =
    let sorted = c.sort.new.self.items in
    let k = c.zeros-count.result in
    turned_is c.args.self.variable c.args.self.conjuncts.items sorted c.rotate_left.new.self.items k
    (IsNonDecreasingBy-from_sort (λ n. n) sorted c.in_ok-sort.ensures.sorted) c.sort.ensures.stable
    (ap (take k) (sym c.deref.ensures.value) ∙ c.zeros-count.ensures.front ∙ ap (filter (λ n. nat_lt n 1)) c.deref.ensures.value)
    (ap (drop k) (sym c.deref.ensures.value) ∙ c.zeros-count.ensures.back ∙ ap (filter (λ n. nat_le 1 n)) c.deref.ensures.value)
    c.rotate_left.ensures.items
