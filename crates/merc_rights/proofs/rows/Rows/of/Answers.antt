use Rattle.std.proofs.Common.{◌≡◌, rules}
use Rattle.std.proofs.lemmas.List.Sorted.{IsNonDecreasingBy-from_sort_by_key}
use Rattle.std.proofs.lemmas.Fn.{always_returns_same}
use Rattle.merc_rights.proofs.RowLaws.{rows_stay}
use Rattle.merc_rights.proofs.rows.Rows.of.Goals as goal

pub invariant_of-result : goal.invariant_of-result
invariant_of-result g c = IsNonDecreasingBy-from_sort_by_key (λ item. item.0) c.sort_by_key.new.self.items c.in_ok-sort_by_key.ensures.sorted (λ a r q k. search rules)

pub returns : goal.returns
returns g c = rows_stay c.args.items.items c.sort_by_key.new.self.items (c.sort_by_key.ensures.stable (λ item. item.0) (always_returns_same _ (λ a r. r ≡ a.0.now.0) _ (λ a r q k. search rules)))
