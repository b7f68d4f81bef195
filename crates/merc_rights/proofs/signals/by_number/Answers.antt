use Rattle.std.proofs.Common.{◌≡◌, rules}
use Rattle.std.proofs.lemmas.List.Sorted.{IsNonDecreasingBy-from_sort_by_key}
use Rattle.std.proofs.lemmas.Fn.{always_returns_same}
use Rattle.merc_rights.proofs.SignalLaws.{rows_stay}
use Rattle.merc_rights.proofs.signals.by_number.Goals as goal

pub returns-clause-in_order : goal.returns-clause-in_order
returns-clause-in_order c = IsNonDecreasingBy-from_sort_by_key (λ item. item.number) c.sort_by_key.new.self.items c.in_ok-sort_by_key.ensures.sorted (λ a r q k. search rules)

pub returns-clause-same : goal.returns-clause-same
returns-clause-same c =
    rows_stay c.args.groups.items c.sort_by_key.new.self.items
    (c.sort_by_key.ensures.stable (λ item. item.number) (always_returns_same _ (λ a r. r ≡ a.0.now.number) _ (λ a r q k. search rules)))
