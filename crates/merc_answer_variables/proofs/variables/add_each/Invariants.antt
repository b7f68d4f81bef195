use Rattle.std.proofs.Common.{◌≡◌, ◌||◌, ℕ}
use Rattle.std.specs.Ordering.{nat_cmp}
use Rattle.std.specs.List.{list_any}
use Rattle.std.specs.BTreeMap.{is_at}
use Rattle.std.specs.BTreeSet.{contains}
use Rattle.merc_answer_variables.proofs.variables.add_each.Given as goal

abbrev pub invariant-loop-name : goal.invariant-loop-name
invariant-loop-name l = (q : ℕ) → (contains nat_cmp l.many q || list_any (is_at (nat_cmp q)) l.name-iterator) ≡ (contains nat_cmp l.fn.many q || contains nat_cmp l.few q)
