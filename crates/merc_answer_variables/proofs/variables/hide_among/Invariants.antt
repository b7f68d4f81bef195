use Rattle.std.proofs.Common.{◌≡◌, ◌&&◌, not, ℕ, is_some}
use Rattle.std.specs.Ordering.{nat_cmp}
use Rattle.std.specs.Map.{lookup}
use Rattle.std.specs.BTreeMap.{get, is_at}
use Rattle.std.specs.BTreeSet.{contains}
use Rattle.merc_answer_variables.proofs.variables.hide_among.Given as goal

abbrev pub invariant-loop-name : goal.invariant-loop-name
invariant-loop-name l = (q : ℕ) → (contains nat_cmp l.shown q && not (is_some (lookup (is_at (nat_cmp q)) l.name-iterator) && is_some (get nat_cmp l.many q)))
    ≡ (contains nat_cmp l.fn.shown q && not (is_some (get nat_cmp l.few q) && is_some (get nat_cmp l.many q)))
