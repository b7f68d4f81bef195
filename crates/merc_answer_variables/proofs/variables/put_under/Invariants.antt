use Rattle.std.proofs.Common.{◌≡◌, ℕ}
use Rattle.std.specs.Ordering.{nat_cmp}
use Rattle.std.specs.Option.{option_or}
use Rattle.std.specs.Map.{lookup}
use Rattle.std.specs.BTreeMap.{get, is_at}
use Rattle.merc_answer_variables.proofs.variables.put_under.Given as goal

abbrev pub invariant-loop-name : goal.invariant-loop-name
invariant-loop-name l = (q : ℕ) → option_or (get nat_cmp l.first q) (lookup (is_at (nat_cmp q)) l.name-iterator) ≡ option_or (get nat_cmp l.fn.first q) (get nat_cmp l.second q)
