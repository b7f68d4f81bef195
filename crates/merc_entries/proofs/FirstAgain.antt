-- A set that holds what was declared so far.
use Rattle.std.proofs.Common.{◌≡◌, Bool, List, Ordering, BTreeSet}
use Rattle.std.specs.Ordering.{eq_by_cmp}
use Rattle.std.specs.BTreeSet.{contains}
use Rattle.std.specs.List.{list_any}
use Rattle.merc_entries.specs.Entries.{Declared}

-- whether something was declared among these
abbrev pub is_among : {K : Type 0} → (K → K → Bool) → K → List (Declared K) → Bool
is_among same key seen = list_any (λ other. same key other.key) seen

-- a set holds exactly what was declared
abbrev pub HoldsKeys : {K : Type 0} → (K → K → Ordering) → BTreeSet K → List (Declared K) → Type 0
HoldsKeys {K} cmp set seen = (key : K) → contains cmp set key ≡ is_among (eq_by_cmp cmp) key seen
