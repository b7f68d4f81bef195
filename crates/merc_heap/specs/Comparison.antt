-- What comes out where values are compared with a bound.
use Rattle.std.specs.Prelude.{ℕ, ◌≤◌}
use Rattle.merc_heap.specs.declared.comparison.Outcome.{Outcome}
use Rattle.merc_heap.specs.declared.comparison.Outcome.TheVariants.{Same, Apart, Open}

-- whether this holds, where it is told, and that the bound does not grow
abbrev pub Tells : Type 0 → ℕ → Outcome → Type 0
Tells Fact bound (Same left) = Fact × (left ≤ bound)
Tells Fact bound Apart = Fact → ⊥
Tells Fact bound Open = Unit {0}
