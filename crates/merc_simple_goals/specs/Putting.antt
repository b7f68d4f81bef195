-- One goal more behind those that are written.
use Rattle.std.specs.Prelude.{◌≡◌, ℕ, ◌+◌, Bool, true, false, [], ◌∷◌, ◌++◌, Result, Ok, Err}
use Rattle.merc_base.specs.declared.place.Span.{Span}
use Rattle.merc_base.specs.declared.refusal.Fault.{Fault}
use Rattle.merc_base.specs.declared.refusal.Fault.TheVariants.{Refused, NoMemory}
use Rattle.merc_graded_tree.specs.Nodes.{Node}
use Rattle.merc_order.specs.Faults.{never_ready}
use Rattle.merc_simple_goals.specs.declared.written.Written.{Written}

-- the goal, with so many fresh variables
pub record IsPut (goal : Node) (count : ℕ) (old new : Written) : Type 0 where
  pub nodes : new.nodes ≡ old.nodes ++ goal ∷ []
  pub fresh : new.fresh ≡ old.fresh + count
  pub seen : new.seen ≡ old.seen

-- A goal with no fresh variables is put where it is ready, and where it is not it never is.
abbrev pub PutsIf : Bool → Node → Span → Written → Written → Result (Unit {0}) Fault → Type 0
PutsIf is_ready goal span old new (Ok done) = (is_ready ≡ true) × IsPut goal 0 old new
PutsIf is_ready goal span old new (Err (Refused refusal)) = (is_ready ≡ false) × (refusal ≡ never_ready span)
PutsIf is_ready goal span old new (Err NoMemory) = Unit {0}
