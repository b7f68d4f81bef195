-- Goals written out in their order.
use Rattle.std.specs.Prelude.{◌≡◌, ℕ, ◌+◌, List, [], ◌∷◌, ◌++◌, length, Result, Ok, Err}
use Rattle.merc_base.specs.declared.refusal.Fault.{Fault}
use Rattle.merc_base.specs.declared.refusal.Fault.TheVariants.{Refused, NoMemory}
use Rattle.merc_tree.specs.declared.declarations.ModeDecl.{ModeDecl}
use Rattle.merc_order.specs.Ordered.{Ordered, Outcome, Ready, Stuck}
use Rattle.merc_order.specs.Spelt.{spelt, twins}
use Rattle.merc_simple_goals.specs.declared.written.Written.{Written}

-- An ordered goal stands behind those that were written before, its fresh variables numbered on.
pub record IsWritten (modes : ℕ → List ModeDecl) (ordered : Ordered) (old new : Written) : Type 0 where
  pub nodes : new.nodes ≡ old.nodes ++ spelt modes old.fresh ordered ∷ []
  pub fresh : new.fresh ≡ old.fresh + length (twins ordered)
  pub seen : new.seen ≡ old.seen

-- What becomes of a goal is written, or its fault is given.
abbrev pub Gives : (ℕ → List ModeDecl) → Outcome → Written → Written → Result (Unit {0}) Fault → Type 0
Gives modes outcome old new (Ok done) = (ordered : Ordered) × (outcome ≡ Ready ordered) × IsWritten modes ordered old new
Gives modes outcome old new (Err (Refused refusal)) = outcome ≡ Stuck refusal
Gives modes outcome old new (Err NoMemory) = Unit {0}
