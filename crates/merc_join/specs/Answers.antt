-- What a ticket's call answers, with what its seat knows afterwards.
use Rattle.std.specs.Prelude.{◌≡◌, ℕ, List, Option, Some, None, length, slice_get}
use Rattle.merc_script.specs.declared.outcome.Outcome.{Outcome}
use Rattle.merc_join.specs.declared.stub.Slot.{Slot}
use Rattle.merc_join.specs.declared.stub.Slot.TheVariants.{Ended}
use Rattle.merc_join.specs.declared.stub.Stage.TheVariants.{Stopped, Over}
use Rattle.merc_join.specs.declared.stub.Stub.{Stub}
use Rattle.merc_join.specs.declared.outcomes.Finished.{Finished}
use Rattle.merc_join.specs.Join.{stub}

module _ {P : Type 0} (ends : P → ℕ → Outcome → Type 0) (parent : P) (child : ℕ) where
  -- each of the outcomes is so for its child, and the one of this child is the one that was put
  abbrev pub AreOutcomes : Slot P → List Outcome → Type 0
  AreOutcomes put outcomes = (i : ℕ) (outcome : Outcome) → slice_get outcomes i ≡ Some outcome → ends parent i outcome × (i ≡ child → put ≡ Ended outcome)

  -- the outcomes of all children in order, with the one that this call gave, and the parent
  pub record IsFinished (children : ℕ) (outcome : Outcome) (finished : Finished P) : Type 0 where
    pub count : length finished.outcomes ≡ children
    pub each : (i : ℕ) (o : Outcome) → slice_get finished.outcomes i ≡ Some o → ends parent i o
    pub own : slice_get finished.outcomes child ≡ Some outcome
    pub same_parent : finished.parent ≡ parent

  -- nothing where another child was still to come, and else all
  abbrev pub IsDone : ℕ → Outcome → Stub P → Option (Finished P) → Type 0
  IsDone children outcome view None = view ≡ stub parent child 1 Stopped (Ended outcome) 0
  IsDone children outcome view (Some finished) = (view ≡ stub parent child 1 Over (Ended outcome) children) × IsFinished children outcome finished
