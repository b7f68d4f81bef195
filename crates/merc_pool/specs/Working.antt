-- Workers that run, and those that have left their loops.
use Rattle.std.specs.Prelude.{◌≡◌, ℕ, List, Option, Some, None, slice_get}
use Rattle.merc_board.specs.declared.board.Board as Board
use Rattle.merc_pool.specs.declared.engine.Engine as Engine
use Rattle.merc_pool.specs.declared.load.Asked as Asked
use Rattle.merc_pool.specs.declared.load.Carried.{Carried}
use Rattle.merc_pool.specs.declared.hand.Hand.{Hand}
use Rattle.merc_pool.specs.declared.hand.Hand.TheVariants.{Empty, Runs, Given, Ends, Came}
use Rattle.merc_pool.specs.declared.shared.Slot.{Slot}
use Rattle.merc_pool.specs.declared.shared.Worker.{Worker}
use Rattle.merc_pool.specs.Hands.{CameTo, IsAllowed, IsAtWork}

module _ {M N B H S W G C : Type 0} (m : Engine.Ghosts M) (n : Asked.Ghosts N) (b : Board.Ghosts B (Carried M N) H S W G C) where
  -- what was found, or nothing where the run is over
  abbrev pub FoundIs : B → Worker S → Option (Hand (Carried M N) H) → Type 0
  FoundIs board worker None = b.free board worker.seat × IsAllowed m n b worker
  FoundIs board worker (Some hand) = IsAtWork m n b board worker hand

  -- a worker that has left its loop has nothing, or the root
  abbrev pub DoneHand : B → S → Hand (Carried M N) H → Type 0
  DoneHand board seat Empty = b.free board seat
  DoneHand board seat (Runs branch) = ⊥
  DoneHand board seat (Given branch value) = ⊥
  DoneHand board seat (Ends branch outcome) = ⊥
  DoneHand board seat (Came branch stop) = CameTo m n b board seat branch.value stop

  abbrev pub IsDone : B → Worker S → Hand (Carried M N) H → Type 0
  IsDone board worker hand = DoneHand board worker.seat hand × IsAllowed m n b worker

  -- The same, told by what the worker has in hand.
  abbrev pub WorksWith : B → Worker S → Hand (Carried M N) H → Type 0
  WorksWith board worker Empty = IsAtWork m n b board worker Empty
  WorksWith board worker (Runs branch) = IsAtWork m n b board worker (Runs branch)
  WorksWith board worker (Given branch value) = IsAtWork m n b board worker (Given branch value)
  WorksWith board worker (Ends branch outcome) = IsAtWork m n b board worker (Ends branch outcome)
  WorksWith board worker (Came branch stop) = IsAtWork m n b board worker (Came branch stop)

  abbrev pub DoneWith : B → Worker S → Hand (Carried M N) H → Type 0
  DoneWith board worker Empty = IsDone board worker Empty
  DoneWith board worker (Runs branch) = IsDone board worker (Runs branch)
  DoneWith board worker (Given branch value) = IsDone board worker (Given branch value)
  DoneWith board worker (Ends branch outcome) = IsDone board worker (Ends branch outcome)
  DoneWith board worker (Came branch stop) = IsDone board worker (Came branch stop)

module _ {M N B H S W G C P : Type 0} (m : Engine.Ghosts M) (n : Asked.Ghosts N) (b : Board.Ghosts B (Carried M N) H S W G C) where
  abbrev pub AllAtWork : B → List (Slot (Carried M N) H S P) → Type 0
  AllAtWork board slots = (i : ℕ) (slot : Slot (Carried M N) H S P) → slice_get slots i ≡ Some slot → WorksWith m n b board slot.worker slot.hand

  abbrev pub AllDone : B → List (Slot (Carried M N) H S P) → Type 0
  AllDone board slots = (i : ℕ) (slot : Slot (Carried M N) H S P) → slice_get slots i ≡ Some slot → DoneWith m n b board slot.worker slot.hand
