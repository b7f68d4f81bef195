-- What is known of a session between two calls.
use Rattle.std.specs.Prelude.{◌≡◌, ◌≢◌, ℕ, suc, ◌<◌, Option, Some, None, List}
use Rattle.merc_board.specs.declared.board.Board as Board
use Rattle.merc_machine.specs.declared.running.Stop.{Stop}
use Rattle.merc_machine.specs.declared.running.Stop.TheVariants.{NoMemory as NoMemoryStop}
use Rattle.merc_pool.specs.declared.engine.Engine as Engine
use Rattle.merc_pool.specs.declared.load.Asked as Asked
use Rattle.merc_pool.specs.declared.load.Carried.{Carried}
use Rattle.merc_pool.specs.declared.hand.Hand.{Hand}
use Rattle.merc_pool.specs.declared.hand.Hand.TheVariants.{Empty, Runs, Given, Ends, Came}
use Rattle.merc_pool.specs.declared.shared.Shared.{Shared}
use Rattle.merc_pool.specs.declared.shared.Slot.{Slot}
use Rattle.merc_pool.specs.declared.next.Next.{Next}
use Rattle.merc_pool.specs.declared.next.Next.TheVariants.{Answer, Done, Raised, LimitPassed, NoMemory}
use Rattle.merc_carried.specs.Plain.{IsPlain}
use Rattle.merc_pool.specs.Carrying.{made_by}
use Rattle.merc_pool.specs.Shares.{AreShares}
use Rattle.merc_pool.specs.Telling.{IsLast}
use Rattle.merc_pool.specs.Hands.{CameTo, IsAllowed, IsRooted}
use Rattle.merc_pool.specs.Working.{AllAtWork}

-- the root has come to a stop
abbrev pub IsCame : {L H : Type 0} → Hand L H → Type 0
IsCame Empty = ⊥
IsCame (Runs branch) = ⊥
IsCame (Given branch value) = ⊥
IsCame (Ends branch outcome) = ⊥
IsCame (Came branch stop) = Unit {0}

module _ {M N B H S W G C : Type 0} (m : Engine.Ghosts M) (n : Asked.Ghosts N) (b : Board.Ghosts B (Carried M N) H S W G C) where
  -- a worker has the root, which has come to a stop
  abbrev pub BackHand : B → S → Hand (Carried M N) H → Type 0
  BackHand board seat Empty = ⊥
  BackHand board seat (Runs branch) = ⊥
  BackHand board seat (Given branch value) = ⊥
  BackHand board seat (Ends branch outcome) = ⊥
  BackHand board seat (Came branch stop) = CameTo m n b board seat branch.value stop

  -- a worker has the root in hand
  abbrev pub RootHand : B → S → Hand (Carried M N) H → Type 0
  RootHand board seat Empty = ⊥
  RootHand board seat (Runs branch) = IsRooted m n b board seat branch.value
  RootHand board seat (Given branch value) = ⊥
  RootHand board seat (Ends branch outcome) = ⊥
  RootHand board seat (Came branch stop) = ⊥

  -- The calling thread alone has run the root: up to a stop, or to the first fork.
  abbrev pub AloneHand : B → S → Hand (Carried M N) H → Type 0
  AloneHand board seat Empty = ⊥
  AloneHand board seat (Runs branch) = IsRooted m n b board seat branch.value
  AloneHand board seat (Given branch value) = ⊥
  AloneHand board seat (Ends branch outcome) = ⊥
  AloneHand board seat (Came branch stop) = CameTo m n b board seat branch.value stop

module _ {M N H : Type 0} where
  -- the root has so many answers given
  abbrev pub HasGiven : ℕ → Hand (Carried M N) H → Type 0
  HasGiven given Empty = ⊥
  HasGiven given (Runs branch) = branch.value.load.progress.given ≡ given
  HasGiven given (Given branch value) = ⊥
  HasGiven given (Ends branch outcome) = ⊥
  HasGiven given (Came branch stop) = ⊥

  -- the steps that the root's counter has, in hand or put by
  abbrev pub steps_of : ℕ → Hand (Carried M N) H → ℕ
  steps_of put_by Empty = put_by
  steps_of put_by (Runs branch) = branch.value.load.ticks
  steps_of put_by (Given branch value) = put_by
  steps_of put_by (Ends branch outcome) = put_by
  steps_of put_by (Came branch stop) = put_by

module _ {M N H : Type 0} (m : Engine.Ghosts M) where
  -- the root's counter has all steps that its machine made
  abbrev pub IsTallied : Hand (Carried M N) H → Type 0
  IsTallied Empty = Unit {0}
  IsTallied (Runs branch) = branch.value.load.ticks ≡ made_by (m.seen branch.value.load.progress.machine)
  IsTallied (Given branch value) = Unit {0}
  IsTallied (Ends branch outcome) = Unit {0}
  IsTallied (Came branch stop) = stop ≢ NoMemoryStop → branch.value.load.ticks ≡ made_by (m.seen branch.value.load.progress.machine)

  -- .. and no fork was met
  abbrev pub IsTalliedAlone : Hand (Carried M N) H → Type 0
  IsTalliedAlone Empty = Unit {0}
  IsTalliedAlone (Runs branch) = ⊥
  IsTalliedAlone (Given branch value) = Unit {0}
  IsTalliedAlone (Ends branch outcome) = Unit {0}
  IsTalliedAlone (Came branch stop) = IsTallied (Came branch stop)

module _ {M N H S P : Type 0} (m : Engine.Ghosts M) where
  abbrev pub IsHomeTallied : Option (Slot (Carried M N) H S P) → Type 0
  IsHomeTallied None = Unit {0}
  IsHomeTallied (Some slot) = IsTallied m slot.hand

module _ {M N H S P : Type 0} where
  abbrev pub steps_told : ℕ → Option (Slot (Carried M N) H S P) → ℕ
  steps_told put_by None = put_by
  steps_told put_by (Some slot) = steps_of put_by slot.hand

module _ {M N B H S W G C P : Type 0} (m : Engine.Ghosts M) (n : Asked.Ghosts N) (b : Board.Ghosts B (Carried M N) H S W G C) where
  -- the worker that has the root in hand, which has given so many answers
  abbrev pub IsHome : B → ℕ → Option (Slot (Carried M N) H S P) → Type 0
  IsHome board given None = ⊥
  IsHome board given (Some slot) = RootHand m n b board slot.worker.seat slot.hand × HasGiven given slot.hand × IsAllowed m n b slot.worker

  -- the one that has the root, which has come to a stop
  abbrev pub IsBack : B → Slot (Carried M N) H S P → Type 0
  IsBack board slot = BackHand m n b board slot.worker.seat slot.hand × IsAllowed m n b slot.worker

  -- Behind an answer the worker has the root in hand.
  abbrev pub IsToldHome : B → ℕ → Next → Slot (Carried M N) H S P → Type 0
  IsToldHome board given (Answer block) slot = IsHome board (suc given) (Some slot)
  IsToldHome board given Done slot = Unit {0}
  IsToldHome board given (Raised text) slot = Unit {0}
  IsToldHome board given LimitPassed slot = Unit {0}
  IsToldHome board given NoMemory slot = Unit {0}

  -- A session that has given so many answers, and has no end that it tells again.
  pub record IsSession (shared : Shared B) (others : List (Slot (Carried M N) H S P)) (len room : ℕ) (home : Option (Slot (Carried M N) H S P)) (over : Option Stop) (given : ℕ) : Type 0 where
    pub sites : AreShares n.sites shared.sites.items
    pub others_work : AllAtWork m n b shared.board others
    pub ready : over ≡ None → IsHome shared.board given home × (len < room)
    pub tallied : over ≡ None → IsPlain n.root → IsHomeTallied m home
    pub last : (stop : Stop) → over ≡ Some stop → IsLast stop

-- what is told of a session: how many answers it has given, the stop that it tells again, and the steps that were counted of the root
pub record SessionState : Type 0 where
  pub given : ℕ
  pub over : Option Stop
  pub steps : ℕ
