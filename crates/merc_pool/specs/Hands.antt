-- What a worker has in hand, and what is known of it.
use Rattle.std.specs.Prelude.{◌≡◌, ◌⊎◌, ℕ, suc, ◌+◌, ◌-◌, Bool, true, List, [], Option, Some, None, slice_get}
use Rattle.std.specs.declared.boxed.Box.{Box}
use Rattle.merc_meaning.specs.Trace.{Env, Run, Answer as RunAnswer}
use Rattle.merc_value.specs.Block.{BlockData}
use Rattle.merc_script.specs.declared.outcome.Outcome.{Outcome}
use Rattle.merc_script.specs.Places.{Place}
use Rattle.merc_machine.specs.declared.running.Stop.{Stop}
use Rattle.merc_machine.specs.declared.running.Stop.TheVariants.{Answer, Ended, Raised, LimitPassed, Starved as StarvedStop, AtFork, AtWait, AtSignal, SliceOver, NoMemory as NoMemoryStop}
use Rattle.merc_machine.specs.Running.{HasAnswered}
use Rattle.merc_board.specs.declared.board.Board as Board
use Rattle.merc_board.specs.declared.branch.Branch.{Branch}
use Rattle.merc_board.specs.Going.{Ticked}
use Rattle.merc_board.specs.Boarding.{IsGiven, MayEnd}
use Rattle.merc_carried.specs.Runs.{IsLeftOf}
use Rattle.merc_pool.specs.declared.engine.Engine as Engine
use Rattle.merc_pool.specs.declared.load.Asked as Asked
use Rattle.merc_pool.specs.declared.load.Carried.{Carried}
use Rattle.merc_pool.specs.declared.hand.Hand.{Hand}
use Rattle.merc_pool.specs.declared.hand.Hand.TheVariants.{Empty, Runs, Given, Ends, Came}
use Rattle.merc_pool.specs.declared.shared.Worker.{Worker}
use Rattle.merc_pool.specs.Carrying.{made_by, IsShown, IsToldEnd, Stands, StandsAt, AwaitsAt, ForkedAt}
use Rattle.merc_pool.specs.Running.{StoppedAt}

module _ {M N B H S W G C : Type 0} (m : Engine.Ghosts M) (n : Asked.Ghosts N) (b : Board.Ghosts B (Carried M N) H S W G C) where
  -- The seat's worker runs the branch. The board was told that it came to one place, and it has passed Ticks since, up to another.
  pub record HasPassed (board : B) (seat : S) (branch : Branch (Carried M N) H) (at : Place) : Type 0 where
    pub from : Place
    pub passed : ℕ
    pub owned : b.own board seat branch.hold from
    pub ticked : Ticked from passed at
    pub reported : made_by (m.seen branch.load.progress.machine) ≡ branch.load.progress.reported + passed

  abbrev pub BranchStands : Branch (Carried M N) H → Place → Type 0
  BranchStands branch = StandsAt m n.sites n.root n.run branch.load.progress (b.rights branch.hold)

  -- the seat's worker runs the branch, whose machine stands where the board was told
  abbrev pub IsLive : B → S → Branch (Carried M N) H → Type 0
  IsLive board seat branch = (at : Place) × b.own board seat branch.hold at × BranchStands branch at

  -- the branch waits, and this is its value
  abbrev pub HasValue : B → S → Branch (Carried M N) H → BlockData → Type 0
  HasValue board seat branch value =
      IsGiven (b.own board seat branch.hold) (AwaitsAt m n.sites n.root n.run branch.load.progress (b.rights branch.hold)) (IsShown n.root) value

  abbrev pub CanEnd : B → S → Branch (Carried M N) H → Outcome → Type 0
  CanEnd board seat branch outcome = MayEnd (b.own board seat branch.hold) (BranchStands branch) (b.runs board seat branch.hold) (b.starved board seat branch.hold) outcome

  -- the worker has a parent whose children have ended
  abbrev pub IsParent : B → S → Branch (Carried M N) H → Type 0
  IsParent board seat branch = (at : Place) × b.holds board seat branch.hold at × ForkedAt m n.sites n.root n.run branch.load.progress (b.rights branch.hold) at

  -- the seat's worker runs the root
  pub record IsRooted (board : B) (seat : S) (branch : Branch (Carried M N) H) : Type 0 where
    pub at : Place
    pub named : at.name ≡ []
    pub passed : HasPassed board seat branch at
    pub stands : Stands m n.sites n.root n.run branch.load.progress (b.rights branch.hold) at

  -- the root has come to an answer, the one that was to come
  pub record IsAtAnswer (board : B) (seat : S) (branch : Branch (Carried M N) H) : Type 0 where
    pub rooted : IsRooted board seat branch
    pub values : Env
    pub before : ℕ
    pub answered : HasAnswered (m.seen branch.load.progress.machine) values
    pub counted : branch.load.progress.given ≡ suc before
    pub is_next : (behind : Run) × IsLeftOf n.run before (made_by (m.seen branch.load.progress.machine)) (RunAnswer values behind)

  abbrev pub CameTo : B → S → Branch (Carried M N) H → Stop → Type 0
  CameTo board seat branch Answer = IsAtAnswer board seat branch
  CameTo board seat branch Ended = IsToldEnd m n.sites n.root n.run branch.load.progress Ended
  CameTo board seat branch (Raised text) = IsToldEnd m n.sites n.root n.run branch.load.progress (Raised text)
  CameTo board seat branch LimitPassed = IsToldEnd m n.sites n.root n.run branch.load.progress LimitPassed
  CameTo board seat branch StarvedStop = Unit {0}
  CameTo board seat branch (AtFork site) = Unit {0}
  CameTo board seat branch (AtWait variable) = Unit {0}
  CameTo board seat branch (AtSignal variable) = Unit {0}
  CameTo board seat branch SliceOver = Unit {0}
  CameTo board seat branch NoMemoryStop = Unit {0}

  -- what a worker of this seat has in hand
  abbrev pub HandIs : B → S → Hand (Carried M N) H → Type 0
  HandIs board seat Empty = b.free board seat
  HandIs board seat (Runs branch) = IsLive board seat branch.value
  HandIs board seat (Given branch value) = HasValue board seat branch.value value
  HandIs board seat (Ends branch outcome) = CanEnd board seat branch.value outcome
  HandIs board seat (Came branch stop) = CameTo board seat branch.value stop

  -- where the worker thinks that it may run one more slice of a branch other than the root, it may
  abbrev pub IsAllowed : Worker S → Type 0
  IsAllowed worker = worker.may_run ≡ true → b.may_run worker.seat

  -- .. and so it is for the branch in hand, which may also be the root
  abbrev pub MayRun : Worker S → Branch (Carried M N) H → Type 0
  MayRun worker branch = (b.of_root branch.hold ≡ true) ⊎ (worker.may_run ≡ true)

  abbrev pub IsAtWork : B → Worker S → Hand (Carried M N) H → Type 0
  IsAtWork board worker hand = HandIs board worker.seat hand × IsAllowed worker

  -- the branch in hand has come to a place, of which the board was told, and its machine has stopped so there
  abbrev pub HasComeTo : B → S → Branch (Carried M N) H → Stop → Type 0
  HasComeTo board seat branch stop =
      (at : Place) × b.own board seat branch.hold at × (made_by (m.seen branch.load.progress.machine) ≡ branch.load.progress.reported) × StoppedAt m n.sites n.root n.run branch.load.progress (b.rights branch.hold) at stop

  -- .. the root, of which it was perhaps told less
  abbrev pub RootCameTo : B → S → Branch (Carried M N) H → Stop → Type 0
  RootCameTo board seat branch stop =
      (at : Place) × (at.name ≡ []) × (stop ≡ Answer → HasPassed board seat branch at) × StoppedAt m n.sites n.root n.run branch.load.progress (b.rights branch.hold) at stop
