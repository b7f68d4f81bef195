-- Where a machine that a branch carries stands: what a board keeps of it without looking into it.
use Rattle.std.specs.Prelude.{◌≡◌, ℕ, ◌-◌, ◌≤◌, List, [], ◌∷◌, Option, Some, None, slice_get}
use Rattle.merc_value.specs.Value.{Value}
use Rattle.merc_value.specs.Block.{BlockData, root_values}
use Rattle.merc_meaning.specs.Trace.{Run, RunEnd, RunDone, RunRaised, LimitPassed as PastLimit, Ends as RunEnds}
use Rattle.merc_script.specs.declared.outcome.Outcome.{Outcome}
use Rattle.merc_script.specs.declared.outcome.Outcome.TheVariants.{Ok as Fine, Raise, Limit}
use Rattle.merc_script.specs.declared.cells.Move.{Move}
use Rattle.merc_script.specs.Script.{Script, Ends, TickThen, WaitThen, SignalThen, ForkThen, Children, Cell}
use Rattle.merc_script.specs.Places.{Place, left_of}
use Rattle.merc_core.specs.WellFormed.{cells_of, value_in, most_steps}
use Rattle.merc_course.specs.Course.{RunCourse, Meets, AtWait, AtFork, Reply, Courses}
use Rattle.merc_rights.specs.declared.sites.SiteInfo.{SiteInfo}
use Rattle.merc_graded_tree.specs.declared.basic.Site.{Site}
use Rattle.merc_code.specs.declared.instruction.Instruction.TheVariants.{Fork, Wait}
use Rattle.merc_machine.specs.declared.machine.Machine.{Machine}
use Rattle.merc_machine.specs.declared.running.Stop.{Stop}
use Rattle.merc_machine.specs.declared.running.Stop.TheVariants.{Answer, Ended, Raised, LimitPassed, Starved as StarvedStop, AtFork as AtForkStop, AtWait as AtWaitStop, AtSignal, SliceOver, NoMemory as NoMemoryStop}
use Rattle.merc_machine.specs.Coming.{MeetsAt, all_left}
use Rattle.merc_machine.specs.Running.{Means}
use Rattle.merc_board.specs.Rights.{Rights, TookWait}
use Rattle.merc_carried.specs.Sharing.{IsForkOf, rights_behind}
use Rattle.merc_carried.specs.Runs.{IsLeftOf}
use Rattle.merc_carried.specs.Plain.{IsPlain}
use Rattle.merc_carried.specs.KeepsTo.{KeepsTo}
use Rattle.merc_pool.specs.declared.engine.Engine as Engine
use Rattle.merc_pool.specs.declared.load.Progress.{Progress}

-- the steps that a machine has made, those of conjuncts that joined among them
abbrev pub made_by : Machine → ℕ
made_by machine = machine.limit - all_left machine

-- a block has the value of a cell as its only root
abbrev pub IsShown : Script → ℕ → BlockData → Type 0
IsShown root cell block = (value : Value) × (value_in (cells_of root) cell ≡ Some value) × (root_values block ≡ value ∷ [])

-- how a script ends at which a machine has stopped so, after so many steps
abbrev pub EndsAs : Stop → ℕ → Outcome → Type 0
EndsAs Ended made end = end ≡ Fine made
EndsAs (Raised text) made end = end ≡ Raise text made
EndsAs LimitPassed made end = end ≡ Limit
EndsAs stop made end = ⊥

-- .. and how a run ends that is told
abbrev pub ShowsAs : Stop → RunEnd → Type 0
ShowsAs Ended end = end ≡ RunDone
ShowsAs (Raised text) end = end ≡ RunRaised text
ShowsAs LimitPassed end = end ≡ PastLimit
ShowsAs stop end = ⊥

-- The machine has not more steps left than its limit, which is small.
pub record IsCounted (machine : Machine) : Type 0 where
  pub within : all_left machine ≤ machine.limit
  pub few : machine.limit ≤ most_steps

-- the steps of which its board was not told
abbrev pub unreported : Machine → (reported : ℕ) → ℕ
unreported machine reported = made_by machine - reported

-- Given are what stands at the sites, the script of the goal that is asked, and the run that is told of it.
module _ {M : Type 0} (m : Engine.Ghosts M) (sites : List SiteInfo) (root : Script) (whole : Run) where
  -- its board was told of all steps that the machine has made
  abbrev pub IsReported : Progress M → Type 0
  IsReported progress = made_by (m.seen progress.machine) ≡ progress.reported

  -- The machine has this course before it, and keeps to what is left of its script at a place. What the root still shows is left of the whole run.
  pub record IsOn (progress : Progress M) (rights : Rights) (place : Place) (course : RunCourse) (rest : Script) : Type 0 where
    pub rooted : place.root ≡ root
    pub left : left_of place ≡ Some rest
    pub run : Run
    pub keeps : KeepsTo sites (value_in (cells_of root)) rights (all_left (m.seen progress.machine)) (made_by (m.seen progress.machine)) run course rest
    pub means : Means (m.seen progress.machine) course
    pub counted : IsCounted (m.seen progress.machine)
    pub tells : place.name ≡ [] → IsLeftOf whole progress.given (made_by (m.seen progress.machine)) run

  -- What is told where the root's machine has stopped so. Where nothing is forked the machine has made all steps that are shown.
  pub record IsToldEnd (progress : Progress M) (stop : Stop) : Type 0 where
    pub made : ℕ
    pub end : RunEnd
    pub left : IsLeftOf whole progress.given made (RunEnds end)
    pub shows : ShowsAs stop end
    pub plain : IsPlain root → made ≡ made_by (m.seen progress.machine)

  -- The machine does not run on, and its script ends at a place as the machine has stopped.
  pub record HasStopped (progress : Progress M) (stop : Stop) (end : Outcome) (place : Place) : Type 0 where
    pub over : (m.seen progress.machine).over ≡ Some stop
    pub rooted : place.root ≡ root
    pub left : left_of place ≡ Some (Ends end)
    pub ends : EndsAs stop (made_by (m.seen progress.machine)) end
    pub counted : IsCounted (m.seen progress.machine)
    pub tells : place.name ≡ [] → IsToldEnd progress stop

  -- a machine goes on, or has stopped
  pub data Stands (progress : Progress M) (rights : Rights) (place : Place) : Type 0 where
    goes_on : (course : RunCourse) (rest : Script) → IsOn progress rights place course rest → Stands progress rights place
    has_stopped : (stop : Stop) (end : Outcome) → HasStopped progress stop end place → Stands progress rights place

  abbrev pub StandsAt : Progress M → Rights → Place → Type 0
  StandsAt progress rights place = IsReported progress × Stands progress rights place

  -- The machine stands at a wait, for which the right was taken out of those that there were before.
  pub record AwaitsAt (progress : Progress M) (rights : Rights) (place : Place) : Type 0 where
    pub variable : ℕ
    pub before : Rights
    pub cell : ℕ
    pub forked : Courses RunEnd
    pub next : Reply → RunCourse
    pub rest : Script
    pub took : TookWait variable before rights cell
    pub stopped : progress.stop ≡ AtWaitStop variable
    pub meets : MeetsAt (m.seen progress.machine) (Wait variable)
    pub on : IsOn progress before place (Meets (AtWait variable) forked next) (WaitThen cell rest)
    pub reported : IsReported progress

  -- The machine stands at a fork, where rights were handed out of those that there were before.
  pub record ForkedAt (progress : Progress M) (rights : Rights) (place : Place) : Type 0 where
    pub site : Site
    pub info : SiteInfo
    pub before : Rights
    pub limit : ℕ
    pub cells : List Cell
    pub moves : List Move
    pub children : Children
    pub forked : Courses RunEnd
    pub next : Reply → RunCourse
    pub rest : Script
    pub found : slice_get sites site.number ≡ Some info
    pub handed : rights ≡ rights_behind info cells before
    pub stopped : progress.stop ≡ AtForkStop site
    pub meets : MeetsAt (m.seen progress.machine) (Fork site)
    pub on : IsOn progress before place (Meets (AtFork site.number) forked next) (ForkThen limit cells moves children rest)
    pub reported : IsReported progress
