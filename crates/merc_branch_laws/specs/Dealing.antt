-- A course stands at a branch's script, and the rights that a board deals out to the branch, which are told by variables, find the cells that the script has at each
-- item. This is what the workers of a session are to know of each branch; of the root they know besides which run it shows.
use Rattle.std.specs.Prelude.{◌≡◌, ℕ, suc, ◌+◌, ◌-◌, true, false, List, ◌++◌, Option, Some, None, slice_get}
use Rattle.std.specs.List.{flat_map}
use Rattle.merc_value.specs.Value.{Value}
use Rattle.merc_meaning.specs.Trace.{Env, RunEnd, RunDone, RunRaised, LimitPassed}
use Rattle.merc_script.specs.declared.outcome.Outcome.{Outcome}
use Rattle.merc_script.specs.declared.outcome.Outcome.TheVariants.{Ok as Fine, Raise, Limit, Starved}
use Rattle.merc_script.specs.declared.cells.Move.{Move}
use Rattle.merc_script.specs.Script.{Script, Ends, TickThen, WaitThen, SignalThen, ForkThen, Children, NoChild, Child, Cell, ends}
use Rattle.merc_script.specs.Joining.{joined, later}
use Rattle.merc_course.specs.Course.{RunCourse, Ends as CourseEnds, Tick, Answer, Meets, AtWait, AtSignal, AtFork, Reply, Given, Passed, Joined, Courses, no_courses, more_courses}
use Rattle.merc_rights.specs.declared.sites.SiteInfo.{SiteInfo}
use Rattle.merc_board.specs.declared.fork.Handover.{Handover}
use Rattle.merc_board.specs.Rights.{Due, Owed, Rights, wait_for, signal_for, child_for}
use Rattle.merc_plan.specs.Hold.{moves_if}
use Rattle.merc_carried.specs.Sharing.{given_of, IsForkOf, rights_of_child, rights_behind}
use Rattle.merc_carried.specs.KeepsTo.{with_waits, with_signals}

-- the moves that handovers make of a branch's rights, in the order in which it has them, those to signal first
abbrev pub moves_of : List Handover → Rights → List Move
moves_of moves rights =
    flat_map (λ right. moves_if true right.cell (child_for true right.variable moves)) rights.signals
    ++ flat_map (λ right. moves_if false right.cell (child_for false right.variable moves)) rights.waits

-- Given are what stands at each site, and each cell's value, which is there where a script signals the cell. A branch has these rights, so many steps are left to it,
-- and it made so many. What stands at the site of a fork tells how many children it has, its cells, and which of the branch's rights move.
module _ (sites : List SiteInfo) (values : ℕ → Option Value) where
  mutual
    pub data Deals : Rights → (left made : ℕ) → RunCourse → Script → Type 0 where
      done : (rights : Rights) (left made : ℕ) → Deals rights left made (CourseEnds RunDone) (Ends (Fine made))
      raised : (rights : Rights) (left made text : ℕ) → Deals rights left made (CourseEnds (RunRaised text)) (Ends (Raise text made))
      limited : (rights : Rights) (left made : ℕ) → Deals rights left made (CourseEnds LimitPassed) (Ends Limit)
      ticks : (rights : Rights) (left made : ℕ) (course : RunCourse) (rest : Script)
          → Deals rights left (suc made) course rest → Deals rights (suc left) made (Tick course) (TickThen rest)
      answers : (rights : Rights) (left made : ℕ) (env : Env) (course : RunCourse) (rest : Script)
          → Deals rights left made course rest → Deals rights left made (Answer env course) rest
      waits : (rights : Rights) (left made variable cell : ℕ) (others : List Due) (value : Value) (forked : Courses RunEnd) (next : Reply → RunCourse) (rest : Script)
          → wait_for variable rights.waits ≡ Some (cell, others) → values cell ≡ Some value
          → Deals (with_waits others rights) left made (next (Given value)) rest
          → Deals rights left made (Meets (AtWait variable) forked next) (WaitThen cell rest)
      starves : (rights : Rights) (left made variable cell : ℕ) (others : List Due) (forked : Courses RunEnd) (next : Reply → RunCourse)
          → wait_for variable rights.waits ≡ Some (cell, others) → values cell ≡ None
          → Deals rights left made (Meets (AtWait variable) forked next) (WaitThen cell (Ends Starved))
      hands : (rights : Rights) (left made variable : ℕ) (owed : Owed) (others : List Owed) (value : Value) (forked : Courses RunEnd) (next : Reply → RunCourse) (rest : Script)
          → signal_for variable rights.signals ≡ Some (owed, others) → values owed.cell ≡ Some value
          → Deals (with_signals others rights) left made (next Passed) rest
          → Deals rights left made (Meets (AtSignal variable value) forked next) (SignalThen owed.cell rest)
      goes_on : (rights : Rights) (left made steps site : ℕ) (info : SiteInfo) (cells : List Cell) (moves : List Move) (forked : Courses RunEnd) (next : Reply → RunCourse)
          (children : Children) (rest : Script) → slice_get sites site ≡ Some info → IsForkOf info cells children → moves ≡ moves_of (given_of info) rights
          → DealAll info cells rights left 1 forked children → joined left (ends children) ≡ Fine steps
          → Deals (rights_behind info cells rights) (left - steps) (made + steps) (next (Joined steps)) rest
          → Deals rights left made (Meets (AtFork site) forked next) (ForkThen left cells moves children rest)
      ends_there : (rights : Rights) (left made site : ℕ) (info : SiteInfo) (cells : List Cell) (moves : List Move) (forked : Courses RunEnd) (next : Reply → RunCourse)
          (children : Children) (end : Outcome) → slice_get sites site ≡ Some info → IsForkOf info cells children → moves ≡ moves_of (given_of info) rights
          → DealAll info cells rights left 1 forked children → ((steps : ℕ) → joined left (ends children) ≡ Fine steps → ⊥) → end ≡ later made (joined left (ends children))
          → Deals rights left made (Meets (AtFork site) forked next) (ForkThen left cells moves children (Ends end))

    -- The children of a fork from this number on, each with the rights that it is dealt, and as many steps as were left at the fork.
    pub data DealAll : SiteInfo → List Cell → Rights → (left child : ℕ) → Courses RunEnd → Children → Type 0 where
      deal_none : (info : SiteInfo) (cells : List Cell) (rights : Rights) (left child : ℕ) → DealAll info cells rights left child no_courses NoChild
      deal_more : (info : SiteInfo) (cells : List Cell) (rights : Rights) (left child : ℕ) (course : RunCourse) (courses : Courses RunEnd) (first : Script) (others : Children)
          → Deals (rights_of_child info cells rights child) left 0 course first → DealAll info cells rights left (suc child) courses others
          → DealAll info cells rights left child (more_courses course courses) (Child first others)
