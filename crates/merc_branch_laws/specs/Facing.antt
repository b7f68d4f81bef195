-- What a step of a course gives to a branch of which the rights find its cells: the item at which its script stands, and what is left of both behind it.
use Rattle.std.specs.Prelude.{◌≡◌, ℕ, zero, suc, ◌+◌, ◌-◌, List, Option, Some, None, slice_get}
use Rattle.merc_value.specs.Value.{Value}
use Rattle.merc_meaning.specs.Trace.{Env, RunEnd, RunDone, RunRaised, LimitPassed}
use Rattle.merc_script.specs.declared.outcome.Outcome.{Outcome}
use Rattle.merc_script.specs.declared.outcome.Outcome.TheVariants.{Ok as Fine, Raise, Limit, Starved}
use Rattle.merc_script.specs.declared.cells.Move.{Move}
use Rattle.merc_script.specs.Script.{Script, Ends, TickThen, WaitThen, SignalThen, ForkThen, Children, Cell, ends}
use Rattle.merc_script.specs.Joining.{joined, later}
use Rattle.merc_script.specs.Places.{child_at}
use Rattle.merc_course.specs.Course.{RunCourse, Ends as CourseEnds, Tick, Answer, Meets, AtWait, AtSignal, AtFork, Reply, Given, Passed, Joined, Courses, no_courses, more_courses}
use Rattle.merc_rights.specs.declared.sites.SiteInfo.{SiteInfo}
use Rattle.merc_board.specs.Rights.{Due, Owed, Rights, wait_for, signal_for}
use Rattle.merc_carried.specs.Sharing.{given_of, IsForkOf, rights_of_child, rights_behind}
use Rattle.merc_carried.specs.KeepsTo.{with_waits, with_signals}
use Rattle.merc_branch_laws.specs.Dealing.{moves_of, Deals, DealAll}

-- the outcome at a script's end, where the course ends so behind so many steps
abbrev pub IsEnd : ℕ → RunEnd → Outcome → Type 0
IsEnd made RunDone end = end ≡ Fine made
IsEnd made (RunRaised text) end = end ≡ Raise text made
IsEnd made LimitPassed end = end ≡ Limit

-- the course of this conjunct, where the first has the number 0
abbrev pub course_at : ℕ → Courses RunEnd → Option RunCourse
course_at number no_courses = None
course_at zero (more_courses first rest) = Some first
course_at (suc number) (more_courses first rest) = course_at number rest

module _ (sites : List SiteInfo) (values : ℕ → Option Value) where
  -- where a step is made, there is one left
  pub record FacesTick (rights : Rights) (left made : ℕ) (course : RunCourse) (script : Script) : Type 0 where
    pub less : ℕ
    pub rest : Script
    pub one_left : left ≡ suc less
    pub is : script ≡ TickThen rest
    pub behind : Deals sites values rights less (suc made) course rest

  -- The right that is used at a wait is for the script's cell. It goes on with the cell's value, and where there is none it starves.
  pub record FacesWait (rights : Rights) (left made variable : ℕ) (next : Reply → RunCourse) (script : Script) : Type 0 where
    pub cell : ℕ
    pub others : List Due
    pub rest : Script
    pub is : script ≡ WaitThen cell rest
    pub found : wait_for variable rights.waits ≡ Some (cell, others)
    pub given : (value : Value) → values cell ≡ Some value → Deals sites values (with_waits others rights) left made (next (Given value)) rest
    pub starved : values cell ≡ None → rest ≡ Ends Starved

  -- .. and so is the one at a signal, which hands the cell's value on
  pub record FacesSignal (rights : Rights) (left made variable : ℕ) (value : Value) (next : Reply → RunCourse) (script : Script) : Type 0 where
    pub owed : Owed
    pub others : List Owed
    pub rest : Script
    pub is : script ≡ SignalThen owed.cell rest
    pub found : signal_for variable rights.signals ≡ Some (owed, others)
    pub handed : values owed.cell ≡ Some value
    pub behind : Deals sites values (with_signals others rights) left made (next Passed) rest

  -- At a fork each child has the rights that it is dealt. Where the children join to a good end the branch goes on behind them with the rights that are its own then,
  -- and else it ends as they join.
  pub record FacesFork (rights : Rights) (left made site : ℕ) (forked : Courses RunEnd) (next : Reply → RunCourse) (script : Script) : Type 0 where
    pub cells : List Cell
    pub moves : List Move
    pub children : Children
    pub rest : Script
    pub is : script ≡ ForkThen left cells moves children rest
    pub info : SiteInfo
    pub planned : slice_get sites site ≡ Some info
    pub fork : IsForkOf info cells children
    pub are_moves : moves ≡ moves_of (given_of info) rights
    pub dealt : DealAll sites values info cells rights left 1 forked children
    pub joins : (steps : ℕ) → joined left (ends children) ≡ Fine steps → Deals sites values (rights_behind info cells rights) (left - steps) (made + steps) (next (Joined steps)) rest
    pub fails : ((steps : ℕ) → joined left (ends children) ≡ Fine steps → ⊥) → rest ≡ Ends (later made (joined left (ends children)))

-- what one step gives

abbrev pub EndsAreFaced : Type 0
EndsAreFaced = (sites : List SiteInfo) (values : ℕ → Option Value) (rights : Rights) (left made : ℕ) (end : RunEnd) (script : Script)
    → Deals sites values rights left made (CourseEnds end) script → (outcome : Outcome) × (script ≡ Ends outcome) × IsEnd made end outcome

abbrev pub TicksAreFaced : Type 0
TicksAreFaced = (sites : List SiteInfo) (values : ℕ → Option Value) (rights : Rights) (left made : ℕ) (course : RunCourse) (script : Script)
    → Deals sites values rights left made (Tick course) script → FacesTick sites values rights left made course script

abbrev pub AnswersAreFaced : Type 0
AnswersAreFaced = (sites : List SiteInfo) (values : ℕ → Option Value) (rights : Rights) (left made : ℕ) (env : Env) (course : RunCourse) (script : Script)
    → Deals sites values rights left made (Answer env course) script → Deals sites values rights left made course script

abbrev pub WaitsAreFaced : Type 0
WaitsAreFaced = (sites : List SiteInfo) (values : ℕ → Option Value) (rights : Rights) (left made variable : ℕ) (forked : Courses RunEnd) (next : Reply → RunCourse) (script : Script)
    → Deals sites values rights left made (Meets (AtWait variable) forked next) script → FacesWait sites values rights left made variable next script

abbrev pub SignalsAreFaced : Type 0
SignalsAreFaced = (sites : List SiteInfo) (values : ℕ → Option Value) (rights : Rights) (left made variable : ℕ) (value : Value) (forked : Courses RunEnd) (next : Reply → RunCourse) (script : Script)
    → Deals sites values rights left made (Meets (AtSignal variable value) forked next) script → FacesSignal sites values rights left made variable value next script

abbrev pub ForksAreFaced : Type 0
ForksAreFaced = (sites : List SiteInfo) (values : ℕ → Option Value) (rights : Rights) (left made site : ℕ) (forked : Courses RunEnd) (next : Reply → RunCourse) (script : Script)
    → Deals sites values rights left made (Meets (AtFork site) forked next) script → FacesFork sites values rights left made site forked next script

-- each conjunct has a child, which begins with the rights that it is dealt; the first child has the number 1
abbrev pub ChildrenAreFaced : Type 0
ChildrenAreFaced = (sites : List SiteInfo) (values : ℕ → Option Value) (info : SiteInfo) (cells : List Cell) (rights : Rights) (left : ℕ) (forked : Courses RunEnd) (children : Children)
    → DealAll sites values info cells rights left 1 forked children → (number : ℕ) (course : RunCourse) → course_at number forked ≡ Some course
    → (script : Script) × (child_at (suc number) children ≡ Some script)
    × Deals sites values (rights_of_child info cells rights (suc number)) left 0 course script
