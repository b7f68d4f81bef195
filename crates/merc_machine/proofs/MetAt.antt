-- Machines that stand at an instruction at which they meet others.
use Rattle.std.proofs.Common.{◌≡◌, ℕ, zero, suc, ◌+◌, ◌<◌, List, [], ◌∷◌, length, drop, Some, slice_get, refl, sym, ap, ◌∙◌, subst, arith}
use Rattle.std.proofs.lemmas.List.Elements.{All-head}
use Rattle.merc_graded_tree.specs.declared.basic.Procedure.{Procedure}
use Rattle.merc_graded_tree.specs.declared.basic.Site.{Site}
use Rattle.merc_value.specs.Value.{Value}
use Rattle.merc_meaning.specs.Trace.{Env, RunEnd}
use Rattle.merc_meaning.specs.Steps.{value_at}
use Rattle.merc_course.specs.Course.{Meeting, AtFork, AtWait, AtSignal, Reply, RunCourse, Meets, Courses, no_courses, more_courses, left_after}
use Rattle.merc_course.specs.Courses.{told}
use Rattle.merc_course.specs.Variables.{only}
use Rattle.merc_code.specs.declared.instruction.Instruction.{Instruction}
use Rattle.merc_code.specs.declared.instruction.Instruction.TheVariants.{Fork, Wait, Signal}
use Rattle.merc_code.specs.Steps.{Code, ConjunctCode, Codes, Caller, ChoicePoint, State, At, Asks, forked_at, signals}
use Rattle.merc_last_calls.specs.LastCalls.{step_lean}
use Rattle.merc_last_calls.specs.LeanMeaning.{YieldsLean, YieldAllLean, yield_none, yield_more}
use Rattle.merc_layout.specs.declared.entries.Entry.{Entry}
use Rattle.merc_load.specs.declared.loaded.Op.TheVariants.{Meet as MeetOp}
use Rattle.merc_layout.specs.Frames.{FitsInstruction}
use Rattle.merc_load.specs.Loaded.{IsLoaded}
use Rattle.merc_store.specs.Fitting.{slot_value}
use Rattle.merc_machine.specs.declared.machine.Machine.{Machine}
use Rattle.merc_machine.specs.declared.machine.Phase.TheVariants.{Running}
use Rattle.merc_machine.specs.Standing.{Runs}
use Rattle.merc_machine.specs.Coming.{IsReady, MeetsAt, all_left}
use Rattle.merc_machine.specs.Running.{StandsBefore, course_at}
use Rattle.merc_machine.proofs.Advancing.{not-stuck, yields-asks}
use Rattle.merc_machine.proofs.Inverses.{is_meeting}
use Rattle.merc_machine.proofs.Standings.{reads, runs_as, runs_behind}

-- What a machine stands for that meets others at this instruction and has this course before it.
pub record Met (machine : Machine) (instruction : Instruction) (course : RunCourse) : Type 0 where
  pub codes : Codes
  pub query : Code
  pub entry_of : Procedure → Entry
  pub loaded : IsLoaded machine.program.now codes entry_of query
  pub place : ℕ
  pub running : machine.phase ≡ Running place
  pub found : slice_get machine.program.now.ops.items place ≡ Some (MeetOp instruction)
  pub ready : IsReady machine.store instruction
  pub rest : Code
  pub env : Env
  pub marks : List ℕ
  pub callers : List Caller
  pub choices : List ChoicePoint
  pub runs : Runs machine.program.now.ops.items codes entry_of place machine.store (instruction ∷ rest) env marks callers choices
  pub yields : YieldsLean codes (At (instruction ∷ rest) env marks callers choices (all_left machine)) course

-- A machine that has a course before it and meets others at an instruction stands for a state at that instruction.
pub met-at : (machine : Machine) (instruction : Instruction) (course : RunCourse) → StandsBefore machine course → MeetsAt machine instruction → Met machine instruction course
met-at machine instruction course s m =
    let at = reads s.codes s.entry_of machine m.place m.running s.state (MeetOp instruction) tt m.op s.stands (not-stuck s.codes s.state course s.yields) in
    let is = is_meeting s.codes s.entry_of at.runs.stands.variables at.runs.own at.instruction at.rest (MeetOp instruction) instruction at.link refl in
    let ops = machine.program.now.ops.items in
    record {
      codes = s.codes;
      query = s.query;
      entry_of = s.entry_of;
      loaded = s.loaded;
      place = m.place;
      running = m.running;
      found = m.op;
      ready = m.ready;
      rest = at.rest;
      env = at.env;
      marks = at.marks;
      callers = at.callers;
      choices = at.choices;
      runs = runs_as ops s.codes s.entry_of m.place machine.store (at.instruction ∷ at.rest) (instruction ∷ at.rest) at.env at.marks at.callers at.choices (ap (λ i. i ∷ at.rest) is.0) at.runs;
      yields = subst (λ state. YieldsLean s.codes state course) (at.is ∙ ap (λ i. At (i ∷ at.rest) at.env at.marks at.callers at.choices (all_left machine)) is.0) s.yields;
    }

-- It runs on at the next place, with the same frame.
pub runs-next : (machine : Machine) (instruction : Instruction) (course : RunCourse) (m : Met machine instruction course)
    → Runs machine.program.now.ops.items m.codes m.entry_of (suc m.place) machine.store m.rest m.env m.marks m.callers m.choices
runs-next machine instruction course m =
    let ops = machine.program.now.ops.items in
    let next : suc m.place ≡ suc (m.place + zero) = omega arith in
    runs_behind ops m.codes m.entry_of m.place (suc m.place) zero machine.store instruction m.rest m.env m.marks m.callers m.choices (ap (λ n. drop n ops) next) m.runs

same-meets : (what what' : Meeting) (forked forked' : Courses RunEnd) (next next' : Reply → RunCourse) → Meets what forked next ≡ Meets what' forked' next'
    → (what ≡ what') × (forked ≡ forked') × (next ≡ next')
same-meets what what' forked forked' next next' e = (cc, cc, cc)

met-asks : (codes : Codes) (state : State) (what named : Meeting) (conjuncts : List State) (behind : Reply → State) (forked : Courses RunEnd) (next : Reply → RunCourse)
    → YieldsLean codes state (Meets named forked next) → step_lean codes state ≡ Asks what conjuncts behind
    → YieldAllLean codes conjuncts forked × ((reply : Reply) → YieldsLean codes (behind reply) (next reply)) × (what ≡ named)
met-asks codes state what named conjuncts behind forked next y step =
    let a = yields-asks codes state what conjuncts behind (Meets named forked next) y step in
    let parts = same-meets named what forked a.courses next a.behind a.whole in (
      subst (YieldAllLean codes conjuncts) (sym parts.1) a.all,
      (λ reply. subst (λ (f : Reply → RunCourse). YieldsLean codes (behind reply) (f reply)) (sym parts.2) (a.yields reply)),
      sym parts.0,
    )

-- At a fork the conjuncts' machines make the courses that are forked, and behind each reply it makes the course behind that.
pub met-fork : (machine : Machine) (site : Site) (forked : Courses RunEnd) (next : Reply → RunCourse) (m : Met machine (Fork site) (Meets (AtFork site.number) forked next))
    → YieldAllLean m.codes (forked_at (m.codes.conjuncts site.number) m.env (all_left machine)) forked
    × ((reply : Reply) → YieldsLean m.codes (At m.rest m.env m.marks m.callers m.choices (left_after (all_left machine) reply)) (next reply))
met-fork machine site forked next m =
    let state = At (Fork site ∷ m.rest) m.env m.marks m.callers m.choices (all_left machine) in
    let conjuncts = forked_at (m.codes.conjuncts site.number) m.env (all_left machine) in
    let behind = λ (reply : Reply). At m.rest m.env m.marks m.callers m.choices (left_after (all_left machine) reply) in
    let met = met-asks m.codes state (AtFork site.number) (AtFork site.number) conjuncts behind forked next m.yields refl in
    (met.0, met.1)

same-some : (course other : RunCourse) → Some course ≡ Some other → course ≡ other
same-some course other e = cc

course-of : (codes : Codes) (states : List State) (forked : Courses RunEnd) → YieldAllLean codes states forked → (number : ℕ) (course : RunCourse) → course_at forked number ≡ Some course
    → (state : State) × (slice_get states number ≡ Some state) × YieldsLean codes state course
course-of codes _ _ yield_none number course at = absurd cc
course-of codes _ _ (yield_more state states first others y ys) zero course at = (state, refl, subst (YieldsLean codes state) (same-some first course at) y)
course-of codes _ _ (yield_more state states first others y ys) (suc number) course at = course-of codes states others ys number course at

forked-at : (conjuncts : List ConjunctCode) (env : Env) (left number : ℕ) (state : State) → slice_get (forked_at conjuncts env left) number ≡ Some state
    → (conjunct : ConjunctCode) × (slice_get conjuncts number ≡ Some conjunct) × (state ≡ At conjunct.code (only conjunct.used env) [] [] [] left)
forked-at [] env left number state at = absurd cc
forked-at (conjunct ∷ conjuncts) env left zero state at = (conjunct, refl, cc)
forked-at (conjunct ∷ conjuncts) env left (suc number) state at = forked-at conjuncts env left number state at

-- a conjunct's course, and the conjunct whose machine makes it
pub conjunct-at : (codes : Codes) (conjuncts : List ConjunctCode) (env : Env) (left : ℕ) (forked : Courses RunEnd) → YieldAllLean codes (forked_at conjuncts env left) forked
    → (number : ℕ) (course : RunCourse) → course_at forked number ≡ Some course
    → (conjunct : ConjunctCode) × (slice_get conjuncts number ≡ Some conjunct) × YieldsLean codes (At conjunct.code (only conjunct.used env) [] [] [] left) course
conjunct-at codes conjuncts env left forked all number course at =
    let there = course-of codes (forked_at conjuncts env left) forked all number course at in
    let conjunct = forked-at conjuncts env left number there.0 there.1 in
    (conjunct.0, conjunct.1, subst (λ state. YieldsLean codes state course) conjunct.2 there.2)

-- At a wait it goes on with the value that it is given.
pub met-wait : (machine : Machine) (variable : ℕ) (forked : Courses RunEnd) (next : Reply → RunCourse) (m : Met machine (Wait variable) (Meets (AtWait variable) forked next))
    → (reply : Reply) → YieldsLean m.codes (At m.rest (told m.env variable reply) m.marks m.callers m.choices (left_after (all_left machine) reply)) (next reply)
met-wait machine variable forked next m =
    let state = At (Wait variable ∷ m.rest) m.env m.marks m.callers m.choices (all_left machine) in
    let behind = λ (reply : Reply). At m.rest (told m.env variable reply) m.marks m.callers m.choices (left_after (all_left machine) reply) in
    (met-asks m.codes state (AtWait variable) (AtWait variable) [] behind forked next m.yields refl).1

-- .. whose variable is one of the frame's
pub wait-there : (machine : Machine) (variable : ℕ) (course : RunCourse) (m : Met machine (Wait variable) course) → variable < m.runs.stands.variables
wait-there machine variable course m =
    let variables = m.runs.stands.variables in
    let size = length machine.store.stacks.current in
    let fits = All-head (FitsInstruction variables size) (Wait variable) m.rest m.runs.stands.position.fits in
    All-head (λ (x : ℕ). x < variables) variable [] fits.written_variables_are_there

-- The variable of a signal is one of the frame's.
pub signal-there : (machine : Machine) (variable : ℕ) (course : RunCourse) (m : Met machine (Signal variable) course) → variable < m.runs.stands.variables
signal-there machine variable course m =
    let variables = m.runs.stands.variables in
    let size = length machine.store.stacks.current in
    let fits = All-head (FitsInstruction variables size) (Signal variable) m.rest m.runs.stands.position.fits in
    All-head (λ (x : ℕ). x < variables) variable [] fits.read_variables_are_there

same-value : (variable : ℕ) (value other : Value) → AtSignal variable value ≡ AtSignal variable other → value ≡ other
same-value variable value other e = cc

signalled : (machine : Machine) (variable : ℕ) (course : RunCourse) (m : Met machine (Signal variable) course) (value : Value) (forked : Courses RunEnd) (next : Reply → RunCourse)
    → course ≡ Meets (AtSignal variable value) forked next
    → (m.ready.0 ≡ value) × ((reply : Reply) → YieldsLean m.codes (At m.rest m.env m.marks m.callers m.choices (left_after (all_left machine) reply)) (next reply))
signalled machine variable course m value forked next is =
    let state = At (Signal variable ∷ m.rest) m.env m.marks m.callers m.choices (all_left machine) in
    let behind = λ (reply : Reply). At m.rest m.env m.marks m.callers m.choices (left_after (all_left machine) reply) in
    let has : value_at m.env variable ≡ Some m.ready.0 = m.runs.stands.frame.values variable (signal-there machine variable course m) ∙ m.ready.1 in
    let step : step_lean m.codes state ≡ Asks (AtSignal variable m.ready.0) [] behind = ap (signals m.rest m.env m.marks m.callers m.choices (all_left machine) variable) has in
    let met = met-asks m.codes state (AtSignal variable m.ready.0) (AtSignal variable value) [] behind forked next (subst (YieldsLean m.codes state) is m.yields) step in
    (same-value variable m.ready.0 value met.2, met.1)

-- At a signal its variable has the value that is handed on ..
pub met-value : (machine : Machine) (variable : ℕ) (value : Value) (forked : Courses RunEnd) (next : Reply → RunCourse) (m : Met machine (Signal variable) (Meets (AtSignal variable value) forked next))
    → slot_value machine.store.cells (slice_get machine.store.stacks.current variable) ≡ Some value
met-value machine variable value forked next m =
    m.ready.1 ∙ ap (λ v. Some v) (signalled machine variable (Meets (AtSignal variable value) forked next) m value forked next refl).0

-- .. and it goes on with what it has.
pub met-signal : (machine : Machine) (variable : ℕ) (value : Value) (forked : Courses RunEnd) (next : Reply → RunCourse) (m : Met machine (Signal variable) (Meets (AtSignal variable value) forked next))
    → (reply : Reply) → YieldsLean m.codes (At m.rest m.env m.marks m.callers m.choices (left_after (all_left machine) reply)) (next reply)
met-signal machine variable value forked next m =
    (signalled machine variable (Meets (AtSignal variable value) forked next) m value forked next refl).1
