-- Machines that go on behind an instruction at which they met others.
use Rattle.std.proofs.Common.{◌≡◌, ℕ, suc, ◌+◌, ◌-◌, ◌<◌, [], ◌∷◌, length, drop, Some, slice_get, sym, ap, subst, arith}
use Rattle.std.proofs.lemmas.List.Elements.{All-nil, All-cons}
use Rattle.merc_graded_tree.specs.declared.basic.Site.{Site}
use Rattle.merc_value.specs.Value.{Value}
use Rattle.merc_meaning.specs.Trace.{Env, RunEnd}
use Rattle.merc_meaning.specs.Steps.{bound}
use Rattle.merc_course.specs.Course.{AtFork, AtWait, AtSignal, Reply, Given, Passed, Joined, RunCourse, Meets, Courses}
use Rattle.merc_code.specs.declared.instruction.Instruction.{Instruction}
use Rattle.merc_code.specs.declared.instruction.Instruction.TheVariants.{Fork, Wait, Signal}
use Rattle.merc_code.specs.Steps.{At, Binds}
use Rattle.merc_last_calls.specs.LeanMeaning.{YieldsLean}
use Rattle.merc_store.specs.Data.{StoreData, IsSound}
use Rattle.merc_store.specs.Fitting.{slot_value}
use Rattle.merc_store.specs.Performing.{DoesEffect}
use Rattle.merc_store.specs.declared.store.Done.TheVariants.{Bound}
use Rattle.merc_machine.specs.declared.machine.Machine.{Machine}
use Rattle.merc_machine.specs.declared.machine.Phase.TheVariants.{Running}
use Rattle.merc_machine.specs.Standing.{Runs}
use Rattle.merc_machine.specs.Coming.{MeetsAt, all_left}
use Rattle.merc_machine.specs.Running.{Means}
use Rattle.merc_machine.proofs.MetAt.{Met, met-at, met-fork, met-signal, met-value, met-wait, runs-next, wait-there}
use Rattle.merc_machine.proofs.Performing.{runs_grown}
use Rattle.merc_machine.proofs.Standings.{runs_behind}

-- a machine with this store that goes on at this place, with so many steps left
abbrev pub gone_on : Machine → StoreData → ℕ → ℕ → Machine
gone_on machine store there later = record machine { store = store; phase = Running there; later = later }

-- Given is a machine that rests at an instruction at which it meets others, and the place where it goes on.
module _ (machine : Machine) (instruction : Instruction) (course : RunCourse) (means : Means machine course) (m : Met machine instruction course) (there : ℕ) (next : there ≡ suc m.place) where
  -- Where the code goes on there, the machine has its course before it.
  went-on : (store : StoreData) (later left : ℕ) (env : Env) (rest : RunCourse) → Runs machine.program.now.ops.items m.codes m.entry_of (suc m.place) store m.rest env m.marks m.callers m.choices
      → later ≡ left → YieldsLean m.codes (At m.rest env m.marks m.callers m.choices left) rest → Means (gone_on machine store there later) rest
  went-on store later left env rest runs same yields =
      let rests = means.rests in
      record {
        stands_before = record {
          codes = m.codes;
          query = m.query;
          entry_of = m.entry_of;
          loaded = m.loaded;
          state = At m.rest env m.marks m.callers m.choices left;
          stands = (
            subst (λ n. Runs machine.program.now.ops.items m.codes m.entry_of n store m.rest env m.marks m.callers m.choices) (sym next) runs,
            omega (arith, rests, same),
          );
          yields = yields;
        };
        over = means.over;
        rests = rests;
      }

-- what the place where a machine goes on is
abbrev pub IsNextPlace : Machine → ℕ → Type 0
IsNextPlace machine there = (place : ℕ) → machine.phase ≡ Running place → there ≡ suc place

-- Behind a fork it has as many steps less left as its conjuncts made.
pub joins : (machine : Machine) (site : Site) (made steps : ℕ) → made ≡ steps → (there : ℕ) → MeetsAt machine (Fork site) → IsNextPlace machine there → (forked : Courses RunEnd) (next : Reply → RunCourse)
    → Means machine (Meets (AtFork site.number) forked next) → Means (gone_on machine machine.store there (machine.later - made)) (next (Joined steps))
joins machine site made steps same there at behind forked next means =
    let course = Meets (AtFork site.number) forked next in
    let m = met-at machine (Fork site) course means.stands_before at in
    let rests = means.rests in
    went-on machine (Fork site) course means m there (behind m.place m.running) machine.store (machine.later - made) (all_left machine - steps) m.env (next (Joined steps))
    (runs-next machine (Fork site) course m) (omega (arith, rests, same)) ((met-fork machine site forked next m).1 (Joined steps))

-- Behind a wait the variable has the value that it was given.
pub gives : (machine : Machine) (variable there : ℕ) (store : StoreData) (given : Value) → MeetsAt machine (Wait variable) → IsNextPlace machine there → IsSound machine.store.cells machine.store.stacks
    → DoesEffect machine.store store (variable ∷ []) (λ env. Binds (bound env variable given)) Bound → (forked : Courses RunEnd) (next : Reply → RunCourse)
    → Means machine (Meets (AtWait variable) forked next) → Means (gone_on machine store there machine.later) (next (Given given))
gives machine variable there store given at behind sound does forked next means =
    let course = Meets (AtWait variable) forked next in
    let m = met-at machine (Wait variable) course means.stands_before at in
    let rests = means.rests in
    let count = m.runs.stands.variables in
    let is_there = wait-there machine variable course m in
    let one = All-cons (λ (x : ℕ). x < count) variable [] is_there (All-nil (λ (x : ℕ). x < count)) in
    let performs = does.performs count m.env m.marks m.runs.stands.frame one in
    let ops = machine.program.now.ops.items in
    let same : suc m.place ≡ suc (m.place + 0) = omega arith in
    let runs = runs_behind ops m.codes m.entry_of m.place (suc m.place) 0 machine.store (Wait variable) m.rest m.env m.marks m.callers m.choices (ap (λ n. drop n ops) same) m.runs in
    went-on machine (Wait variable) course means m there (behind m.place m.running) store machine.later (all_left machine) (bound m.env variable given) (next (Given given))
    (runs_grown ops m.codes m.entry_of machine.store store sound performs.0 (suc m.place) m.rest m.env (bound m.env variable given) m.marks m.callers m.choices runs performs.1)
    (omega (arith, rests)) (met-wait machine variable forked next m (Given given))

-- Behind a signal it has what it had.
pub passes : (machine : Machine) (variable there : ℕ) (value : Value) → MeetsAt machine (Signal variable) → IsNextPlace machine there → (forked : Courses RunEnd) (next : Reply → RunCourse)
    → Means machine (Meets (AtSignal variable value) forked next) → Means (gone_on machine machine.store there machine.later) (next Passed)
passes machine variable there value at behind forked next means =
    let course = Meets (AtSignal variable value) forked next in
    let m = met-at machine (Signal variable) course means.stands_before at in
    let rests = means.rests in
    went-on machine (Signal variable) course means m there (behind m.place m.running) machine.store machine.later (all_left machine) m.env (next Passed)
    (runs-next machine (Signal variable) course m) (omega (arith, rests)) (met-signal machine variable value forked next m Passed)

-- The value that is handed on is its variable's.
pub hands : (machine : Machine) (variable : ℕ) (value : Value) → MeetsAt machine (Signal variable) → (forked : Courses RunEnd) (next : Reply → RunCourse)
    → Means machine (Meets (AtSignal variable value) forked next) → slot_value machine.store.cells (slice_get machine.store.stacks.current variable) ≡ Some value
hands machine variable value at forked next means =
    met-value machine variable value forked next (met-at machine (Signal variable) (Meets (AtSignal variable value) forked next) means.stands_before at)

-- The variable for which it waits has a slot.
pub wait-slot : (machine : Machine) (variable : ℕ) → MeetsAt machine (Wait variable) → (course : RunCourse) → Means machine course → variable < length machine.store.stacks.current
wait-slot machine variable at course means =
    let m = met-at machine (Wait variable) course means.stands_before at in
    let room = m.runs.stands.frame.room in
    let is_there = wait-there machine variable course m in
    omega (arith, room, is_there)
