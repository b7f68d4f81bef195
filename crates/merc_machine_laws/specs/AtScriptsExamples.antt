-- Worked examples of machines that stand at scripts, at the script of `X = 1 & Y = X`.
use Rattle.std.specs.Prelude.{◌≡◌, ℕ, zero, suc, pos, true, List, [], ◌∷◌, Option, Some, None, refl}
use Rattle.std.proofs.Common.{subst}
use Rattle.std.specs.Option.{is_some}
use Rattle.merc_base.specs.declared.category.Category.TheVariants.{Det}
use Rattle.merc_value.specs.Value.{Value, Int}
use Rattle.merc_goal_tree.specs.declared.goal.Symbol.TheVariants.{Integer as IntegerSymbol}
use Rattle.merc_graded_tree.specs.declared.basic.BasicGoal.TheVariants.{Assign, Build}
use Rattle.merc_graded_tree.specs.declared.basic.Site.{Site}
use Rattle.merc_graded_tree.specs.declared.entries.Running.TheVariants.{Parallel}
use Rattle.merc_graded_tree.specs.Nodes.{Node, Basic, Conjunction, nodes_of}
use Rattle.merc_meaning.specs.Trace.{RunDone, RunEnd}
use Rattle.merc_meaning.specs.RunExamples.{graded}
use Rattle.merc_script.specs.declared.outcome.Outcome.TheVariants.{Ok as Fine, Raise, Starved}
use Rattle.merc_script.specs.Script.{Script, Ends, WaitThen, SignalThen, ForkThen, Children, NoChild, Child}
use Rattle.merc_course.specs.Course.{RunCourse, Ends as CourseEnds, Meets, AtWait, AtSignal, Courses, Reply, no_courses}
use Rattle.merc_plan.specs.Stands.{done, starves}
use Rattle.merc_code.specs.declared.instruction.Instruction.TheVariants.{Integer, Copy, Fork, Wait, Signal, Close}
use Rattle.merc_code.specs.Steps.{ConjunctCode}
use Rattle.merc_layout.specs.KnownConjuncts.{conjunct_at}
use Rattle.merc_machine.specs.declared.machine.Machine.{Machine}
use Rattle.merc_machine.specs.declared.running.Stop.TheVariants.{NoMemory}
use Rattle.merc_machine.specs.Coming.{MeetsAt}
use Rattle.merc_machine.specs.Meetings.{HasPassed, IsConjunctOf, IsGiven, IsRejoined}
use Rattle.merc_machine.specs.Running.{Means}
use Rattle.merc_machine_laws.specs.AtScripts.{ConjunctsAreThere, ConjunctsStartAtScripts, ForksEndScripts, ForksGoOnAtScripts, IsAtFork, IsAtSignal, IsAtWait, IsCodeOf, MeetingsAreItems, OfEachFork, SignalsGoOnAtScripts, StandsAt, WaitsEndScripts, WaitsGoOnAtScripts, child_at, split_codes}

abbrev one : Value
one = Int (pos 1)

-- X has cell 0 and Y cell 1, and both are 1.
abbrev values : ℕ → Option Value
values zero = Some one
values (suc zero) = Some one
values (suc (suc cell)) = None

abbrev first : Script
first = SignalThen 0 (Ends (Fine 0))

abbrev second : Script
second = WaitThen 0 (SignalThen 1 (Ends (Fine 0)))

abbrev both : Children
both = Child first (Child second NoChild)

abbrev behind : Script
behind = WaitThen 1 (Ends (Fine 0))

abbrev forking : Script
forking = ForkThen 5 [] [] both behind

child-example : child_at both 1 ≡ Some second
child-example = refl

-- Children are numbered from 0.
child-not : child_at both 1 ≡ Some first → ⊥
child-not counts_from_one = cc

child-past : child_at both 2 ≡ None
child-past = refl

-- its code: that of the two conjuncts of its only site

abbrev x_is_one : Node
x_is_one = graded Det (Basic (Build 0 (IntegerSymbol (pos 1)) [])) (0 ∷ [])

abbrev y_is_x : Node
y_is_x = graded Det (Basic (Assign 1 0)) (1 ∷ [])

abbrev beside : Node
beside = graded Det (Conjunction (Parallel None) (nodes_of (x_is_one ∷ y_is_x ∷ []))) (1 ∷ [])

abbrev conjuncts : ℕ → List ConjunctCode
conjuncts zero =
    record { used = 0 ∷ 0 ∷ []; code = Integer 0 (pos 1) ∷ Signal 0 ∷ Close ∷ [] }
    ∷ record { used = 0 ∷ 1 ∷ 0 ∷ 1 ∷ []; code = Wait 0 ∷ Copy 1 0 ∷ Signal 1 ∷ Close ∷ [] }
    ∷ []
conjuncts (suc site) = []

same_conjuncts : (site : ℕ) → conjuncts site ≡ (split_codes [] [] beside).conjuncts site
same_conjuncts zero = refl
same_conjuncts (suc site) = refl

code-example : IsCodeOf [] [] beside (record { procedures = λ procedure. None; conjuncts = conjuncts })
code-example = record { procedures = λ procedure. refl; conjuncts = same_conjuncts }

-- code without the conjuncts
code-not : IsCodeOf [] [] beside (record { procedures = λ procedure. None; conjuncts = λ site. [] }) → ⊥
code-not is = let same = is.conjuncts 0 in cc

fork-item : IsAtFork forking
fork-item = tt

fork-not : IsAtFork behind → ⊥
fork-not is = is

wait-item : IsAtWait behind
wait-item = tt

wait-not : IsAtWait first → ⊥
wait-not is = is

signal-item : IsAtSignal first
signal-item = tt

signal-not : IsAtSignal forking → ⊥
signal-not is = is

-- Given are machines.
module _ (machine after : Machine) where
  stands-done : Means machine (CourseEnds RunDone) → StandsAt values machine (Ends (Fine 3))
  stands-done means = record { course = CourseEnds RunDone; means = means; stands = done 3 }

  -- Cell 7 has no value.
  stands-starves : (next : Reply → RunCourse) → Means machine (Meets (AtWait 0) no_courses next) → StandsAt values machine (WaitThen 7 (Ends Starved))
  stands-starves next means = record { course = Meets (AtWait 0) no_courses next; means = means; stands = starves 0 7 no_courses next refl }

  -- A machine to which memory was refused stands nowhere.
  stands-stopped : (script : Script) → StandsAt values (record machine { over = Some NoMemory }) script → ⊥
  stands-stopped script stands = let over = stands.means.over in absurd cc

  -- Where it meets others, its script neither ends nor has another item.
  items-end : MeetingsAreItems → (site : Site) → MeetsAt machine (Fork site) → StandsAt values machine (Ends (Fine 0)) → ⊥
  items-end law site at stands = (law values machine (Ends (Fine 0)) stands).0 site at

  items-other : MeetingsAreItems → MeetsAt machine (Wait 0) → StandsAt values machine first → ⊥
  items-other law at stands = (law values machine first stands).1 0 at

  module _ (site : Site) (at : MeetsAt machine (Fork site)) where
    each_fork-example : OfEachFork (λ values machine site limit children rest. IsAtFork (ForkThen limit [] [] children rest))
    each_fork-example values machine site limit cells moves children rest stands at = tt

    -- Not each fork has one child.
    each_fork-not : StandsAt values machine forking → OfEachFork (λ values machine site limit children rest. child_at children 1 ≡ None) → ⊥
    each_fork-not stands all = let none = all values machine site 5 [] [] both behind stands at in absurd cc

    there-second : ConjunctsAreThere → StandsAt values machine forking → is_some (conjunct_at machine.program.now.conjuncts site.number 1) ≡ true
    there-second law stands = law values machine site 5 [] [] both behind stands at 1

    there-no_third : ConjunctsAreThere → StandsAt values machine forking → is_some (conjunct_at machine.program.now.conjuncts site.number 2) ≡ true → ⊥
    there-no_third law stands there = let none = law values machine site 5 [] [] both behind stands at 2 in absurd (cc (none, there))

    conjuncts-second : ConjunctsStartAtScripts → StandsAt values machine forking → (child : Machine) → IsConjunctOf machine site 1 child → StandsAt values child second
    conjuncts-second law stands child is = law values machine site 5 [] [] both behind stands at 1 second refl child is

    -- Both conjuncts end well, with no step.
    forks-example : ForksGoOnAtScripts → StandsAt values machine forking → IsRejoined machine site 0 after → StandsAt values after behind
    forks-example law stands is = law values machine site 5 [] [] both behind stands at 0 refl after is

    -- Where an exception ends one, nothing stands behind the fork.
    fork_ends-not : ForksEndScripts → StandsAt values machine (ForkThen 5 [] [] (Child (Ends (Raise 3 1)) NoChild) behind) → ⊥
    fork_ends-not law stands =
        let end = law values machine site 5 [] [] (Child (Ends (Raise 3 1)) NoChild) behind stands at (λ steps joins. absurd cc) in
        let is = end.1 in
        absurd cc

  waits-example : WaitsGoOnAtScripts → StandsAt values machine behind → MeetsAt machine (Wait 4) → IsGiven machine 4 one after → StandsAt values after (Ends (Fine 0))
  waits-example law stands at given = law values machine 4 1 (Ends (Fine 0)) stands at one refl after given

  -- Behind a wait for cell 7, which has no value, it can only starve.
  wait_ends-not : WaitsEndScripts → StandsAt values machine (WaitThen 7 (Ends (Fine 0))) → MeetsAt machine (Wait 4) → ⊥
  wait_ends-not law stands at = let is = law values machine 4 7 (Ends (Fine 0)) stands at refl in absurd cc

  signals-example : SignalsGoOnAtScripts → StandsAt values machine first → MeetsAt machine (Signal 4)
      → (forked : Courses RunEnd) × (next : Reply → RunCourse) × Means machine (Meets (AtSignal 4 one) forked next)
  signals-example law stands at =
      let behind = law values machine 4 0 (Ends (Fine 0)) stands at in
      let has = behind.1 in
      let is : behind.0 ≡ one = cc (has) in
      subst (λ (value : Value). (forked : Courses RunEnd) × (next : Reply → RunCourse) × Means machine (Meets (AtSignal 4 value) forked next)) is behind.2

  signals-behind : SignalsGoOnAtScripts → StandsAt values machine first → MeetsAt machine (Signal 4) → HasPassed machine 4 one after → StandsAt values after (Ends (Fine 0))
  signals-behind law stands at passed =
      let behind = law values machine 4 0 (Ends (Fine 0)) stands at in
      let has = behind.1 in
      let is : one ≡ behind.0 = cc (has) in
      behind.3 after (subst (λ (value : Value). HasPassed machine 4 value after) is passed)

  -- Nothing is handed on for a cell that has no value.
  signals-not : SignalsGoOnAtScripts → StandsAt values machine (SignalThen 7 (Ends (Fine 0))) → MeetsAt machine (Signal 4) → ⊥
  signals-not law stands at = let has = (law values machine 4 7 (Ends (Fine 0)) stands at).1 in absurd cc
