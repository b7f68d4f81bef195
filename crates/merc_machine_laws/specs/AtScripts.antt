-- Machines that stand at scripts.
use Rattle.std.specs.Prelude.{◌≡◌, ℕ, zero, suc, List, Option, Some, None}
use Rattle.std.specs.Option.{is_some}
use Rattle.merc_tree.specs.declared.declarations.PredDecl.{PredDecl}
use Rattle.merc_graded_tree.specs.declared.basic.Procedure.{Procedure}
use Rattle.merc_graded_tree.specs.declared.basic.Site.{Site}
use Rattle.merc_graded_tree.specs.Nodes.{Node}
use Rattle.merc_value.specs.Value.{Value}
use Rattle.merc_meaning.specs.Trace.{RunEnd}
use Rattle.merc_script.specs.declared.outcome.Outcome.{Outcome}
use Rattle.merc_script.specs.declared.outcome.Outcome.TheVariants.{Ok as Fine, Starved}
use Rattle.merc_script.specs.declared.cells.Move.{Move}
use Rattle.merc_script.specs.Script.{Script, Ends, WaitThen, SignalThen, ForkThen, Children, NoChild, Child, Cell, ends}
use Rattle.merc_script.specs.Joining.{joined}
use Rattle.merc_core.specs.WellFormed.{cells_of, value_in}
use Rattle.merc_course.specs.Course.{AtSignal, Courses, Meets, Reply, RunCourse}
use Rattle.merc_par_split.specs.Split.{all_split}
use Rattle.merc_plan.specs.Stands.{Stands}
use Rattle.merc_script_laws.specs.ScriptLaws.{OfEachGoal, goal_script, split_goal, split_program}
use Rattle.merc_code.specs.declared.instruction.Instruction.TheVariants.{Fork, Wait, Signal}
use Rattle.merc_code.specs.Steps.{Codes}
use Rattle.merc_gen.specs.Generated.{codes_of, query_code}
use Rattle.merc_gen.specs.Sites.{conjuncts_at, forked_with}
use Rattle.merc_layout.specs.KnownConjuncts.{conjunct_at}
use Rattle.merc_load.specs.declared.loaded.Loaded.{Loaded}
use Rattle.merc_load.specs.Loaded.{IsProgram}
use Rattle.merc_machine.specs.declared.machine.Machine.{Machine}
use Rattle.merc_machine.specs.Coming.{MeetsAt}
use Rattle.merc_machine.specs.Meetings.{HasPassed, IsConjunctOf, IsGiven, IsRejoined, IsStarted}
use Rattle.merc_machine.specs.Running.{Means}

-- A machine has a course before it that is what the script does, where each later wait is given its cell's value.
pub record StandsAt (values : ℕ → Option Value) (machine : Machine) (script : Script) : Type 0 where
  pub course : RunCourse
  pub means : Means machine course
  pub stands : Stands values course script

-- the script of a child, by its number from 0
abbrev pub child_at : Children → ℕ → Option Script
child_at NoChild number = None
child_at (Child first others) zero = Some first
child_at (Child first others) (suc number) = child_at others number

-- the code of procedures, and of the conjuncts of all sites, by the split trees of procedures and of a goal
abbrev pub split_codes : List PredDecl → List Node → Node → Codes
split_codes predicates trees goal = codes_of (split_program predicates trees) (conjuncts_at (forked_with (all_split 0 trees) (split_goal trees goal)))

-- This is the code that they give each procedure and each site.
pub record IsCodeOf (predicates : List PredDecl) (trees : List Node) (goal : Node) (codes : Codes) : Type 0 where
  pub procedures : (procedure : Procedure) → codes.procedures procedure ≡ (split_codes predicates trees goal).procedures procedure
  pub conjuncts : (site : ℕ) → codes.conjuncts site ≡ (split_codes predicates trees goal).conjuncts site

-- A machine that is started for an accepted goal, over its loaded code, stands at the goal's script.
abbrev pub GoalsStartAtScripts : Type 0
GoalsStartAtScripts = OfEachGoal (λ found trees tree limit.
    (variables : List ℕ) (codes : Codes) → IsCodeOf found.preds trees tree codes
    → (program : Loaded) → IsProgram program codes (query_code (split_program found.preds trees) (split_goal trees tree) variables)
    → (machine : Machine) → IsStarted program limit machine
    → StandsAt (value_in (cells_of (goal_script found.preds trees tree limit))) machine (goal_script found.preds trees tree limit))

-- Where a machine meets others, its script has the item at which it does.
abbrev pub IsAtFork : Script → Type 0
IsAtFork (ForkThen limit cells moves children rest) = Unit {0}
IsAtFork script = ⊥

abbrev pub IsAtWait : Script → Type 0
IsAtWait (WaitThen cell rest) = Unit {0}
IsAtWait script = ⊥

abbrev pub IsAtSignal : Script → Type 0
IsAtSignal (SignalThen cell rest) = Unit {0}
IsAtSignal script = ⊥

abbrev pub MeetingsAreItems : Type 0
MeetingsAreItems = (values : ℕ → Option Value) (machine : Machine) (script : Script) → StandsAt values machine script
    → ((site : Site) → MeetsAt machine (Fork site) → IsAtFork script)
    × ((variable : ℕ) → MeetsAt machine (Wait variable) → IsAtWait script)
    × ((variable : ℕ) → MeetsAt machine (Signal variable) → IsAtSignal script)

-- What holds of each machine that stands at a fork, and at the fork of its script.
abbrev pub OfEachFork : ((ℕ → Option Value) → Machine → Site → ℕ → Children → Script → Type 0) → Type 0
OfEachFork Holds =
    (values : ℕ → Option Value) (machine : Machine) (site : Site) (limit : ℕ) (cells : List Cell) (moves : List Move) (children : Children) (rest : Script)
    → StandsAt values machine (ForkThen limit cells moves children rest) → MeetsAt machine (Fork site) → Holds values machine site limit children rest

-- The conjuncts that the machine can make are as many as the script's children ..
abbrev pub ConjunctsAreThere : Type 0
ConjunctsAreThere = OfEachFork (λ values machine site limit children rest.
    (number : ℕ) → is_some (conjunct_at machine.program.now.conjuncts site.number number) ≡ is_some (child_at children number))

-- .. and each one's machine stands at the beginning of its child's script.
abbrev pub ConjunctsStartAtScripts : Type 0
ConjunctsStartAtScripts = OfEachFork (λ values machine site limit children rest.
    (number : ℕ) (script : Script) → child_at children number ≡ Some script → (child : Machine) → IsConjunctOf machine site number child → StandsAt values child script)

-- Where the children's outcomes join to a good end, it goes on behind the fork at what is left there; where they do not, nothing is left there.
abbrev pub ForksGoOnAtScripts : Type 0
ForksGoOnAtScripts = OfEachFork (λ values machine site limit children rest.
    (steps : ℕ) → joined limit (ends children) ≡ Fine steps → (after : Machine) → IsRejoined machine site steps after → StandsAt values after rest)

abbrev pub ForksEndScripts : Type 0
ForksEndScripts = OfEachFork (λ values machine site limit children rest.
    ((steps : ℕ) → joined limit (ends children) ≡ Fine steps → ⊥) → (end : Outcome) × (rest ≡ Ends end))

-- Where the cell has a value, it goes on with that value behind the wait at what is left there; where it has none, it starves.
abbrev pub WaitsGoOnAtScripts : Type 0
WaitsGoOnAtScripts = (values : ℕ → Option Value) (machine : Machine) (variable cell : ℕ) (rest : Script) → StandsAt values machine (WaitThen cell rest) → MeetsAt machine (Wait variable)
    → (value : Value) → values cell ≡ Some value → (after : Machine) → IsGiven machine variable value after → StandsAt values after rest

abbrev pub WaitsEndScripts : Type 0
WaitsEndScripts = (values : ℕ → Option Value) (machine : Machine) (variable cell : ℕ) (rest : Script) → StandsAt values machine (WaitThen cell rest) → MeetsAt machine (Wait variable)
    → values cell ≡ None → rest ≡ Ends Starved

-- The value that it hands on is the cell's; behind the signal it goes on at what is left there.
abbrev pub SignalsGoOnAtScripts : Type 0
SignalsGoOnAtScripts = (values : ℕ → Option Value) (machine : Machine) (variable cell : ℕ) (rest : Script) → StandsAt values machine (SignalThen cell rest) → MeetsAt machine (Signal variable)
    → (value : Value) × (values cell ≡ Some value)
    × ((forked : Courses RunEnd) × (next : Reply → RunCourse) × Means machine (Meets (AtSignal variable value) forked next))
    × ((after : Machine) → HasPassed machine variable value after → StandsAt values after rest)
