-- Worked examples of goals that meet nobody, and of some that meet others.
use Rattle.std.specs.Prelude.{◌≡◌, [], ◌∷◌, Some, None, refl}
use Rattle.merc_tree.specs.declared.declarations.Arg.TheVariants.{Output}
use Rattle.merc_goal_tree.specs.declared.goal.Symbol.TheVariants.{Constructor}
use Rattle.merc_graded_tree.specs.declared.basic.BasicGoal.TheVariants.{Call, Wait, Signal}
use Rattle.merc_graded_tree.specs.declared.entries.Running.TheVariants.{Sequential, Parallel}
use Rattle.merc_graded_tree.specs.Nodes.{Node, Conjunction, Switch, Conditional, Negation, Quantified, nodes_of, more_arms, no_arms}
use Rattle.merc_meaning.specs.Runs.{Program, ProcedureBody, run}
use Rattle.merc_meaning.specs.RunExamples.{goal, basic, sequence, procedure, truth, failure}
use Rattle.merc_course.specs.Course.{whole}
use Rattle.merc_course.specs.Courses.{course}
use Rattle.merc_course.specs.CoursesExamples.{either, is_int, wait, signal}
use Rattle.merc_course.specs.Alone.{BasicMeetsNobody, ForksNothing, GoalMeetsNobody, MeetsNobody, AllMeetNobody, ArmsMeetNobody, BodyMeetsNobody, ProgramMeetsNobody}

abbrev waits : Node
waits = wait 0 2

abbrev signals : Node
signals = signal 0 2

abbrev calls : Node
calls = basic (Call (procedure 0) (0 ∷ [])) (0 ∷ [])

abbrev is_one : Node
is_one = is_int 0 1

abbrev beside : Node
beside = goal (Conjunction (Parallel (Some (record { number = 7 }))) (nodes_of (is_one ∷ truth ∷ []))) (0 ∷ [])

basic-example : BasicMeetsNobody (Call (procedure 0) (0 ∷ []))
basic-example = tt

basic-waits : BasicMeetsNobody (Wait 0 2) → ⊥
basic-waits meets = meets

basic-signals : BasicMeetsNobody (Signal 0 2) → ⊥
basic-signals meets = meets

forks-in_order : ForksNothing Sequential
forks-in_order = tt

forks-without_site : ForksNothing (Parallel None)
forks-without_site = tt

forks-not : ForksNothing (Parallel (Some (record { number = 7 }))) → ⊥
forks-not forks = forks

-- `( calls, true -> not fail ; some [] ( X = 1 ; fail ) )`
meets-example : MeetsNobody (goal (Conditional (sequence (calls ∷ truth ∷ []) (0 ∷ [])) (goal (Negation failure) []) (goal (Quantified [] (either (is_one ∷ failure ∷ []) (0 ∷ []))) (0 ∷ []))) (0 ∷ []))
meets-example = ((tt, (tt, (tt, tt))), tt, (tt, (tt, tt)))

meets-switch : GoalMeetsNobody (Switch 1 (more_arms (Constructor 200 0) is_one no_arms))
meets-switch = (tt, tt)

meets-arms : ArmsMeetNobody (more_arms (Constructor 200 0) waits no_arms) → ⊥
meets-arms meets = meets.0

meets-conjunct : AllMeetNobody (nodes_of (truth ∷ signals ∷ [])) → ⊥
meets-conjunct meets = meets.1.0

-- in any part of a condition, and below a quantifier

meets-condition : MeetsNobody (goal (Conditional waits truth truth) (0 ∷ [])) → ⊥
meets-condition meets = meets.0

meets-then : MeetsNobody (goal (Conditional truth signals truth) []) → ⊥
meets-then meets = meets.1

meets-else : MeetsNobody (goal (Conditional truth truth beside) (0 ∷ [])) → ⊥
meets-else meets = meets.2.0

meets-disjunction : MeetsNobody (either (truth ∷ waits ∷ []) (0 ∷ [])) → ⊥
meets-disjunction meets = meets.1.0

meets-quantified : MeetsNobody (goal (Quantified (1 ∷ []) waits) (0 ∷ [])) → ⊥
meets-quantified meets = meets

meets-negation : MeetsNobody (goal (Negation beside) []) → ⊥
meets-negation meets = meets.0

body-example : BodyMeetsNobody (Some (record { places = Output ∷ []; body = is_one }))
body-example = tt

body-not : BodyMeetsNobody (Some (record { places = Output ∷ []; body = beside })) → ⊥
body-not meets = meets.0

abbrev one_procedure : ProcedureBody
one_procedure = record { places = Output ∷ []; body = either (is_one ∷ is_one ∷ []) (0 ∷ []) }

abbrev program : Program
program called = Some one_procedure

program-example : ProgramMeetsNobody program
program-example = record { bodies = λ called. (tt, (tt, tt)) }

abbrev forking : Program
forking called = Some (record { places = Output ∷ []; body = beside })

program-not : ProgramMeetsNobody forking → ⊥
program-not meets = (meets.bodies (procedure 0)).0

-- a course that is the run, and one that is not

course-example : whole (run program calls 10) ≡ course program calls 10
course-example = refl

course-not : whole (run program waits 10) ≡ course program waits 10 → ⊥
course-not passes = cc

course-calls : whole (run forking calls 10) ≡ course forking calls 10 → ⊥
course-calls runs_alone = cc
