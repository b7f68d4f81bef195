-- Worked examples of courses of goals, of each kind one that holds and one that does not. `number(out)` answers 1 and 2, `twice(in, out)` adds its input to
-- itself, `loop` calls itself, and `asking(out)` waits for its output.
use Rattle.std.specs.Prelude.{◌≡◌, ℕ, pos, false, List, [], ◌∷◌, Some, None, slice_get, refl}
use Rattle.merc_base.specs.declared.category.Category.TheVariants.{Semidet, Multi}
use Rattle.merc_tree.specs.declared.declarations.Arg.TheVariants.{Input, Output}
use Rattle.merc_value.specs.Value.{Int, Con, none, more}
use Rattle.merc_goal_tree.specs.declared.goal.Comparison.TheVariants.{Less}
use Rattle.merc_goal_tree.specs.declared.goal.Operation.TheVariants.{Add}
use Rattle.merc_goal_tree.specs.declared.goal.Symbol.{Symbol}
use Rattle.merc_goal_tree.specs.declared.goal.Symbol.TheVariants.{Constructor, Integer, Text}
use Rattle.merc_graded_tree.specs.declared.basic.BasicGoal.TheVariants.{Assign, Test, Build, Split, Arithmetic, Compare, Raise, Call, Wait, Signal}
use Rattle.merc_graded_tree.specs.declared.entries.Running.TheVariants.{Parallel}
use Rattle.merc_graded_tree.specs.Nodes.{Node, Conjunction, Disjunction, Switch, Conditional, Negation, Quantified, nodes_of, Arms, no_arms, more_arms}
use Rattle.merc_meaning.specs.Trace.{Env, Raised, TooDeep, RunDone, LimitPassed}
use Rattle.merc_meaning.specs.Runs.{Program, ProcedureBody}
use Rattle.merc_meaning.specs.RunExamples.{goal, graded, basic, sequence, procedure, truth, failure}
use Rattle.merc_course.specs.Course.{AtWait, AtSignal, AtFork, Given, Passed, Joined, GoalCourse, Ends, Tick, Answer, Meets, no_courses, more_courses, replied, one_answer}
use Rattle.merc_course.specs.Courses.{given_by, told, handed_on, once_if, called, where_some, taken_arm, node_course, call_course, course}
use Rattle.merc_course.specs.CourseExamples.{int, one, two, done, step}

abbrev pub either : List Node → List ℕ → Node
either goals outputs = goal (Disjunction (nodes_of goals)) outputs

abbrev pub is_int : ℕ → ℕ → Node
is_int variable value = basic (Build variable (Integer (pos value)) []) (variable ∷ [])

-- a wait as this conjunct, and a signal for this one, 0 for what is behind
abbrev pub wait : ℕ → ℕ → Node
wait variable conjunct = basic (Wait variable conjunct) (variable ∷ [])

abbrev pub signal : ℕ → ℕ → Node
signal variable conjunct = basic (Signal variable conjunct) []

abbrev number_body : ProcedureBody
number_body = record { places = Output ∷ []; body = either (is_int 0 1 ∷ is_int 0 2 ∷ []) (0 ∷ []) }

abbrev pub twice_body : ProcedureBody
twice_body = record { places = Input ∷ Output ∷ []; body = basic (Arithmetic Add 1 0 0) (1 ∷ []) }

abbrev loop_body : ProcedureBody
loop_body = record { places = []; body = basic (Call (procedure 2) []) [] }

abbrev asking_body : ProcedureBody
asking_body = record { places = Output ∷ []; body = wait 0 2 }

abbrev program : Program
program asked = slice_get (number_body ∷ twice_body ∷ loop_body ∷ asking_body ∷ []) asked.predicate

abbrev number : ℕ → Node
number variable = basic (Call (procedure 0) (variable ∷ [])) (variable ∷ [])

abbrev twice : ℕ → ℕ → Node
twice from to = basic (Call (procedure 1) (from ∷ to ∷ [])) (to ∷ [])

-- the course of a goal where these variables have values
abbrev in_env : Env → Node → GoalCourse
in_env env asked = node_course program (call_course program 10) asked env

abbrev of : Node → GoalCourse
of asked = in_env [] asked

-- goals that meet nobody do what they mean

true-example : of truth ≡ one_answer []
true-example = refl

true-not : of truth ≡ done → ⊥
true-not fails = cc

fail-example : of failure ≡ done
fail-example = refl

fail-not : of failure ≡ one_answer [] → ⊥
fail-not answers = cc

assign-example : in_env one (basic (Assign 1 0) (1 ∷ [])) ≡ one_answer (int 1 ∷ int 1 ∷ [])
assign-example = refl

assign-unbound : of (basic (Assign 1 0) (1 ∷ [])) ≡ done
assign-unbound = refl

assign-not : in_env one (basic (Assign 1 0) (1 ∷ [])) ≡ one_answer one → ⊥
assign-not binds_nothing = cc

test-example : in_env (int 1 ∷ int 1 ∷ []) (basic (Test 0 1) []) ≡ one_answer (int 1 ∷ int 1 ∷ [])
test-example = refl

test-fails : in_env (int 1 ∷ int 2 ∷ []) (basic (Test 0 1) []) ≡ done
test-fails = refl

test-not : in_env (int 1 ∷ int 2 ∷ []) (basic (Test 0 1) []) ≡ one_answer (int 1 ∷ int 2 ∷ []) → ⊥
test-not always = cc

abbrev red : Symbol
red = Constructor 200 0

abbrev box : Symbol
box = Constructor 201 1

build-example : in_env one (basic (Build 1 box (0 ∷ [])) (1 ∷ [])) ≡ one_answer (int 1 ∷ Some (Con 201 (more (Int (pos 1)) none)) ∷ [])
build-example = refl

build-not : in_env one (basic (Build 1 box (0 ∷ [])) (1 ∷ [])) ≡ one_answer (int 1 ∷ Some (Con 201 none) ∷ []) → ⊥
build-not without_arguments = cc

split-example : in_env (Some (Con 201 (more (Int (pos 1)) none)) ∷ []) (basic (Split 0 box (1 ∷ [])) (1 ∷ [])) ≡ one_answer (Some (Con 201 (more (Int (pos 1)) none)) ∷ int 1 ∷ [])
split-example = refl

split-fails : in_env one (basic (Split 0 box (1 ∷ [])) (1 ∷ [])) ≡ done
split-fails = refl

split-not : in_env one (basic (Split 0 box (1 ∷ [])) (1 ∷ [])) ≡ one_answer one → ⊥
split-not of_any_symbol = cc

arithmetic-example : in_env (int 3 ∷ int 4 ∷ []) (basic (Arithmetic Add 2 0 1) (2 ∷ [])) ≡ one_answer (int 3 ∷ int 4 ∷ int 7 ∷ [])
arithmetic-example = refl

arithmetic-not : in_env (int 3 ∷ int 4 ∷ []) (basic (Arithmetic Add 2 0 1) (2 ∷ [])) ≡ one_answer (int 3 ∷ int 4 ∷ int 8 ∷ []) → ⊥
arithmetic-not adds_one_more = cc

compare-example : in_env (int 3 ∷ int 4 ∷ []) (basic (Compare Less 0 1) []) ≡ one_answer (int 3 ∷ int 4 ∷ [])
compare-example = refl

compare-fails : in_env (int 3 ∷ int 4 ∷ []) (basic (Compare Less 1 0) []) ≡ done
compare-fails = refl

compare-not : in_env (int 3 ∷ int 4 ∷ []) (basic (Compare Less 1 0) []) ≡ one_answer (int 3 ∷ int 4 ∷ []) → ⊥
compare-not always = cc

abbrev raising : Node
raising = sequence (basic (Build 0 (Text 300) []) (0 ∷ []) ∷ basic (Raise 0) [] ∷ []) (0 ∷ [])

raise-example : of raising ≡ Ends (Raised 300)
raise-example = refl

raise-not : of raising ≡ done → ⊥
raise-not fails = cc

-- a call is one step, and what it is told there is told to the body

call-example : in_env (int 21 ∷ []) (twice 0 1) ≡ Tick (one_answer (int 21 ∷ int 42 ∷ []))
call-example = refl

call-absent : of (basic (Call (procedure 7) []) []) ≡ done
call-absent = refl

call-waits : replied (Given (Int (pos 7)) ∷ []) (of (basic (Call (procedure 3) (1 ∷ [])) (1 ∷ []))) ≡ Tick (one_answer (None ∷ int 7 ∷ []))
call-waits = refl

call-not : in_env (int 21 ∷ []) (twice 0 1) ≡ one_answer (int 21 ∷ int 42 ∷ []) → ⊥
call-not takes_no_step = cc

call-waits_not : of (basic (Call (procedure 3) (1 ∷ [])) (1 ∷ [])) ≡ Tick (one_answer []) → ⊥
call-waits_not passes = cc

called-not : called (λ env. one_answer []) None [] [] ≡ one_answer [] → ⊥
called-not answers = cc

-- a wait, told each reply

wait-example : of (wait 0 2) ≡ Meets (AtWait 0) no_courses (λ reply. one_answer (told [] 0 reply))
wait-example = refl

wait-given : replied (Given (Int (pos 7)) ∷ []) (of (wait 0 2)) ≡ one_answer (int 7 ∷ [])
wait-given = refl

-- no other reply gives a value
wait-passed : replied (Passed ∷ []) (of (wait 0 2)) ≡ one_answer (None ∷ [])
wait-passed = refl

wait-joined : replied (Joined 5 ∷ []) (of (wait 0 2)) ≡ one_answer (None ∷ [])
wait-joined = refl

-- other variables keep theirs
wait-others : replied (Given (Int (pos 7)) ∷ []) (in_env (int 1 ∷ int 2 ∷ []) (wait 0 2)) ≡ one_answer (int 7 ∷ int 2 ∷ [])
wait-others = refl

wait-not : of (wait 0 2) ≡ one_answer [] → ⊥
wait-not passes = cc

wait-given_not : replied (Given (Int (pos 7)) ∷ []) (of (wait 0 2)) ≡ one_answer (int 8 ∷ []) → ⊥
wait-given_not another_value = cc

wait-passed_not : replied (Passed ∷ []) (of (wait 0 2)) ≡ done → ⊥
wait-passed_not fails = cc

wait-joined_not : replied (Joined 5 ∷ []) (of (wait 0 2)) ≡ one_answer (int 5 ∷ []) → ⊥
wait-joined_not steps_are_values = cc

given_by-given : given_by (Given (Int (pos 7))) ≡ int 7
given_by-given = refl

given_by-not : given_by (Joined 5) ≡ int 5 → ⊥
given_by-not steps_are_values = cc

told-given : told one 1 (Given (Int (pos 7))) ≡ int 1 ∷ int 7 ∷ []
told-given = refl

told-not : told one 0 Passed ≡ one → ⊥
told-not keeps_its_value = cc

-- a signal, told each reply

signal-example : in_env (int 7 ∷ []) (signal 0 2) ≡ Meets (AtSignal 0 (Int (pos 7))) no_courses (λ reply. one_answer (int 7 ∷ []))
signal-example = refl

signal-passed : replied (Passed ∷ []) (in_env (int 7 ∷ []) (signal 0 2)) ≡ one_answer (int 7 ∷ [])
signal-passed = refl

signal-given : replied (Given (Int (pos 8)) ∷ []) (in_env (int 7 ∷ []) (signal 0 2)) ≡ one_answer (int 7 ∷ [])
signal-given = refl

signal-joined : replied (Joined 5 ∷ []) (in_env (int 7 ∷ []) (signal 0 2)) ≡ one_answer (int 7 ∷ [])
signal-joined = refl

-- what it is told there changes nothing
signal-given_not : replied (Given (Int (pos 8)) ∷ []) (in_env (int 7 ∷ []) (signal 0 2)) ≡ one_answer (int 8 ∷ []) → ⊥
signal-given_not takes_the_value = cc

signal-passed_not : replied (Passed ∷ []) (in_env (int 7 ∷ []) (signal 0 2)) ≡ one_answer [] → ⊥
signal-passed_not gives_its_own_away = cc

-- there is no value to hand on
signal-unbound : of (signal 0 2) ≡ done
signal-unbound = refl

handed_on-not : handed_on one 0 (Some (Int (pos 7))) ≡ one_answer one → ⊥
handed_on-not to_nobody = cc

-- a conjunction goes on from each answer, behind what it is told

conjunction-example : of (sequence (number 0 ∷ twice 0 1 ∷ []) (0 ∷ 1 ∷ [])) ≡ Tick (Tick (Answer (int 1 ∷ int 2 ∷ []) (Tick (Answer (int 2 ∷ int 4 ∷ []) done))))
conjunction-example = refl

conjunction-signals : of (sequence (number 0 ∷ signal 0 2 ∷ []) (0 ∷ []))
    ≡ Tick (Meets (AtSignal 0 (Int (pos 1))) no_courses (λ reply. Answer one (Meets (AtSignal 0 (Int (pos 2))) no_courses (λ again. one_answer two))))
conjunction-signals = refl

conjunction-waits : replied (Given (Int (pos 21)) ∷ []) (of (sequence (wait 0 2 ∷ twice 0 1 ∷ []) (0 ∷ 1 ∷ []))) ≡ Tick (one_answer (int 21 ∷ int 42 ∷ []))
conjunction-waits = refl

-- without a site conjuncts go one after the other
conjunction-beside : of (goal (Conjunction (Parallel None) (nodes_of (number 0 ∷ twice 0 1 ∷ []))) (0 ∷ 1 ∷ [])) ≡ of (sequence (number 0 ∷ twice 0 1 ∷ []) (0 ∷ 1 ∷ []))
conjunction-beside = refl

conjunction-not : of (sequence (number 0 ∷ twice 0 1 ∷ []) (0 ∷ 1 ∷ [])) ≡ Tick (Tick (one_answer (int 1 ∷ int 2 ∷ []))) → ⊥
conjunction-not from_the_first_answer_alone = cc

conjunction-beside_not : of (goal (Conjunction (Parallel None) (nodes_of (truth ∷ truth ∷ []))) []) ≡ Meets (AtFork 0) (more_courses done (more_courses done no_courses)) (λ reply. one_answer []) → ⊥
conjunction-beside_not forks = cc

-- a disjunction

disjunction-example : of (either (is_int 0 7 ∷ failure ∷ number 0 ∷ []) (0 ∷ [])) ≡ Answer (int 7 ∷ []) (Tick (Answer one (Answer two done)))
disjunction-example = refl

disjunction-waits : replied (Given (Int (pos 7)) ∷ []) (of (either (wait 0 2 ∷ is_int 0 8 ∷ []) (0 ∷ []))) ≡ Answer (int 7 ∷ []) (one_answer (int 8 ∷ []))
disjunction-waits = refl

disjunction-not : of (either (is_int 0 7 ∷ failure ∷ number 0 ∷ []) (0 ∷ [])) ≡ one_answer (int 7 ∷ []) → ⊥
disjunction-not takes_the_first = cc

-- a switch

abbrev arms : Arms
arms = more_arms red (is_int 1 1) (more_arms (Integer (pos 5)) (wait 1 2) no_arms)

switch-example : in_env (Some (Con 200 none) ∷ []) (goal (Switch 0 arms) (1 ∷ [])) ≡ one_answer (Some (Con 200 none) ∷ int 1 ∷ [])
switch-example = refl

switch-waits : replied (Given (Int (pos 7)) ∷ []) (in_env (int 5 ∷ []) (goal (Switch 0 arms) (1 ∷ []))) ≡ one_answer (int 5 ∷ int 7 ∷ [])
switch-waits = refl

switch-missing : in_env (int 6 ∷ []) (goal (Switch 0 arms) (1 ∷ [])) ≡ done
switch-missing = refl

switch-unbound : of (goal (Switch 0 arms) (1 ∷ [])) ≡ done
switch-unbound = refl

switch-not : in_env (int 6 ∷ []) (goal (Switch 0 arms) (1 ∷ [])) ≡ one_answer (int 6 ∷ int 1 ∷ []) → ⊥
switch-not has_an_arm_for_others = cc

taken_arm-not : taken_arm (int 5) (Integer (pos 6)) (step done) done ≡ step done → ⊥
taken_arm-not of_any_symbol = cc

where_some-not : where_some None (step done) done ≡ step done → ⊥
where_some-not always = cc

-- an if-then-else

conditional-example : of (goal (Conditional (number 0) (twice 0 1) failure) (0 ∷ 1 ∷ [])) ≡ Tick (Tick (Answer (int 1 ∷ int 2 ∷ []) (Tick (Answer (int 2 ∷ int 4 ∷ []) done))))
conditional-example = refl

conditional-then : replied (Given (Int (pos 7)) ∷ []) (of (goal (Conditional truth (wait 0 2) failure) (0 ∷ []))) ≡ one_answer (int 7 ∷ [])
conditional-then = refl

conditional-else : replied (Given (Int (pos 7)) ∷ []) (of (goal (Conditional failure truth (wait 0 2)) (0 ∷ []))) ≡ one_answer (int 7 ∷ [])
conditional-else = refl

-- a condition may wait, and goes on from each of its answers
conditional-waits : replied (Given (Int (pos 7)) ∷ []) (of (goal (Conditional (wait 0 2) (is_int 1 1) (is_int 1 2)) (0 ∷ 1 ∷ []))) ≡ one_answer (int 7 ∷ int 1 ∷ [])
conditional-waits = refl

conditional-not : of (goal (Conditional (either (is_int 0 7 ∷ is_int 0 8 ∷ []) (0 ∷ [])) truth failure) (0 ∷ [])) ≡ one_answer (int 7 ∷ []) → ⊥
conditional-not from_the_first_answer_alone = cc

-- a negation

negation-example : of (goal (Negation failure) []) ≡ one_answer []
negation-example = refl

negation-fails : of (goal (Negation (number 0)) []) ≡ Tick done
negation-fails = refl

negation-waits : replied (Given (Int (pos 7)) ∷ []) (of (goal (Negation (sequence (wait 0 2 ∷ failure ∷ []) [])) [])) ≡ one_answer []
negation-waits = refl

negation-not : of (goal (Negation (number 0)) []) ≡ Tick (one_answer one) → ⊥
negation-not answers = cc

-- a quantified goal

quantified-example : replied (Given (Int (pos 7)) ∷ []) (of (goal (Quantified (1 ∷ []) (wait 0 2)) (0 ∷ []))) ≡ one_answer (int 7 ∷ [])
quantified-example = refl

quantified-not : of (goal (Quantified (1 ∷ []) (wait 0 2)) (0 ∷ [])) ≡ one_answer [] → ⊥
quantified-not passes = cc

-- a goal with at most one solution, or without outputs, is not entered again

once-at_most_one : of (graded Semidet (Conditional (number 0) truth failure) (0 ∷ [])) ≡ Tick (one_answer one)
once-at_most_one = refl

once-no_outputs : of (goal (Conditional (number 0) truth failure) []) ≡ Tick (one_answer one)
once-no_outputs = refl

once-waits : replied (Given (Int (pos 7)) ∷ []) (of (graded Semidet (Disjunction (nodes_of (wait 0 2 ∷ is_int 0 8 ∷ []))) (0 ∷ []))) ≡ one_answer (int 7 ∷ [])
once-waits = refl

once-not : of (graded Multi (Conditional (number 0) truth failure) (0 ∷ [])) ≡ Tick (one_answer one) → ⊥
once-not always = cc

once_if-not : once_if false (Answer one (one_answer two)) ≡ one_answer one → ⊥
once_if-not always = cc

-- the limit

limit-reached : course program (number 0) 1 ≡ Tick (Answer one (Answer two (Ends RunDone)))
limit-reached = refl

limit-passed : course program (number 0) 0 ≡ Ends LimitPassed
limit-passed = refl

limit-loop : course program (basic (Call (procedure 2) []) []) 2 ≡ Tick (Tick (Ends LimitPassed))
limit-loop = refl

limit-waits : replied (Given (Int (pos 21)) ∷ []) (course program (sequence (wait 0 2 ∷ twice 0 1 ∷ []) (0 ∷ 1 ∷ [])) 0) ≡ Ends LimitPassed
limit-waits = refl

limit-not : course program (number 0) 0 ≡ Tick (Answer one (Answer two (Ends RunDone))) → ⊥
limit-not without_a_limit = cc

call_course-example : call_course program 1 (procedure 2) [] ≡ Tick (Ends TooDeep)
call_course-example = refl

call_course-not : call_course program 0 (procedure 0) [] ≡ done → ⊥
call_course-not fails = cc
