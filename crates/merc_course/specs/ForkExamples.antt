-- Worked examples of conjuncts that are forked: `X = 1 & Y = X`, one such in a condition, in a negation and in a procedure, and `( X = 1 & Y = X ) & Z = Y`.
use Rattle.std.specs.Prelude.{◌≡◌, ℕ, pos, List, [], ◌∷◌, Some, None, slice_get, refl}
use Rattle.merc_tree.specs.declared.declarations.Arg.TheVariants.{Output}
use Rattle.merc_value.specs.Value.{Value, Int}
use Rattle.merc_graded_tree.specs.declared.basic.BasicGoal.TheVariants.{Assign, Call}
use Rattle.merc_graded_tree.specs.declared.entries.Running.TheVariants.{Parallel}
use Rattle.merc_graded_tree.specs.Nodes.{Node, Conjunction, Conditional, Negation, nodes_of}
use Rattle.merc_meaning.specs.Trace.{Env, RunDone, LimitPassed}
use Rattle.merc_meaning.specs.Runs.{Program, ProcedureBody, run}
use Rattle.merc_meaning.specs.Shown.{shown as run_shown}
use Rattle.merc_meaning.specs.RunExamples.{goal, basic, sequence, procedure, truth, failure}
use Rattle.merc_course.specs.Course.{AtWait, AtSignal, AtFork, Given, Passed, Joined, GoalCourse, Ends, Tick, Answer, Meets, no_courses, more_courses, whole, replied, one_answer, closed, left_after, cut}
use Rattle.merc_course.specs.Variables.{node_variables, only}
use Rattle.merc_course.specs.Courses.{given_by, told, node_course, conjuncts, call_course, course}
use Rattle.merc_course.specs.Shown.{shown}
use Rattle.merc_course.specs.CourseExamples.{int, done}
use Rattle.merc_course.specs.CoursesExamples.{is_int, wait, signal, twice_body}

abbrev is_same : ℕ → ℕ → Node
is_same to from = basic (Assign to from) (to ∷ [])

abbrev fork : ℕ → List Node → List ℕ → Node
fork number goals outputs = goal (Conjunction (Parallel (Some (record { number = number }))) (nodes_of goals)) outputs

-- `X = 1 & Y = X`: the first conjunct signals X, the second waits for it and signals Y to what is behind, where it is waited for

abbrev first : Node
first = sequence (is_int 0 1 ∷ signal 0 2 ∷ []) (0 ∷ [])

abbrev second : Node
second = sequence (wait 0 2 ∷ is_same 1 0 ∷ signal 1 0 ∷ []) (1 ∷ [])

abbrev both : Node
both = sequence (fork 7 (first ∷ second ∷ []) (1 ∷ []) ∷ wait 1 0 ∷ []) (1 ∷ [])

-- `beside(out)` has these two, and `twice(in, out)` adds its input to itself
abbrev beside_body : ProcedureBody
beside_body = record { places = Output ∷ []; body = sequence (fork 8 (is_int 1 1 ∷ sequence (is_int 0 2 ∷ signal 0 0 ∷ []) (0 ∷ []) ∷ []) (0 ∷ []) ∷ wait 0 0 ∷ []) (0 ∷ []) }

abbrev program : Program
program asked = slice_get (beside_body ∷ twice_body ∷ []) asked.predicate

abbrev twice : ℕ → ℕ → Node
twice from to = basic (Call (procedure 1) (from ∷ to ∷ [])) (to ∷ [])

abbrev of : Node → GoalCourse
of asked = node_course program (call_course program 10) asked []

-- the course of a conjunct where these variables have values
abbrev conjunct_in : Env → Node → GoalCourse
conjunct_in env one = closed (node_course program (call_course program 10) one (only (node_variables one) env))

abbrev conjunct : Node → GoalCourse
conjunct one = conjunct_in [] one

abbrev one_value : Value
one_value = Int (pos 1)

both-example : of both ≡ Meets (AtFork 7) (more_courses (conjunct first) (more_courses (conjunct second) no_courses)) (λ reply. Meets (AtWait 1) no_courses (λ given. one_answer (told [] 1 given)))
both-example = refl

first-example : conjunct first ≡ Meets (AtSignal 0 one_value) no_courses (λ reply. done)
first-example = refl

second-given : replied (Given one_value ∷ []) (conjunct second) ≡ Meets (AtSignal 1 one_value) no_courses (λ reply. done)
second-given = refl

first-not : conjunct first ≡ done → ⊥
first-not keeps_its_value = cc

second-not : conjunct second ≡ Meets (AtSignal 1 one_value) no_courses (λ reply. done) → ⊥
second-not does_not_wait = cc

both-given : replied (Joined 0 ∷ Given one_value ∷ []) (of both) ≡ one_answer (None ∷ int 1 ∷ [])
both-given = refl

-- told what the conjuncts make, it shows what is shown by the run, in which they go one after the other
both-run : shown (1 ∷ []) (replied (Joined 0 ∷ Given one_value ∷ []) (course program both 10)) ≡ whole (run_shown (1 ∷ []) (run program both 10))
both-run = refl

both-not : shown (0 ∷ []) (replied (Joined 0 ∷ Given one_value ∷ []) (course program both 10)) ≡ whole (run_shown (0 ∷ []) (run program both 10)) → ⊥
both-not shows_what_conjuncts_keep = cc

-- what conjuncts bind is not there behind the fork until it is waited for
fork-joined : replied (Joined 0 ∷ []) (of (fork 7 (first ∷ second ∷ []) (1 ∷ []))) ≡ one_answer []
fork-joined = refl

-- so it is at each reply
fork-given : replied (Given one_value ∷ []) (of (fork 7 (first ∷ second ∷ []) (1 ∷ []))) ≡ one_answer []
fork-given = refl

fork-passed : replied (Passed ∷ []) (of (fork 7 (first ∷ second ∷ []) (1 ∷ []))) ≡ one_answer []
fork-passed = refl

fork-not : replied (Joined 0 ∷ []) (of (fork 7 (first ∷ second ∷ []) (1 ∷ []))) ≡ one_answer (int 1 ∷ []) → ⊥
fork-not binds = cc

-- conjuncts are no list of goals that go one after the other
fork-not_in_order : of (fork 7 (is_int 0 1 ∷ is_same 1 0 ∷ []) (0 ∷ 1 ∷ [])) ≡ one_answer (int 1 ∷ int 1 ∷ []) → ⊥
fork-not_in_order same = cc

-- a conjunct ends at its first answer, and begins with what occurs in it

conjuncts-example : conjuncts program (call_course program 10) (nodes_of (truth ∷ signal 0 0 ∷ [])) (int 1 ∷ int 2 ∷ [])
    ≡ more_courses done (more_courses (Meets (AtSignal 0 one_value) no_courses (λ reply. done)) no_courses)
conjuncts-example = refl

conjuncts-not : conjuncts program (call_course program 10) (nodes_of (truth ∷ [])) [] ≡ more_courses (one_answer []) no_courses → ⊥
conjuncts-not answers = cc

-- a condition and a negation that fork

conditional-forks : of (goal (Conditional (fork 7 (truth ∷ truth ∷ []) []) (is_int 0 1) (is_int 0 2)) (0 ∷ []))
    ≡ Meets (AtFork 7) (more_courses done (more_courses done no_courses)) (λ reply. one_answer (int 1 ∷ []))
conditional-forks = refl

negation-forks : of (goal (Negation (fork 7 (truth ∷ failure ∷ []) [])) []) ≡ Meets (AtFork 7) (more_courses done (more_courses done no_courses)) (λ reply. done)
negation-forks = refl

conditional-not : replied (Joined 0 ∷ []) (of (goal (Conditional (fork 7 (truth ∷ failure ∷ []) []) (is_int 0 1) (is_int 0 2)) (0 ∷ []))) ≡ one_answer (int 2 ∷ []) → ⊥
conditional-not knows_how_conjuncts_end = cc

negation-not : of (goal (Negation (fork 7 (truth ∷ failure ∷ []) [])) []) ≡ one_answer [] → ⊥
negation-not forks_nothing = cc

-- a procedure that forks: its caller is given what is waited for behind the fork
call-forks : of (basic (Call (procedure 0) (3 ∷ [])) (3 ∷ []))
    ≡ Tick (Meets (AtFork 8) (more_courses done (more_courses (Meets (AtSignal 0 (Int (pos 2))) no_courses (λ reply. done)) no_courses))
    (λ reply. Meets (AtWait 0) no_courses (λ given. one_answer (None ∷ None ∷ None ∷ given_by given ∷ []))))
call-forks = refl

call-not : replied (Joined 0 ∷ Given (Int (pos 2)) ∷ []) (of (basic (Call (procedure 0) (3 ∷ [])) (3 ∷ []))) ≡ one_answer (None ∷ None ∷ None ∷ int 2 ∷ []) → ⊥
call-not takes_no_step = cc

-- each conjunct may make the steps that are left at the fork, and behind it those of all are made

abbrev stepping : Node
stepping = sequence (is_int 0 1 ∷ fork 7 (twice 0 2 ∷ sequence (twice 0 3 ∷ twice 0 4 ∷ []) (3 ∷ 4 ∷ []) ∷ []) [] ∷ twice 0 1 ∷ []) (0 ∷ 1 ∷ [])

limit-forked : course program stepping 1
    ≡ Meets (AtFork 7) (more_courses (Tick (Ends RunDone)) (more_courses (Tick (Ends LimitPassed)) no_courses)) (λ reply. cut (left_after 1 reply) (Tick (one_answer (int 1 ∷ int 2 ∷ []))))
limit-forked = refl

limit-joined : replied (Joined 3 ∷ []) (course program stepping 4) ≡ Tick (Answer (int 1 ∷ int 2 ∷ []) (Ends RunDone))
limit-joined = refl

limit-passed : replied (Joined 3 ∷ []) (course program stepping 3) ≡ Ends LimitPassed
limit-passed = refl

limit-not : replied (Joined 3 ∷ []) (course program stepping 3) ≡ Tick (Answer (int 1 ∷ int 2 ∷ []) (Ends RunDone)) → ⊥
limit-not counts_none = cc

-- `( X = 1 & Y = X ) & Z = Y`: Y is signalled by the second of the inner conjuncts, to the outer second one and to what is behind the inner fork

abbrev inner_second : Node
inner_second = sequence (wait 0 2 ∷ is_same 1 0 ∷ signal 1 2 ∷ signal 1 0 ∷ []) (1 ∷ [])

abbrev outer_first : Node
outer_first = sequence (fork 9 (first ∷ inner_second ∷ []) (1 ∷ []) ∷ wait 1 0 ∷ []) (1 ∷ [])

abbrev outer_second : Node
outer_second = sequence (wait 1 2 ∷ is_same 2 1 ∷ signal 2 0 ∷ []) (2 ∷ [])

abbrev nested : Node
nested = sequence (fork 8 (outer_first ∷ outer_second ∷ []) (2 ∷ []) ∷ wait 2 0 ∷ []) (2 ∷ [])

nested-example : of nested
    ≡ Meets (AtFork 8) (more_courses (conjunct outer_first) (more_courses (conjunct outer_second) no_courses)) (λ reply. Meets (AtWait 2) no_courses (λ given. one_answer (told [] 2 given)))
nested-example = refl

outer_first-example : conjunct outer_first
    ≡ Meets (AtFork 9) (more_courses (conjunct first) (more_courses (conjunct inner_second) no_courses)) (λ reply. Meets (AtWait 1) no_courses (λ given. done))
outer_first-example = refl

-- one signal for each that is owed the value
inner_second-given : replied (Given one_value ∷ []) (conjunct inner_second) ≡ Meets (AtSignal 1 one_value) no_courses (λ reply. Meets (AtSignal 1 one_value) no_courses (λ again. done))
inner_second-given = refl

outer_second-given : replied (Given one_value ∷ []) (conjunct outer_second) ≡ Meets (AtSignal 2 one_value) no_courses (λ reply. done)
outer_second-given = refl

nested-given : replied (Joined 0 ∷ Given one_value ∷ []) (of nested) ≡ one_answer (None ∷ None ∷ int 1 ∷ [])
nested-given = refl

nested-run : shown (2 ∷ []) (replied (Joined 0 ∷ Given one_value ∷ []) (course program nested 10)) ≡ whole (run_shown (2 ∷ []) (run program nested 10))
nested-run = refl

inner_second-not : replied (Given one_value ∷ Passed ∷ []) (conjunct inner_second) ≡ done → ⊥
inner_second-not signals_to_all_at_once = cc

nested-not : conjunct outer_first ≡ Meets (AtSignal 0 one_value) no_courses (λ reply. done) → ⊥
nested-not runs_in_order = cc
