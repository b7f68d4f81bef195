-- What ordered goals do beside others: as they mean, but that a wait waits, a signal hands its variable's value on, and conjuncts that run side by side at a
-- site are forked there.
use Rattle.std.specs.Prelude.{ℕ, suc, zero, Bool, true, false, List, [], Option, Some, None}
use Rattle.merc_value.specs.Value.{Value, Values}
use Rattle.merc_goal_tree.specs.declared.goal.Symbol.{Symbol}
use Rattle.merc_graded_tree.specs.declared.basic.BasicGoal.{BasicGoal}
use Rattle.merc_graded_tree.specs.declared.basic.BasicGoal.TheVariants.{True, Fail, Assign, Test, Build, Split, Arithmetic, Compare, Raise, Call, Wait, Signal}
use Rattle.merc_graded_tree.specs.declared.basic.Procedure.{Procedure}
use Rattle.merc_graded_tree.specs.declared.entries.Running.TheVariants.{Sequential, Parallel}
use Rattle.merc_graded_tree.specs.Nodes.{Node, node, Goal, Basic, Conjunction, Disjunction, Switch, Conditional, Negation, Quantified, Nodes, no_nodes, more_nodes, Arms, no_arms, more_arms}
use Rattle.merc_meaning.specs.Values.{fields, same}
use Rattle.merc_meaning.specs.Arithmetic.{comparison_of}
use Rattle.merc_meaning.specs.Trace.{Env, End, Done, TooDeep}
use Rattle.merc_meaning.specs.Steps.{value_at, with_entry, values_at, made_if, binds, compared, split, operated, raised, entered, brought_back}
use Rattle.merc_meaning.specs.Runs.{Program, ProcedureBody, answers_once}
use Rattle.merc_course.specs.Course.{AtWait, AtSignal, AtFork, Reply, Given, Passed, Joined, GoalCourse, RunCourse, Ends, Tick, Meets, Courses, no_courses, more_courses, whole, one_answer, after, each, taken_back, first_alone, choose, negated, closed, cut}
use Rattle.merc_course.specs.Variables.{node_variables, only}

-- the value that a reply gives
abbrev pub given_by : Reply → Option Value
given_by (Given value) = Some value
given_by Passed = None
given_by (Joined steps) = None

-- the environment behind a wait: the variable has the value that the reply gives, and none where it gives none
abbrev pub told : Env → ℕ → Reply → Env
told env variable reply = with_entry env variable (given_by reply)

-- a value is handed on; without one the goal fails
abbrev pub handed_on : Env → ℕ → Option Value → GoalCourse
handed_on env variable None = Ends Done
handed_on env variable (Some value) = Meets (AtSignal variable value) no_courses (λ reply. one_answer env)

abbrev pub once_if : Bool → GoalCourse → GoalCourse
once_if false course = course
once_if true course = first_alone course

-- a call of a procedure that is there; one that is not there fails
abbrev pub called : (Env → GoalCourse) → Option ProcedureBody → List ℕ → Env → GoalCourse
called call None arguments env = Ends Done
called call (Some procedure) arguments env =
    taken_back (λ inner. brought_back procedure.places arguments (value_at inner) env) (call (entered procedure.places arguments env))

-- one course where a value has the symbol, else the other
abbrev pub where_some : Option Values → GoalCourse → GoalCourse → GoalCourse
where_some None taken others = others
where_some (Some arguments) taken others = taken

abbrev pub taken_arm : Option Value → Symbol → GoalCourse → GoalCourse → GoalCourse
taken_arm None symbol taken others = Ends Done
taken_arm (Some value) symbol taken others = where_some (fields symbol value) taken others

-- Given are the procedures, and the course of each procedure's body.
module _ (program : Program) (call : Procedure → Env → GoalCourse) where
  -- a goal that joins no others, calls nothing and meets nobody does what it means
  abbrev pub basic_course : BasicGoal → Env → GoalCourse
  basic_course True env = one_answer env
  basic_course Fail env = Ends Done
  basic_course (Assign to from) env = whole (binds env to (value_at env from))
  basic_course (Test one other) env = whole (compared env same (value_at env one) (value_at env other))
  basic_course (Build root symbol arguments) env = whole (binds env root (made_if symbol (values_at env arguments)))
  basic_course (Split root symbol arguments) env = whole (split env symbol arguments (value_at env root))
  basic_course (Arithmetic operation result left right) env = whole (operated env operation result (value_at env left) (value_at env right))
  basic_course (Compare test left right) env = whole (compared env (comparison_of test) (value_at env left) (value_at env right))
  basic_course (Raise text) env = whole (raised (value_at env text))
  basic_course (Call procedure arguments) env = called (call procedure) (program procedure) arguments env
  basic_course (Wait variable conjunct) env = Meets (AtWait variable) no_courses (λ reply. one_answer (told env variable reply))
  basic_course (Signal variable conjunct) env = handed_on env variable (value_at env variable)

  abbrev mutual
    pub goal_course : Goal → Env → GoalCourse
    goal_course (Basic goal) env = basic_course goal env
    goal_course (Conjunction Sequential goals) env = all_course goals env
    goal_course (Conjunction (Parallel None) goals) env = all_course goals env
    goal_course (Conjunction (Parallel (Some site)) goals) env = Meets (AtFork site.number) (conjuncts goals env) (λ reply. one_answer env)
    goal_course (Disjunction goals) env = any_course goals env
    goal_course (Switch variable arms) env = arms_course arms (value_at env variable) env
    goal_course (Conditional condition then_part else_part) env =
        choose (λ inner. node_course then_part inner) (node_course else_part env) (node_course condition env)
    goal_course (Negation goal) env = negated env (node_course goal env)
    goal_course (Quantified own goal) env = node_course goal env

    pub node_course : Node → Env → GoalCourse
    node_course (node goal outputs category span) env = once_if (answers_once outputs category) (goal_course goal env)

    -- each answer of the first goal is replaced by the course of the others
    pub all_course : Nodes → Env → GoalCourse
    all_course no_nodes env = one_answer env
    all_course (more_nodes first rest) env = each (λ inner. all_course rest inner) (node_course first env)

    pub any_course : Nodes → Env → GoalCourse
    any_course no_nodes env = Ends Done
    any_course (more_nodes first rest) env = after (node_course first env) (any_course rest env)

    -- the arm of the value's symbol; a value without an arm fails
    pub arms_course : Arms → Option Value → Env → GoalCourse
    arms_course no_arms value env = Ends Done
    arms_course (more_arms symbol body rest) value env = taken_arm value symbol (node_course body env) (arms_course rest value env)

    -- Each conjunct begins with the values of the variables that occur in it, as they are before all conjuncts, and ends at its first answer. What a conjunct
    -- binds for others it hands on, and behind the fork it is waited for.
    pub conjuncts : Nodes → Env → Courses End
    conjuncts no_nodes env = no_courses
    conjuncts (more_nodes first rest) env = more_courses (closed (node_course first (only (node_variables first) env))) (conjuncts rest env)

abbrev pub body_course : Program → (Procedure → Env → GoalCourse) → Option ProcedureBody → Env → GoalCourse
body_course program call None env = Ends Done
body_course program call (Some procedure) env = node_course program call procedure.body env

-- the course of a call, up to this depth of calls: one step, then the procedure's body
abbrev pub call_course : Program → ℕ → Procedure → Env → GoalCourse
call_course program zero procedure env = Ends TooDeep
call_course program (suc depth) procedure env = Tick (body_course program (call_course program depth) (program procedure) env)

-- what a goal does beside others, up to a limit of steps
abbrev pub course : Program → Node → ℕ → RunCourse
course program goal limit = cut limit (node_course program (call_course program (suc limit)) goal [])
