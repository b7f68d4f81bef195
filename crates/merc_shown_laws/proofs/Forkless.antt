-- The course of a goal that has no `&` forks nothing, where the courses of the procedures that it calls fork nothing.
use Rattle.std.proofs.Common.{◌≡◌, ℕ, ◌+◌, Bool, true, false, List, [], ◌∷◌, ◌++◌, Option, Some, None, arith}
use Rattle.std.specs.Prelude.{⊤}
use Rattle.std.specs.List.{AllByRecursion}
use Rattle.merc_value.specs.Value.{Value, Values}
use Rattle.merc_goal_tree.specs.declared.goal.Symbol.{Symbol}
use Rattle.merc_graded_tree.specs.declared.basic.BasicGoal.{BasicGoal}
use Rattle.merc_graded_tree.specs.declared.basic.BasicGoal.TheVariants.{True, Fail, Assign, Test, Build, Split, Arithmetic, Compare, Raise, Call, Wait, Signal}
use Rattle.merc_graded_tree.specs.declared.basic.Procedure.{Procedure}
use Rattle.merc_graded_tree.specs.declared.entries.Running.TheVariants.{Sequential, Parallel}
use Rattle.merc_graded_tree.specs.Nodes.{Node, node, Goal, Basic, Conjunction, Disjunction, Switch, Conditional, Negation, Quantified, Nodes, no_nodes, more_nodes, Arms, no_arms, more_arms}
use Rattle.merc_meaning.specs.Values.{fields, same}
use Rattle.merc_meaning.specs.Arithmetic.{comparison_of}
use Rattle.merc_meaning.specs.Trace.{Trace, Ends, Tick, Answer, Done, Raised as RaisedEnd, TooDeep as TooDeepEnd}
use Rattle.merc_meaning.specs.Steps.{value_at, values_at, made_if, binds, compared, split, operated, raised, entered, brought_back}
use Rattle.merc_meaning.specs.Runs.{Program, ProcedureBody, answers_once}
use Rattle.merc_par_split.specs.Forks.{forks, goal_forks, all_forks, arm_forks}
use Rattle.merc_par_split.specs.SplitLaws.{calls_of, goal_calls, all_calls, arm_calls, calls_of_basic}
use Rattle.merc_plan.specs.Branch.{HeldWait, Hold, BranchCourse, Over, Breaks, Steps, Finds, Awaits, Gives, Forks, after, each, taken_back, first_alone, choose, negated}
use Rattle.merc_plan.specs.Hold.{holding, with_env, wait_for, signal_for}
use Rattle.merc_plan.specs.Branches.{Plan, traced, awaited, signal_cell, signalled, once_if, called, where_some, taken_arm, basic_branch, goal_branch, node_branch, all_branch, any_branch, arms_branch}

-- it forks nothing on its way, behind its answers too
abbrev pub Forkless : BranchCourse → Type 0
Forkless Over = ⊤
Forkless (Breaks halt) = ⊤
Forkless (Steps t) = Forkless t
Forkless (Finds hold t) = Forkless t
Forkless (Awaits c v t) = Forkless t
Forkless (Gives c v t) = Forkless t
Forkless (Forks i x kids t) = ⊥

after_forkless : (t u : BranchCourse) → Forkless t → Forkless u → Forkless (after t u)
after_forkless Over u h k = k
after_forkless (Breaks halt) u h k = tt
after_forkless (Steps t) u h k = after_forkless t u h k
after_forkless (Finds hold t) u h k = after_forkless t u h k
after_forkless (Awaits c v t) u h k = after_forkless t u h k
after_forkless (Gives c v t) u h k = after_forkless t u h k
after_forkless (Forks i x kids t) u h k = absurd h

each_forkless : (f : Hold → BranchCourse) (t : BranchCourse) → ((hold : Hold) → Forkless (f hold)) → Forkless t → Forkless (each f t)
each_forkless f Over k h = tt
each_forkless f (Breaks halt) k h = tt
each_forkless f (Steps t) k h = each_forkless f t k h
each_forkless f (Finds hold t) k h = after_forkless (f hold) (each f t) (k hold) (each_forkless f t k h)
each_forkless f (Awaits c v t) k h = each_forkless f t k h
each_forkless f (Gives c v t) k h = each_forkless f t k h
each_forkless f (Forks i x kids t) k h = absurd h

taken_forkless : (f : Hold → Hold) (t : BranchCourse) → Forkless t → Forkless (taken_back f t)
taken_forkless f Over h = tt
taken_forkless f (Breaks halt) h = tt
taken_forkless f (Steps t) h = taken_forkless f t h
taken_forkless f (Finds hold t) h = taken_forkless f t h
taken_forkless f (Awaits c v t) h = taken_forkless f t h
taken_forkless f (Gives c v t) h = taken_forkless f t h
taken_forkless f (Forks i x kids t) h = absurd h

first_forkless : (t : BranchCourse) → Forkless t → Forkless (first_alone t)
first_forkless Over h = tt
first_forkless (Breaks halt) h = tt
first_forkless (Steps t) h = first_forkless t h
first_forkless (Finds hold t) h = tt
first_forkless (Awaits c v t) h = first_forkless t h
first_forkless (Gives c v t) h = first_forkless t h
first_forkless (Forks i x kids t) h = absurd h

once_forkless : (b : Bool) (t : BranchCourse) → Forkless t → Forkless (once_if b t)
once_forkless true t h = first_forkless t h
once_forkless false t h = h

choose_forkless : (f : Hold → BranchCourse) (u t : BranchCourse) → ((hold : Hold) → Forkless (f hold)) → Forkless u → Forkless t
    → Forkless (choose f u t)
choose_forkless f u Over k w h = w
choose_forkless f u (Breaks halt) k w h = tt
choose_forkless f u (Steps t) k w h = choose_forkless f u t k w h
choose_forkless f u (Finds hold t) k w h = after_forkless (f hold) (each f t) (k hold) (each_forkless f t k h)
choose_forkless f u (Awaits c v t) k w h = choose_forkless f u t k w h
choose_forkless f u (Gives c v t) k w h = choose_forkless f u t k w h
choose_forkless f u (Forks i x kids t) k w h = absurd h

negated_forkless : (before : Hold) (t : BranchCourse) → Forkless t → Forkless (negated before t)
negated_forkless before Over h = tt
negated_forkless before (Breaks halt) h = tt
negated_forkless before (Steps t) h = negated_forkless before t h
negated_forkless before (Finds hold t) h = tt
negated_forkless before (Awaits c v t) h = negated_forkless before t h
negated_forkless before (Gives c v t) h = negated_forkless before t h
negated_forkless before (Forks i x kids t) h = absurd h

-- goals that hold no others

traced_forkless : (hold : Hold) (t : Trace) → Forkless (traced hold t)
traced_forkless hold (Ends Done) = tt
traced_forkless hold (Ends (RaisedEnd text)) = tt
traced_forkless hold (Ends TooDeepEnd) = tt
traced_forkless hold (Tick t) = traced_forkless hold t
traced_forkless hold (Answer env t) = traced_forkless hold t

awaited_forkless : (hold : Hold) (variable : ℕ) (right : Option HeldWait) → Forkless (awaited hold variable right)
awaited_forkless hold variable None = tt
awaited_forkless hold variable (Some right) = on right.value
  where
    on : (value : Option Value) → Forkless (awaited hold variable (Some (record { variable = right.variable; cell = right.cell; value = value })))
    on None = tt
    on (Some value) = tt

signalled_forkless : (hold : Hold) (cell : ℕ) (value : Option Value) → Forkless (signalled hold cell value)
signalled_forkless hold cell None = tt
signalled_forkless hold cell (Some value) = tt

where_forkless : (found : Option Values) (t u : BranchCourse) → Forkless t → Forkless u → Forkless (where_some found t u)
where_forkless None t u h k = k
where_forkless (Some arguments) t u h k = h

arm_forkless : (value : Option Value) (symbol : Symbol) (t u : BranchCourse) → Forkless t → Forkless u → Forkless (taken_arm value symbol t u)
arm_forkless None symbol t u h k = tt
arm_forkless (Some value) symbol t u h k = where_forkless (fields symbol value) t u h k

-- what holds of all of two lists

front : {A : Type 0} (P : A → Type 0) (xs ys : List A) → AllByRecursion P (xs ++ ys) → AllByRecursion P xs
front P [] ys a = tt
front P (x ∷ xs) ys a = (a.0, front P xs ys a.1)

back : {A : Type 0} (P : A → Type 0) (xs ys : List A) → AllByRecursion P (xs ++ ys) → AllByRecursion P ys
back P [] ys a = a
back P (x ∷ xs) ys a = back P xs ys a.1

-- two numbers whose sum is none

none_first : (m n : ℕ) → m + n ≡ 0 → m ≡ 0
none_first m n e = omega (arith, e)

none_rest : (m n : ℕ) → m + n ≡ 0 → n ≡ 0
none_rest m n e = omega (arith, e)

-- a call whose course forks nothing, whatever the branch has
abbrev pub CallsForkless : (Procedure → Hold → BranchCourse) → Procedure → Type 0
CallsForkless call procedure = (hold : Hold) → Forkless (call procedure hold)

module _ (plan : Plan) (program : Program) (call : Procedure → Hold → BranchCourse) where
  abbrev All : List Procedure → Type 0
  All called = AllByRecursion (CallsForkless call) called

  called_forkless : (procedure : Procedure) (body : Option ProcedureBody) (arguments : List ℕ) (hold : Hold) → CallsForkless call procedure
      → Forkless (called (call procedure) body arguments hold)
  called_forkless procedure None arguments hold calls = tt
  called_forkless procedure (Some body) arguments hold calls =
      taken_forkless (λ inner. with_env hold (brought_back body.places arguments (value_at inner.env) hold.env))
      (call procedure (holding (entered body.places arguments hold.env) hold.next))
      (calls (holding (entered body.places arguments hold.env) hold.next))

  basic_forkless : (goal : BasicGoal) → All (calls_of_basic goal) → (hold : Hold) → Forkless (basic_branch plan program call goal hold)
  basic_forkless True a hold = tt
  basic_forkless Fail a hold = tt
  basic_forkless (Assign to from) a hold = traced_forkless hold (binds hold.env to (value_at hold.env from))
  basic_forkless (Test one other) a hold = traced_forkless hold (compared hold.env same (value_at hold.env one) (value_at hold.env other))
  basic_forkless (Build root symbol arguments) a hold = traced_forkless hold (binds hold.env root (made_if symbol (values_at hold.env arguments)))
  basic_forkless (Split root symbol arguments) a hold = traced_forkless hold (split hold.env symbol arguments (value_at hold.env root))
  basic_forkless (Arithmetic operation result left right) a hold =
      traced_forkless hold (operated hold.env operation result (value_at hold.env left) (value_at hold.env right))
  basic_forkless (Compare test left right) a hold =
      traced_forkless hold (compared hold.env (comparison_of test) (value_at hold.env left) (value_at hold.env right))
  basic_forkless (Raise text) a hold = traced_forkless hold (raised (value_at hold.env text))
  basic_forkless (Call procedure arguments) a hold = called_forkless procedure (program procedure) arguments hold a.0
  basic_forkless (Wait variable conjunct) a hold = awaited_forkless hold variable (wait_for variable hold.waits)
  basic_forkless (Signal variable conjunct) a hold = signalled_forkless hold (signal_cell (signal_for variable hold.signals)) (value_at hold.env variable)

  mutual
    goal_forkless : (goal : Goal) → goal_forks goal ≡ 0 → All (goal_calls goal) → (hold : Hold) → Forkless (goal_branch plan program call goal hold)
    goal_forkless (Basic goal) e a hold = basic_forkless goal a hold
    goal_forkless (Conjunction Sequential goals) e a hold = all_forkless goals e a hold
    goal_forkless (Conjunction (Parallel None) goals) e a hold = absurd (omega (arith, e))
    goal_forkless (Conjunction (Parallel (Some site)) goals) e a hold = absurd (omega (arith, e))
    goal_forkless (Disjunction goals) e a hold = any_forkless goals e a hold
    goal_forkless (Switch variable arms) e a hold = arms_forkless arms e a (value_at hold.env variable) hold
    goal_forkless (Conditional condition then_part else_part) e a hold =
        let parts = none_rest (forks condition) (forks then_part + forks else_part) e in
        let own = CallsForkless call in
        let calls = back own (calls_of condition) (calls_of then_part ++ calls_of else_part) a in
        choose_forkless (λ inner. node_branch plan program call then_part inner) (node_branch plan program call else_part hold)
        (node_branch plan program call condition hold)
        (λ inner. node_forkless then_part (none_first (forks then_part) (forks else_part) parts) (front own (calls_of then_part) (calls_of else_part) calls) inner)
        (node_forkless else_part (none_rest (forks then_part) (forks else_part) parts) (back own (calls_of then_part) (calls_of else_part) calls) hold)
        (node_forkless condition (none_first (forks condition) (forks then_part + forks else_part) e)
        (front own (calls_of condition) (calls_of then_part ++ calls_of else_part) a) hold)
    goal_forkless (Negation goal) e a hold = negated_forkless hold (node_branch plan program call goal hold) (node_forkless goal e a hold)
    goal_forkless (Quantified own goal) e a hold = node_forkless goal e a hold

    pub node_forkless : (goal : Node) → forks goal ≡ 0 → All (calls_of goal) → (hold : Hold) → Forkless (node_branch plan program call goal hold)
    node_forkless (node goal outputs category span) e a hold =
        once_forkless (answers_once outputs category) (goal_branch plan program call goal hold) (goal_forkless goal e a hold)

    all_forkless : (goals : Nodes) → all_forks goals ≡ 0 → All (all_calls goals) → (hold : Hold) → Forkless (all_branch plan program call goals hold)
    all_forkless no_nodes e a hold = tt
    all_forkless (more_nodes first rest) e a hold =
        each_forkless (λ inner. all_branch plan program call rest inner) (node_branch plan program call first hold)
        (λ inner. all_forkless rest (none_rest (forks first) (all_forks rest) e) (back (CallsForkless call) (calls_of first) (all_calls rest) a) inner)
        (node_forkless first (none_first (forks first) (all_forks rest) e) (front (CallsForkless call) (calls_of first) (all_calls rest) a) hold)

    any_forkless : (goals : Nodes) → all_forks goals ≡ 0 → All (all_calls goals) → (hold : Hold) → Forkless (any_branch plan program call goals hold)
    any_forkless no_nodes e a hold = tt
    any_forkless (more_nodes first rest) e a hold =
        after_forkless (node_branch plan program call first hold) (any_branch plan program call rest hold)
        (node_forkless first (none_first (forks first) (all_forks rest) e) (front (CallsForkless call) (calls_of first) (all_calls rest) a) hold)
        (any_forkless rest (none_rest (forks first) (all_forks rest) e) (back (CallsForkless call) (calls_of first) (all_calls rest) a) hold)

    arms_forkless : (arms : Arms) → arm_forks arms ≡ 0 → All (arm_calls arms) → (value : Option Value) (hold : Hold)
        → Forkless (arms_branch plan program call arms value hold)
    arms_forkless no_arms e a value hold = tt
    arms_forkless (more_arms symbol body rest) e a value hold =
        arm_forkless value symbol (node_branch plan program call body hold) (arms_branch plan program call rest value hold)
        (node_forkless body (none_first (forks body) (arm_forks rest) e) (front (CallsForkless call) (calls_of body) (arm_calls rest) a) hold)
        (arms_forkless rest (none_rest (forks body) (arm_forks rest) e) (back (CallsForkless call) (calls_of body) (arm_calls rest) a) value hold)
