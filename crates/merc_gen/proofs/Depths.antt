-- A trace at a depth of calls is too deep only behind as many steps.
use Rattle.std.proofs.Common.{◌≡◌, refl, arith, ◌+◌, ◌-◌, subst, ℕ, zero, suc, Bool, true, false, List, Option, Some, None}
use Rattle.merc_value.specs.Value.{Value, Values}
use Rattle.merc_graded_tree.specs.declared.basic.BasicGoal.{BasicGoal}
use Rattle.merc_graded_tree.specs.declared.basic.BasicGoal.TheVariants.{True, Fail, Assign, Test, Build, Split, Arithmetic, Compare, Raise, Call, Wait, Signal}
use Rattle.merc_graded_tree.specs.declared.basic.Procedure.{Procedure}
use Rattle.merc_graded_tree.specs.declared.entries.Running.TheVariants.{Sequential, Parallel}
use Rattle.merc_graded_tree.specs.Nodes.{Node, node, Goal, Basic, Conjunction, Disjunction, Switch, Conditional, Negation, Quantified, Nodes, no_nodes, more_nodes, Arms, no_arms, more_arms}
use Rattle.merc_goal_tree.specs.declared.goal.Operation.{Operation}
use Rattle.merc_goal_tree.specs.declared.goal.Symbol.{Symbol}
use Rattle.merc_value.specs.Value.{Int, Text as TextValue, Con}
use Rattle.merc_meaning.specs.Values.{fields, same}
use Rattle.merc_meaning.specs.Arithmetic.{Result, Gives, ZeroDivisor, arithmetic, comparison_of}
use Rattle.merc_meaning.specs.Trace.{Env, End, Done, Raised, TooDeep}
use Rattle.merc_course.specs.Course.{GoalCourse as Trace, Ends, Tick, Answer, after, each, taken_back, first_alone, choose, negated, closed, Meets, Courses, no_courses, more_courses, Reply, whole, left_after, Given, Passed, Joined}
use Rattle.merc_meaning.specs.Steps.{value_at, values_at, made_if, binds, tested, compared, filled_if, split, computed, operated, raised, entered, brought_back}
use Rattle.merc_meaning.specs.Runs.{Program, ProcedureBody, answers_once}
use Rattle.merc_course.specs.Variables.{only, node_variables}
use Rattle.merc_course.specs.Courses.{once_if, called, where_some, basic_course as basic_trace, goal_course as goal_trace, node_course as node_trace, all_course as all_trace, any_course as any_trace, arms_course as arms_trace, body_course as body_trace, call_course as call_trace, conjuncts, handed_on}

abbrev mutual
  pub Reaches : ℕ → Trace → Type 0
  Reaches d (Ends Done) = Unit {0}
  Reaches d (Ends (Raised text)) = Unit {0}
  Reaches zero (Ends TooDeep) = Unit {0}
  Reaches (suc d) (Ends TooDeep) = ⊥
  Reaches zero (Tick t) = Unit {0}
  Reaches (suc d) (Tick t) = Reaches d t
  Reaches d (Answer env t) = Reaches d t
  Reaches d (Meets what ks f) = ReachesAll d ks × ((r : Reply) → Reaches d (f r))

  pub ReachesAll : ℕ → Courses End → Type 0
  ReachesAll d no_courses = Unit {0}
  ReachesAll d (more_courses t ts) = Reaches d t × ReachesAll d ts

mutual
  fewer : (d : ℕ) (t : Trace) → Reaches (suc d) t → Reaches d t
  fewer d (Ends Done) h = tt
  fewer d (Ends (Raised v)) h = tt
  fewer d (Ends TooDeep) h = absurd h
  fewer zero (Tick t) h = tt
  fewer (suc d) (Tick t) h = fewer d t h
  fewer d (Answer env t) h = fewer d t h
  fewer d (Meets what ks f) h = (fewer-all d ks h.0, λ r. fewer d (f r) (h.1 r))

  fewer-all : (d : ℕ) (ts : Courses End) → ReachesAll (suc d) ts → ReachesAll d ts
  fewer-all d no_courses h = tt
  fewer-all d (more_courses t ts) h = (fewer d t h.0, fewer-all d ts h.1)

fewer-by : (n d m : ℕ) (t : Trace) → m ≡ n + d → Reaches m t → Reaches d t
fewer-by zero d m t e h = subst (λ x. Reaches x t) (let q : m ≡ d = omega (arith, e) in q) h
fewer-by (suc n) d m t e h = fewer-by n d (n + d) t refl (fewer (n + d) t (subst (λ x. Reaches x t) (let q : m ≡ suc (n + d) = omega (arith, e) in q) h))

-- as many as are left behind a reply
pub fewer-left : (l : ℕ) (r : Reply) (t : Trace) → Reaches (suc l) t → Reaches (suc (left_after l r)) t
fewer-left l (Given v) t h = h
fewer-left l Passed t h = h
fewer-left l (Joined u) t h = fewer-by (suc l - suc (l - u)) (suc (l - u)) (suc l) t (omega arith) h

after-reaches : (d : ℕ) (t u : Trace) → Reaches d t → Reaches d u → Reaches d (after t u)
after-reaches d (Ends Done) u h k = k
after-reaches d (Ends (Raised v)) u h k = tt
after-reaches zero (Ends TooDeep) u h k = tt
after-reaches (suc d) (Ends TooDeep) u h k = absurd h
after-reaches zero (Tick t) u h k = tt
after-reaches (suc d) (Tick t) u h k = after-reaches d t u h (fewer d u k)
after-reaches d (Answer env t) u h k = after-reaches d t u h k
after-reaches d (Meets what ks f) u h k = (h.0, λ r. after-reaches d (f r) u (h.1 r) k)

each-reaches : (d : ℕ) (f : Env → Trace) (t : Trace) → ((env : Env) → Reaches d (f env)) → Reaches d t → Reaches d (each f t)
each-reaches d f (Ends Done) k h = tt
each-reaches d f (Ends (Raised v)) k h = tt
each-reaches zero f (Ends TooDeep) k h = tt
each-reaches (suc d) f (Ends TooDeep) k h = absurd h
each-reaches zero f (Tick t) k h = tt
each-reaches (suc d) f (Tick t) k h = each-reaches d f t (λ env. fewer d (f env) (k env)) h
each-reaches d f (Answer env t) k h = after-reaches d (f env) (each f t) (k env) (each-reaches d f t k h)
each-reaches d f (Meets what ks g) k h = (h.0, λ r. each-reaches d f (g r) k (h.1 r))

choose-reaches : (d : ℕ) (f : Env → Trace) (u t : Trace) → ((env : Env) → Reaches d (f env)) → Reaches d u → Reaches d t → Reaches d (choose f u t)
choose-reaches d f u (Ends Done) k w h = w
choose-reaches d f u (Ends (Raised v)) k w h = tt
choose-reaches zero f u (Ends TooDeep) k w h = tt
choose-reaches (suc d) f u (Ends TooDeep) k w h = absurd h
choose-reaches zero f u (Tick t) k w h = tt
choose-reaches (suc d) f u (Tick t) k w h = choose-reaches d f u t (λ env. fewer d (f env) (k env)) (fewer d u w) h
choose-reaches d f u (Answer env t) k w h = after-reaches d (f env) (each f t) (k env) (each-reaches d f t k h)
choose-reaches d f u (Meets what ks g) k w h = (h.0, λ r. choose-reaches d f u (g r) k w (h.1 r))

negated-reaches : (d : ℕ) (env : Env) (t : Trace) → Reaches d t → Reaches d (negated env t)
negated-reaches d env (Ends Done) h = tt
negated-reaches d env (Ends (Raised v)) h = tt
negated-reaches zero env (Ends TooDeep) h = tt
negated-reaches (suc d) env (Ends TooDeep) h = absurd h
negated-reaches zero env (Tick t) h = tt
negated-reaches (suc d) env (Tick t) h = negated-reaches d env t h
negated-reaches d env (Answer answer t) h = tt
negated-reaches d env (Meets what ks g) h = (h.0, λ r. negated-reaches d env (g r) (h.1 r))

taken-reaches : (d : ℕ) (f : Env → Env) (t : Trace) → Reaches d t → Reaches d (taken_back f t)
taken-reaches d f (Ends Done) h = tt
taken-reaches d f (Ends (Raised v)) h = tt
taken-reaches zero f (Ends TooDeep) h = tt
taken-reaches (suc d) f (Ends TooDeep) h = absurd h
taken-reaches zero f (Tick t) h = tt
taken-reaches (suc d) f (Tick t) h = taken-reaches d f t h
taken-reaches d f (Answer answer t) h = taken-reaches d f t h
taken-reaches d f (Meets what ks g) h = (h.0, λ r. taken-reaches d f (g r) (h.1 r))

first-reaches : (d : ℕ) (t : Trace) → Reaches d t → Reaches d (first_alone t)
first-reaches d (Ends Done) h = tt
first-reaches d (Ends (Raised v)) h = tt
first-reaches zero (Ends TooDeep) h = tt
first-reaches (suc d) (Ends TooDeep) h = absurd h
first-reaches zero (Tick t) h = tt
first-reaches (suc d) (Tick t) h = first-reaches d t h
first-reaches d (Answer answer t) h = tt
first-reaches d (Meets what ks g) h = (h.0, λ r. first-reaches d (g r) (h.1 r))

closed-reaches : (d : ℕ) (t : Trace) → Reaches d t → Reaches d (closed t)
closed-reaches d (Ends Done) h = tt
closed-reaches d (Ends (Raised v)) h = tt
closed-reaches zero (Ends TooDeep) h = tt
closed-reaches (suc d) (Ends TooDeep) h = absurd h
closed-reaches zero (Tick t) h = tt
closed-reaches (suc d) (Tick t) h = closed-reaches d t h
closed-reaches d (Answer answer t) h = tt
closed-reaches d (Meets what ks g) h = (h.0, λ r. closed-reaches d (g r) (h.1 r))

once-reaches : (d : ℕ) (b : Bool) (t : Trace) → Reaches d t → Reaches d (once_if b t)
once-reaches d true t h = first-reaches d t h
once-reaches d false t h = h

where-reaches : (d : ℕ) (o : Option Values) (t u : Trace) → Reaches d t → Reaches d u → Reaches d (where_some o t u)
where-reaches d None t u h k = k
where-reaches d (Some vs) t u h k = h

binds-reaches : (d : ℕ) (env : Env) (x : ℕ) (o : Option Value) → Reaches d (whole (binds env x o))
binds-reaches d env x None = tt
binds-reaches d env x (Some v) = tt

tested-reaches : (d : ℕ) (b : Bool) (env : Env) → Reaches d (whole (tested b env))
tested-reaches d true env = tt
tested-reaches d false env = tt

compared-reaches : (d : ℕ) (env : Env) (holds : Value → Value → Bool) (o p : Option Value) → Reaches d (whole (compared env holds o p))
compared-reaches d env holds None p = tt
compared-reaches d env holds (Some v) None = tt
compared-reaches d env holds (Some v) (Some w) = tested-reaches d (holds v w) env

filled-reaches : (d : ℕ) (env : Env) (xs : List ℕ) (o : Option Values) → Reaches d (whole (filled_if env xs o))
filled-reaches d env xs None = tt
filled-reaches d env xs (Some vs) = tt

split-reaches : (d : ℕ) (env : Env) (symbol : Symbol) (xs : List ℕ) (o : Option Value) → Reaches d (whole (split env symbol xs o))
split-reaches d env symbol xs None = tt
split-reaches d env symbol xs (Some v) = filled-reaches d env xs (fields symbol v)

computed-reaches : (d : ℕ) (env : Env) (x : ℕ) (r : Result) → Reaches d (whole (computed env x r))
computed-reaches d env x (Gives number) = tt
computed-reaches d env x ZeroDivisor = tt

operated-reaches : (d : ℕ) (env : Env) (op : Operation) (x : ℕ) (o p : Option Value) → Reaches d (whole (operated env op x o p))
operated-reaches d env op x None p = tt
operated-reaches d env op x (Some (TextValue t)) p = tt
operated-reaches d env op x (Some (Con s vs)) p = tt
operated-reaches d env op x (Some (Int a)) None = tt
operated-reaches d env op x (Some (Int a)) (Some (TextValue t)) = tt
operated-reaches d env op x (Some (Int a)) (Some (Con s vs)) = tt
operated-reaches d env op x (Some (Int a)) (Some (Int b)) = computed-reaches d env x (arithmetic op a b)

raised-reaches : (d : ℕ) (o : Option Value) → Reaches d (whole (raised o))
raised-reaches d None = tt
raised-reaches d (Some (TextValue t)) = tt
raised-reaches d (Some (Int a)) = tt
raised-reaches d (Some (Con s vs)) = tt

handed-reaches : (d : ℕ) (env : Env) (x : ℕ) (o : Option Value) → Reaches d (handed_on env x o)
handed-reaches d env x None = tt
handed-reaches d env x (Some v) = (tt, λ r. tt)

module _ (program : Program) (d : ℕ) (call : Procedure → Env → Trace) (calls : (p : Procedure) (env : Env) → Reaches d (call p env)) where
  called-reaches : (p : Procedure) (o : Option ProcedureBody) (arguments : List ℕ) (env : Env) → Reaches d (called (call p) o arguments env)
  called-reaches p None arguments env = tt
  called-reaches p (Some q) arguments env =
      taken-reaches d (λ inner. brought_back q.places arguments (value_at inner) env) (call p (entered q.places arguments env)) (calls p (entered q.places arguments env))

  basic-reaches : (g : BasicGoal) (env : Env) → Reaches d (basic_trace program call g env)
  basic-reaches True env = tt
  basic-reaches Fail env = tt
  basic-reaches (Assign x y) env = binds-reaches d env x (value_at env y)
  basic-reaches (Test x y) env = compared-reaches d env same (value_at env x) (value_at env y)
  basic-reaches (Build x s ys) env = binds-reaches d env x (made_if s (values_at env ys))
  basic-reaches (Split x s ys) env = split-reaches d env s ys (value_at env x)
  basic-reaches (Arithmetic o z x y) env = operated-reaches d env o z (value_at env x) (value_at env y)
  basic-reaches (Compare o x y) env = compared-reaches d env (comparison_of o) (value_at env x) (value_at env y)
  basic-reaches (Raise x) env = raised-reaches d (value_at env x)
  basic-reaches (Call p arguments) env = called-reaches p (program p) arguments env
  basic-reaches (Wait x n) env = (tt, λ r. tt)
  basic-reaches (Signal x n) env = handed-reaches d env x (value_at env x)

  mutual
    goal-reaches : (g : Goal) (env : Env) → Reaches d (goal_trace program call g env)
    goal-reaches (Basic g) env = basic-reaches g env
    goal-reaches (Conjunction Sequential ns) env = all-reaches ns env
    goal-reaches (Conjunction (Parallel None) ns) env = all-reaches ns env
    goal-reaches (Conjunction (Parallel (Some site)) ns) env = (conjuncts-reach ns env, λ r. tt)
    goal-reaches (Disjunction ns) env = any-reaches ns env
    goal-reaches (Switch x arms) env = arms-reaches arms (value_at env x) env
    goal-reaches (Conditional c t e) env =
        choose-reaches d (λ inner. node_trace program call t inner) (node_trace program call e env) (node_trace program call c env) (λ inner. node-reaches t inner) (node-reaches e env) (node-reaches c env)
    goal-reaches (Negation n) env = negated-reaches d env (node_trace program call n env) (node-reaches n env)
    goal-reaches (Quantified own n) env = node-reaches n env

    pub node-reaches : (n : Node) (env : Env) → Reaches d (node_trace program call n env)
    node-reaches (node g outputs category span) env = once-reaches d (answers_once outputs category) (goal_trace program call g env) (goal-reaches g env)

    all-reaches : (ns : Nodes) (env : Env) → Reaches d (all_trace program call ns env)
    all-reaches no_nodes env = tt
    all-reaches (more_nodes n ns) env = each-reaches d (λ inner. all_trace program call ns inner) (node_trace program call n env) (λ inner. all-reaches ns inner) (node-reaches n env)

    conjuncts-reach : (ns : Nodes) (env : Env) → ReachesAll d (conjuncts program call ns env)
    conjuncts-reach no_nodes env = tt
    conjuncts-reach (more_nodes n ns) env =
        (closed-reaches d (node_trace program call n (only (node_variables n) env)) (node-reaches n (only (node_variables n) env)), conjuncts-reach ns env)

    any-reaches : (ns : Nodes) (env : Env) → Reaches d (any_trace program call ns env)
    any-reaches no_nodes env = tt
    any-reaches (more_nodes n ns) env = after-reaches d (node_trace program call n env) (any_trace program call ns env) (node-reaches n env) (any-reaches ns env)

    arms-reaches : (arms : Arms) (o : Option Value) (env : Env) → Reaches d (arms_trace program call arms o env)
    arms-reaches no_arms o env = tt
    arms-reaches (more_arms s n arms) None env = tt
    arms-reaches (more_arms s n arms) (Some v) env =
        where-reaches d (fields s v) (node_trace program call n env) (arms_trace program call arms (Some v) env) (node-reaches n env) (arms-reaches arms (Some v) env)

  body-reaches : (o : Option ProcedureBody) (env : Env) → Reaches d (body_trace program call o env)
  body-reaches None env = tt
  body-reaches (Some p) env = node-reaches p.body env

pub call-reaches : (program : Program) (d : ℕ) (p : Procedure) (env : Env) → Reaches d (call_trace program d p env)
call-reaches program zero p env = tt
call-reaches program (suc d) p env = body-reaches program d (call_trace program d) (λ q inner. call-reaches program d q inner) (program p) env
