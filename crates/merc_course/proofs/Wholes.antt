-- Traces as courses that meet nobody: they are joined, changed and cut in the same way, and are the courses of goals that meet nobody.
use Rattle.std.proofs.Common.{◌≡◌, refl, ap, ◌∙◌, ℕ, zero, suc, Bool, true, false, List, [], map, Option, Some, None}
use Rattle.merc_value.specs.Value.{Value, Values}
use Rattle.merc_graded_tree.specs.declared.basic.BasicGoal.{BasicGoal}
use Rattle.merc_graded_tree.specs.declared.basic.BasicGoal.TheVariants.{True, Fail, Assign, Test, Build, Split, Arithmetic, Compare, Raise, Call, Wait, Signal}
use Rattle.merc_graded_tree.specs.declared.basic.Procedure.{Procedure}
use Rattle.merc_graded_tree.specs.declared.entries.Running.TheVariants.{Sequential, Parallel}
use Rattle.merc_graded_tree.specs.Nodes.{Node, node, Goal, Basic, Conjunction, Disjunction, Switch, Conditional, Negation, Quantified, Nodes, no_nodes, more_nodes, Arms, no_arms, more_arms}
use Rattle.merc_meaning.specs.Values.{fields}
use Rattle.merc_meaning.specs.Trace.{Env, Trace, Run, Ends, Tick, Answer, Done, Raised, TooDeep, after as trace_after, each as trace_each, taken_back as trace_taken_back, first_alone as trace_first_alone, choose as trace_choose, negated as trace_negated, cut as trace_cut}
use Rattle.merc_meaning.specs.Steps.{value_at, entered, brought_back}
use Rattle.merc_meaning.specs.Runs.{Program, ProcedureBody, answers_once, once_if as trace_once_if, called as trace_called, where_some as trace_where_some, basic_trace, goal_trace, node_trace, all_trace, any_trace, arms_trace, body_trace, call_trace, run}
use Rattle.merc_meaning.specs.Shown.{shown as run_shown}
use Rattle.merc_course.specs.Course.{Reply, GoalCourse, Tick as CourseTick, Answer as CourseAnswer, whole, replied, after, each, taken_back, first_alone, choose, negated, cut}
use Rattle.merc_course.specs.Shown.{shown}
use Rattle.merc_course.specs.Courses.{once_if, called, where_some, basic_course, goal_course, node_course, all_course, any_course, arms_course, body_course, call_course, course}
use Rattle.merc_course.specs.Alone.{BasicMeetsNobody, GoalMeetsNobody, MeetsNobody, AllMeetNobody, ArmsMeetNobody, BodyMeetsNobody, ProgramMeetsNobody}

pub whole-after : (t u : Trace) → whole (trace_after t u) ≡ after (whole t) (whole u)
whole-after (Ends Done) u = refl
whole-after (Ends (Raised v)) u = refl
whole-after (Ends TooDeep) u = refl
whole-after (Tick t) u = ap CourseTick (whole-after t u)
whole-after (Answer env t) u = ap (λ x. CourseAnswer env x) (whole-after t u)

each-whole : (f : Env → Trace) (g : Env → GoalCourse) → ((env : Env) → whole (f env) ≡ g env) → (t : Trace) → whole (trace_each f t) ≡ each g (whole t)
each-whole f g h (Ends e) = refl
each-whole f g h (Tick t) = ap CourseTick (each-whole f g h t)
each-whole f g h (Answer env t) = whole-after (f env) (trace_each f t) ∙ (ap (λ x. after x (whole (trace_each f t))) (h env) ∙ ap (λ x. after (g env) x) (each-whole f g h t))

pub whole-each : (f : Env → Trace) (t : Trace) → whole (trace_each f t) ≡ each (λ env. whole (f env)) (whole t)
whole-each f t = each-whole f (λ env. whole (f env)) (λ env. refl) t

pub whole-taken : (f : Env → Env) (t : Trace) → whole (trace_taken_back f t) ≡ taken_back f (whole t)
whole-taken f (Ends e) = refl
whole-taken f (Tick t) = ap CourseTick (whole-taken f t)
whole-taken f (Answer env t) = ap (λ x. CourseAnswer (f env) x) (whole-taken f t)

pub whole-first : (t : Trace) → whole (trace_first_alone t) ≡ first_alone (whole t)
whole-first (Ends e) = refl
whole-first (Tick t) = ap CourseTick (whole-first t)
whole-first (Answer env t) = refl

choose-whole : (f : Env → Trace) (g : Env → GoalCourse) → ((env : Env) → whole (f env) ≡ g env) → (u t : Trace) → whole (trace_choose f u t) ≡ choose g (whole u) (whole t)
choose-whole f g h u (Ends Done) = refl
choose-whole f g h u (Ends (Raised v)) = refl
choose-whole f g h u (Ends TooDeep) = refl
choose-whole f g h u (Tick t) = ap CourseTick (choose-whole f g h u t)
choose-whole f g h u (Answer env t) = each-whole f g h (Answer env t)

pub whole-choose : (f : Env → Trace) (u t : Trace) → whole (trace_choose f u t) ≡ choose (λ env. whole (f env)) (whole u) (whole t)
whole-choose f u t = choose-whole f (λ env. whole (f env)) (λ env. refl) u t

pub whole-negated : (env : Env) (t : Trace) → whole (trace_negated env t) ≡ negated env (whole t)
whole-negated env (Ends Done) = refl
whole-negated env (Ends (Raised v)) = refl
whole-negated env (Ends TooDeep) = refl
whole-negated env (Tick t) = ap CourseTick (whole-negated env t)
whole-negated env (Answer answer t) = refl

whole-once : (b : Bool) (t : Trace) → whole (trace_once_if b t) ≡ once_if b (whole t)
whole-once true t = whole-first t
whole-once false t = refl

whole-some : (o : Option Values) (t u : Trace) → whole (trace_where_some o t u) ≡ where_some o (whole t) (whole u)
whole-some None t u = refl
whole-some (Some vs) t u = refl

pub whole-cut : (l : ℕ) (t : Trace) → whole (trace_cut l t) ≡ cut l (whole t)
whole-cut l (Ends Done) = refl
whole-cut l (Ends (Raised v)) = refl
whole-cut l (Ends TooDeep) = refl
whole-cut zero (Tick t) = refl
whole-cut (suc l) (Tick t) = ap CourseTick (whole-cut l t)
whole-cut l (Answer env t) = ap (λ x. CourseAnswer env x) (whole-cut l t)

pub whole-replied : (replies : List Reply) (t : Trace) → replied replies (whole t) ≡ whole t
whole-replied replies (Ends e) = refl
whole-replied replies (Tick t) = ap CourseTick (whole-replied replies t)
whole-replied replies (Answer env t) = ap (λ x. CourseAnswer env x) (whole-replied replies t)

pub whole-shown : (variables : List ℕ) (t : Run) → whole (run_shown variables t) ≡ shown variables (whole t)
whole-shown variables (Ends e) = refl
whole-shown variables (Tick t) = ap CourseTick (whole-shown variables t)
whole-shown variables (Answer env t) = ap (λ x. CourseAnswer (map (value_at env) variables) x) (whole-shown variables t)

module _ (program : Program) (call : Procedure → Env → Trace) (meets : Procedure → Env → GoalCourse) (calls : (p : Procedure) (env : Env) → whole (call p env) ≡ meets p env) where
  alone-called : (p : Procedure) (o : Option ProcedureBody) (arguments : List ℕ) (env : Env) → whole (trace_called (call p) o arguments env) ≡ called (meets p) o arguments env
  alone-called p None arguments env = refl
  alone-called p (Some q) arguments env =
      let back : Env → Env = λ inner. brought_back q.places arguments (value_at inner) env in
      whole-taken back (call p (entered q.places arguments env)) ∙ ap (λ x. taken_back back x) (calls p (entered q.places arguments env))

  alone-basic : (g : BasicGoal) → BasicMeetsNobody g → (env : Env) → whole (basic_trace program call g env) ≡ basic_course program meets g env
  alone-basic True h env = refl
  alone-basic Fail h env = refl
  alone-basic (Assign x y) h env = refl
  alone-basic (Test x y) h env = refl
  alone-basic (Build x s ys) h env = refl
  alone-basic (Split x s ys) h env = refl
  alone-basic (Arithmetic o z x y) h env = refl
  alone-basic (Compare o x y) h env = refl
  alone-basic (Raise x) h env = refl
  alone-basic (Call p arguments) h env = alone-called p (program p) arguments env
  alone-basic (Wait x n) h env = absurd h
  alone-basic (Signal x n) h env = absurd h

  mutual
    alone-goal : (g : Goal) → GoalMeetsNobody g → (env : Env) → whole (goal_trace program call g env) ≡ goal_course program meets g env
    alone-goal (Basic g) h env = alone-basic g h env
    alone-goal (Conjunction Sequential ns) h env = alone-all ns h.1 env
    alone-goal (Conjunction (Parallel None) ns) h env = alone-all ns h.1 env
    alone-goal (Conjunction (Parallel (Some site)) ns) h env = absurd h.0
    alone-goal (Disjunction ns) h env = alone-any ns h env
    alone-goal (Switch x arms) h env = alone-arms arms h (value_at env x) env
    alone-goal (Conditional c t e) h env =
        choose-whole (λ inner. node_trace program call t inner) (λ inner. node_course program meets t inner) (λ inner. alone-node t h.1 inner) (node_trace program call e env) (node_trace program call c env)
        ∙ (ap (λ x. choose (λ inner. node_course program meets t inner) x (whole (node_trace program call c env))) (alone-node e h.2 env)
        ∙ ap (λ x. choose (λ inner. node_course program meets t inner) (node_course program meets e env) x) (alone-node c h.0 env))
    alone-goal (Negation n) h env = whole-negated env (node_trace program call n env) ∙ ap (λ x. negated env x) (alone-node n h env)
    alone-goal (Quantified own n) h env = alone-node n h env

    pub alone-node : (n : Node) → MeetsNobody n → (env : Env) → whole (node_trace program call n env) ≡ node_course program meets n env
    alone-node (node g outputs category span) h env =
        whole-once (answers_once outputs category) (goal_trace program call g env) ∙ ap (λ x. once_if (answers_once outputs category) x) (alone-goal g h env)

    alone-all : (ns : Nodes) → AllMeetNobody ns → (env : Env) → whole (all_trace program call ns env) ≡ all_course program meets ns env
    alone-all no_nodes h env = refl
    alone-all (more_nodes n ns) h env =
        each-whole (λ inner. all_trace program call ns inner) (λ inner. all_course program meets ns inner) (λ inner. alone-all ns h.1 inner) (node_trace program call n env)
        ∙ ap (λ x. each (λ inner. all_course program meets ns inner) x) (alone-node n h.0 env)

    alone-any : (ns : Nodes) → AllMeetNobody ns → (env : Env) → whole (any_trace program call ns env) ≡ any_course program meets ns env
    alone-any no_nodes h env = refl
    alone-any (more_nodes n ns) h env =
        whole-after (node_trace program call n env) (any_trace program call ns env)
        ∙ (ap (λ x. after x (whole (any_trace program call ns env))) (alone-node n h.0 env) ∙ ap (λ x. after (node_course program meets n env) x) (alone-any ns h.1 env))

    alone-arms : (arms : Arms) → ArmsMeetNobody arms → (o : Option Value) (env : Env) → whole (arms_trace program call arms o env) ≡ arms_course program meets arms o env
    alone-arms no_arms h o env = refl
    alone-arms (more_arms s n arms) h None env = refl
    alone-arms (more_arms s n arms) h (Some v) env =
        whole-some (fields s v) (node_trace program call n env) (arms_trace program call arms (Some v) env)
        ∙ (ap (λ x. where_some (fields s v) x (whole (arms_trace program call arms (Some v) env))) (alone-node n h.0 env)
        ∙ ap (λ x. where_some (fields s v) (node_course program meets n env) x) (alone-arms arms h.1 (Some v) env))

  alone-body : (o : Option ProcedureBody) → BodyMeetsNobody o → (env : Env) → whole (body_trace program call o env) ≡ body_course program meets o env
  alone-body None h env = refl
  alone-body (Some p) h env = alone-node p.body h env

alone-call : (program : Program) → ProgramMeetsNobody program → (d : ℕ) (p : Procedure) (env : Env) → whole (call_trace program d p env) ≡ call_course program d p env
alone-call program h zero p env = refl
alone-call program h (suc d) p env =
    ap CourseTick (alone-body program (call_trace program d) (call_course program d) (λ q inner. alone-call program h d q inner) (program p) (h.bodies p) env)

pub alone-goals : (program : Program) → ProgramMeetsNobody program → (goal : Node) → MeetsNobody goal → (d : ℕ) (env : Env)
    → whole (node_trace program (call_trace program d) goal env) ≡ node_course program (call_course program d) goal env
alone-goals program h goal g d env = alone-node program (call_trace program d) (call_course program d) (λ p inner. alone-call program h d p inner) goal g env

pub alone-runs : (program : Program) → ProgramMeetsNobody program → (goal : Node) → MeetsNobody goal → (l : ℕ) → whole (run program goal l) ≡ course program goal l
alone-runs program h goal g l = whole-cut l (node_trace program (call_trace program (suc l)) goal []) ∙ ap (λ x. cut l x) (alone-goals program h goal g (suc l) [])
