-- The course of each goal belongs to that of the branch.
use Rattle.std.proofs.Common.{refl, ℕ, zero, suc, ◌++◌, Bool, true, false, List, [], Option, Some, None}
use Rattle.merc_value.specs.Value.{Value, Values}
use Rattle.merc_goal_tree.specs.declared.goal.Symbol.{Symbol}
use Rattle.merc_graded_tree.specs.declared.basic.BasicGoal.{BasicGoal}
use Rattle.merc_graded_tree.specs.declared.basic.BasicGoal.TheVariants.{True, Fail, Assign, Test, Build, Split, Arithmetic, Compare, Raise, Call, Wait, Signal}
use Rattle.merc_graded_tree.specs.declared.basic.Procedure.{Procedure}
use Rattle.merc_graded_tree.specs.declared.entries.Running.TheVariants.{Sequential, Parallel}
use Rattle.merc_graded_tree.specs.Nodes.{Node, node, Goal, Basic, Conjunction, Disjunction, Switch, Conditional, Negation, Quantified, Nodes, no_nodes, more_nodes, Arms, no_arms, more_arms}
use Rattle.merc_meaning.specs.Values.{fields, same}
use Rattle.merc_meaning.specs.Arithmetic.{comparison_of}
use Rattle.merc_meaning.specs.Trace.{Env, Trace, Ends as TraceEnds, Tick as TraceTick, Answer as TraceAnswer, Done, Raised as RaisedEnd, TooDeep as TooDeepEnd}
use Rattle.merc_meaning.specs.Steps.{value_at, values_at, made_if, binds, compared, split, operated, raised, entered, brought_back}
use Rattle.merc_meaning.specs.Runs.{Program, ProcedureBody, answers_once}
use Rattle.merc_course.specs.Course.{GoalCourse, Meets, AtWait, no_courses, whole, one_answer}
use Rattle.merc_course.specs.Variables.{node_variables, only}
use Rattle.merc_course.specs.Courses.{told, handed_on, once_if, called, where_some, taken_arm, basic_course, goal_course, node_course, all_course, any_course, arms_course, conjuncts, body_course, call_course}
use Rattle.merc_rights.specs.declared.sites.SiteInfo.{SiteInfo}
use Rattle.merc_plan.specs.Branch.{HeldWait, Hold, Gift, BranchCourse, gives}
use Rattle.merc_plan.specs.Hold.{holding, with_env, wait_for, signal_for, fork_of, conjunct_hold, hold_behind}
use Rattle.merc_plan.specs.Branches.{Plan, traced, awaited, signal_cell, signalled, info_of, basic_branch, goal_branch, node_branch, all_branch, any_branch, arms_branch, conjunct_branches, conjunct_gifts, body_branch, call_branch, once_if as b_once_if, called as b_called, where_some as b_where_some, taken_arm as b_taken_arm}
use Rattle.merc_plan.specs.Plays.{Plays, ends_done, ends_raised, ends_deep, steps, finds, waits, starves, hands, forks, PlayAll, play_none, play_more}
use Rattle.merc_plan.proofs.Plays.{plays-after, plays-each, plays-taken, plays-first, plays-choose, plays-negated, plays-closed}

traced-plays : (hold : Hold) (t : Trace) → Plays (whole t) (traced hold t)
traced-plays hold (TraceEnds Done) = ends_done
traced-plays hold (TraceEnds (RaisedEnd e)) = ends_raised e
traced-plays hold (TraceEnds TooDeepEnd) = ends_deep
traced-plays hold (TraceTick t) = steps _ _ (traced-plays hold t)
traced-plays hold (TraceAnswer env t) = finds (with_env hold env) _ _ (traced-plays hold t)

right-plays : (hold : Hold) (x y c : ℕ) (v : Option Value)
    → Plays (Meets (AtWait x) no_courses (λ reply. one_answer (told hold.env x reply))) (awaited hold x (Some (record { variable = y; cell = c; value = v })))
right-plays hold x y c None = starves x c _ _
right-plays hold x y c (Some v) = waits x c v _ _ _ (finds _ _ _ ends_done)

awaited-plays : (hold : Hold) (x : ℕ) (right : Option HeldWait) → Plays (Meets (AtWait x) no_courses (λ reply. one_answer (told hold.env x reply))) (awaited hold x right)
awaited-plays hold x None = starves x 0 _ _
awaited-plays hold x (Some right) = right-plays hold x right.variable right.cell right.value

handed-plays : (hold : Hold) (x c : ℕ) (value : Option Value) → Plays (handed_on hold.env x value) (signalled hold c value)
handed-plays hold x c None = ends_done
handed-plays hold x c (Some v) = hands x c v _ _ _ (finds _ _ _ ends_done)

once-plays : (b : Bool) (t : GoalCourse) (t' : BranchCourse) → Plays t t' → Plays (once_if b t) (b_once_if b t')
once-plays true t t' p = plays-first t t' p
once-plays false t t' p = p

some-plays : (o : Option Values) (t u : GoalCourse) (t' u' : BranchCourse) → Plays t t' → Plays u u' → Plays (where_some o t u) (b_where_some o t' u')
some-plays None t u t' u' p q = q
some-plays (Some vs) t u t' u' p q = p

arm-plays : (o : Option Value) (s : Symbol) (t u : GoalCourse) (t' u' : BranchCourse) → Plays t t' → Plays u u' → Plays (taken_arm o s t u) (b_taken_arm o s t' u')
arm-plays None s t u t' u' p q = ends_done
arm-plays (Some v) s t u t' u' p q = some-plays (fields s v) t u t' u' p q

-- Given is that the course of each call belongs to that of the branch.
module _ (plan : Plan) (program : Program) (call : Procedure → Env → GoalCourse) (branch : Procedure → Hold → BranchCourse) (calls : (p : Procedure) (hold : Hold) → Plays (call p hold.env) (branch p hold)) where
  called-plays : (p : Procedure) (o : Option ProcedureBody) (arguments : List ℕ) (hold : Hold) → Plays (called (call p) o arguments hold.env) (b_called (branch p) o arguments hold)
  called-plays p None arguments hold = ends_done
  called-plays p (Some q) arguments hold =
      plays-taken (λ e. brought_back q.places arguments (value_at e) hold.env) (λ inner. with_env hold (brought_back q.places arguments (value_at inner.env) hold.env)) (λ inner. refl)
      (call p (entered q.places arguments hold.env)) (branch p (holding (entered q.places arguments hold.env) hold.next)) (calls p (holding (entered q.places arguments hold.env) hold.next))

  basic-plays : (g : BasicGoal) (hold : Hold) → Plays (basic_course program call g hold.env) (basic_branch plan program branch g hold)
  basic-plays True hold = finds hold _ _ ends_done
  basic-plays Fail hold = ends_done
  basic-plays (Assign x y) hold = traced-plays hold (binds hold.env x (value_at hold.env y))
  basic-plays (Test x y) hold = traced-plays hold (compared hold.env same (value_at hold.env x) (value_at hold.env y))
  basic-plays (Build x s ys) hold = traced-plays hold (binds hold.env x (made_if s (values_at hold.env ys)))
  basic-plays (Split x s ys) hold = traced-plays hold (split hold.env s ys (value_at hold.env x))
  basic-plays (Arithmetic o z x y) hold = traced-plays hold (operated hold.env o z (value_at hold.env x) (value_at hold.env y))
  basic-plays (Compare o x y) hold = traced-plays hold (compared hold.env (comparison_of o) (value_at hold.env x) (value_at hold.env y))
  basic-plays (Raise x) hold = traced-plays hold (raised (value_at hold.env x))
  basic-plays (Call p arguments) hold = called-plays p (program p) arguments hold
  basic-plays (Wait x n) hold = awaited-plays hold x (wait_for x hold.waits)
  basic-plays (Signal x n) hold = handed-plays hold x (signal_cell (signal_for x hold.signals)) (value_at hold.env x)

  mutual
    goal-plays : (g : Goal) (hold : Hold) → Plays (goal_course program call g hold.env) (goal_branch plan program branch g hold)
    goal-plays (Basic g) hold = basic-plays g hold
    goal-plays (Conjunction Sequential ns) hold = all-plays ns hold
    goal-plays (Conjunction (Parallel None) ns) hold = all-plays ns hold
    goal-plays (Conjunction (Parallel (Some site)) ns) hold =
        forks site.number (fork_of (info_of (plan site.number)) ns hold) _ _ _ _ (kids-play (info_of (plan site.number)) 1 ns hold [])
        (λ n. finds (hold_behind (info_of (plan site.number)) hold (conjunct_gifts plan program branch (info_of (plan site.number)) hold 1 ns [])) _ _ ends_done)
    goal-plays (Disjunction ns) hold = any-plays ns hold
    goal-plays (Switch x arms) hold = arms-plays arms (value_at hold.env x) hold
    goal-plays (Conditional c t e) hold =
        plays-choose (λ inner. node_course program call t inner) (λ inner. node_branch plan program branch t inner) (λ inner. node-plays t inner)
        (node_course program call e hold.env) (node_branch plan program branch e hold) (node-plays e hold)
        (node_course program call c hold.env) (node_branch plan program branch c hold) (node-plays c hold)
    goal-plays (Negation n) hold = plays-negated hold (node_course program call n hold.env) (node_branch plan program branch n hold) (node-plays n hold)
    goal-plays (Quantified own n) hold = node-plays n hold

    pub node-plays : (n : Node) (hold : Hold) → Plays (node_course program call n hold.env) (node_branch plan program branch n hold)
    node-plays (node g outputs category span) hold =
        once-plays (answers_once outputs category) (goal_course program call g hold.env) (goal_branch plan program branch g hold) (goal-plays g hold)

    all-plays : (ns : Nodes) (hold : Hold) → Plays (all_course program call ns hold.env) (all_branch plan program branch ns hold)
    all-plays no_nodes hold = finds hold _ _ ends_done
    all-plays (more_nodes n ns) hold =
        plays-each (λ inner. all_course program call ns inner) (λ inner. all_branch plan program branch ns inner) (λ inner. all-plays ns inner)
        (node_course program call n hold.env) (node_branch plan program branch n hold) (node-plays n hold)

    any-plays : (ns : Nodes) (hold : Hold) → Plays (any_course program call ns hold.env) (any_branch plan program branch ns hold)
    any-plays no_nodes hold = ends_done
    any-plays (more_nodes n ns) hold =
        plays-after (node_course program call n hold.env) (any_course program call ns hold.env) (node_branch plan program branch n hold) (any_branch plan program branch ns hold)
        (node-plays n hold) (any-plays ns hold)

    arms-plays : (arms : Arms) (o : Option Value) (hold : Hold) → Plays (arms_course program call arms o hold.env) (arms_branch plan program branch arms o hold)
    arms-plays no_arms o hold = ends_done
    arms-plays (more_arms s n arms) o hold =
        arm-plays o s (node_course program call n hold.env) (arms_course program call arms o hold.env) (node_branch plan program branch n hold)
        (arms_branch plan program branch arms o hold) (node-plays n hold) (arms-plays arms o hold)

    kids-play : (info : SiteInfo) (k : ℕ) (ns : Nodes) (hold : Hold) (given : List Gift) → PlayAll (conjuncts program call ns hold.env) (conjunct_branches plan program branch info hold k ns given)
    kids-play info k no_nodes hold given = play_none
    kids-play info k (more_nodes n ns) hold given =
        play_more _ _ _ _
        (plays-closed (node_course program call n (only (node_variables n) hold.env)) (node_branch plan program branch n (conjunct_hold info k n hold given))
        (node-plays n (conjunct_hold info k n hold given)))
        (kids-play info (suc k) ns hold (given ++ gives (node_branch plan program branch n (conjunct_hold info k n hold given))))

  pub body-plays : (o : Option ProcedureBody) (hold : Hold) → Plays (body_course program call o hold.env) (body_branch plan program branch o hold)
  body-plays None hold = ends_done
  body-plays (Some q) hold = node-plays q.body hold

pub call-plays : (plan : Plan) (program : Program) (d : ℕ) (p : Procedure) (hold : Hold) → Plays (call_course program d p hold.env) (call_branch plan program d p hold)
call-plays plan program zero p hold = ends_deep
call-plays plan program (suc d) p hold =
    steps _ _ (body-plays plan program (call_course program d) (call_branch plan program d) (λ q h. call-plays plan program d q h) (program p) hold)

pub node_plays : (plan : Plan) (program : Program) (depth : ℕ) (goal : Node) (hold : Hold)
    → Plays (node_course program (call_course program depth) goal hold.env) (node_branch plan program (call_branch plan program depth) goal hold)
node_plays plan program depth goal hold =
    node-plays plan program (call_course program depth) (call_branch plan program depth) (λ p h. call-plays plan program depth p h) goal hold
