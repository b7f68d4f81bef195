-- A course up to a limit is the same at each depth of calls that is greater than the limit.
use Rattle.std.proofs.Common.{◌≡◌, ℕ, zero, suc, ◌<◌, List, [], Option, Some, None, arith}
use Rattle.merc_value.specs.Value.{Value}
use Rattle.merc_graded_tree.specs.declared.basic.BasicGoal.{BasicGoal}
use Rattle.merc_graded_tree.specs.declared.basic.BasicGoal.TheVariants.{True, Fail, Assign, Test, Build, Split, Arithmetic, Compare, Raise, Call, Wait, Signal}
use Rattle.merc_graded_tree.specs.declared.basic.Procedure.{Procedure}
use Rattle.merc_graded_tree.specs.declared.entries.Running.TheVariants.{Sequential, Parallel}
use Rattle.merc_graded_tree.specs.Nodes.{Node, node, Goal, Basic, Conjunction, Disjunction, Switch, Conditional, Negation, Quantified, Nodes, no_nodes, more_nodes, Arms, no_arms, more_arms}
use Rattle.merc_meaning.specs.Values.{fields}
use Rattle.merc_meaning.specs.Trace.{Env}
use Rattle.merc_meaning.specs.Steps.{value_at, entered, brought_back}
use Rattle.merc_meaning.specs.Runs.{Program, ProcedureBody, answers_once}
use Rattle.merc_course.specs.Course.{GoalCourse, one_answer, left_after, cut}
use Rattle.merc_course.specs.Variables.{node_variables, only}
use Rattle.merc_course.specs.Courses.{called, basic_course, goal_course, node_course, all_course, any_course, arms_course, conjuncts, body_course, call_course, course}
use Rattle.merc_course.proofs.Alike.{Alike, AllAlike, ends, stops, ticks, meets, none_left, one_more, cut-alike, alike-self, after-alike, each-alike, choose-alike, negated-alike, taken-alike, closed-alike, once-alike, where-alike}

module _ (program : Program) (limit : ℕ) (call other : Procedure → Env → GoalCourse) (calls : (p : Procedure) (env : Env) → Alike limit (call p env) (other p env)) where
  called-alike : (p : Procedure) (o : Option ProcedureBody) (arguments : List ℕ) (env : Env) → Alike limit (called (call p) o arguments env) (called (other p) o arguments env)
  called-alike p None arguments env = ends
  called-alike p (Some q) arguments env = taken-alike (λ inner. brought_back q.places arguments (value_at inner) env) (calls p (entered q.places arguments env))

  basic-alike : (g : BasicGoal) (env : Env) → Alike limit (basic_course program call g env) (basic_course program other g env)
  basic-alike True env = alike-self limit _
  basic-alike Fail env = alike-self limit _
  basic-alike (Assign x y) env = alike-self limit _
  basic-alike (Test x y) env = alike-self limit _
  basic-alike (Build x s ys) env = alike-self limit _
  basic-alike (Split x s ys) env = alike-self limit _
  basic-alike (Arithmetic o z x y) env = alike-self limit _
  basic-alike (Compare o x y) env = alike-self limit _
  basic-alike (Raise x) env = alike-self limit _
  basic-alike (Call p arguments) env = called-alike p (program p) arguments env
  basic-alike (Wait x n) env = alike-self limit _
  basic-alike (Signal x n) env = alike-self limit _

  mutual
    goal-alike : (g : Goal) (env : Env) → Alike limit (goal_course program call g env) (goal_course program other g env)
    goal-alike (Basic g) env = basic-alike g env
    goal-alike (Conjunction Sequential ns) env = all-alike ns env
    goal-alike (Conjunction (Parallel None) ns) env = all-alike ns env
    goal-alike (Conjunction (Parallel (Some site)) ns) env = meets (conjuncts-alike ns env) (λ reply. alike-self (left_after limit reply) (one_answer env))
    goal-alike (Disjunction ns) env = any-alike ns env
    goal-alike (Switch x arms) env = arms-alike arms (value_at env x) env
    goal-alike (Conditional c t e) env = choose-alike (λ inner. node-alike t inner) (node-alike e env) (node-alike c env)
    goal-alike (Negation n) env = negated-alike env (node-alike n env)
    goal-alike (Quantified own n) env = node-alike n env

    node-alike : (n : Node) (env : Env) → Alike limit (node_course program call n env) (node_course program other n env)
    node-alike (node g outputs category span) env = once-alike (answers_once outputs category) (goal-alike g env)

    all-alike : (ns : Nodes) (env : Env) → Alike limit (all_course program call ns env) (all_course program other ns env)
    all-alike no_nodes env = alike-self limit _
    all-alike (more_nodes n ns) env = each-alike (λ inner. all-alike ns inner) (node-alike n env)

    any-alike : (ns : Nodes) (env : Env) → Alike limit (any_course program call ns env) (any_course program other ns env)
    any-alike no_nodes env = ends
    any-alike (more_nodes n ns) env = after-alike (node-alike n env) (any-alike ns env)

    arms-alike : (arms : Arms) (o : Option Value) (env : Env) → Alike limit (arms_course program call arms o env) (arms_course program other arms o env)
    arms-alike no_arms o env = ends
    arms-alike (more_arms s n arms) None env = ends
    arms-alike (more_arms s n arms) (Some v) env = where-alike (fields s v) (node-alike n env) (arms-alike arms (Some v) env)

    conjuncts-alike : (ns : Nodes) (env : Env) → AllAlike limit (conjuncts program call ns env) (conjuncts program other ns env)
    conjuncts-alike no_nodes env = none_left
    conjuncts-alike (more_nodes n ns) env = one_more (closed-alike (node-alike n (only (node_variables n) env))) (conjuncts-alike ns env)

  body-alike : (o : Option ProcedureBody) (env : Env) → Alike limit (body_course program call o env) (body_course program other o env)
  body-alike None env = ends
  body-alike (Some p) env = node-alike p.body env

call-alike : (program : Program) (limit depth deeper : ℕ) → limit < depth → limit < deeper → (p : Procedure) (env : Env) → Alike limit (call_course program depth p env) (call_course program deeper p env)
call-alike program limit zero deeper h k p env = absurd (omega arith)
call-alike program limit (suc depth) zero h k p env = absurd (omega arith)
call-alike program zero (suc depth) (suc deeper) h k p env = stops
call-alike program (suc limit) (suc depth) (suc deeper) h k p env =
    ticks (body-alike program limit _ _ (call-alike program limit depth deeper (omega arith) (omega arith)) (program p) env)

pub course-at_depth : (program : Program) (goal : Node) (limit depth : ℕ) → limit < depth → course program goal limit ≡ cut limit (node_course program (call_course program depth) goal [])
course-at_depth program goal limit depth h = cut-alike (node-alike program limit _ _ (call-alike program limit (suc limit) depth (omega arith) h) goal [])
