-- A run is the same at each depth of calls that is greater than its limit.
use Rattle.std.proofs.Common.{◌≡◌, ℕ, zero, suc, ◌<◌, Bool, true, false, List, [], Option, Some, None, refl, ap, arith}
use Rattle.merc_value.specs.Value.{Value, Values}
use Rattle.merc_graded_tree.specs.declared.basic.BasicGoal.{BasicGoal}
use Rattle.merc_graded_tree.specs.declared.basic.BasicGoal.TheVariants.{True, Fail, Assign, Test, Build, Split, Arithmetic, Compare, Raise, Call, Wait, Signal}
use Rattle.merc_graded_tree.specs.declared.basic.Procedure.{Procedure}
use Rattle.merc_graded_tree.specs.Nodes.{Node, node, Goal, Basic, Conjunction, Disjunction, Switch, Conditional, Negation, Quantified, Nodes, no_nodes, more_nodes, Arms, no_arms, more_arms}
use Rattle.merc_meaning.specs.Values.{fields}
use Rattle.merc_meaning.specs.Trace.{Env, Trace, End, Ends, Tick, Answer, Done, Raised, TooDeep, after, each, taken_back, first_alone, choose, negated, cut}
use Rattle.merc_meaning.specs.Steps.{value_at, entered, brought_back}
use Rattle.merc_meaning.specs.Runs.{Program, ProcedureBody, answers_once, once_if, called, where_some, basic_trace, goal_trace, node_trace, all_trace, any_trace, arms_trace, body_trace, call_trace, run}

-- two traces that are the same up to a limit of steps
pub data Alike : ℕ → Trace → Trace → Type 0 where
  ends : {limit : ℕ} {end : End} → Alike limit (Ends end) (Ends end)
  stops : {left right : Trace} → Alike zero (Tick left) (Tick right)
  ticks : {limit : ℕ} {left right : Trace} → Alike limit left right → Alike (suc limit) (Tick left) (Tick right)
  answers : {limit : ℕ} {env : Env} {left right : Trace} → Alike limit left right → Alike limit (Answer env left) (Answer env right)

cut-alike : {limit : ℕ} {left right : Trace} → Alike limit left right → cut limit left ≡ cut limit right
cut-alike (ends {end = Done}) = refl
cut-alike (ends {end = Raised text}) = refl
cut-alike (ends {end = TooDeep}) = refl
cut-alike stops = refl
cut-alike (ticks h) = ap Tick (cut-alike h)
cut-alike (answers {env = env} h) = ap (λ t. Answer env t) (cut-alike h)

alike-self : (limit : ℕ) (t : Trace) → Alike limit t t
alike-self limit (Ends e) = ends
alike-self zero (Tick t) = stops
alike-self (suc limit) (Tick t) = ticks (alike-self limit t)
alike-self limit (Answer env t) = answers (alike-self limit t)

alike-less : {limit : ℕ} {left right : Trace} → Alike (suc limit) left right → Alike limit left right
alike-less ends = ends
alike-less {limit = zero} (ticks h) = stops
alike-less {limit = suc limit} (ticks h) = ticks (alike-less h)
alike-less (answers h) = answers (alike-less h)

after-alike : {limit : ℕ} {l r u w : Trace} → Alike limit l r → Alike limit u w → Alike limit (after l u) (after r w)
after-alike (ends {end = Done}) k = k
after-alike (ends {end = Raised x}) k = ends
after-alike (ends {end = TooDeep}) k = ends
after-alike stops k = stops
after-alike (ticks h) k = ticks (after-alike h (alike-less k))
after-alike (answers h) k = answers (after-alike h k)

each-alike : {limit : ℕ} {l r : Trace} {f g : Env → Trace} → ((env : Env) → Alike limit (f env) (g env)) → Alike limit l r → Alike limit (each f l) (each g r)
each-alike k ends = ends
each-alike k stops = stops
each-alike k (ticks h) = ticks (each-alike (λ env. alike-less (k env)) h)
each-alike k (answers {env = env} h) = after-alike (k env) (each-alike k h)

choose-alike : {limit : ℕ} {l r u w : Trace} {f g : Env → Trace} → ((env : Env) → Alike limit (f env) (g env)) → Alike limit u w → Alike limit l r → Alike limit (choose f u l) (choose g w r)
choose-alike k m (ends {end = Done}) = m
choose-alike k m (ends {end = Raised x}) = ends
choose-alike k m (ends {end = TooDeep}) = ends
choose-alike k m stops = stops
choose-alike k m (ticks h) = ticks (choose-alike (λ env. alike-less (k env)) (alike-less m) h)
choose-alike k m (answers {env = env} h) = after-alike (k env) (each-alike k h)

negated-alike : {limit : ℕ} {l r : Trace} (env : Env) → Alike limit l r → Alike limit (negated env l) (negated env r)
negated-alike env (ends {end = Done}) = answers ends
negated-alike env (ends {end = Raised x}) = ends
negated-alike env (ends {end = TooDeep}) = ends
negated-alike env stops = stops
negated-alike env (ticks h) = ticks (negated-alike env h)
negated-alike env (answers h) = ends

taken-alike : {limit : ℕ} {l r : Trace} (f : Env → Env) → Alike limit l r → Alike limit (taken_back f l) (taken_back f r)
taken-alike f ends = ends
taken-alike f stops = stops
taken-alike f (ticks h) = ticks (taken-alike f h)
taken-alike f (answers h) = answers (taken-alike f h)

first-alike : {limit : ℕ} {l r : Trace} → Alike limit l r → Alike limit (first_alone l) (first_alone r)
first-alike ends = ends
first-alike stops = stops
first-alike (ticks h) = ticks (first-alike h)
first-alike (answers h) = answers ends

once-alike : {limit : ℕ} {l r : Trace} (answers_once : Bool) → Alike limit l r → Alike limit (once_if answers_once l) (once_if answers_once r)
once-alike true h = first-alike h
once-alike false h = h

where-alike : {limit : ℕ} {l r u w : Trace} (o : Option Values) → Alike limit l r → Alike limit u w → Alike limit (where_some o l u) (where_some o r w)
where-alike None h k = k
where-alike (Some vs) h k = h

module _ (program : Program) (limit : ℕ) (call other : Procedure → Env → Trace) (calls : (p : Procedure) (env : Env) → Alike limit (call p env) (other p env)) where
  called-alike : (p : Procedure) (o : Option ProcedureBody) (arguments : List ℕ) (env : Env) → Alike limit (called (call p) o arguments env) (called (other p) o arguments env)
  called-alike p None arguments env = ends
  called-alike p (Some q) arguments env = taken-alike (λ inner. brought_back q.places arguments (value_at inner) env) (calls p (entered q.places arguments env))

  basic-alike : (g : BasicGoal) (env : Env) → Alike limit (basic_trace program call g env) (basic_trace program other g env)
  basic-alike True env = alike-self limit _
  basic-alike Fail env = alike-self limit _
  basic-alike (Assign x y) env = alike-self limit _
  basic-alike (Test x y) env = alike-self limit _
  basic-alike (Build x s ys) env = alike-self limit _
  basic-alike (Split x s ys) env = alike-self limit _
  basic-alike (Arithmetic o z x y) env = alike-self limit _
  basic-alike (Compare o x y) env = alike-self limit _
  basic-alike (Raise x) env = alike-self limit _
  basic-alike (Call p arguments) env = called-alike p (program p) arguments env
  basic-alike (Wait x n) env = alike-self limit _
  basic-alike (Signal x n) env = alike-self limit _

  mutual
    goal-alike : (g : Goal) (env : Env) → Alike limit (goal_trace program call g env) (goal_trace program other g env)
    goal-alike (Basic g) env = basic-alike g env
    goal-alike (Conjunction running ns) env = all-alike ns env
    goal-alike (Disjunction ns) env = any-alike ns env
    goal-alike (Switch x arms) env = arms-alike arms (value_at env x) env
    goal-alike (Conditional c t e) env = choose-alike (λ inner. node-alike t inner) (node-alike e env) (node-alike c env)
    goal-alike (Negation n) env = negated-alike env (node-alike n env)
    goal-alike (Quantified own n) env = node-alike n env

    node-alike : (n : Node) (env : Env) → Alike limit (node_trace program call n env) (node_trace program other n env)
    node-alike (node g outputs category span) env = once-alike (answers_once outputs category) (goal-alike g env)

    all-alike : (ns : Nodes) (env : Env) → Alike limit (all_trace program call ns env) (all_trace program other ns env)
    all-alike no_nodes env = alike-self limit _
    all-alike (more_nodes n ns) env = each-alike (λ inner. all-alike ns inner) (node-alike n env)

    any-alike : (ns : Nodes) (env : Env) → Alike limit (any_trace program call ns env) (any_trace program other ns env)
    any-alike no_nodes env = ends
    any-alike (more_nodes n ns) env = after-alike (node-alike n env) (any-alike ns env)

    arms-alike : (arms : Arms) (o : Option Value) (env : Env) → Alike limit (arms_trace program call arms o env) (arms_trace program other arms o env)
    arms-alike no_arms o env = ends
    arms-alike (more_arms s n arms) None env = ends
    arms-alike (more_arms s n arms) (Some v) env = where-alike (fields s v) (node-alike n env) (arms-alike arms (Some v) env)

  body-alike : (o : Option ProcedureBody) (env : Env) → Alike limit (body_trace program call o env) (body_trace program other o env)
  body-alike None env = ends
  body-alike (Some p) env = node-alike p.body env

call-alike : (program : Program) (limit depth deeper : ℕ) → limit < depth → limit < deeper → (p : Procedure) (env : Env) → Alike limit (call_trace program depth p env) (call_trace program deeper p env)
call-alike program limit zero deeper h k p env = absurd (omega arith)
call-alike program limit (suc depth) zero h k p env = absurd (omega arith)
call-alike program zero (suc depth) (suc deeper) h k p env = stops
call-alike program (suc limit) (suc depth) (suc deeper) h k p env =
    ticks (body-alike program limit _ _ (call-alike program limit depth deeper (omega arith) (omega arith)) (program p) env)

pub run-at_depth : (program : Program) (goal : Node) (limit depth : ℕ) → limit < depth → run program goal limit ≡ cut limit (node_trace program (call_trace program depth) goal [])
run-at_depth program goal limit depth h = cut-alike (node-alike program limit _ _ (call-alike program limit (suc limit) depth (omega arith) h) goal [])
