-- The trace of a goal at a depth of calls beyond the limit is not too deep before the limit is passed, and what its run shows.
use Rattle.std.proofs.Common.{◌≡◌, ℕ, zero, suc, ◌<◌, Bool, true, false, List, Option, Some, None, refl, arith}
use Rattle.merc_value.specs.Value.{Value, Values, Int, Text as TextValue, Con}
use Rattle.merc_goal_tree.specs.declared.goal.Operation.{Operation}
use Rattle.merc_goal_tree.specs.declared.goal.Symbol.{Symbol}
use Rattle.merc_graded_tree.specs.declared.basic.BasicGoal.{BasicGoal}
use Rattle.merc_graded_tree.specs.declared.basic.BasicGoal.TheVariants.{True, Fail, Assign, Test, Build, Split, Arithmetic, Compare, Raise, Call, Wait, Signal}
use Rattle.merc_graded_tree.specs.declared.basic.Procedure.{Procedure}
use Rattle.merc_graded_tree.specs.Nodes.{Node, node, Goal, Basic, Conjunction, Disjunction, Switch, Conditional, Negation, Quantified, Nodes, no_nodes, more_nodes, Arms, no_arms, more_arms}
use Rattle.merc_meaning.specs.Values.{fields, same}
use Rattle.merc_meaning.specs.Arithmetic.{Result, Gives, ZeroDivisor, arithmetic, comparison_of}
use Rattle.merc_meaning.specs.Trace.{Env, Trace, Ends, Tick, Answer, Done, Raised, TooDeep, after, each, taken_back, first_alone, choose, negated, cut}
use Rattle.merc_meaning.specs.Steps.{value_at, values_at, made_if, binds, tested, compared, filled_if, split, computed, operated, raised, entered, brought_back}
use Rattle.merc_meaning.specs.Runs.{Program, ProcedureBody, answers_once, once_if, called, where_some, basic_trace, goal_trace, node_trace, all_trace, any_trace, arms_trace, body_trace, call_trace}
use Rattle.merc_script.specs.declared.outcome.Outcome.TheVariants.{Ok as Fine}
use Rattle.merc_plan.specs.Branch.{Raised as HaltRaised, TooDeep as HaltTooDeep, Starving as HaltStarving}
use Rattle.merc_plan.specs.BranchScript.{shown_by}
use Rattle.merc_plan.proofs.Flat.{Flat, Det, Done as FlatDone, Halts, Tick as FlatTick, Answer as FlatAnswer, Enough, events, seen}

-- what a run shows

counted_from : (t : Trace) (l s : ℕ) → seen true l s (events t) ≡ shown_by s (cut l t)
counted_from (Ends Done) l s = refl
counted_from (Ends (Raised v)) l s = refl
counted_from (Ends TooDeep) l s = refl
counted_from (Tick t) zero s = refl
counted_from (Tick t) (suc l) s = counted_from t l (suc s)
counted_from (Answer env t) l s = counted_from t l s

done_shown : (t : Trace) (l s : ℕ) → events t ≡ FlatDone → Fine s ≡ shown_by s (cut l t)
done_shown (Ends Done) l s e = refl
done_shown (Ends (Raised v)) l s e = absurd (cc)
done_shown (Ends TooDeep) l s e = absurd (cc)
done_shown (Tick t) l s e = absurd (cc)
done_shown (Answer env t) l s e = absurd (cc)

counted_once : (t : Trace) (l s : ℕ) → Det (events t) → seen false l s (events t) ≡ shown_by s (cut l t)
counted_once (Ends Done) l s d = refl
counted_once (Ends (Raised v)) l s d = refl
counted_once (Ends TooDeep) l s d = refl
counted_once (Tick t) zero s d = refl
counted_once (Tick t) (suc l) s d = counted_once t l (suc s) d
counted_once (Answer env t) l s d = done_shown t l s d

-- of the whole trace
pub counted_law : (t : Trace) (l : ℕ) → seen true l 0 (events t) ≡ shown_by 0 (cut l t)
counted_law t l = counted_from t l 0

-- .. and of one that answers at most once, up to its answer
pub counted_det : (root : Bool) (t : Trace) (l : ℕ) → Det (events t) → seen root l 0 (events t) ≡ shown_by 0 (cut l t)
counted_det true t l d = counted_from t l 0
counted_det false t l d = counted_once t l 0 d

-- not too deep before so many steps and one more

pub fewer : {A : Type 0} (l : ℕ) (t : Flat A) → Enough (suc l) t → Enough l t
fewer l FlatDone h = tt
fewer l (Halts (HaltRaised v)) h = tt
fewer l (Halts HaltTooDeep) h = absurd h
fewer l (Halts HaltStarving) h = tt
fewer zero (FlatTick t) h = tt
fewer (suc l) (FlatTick t) h = fewer l t h
fewer l (FlatAnswer a t) h = fewer l t h

enough_after : (l : ℕ) (t u : Trace) → Enough l (events t) → Enough l (events u) → Enough l (events (after t u))
enough_after l (Ends Done) u h k = k
enough_after l (Ends (Raised v)) u h k = tt
enough_after l (Ends TooDeep) u h k = absurd h
enough_after zero (Tick t) u h k = tt
enough_after (suc l) (Tick t) u h k = enough_after l t u h (fewer l (events u) k)
enough_after l (Answer env t) u h k = enough_after l t u h k

enough_each : (l : ℕ) (f : Env → Trace) (t : Trace) → ((env : Env) → Enough l (events (f env))) → Enough l (events t) → Enough l (events (each f t))
enough_each l f (Ends Done) k h = tt
enough_each l f (Ends (Raised v)) k h = tt
enough_each l f (Ends TooDeep) k h = absurd h
enough_each zero f (Tick t) k h = tt
enough_each (suc l) f (Tick t) k h = enough_each l f t (λ env. fewer l (events (f env)) (k env)) h
enough_each l f (Answer env t) k h = enough_after l (f env) (each f t) (k env) (enough_each l f t k h)

enough_choose : (l : ℕ) (f : Env → Trace) (u t : Trace) → ((env : Env) → Enough l (events (f env))) → Enough l (events u) → Enough l (events t)
    → Enough l (events (choose f u t))
enough_choose l f u (Ends Done) k w h = w
enough_choose l f u (Ends (Raised v)) k w h = tt
enough_choose l f u (Ends TooDeep) k w h = absurd h
enough_choose zero f u (Tick t) k w h = tt
enough_choose (suc l) f u (Tick t) k w h = enough_choose l f u t (λ env. fewer l (events (f env)) (k env)) (fewer l (events u) w) h
enough_choose l f u (Answer env t) k w h = enough_after l (f env) (each f t) (k env) (enough_each l f t k h)

enough_negated : (l : ℕ) (env : Env) (t : Trace) → Enough l (events t) → Enough l (events (negated env t))
enough_negated l env (Ends Done) h = tt
enough_negated l env (Ends (Raised v)) h = tt
enough_negated l env (Ends TooDeep) h = absurd h
enough_negated zero env (Tick t) h = tt
enough_negated (suc l) env (Tick t) h = enough_negated l env t h
enough_negated l env (Answer answer t) h = tt

enough_taken : (l : ℕ) (f : Env → Env) (t : Trace) → Enough l (events t) → Enough l (events (taken_back f t))
enough_taken l f (Ends Done) h = tt
enough_taken l f (Ends (Raised v)) h = tt
enough_taken l f (Ends TooDeep) h = absurd h
enough_taken zero f (Tick t) h = tt
enough_taken (suc l) f (Tick t) h = enough_taken l f t h
enough_taken l f (Answer answer t) h = enough_taken l f t h

enough_first : (l : ℕ) (t : Trace) → Enough l (events t) → Enough l (events (first_alone t))
enough_first l (Ends Done) h = tt
enough_first l (Ends (Raised v)) h = tt
enough_first l (Ends TooDeep) h = absurd h
enough_first zero (Tick t) h = tt
enough_first (suc l) (Tick t) h = enough_first l t h
enough_first l (Answer answer t) h = tt

enough_once : (l : ℕ) (b : Bool) (t : Trace) → Enough l (events t) → Enough l (events (once_if b t))
enough_once l true t h = enough_first l t h
enough_once l false t h = h

enough_where : (l : ℕ) (o : Option Values) (t u : Trace) → Enough l (events t) → Enough l (events u) → Enough l (events (where_some o t u))
enough_where l None t u h k = k
enough_where l (Some vs) t u h k = h

pub enough_binds : (l : ℕ) (env : Env) (x : ℕ) (o : Option Value) → Enough l (events (binds env x o))
enough_binds l env x None = tt
enough_binds l env x (Some v) = tt

enough_tested : (l : ℕ) (b : Bool) (env : Env) → Enough l (events (tested b env))
enough_tested l true env = tt
enough_tested l false env = tt

pub enough_compared : (l : ℕ) (env : Env) (holds : Value → Value → Bool) (o p : Option Value) → Enough l (events (compared env holds o p))
enough_compared l env holds None p = tt
enough_compared l env holds (Some v) None = tt
enough_compared l env holds (Some v) (Some w) = enough_tested l (holds v w) env

enough_filled : (l : ℕ) (env : Env) (xs : List ℕ) (o : Option Values) → Enough l (events (filled_if env xs o))
enough_filled l env xs None = tt
enough_filled l env xs (Some vs) = tt

pub enough_split : (l : ℕ) (env : Env) (symbol : Symbol) (xs : List ℕ) (o : Option Value) → Enough l (events (split env symbol xs o))
enough_split l env symbol xs None = tt
enough_split l env symbol xs (Some v) = enough_filled l env xs (fields symbol v)

enough_computed : (l : ℕ) (env : Env) (x : ℕ) (r : Result) → Enough l (events (computed env x r))
enough_computed l env x (Gives number) = tt
enough_computed l env x ZeroDivisor = tt

pub enough_operated : (l : ℕ) (env : Env) (op : Operation) (x : ℕ) (o p : Option Value) → Enough l (events (operated env op x o p))
enough_operated l env op x None p = tt
enough_operated l env op x (Some (TextValue t)) p = tt
enough_operated l env op x (Some (Con s vs)) p = tt
enough_operated l env op x (Some (Int a)) None = tt
enough_operated l env op x (Some (Int a)) (Some (TextValue t)) = tt
enough_operated l env op x (Some (Int a)) (Some (Con s vs)) = tt
enough_operated l env op x (Some (Int a)) (Some (Int b)) = enough_computed l env x (arithmetic op a b)

pub enough_raised : (l : ℕ) (o : Option Value) → Enough l (events (raised o))
enough_raised l None = tt
enough_raised l (Some (TextValue t)) = tt
enough_raised l (Some (Int a)) = tt
enough_raised l (Some (Con s vs)) = tt

module _ (program : Program) (l : ℕ) (call : Procedure → Env → Trace) (calls : (p : Procedure) (env : Env) → Enough l (events (call p env))) where
  enough_called : (p : Procedure) (o : Option ProcedureBody) (arguments : List ℕ) (env : Env) → Enough l (events (called (call p) o arguments env))
  enough_called p None arguments env = tt
  enough_called p (Some q) arguments env =
      enough_taken l (λ inner. brought_back q.places arguments (value_at inner) env) (call p (entered q.places arguments env))
      (calls p (entered q.places arguments env))

  enough_basic : (g : BasicGoal) (env : Env) → Enough l (events (basic_trace program call g env))
  enough_basic True env = tt
  enough_basic Fail env = tt
  enough_basic (Assign x y) env = enough_binds l env x (value_at env y)
  enough_basic (Test x y) env = enough_compared l env same (value_at env x) (value_at env y)
  enough_basic (Build x s ys) env = enough_binds l env x (made_if s (values_at env ys))
  enough_basic (Split x s ys) env = enough_split l env s ys (value_at env x)
  enough_basic (Arithmetic o z x y) env = enough_operated l env o z (value_at env x) (value_at env y)
  enough_basic (Compare o x y) env = enough_compared l env (comparison_of o) (value_at env x) (value_at env y)
  enough_basic (Raise x) env = enough_raised l (value_at env x)
  enough_basic (Call p arguments) env = enough_called p (program p) arguments env
  enough_basic (Wait x n) env = tt
  enough_basic (Signal x n) env = tt

  mutual
    pub enough_goal : (g : Goal) (env : Env) → Enough l (events (goal_trace program call g env))
    enough_goal (Basic g) env = enough_basic g env
    enough_goal (Conjunction running ns) env = enough_conj ns env
    enough_goal (Disjunction ns) env = enough_disj ns env
    enough_goal (Switch x arms) env = enough_arms arms (value_at env x) env
    enough_goal (Conditional c t e) env =
        enough_choose l (λ inner. node_trace program call t inner) (node_trace program call e env) (node_trace program call c env)
        (λ inner. enough_node t inner) (enough_node e env) (enough_node c env)
    enough_goal (Negation n) env = enough_negated l env (node_trace program call n env) (enough_node n env)
    enough_goal (Quantified own n) env = enough_node n env

    pub enough_node : (n : Node) (env : Env) → Enough l (events (node_trace program call n env))
    enough_node (node g outputs category span) env = enough_once l (answers_once outputs category) (goal_trace program call g env) (enough_goal g env)

    pub enough_conj : (ns : Nodes) (env : Env) → Enough l (events (all_trace program call ns env))
    enough_conj no_nodes env = tt
    enough_conj (more_nodes n ns) env =
        enough_each l (λ inner. all_trace program call ns inner) (node_trace program call n env) (λ inner. enough_conj ns inner) (enough_node n env)

    pub enough_disj : (ns : Nodes) (env : Env) → Enough l (events (any_trace program call ns env))
    enough_disj no_nodes env = tt
    enough_disj (more_nodes n ns) env = enough_after l (node_trace program call n env) (any_trace program call ns env) (enough_node n env) (enough_disj ns env)

    enough_arms : (arms : Arms) (o : Option Value) (env : Env) → Enough l (events (arms_trace program call arms o env))
    enough_arms no_arms o env = tt
    enough_arms (more_arms s n arms) None env = tt
    enough_arms (more_arms s n arms) (Some v) env =
        enough_where l (fields s v) (node_trace program call n env) (arms_trace program call arms (Some v) env) (enough_node n env) (enough_arms arms (Some v) env)

  pub enough_body : (o : Option ProcedureBody) (env : Env) → Enough l (events (body_trace program call o env))
  enough_body None env = tt
  enough_body (Some p) env = enough_node p.body env

pub enough_calls : (program : Program) (l d : ℕ) → l < d → (p : Procedure) (env : Env) → Enough l (events (call_trace program d p env))
enough_calls program l zero h p env = absurd (omega (arith, h))
enough_calls program zero (suc d) h p env = tt
enough_calls program (suc l) (suc d) h p env =
    enough_body program l (call_trace program d) (λ q inner. enough_calls program l d (omega (arith, h)) q inner) (program p) env

-- the trace of any goal with such calls
pub enough_trace : (program : Program) (l d : ℕ) → l < d → (n : Node) (env : Env) → Enough l (events (node_trace program (call_trace program d) n env))
enough_trace program l d h n env = enough_node program l (call_trace program d) (λ p inner. enough_calls program l d h p inner) n env

pub enough_conjuncts : (program : Program) (l d : ℕ) → l < d → (ns : Nodes) (env : Env) → Enough l (events (all_trace program (call_trace program d) ns env))
enough_conjuncts program l d h ns env = enough_conj program l (call_trace program d) (λ p inner. enough_calls program l d h p inner) ns env
