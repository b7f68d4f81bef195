-- The course of a goal at a depth of calls beyond the limit does not break as too deep before the limit is passed, on its way and in the conjuncts of its forks.
use Rattle.std.proofs.Common.{ℕ, zero, suc, ◌≤◌, ◌<◌, Bool, true, false, List, [], ◌++◌, Option, Some, None, arith}
use Rattle.std.specs.Prelude.{⊤}
use Rattle.merc_value.specs.Value.{Value, Values}
use Rattle.merc_goal_tree.specs.declared.goal.Symbol.{Symbol}
use Rattle.merc_graded_tree.specs.declared.basic.BasicGoal.{BasicGoal}
use Rattle.merc_graded_tree.specs.declared.basic.BasicGoal.TheVariants.{True, Fail, Assign, Test, Build, Split, Arithmetic, Compare, Raise, Call, Wait, Signal}
use Rattle.merc_graded_tree.specs.declared.basic.Procedure.{Procedure}
use Rattle.merc_graded_tree.specs.declared.entries.Running.TheVariants.{Sequential, Parallel}
use Rattle.merc_graded_tree.specs.Nodes.{Node, node, Goal, Basic, Conjunction, Disjunction, Switch, Conditional, Negation, Quantified, Nodes, no_nodes, more_nodes, Arms, no_arms, more_arms}
use Rattle.merc_meaning.specs.Values.{fields, same}
use Rattle.merc_meaning.specs.Arithmetic.{comparison_of}
use Rattle.merc_meaning.specs.Trace.{Trace, Ends, Tick, Answer, Done, Raised as RaisedEnd, TooDeep as TooDeepEnd}
use Rattle.merc_meaning.specs.Steps.{value_at, values_at, made_if, binds, compared, split, operated, raised, entered, brought_back}
use Rattle.merc_meaning.specs.Runs.{Program, ProcedureBody, answers_once}
use Rattle.merc_rights.specs.declared.sites.SiteInfo.{SiteInfo}
use Rattle.merc_plan.specs.Branch.{HeldWait, Hold, Gift, BranchCourse, BranchCourses, Over, Breaks, Steps, Finds, Awaits, Gives, Forks, no_branches, more_branches, Raised, TooDeep, Starving, after, each, taken_back, first_alone, choose, negated, gives}
use Rattle.merc_plan.specs.Hold.{holding, with_env, wait_for, signal_for, conjunct_hold}
use Rattle.merc_plan.specs.Branches.{Plan, info_of, traced, awaited, signal_cell, signalled, once_if, called, where_some, taken_arm, basic_branch, goal_branch, node_branch, all_branch, any_branch, arms_branch, conjunct_branches, body_branch, call_branch}
use Rattle.merc_plan.proofs.Flat.{Enough, events}
use Rattle.merc_plan.proofs.Depths.{enough_binds, enough_compared, enough_split, enough_operated, enough_raised}

-- no TooDeep before step l + 1, in conjuncts counted from their fork on
abbrev mutual
  pub Deep : ℕ → BranchCourse → Type 0
  Deep l Over = ⊤
  Deep l (Breaks (Raised v)) = ⊤
  Deep l (Breaks TooDeep) = ⊥
  Deep l (Breaks Starving) = ⊤
  Deep zero (Steps t) = ⊤
  Deep (suc l) (Steps t) = Deep l t
  Deep l (Finds hold t) = Deep l t
  Deep l (Awaits c v t) = Deep l t
  Deep l (Gives c v t) = Deep l t
  Deep l (Forks i x kids t) = AllDeep l kids × Deep l t

  pub AllDeep : ℕ → BranchCourses → Type 0
  AllDeep l no_branches = ⊤
  AllDeep l (more_branches t more) = Deep l t × AllDeep l more

mutual
  pub deep_less : (d l : ℕ) → l ≤ d → (t : BranchCourse) → Deep d t → Deep l t
  deep_less d l e Over h = tt
  deep_less d l e (Breaks (Raised v)) h = tt
  deep_less d l e (Breaks TooDeep) h = absurd h
  deep_less d l e (Breaks Starving) h = tt
  deep_less d zero e (Steps t) h = tt
  deep_less zero (suc l) e (Steps t) h = absurd (omega (arith, e))
  deep_less (suc d) (suc l) e (Steps t) h = deep_less d l (omega (arith, e)) t h
  deep_less d l e (Finds hold t) h = deep_less d l e t h
  deep_less d l e (Awaits c v t) h = deep_less d l e t h
  deep_less d l e (Gives c v t) h = deep_less d l e t h
  deep_less d l e (Forks i x kids t) h = (all_less d l e kids h.0, deep_less d l e t h.1)

  all_less : (d l : ℕ) → l ≤ d → (kids : BranchCourses) → AllDeep d kids → AllDeep l kids
  all_less d l e no_branches h = tt
  all_less d l e (more_branches t more) h = (deep_less d l e t h.0, all_less d l e more h.1)

fewer : (l : ℕ) (t : BranchCourse) → Deep (suc l) t → Deep l t
fewer l t h = deep_less (suc l) l (omega arith) t h

deep_after : (l : ℕ) (t u : BranchCourse) → Deep l t → Deep l u → Deep l (after t u)
deep_after l Over u h k = k
deep_after l (Breaks halt) u h k = h
deep_after zero (Steps t) u h k = tt
deep_after (suc l) (Steps t) u h k = deep_after l t u h (fewer l u k)
deep_after l (Finds hold t) u h k = deep_after l t u h k
deep_after l (Awaits c v t) u h k = deep_after l t u h k
deep_after l (Gives c v t) u h k = deep_after l t u h k
deep_after l (Forks i x kids t) u h k = (h.0, deep_after l t u h.1 k)

deep_each : (l : ℕ) (f : Hold → BranchCourse) (t : BranchCourse) → ((hold : Hold) → Deep l (f hold)) → Deep l t → Deep l (each f t)
deep_each l f Over k h = tt
deep_each l f (Breaks halt) k h = h
deep_each zero f (Steps t) k h = tt
deep_each (suc l) f (Steps t) k h = deep_each l f t (λ hold. fewer l (f hold) (k hold)) h
deep_each l f (Finds hold t) k h = deep_after l (f hold) (each f t) (k hold) (deep_each l f t k h)
deep_each l f (Awaits c v t) k h = deep_each l f t k h
deep_each l f (Gives c v t) k h = deep_each l f t k h
deep_each l f (Forks i x kids t) k h = (h.0, deep_each l f t k h.1)

deep_taken : (l : ℕ) (f : Hold → Hold) (t : BranchCourse) → Deep l t → Deep l (taken_back f t)
deep_taken l f Over h = tt
deep_taken l f (Breaks halt) h = h
deep_taken zero f (Steps t) h = tt
deep_taken (suc l) f (Steps t) h = deep_taken l f t h
deep_taken l f (Finds hold t) h = deep_taken l f t h
deep_taken l f (Awaits c v t) h = deep_taken l f t h
deep_taken l f (Gives c v t) h = deep_taken l f t h
deep_taken l f (Forks i x kids t) h = (h.0, deep_taken l f t h.1)

deep_first : (l : ℕ) (t : BranchCourse) → Deep l t → Deep l (first_alone t)
deep_first l Over h = tt
deep_first l (Breaks halt) h = h
deep_first zero (Steps t) h = tt
deep_first (suc l) (Steps t) h = deep_first l t h
deep_first l (Finds hold t) h = tt
deep_first l (Awaits c v t) h = deep_first l t h
deep_first l (Gives c v t) h = deep_first l t h
deep_first l (Forks i x kids t) h = (h.0, deep_first l t h.1)

deep_once : (l : ℕ) (b : Bool) (t : BranchCourse) → Deep l t → Deep l (once_if b t)
deep_once l true t h = deep_first l t h
deep_once l false t h = h

deep_choose : (l : ℕ) (f : Hold → BranchCourse) (u t : BranchCourse) → ((hold : Hold) → Deep l (f hold)) → Deep l u → Deep l t → Deep l (choose f u t)
deep_choose l f u Over k w h = w
deep_choose l f u (Breaks halt) k w h = h
deep_choose zero f u (Steps t) k w h = tt
deep_choose (suc l) f u (Steps t) k w h = deep_choose l f u t (λ hold. fewer l (f hold) (k hold)) (fewer l u w) h
deep_choose l f u (Finds hold t) k w h = deep_after l (f hold) (each f t) (k hold) (deep_each l f t k h)
deep_choose l f u (Awaits c v t) k w h = deep_choose l f u t k w h
deep_choose l f u (Gives c v t) k w h = deep_choose l f u t k w h
deep_choose l f u (Forks i x kids t) k w h = (h.0, deep_choose l f u t k w h.1)

deep_negated : (l : ℕ) (before : Hold) (t : BranchCourse) → Deep l t → Deep l (negated before t)
deep_negated l before Over h = tt
deep_negated l before (Breaks halt) h = h
deep_negated zero before (Steps t) h = tt
deep_negated (suc l) before (Steps t) h = deep_negated l before t h
deep_negated l before (Finds hold t) h = tt
deep_negated l before (Awaits c v t) h = deep_negated l before t h
deep_negated l before (Gives c v t) h = deep_negated l before t h
deep_negated l before (Forks i x kids t) h = (h.0, deep_negated l before t h.1)

-- goals that hold no others

traced_deep : (l : ℕ) (hold : Hold) (t : Trace) → Enough l (events t) → Deep l (traced hold t)
traced_deep l hold (Ends Done) h = tt
traced_deep l hold (Ends (RaisedEnd text)) h = tt
traced_deep l hold (Ends TooDeepEnd) h = absurd h
traced_deep zero hold (Tick t) h = tt
traced_deep (suc l) hold (Tick t) h = traced_deep l hold t h
traced_deep l hold (Answer env t) h = traced_deep l hold t h

awaited_deep : (l : ℕ) (hold : Hold) (variable : ℕ) (right : Option HeldWait) → Deep l (awaited hold variable right)
awaited_deep l hold variable None = tt
awaited_deep l hold variable (Some right) = on right.value
  where
    on : (value : Option Value) → Deep l (awaited hold variable (Some (record { variable = right.variable; cell = right.cell; value = value })))
    on None = tt
    on (Some value) = tt

signalled_deep : (l : ℕ) (hold : Hold) (cell : ℕ) (value : Option Value) → Deep l (signalled hold cell value)
signalled_deep l hold cell None = tt
signalled_deep l hold cell (Some value) = tt

where_deep : (l : ℕ) (found : Option Values) (t u : BranchCourse) → Deep l t → Deep l u → Deep l (where_some found t u)
where_deep l None t u h k = k
where_deep l (Some arguments) t u h k = h

arm_deep : (l : ℕ) (value : Option Value) (symbol : Symbol) (t u : BranchCourse) → Deep l t → Deep l u → Deep l (taken_arm value symbol t u)
arm_deep l None symbol t u h k = tt
arm_deep l (Some value) symbol t u h k = where_deep l (fields symbol value) t u h k

module _ (plan : Plan) (program : Program) (l : ℕ) (call : Procedure → Hold → BranchCourse) (calls : (procedure : Procedure) (hold : Hold) → Deep l (call procedure hold)) where
  called_deep : (procedure : Procedure) (body : Option ProcedureBody) (arguments : List ℕ) (hold : Hold) → Deep l (called (call procedure) body arguments hold)
  called_deep procedure None arguments hold = tt
  called_deep procedure (Some body) arguments hold =
      deep_taken l (λ inner. with_env hold (brought_back body.places arguments (value_at inner.env) hold.env)) (call procedure (holding (entered body.places arguments hold.env) hold.next))
      (calls procedure (holding (entered body.places arguments hold.env) hold.next))

  basic_deep : (goal : BasicGoal) (hold : Hold) → Deep l (basic_branch plan program call goal hold)
  basic_deep True hold = tt
  basic_deep Fail hold = tt
  basic_deep (Assign to from) hold = traced_deep l hold (binds hold.env to (value_at hold.env from)) (enough_binds l hold.env to (value_at hold.env from))
  basic_deep (Test one other) hold =
      traced_deep l hold (compared hold.env same (value_at hold.env one) (value_at hold.env other)) (enough_compared l hold.env same (value_at hold.env one) (value_at hold.env other))
  basic_deep (Build root symbol arguments) hold =
      traced_deep l hold (binds hold.env root (made_if symbol (values_at hold.env arguments))) (enough_binds l hold.env root (made_if symbol (values_at hold.env arguments)))
  basic_deep (Split root symbol arguments) hold =
      traced_deep l hold (split hold.env symbol arguments (value_at hold.env root)) (enough_split l hold.env symbol arguments (value_at hold.env root))
  basic_deep (Arithmetic operation result left right) hold =
      traced_deep l hold (operated hold.env operation result (value_at hold.env left) (value_at hold.env right))
      (enough_operated l hold.env operation result (value_at hold.env left) (value_at hold.env right))
  basic_deep (Compare test left right) hold =
      traced_deep l hold (compared hold.env (comparison_of test) (value_at hold.env left) (value_at hold.env right))
      (enough_compared l hold.env (comparison_of test) (value_at hold.env left) (value_at hold.env right))
  basic_deep (Raise text) hold = traced_deep l hold (raised (value_at hold.env text)) (enough_raised l (value_at hold.env text))
  basic_deep (Call procedure arguments) hold = called_deep procedure (program procedure) arguments hold
  basic_deep (Wait variable conjunct) hold = awaited_deep l hold variable (wait_for variable hold.waits)
  basic_deep (Signal variable conjunct) hold = signalled_deep l hold (signal_cell (signal_for variable hold.signals)) (value_at hold.env variable)

  mutual
    goal_deep : (goal : Goal) (hold : Hold) → Deep l (goal_branch plan program call goal hold)
    goal_deep (Basic goal) hold = basic_deep goal hold
    goal_deep (Conjunction Sequential goals) hold = all_deep goals hold
    goal_deep (Conjunction (Parallel None) goals) hold = all_deep goals hold
    goal_deep (Conjunction (Parallel (Some site)) goals) hold = (conjuncts_deep goals (info_of (plan site.number)) hold 1 [], tt)
    goal_deep (Disjunction goals) hold = any_deep goals hold
    goal_deep (Switch variable arms) hold = arms_deep arms (value_at hold.env variable) hold
    goal_deep (Conditional condition then_part else_part) hold =
        deep_choose l (λ inner. node_branch plan program call then_part inner) (node_branch plan program call else_part hold) (node_branch plan program call condition hold)
        (λ inner. tree_deep then_part inner) (tree_deep else_part hold) (tree_deep condition hold)
    goal_deep (Negation goal) hold = deep_negated l hold (node_branch plan program call goal hold) (tree_deep goal hold)
    goal_deep (Quantified own goal) hold = tree_deep goal hold

    tree_deep : (goal : Node) (hold : Hold) → Deep l (node_branch plan program call goal hold)
    tree_deep (node goal outputs category span) hold = deep_once l (answers_once outputs category) (goal_branch plan program call goal hold) (goal_deep goal hold)

    all_deep : (goals : Nodes) (hold : Hold) → Deep l (all_branch plan program call goals hold)
    all_deep no_nodes hold = tt
    all_deep (more_nodes first rest) hold =
        deep_each l (λ inner. all_branch plan program call rest inner) (node_branch plan program call first hold) (λ inner. all_deep rest inner) (tree_deep first hold)

    any_deep : (goals : Nodes) (hold : Hold) → Deep l (any_branch plan program call goals hold)
    any_deep no_nodes hold = tt
    any_deep (more_nodes first rest) hold =
        deep_after l (node_branch plan program call first hold) (any_branch plan program call rest hold) (tree_deep first hold) (any_deep rest hold)

    arms_deep : (arms : Arms) (value : Option Value) (hold : Hold) → Deep l (arms_branch plan program call arms value hold)
    arms_deep no_arms value hold = tt
    arms_deep (more_arms symbol body rest) value hold =
        arm_deep l value symbol (node_branch plan program call body hold) (arms_branch plan program call rest value hold) (tree_deep body hold) (arms_deep rest value hold)

    conjuncts_deep : (goals : Nodes) (info : SiteInfo) (hold : Hold) (k : ℕ) (given : List Gift) → AllDeep l (conjunct_branches plan program call info hold k goals given)
    conjuncts_deep no_nodes info hold k given = tt
    conjuncts_deep (more_nodes first rest) info hold k given = (
      tree_deep first (conjunct_hold info k first hold given),
      conjuncts_deep rest info hold (suc k) (given ++ gives (node_branch plan program call first (conjunct_hold info k first hold given))),
    )

  body_deep : (body : Option ProcedureBody) (hold : Hold) → Deep l (body_branch plan program call body hold)
  body_deep None hold = tt
  body_deep (Some procedure) hold = tree_deep procedure.body hold

pub call_deep : (plan : Plan) (program : Program) (l d : ℕ) → l < d → (procedure : Procedure) (hold : Hold) → Deep l (call_branch plan program d procedure hold)
call_deep plan program l zero h procedure hold = absurd (omega (arith, h))
call_deep plan program zero (suc d) h procedure hold = tt
call_deep plan program (suc l) (suc d) h procedure hold =
    body_deep plan program l (call_branch plan program d) (λ other inner. call_deep plan program l d (omega (arith, h)) other inner) (program procedure) hold

-- the course of any goal with such calls
pub node_deep : (plan : Plan) (program : Program) (l d : ℕ) → l < d → (goal : Node) (hold : Hold) → Deep l (node_branch plan program (call_branch plan program d) goal hold)
node_deep plan program l d h goal hold =
    tree_deep plan program l (call_branch plan program d) (λ procedure inner. call_deep plan program l d h procedure inner) goal hold
