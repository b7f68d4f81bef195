-- Each goal's course finds its cells, where rights to wait for a fork's own cells are used directly behind it.
use Rattle.std.proofs.Common.{◌≡◌, ℕ, zero, suc, ◌+◌, Bool, true, false, if◌then◌else◌, List, [], ◌∷◌, ◌++◌, length, map, filter, refl, ap, sym, subst, ◌∙◌, arith}
use Rattle.std.specs.Prelude.{Option, Some, None, ◌==◌}
use Rattle.merc_value.specs.Value.{Value, Values}
use Rattle.merc_goal_tree.specs.declared.goal.Symbol.{Symbol}
use Rattle.merc_graded_tree.specs.declared.basic.BasicGoal.{BasicGoal}
use Rattle.merc_graded_tree.specs.declared.basic.BasicGoal.TheVariants.{True, Fail, Assign, Test, Build, Split, Arithmetic, Compare, Raise, Call, Wait, Signal}
use Rattle.merc_graded_tree.specs.declared.basic.Procedure.{Procedure}
use Rattle.merc_graded_tree.specs.declared.basic.Site.{Site}
use Rattle.merc_graded_tree.specs.declared.entries.Running.TheVariants.{Parallel}
use Rattle.merc_graded_tree.specs.Nodes.{Node, node, Goal, Conjunction, Nodes, no_nodes, more_nodes, Arms}
use Rattle.merc_meaning.specs.Values.{fields, same}
use Rattle.merc_meaning.specs.Arithmetic.{comparison_of}
use Rattle.merc_meaning.specs.Trace.{Env, Trace, Ends as TraceEnds, Tick as TraceTick, Answer as TraceAnswer, Done, Raised as RaisedEnd, TooDeep as TooDeepEnd}
use Rattle.merc_meaning.specs.Steps.{value_at, with_entry, values_at, made_if, binds, compared, split, operated, raised, entered, brought_back}
use Rattle.merc_meaning.specs.Runs.{Program, ProcedureBody, answers_once}
use Rattle.merc_course.specs.Course.{GoalCourse, Meets, AtWait, AtFork, Reply, Joined, no_courses, whole, one_answer, each}
use Rattle.merc_course.specs.Variables.{node_variables, only}
use Rattle.merc_course.specs.Courses.{told, handed_on, once_if, called, where_some, taken_arm, basic_course, goal_course, node_course, all_course, any_course, arms_course, conjuncts, body_course, call_course}
use Rattle.merc_rights.specs.declared.sites.CellInfo.{CellInfo}
use Rattle.merc_rights.specs.declared.sites.SiteInfo.{SiteInfo}
use Rattle.merc_par_split.specs.Sites.{count}
use Rattle.merc_board.specs.Rights.{Due, Rights}
use Rattle.merc_plan.specs.Branch.{HeldWait, Hold, Gift, BranchCourse, Over, Finds, Forks, gives, each as b_each}
use Rattle.merc_plan.specs.Hold.{named, holding, with_env, wait_for, without_wait, signal_for, fork_of, conjunct_hold, hold_behind}
use Rattle.merc_plan.specs.Branches.{Plan, traced, awaited, signal_cell, signalled, info_of, basic_branch, goal_branch, node_branch, all_branch, any_branch, arms_branch, conjunct_branches, conjunct_gifts, body_branch, call_branch, once_if as b_once_if, called as b_called, where_some as b_where_some, taken_arm as b_taken_arm, first_name, root_branch}
use Rattle.merc_plan.proofs.Judging.{kid_count}
use Rattle.merc_plan.proofs.TellingNodes.{bound_behind, removed, Prompt, prompt, PromptGoal, basic, in_turn, unplanned, forked, any_of, switched, conditional, negation, quantified, AllPrompt, all_none, all_first, all_fork, all_wait, EachPrompt, each_none, each_first, ArmsPrompt, arms_none, arms_first, ArePrompt}
use Rattle.merc_branch_laws.proofs.Finding.{rest_for}
use Rattle.merc_branch_laws.proofs.Looking.{behind_wait, behind_fork, Holds, holds_less, SeesWait, Looks, looks_done, looks_raised, looks_deep, looks_step, looks_found, looks_wait, looks_starve, looks_signal, looks_fork, LookAll, look_none, look_more, looks_after, looks_each, looks_taken, looks_once, looks_choose, looks_negated, looks_closed}
use Rattle.merc_branch_laws.proofs.Holding.{holds_env, holds_called, sees_right, sees_nothing, holds_waited, sees_signal, holds_signalled, own_due, holds_kid, holds_behind, hands_over}
use Rattle.merc_branch_laws.proofs.Siting.{IsPlanned, Sited, GoalSited, AllSited, ArmsSited}

-- the variables of rights to wait

abbrev variables_of : List Due → List ℕ
variables_of waits = map (λ (one : Due). one.variable) waits

rest_variables : (x : ℕ) (ws : List Due) → variables_of (rest_for x ws) ≡ removed x (variables_of ws)
rest_variables x [] = refl
rest_variables x (w ∷ ws) = on (w.variable == x) (rest_variables x ws)
  where
    on : (b : Bool) → variables_of (rest_for x ws) ≡ removed x (variables_of ws)
        → variables_of (if b then ws else w ∷ rest_for x ws) ≡ (if b then variables_of ws else w.variable ∷ removed x (variables_of ws))
    on true e = refl
    on false e = ap (λ (l : List ℕ). w.variable ∷ l) e

own_variables : (next : ℕ) (infos : List CellInfo) → variables_of (own_due next infos 0) ≡ bound_behind infos
own_variables next [] = refl
own_variables next (info ∷ infos) = on (info.consumer == 0) (own_variables (suc next) infos)
  where
    on : (b : Bool) → variables_of (own_due (suc next) infos 0) ≡ bound_behind infos
        → variables_of (if b then record { variable = info.variable; cell = next } ∷ own_due (suc next) infos 0 else own_due (suc next) infos 0)
        ≡ map (λ (one : CellInfo). one.variable) (if b then info ∷ filter (λ (one : CellInfo). one.consumer == 0) infos else filter (λ (one : CellInfo). one.consumer == 0) infos)
    on true e = ap (λ (l : List ℕ). info.variable ∷ l) e
    on false e = e

none_pending : (pending : List Due) → variables_of pending ≡ [] → pending ≡ []
none_pending [] e = refl
none_pending (w ∷ ws) e = absurd (cc (e))

info_is : (plan : Plan) (site : ℕ) (info : SiteInfo) → plan site ≡ Some info → info_of (plan site) ≡ info
info_is plan site info e = ap info_of e

module _ (plan : Plan) where
  -- goals that meet nobody, waits and signals

  traced_looks : (next : ℕ) (frame : Bool) (left : Rights) (hold : Hold) → Holds next frame [] left hold → (t : Trace) → Looks plan next frame [] left (whole t) (traced hold t)
  traced_looks next frame left hold h (TraceEnds Done) = looks_done next frame left
  traced_looks next frame left hold h (TraceEnds (RaisedEnd text)) = looks_raised next frame [] left text
  traced_looks next frame left hold h (TraceEnds TooDeepEnd) = looks_deep next frame [] left
  traced_looks next frame left hold h (TraceTick t) = looks_step next frame left (whole t) (traced hold t) (traced_looks next frame left hold h t)
  traced_looks next frame left hold h (TraceAnswer env t) =
      looks_found next frame left (with_env hold env) (whole t) (traced hold t) (holds_env next frame [] left hold env h) (traced_looks next frame left hold h t)

  abbrev waited : Hold → ℕ → Value → Hold
  waited hold x v = record { env = with_entry hold.env x (Some v); waits = without_wait x hold.waits; signals = hold.signals; next = hold.next }

  right_looks : (next : ℕ) (frame : Bool) (left : Rights) (hold : Hold) → Holds next frame [] left hold → (x y c : ℕ) (o : Option Value) → SeesWait [] left.waits x c
      → Looks plan next frame [] left (Meets (AtWait x) no_courses (λ reply. one_answer (told hold.env x reply))) (awaited hold x (Some (record { variable = y; cell = c; value = o })))
  right_looks next frame left hold h x y c None sees = looks_starve next frame [] left x c no_courses _ sees
  right_looks next frame left hold h x y c (Some v) sees =
      looks_wait next frame [] left x c v no_courses _ _ sees
      (looks_found next frame (behind_wait x [] left) (waited hold x v) _ _ (holds_waited next frame [] left hold h x (with_entry hold.env x (Some v))) (looks_done next frame (behind_wait x [] left)))

  awaited_looks : (next : ℕ) (frame : Bool) (left : Rights) (hold : Hold) → Holds next frame [] left hold → (x : ℕ) (right : Option HeldWait) → wait_for x hold.waits ≡ right
      → Looks plan next frame [] left (Meets (AtWait x) no_courses (λ reply. one_answer (told hold.env x reply))) (awaited hold x right)
  awaited_looks next frame left hold h x None e = looks_starve next frame [] left x 0 no_courses _ (sees_nothing [] left.waits x)
  awaited_looks next frame left hold h x (Some right) e = right_looks next frame left hold h x right.variable right.cell right.value (sees_right next frame [] left hold h x right e)

  signalled_looks : (next : ℕ) (frame : Bool) (left : Rights) (hold : Hold) → Holds next frame [] left hold → (x : ℕ) (value : Option Value)
      → Looks plan next frame [] left (handed_on hold.env x value) (signalled hold (signal_cell (signal_for x hold.signals)) value)
  signalled_looks next frame left hold h x None = looks_done next frame left
  signalled_looks next frame left hold h x (Some v) =
      let c = signal_cell (signal_for x hold.signals) in
      looks_signal next frame left x c v no_courses _ _ (sees_signal next frame left hold h x) (looks_found next frame _ _ _ _ (holds_signalled next frame left hold h x c) (looks_done next frame _))

  some_looks : (next : ℕ) (frame : Bool) (left : Rights) (o : Option Values) (t u : GoalCourse) (t' u' : BranchCourse) → Looks plan next frame [] left t t' → Looks plan next frame [] left u u'
      → Looks plan next frame [] left (where_some o t u) (b_where_some o t' u')
  some_looks next frame left None t u t' u' p q = q
  some_looks next frame left (Some vs) t u t' u' p q = p

  arm_looks : (next : ℕ) (frame : Bool) (left : Rights) (o : Option Value) (s : Symbol) (t u : GoalCourse) (t' u' : BranchCourse) → Looks plan next frame [] left t t' → Looks plan next frame [] left u u'
      → Looks plan next frame [] left (taken_arm o s t u) (b_taken_arm o s t' u')
  arm_looks next frame left None s t u t' u' p q = looks_done next frame left
  arm_looks next frame left (Some v) s t u t' u' p q = some_looks next frame left (fields s v) t u t' u' p q

  -- a goal directly behind a wait

  wait_each : (next : ℕ) (frame : Bool) (pending : List Due) (left : Rights) (F : Env → GoalCourse) (F' : Hold → BranchCourse) (hold : Hold) → Holds next frame pending left hold → (x : ℕ) (b : Bool)
      → ((v : Value) → Looks plan next frame (rest_for x pending) (behind_wait x pending left) (F (with_entry hold.env x (Some v))) (F' (waited hold x v)))
      → Looks plan next frame pending left (each F (once_if b (Meets (AtWait x) no_courses (λ reply. one_answer (told hold.env x reply))))) (b_each F' (b_once_if b (awaited hold x (wait_for x hold.waits))))
  wait_each next frame pending left F F' hold h x b s = found (wait_for x hold.waits) refl
    where
      valued : (b : Bool) (y c : ℕ) (o : Option Value) → SeesWait pending left.waits x c
          → Looks plan next frame pending left (each F (once_if b (Meets (AtWait x) no_courses (λ reply. one_answer (told hold.env x reply)))))
          (b_each F' (b_once_if b (awaited hold x (Some (record { variable = y; cell = c; value = o })))))
      valued true y c None sees = looks_starve next frame pending left x c no_courses _ sees
      valued false y c None sees = looks_starve next frame pending left x c no_courses _ sees
      valued true y c (Some v) sees =
          looks_wait next frame pending left x c v no_courses _ _ sees
          (looks_after plan next frame (rest_for x pending) (behind_wait x pending left) (F (with_entry hold.env x (Some v))) _ (F' (waited hold x v)) Over (s v) (λ fewer p. looks_done next frame fewer))
      valued false y c (Some v) sees =
          looks_wait next frame pending left x c v no_courses _ _ sees
          (looks_after plan next frame (rest_for x pending) (behind_wait x pending left) (F (with_entry hold.env x (Some v))) _ (F' (waited hold x v)) Over (s v) (λ fewer p. looks_done next frame fewer))

      none : (b : Bool) → Looks plan next frame pending left (each F (once_if b (Meets (AtWait x) no_courses (λ reply. one_answer (told hold.env x reply))))) (b_each F' (b_once_if b (awaited hold x None)))
      none true = looks_starve next frame pending left x 0 no_courses _ (sees_nothing pending left.waits x)
      none false = looks_starve next frame pending left x 0 no_courses _ (sees_nothing pending left.waits x)

      found : (right : Option HeldWait) → wait_for x hold.waits ≡ right
          → Looks plan next frame pending left (each F (once_if b (Meets (AtWait x) no_courses (λ reply. one_answer (told hold.env x reply))))) (b_each F' (b_once_if b (awaited hold x right)))
      found None e = none b
      found (Some right) e = valued b right.variable right.cell right.value (sees_right next frame pending left hold h x right e)

-- Given is that the course of each called body finds its cells.
abbrev CallLooks : Plan → (Procedure → Env → GoalCourse) → (Procedure → Hold → BranchCourse) → Type 0
CallLooks plan call branch =
    (p : Procedure) (next : ℕ) (left : Rights) (hold : Hold) → Holds next false [] left hold → Looks plan next false [] left (call p hold.env) (branch p hold)

module _ (plan : Plan) (program : Program) (call : Procedure → Env → GoalCourse) (branch : Procedure → Hold → BranchCourse) (calls : CallLooks plan call branch) where
  called_looks : (p : Procedure) (o : Option ProcedureBody) (arguments : List ℕ) (next : ℕ) (frame : Bool) (left : Rights) (hold : Hold) → Holds next frame [] left hold
      → Looks plan next frame [] left (called (call p) o arguments hold.env) (b_called (branch p) o arguments hold)
  called_looks p None arguments next frame left hold h = looks_done next frame left
  called_looks p (Some q) arguments next frame left hold h =
      looks_taken plan next false frame (λ e. brought_back q.places arguments (value_at e) hold.env) (λ inner. with_env hold (brought_back q.places arguments (value_at inner.env) hold.env)) (λ inner. refl)
      [] left (call p (entered q.places arguments hold.env)) (branch p (holding (entered q.places arguments hold.env) hold.next))
      (λ fewer less inner. holds_env next frame [] fewer hold (brought_back q.places arguments (value_at inner.env) hold.env) (holds_less next frame [] fewer left hold less h))
      (calls p next left (holding (entered q.places arguments hold.env) hold.next) (holds_called next frame left hold (entered q.places arguments hold.env) h))

  basic_looks : (g : BasicGoal) (next : ℕ) (frame : Bool) (left : Rights) (hold : Hold) → Holds next frame [] left hold
      → Looks plan next frame [] left (basic_course program call g hold.env) (basic_branch plan program branch g hold)
  basic_looks True next frame left hold h = looks_found next frame left hold _ _ h (looks_done next frame left)
  basic_looks Fail next frame left hold h = looks_done next frame left
  basic_looks (Assign x y) next frame left hold h = traced_looks plan next frame left hold h (binds hold.env x (value_at hold.env y))
  basic_looks (Test x y) next frame left hold h = traced_looks plan next frame left hold h (compared hold.env same (value_at hold.env x) (value_at hold.env y))
  basic_looks (Build x s ys) next frame left hold h = traced_looks plan next frame left hold h (binds hold.env x (made_if s (values_at hold.env ys)))
  basic_looks (Split x s ys) next frame left hold h = traced_looks plan next frame left hold h (split hold.env s ys (value_at hold.env x))
  basic_looks (Arithmetic o z x y) next frame left hold h = traced_looks plan next frame left hold h (operated hold.env o z (value_at hold.env x) (value_at hold.env y))
  basic_looks (Compare o x y) next frame left hold h = traced_looks plan next frame left hold h (compared hold.env (comparison_of o) (value_at hold.env x) (value_at hold.env y))
  basic_looks (Raise x) next frame left hold h = traced_looks plan next frame left hold h (raised (value_at hold.env x))
  basic_looks (Call p arguments) next frame left hold h = called_looks p (program p) arguments next frame left hold h
  basic_looks (Wait x n) next frame left hold h = awaited_looks plan next frame left hold h x (wait_for x hold.waits) refl
  basic_looks (Signal x n) next frame left hold h = signalled_looks plan next frame left hold h x (value_at hold.env x)

  kids_counted : (goals : Nodes) (info : SiteInfo) (hold : Hold) (k : ℕ) (given : List Gift) → count goals ≡ kid_count (conjunct_branches plan program branch info hold k goals given)
  kids_counted no_nodes info hold k given = refl
  kids_counted (more_nodes first rest) info hold k given = ap suc (kids_counted rest info hold (suc k) (given ++ gives (node_branch plan program branch first (conjunct_hold info k first hold given))))

  -- a fork, and what is behind it
  fork_looks : (next : ℕ) (frame : Bool) (left : Rights) (hold : Hold) → Holds next frame [] left hold → (site : Site) (goals : Nodes) (planned : IsPlanned plan frame site goals)
      → LookAll plan (info_of (plan site.number)) next left 1 (conjuncts program call goals hold.env) (conjunct_branches plan program branch (info_of (plan site.number)) hold 1 goals [])
      → (f : Reply → GoalCourse) (t' : BranchCourse)
      → ((steps : ℕ) → Holds next frame (own_due next (info_of (plan site.number)).cells 0) (behind_fork (info_of (plan site.number)) left) (hold_behind (info_of (plan site.number)) hold (conjunct_gifts plan program branch (info_of (plan site.number)) hold 1 goals []))
      → Looks plan next frame (own_due next (info_of (plan site.number)).cells 0) (behind_fork (info_of (plan site.number)) left) (f (Joined steps)) t')
      → Looks plan next frame [] left (Meets (AtFork site.number) (conjuncts program call goals hold.env) f)
      (Forks site.number (fork_of (info_of (plan site.number)) goals hold) (conjunct_branches plan program branch (info_of (plan site.number)) hold 1 goals []) t')
  fork_looks next frame left hold h site goals planned all f t' s =
      let info = info_of (plan site.number) in
      let same : info ≡ planned.info = info_is plan site.number planned.info planned.is in
      let still : frame ≡ false → info.moves ≡ [] = λ e. ap (λ (i : SiteInfo). i.moves) same ∙ planned.still e in
      looks_fork next frame left site.number info (fork_of info goals hold) (conjuncts program call goals hold.env) f (conjunct_branches plan program branch info hold 1 goals []) t'
      (planned.is ∙ ap (λ (i : SiteInfo). Some i) (sym same))
      (ap (λ (i : SiteInfo). i.children) same ∙ planned.counted ∙ kids_counted goals info hold 1 [])
      (ap (λ (n : ℕ). named n info.cells) h.begins) (hands_over next frame left hold h info still) all
      (λ n. s n (holds_behind next frame left hold h info still (conjunct_gifts plan program branch info hold 1 goals [])))

  -- .. where goals stand directly behind it
  fork_each : (next : ℕ) (frame : Bool) (left : Rights) (hold : Hold) → Holds next frame [] left hold → (site : Site) (goals : Nodes) (planned : IsPlanned plan frame site goals)
      → LookAll plan (info_of (plan site.number)) next left 1 (conjuncts program call goals hold.env) (conjunct_branches plan program branch (info_of (plan site.number)) hold 1 goals [])
      → (b : Bool) (F : Env → GoalCourse) (F' : Hold → BranchCourse)
      → (Holds next frame (own_due next (info_of (plan site.number)).cells 0) (behind_fork (info_of (plan site.number)) left) (hold_behind (info_of (plan site.number)) hold (conjunct_gifts plan program branch (info_of (plan site.number)) hold 1 goals []))
      → Looks plan next frame (own_due next (info_of (plan site.number)).cells 0) (behind_fork (info_of (plan site.number)) left) (F hold.env)
      (F' (hold_behind (info_of (plan site.number)) hold (conjunct_gifts plan program branch (info_of (plan site.number)) hold 1 goals []))))
      → Looks plan next frame [] left (each F (once_if b (goal_course program call (Conjunction (Parallel (Some site)) goals) hold.env)))
      (b_each F' (b_once_if b (goal_branch plan program branch (Conjunction (Parallel (Some site)) goals) hold)))
  fork_each next frame left hold h site goals planned all true F F' s =
      fork_looks next frame left hold h site goals planned all _ _
      (λ n is. looks_after plan next frame _ (behind_fork (info_of (plan site.number)) left) (F hold.env) _ (F' _) Over (s is) (λ fewer p. looks_done next frame fewer))
  fork_each next frame left hold h site goals planned all false F F' s =
      fork_looks next frame left hold h site goals planned all _ _
      (λ n is. looks_after plan next frame _ (behind_fork (info_of (plan site.number)) left) (F hold.env) _ (F' _) Over (s is) (λ fewer p. looks_done next frame fewer))

  still_there : (frame : Bool) (site : Site) (goals : Nodes) → IsPlanned plan frame site goals → frame ≡ false → (info_of (plan site.number)).moves ≡ []
  still_there frame site goals planned e = ap (λ (i : SiteInfo). i.moves) (info_is plan site.number planned.info planned.is) ∙ planned.still e

  mutual
    goal_looks : (g : Goal) → PromptGoal plan g → (next : ℕ) (frame : Bool) → GoalSited plan frame g → (left : Rights) (hold : Hold) → Holds next frame [] left hold
        → Looks plan next frame [] left (goal_course program call g hold.env) (goal_branch plan program branch g hold)
    goal_looks g (basic one) next frame i left hold h = basic_looks one next frame left hold h
    goal_looks g (in_turn goals p) next frame i left hold h = all_looks [] goals p next frame i [] refl left hold h
    goal_looks g (unplanned goals p) next frame i left hold h = all_looks [] goals p next frame i [] refl left hold h
    goal_looks g (forked site goals p e) next frame i left hold h =
        let info = info_of (plan site.number) in
        fork_looks next frame left hold h site goals i.0 (kids_look goals p i.1 info next frame left hold h (still_there frame site goals i.0) 1 []) _ _
        (λ n behind.
        subst (λ (pending : List Due). Looks plan next frame pending (behind_fork info left) (one_answer hold.env) (Finds (hold_behind info hold (conjunct_gifts plan program branch info hold 1 goals [])) Over))
        (sym (none_pending (own_due next info.cells 0) (own_variables next info.cells ∙ e)))
        (looks_found next frame (behind_fork info left) (hold_behind info hold (conjunct_gifts plan program branch info hold 1 goals [])) _ _
        (subst (λ (pending : List Due). Holds next frame pending (behind_fork info left) (hold_behind info hold (conjunct_gifts plan program branch info hold 1 goals [])))
        (none_pending (own_due next info.cells 0) (own_variables next info.cells ∙ e)) behind)
        (looks_done next frame (behind_fork info left))))
    goal_looks g (any_of goals p) next frame i left hold h = any_looks goals p next frame i left hold h
    goal_looks g (switched variable arms p) next frame i left hold h = arms_look arms p next frame i (value_at hold.env variable) left hold h
    goal_looks g (conditional condition then_part else_part pc pt pe) next frame i left hold h =
        looks_choose plan next frame (λ inner. node_course program call then_part inner) (λ inner. node_branch plan program branch then_part inner)
        (λ inner less is. node_looks then_part pt next frame i.1.0 less inner is)
        (node_course program call else_part hold.env) (node_branch plan program branch else_part hold) [] left
        (λ fewer less. node_looks else_part pe next frame i.1.1 fewer hold (holds_less next frame [] fewer left hold less h))
        (node_course program call condition hold.env) (node_branch plan program branch condition hold) (node_looks condition pc next frame i.0 left hold h)
    goal_looks g (negation inner p) next frame i left hold h =
        looks_negated plan next frame hold [] left (λ fewer less. holds_less next frame [] fewer left hold less h) (node_course program call inner hold.env) (node_branch plan program branch inner hold)
        (node_looks inner p next frame i left hold h)
    goal_looks g (quantified own inner p) next frame i left hold h = node_looks inner p next frame i left hold h

    pub node_looks : (n : Node) → Prompt plan n → (next : ℕ) (frame : Bool) → Sited plan frame n → (left : Rights) (hold : Hold) → Holds next frame [] left hold
        → Looks plan next frame [] left (node_course program call n hold.env) (node_branch plan program branch n hold)
    node_looks n (prompt g outputs category span p) next frame i left hold h =
        looks_once plan (answers_once outputs category) next frame [] left (goal_course program call g hold.env) (goal_branch plan program branch g hold) (goal_looks g p next frame i left hold h)

    all_looks : (variables : List ℕ) (goals : Nodes) → AllPrompt plan variables goals → (next : ℕ) (frame : Bool) → AllSited plan frame goals → (pending : List Due) → variables_of pending ≡ variables
        → (left : Rights) (hold : Hold) → Holds next frame pending left hold → Looks plan next frame pending left (all_course program call goals hold.env) (all_branch plan program branch goals hold)
    all_looks variables goals all_none next frame i pending e left hold h =
        subst (λ (l : List Due). Looks plan next frame l left (one_answer hold.env) (Finds hold Over)) (sym (none_pending pending e))
        (looks_found next frame left hold _ _ (subst (λ (l : List Due). Holds next frame l left hold) (none_pending pending e) h) (looks_done next frame left))
    all_looks variables goals (all_first first rest p ps) next frame i pending e left hold h =
        subst (λ (l : List Due). Looks plan next frame l left (all_course program call (more_nodes first rest) hold.env) (all_branch plan program branch (more_nodes first rest) hold)) (sym (none_pending pending e))
        (looks_each plan next frame (λ inner. all_course program call rest inner) (λ inner. all_branch plan program branch rest inner)
        (λ inner less is. all_looks [] rest ps next frame i.1 [] refl less inner is) [] left (node_course program call first hold.env) (node_branch plan program branch first hold)
        (node_looks first p next frame i.0 left hold (subst (λ (l : List Due). Holds next frame l left hold) (none_pending pending e) h)))
    all_looks variables goals (all_fork site inner outputs category span rest p ps) next frame i pending e left hold h =
        let info = info_of (plan site.number) in
        let here : Holds next frame [] left hold = subst (λ (l : List Due). Holds next frame l left hold) (none_pending pending e) h in
        let whole_fork : Node = node (Conjunction (Parallel (Some site)) inner) outputs category span in
        let behind : Hold = hold_behind info hold (conjunct_gifts plan program branch info hold 1 inner []) in
        subst (λ (l : List Due). Looks plan next frame l left (all_course program call (more_nodes whole_fork rest) hold.env) (all_branch plan program branch (more_nodes whole_fork rest) hold)) (sym (none_pending pending e))
        (fork_each next frame left hold here site inner i.0.0 (kids_look inner p i.0.1 info next frame left hold here (still_there frame site inner i.0.0) 1 []) (answers_once outputs category)
        (λ inner. all_course program call rest inner) (λ inner. all_branch plan program branch rest inner)
        (λ is. all_looks (bound_behind info.cells) rest ps next frame i.1 (own_due next info.cells 0) (own_variables next info.cells) (behind_fork info left) behind is))
    all_looks variables goals (all_wait variable conjunct outputs category span _ rest ps) next frame i pending e left hold h =
        wait_each plan next frame pending left (λ inner. all_course program call rest inner) (λ inner. all_branch plan program branch rest inner) hold h variable (answers_once outputs category)
        (λ v. all_looks (removed variable variables) rest ps next frame i.1 (rest_for variable pending) (rest_variables variable pending ∙ ap (removed variable) e) (behind_wait variable pending left)
        (record { env = with_entry hold.env variable (Some v); waits = without_wait variable hold.waits; signals = hold.signals; next = hold.next })
        (holds_waited next frame pending left hold h variable (with_entry hold.env variable (Some v))))

    any_looks : (goals : Nodes) → EachPrompt plan goals → (next : ℕ) (frame : Bool) → AllSited plan frame goals → (left : Rights) (hold : Hold) → Holds next frame [] left hold
        → Looks plan next frame [] left (any_course program call goals hold.env) (any_branch plan program branch goals hold)
    any_looks goals each_none next frame i left hold h = looks_done next frame left
    any_looks goals (each_first first rest p ps) next frame i left hold h =
        looks_after plan next frame [] left (node_course program call first hold.env) (any_course program call rest hold.env) (node_branch plan program branch first hold) (any_branch plan program branch rest hold)
        (node_looks first p next frame i.0 left hold h) (λ fewer less. any_looks rest ps next frame i.1 fewer hold (holds_less next frame [] fewer left hold less h))

    arms_look : (arms : Arms) → ArmsPrompt plan arms → (next : ℕ) (frame : Bool) → ArmsSited plan frame arms → (value : Option Value) (left : Rights) (hold : Hold) → Holds next frame [] left hold
        → Looks plan next frame [] left (arms_course program call arms value hold.env) (arms_branch plan program branch arms value hold)
    arms_look arms arms_none next frame i value left hold h = looks_done next frame left
    arms_look arms (arms_first symbol body rest p ps) next frame i value left hold h =
        arm_looks plan next frame left value symbol (node_course program call body hold.env) (arms_course program call rest value hold.env) (node_branch plan program branch body hold)
        (arms_branch plan program branch rest value hold) (node_looks body p next frame i.0 left hold h) (arms_look rest ps next frame i.1 value left hold h)

    kids_look : (goals : Nodes) → EachPrompt plan goals → AllSited plan true goals → (info : SiteInfo) (next : ℕ) (frame : Bool) (left : Rights) (hold : Hold) → Holds next frame [] left hold
        → (frame ≡ false → info.moves ≡ []) → (k : ℕ) (given : List Gift)
        → LookAll plan info next left k (conjuncts program call goals hold.env) (conjunct_branches plan program branch info hold k goals given)
    kids_look goals each_none i info next frame left hold h still k given = look_none info next left k
    kids_look goals (each_first first rest p ps) i info next frame left hold h still k given =
        look_more info next left k _ _ _ _
        (λ fewer less.
        looks_closed plan (next + length info.cells) true [] _ (node_course program call first (only (node_variables first) hold.env)) (node_branch plan program branch first (conjunct_hold info k first hold given))
        (node_looks first p (next + length info.cells) true i.0 _ (conjunct_hold info k first hold given) (holds_kid next frame left hold h info still fewer less k first given)))
        (kids_look rest ps i.1 info next frame left hold h still (suc k) (given ++ gives (node_branch plan program branch first (conjunct_hold info k first hold given))))

  pub body_looks : (o : Option ProcedureBody) → ((one : ProcedureBody) → o ≡ Some one → Prompt plan one.body × Sited plan false one.body) → (next : ℕ) (left : Rights) (hold : Hold)
      → Holds next false [] left hold → Looks plan next false [] left (body_course program call o hold.env) (body_branch plan program branch o hold)
  body_looks None p next left hold h = looks_done next false left
  body_looks (Some q) p next left hold h = let is = p q refl in node_looks q.body is.0 next false is.1 left hold h

-- each body uses its forks' cells directly behind them, and its sites are planned and move nothing
abbrev pub AreSited : Plan → Program → Type 0
AreSited plan program = (procedure : Procedure) (body : ProcedureBody) → program procedure ≡ Some body → Sited plan false body.body

call_looks : (plan : Plan) (program : Program) → ArePrompt plan program → AreSited plan program → (depth : ℕ) → CallLooks plan (call_course program depth) (call_branch plan program depth)
call_looks plan program p i zero procedure next left hold h = looks_deep next false [] left
call_looks plan program p i (suc depth) procedure next left hold h =
    looks_step next false left _ _
    (body_looks plan program (call_course program depth) (call_branch plan program depth) (λ q m l one is. call_looks plan program p i depth q m l one is) (program procedure)
    (λ one e. (p procedure one e, i procedure one e)) next left hold h)

-- a branch that holds nothing, and to which nothing is left
pub root_looks : (plan : Plan) (program : Program) → ArePrompt plan program → AreSited plan program → (depth : ℕ) (goal : Node) → Prompt plan goal → Sited plan false goal
    → Looks plan first_name false [] (record { waits = []; signals = [] }) (node_course program (call_course program depth) goal []) (root_branch plan program depth goal)
root_looks plan program p i depth goal q j =
    node_looks plan program (call_course program depth) (call_branch plan program depth) (call_looks plan program p i depth) goal q first_name false j (record { waits = []; signals = [] }) (holding [] first_name)
    (record {
      begins = refl;
      some = omega arith;
      others = [];
      waits = refl;
      covers_waits = refl;
      covers_signals = refl;
      wait_cells = tt;
      signal_cells = tt;
      low_waits = λ c h. absurd (cc (h));
      low_signals = λ c h. absurd (cc (h));
    })
