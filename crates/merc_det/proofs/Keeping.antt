-- What each task leaves to do leads to the same.
use Rattle.std.specs.Prelude.{◌≡◌, ℕ, Bool, true, false, List, [], ◌∷◌, ◌++◌, length, Result, Ok, Err, OnOk, if◌then◌else◌}
use Rattle.std.proofs.Common.{◌∙◌, ap, sym, subst}
use Rattle.merc_tree.specs.Types.{TypeExpr}
use Rattle.merc_tree.specs.declared.declarations.ModeDecl.{ModeDecl}
use Rattle.merc_tree.specs.declared.declarations.TypeDef.{TypeDef}
use Rattle.merc_goal_tree.specs.declared.goal.Symbol.{Symbol}
use Rattle.merc_graded_tree.specs.declared.entries.Running.{Running}
use Rattle.merc_graded_tree.specs.declared.entries.Running.TheVariants.{Sequential, Parallel}
use Rattle.merc_graded_tree.specs.Nodes.{Node, node, Goal, Basic, Conjunction, Disjunction, Switch, Conditional, Negation, Quantified, Nodes, no_nodes, more_nodes, Arms, no_arms, more_arms, goal_of}
use Rattle.merc_graded_tree.specs.Roots.{root_of}
use Rattle.merc_grading.specs.Fitting.{Fits, FitsGoal, FitsAll, FitsArms}
use Rattle.merc_grading.specs.Known.{Known}
use Rattle.merc_det.specs.Closing.{closed, known_behind_root}
use Rattle.merc_det.specs.Seen.{back_to}
use Rattle.merc_det.specs.Tasks.{conjunct_task, tasks_in_turn, tell_tasks, inner_tells, last_has_none, choice_tasks, arm_tasks, recall_tasks, inner_tasks, plan, Progress, after, after_all, TaskFits, TasksFit, Leads, Keeps}
use Rattle.merc_det.specs.declared.planning.Task.{Task}
use Rattle.merc_det.specs.declared.planning.Task.TheVariants.{Grade, Beside, Withhold, Recall, Tell, Learn, Forget, Close}
use Rattle.merc_det.proofs.Running.{run-append, plan_run, beside_run, tells_run, recalled_run}

module _ (declared : List TypeDef) (types : ℕ → TypeExpr) where
  fit-both : (front back : List Task) → TasksFit declared types front → TasksFit declared types back → TasksFit declared types (front ++ back)
  fit-both [] back f b = b
  fit-both (first ∷ rest) back (one, others) b = (one, fit-both rest back others b)

  pub record Fit (front back : List Task) : Type 0 where
    pub front_is : TasksFit declared types front
    pub back_is : TasksFit declared types back

  pub fit-parts : (front back : List Task) → TasksFit declared types (front ++ back) → Fit front back
  fit-parts [] back fit = record { front_is = tt; back_is = fit }
  fit-parts (first ∷ rest) back (one, others) =
      let inner = fit-parts rest back others in record { front_is = (one, inner.front_is); back_is = inner.back_is }

  conjunct_fit : (running : Running) (goal : Node) → Fits declared types goal → TaskFits declared types (conjunct_task running goal)
  conjunct_fit Sequential goal fits = fits
  conjunct_fit (Parallel site) goal fits = fits

  in_turn_fit : (running : Running) (goals : Nodes) → FitsAll declared types goals → TasksFit declared types (tasks_in_turn running goals)
  in_turn_fit running no_nodes fits = tt
  in_turn_fit running (more_nodes first rest) (one, others) =
      fit-both (tasks_in_turn running rest) (conjunct_task running first ∷ []) (in_turn_fit running rest others) (conjunct_fit running first one, tt)

  choices_fit : (known : ℕ) (goals : Nodes) → FitsAll declared types goals → TasksFit declared types (choice_tasks known goals)
  choices_fit known no_nodes fits = tt
  choices_fit known (more_nodes first rest) (one, others) =
      fit-both (choice_tasks known rest) (Forget known ∷ Grade first ∷ []) (choices_fit known rest others) (tt, (one, tt))

  arms_fit : (known variable : ℕ) (arms : Arms) → FitsArms declared types variable arms → TasksFit declared types (arm_tasks known variable arms)
  arms_fit known variable no_arms fits = tt
  arms_fit known variable (more_arms symbol body rest) (symbol_fits, body_fits, others) =
      fit-both (arm_tasks known variable rest) (Forget known ∷ Grade body ∷ Learn variable symbol ∷ []) (arms_fit known variable rest others) (tt, (body_fits, (tt, tt)))

  inner_fit : (known : ℕ) (goal : Goal) → FitsGoal declared types goal → TasksFit declared types (inner_tasks known goal)
  inner_fit known (Basic goal) fits = tt
  inner_fit known (Conjunction running goals) fits = in_turn_fit running goals fits
  inner_fit known (Disjunction goals) fits = choices_fit known goals fits
  inner_fit known (Switch variable arms) (some, fits) = arms_fit known variable arms fits
  inner_fit known (Conditional condition then_part else_part) (one, two, three) = (tt, (three, (tt, (two, (one, tt)))))
  inner_fit known (Negation goal) fits = (tt, (fits, tt))
  inner_fit known (Quantified own goal) fits = (fits, tt)

  recall_fit : (known : ℕ) (whole : Node) (goal : Goal) → TasksFit declared types (recall_tasks known whole goal)
  recall_fit known whole (Basic goal) = tt
  recall_fit known whole (Conjunction Sequential goals) = tt
  recall_fit known whole (Conjunction (Parallel site) goals) = (tt, (tt, tt))
  recall_fit known whole (Disjunction goals) = tt
  recall_fit known whole (Switch variable arms) = tt
  recall_fit known whole (Conditional condition then_part else_part) = tt
  recall_fit known whole (Negation goal) = tt
  recall_fit known whole (Quantified own goal) = tt

  plan_fit : (known : ℕ) (whole : Node) → Fits declared types whole → TasksFit declared types (plan known whole)
  plan_fit known (node goal outputs category span) fits =
      let whole = node goal outputs category span in
      fit-both (recall_tasks known whole goal) (Close whole ∷ inner_tasks known goal) (recall_fit known whole goal) (fits, inner_fit known goal fits)

  tell_fit : (goals : Nodes) → TasksFit declared types (tell_tasks goals)
  tell_fit no_nodes = tt
  tell_fit (more_nodes first rest) = fit-both (tell_tasks rest) (Tell first ∷ []) (tell_fit rest) (tt, tt)

  inner_tell_fit : (goal : Goal) → TasksFit declared types (inner_tells goal)
  inner_tell_fit (Basic goal) = tt
  inner_tell_fit (Conjunction running goals) = tell_fit goals
  inner_tell_fit (Disjunction goals) = tt
  inner_tell_fit (Switch variable arms) = tt
  inner_tell_fit (Conditional condition then_part else_part) = tt
  inner_tell_fit (Negation goal) = tt
  inner_tell_fit (Quantified own goal) = (tt, tt)

  recalled_fit : (b : Bool) (whole : Node) → TasksFit declared types (if b then Tell whole ∷ [] else [])
  recalled_fit true whole = (tt, tt)
  recalled_fit false whole = tt

module _ (declared : List TypeDef) (modes : ℕ → List ModeDecl) (types : ℕ → TypeExpr) where
  -- tasks in place of the last one
  pub replaced_keeps : (tasks new later : List Task) (task : Task) (from to : Progress) → new ≡ tasks ++ later → (TaskFits declared types task → TasksFit declared types later)
      → after_all declared modes types later to ≡ after declared modes types task from → Keeps declared modes types (tasks ++ task ∷ []) from new to
  replaced_keeps tasks new later task from to e fits done fit =
      let parts = fit-parts declared types tasks (task ∷ []) fit in
      let run = after_all declared modes types in
      record {
        fit = subst (λ l. TasksFit declared types l) (sym e) (fit-both declared types tasks later parts.front_is (fits parts.back_is.0));
        same = ap (λ l. run l to) e ∙ run-append declared modes types tasks later to ∙ ap (run tasks) done
            ∙ sym (run-append declared modes types tasks (task ∷ []) from);
      }

  pub plan_keeps : (tasks new : List Task) (known : ℕ) (whole : Node) (at : Progress) → known ≡ length at.known → new ≡ tasks ++ plan known whole
      → Keeps declared modes types (tasks ++ Grade whole ∷ []) at new at
  plan_keeps tasks new known whole at count e =
      replaced_keeps tasks new (plan known whole) (Grade whole) at at e (plan_fit declared types known whole)
      (ap (λ k. after_all declared modes types (plan k whole) at) count ∙ plan_run declared modes types whole at)

  pub rest_keeps : (tasks : List Task) (task : Task) (from to : Progress) → (TaskFits declared types task → to ≡ after declared modes types task from)
      → Keeps declared modes types (tasks ++ task ∷ []) from tasks to
  rest_keeps tasks task from to done fit =
      let parts = fit-parts declared types tasks (task ∷ []) fit in
      record {
        fit = parts.front_is;
        same = ap (after_all declared modes types tasks) (done parts.back_is.0) ∙ sym (run-append declared modes types tasks (task ∷ []) from);
      }

  -- the same of each task by its kind

  abbrev reached : List Node → Known → Progress
  reached goals known = record { goals = goals; known = known }

  pub grade_keeps : (tasks new : List Task) (task : Task) (known : ℕ) (whole : Node) (goals : List Node) (seen : Known) → task ≡ Grade whole → known ≡ length seen
      → new ≡ tasks ++ plan known whole → Keeps declared modes types (tasks ++ task ∷ []) (reached goals seen) new (reached goals seen)
  grade_keeps tasks new task known whole goals seen is count e =
      subst (λ t. Keeps declared modes types (tasks ++ t ∷ []) (reached goals seen) new (reached goals seen)) (sym is)
      (plan_keeps tasks new known whole (reached goals seen) count e)

  pub beside_keeps : (tasks new : List Task) (task : Task) (known : ℕ) (whole : Node) (goals : List Node) (seen : Known) → task ≡ Beside whole → known ≡ length seen
      → new ≡ tasks ++ Withhold known ∷ Grade whole ∷ [] → Keeps declared modes types (tasks ++ task ∷ []) (reached goals seen) new (reached goals seen)
  beside_keeps tasks new task known whole goals seen is count e =
      subst (λ t. Keeps declared modes types (tasks ++ t ∷ []) (reached goals seen) new (reached goals seen)) (sym is)
      (replaced_keeps tasks new (Withhold known ∷ Grade whole ∷ []) (Beside whole) (reached goals seen) (reached goals seen) e (λ fits. (tt, (fits, tt)))
      (ap (λ k. after_all declared modes types (Withhold k ∷ Grade whole ∷ []) (reached goals seen)) count ∙ beside_run declared modes types whole (reached goals seen)))

  pub withhold_keeps : (tasks : List Task) (task : Task) (count : ℕ) (goals : List Node) (seen now : Known) → task ≡ Withhold count
      → now ≡ (if last_has_none goals then back_to count seen else seen) → Keeps declared modes types (tasks ++ task ∷ []) (reached goals seen) tasks (reached goals now)
  withhold_keeps tasks task count goals seen now is e =
      subst (λ t. Keeps declared modes types (tasks ++ t ∷ []) (reached goals seen) tasks (reached goals now)) (sym is)
      (rest_keeps tasks (Withhold count) (reached goals seen) (reached goals now) (λ fits. ap (reached goals) e))

  pub recall_keeps : (tasks new : List Task) (task : Task) (whole : Node) (goals : List Node) (seen : Known) → task ≡ Recall whole
      → new ≡ tasks ++ (if last_has_none goals then Tell whole ∷ [] else []) → Keeps declared modes types (tasks ++ task ∷ []) (reached goals seen) new (reached goals seen)
  recall_keeps tasks new task whole goals seen is e =
      subst (λ t. Keeps declared modes types (tasks ++ t ∷ []) (reached goals seen) new (reached goals seen)) (sym is)
      (replaced_keeps tasks new (if last_has_none goals then Tell whole ∷ [] else []) (Recall whole) (reached goals seen) (reached goals seen) e
      (λ fits. recalled_fit declared types (last_has_none goals) whole) (recalled_run declared modes types (last_has_none goals) whole (reached goals seen)))

  pub tell_keeps : (tasks new : List Task) (task : Task) (whole : Node) (goals : List Node) (seen now : Known) → task ≡ Tell whole
      → now ≡ known_behind_root (root_of (goal_of whole)) seen → new ≡ tasks ++ inner_tells (goal_of whole)
      → Keeps declared modes types (tasks ++ task ∷ []) (reached goals seen) new (reached goals now)
  tell_keeps tasks new task whole goals seen now is told e =
      subst (λ t. Keeps declared modes types (tasks ++ t ∷ []) (reached goals seen) new (reached goals now)) (sym is)
      (replaced_keeps tasks new (inner_tells (goal_of whole)) (Tell whole) (reached goals seen) (reached goals now) e (λ fits. inner_tell_fit declared types (goal_of whole))
      (ap (λ k. after_all declared modes types (inner_tells (goal_of whole)) (reached goals k)) told ∙ tells_run declared modes types whole seen goals))

  pub learn_keeps : (tasks : List Task) (task : Task) (variable : ℕ) (symbol : Symbol) (goals : List Node) (seen now : Known) → task ≡ Learn variable symbol
      → now ≡ (variable, symbol) ∷ seen → Keeps declared modes types (tasks ++ task ∷ []) (reached goals seen) tasks (reached goals now)
  learn_keeps tasks task variable symbol goals seen now is e =
      subst (λ t. Keeps declared modes types (tasks ++ t ∷ []) (reached goals seen) tasks (reached goals now)) (sym is)
      (rest_keeps tasks (Learn variable symbol) (reached goals seen) (reached goals now) (λ fits. ap (reached goals) e))

  pub forget_keeps : (tasks : List Task) (task : Task) (count : ℕ) (goals : List Node) (seen now : Known) → task ≡ Forget count
      → now ≡ back_to count seen → Keeps declared modes types (tasks ++ task ∷ []) (reached goals seen) tasks (reached goals now)
  forget_keeps tasks task count goals seen now is e =
      subst (λ t. Keeps declared modes types (tasks ++ t ∷ []) (reached goals seen) tasks (reached goals now)) (sym is)
      (rest_keeps tasks (Forget count) (reached goals seen) (reached goals now) (λ fits. ap (reached goals) e))

  pub close_keeps : (tasks : List Task) (task : Task) (whole : Node) (goals new : List Node) (seen now : Known) → task ≡ Close whole
      → (Fits declared types whole → new ≡ closed declared modes types seen whole goals) → now ≡ known_behind_root (root_of (goal_of whole)) seen
      → Keeps declared modes types (tasks ++ task ∷ []) (reached goals seen) tasks (reached new now)
  close_keeps tasks task whole goals new seen now is made e =
      subst (λ t. Keeps declared modes types (tasks ++ t ∷ []) (reached goals seen) tasks (reached new now)) (sym is)
      (rest_keeps tasks (Close whole) (reached goals seen) (reached new now)
      (λ fits. ap (λ l. reached l now) (made fits) ∙ ap (reached (closed declared modes types seen whole goals)) e))

-- what holds where there is a result
pub both_ok : {E P Q R : Type 0} (result : Result (Unit {0}) E) → (P → Q → R) → OnOk result P → OnOk result Q → OnOk result R
both_ok (Ok done) f p q = f p q
both_ok (Err fault) f p q = tt

-- a task and those before it lead where they lead without it

pub leads_on : (declared : List TypeDef) (modes : ℕ → List ModeDecl) (types : ℕ → TypeExpr) (first tasks left later : List Task) (task : Task) (from at to : Progress)
    → tasks ≡ left ++ task ∷ [] → Leads declared modes types first from tasks at → Keeps declared modes types (left ++ task ∷ []) at later to
    → Leads declared modes types first from later to
leads_on declared modes types first tasks left later task from at to e leads keeps =
    let next = keeps (subst (TasksFit declared types) e leads.fit) in
    record { fit = next.fit; same = next.same ∙ ap (λ l. after_all declared modes types l at) (sym e) ∙ leads.same }
