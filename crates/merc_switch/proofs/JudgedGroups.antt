-- Disjuncts taken apart into tasks become what they have to.
use Rattle.std.specs.Prelude.{◌≡◌, ◌≤◌, ◌<◌, ℕ, zero, suc, ◌+◌, ◌-◌, Bool, ◌||◌, ◌==◌, ◌&&◌, not, List, [], ◌∷◌, ◌++◌, length, map, Option, Some, None, true, false, refl}
use Rattle.std.specs.List.{AllByRecursion, filter, list_all}
use Rattle.std.proofs.Common.{◌∙◌, ap, sym, subst, arith}
use Rattle.std.proofs.lemmas.List.{length-map, append_assoc, append-nil}
use mathlib.Core.Path.{fun_ext}
use Rattle.merc_base.specs.declared.place.Span.{Span}
use Rattle.merc_tree.specs.Types.{TypeExpr}
use Rattle.merc_tree.specs.declared.declarations.TypeDef.{TypeDef}
use Rattle.merc_goal_tree.specs.declared.goal.Symbol.{Symbol}
use Rattle.merc_graded_tree.specs.declared.entries.Label.{Label}
use Rattle.merc_graded_tree.specs.declared.entries.Root.TheVariants.{Disjunction as DisjunctionRoot, Switch as SwitchRoot}
use Rattle.merc_graded_tree.specs.Nodes.{Node, node, Goal, Disjunction, Switch, nodes_of, Arms, more_arms, outputs_of, span_of}
use Rattle.merc_graded_tree.specs.Roots.{arity_of, arms_of}
use Rattle.merc_graded_tree.specs.Variables.{in_node, in_nodes}
use Rattle.merc_order.specs.Bound.{Bound, among}
use Rattle.merc_grading.specs.Fitting.{Fits}
use Rattle.merc_grading.specs.Switches.{Group as Arm, symbol_at, is_there, split_variables, least, or_else, is_complete, choice, grouped, switched, arm_body, arms_of_groups, regrouped, find}
use Rattle.merc_switch.specs.declared.tasks.Group.{Group}
use Rattle.merc_switch.specs.declared.tasks.Task.{Task}
use Rattle.merc_switch.specs.declared.tasks.Task.TheVariants.{Judge, Close}
use Rattle.merc_switch_choice.specs.Variables.{behind, all_behind}
use Rattle.merc_switch_choice.specs.Choosing.{chosen}
use Rattle.merc_switch_choice.specs.Arms.{AreArms}
use Rattle.merc_switch.specs.Selections.{Selection}
use Rattle.merc_switch.specs.Tasks.{HaveEnough, effort, load, task_effort, total, found_in, judged, done, FitsTask, Performs}
use Rattle.merc_switch.specs.Plans.{finds, disjunction_plan, arm_plan, arm_plans, switch_plan, group_plan, choice_left}
use Rattle.merc_switch.proofs.FoundBeginnings.{found_beginning}
use Rattle.merc_switch.proofs.FoundGroups.{choice_kept, changed, grouped_kept}
use Rattle.merc_switch.proofs.FoundVariables.{in_found}
use Rattle.merc_switch_choice.proofs.GroupLaws.{grouped_filled, grouped_all, weigh, weigh_groups, weigh_grouped}
use Rattle.merc_switch_choice.proofs.ChoiceLaws.{choice_is}
use Rattle.merc_switch_choice.proofs.Members.{or_false, or_true, among-behind, among-all_behind}
use Rattle.merc_switch.proofs.Steps.{total-append, done_closed}

-- only which variables are used counts, in any order

pub or_turned : (a b : Bool) → (a || b) ≡ (b || a)
or_turned true b = sym (or_true b)
or_turned false b = sym (or_false b)

used_same : (used : List ℕ) (v : ℕ) → among (behind (all_behind [] used) v) ≡ among (v ∷ used)
used_same used v = fun_ext (λ w. among-behind (all_behind [] used) v w ∙ ap (λ b. b || (w == v)) (among-all_behind [] used w) ∙ or_turned (among used w) (w == v))

more_used : (v : ℕ) (one other : List ℕ) → among one ≡ among other → among (v ∷ one) ≡ among (v ∷ other)
more_used v one other same = ap (λ (u : Bound). λ w. (w == v) || u w) same

module _ (declared : List TypeDef) (types : ℕ → TypeExpr) where
  choice_used : (bound : Bound) (one other : List ℕ) (disjuncts : List Node) → among one ≡ among other → choice declared types bound one disjuncts ≡ choice declared types bound other disjuncts
  choice_used bound one other disjuncts same =
      ap (λ (u : Bound). let open_ones = filter (λ v. not (u v) && (bound v && list_all (λ d. is_there (symbol_at v d)) disjuncts)) (split_variables disjuncts) in
      or_else (least (filter (λ v. is_complete declared types disjuncts v) open_ones)) (least open_ones)) same

  pub regrouped_used : (left : ℕ) (outputs : List ℕ) (span : Span) (bound : Bound) (one other : List ℕ) → among one ≡ among other → (disjuncts : List Node)
      → regrouped declared types left outputs span bound one disjuncts ≡ regrouped declared types left outputs span bound other disjuncts
  regrouped_used zero outputs span bound one other same disjuncts = refl
  regrouped_used (suc left) outputs span bound one other same disjuncts =
      let switch : (ℕ → List Node → Goal) → ℕ → Goal = λ again variable. Switch variable (arms_of_groups declared types (arm_body declared types outputs span (again variable)) (grouped variable disjuncts)) in
      ap (λ o. switched declared types o (switch (λ v several. regrouped declared types left outputs span bound (v ∷ one) several)) disjuncts) (choice_used bound one other disjuncts same)
      ∙ ap (λ (again : ℕ → List Node → Goal). switched declared types (choice declared types bound other disjuncts) (switch again) disjuncts)
      (fun_ext (λ v. fun_ext (λ several. regrouped_used left outputs span bound (v ∷ one) (v ∷ other) (more_used v one other same) several)))

  in_all_found : (bound : Bound) (goals : List Node) (variable : ℕ) → in_nodes (nodes_of (found_in declared types bound goals)) variable ≡ in_nodes (nodes_of goals) variable
  in_all_found bound [] variable = refl
  in_all_found bound (first ∷ rest) variable =
      ap (λ b. b || in_nodes (nodes_of (found_in declared types bound rest)) variable) (in_found declared types bound first variable)
      ∙ ap (λ b. in_node first variable || b) (in_all_found bound rest variable)

  -- the goal that an arm becomes
  abbrev arm_found : Bound → Node → List ℕ → ℕ → ℕ → List Node → Node
  arm_found bound whole used left variable (only ∷ []) = find declared types bound only
  arm_found bound whole used left variable disjuncts = judged declared types bound (record {
    selected = record { whole = whole; disjuncts = disjuncts };
    used = behind (all_behind [] used) variable;
    left = left - 1;
    outputs = filter (λ output. in_nodes (nodes_of disjuncts) output) (outputs_of whole);
    category = None;
  })

  abbrev again : Bound → Node → List ℕ → ℕ → ℕ → List Node → Goal
  again bound whole used left variable several = regrouped declared types left (outputs_of whole) (span_of whole) bound (variable ∷ used) several

  several_is : (bound : Bound) (whole : Node) (used : List ℕ) (left variable : ℕ) (disjuncts : List Node)
      → node (regrouped declared types (suc left - 1) (outputs_of whole) (span_of whole) bound (behind (all_behind [] used) variable) (found_in declared types bound disjuncts))
      (filter (λ output. in_nodes (nodes_of disjuncts) output) (outputs_of whole)) None (span_of whole)
      ≡ node (again bound whole used left variable (found_in declared types bound disjuncts)) (filter (λ output. in_nodes (nodes_of (found_in declared types bound disjuncts)) output) (outputs_of whole)) None (span_of whole)
  several_is bound whole used left variable disjuncts =
      let found = found_in declared types bound disjuncts in
      let kept : (ℕ → Bool) → List ℕ = λ p. filter p (outputs_of whole) in
      ap (λ n. node (regrouped declared types n (outputs_of whole) (span_of whole) bound (behind (all_behind [] used) variable) found) (kept (λ output. in_nodes (nodes_of disjuncts) output)) None (span_of whole)) (omega arith)
      ∙ ap (λ g. node g (kept (λ output. in_nodes (nodes_of disjuncts) output)) None (span_of whole))
      (regrouped_used left (outputs_of whole) (span_of whole) bound (behind (all_behind [] used) variable) (variable ∷ used) (used_same used variable) found)
      ∙ ap (λ (p : ℕ → Bool). node (again bound whole used left variable found) (kept p) None (span_of whole)) (fun_ext (λ output. sym (in_all_found bound disjuncts output)))

  arm_is : (bound : Bound) (whole : Node) (used : List ℕ) (left variable : ℕ) (disjuncts : List Node)
      → arm_found bound whole used (suc left) variable disjuncts
      ≡ arm_body declared types (outputs_of whole) (span_of whole) (again bound whole used left variable) (found_in declared types bound disjuncts)
  arm_is bound whole used left variable [] = several_is bound whole used left variable []
  arm_is bound whole used left variable (only ∷ []) = refl
  arm_is bound whole used left variable (first ∷ second ∷ rest) = several_is bound whole used left variable (first ∷ second ∷ rest)

  arms_are : (bound : Bound) (whole : Node) (used : List ℕ) (left variable : ℕ) (arms : List Arm)
      → arms_of (map (λ arm. arm.0) arms) (map (λ arm. arm_found bound whole used (suc left) variable arm.1) arms)
      ≡ arms_of_groups declared types (arm_body declared types (outputs_of whole) (span_of whole) (again bound whole used left variable)) (map (changed (λ goal. find declared types bound goal) (found_beginning declared types bound)) arms)
  arms_are bound whole used left variable [] = refl
  arms_are bound whole used left variable (arm ∷ arms) =
      ap (λ n. more_arms arm.0 n (arms_of (map (λ arm. arm.0) arms) (map (λ arm. arm_found bound whole used (suc left) variable arm.1) arms))) (arm_is bound whole used left variable arm.1)
      ∙ ap (λ l. more_arms arm.0 (arm_body declared types (outputs_of whole) (span_of whole) (again bound whole used left variable) (found_in declared types bound arm.1)) l) (arms_are bound whole used left variable arms)

  -- tasks that each put one goal behind the others

  done_finds : (goals : List Node) (rest : List Task) (before : List Node) (bound : List ℕ)
      → done declared types (finds goals ++ rest) before bound ≡ done declared types rest (before ++ found_in declared types (among bound) goals) bound
  done_finds [] rest before bound = ap (λ l. done declared types rest l bound) (sym (append-nil before))
  done_finds (first ∷ goals) rest before bound =
      let one = find declared types (among bound) first in
      done_finds goals rest (before ++ one ∷ []) bound ∙ ap (λ l. done declared types rest l bound) (append_assoc before (one ∷ []) (found_in declared types (among bound) goals))

  done_arm : (whole : Node) (used : List ℕ) (left variable : ℕ) (disjuncts : List Node) (rest : List Task) (before : List Node) (bound : List ℕ)
      → done declared types (arm_plan whole used left variable disjuncts ∷ rest) before bound ≡ done declared types rest (before ++ arm_found (among bound) whole used left variable disjuncts ∷ []) bound
  done_arm whole used left variable [] rest before bound = refl
  done_arm whole used left variable (only ∷ []) rest before bound = refl
  done_arm whole used left variable (first ∷ second ∷ others) rest before bound = refl

  done_arms : (whole : Node) (used : List ℕ) (left variable : ℕ) (arms : List Arm) (rest : List Task) (before : List Node) (bound : List ℕ)
      → done declared types (map (λ arm. arm_plan whole used left variable arm.1) arms ++ rest) before bound
      ≡ done declared types rest (before ++ map (λ arm. arm_found (among bound) whole used left variable arm.1) arms) bound
  done_arms whole used left variable [] rest before bound = ap (λ l. done declared types rest l bound) (sym (append-nil before))
  done_arms whole used left variable (arm ∷ arms) rest before bound =
      let one = arm_found (among bound) whole used left variable arm.1 in
      done_arm whole used left variable arm.1 (map (λ arm. arm_plan whole used left variable arm.1) arms ++ rest) before bound
      ∙ done_arms whole used left variable arms rest (before ++ one ∷ []) bound
      ∙ ap (λ l. done declared types rest l bound) (append_assoc before (one ∷ []) (map (λ arm. arm_found (among bound) whole used left variable arm.1) arms))

  -- disjuncts that are no switch
  abbrev as_disjunction : Bound → Group → Node
  as_disjunction bound group = node (Disjunction (nodes_of (found_in declared types bound group.selected.disjuncts))) group.outputs group.category (span_of group.selected.whole)

  pub done_disjunction : (group : Group) (rest : List Task) (before : List Node) (bound : List ℕ)
      → done declared types (disjunction_plan group ++ rest) before bound ≡ done declared types rest (before ++ as_disjunction (among bound) group ∷ []) bound
  done_disjunction group rest before bound =
      let label : Label = record { root = DisjunctionRoot (length group.selected.disjuncts); outputs = group.outputs; category = group.category; span = span_of group.selected.whole } in
      ap (λ l. done declared types l before bound) (append_assoc (finds group.selected.disjuncts) (Close label ∷ []) rest)
      ∙ done_finds group.selected.disjuncts (Close label ∷ rest) before bound
      ∙ done_closed declared types label (found_in declared types (among bound) group.selected.disjuncts) rest before bound (sym (length-map group.selected.disjuncts (λ goal. find declared types (among bound) goal)))

  plain_is : (left : ℕ) (outputs : List ℕ) (span : Span) (bound : Bound) (used : List ℕ) (disjuncts : List Node) → AllByRecursion (Fits declared types) disjuncts
      → choice_left left (chosen declared bound used disjuncts) ≡ None
      → regrouped declared types left outputs span bound used (found_in declared types bound disjuncts) ≡ Disjunction (nodes_of (found_in declared types bound disjuncts))
  plain_is zero outputs span bound used disjuncts fits none = refl
  plain_is (suc left) outputs span bound used disjuncts fits none =
      let found = found_in declared types bound disjuncts in
      ap (λ o. switched declared types o (λ v. Switch v (arms_of_groups declared types (arm_body declared types outputs span (λ several. regrouped declared types left outputs span bound (v ∷ used) several)) (grouped v found))) found)
      (choice_kept (λ goal. find declared types bound goal) (found_beginning declared types bound) declared types bound used disjuncts ∙ choice_is declared types bound used disjuncts fits ∙ none)

  -- disjuncts that are a switch
  abbrev as_arms : Bound → Group → ℕ → Arms
  as_arms bound group variable =
      let arms = grouped variable group.selected.disjuncts in
      arms_of (map (λ arm. arm.0) arms) (map (λ arm. arm_found bound group.selected.whole group.used group.left variable arm.1) arms)

  no_choice : {A : Type 0} {v : ℕ} → ◌≡◌ {A = Option ℕ} None (Some v) → A
  no_choice h = absurd (cc)

  switch_is : (left : ℕ) (whole : Node) (bound : Bound) (used : List ℕ) (disjuncts : List Node) (variable : ℕ) → AllByRecursion (Fits declared types) disjuncts
      → choice_left left (chosen declared bound used disjuncts) ≡ Some variable
      → regrouped declared types left (outputs_of whole) (span_of whole) bound used (found_in declared types bound disjuncts)
      ≡ Switch variable (arms_of (map (λ arm. arm.0) (grouped variable disjuncts)) (map (λ arm. arm_found bound whole used left variable arm.1) (grouped variable disjuncts)))
  switch_is zero whole bound used disjuncts variable fits some = no_choice some
  switch_is (suc left) whole bound used disjuncts variable fits some =
      let found = found_in declared types bound disjuncts in
      let body : ℕ → List Node → Node = λ v. arm_body declared types (outputs_of whole) (span_of whole) (again bound whole used left v) in
      ap (λ o. switched declared types o (λ v. Switch v (arms_of_groups declared types (body v) (grouped v found))) found)
      (choice_kept (λ goal. find declared types bound goal) (found_beginning declared types bound) declared types bound used disjuncts ∙ choice_is declared types bound used disjuncts fits ∙ some)
      ∙ ap (λ l. Switch variable (arms_of_groups declared types (body variable) l)) (grouped_kept (λ goal. find declared types bound goal) (found_beginning declared types bound) variable disjuncts)
      ∙ ap (λ l. Switch variable l) (sym (arms_are bound whole used left variable (grouped variable disjuncts)))

  done_switch : (group : Group) (variable : ℕ) (rest : List Task) (before : List Node) (bound : List ℕ)
      → done declared types (switch_plan variable group ++ rest) before bound
      ≡ done declared types rest (before ++ node (Switch variable (as_arms (among bound) group variable)) group.outputs group.category (span_of group.selected.whole) ∷ []) bound
  done_switch group variable rest before bound =
      let arms = grouped variable group.selected.disjuncts in
      let label : Label = record { root = SwitchRoot variable (map (λ arm. arm.0) arms); outputs = group.outputs; category = group.category; span = span_of group.selected.whole } in
      let found = map (λ arm. arm_found (among bound) group.selected.whole group.used group.left variable arm.1) arms in
      ap (λ l. done declared types l before bound) (append_assoc (arm_plans variable group arms) (Close label ∷ []) rest)
      ∙ done_arms group.selected.whole group.used group.left variable arms (Close label ∷ rest) before bound
      ∙ done_closed declared types label found rest before bound
      (length-map arms (λ arm. arm.0) ∙ sym (length-map arms (λ arm. arm_found (among bound) group.selected.whole group.used group.left variable arm.1)))

  done_group_as : (group : Group) (choice_is : Option ℕ) (rest : List Task) (before : List Node) (bound : List ℕ) → AllByRecursion (Fits declared types) group.selected.disjuncts
      → choice_left group.left (chosen declared (among bound) group.used group.selected.disjuncts) ≡ choice_is
      → done declared types (group_plan choice_is group ++ rest) before bound ≡ done declared types rest (before ++ judged declared types (among bound) group ∷ []) bound
  done_group_as group None rest before bound fits none =
      done_disjunction group rest before bound
      ∙ ap (λ g. done declared types rest (before ++ node g group.outputs group.category (span_of group.selected.whole) ∷ []) bound)
      (sym (plain_is group.left (outputs_of group.selected.whole) (span_of group.selected.whole) (among bound) group.used group.selected.disjuncts fits none))
  done_group_as group (Some variable) rest before bound fits some =
      done_switch group variable rest before bound
      ∙ ap (λ g. done declared types rest (before ++ node g group.outputs group.category (span_of group.selected.whole) ∷ []) bound)
      (sym (switch_is group.left group.selected.whole (among bound) group.used group.selected.disjuncts variable fits some))

  -- symbols that fit

  fits_finds : (goals : List Node) (rest : List Task) → AllByRecursion (Fits declared types) goals → AllByRecursion (FitsTask declared types) rest → AllByRecursion (FitsTask declared types) (finds goals ++ rest)
  fits_finds [] rest fits others = others
  fits_finds (first ∷ goals) rest fits others = (fits.0, fits_finds goals rest fits.1 others)

  fits_arm : (whole : Node) (used : List ℕ) (left variable : ℕ) (disjuncts : List Node) → AllByRecursion (Fits declared types) disjuncts → FitsTask declared types (arm_plan whole used left variable disjuncts)
  fits_arm whole used left variable [] fits = tt
  fits_arm whole used left variable (only ∷ []) fits = fits.0
  fits_arm whole used left variable (first ∷ second ∷ rest) fits = fits

  fits_arms : (whole : Node) (used : List ℕ) (left variable : ℕ) (arms : List Arm) (rest : List Task) → AllByRecursion (λ (arm : Arm). AllByRecursion (Fits declared types) arm.1) arms
      → AllByRecursion (FitsTask declared types) rest → AllByRecursion (FitsTask declared types) (map (λ arm. arm_plan whole used left variable arm.1) arms ++ rest)
  fits_arms whole used left variable [] rest fits others = others
  fits_arms whole used left variable (arm ∷ arms) rest fits others = (fits_arm whole used left variable arm.1 fits.0, fits_arms whole used left variable arms rest fits.1 others)

  fits_group : (group : Group) (choice_is : Option ℕ) (rest : List Task) → AllByRecursion (Fits declared types) group.selected.disjuncts → AllByRecursion (FitsTask declared types) rest
      → AllByRecursion (FitsTask declared types) (group_plan choice_is group ++ rest)
  fits_group group None rest fits others =
      let label : Label = record { root = DisjunctionRoot (length group.selected.disjuncts); outputs = group.outputs; category = group.category; span = span_of group.selected.whole } in
      subst (λ l. AllByRecursion (FitsTask declared types) l) (sym (append_assoc (finds group.selected.disjuncts) (Close label ∷ []) rest)) (fits_finds group.selected.disjuncts (Close label ∷ rest) fits (tt, others))
  fits_group group (Some variable) rest fits others =
      let arms = grouped variable group.selected.disjuncts in
      let label : Label = record { root = SwitchRoot variable (map (λ arm. arm.0) arms); outputs = group.outputs; category = group.category; span = span_of group.selected.whole } in
      subst (λ l. AllByRecursion (FitsTask declared types) l) (sym (append_assoc (arm_plans variable group arms) (Close label ∷ []) rest))
      (fits_arms group.selected.whole group.used group.left variable arms (Close label ∷ rest) (grouped_all (Fits declared types) variable group.selected.disjuncts fits) (tt, others))

-- goals that tasks need

enough_finds : (goals : List Node) (rest : List Task) (count : ℕ) → HaveEnough (count + length goals) rest → HaveEnough count (finds goals ++ rest)
enough_finds [] rest count h = subst (λ n. HaveEnough n rest) (omega arith) h
enough_finds (first ∷ goals) rest count h = enough_finds goals rest (suc count) (subst (λ n. HaveEnough n rest) (omega arith) h)

enough_arm : (whole : Node) (used : List ℕ) (left variable : ℕ) (disjuncts : List Node) (rest : List Task) (count : ℕ) → HaveEnough (suc count) rest
    → HaveEnough count (arm_plan whole used left variable disjuncts ∷ rest)
enough_arm whole used left variable [] rest count h = h
enough_arm whole used left variable (only ∷ []) rest count h = h
enough_arm whole used left variable (first ∷ second ∷ others) rest count h = h

enough_arms : (whole : Node) (used : List ℕ) (left variable : ℕ) (arms : List Arm) (rest : List Task) (count : ℕ) → HaveEnough (count + length arms) rest
    → HaveEnough count (map (λ arm. arm_plan whole used left variable arm.1) arms ++ rest)
enough_arms whole used left variable [] rest count h = subst (λ n. HaveEnough n rest) (omega arith) h
enough_arms whole used left variable (arm ∷ arms) rest count h =
    enough_arm whole used left variable arm.1 (map (λ arm. arm_plan whole used left variable arm.1) arms ++ rest) count
    (enough_arms whole used left variable arms rest (suc count) (subst (λ n. HaveEnough n rest) (omega arith) h))

enough_closed : (label : Label) (rest : List Task) (count size : ℕ) → arity_of label.root ≡ size → HaveEnough (suc count) rest → HaveEnough (count + size) (Close label ∷ rest)
enough_closed label rest count size is h = (omega arith, subst (λ n. HaveEnough n rest) (omega arith) h)

enough_group : (group : Group) (choice_is : Option ℕ) (rest : List Task) (count : ℕ) → HaveEnough (suc count) rest → HaveEnough count (group_plan choice_is group ++ rest)
enough_group group None rest count h =
    let label : Label = record { root = DisjunctionRoot (length group.selected.disjuncts); outputs = group.outputs; category = group.category; span = span_of group.selected.whole } in
    subst (λ l. HaveEnough count l) (sym (append_assoc (finds group.selected.disjuncts) (Close label ∷ []) rest))
    (enough_finds group.selected.disjuncts (Close label ∷ rest) count (enough_closed label rest count (length group.selected.disjuncts) refl h))
enough_group group (Some variable) rest count h =
    let arms = grouped variable group.selected.disjuncts in
    let label : Label = record { root = SwitchRoot variable (map (λ arm. arm.0) arms); outputs = group.outputs; category = group.category; span = span_of group.selected.whole } in
    subst (λ l. HaveEnough count l) (sym (append_assoc (arm_plans variable group arms) (Close label ∷ []) rest))
    (enough_arms group.selected.whole group.used group.left variable arms (Close label ∷ rest) count (enough_closed label rest count (length arms) (length-map arms (λ arm. arm.0)) h))

-- less is left to do

total_finds : (more : ℕ) (goals : List Node) → total (finds goals) ≤ load more goals
total_finds more [] = omega arith
total_finds more (first ∷ rest) = let h = total_finds more rest in omega arith

load_more : (more : ℕ) (goals : List Node) → load (suc more) goals ≡ load more goals + length goals
load_more more [] = omega arith
load_more more (first ∷ rest) = let h = load_more more rest in omega arith

load_weigh : (more : ℕ) (goals : List Node) → load more goals ≡ weigh (λ goal. more + effort goal) goals
load_weigh more [] = refl
load_weigh more (first ∷ rest) = ap (λ n. (more + effort first) + n) (load_weigh more rest)

arm_effort : (whole : Node) (used : List ℕ) (left variable : ℕ) (disjuncts : List Node) → 0 < length disjuncts → task_effort (arm_plan whole used (suc left) variable disjuncts) ≤ load (suc (suc left)) disjuncts
arm_effort whole used left variable [] some = absurd (omega (arith, some))
arm_effort whole used left variable (only ∷ []) some = omega arith
arm_effort whole used left variable (first ∷ second ∷ rest) some =
    let more = load_more (suc left) (first ∷ second ∷ rest) in
    let same : load (suc (suc left - 1)) (first ∷ second ∷ rest) ≡ load (suc left) (first ∷ second ∷ rest) = ap (λ n. load (suc n) (first ∷ second ∷ rest)) (omega arith) in
    omega arith

arms_effort : (whole : Node) (used : List ℕ) (left variable : ℕ) (arms : List Arm) → AllByRecursion (λ (arm : Arm). 0 < length arm.1) arms
    → total (map (λ arm. arm_plan whole used (suc left) variable arm.1) arms) ≤ weigh_groups (λ goal. suc (suc left) + effort goal) arms
arms_effort whole used left variable [] filled = omega arith
arms_effort whole used left variable (arm ∷ arms) filled =
    let one = arm_effort whole used left variable arm.1 filled.0 in
    let same = load_weigh (suc (suc left)) arm.1 in
    let others = arms_effort whole used left variable arms filled.1 in
    omega arith

switch_effort : (group : Group) (left variable : ℕ) → group.left ≡ suc left → total (switch_plan variable group) < 2 + load (suc group.left) group.selected.disjuncts
switch_effort group left variable is =
    let arms = grouped variable group.selected.disjuncts in
    let label : Label = record { root = SwitchRoot variable (map (λ arm. arm.0) arms); outputs = group.outputs; category = group.category; span = span_of group.selected.whole } in
    let one = total-append (arm_plans variable group arms) (Close label ∷ []) in
    let two : total (arm_plans variable group arms) ≡ total (map (λ arm. arm_plan group.selected.whole group.used (suc left) variable arm.1) arms) = ap (λ n. total (map (λ arm. arm_plan group.selected.whole group.used n variable arm.1) arms)) is in
    let three = arms_effort group.selected.whole group.used left variable arms (grouped_filled variable group.selected.disjuncts) in
    let four = weigh_grouped (λ goal. suc (suc left) + effort goal) variable group.selected.disjuncts in
    let five = load_weigh (suc (suc left)) group.selected.disjuncts in
    let six : load (suc group.left) group.selected.disjuncts ≡ load (suc (suc left)) group.selected.disjuncts = ap (λ n. load (suc n) group.selected.disjuncts) is in
    omega arith

group_effort : (group : Group) (left : ℕ) (chosen_is : Option ℕ) → group.left ≡ left → total (group_plan (choice_left left chosen_is) group) < 2 + load (suc group.left) group.selected.disjuncts
group_effort group zero chosen_is is = plain_effort group
  where
    plain_effort : (g : Group) → total (disjunction_plan g) < 2 + load (suc g.left) g.selected.disjuncts
    plain_effort g =
        let one = total-append (finds g.selected.disjuncts) (Close (record { root = DisjunctionRoot (length g.selected.disjuncts); outputs = g.outputs; category = g.category; span = span_of g.selected.whole }) ∷ []) in
        let two = total_finds (suc g.left) g.selected.disjuncts in
        omega arith
group_effort group (suc left) None is =
    let one = total-append (finds group.selected.disjuncts) (Close (record { root = DisjunctionRoot (length group.selected.disjuncts); outputs = group.outputs; category = group.category; span = span_of group.selected.whole }) ∷ []) in
    let two = total_finds (suc group.left) group.selected.disjuncts in
    omega arith
group_effort group (suc left) (Some variable) is = switch_effort group left variable is

pub judges : (declared : List TypeDef) (group : Group) (rest tasks : List Task) (goals : List Node) (bound : List ℕ)
    → tasks ≡ group_plan (choice_left group.left (chosen declared (among bound) group.used group.selected.disjuncts)) group ++ rest
    → Performs declared (Judge group ∷ rest) goals bound tasks goals bound
judges declared group rest tasks goals bound planned =
    let chosen_is = choice_left group.left (chosen declared (among bound) group.used group.selected.disjuncts) in
    subst (λ l. Performs declared (Judge group ∷ rest) goals bound l goals bound) (sym planned) (record {
      same = λ types fits. sym (done_group_as declared types group chosen_is rest goals bound fits.0 refl);
      fits = λ types fits. fits_group declared types group chosen_is rest fits.0 fits.1;
      enough = λ h. enough_group group chosen_is rest (length goals) h;
      smaller = let one = group_effort group group.left (chosen declared (among bound) group.used group.selected.disjuncts) refl in let two = total-append (group_plan chosen_is group) rest in omega arith;
    })

-- the plan of a switch

map_seconds : (f : List Node → Task) (arms : List Arm) → map f (map (λ arm. arm.1) arms) ≡ map (λ arm. f arm.1) arms
map_seconds f [] = refl
map_seconds f (arm ∷ arms) = ap (λ l. f arm.1 ∷ l) (map_seconds f arms)

abbrev pub switch_label : ℕ → Group → List Symbol → Span → Label
switch_label variable group symbols span = record { root = SwitchRoot variable symbols; outputs = group.outputs; category = group.category; span = span }

pub plans_switch : (variable : ℕ) (group : Group) (symbols symbols' : List Symbol) (arms : List (List Node)) (span : Span) (rest closed tasks : List Task) → AreArms symbols arms (grouped variable group.selected.disjuncts)
    → symbols' ≡ symbols → span ≡ span_of group.selected.whole → closed ≡ Close (switch_label variable group symbols' span) ∷ rest
    → tasks ≡ map (λ disjuncts. arm_plan group.selected.whole group.used group.left variable disjuncts) arms ++ closed → tasks ≡ switch_plan variable group ++ rest
plans_switch variable group symbols symbols' arms span rest closed tasks are same place first put =
    let all = grouped variable group.selected.disjuncts in
    let last : List Symbol → Span → List Task = λ l s. Close (switch_label variable group l s) ∷ rest in
    let arm : List Node → Task = λ disjuncts. arm_plan group.selected.whole group.used group.left variable disjuncts in
    put ∙ ap (λ l. map arm arms ++ l) (first ∙ ap (λ l. last l span) (same ∙ are.symbols_are) ∙ ap (λ s. last (map (λ a. a.0) all) s) place)
    ∙ ap (λ l. map arm l ++ last (map (λ a. a.0) all) (span_of group.selected.whole)) are.groups_are
    ∙ ap (λ l. l ++ last (map (λ a. a.0) all) (span_of group.selected.whole)) (map_seconds arm all)
    ∙ sym (append_assoc (arm_plans variable group all) (Close (switch_label variable group (map (λ a. a.0) all) (span_of group.selected.whole)) ∷ []) rest)

pub several_arm : (whole : Node) (used : List ℕ) (left variable : ℕ) (disjuncts : List Node) → (length disjuncts == 1) ≡ false
    → Judge (record {
      selected = record { whole = whole; disjuncts = disjuncts };
      used = behind (all_behind [] used) variable;
      left = left - 1;
      outputs = filter (λ output. in_nodes (nodes_of disjuncts) output) (outputs_of whole);
      category = None;
    }) ≡ arm_plan whole used left variable disjuncts
several_arm whole used left variable [] several = refl
several_arm whole used left variable (only ∷ []) several = cc
several_arm whole used left variable (first ∷ second ∷ rest) several = refl

-- the parts of the group that several disjuncts become
pub record AreParts (selected : Selection) (used : List ℕ) (left variable : ℕ) (selected' : Selection) (used' : List ℕ) (left' : ℕ) (outputs' : List ℕ) : Type 0 where
  pub selected_is : selected' ≡ selected
  pub used_are : used' ≡ behind (all_behind [] used) variable
  pub left_is : left' ≡ left - 1
  pub outputs_are : outputs' ≡ filter (λ output. in_nodes (nodes_of selected.disjuncts) output) (outputs_of selected.whole)

pub judged_arm : (selected : Selection) (used : List ℕ) (left variable : ℕ) (selected' : Selection) (used' : List ℕ) (left' : ℕ) (outputs' : List ℕ)
    → (length selected.disjuncts == 1) ≡ false → AreParts selected used left variable selected' used' left' outputs'
    → Judge (record { selected = selected'; used = used'; left = left'; outputs = outputs'; category = None }) ≡ arm_plan selected.whole used left variable selected.disjuncts
judged_arm selected used left variable selected' used' left' outputs' several parts =
    let group : Selection → List ℕ → ℕ → List ℕ → Group = λ s u l o. record { selected = s; used = u; left = l; outputs = o; category = None } in
    ap (λ s. Judge (group s used' left' outputs')) parts.selected_is
    ∙ ap (λ u. Judge (group selected u left' outputs')) parts.used_are
    ∙ ap (λ l. Judge (group selected (behind (all_behind [] used) variable) l outputs')) parts.left_is
    ∙ ap (λ o. Judge (group selected (behind (all_behind [] used) variable) (left - 1) o)) parts.outputs_are
    ∙ several_arm selected.whole used left variable selected.disjuncts several

-- the task of a group by its parts
pub judges_parts : (selected selected' : Selection) (used used' : List ℕ) (left left' : ℕ) (outputs outputs' : List ℕ) → selected' ≡ selected → used' ≡ used → left' ≡ left → outputs' ≡ outputs
    → Judge (record { selected = selected'; used = used'; left = left'; outputs = outputs'; category = None }) ≡ Judge (record { selected = selected; used = used; left = left; outputs = outputs; category = None })
judges_parts selected selected' used used' left left' outputs outputs' selected_is used_are left_is outputs_are =
    let group : Selection → List ℕ → ℕ → List ℕ → Group = λ s u l o. record { selected = s; used = u; left = l; outputs = o; category = None } in
    ap (λ s. Judge (group s used' left' outputs')) selected_is ∙ ap (λ u. Judge (group selected u left' outputs')) used_are ∙ ap (λ l. Judge (group selected used l outputs')) left_is
    ∙ ap (λ o. Judge (group selected used left o)) outputs_are
