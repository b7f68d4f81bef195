-- A goal without a parallel conjunction has no fault of parallel conjuncts once it has its switches and categories.
use Rattle.std.proofs.Common.{◌≡◌, ℕ, zero, suc, Bool, true, false, not, List, [], ◌∷◌, ◌++◌, length, Option, Some, None, if◌then◌else◌, refl, ap₂}
use Rattle.std.specs.List.{AllByRecursion}
use Rattle.merc_base.specs.declared.refusal.Refusal.{Refusal}
use Rattle.merc_base.specs.declared.place.Span.{Span}
use Rattle.merc_tree.specs.Types.{TypeExpr}
use Rattle.merc_tree.specs.declared.declarations.ModeDecl.{ModeDecl}
use Rattle.merc_tree.specs.declared.declarations.TypeDef.{TypeDef}
use Rattle.merc_goal_tree.specs.declared.goal.Symbol.{Symbol}
use Rattle.merc_graded_tree.specs.declared.entries.Running.{Running}
use Rattle.merc_graded_tree.specs.declared.entries.Running.TheVariants.{Sequential, Parallel}
use Rattle.merc_graded_tree.specs.Nodes.{Node, node, Goal, Basic, Conjunction, Disjunction, Switch, Conditional, Negation, Quantified, Nodes, no_nodes, more_nodes, Arms, no_arms, more_arms, nodes_of, list_of}
use Rattle.merc_order.specs.Bound.{Bound}
use Rattle.merc_grading.specs.Faults.{parallel_faults, goal_faults, all_faults, arm_faults}
use Rattle.merc_grading.specs.Grading.{category_at, handed_on, graded, graded_goal, graded_all, graded_each, graded_arms}
use Rattle.merc_grading.specs.Known.{Known, known_behind, same_symbol}
use Rattle.merc_grading.specs.Switches.{split_variables, symbol_at, Group, of_symbol, without_symbol, with_disjunct, grouped, choice, arm_body, arms_of_groups, switched, regrouped, bound_behind, find, find_goal, find_all, find_each}

abbrev mutual
  -- no part of a goal is a parallel conjunction
  pub HasNoParallel : Node → Type 0
  HasNoParallel (node goal outputs category span) = HasNoParallelIn goal

  HasNoParallelIn : Goal → Type 0
  HasNoParallelIn (Basic goal) = Unit {0}
  HasNoParallelIn (Conjunction Sequential goals) = HaveNoParallel goals
  HasNoParallelIn (Conjunction (Parallel site) goals) = ⊥
  HasNoParallelIn (Disjunction goals) = HaveNoParallel goals
  HasNoParallelIn (Switch variable arms) = ArmsHaveNone arms
  HasNoParallelIn (Conditional condition then_part else_part) = HasNoParallel condition × HasNoParallel then_part × HasNoParallel else_part
  HasNoParallelIn (Negation goal) = HasNoParallel goal
  HasNoParallelIn (Quantified own goal) = HasNoParallel goal

  HaveNoParallel : Nodes → Type 0
  HaveNoParallel no_nodes = Unit {0}
  HaveNoParallel (more_nodes first rest) = HasNoParallel first × HaveNoParallel rest

  ArmsHaveNone : Arms → Type 0
  ArmsHaveNone no_arms = Unit {0}
  ArmsHaveNone (more_arms symbol body rest) = HasNoParallel body × ArmsHaveNone rest

-- no faults on both sides

none_joined : (some others : List Refusal) → some ≡ [] → others ≡ [] → some ++ others ≡ []
none_joined some others none none' = ap₂ (λ (a b : List Refusal). a ++ b) none none'

mutual
  faultless : (tree : Node) → HasNoParallel tree → parallel_faults tree ≡ []
  faultless (node goal outputs category span) none = goal_faultless goal none

  goal_faultless : (goal : Goal) → HasNoParallelIn goal → goal_faults goal ≡ []
  goal_faultless (Basic goal) none = refl
  goal_faultless (Conjunction Sequential goals) none = all_faultless goals none
  goal_faultless (Conjunction (Parallel site) goals) none = absurd none
  goal_faultless (Disjunction goals) none = all_faultless goals none
  goal_faultless (Switch variable arms) none = arms_faultless arms none
  goal_faultless (Conditional condition then_part else_part) none =
      none_joined (parallel_faults condition) (parallel_faults then_part ++ parallel_faults else_part) (faultless condition none.0)
      (none_joined (parallel_faults then_part) (parallel_faults else_part) (faultless then_part none.1) (faultless else_part none.2))
  goal_faultless (Negation goal) none = faultless goal none
  goal_faultless (Quantified own goal) none = faultless goal none

  all_faultless : (goals : Nodes) → HaveNoParallel goals → all_faults goals ≡ []
  all_faultless no_nodes none = refl
  all_faultless (more_nodes first rest) none = none_joined (parallel_faults first) (all_faults rest) (faultless first none.0) (all_faultless rest none.1)

  arms_faultless : (arms : Arms) → ArmsHaveNone arms → arm_faults arms ≡ []
  arms_faultless no_arms none = refl
  arms_faultless (more_arms symbol body rest) none = none_joined (parallel_faults body) (arm_faults rest) (faultless body none.0) (arms_faultless rest none.1)

-- Given are the declared types and the type of each variable.
module _ (declared : List TypeDef) (types : ℕ → TypeExpr) where
  -- categories add no parallel conjunction
  module _ (modes : ℕ → List ModeDecl) where
    mutual
      graded_has_none : (known : Known) (tree : Node) → HasNoParallel tree → HasNoParallel (graded declared modes types known tree)
      graded_has_none known (node goal outputs category span) none = graded_goal_none known goal none

      graded_goal_none : (known : Known) (goal : Goal) → HasNoParallelIn goal → HasNoParallelIn (graded_goal declared modes types known goal)
      graded_goal_none known (Basic goal) none = none
      graded_goal_none known (Conjunction Sequential goals) none = graded_all_none Sequential known goals none
      graded_goal_none known (Conjunction (Parallel site) goals) none = none
      graded_goal_none known (Disjunction goals) none = graded_each_none known goals none
      graded_goal_none known (Switch variable arms) none = graded_arms_none known variable arms none
      graded_goal_none known (Conditional condition then_part else_part) none =
          (graded_has_none known condition none.0, graded_has_none (known_behind condition known) then_part none.1, graded_has_none known else_part none.2)
      graded_goal_none known (Negation goal) none = graded_has_none known goal none
      graded_goal_none known (Quantified own goal) none = graded_has_none known goal none

      graded_all_none : (running : Running) (known : Known) (goals : Nodes) → HaveNoParallel goals → HaveNoParallel (graded_all declared modes types running known goals)
      graded_all_none running known no_nodes none = tt
      graded_all_none running known (more_nodes first rest) none = (
        graded_has_none known first none.0,
        graded_all_none running (handed_on running (category_at (graded declared modes types known first)) (known_behind first known) known) rest none.1,
      )

      graded_each_none : (known : Known) (goals : Nodes) → HaveNoParallel goals → HaveNoParallel (graded_each declared modes types known goals)
      graded_each_none known no_nodes none = tt
      graded_each_none known (more_nodes first rest) none = (graded_has_none known first none.0, graded_each_none known rest none.1)

      graded_arms_none : (known : Known) (variable : ℕ) (arms : Arms) → ArmsHaveNone arms → ArmsHaveNone (graded_arms declared modes types known variable arms)
      graded_arms_none known variable no_arms none = tt
      graded_arms_none known variable (more_arms symbol body rest) none =
          (graded_has_none ((variable, symbol) ∷ known) body none.0, graded_arms_none known variable rest none.1)

  -- switches add none

  abbrev AllHaveNone : List Node → Type 0
  AllHaveNone goals = AllByRecursion HasNoParallel goals

  nodes_have_none : (goals : List Node) → AllHaveNone goals → HaveNoParallel (nodes_of goals)
  nodes_have_none [] none = tt
  nodes_have_none (first ∷ rest) none = (none.0, nodes_have_none rest none.1)

  abbrev GroupsHaveNone : List Group → Type 0
  GroupsHaveNone groups = AllByRecursion (λ (group : Group). AllHaveNone group.1) groups

  of_symbol_none : (symbol : Symbol) (groups : List Group) → GroupsHaveNone groups → AllHaveNone (of_symbol symbol groups)
  of_symbol_none symbol [] none = tt
  of_symbol_none symbol (group ∷ groups) none = by (same_symbol symbol group.0) (of_symbol_none symbol groups none.1)
    where
      by : (b : Bool) → AllHaveNone (of_symbol symbol groups) → AllHaveNone (if b then group.1 else of_symbol symbol groups)
      by true others = none.0
      by false others = others

  without_none : (symbol : Symbol) (groups : List Group) → GroupsHaveNone groups → GroupsHaveNone (without_symbol symbol groups)
  without_none symbol [] none = tt
  without_none symbol (group ∷ groups) none = by (not (same_symbol symbol group.0)) (without_none symbol groups none.1)
    where
      by : (b : Bool) → GroupsHaveNone (without_symbol symbol groups) → GroupsHaveNone (if b then group ∷ without_symbol symbol groups else without_symbol symbol groups)
      by true others = (none.0, others)
      by false others = others

  with_none : (symbol : Option Symbol) (first : Node) (groups : List Group) → HasNoParallel first → GroupsHaveNone groups → GroupsHaveNone (with_disjunct symbol first groups)
  with_none None first groups one none = none
  with_none (Some symbol) first groups one none = ((one, of_symbol_none symbol groups none), without_none symbol groups none)

  grouped_none : (variable : ℕ) (disjuncts : List Node) → AllHaveNone disjuncts → GroupsHaveNone (grouped variable disjuncts)
  grouped_none variable [] none = tt
  grouped_none variable (first ∷ rest) none = with_none (symbol_at variable first) first (grouped variable rest) none.0 (grouped_none variable rest none.1)

  arms_none : (body : List Node → Node) (groups : List Group) → ((disjuncts : List Node) → AllHaveNone disjuncts → HasNoParallel (body disjuncts)) → GroupsHaveNone groups
      → ArmsHaveNone (arms_of_groups declared types body groups)
  arms_none body [] bodies none = tt
  arms_none body (group ∷ groups) bodies none = (bodies group.1 none.0, arms_none body groups bodies none.1)

  body_none : (outputs : List ℕ) (span : Span) (again : List Node → Goal) → ((disjuncts : List Node) → AllHaveNone disjuncts → HasNoParallelIn (again disjuncts)) → (disjuncts : List Node)
      → AllHaveNone disjuncts → HasNoParallel (arm_body declared types outputs span again disjuncts)
  body_none outputs span again inner [] none = inner [] none
  body_none outputs span again inner (only ∷ []) none = none.0
  body_none outputs span again inner (first ∷ second ∷ rest) none = inner (first ∷ second ∷ rest) none

  switch_none : (outputs : List ℕ) (span : Span) (again : ℕ → List Node → Goal) (disjuncts : List Node)
      → ((variable : ℕ) (several : List Node) → AllHaveNone several → HasNoParallelIn (again variable several)) → AllHaveNone disjuncts → (chosen : Option ℕ)
      → HasNoParallelIn (switched declared types chosen (λ variable. Switch variable (arms_of_groups declared types (arm_body declared types outputs span (again variable)) (grouped variable disjuncts))) disjuncts)
  switch_none outputs span again disjuncts inner none None = nodes_have_none disjuncts none
  switch_none outputs span again disjuncts inner none (Some variable) =
      arms_none (arm_body declared types outputs span (again variable)) (grouped variable disjuncts) (body_none outputs span (again variable) (inner variable)) (grouped_none variable disjuncts none)

  regrouped_none : (left : ℕ) (outputs : List ℕ) (span : Span) (bound : Bound) (used : List ℕ) (disjuncts : List Node) → AllHaveNone disjuncts
      → HasNoParallelIn (regrouped declared types left outputs span bound used disjuncts)
  regrouped_none zero outputs span bound used disjuncts none = nodes_have_none disjuncts none
  regrouped_none (suc left) outputs span bound used disjuncts none =
      switch_none outputs span (λ variable several. regrouped declared types left outputs span bound (variable ∷ used) several) disjuncts
      (λ variable several inner. regrouped_none left outputs span bound (variable ∷ used) several inner) none (choice declared types bound used disjuncts)

  mutual
    found_has_none : (bound : Bound) (tree : Node) → HasNoParallel tree → HasNoParallel (find declared types bound tree)
    found_has_none bound (node goal outputs category span) none = found_goal_none bound outputs span goal none

    found_goal_none : (bound : Bound) (outputs : List ℕ) (span : Span) (goal : Goal) → HasNoParallelIn goal → HasNoParallelIn (find_goal declared types bound outputs span goal)
    found_goal_none bound outputs span (Basic goal) none = none
    found_goal_none bound outputs span (Conjunction Sequential goals) none = found_all_none bound goals none
    found_goal_none bound outputs span (Conjunction (Parallel site) goals) none = none
    found_goal_none bound outputs span (Disjunction goals) none =
        regrouped_none (length (split_variables (list_of (find_each declared types bound goals)))) outputs span bound [] (list_of (find_each declared types bound goals)) (found_each_none bound goals none)
    found_goal_none bound outputs span (Switch variable arms) none = none
    found_goal_none bound outputs span (Conditional condition then_part else_part) none =
        (found_has_none bound condition none.0, found_has_none (bound_behind declared types bound condition) then_part none.1, found_has_none bound else_part none.2)
    found_goal_none bound outputs span (Negation goal) none = found_has_none bound goal none
    found_goal_none bound outputs span (Quantified own goal) none = found_has_none bound goal none

    found_all_none : (bound : Bound) (goals : Nodes) → HaveNoParallel goals → HaveNoParallel (find_all declared types bound goals)
    found_all_none bound no_nodes none = tt
    found_all_none bound (more_nodes first rest) none = (found_has_none bound first none.0, found_all_none (bound_behind declared types bound first) rest none.1)

    found_each_none : (bound : Bound) (goals : Nodes) → HaveNoParallel goals → AllHaveNone (list_of (find_each declared types bound goals))
    found_each_none bound no_nodes none = tt
    found_each_none bound (more_nodes first rest) none = (found_has_none bound first none.0, found_each_none bound rest none.1)

  -- so a goal without one has no such fault once it has its switches and categories
  pub finished_faultless : (modes : ℕ → List ModeDecl) (bound : Bound) (tree : Node) → HasNoParallel tree
      → parallel_faults (graded declared modes types [] (find declared types bound tree)) ≡ []
  finished_faultless modes bound tree none =
      let found = find declared types bound tree in
      faultless (graded declared modes types [] found) (graded_has_none modes [] found (found_has_none bound tree none))
