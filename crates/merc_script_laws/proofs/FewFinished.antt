-- Each parallel conjunction has as many conjuncts once its goal has its switches and categories.
use Rattle.std.proofs.Common.{◌≡◌, ℕ, zero, suc, ◌≤◌, not, List, [], ◌∷◌, length, Option, Some, None, refl, ap, sym, subst}
use Rattle.std.specs.List.{AllByRecursion}
use Rattle.merc_base.specs.declared.place.Span.{Span}
use Rattle.merc_tree.specs.Types.{TypeExpr}
use Rattle.merc_tree.specs.declared.declarations.ModeDecl.{ModeDecl}
use Rattle.merc_tree.specs.declared.declarations.TypeDef.{TypeDef}
use Rattle.merc_goal_tree.specs.declared.goal.Symbol.{Symbol}
use Rattle.merc_graded_tree.specs.declared.entries.Running.{Running}
use Rattle.merc_graded_tree.specs.declared.entries.Running.TheVariants.{Sequential, Parallel}
use Rattle.merc_graded_tree.specs.Nodes.{Node, node, Goal, Basic, Conjunction, Disjunction, Switch, Conditional, Negation, Quantified, Nodes, no_nodes, more_nodes, Arms, no_arms, more_arms, nodes_of, list_of}
use Rattle.merc_order.specs.Bound.{Bound}
use Rattle.merc_grading.specs.Grading.{category_at, handed_on, graded, graded_goal, graded_all, graded_each, graded_arms}
use Rattle.merc_grading.specs.Known.{Known, known_behind, same_symbol}
use Rattle.merc_grading.specs.Switches.{split_variables, symbol_at, Group, of_symbol, without_symbol, with_disjunct, grouped, choice, arm_body, arms_of_groups, switched, regrouped, bound_behind, find, find_goal, find_all, find_each}
use Rattle.merc_par_split.specs.Sites.{count}
use Rattle.merc_program_laws.proofs.Lists.{if_holds}
use Rattle.merc_script_laws.specs.Parallel.{most_conjuncts, HasFew, GoalHasFew, AllHaveFew, ArmsHaveFew}

-- as many goals as before
as_many : (goals others : Nodes) → count others ≡ count goals → GoalHasFew (Conjunction (Parallel None) goals) → AllHaveFew others → GoalHasFew (Conjunction (Parallel None) others)
as_many goals others same few each =
    let as_before = sym same in
    (subst (λ number. 1 ≤ number) as_before few.0, (subst (λ number. number ≤ most_conjuncts) as_before few.1.0, each))

-- Given are the declared types and the type of each variable.
module _ (declared : List TypeDef) (types : ℕ → TypeExpr) where
  -- Categories.
  module _ (modes : ℕ → List ModeDecl) where
    -- what is known at the goal of a conjunction behind this one
    abbrev next : Running → Known → Node → Known
    next running known first = handed_on running (category_at (graded declared modes types known first)) (known_behind first known) known

    graded_count : (running : Running) (known : Known) (goals : Nodes) → count (graded_all declared modes types running known goals) ≡ count goals
    graded_count running known no_nodes = refl
    graded_count running known (more_nodes first rest) = ap suc (graded_count running (next running known first) rest)

    mutual
      graded_few : (known : Known) (tree : Node) → HasFew tree → HasFew (graded declared modes types known tree)
      graded_few known (node goal outputs category span) few = graded_goal_few known goal few

      graded_goal_few : (known : Known) (goal : Goal) → GoalHasFew goal → GoalHasFew (graded_goal declared modes types known goal)
      graded_goal_few known (Basic goal) few = few
      graded_goal_few known (Conjunction Sequential goals) few = graded_all_few Sequential known goals few
      graded_goal_few known (Conjunction (Parallel site) goals) few =
          as_many goals (graded_all declared modes types (Parallel site) known goals) (graded_count (Parallel site) known goals) few (graded_all_few (Parallel site) known goals few.1.1)
      graded_goal_few known (Disjunction goals) few = graded_each_few known goals few
      graded_goal_few known (Switch variable arms) few = graded_arms_few known variable arms few
      graded_goal_few known (Conditional condition then_part else_part) few =
          (graded_few known condition few.0, (graded_few (known_behind condition known) then_part few.1.0, graded_few known else_part few.1.1))
      graded_goal_few known (Negation goal) few = graded_few known goal few
      graded_goal_few known (Quantified own goal) few = graded_few known goal few

      graded_all_few : (running : Running) (known : Known) (goals : Nodes) → AllHaveFew goals → AllHaveFew (graded_all declared modes types running known goals)
      graded_all_few running known no_nodes few = tt
      graded_all_few running known (more_nodes first rest) few = (graded_few known first few.0, graded_all_few running (next running known first) rest few.1)

      graded_each_few : (known : Known) (goals : Nodes) → AllHaveFew goals → AllHaveFew (graded_each declared modes types known goals)
      graded_each_few known no_nodes few = tt
      graded_each_few known (more_nodes first rest) few = (graded_few known first few.0, graded_each_few known rest few.1)

      graded_arms_few : (known : Known) (variable : ℕ) (arms : Arms) → ArmsHaveFew arms → ArmsHaveFew (graded_arms declared modes types known variable arms)
      graded_arms_few known variable no_arms few = tt
      graded_arms_few known variable (more_arms symbol body rest) few = (graded_few ((variable, symbol) ∷ known) body few.0, graded_arms_few known variable rest few.1)

  -- Switches.

  abbrev EachHasFew : List Node → Type 0
  EachHasFew goals = AllByRecursion HasFew goals

  nodes_few : (goals : List Node) → EachHasFew goals → AllHaveFew (nodes_of goals)
  nodes_few [] few = tt
  nodes_few (first ∷ rest) few = (few.0, nodes_few rest few.1)

  abbrev GroupsHaveFew : List Group → Type 0
  GroupsHaveFew groups = AllByRecursion (λ (group : Group). EachHasFew group.1) groups

  of_symbol_few : (symbol : Symbol) (groups : List Group) → GroupsHaveFew groups → EachHasFew (of_symbol symbol groups)
  of_symbol_few symbol [] few = tt
  of_symbol_few symbol (group ∷ groups) few = if_holds EachHasFew (same_symbol symbol group.0) group.1 (of_symbol symbol groups) few.0 (of_symbol_few symbol groups few.1)

  without_few : (symbol : Symbol) (groups : List Group) → GroupsHaveFew groups → GroupsHaveFew (without_symbol symbol groups)
  without_few symbol [] few = tt
  without_few symbol (group ∷ groups) few =
      let others = without_few symbol groups few.1 in
      if_holds GroupsHaveFew (not (same_symbol symbol group.0)) (group ∷ without_symbol symbol groups) (without_symbol symbol groups) (few.0, others) others

  with_few : (symbol : Option Symbol) (first : Node) (groups : List Group) → HasFew first → GroupsHaveFew groups → GroupsHaveFew (with_disjunct symbol first groups)
  with_few None first groups one few = few
  with_few (Some symbol) first groups one few = ((one, of_symbol_few symbol groups few), without_few symbol groups few)

  grouped_few : (variable : ℕ) (disjuncts : List Node) → EachHasFew disjuncts → GroupsHaveFew (grouped variable disjuncts)
  grouped_few variable [] few = tt
  grouped_few variable (first ∷ rest) few = with_few (symbol_at variable first) first (grouped variable rest) few.0 (grouped_few variable rest few.1)

  arms_few : (body : List Node → Node) (groups : List Group) → ((disjuncts : List Node) → EachHasFew disjuncts → HasFew (body disjuncts)) → GroupsHaveFew groups
      → ArmsHaveFew (arms_of_groups declared types body groups)
  arms_few body [] bodies few = tt
  arms_few body (group ∷ groups) bodies few = (bodies group.1 few.0, arms_few body groups bodies few.1)

  arm_few : (outputs : List ℕ) (span : Span) (again : List Node → Goal) → ((disjuncts : List Node) → EachHasFew disjuncts → GoalHasFew (again disjuncts)) → (disjuncts : List Node)
      → EachHasFew disjuncts → HasFew (arm_body declared types outputs span again disjuncts)
  arm_few outputs span again inner [] few = inner [] few
  arm_few outputs span again inner (only ∷ []) few = few.0
  arm_few outputs span again inner (first ∷ second ∷ rest) few = inner (first ∷ second ∷ rest) few

  switch_few : (outputs : List ℕ) (span : Span) (again : ℕ → List Node → Goal) (disjuncts : List Node)
      → ((variable : ℕ) (several : List Node) → EachHasFew several → GoalHasFew (again variable several)) → EachHasFew disjuncts → (chosen : Option ℕ)
      → GoalHasFew (switched declared types chosen (λ variable. Switch variable (arms_of_groups declared types (arm_body declared types outputs span (again variable)) (grouped variable disjuncts))) disjuncts)
  switch_few outputs span again disjuncts inner few None = nodes_few disjuncts few
  switch_few outputs span again disjuncts inner few (Some variable) =
      arms_few (arm_body declared types outputs span (again variable)) (grouped variable disjuncts) (arm_few outputs span (again variable) (inner variable)) (grouped_few variable disjuncts few)

  regrouped_few : (left : ℕ) (outputs : List ℕ) (span : Span) (bound : Bound) (used : List ℕ) (disjuncts : List Node) → EachHasFew disjuncts
      → GoalHasFew (regrouped declared types left outputs span bound used disjuncts)
  regrouped_few zero outputs span bound used disjuncts few = nodes_few disjuncts few
  regrouped_few (suc left) outputs span bound used disjuncts few =
      switch_few outputs span (λ variable several. regrouped declared types left outputs span bound (variable ∷ used) several) disjuncts
      (λ variable several inner. regrouped_few left outputs span bound (variable ∷ used) several inner) few (choice declared types bound used disjuncts)

  found_count : (bound : Bound) (goals : Nodes) → count (find_all declared types bound goals) ≡ count goals
  found_count bound no_nodes = refl
  found_count bound (more_nodes first rest) = ap suc (found_count (bound_behind declared types bound first) rest)

  mutual
    found_few : (bound : Bound) (tree : Node) → HasFew tree → HasFew (find declared types bound tree)
    found_few bound (node goal outputs category span) few = found_goal_few bound outputs span goal few

    found_goal_few : (bound : Bound) (outputs : List ℕ) (span : Span) (goal : Goal) → GoalHasFew goal → GoalHasFew (find_goal declared types bound outputs span goal)
    found_goal_few bound outputs span (Basic goal) few = few
    found_goal_few bound outputs span (Conjunction Sequential goals) few = found_all_few bound goals few
    found_goal_few bound outputs span (Conjunction (Parallel site) goals) few =
        as_many goals (find_all declared types bound goals) (found_count bound goals) few (found_all_few bound goals few.1.1)
    found_goal_few bound outputs span (Disjunction goals) few =
        regrouped_few (length (split_variables (list_of (find_each declared types bound goals)))) outputs span bound [] (list_of (find_each declared types bound goals)) (found_each_few bound goals few)
    found_goal_few bound outputs span (Switch variable arms) few = few
    found_goal_few bound outputs span (Conditional condition then_part else_part) few =
        (found_few bound condition few.0, (found_few (bound_behind declared types bound condition) then_part few.1.0, found_few bound else_part few.1.1))
    found_goal_few bound outputs span (Negation goal) few = found_few bound goal few
    found_goal_few bound outputs span (Quantified own goal) few = found_few bound goal few

    found_all_few : (bound : Bound) (goals : Nodes) → AllHaveFew goals → AllHaveFew (find_all declared types bound goals)
    found_all_few bound no_nodes few = tt
    found_all_few bound (more_nodes first rest) few = (found_few bound first few.0, found_all_few (bound_behind declared types bound first) rest few.1)

    found_each_few : (bound : Bound) (goals : Nodes) → AllHaveFew goals → EachHasFew (list_of (find_each declared types bound goals))
    found_each_few bound no_nodes few = tt
    found_each_few bound (more_nodes first rest) few = (found_few bound first few.0, found_each_few bound rest few.1)

  pub finished_few : (modes : ℕ → List ModeDecl) (bound : Bound) (tree : Node) → HasFew tree → HasFew (graded declared modes types [] (find declared types bound tree))
  finished_few modes bound tree few = graded_few modes [] (find declared types bound tree) (found_few bound tree few)
