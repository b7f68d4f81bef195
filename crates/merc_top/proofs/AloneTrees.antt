-- Ordered goals with their switches and categories meet nobody, since waits, signals and sites are put in later.
use Rattle.std.proofs.Common.{◌≡◌, ℕ, zero, suc, ◌+◌, not, List, [], ◌∷◌, length, Option, Some, None, sym, subst}
use Rattle.std.specs.List.{AllByRecursion}
use Rattle.merc_base.specs.declared.place.Span.{Span}
use Rattle.merc_tree.specs.Types.{TypeExpr}
use Rattle.merc_tree.specs.declared.declarations.ModeDecl.{ModeDecl}
use Rattle.merc_tree.specs.declared.declarations.TypeDef.{TypeDef}
use Rattle.merc_goal_tree.specs.Nodes.{Node as WrittenNode}
use Rattle.merc_goal_tree.specs.declared.goal.Symbol.{Symbol}
use Rattle.merc_graded_tree.specs.declared.basic.BasicGoal.{BasicGoal}
use Rattle.merc_graded_tree.specs.declared.basic.BasicGoal.TheVariants.{Split as SplitGoal, Arithmetic, Call}
use Rattle.merc_graded_tree.specs.declared.entries.Running.{Running}
use Rattle.merc_graded_tree.specs.Nodes.{Node, node, Goal, Basic, Conjunction, Disjunction, Switch, Conditional, Negation, Quantified, Nodes, no_nodes, more_nodes, Arms, no_arms, more_arms, nodes_of, list_of}
use Rattle.merc_order.specs.Bound.{Bound}
use Rattle.merc_order.specs.Ordered.{Ordered, Outcome, Ordereds, put, Truth, Failure, Assign, Test, Build, Split, Computed, Compared, Raised, Called, Sequence, Beside, Choice, Decision, Denial, Within, no_goals, more_goals}
use Rattle.merc_order.specs.Procedures.{IsBody, first_fresh}
use Rattle.merc_order.specs.Spelt.{first_of, inputs_at, replaced, spelt, spelt_all, tested_places, tests_of, twins, untested_places, with_tests, written}
use Rattle.merc_grading.specs.Grading.{category_at, handed_on, graded, graded_goal, graded_all, graded_each, graded_arms}
use Rattle.merc_grading.specs.Known.{Known, known_behind, same_symbol}
use Rattle.merc_grading.specs.Switches.{split_variables, symbol_at, Group, of_symbol, without_symbol, with_disjunct, grouped, choice, arm_body, arms_of_groups, switched, regrouped, bound_behind, find, find_goal, find_all, find_each}
use Rattle.merc_course.specs.Alone.{BasicMeetsNobody, GoalMeetsNobody, MeetsNobody, AllMeetNobody, ArmsMeetNobody}
use Rattle.merc_program_laws.proofs.Lists.{if_holds}

-- Given are the modes of each predicate.
module _ (modes : ℕ → List ModeDecl) where
  tests_alone : (at : ℕ) (tested : List ℕ) (span : Span) → AllMeetNobody (tests_of at tested span)
  tests_alone at [] span = tt
  tests_alone at (variable ∷ variables) span = (tt, tests_alone (suc at) variables span)

  tested_alone : (at : ℕ) (goal : BasicGoal) (writes tested outputs : List ℕ) (span : Span) → BasicMeetsNobody goal → MeetsNobody (with_tests at goal writes tested outputs span)
  tested_alone at goal writes [] outputs span alone = alone
  tested_alone at goal writes (first ∷ rest) outputs span alone = (tt, (alone, tests_alone at (first ∷ rest) span))

  mutual
    spelt_alone : (at : ℕ) (goal : Ordered) → MeetsNobody (spelt modes at goal)
    spelt_alone at (put Truth outputs span) = tt
    spelt_alone at (put Failure outputs span) = tt
    spelt_alone at (put (Assign to from) outputs span) = tt
    spelt_alone at (put (Test one other) outputs span) = tt
    spelt_alone at (put (Build whole symbol arguments) outputs span) = tt
    spelt_alone at (put (Split whole symbol arguments tests) outputs span) =
        tested_alone at (SplitGoal whole symbol (replaced at arguments tests)) (untested_places arguments tests) (tested_places arguments tests) outputs span tt
    spelt_alone at (put (Computed operation result left right tests) outputs span) =
        tested_alone at (Arithmetic operation (first_of (replaced at (result ∷ []) tests)) left right) (untested_places (result ∷ []) tests) (tested_places (result ∷ []) tests) outputs span tt
    spelt_alone at (put (Compared comparison left right) outputs span) = tt
    spelt_alone at (put (Raised text) outputs span) = tt
    spelt_alone at (put (Called predicate mode arguments tests) outputs span) =
        tested_alone at (Call (record { predicate = predicate; mode = mode }) (replaced at arguments tests)) (written (inputs_at modes predicate mode) arguments tests)
        (tested_places arguments tests) outputs span tt
    spelt_alone at (put (Sequence goals) outputs span) = (tt, all_spelt_alone at goals)
    spelt_alone at (put (Beside goals) outputs span) = (tt, all_spelt_alone at goals)
    spelt_alone at (put (Choice goals) outputs span) = all_spelt_alone at goals
    spelt_alone at (put (Decision condition then_part else_part) outputs span) = (
      spelt_alone at condition,
      spelt_alone (at + length (twins condition)) then_part,
      spelt_alone (at + length (twins condition) + length (twins then_part)) else_part,
    )
    spelt_alone at (put (Denial goal) outputs span) = spelt_alone at goal
    spelt_alone at (put (Within own goal) outputs span) = spelt_alone at goal

    all_spelt_alone : (at : ℕ) (goals : Ordereds) → AllMeetNobody (spelt_all modes at goals)
    all_spelt_alone at no_goals = tt
    all_spelt_alone at (more_goals first rest) = (spelt_alone at first, all_spelt_alone (at + length (twins first)) rest)

  pub body_alone : (heads : List ℕ) (outcome : Outcome) (goal : WrittenNode) (tree : Node) → IsBody modes heads outcome goal tree → MeetsNobody tree
  body_alone heads outcome goal tree is = subst MeetsNobody (sym is.2) (spelt_alone (first_fresh heads goal) is.0)

-- Given are the declared types and the type of each variable.
module _ (declared : List TypeDef) (types : ℕ → TypeExpr) where
  -- Switches.

  abbrev EachMeetsNobody : List Node → Type 0
  EachMeetsNobody goals = AllByRecursion MeetsNobody goals

  nodes_alone : (goals : List Node) → EachMeetsNobody goals → AllMeetNobody (nodes_of goals)
  nodes_alone [] alone = tt
  nodes_alone (first ∷ rest) alone = (alone.0, nodes_alone rest alone.1)

  abbrev GroupsMeetNobody : List Group → Type 0
  GroupsMeetNobody groups = AllByRecursion (λ (group : Group). EachMeetsNobody group.1) groups

  of_symbol_alone : (symbol : Symbol) (groups : List Group) → GroupsMeetNobody groups → EachMeetsNobody (of_symbol symbol groups)
  of_symbol_alone symbol [] alone = tt
  of_symbol_alone symbol (group ∷ groups) alone =
      if_holds EachMeetsNobody (same_symbol symbol group.0) group.1 (of_symbol symbol groups) alone.0 (of_symbol_alone symbol groups alone.1)

  without_alone : (symbol : Symbol) (groups : List Group) → GroupsMeetNobody groups → GroupsMeetNobody (without_symbol symbol groups)
  without_alone symbol [] alone = tt
  without_alone symbol (group ∷ groups) alone =
      let others = without_alone symbol groups alone.1 in
      if_holds GroupsMeetNobody (not (same_symbol symbol group.0)) (group ∷ without_symbol symbol groups) (without_symbol symbol groups) (alone.0, others) others

  with_alone : (symbol : Option Symbol) (first : Node) (groups : List Group) → MeetsNobody first → GroupsMeetNobody groups → GroupsMeetNobody (with_disjunct symbol first groups)
  with_alone None first groups one alone = alone
  with_alone (Some symbol) first groups one alone = ((one, of_symbol_alone symbol groups alone), without_alone symbol groups alone)

  grouped_alone : (variable : ℕ) (disjuncts : List Node) → EachMeetsNobody disjuncts → GroupsMeetNobody (grouped variable disjuncts)
  grouped_alone variable [] alone = tt
  grouped_alone variable (first ∷ rest) alone = with_alone (symbol_at variable first) first (grouped variable rest) alone.0 (grouped_alone variable rest alone.1)

  arms_alone : (body : List Node → Node) (groups : List Group) → ((disjuncts : List Node) → EachMeetsNobody disjuncts → MeetsNobody (body disjuncts)) → GroupsMeetNobody groups
      → ArmsMeetNobody (arms_of_groups declared types body groups)
  arms_alone body [] bodies alone = tt
  arms_alone body (group ∷ groups) bodies alone = (bodies group.1 alone.0, arms_alone body groups bodies alone.1)

  arm_alone : (outputs : List ℕ) (span : Span) (again : List Node → Goal) → ((disjuncts : List Node) → EachMeetsNobody disjuncts → GoalMeetsNobody (again disjuncts)) → (disjuncts : List Node)
      → EachMeetsNobody disjuncts → MeetsNobody (arm_body declared types outputs span again disjuncts)
  arm_alone outputs span again inner [] alone = inner [] alone
  arm_alone outputs span again inner (only ∷ []) alone = alone.0
  arm_alone outputs span again inner (first ∷ second ∷ rest) alone = inner (first ∷ second ∷ rest) alone

  switch_alone : (outputs : List ℕ) (span : Span) (again : ℕ → List Node → Goal) (disjuncts : List Node)
      → ((variable : ℕ) (several : List Node) → EachMeetsNobody several → GoalMeetsNobody (again variable several)) → EachMeetsNobody disjuncts → (chosen : Option ℕ)
      → GoalMeetsNobody (switched declared types chosen (λ variable. Switch variable (arms_of_groups declared types (arm_body declared types outputs span (again variable)) (grouped variable disjuncts))) disjuncts)
  switch_alone outputs span again disjuncts inner alone None = nodes_alone disjuncts alone
  switch_alone outputs span again disjuncts inner alone (Some variable) =
      arms_alone (arm_body declared types outputs span (again variable)) (grouped variable disjuncts) (arm_alone outputs span (again variable) (inner variable)) (grouped_alone variable disjuncts alone)

  regrouped_alone : (left : ℕ) (outputs : List ℕ) (span : Span) (bound : Bound) (used : List ℕ) (disjuncts : List Node) → EachMeetsNobody disjuncts
      → GoalMeetsNobody (regrouped declared types left outputs span bound used disjuncts)
  regrouped_alone zero outputs span bound used disjuncts alone = nodes_alone disjuncts alone
  regrouped_alone (suc left) outputs span bound used disjuncts alone =
      switch_alone outputs span (λ variable several. regrouped declared types left outputs span bound (variable ∷ used) several) disjuncts
      (λ variable several inner. regrouped_alone left outputs span bound (variable ∷ used) several inner) alone (choice declared types bound used disjuncts)

  mutual
    found_alone : (bound : Bound) (tree : Node) → MeetsNobody tree → MeetsNobody (find declared types bound tree)
    found_alone bound (node goal outputs category span) alone = found_goal_alone bound outputs span goal alone

    found_goal_alone : (bound : Bound) (outputs : List ℕ) (span : Span) (goal : Goal) → GoalMeetsNobody goal → GoalMeetsNobody (find_goal declared types bound outputs span goal)
    found_goal_alone bound outputs span (Basic goal) alone = alone
    found_goal_alone bound outputs span (Conjunction running goals) alone = (alone.0, found_all_alone bound goals alone.1)
    found_goal_alone bound outputs span (Disjunction goals) alone =
        regrouped_alone (length (split_variables (list_of (find_each declared types bound goals)))) outputs span bound [] (list_of (find_each declared types bound goals)) (found_each_alone bound goals alone)
    found_goal_alone bound outputs span (Switch variable arms) alone = alone
    found_goal_alone bound outputs span (Conditional condition then_part else_part) alone =
        (found_alone bound condition alone.0, found_alone (bound_behind declared types bound condition) then_part alone.1, found_alone bound else_part alone.2)
    found_goal_alone bound outputs span (Negation goal) alone = found_alone bound goal alone
    found_goal_alone bound outputs span (Quantified own goal) alone = found_alone bound goal alone

    found_all_alone : (bound : Bound) (goals : Nodes) → AllMeetNobody goals → AllMeetNobody (find_all declared types bound goals)
    found_all_alone bound no_nodes alone = tt
    found_all_alone bound (more_nodes first rest) alone = (found_alone bound first alone.0, found_all_alone (bound_behind declared types bound first) rest alone.1)

    found_each_alone : (bound : Bound) (goals : Nodes) → AllMeetNobody goals → EachMeetsNobody (list_of (find_each declared types bound goals))
    found_each_alone bound no_nodes alone = tt
    found_each_alone bound (more_nodes first rest) alone = (found_alone bound first alone.0, found_each_alone bound rest alone.1)

  -- Categories.
  module _ (modes : ℕ → List ModeDecl) where
    mutual
      graded_alone : (known : Known) (tree : Node) → MeetsNobody tree → MeetsNobody (graded declared modes types known tree)
      graded_alone known (node goal outputs category span) alone = graded_goal_alone known goal alone

      graded_goal_alone : (known : Known) (goal : Goal) → GoalMeetsNobody goal → GoalMeetsNobody (graded_goal declared modes types known goal)
      graded_goal_alone known (Basic goal) alone = alone
      graded_goal_alone known (Conjunction running goals) alone = (alone.0, graded_all_alone running known goals alone.1)
      graded_goal_alone known (Disjunction goals) alone = graded_each_alone known goals alone
      graded_goal_alone known (Switch variable arms) alone = graded_arms_alone known variable arms alone
      graded_goal_alone known (Conditional condition then_part else_part) alone =
          (graded_alone known condition alone.0, graded_alone (known_behind condition known) then_part alone.1, graded_alone known else_part alone.2)
      graded_goal_alone known (Negation goal) alone = graded_alone known goal alone
      graded_goal_alone known (Quantified own goal) alone = graded_alone known goal alone

      graded_all_alone : (running : Running) (known : Known) (goals : Nodes) → AllMeetNobody goals → AllMeetNobody (graded_all declared modes types running known goals)
      graded_all_alone running known no_nodes alone = tt
      graded_all_alone running known (more_nodes first rest) alone =
          (graded_alone known first alone.0, graded_all_alone running (handed_on running (category_at (graded declared modes types known first)) (known_behind first known) known) rest alone.1)

      graded_each_alone : (known : Known) (goals : Nodes) → AllMeetNobody goals → AllMeetNobody (graded_each declared modes types known goals)
      graded_each_alone known no_nodes alone = tt
      graded_each_alone known (more_nodes first rest) alone = (graded_alone known first alone.0, graded_each_alone known rest alone.1)

      graded_arms_alone : (known : Known) (variable : ℕ) (arms : Arms) → ArmsMeetNobody arms → ArmsMeetNobody (graded_arms declared modes types known variable arms)
      graded_arms_alone known variable no_arms alone = tt
      graded_arms_alone known variable (more_arms symbol body rest) alone = (graded_alone ((variable, symbol) ∷ known) body alone.0, graded_arms_alone known variable rest alone.1)

    pub finished_alone : (bound : Bound) (tree : Node) → MeetsNobody tree → MeetsNobody (graded declared modes types [] (find declared types bound tree))
    finished_alone bound tree alone = graded_alone [] (find declared types bound tree) (found_alone bound tree alone)
