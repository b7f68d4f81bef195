-- The switches that are found are guarded.
use Rattle.std.proofs.Common.{ℕ, zero, suc, List, [], ◌∷◌, Option, Some, None, length}
use Rattle.std.specs.List.{AllByRecursion}
use Rattle.merc_base.specs.declared.place.Span.{Span}
use Rattle.merc_tree.specs.Types.{TypeExpr}
use Rattle.merc_tree.specs.declared.declarations.TypeDef.{TypeDef}
use Rattle.merc_goal_tree.specs.declared.goal.Symbol.{Symbol}
use Rattle.merc_graded_tree.specs.Nodes.{Node, node, Goal, Basic, Conjunction, Disjunction, Switch, Conditional, Negation, Quantified, Nodes, no_nodes, more_nodes, nodes_of, list_of}
use Rattle.merc_order.specs.Bound.{Bound}
use Rattle.merc_grading.specs.Switches.{Group, split_variables, choice, grouped, switched, arms_of_groups, arm_body, regrouped, bound_behind, find, find_goal, find_all, find_each}
use Rattle.merc_switch_choice.proofs.GroupLaws.{AllIn, grouped_all, AreApart, grouped_apart}
use Rattle.merc_program_laws.specs.Guarding.{Guards, GuardsGoal, EachGuards, EachArmGuards, HasGuards, GoalHasGuards, AllHaveGuards, ArmsHaveGuards}
use Rattle.merc_program_laws.proofs.Groups.{Begin, GroupsBegin, grouped_begin, symbols_apart}
use Rattle.merc_program_laws.proofs.BeginningGuards.{beginning_guards}

each_guards : (x : ℕ) (c : Symbol) (ds : List Node) → AllByRecursion (Guards x c) ds → EachGuards x c (nodes_of ds)
each_guards x c [] all = tt
each_guards x c (d ∷ ds) all = (all.0, each_guards x c ds all.1)

all_have : (ds : List Node) → AllByRecursion HasGuards ds → AllHaveGuards (nodes_of ds)
all_have [] all = tt
all_have (d ∷ ds) all = (all.0, all_have ds all.1)

begin_guards : (x : ℕ) (c : Symbol) (ds : List Node) → Begin x c ds → AllByRecursion (Guards x c) ds
begin_guards x c [] all = tt
begin_guards x c (d ∷ ds) all = (beginning_guards d x c all.0, begin_guards x c ds all.1)

module _ (declared : List TypeDef) (types : ℕ → TypeExpr) where
  -- What each disjunct guards their switch guards, whatever variable it is on.
  module _ (x : ℕ) (c : Symbol) where
    abbrev AllGuard : List Node → Type 0
    AllGuard ds = AllByRecursion (Guards x c) ds

    pub body_guards : (outs : List ℕ) (at : Span) (again : List Node → Goal) → ((ds : List Node) → AllGuard ds → GuardsGoal x c (again ds)) → (ds : List Node) → AllGuard ds
        → Guards x c (arm_body declared types outs at again ds)
    body_guards outs at again inner [] all = inner [] all
    body_guards outs at again inner (d ∷ []) all = all.0
    body_guards outs at again inner (d ∷ e ∷ ds) all = inner (d ∷ e ∷ ds) all

    arms_guard : (body : List Node → Node) → ((ds : List Node) → AllGuard ds → Guards x c (body ds)) → (gs : List Group) → AllIn (Guards x c) gs → EachArmGuards x c (arms_of_groups declared types body gs)
    arms_guard body inner [] all = tt
    arms_guard body inner (g ∷ gs) all = (inner g.1 all.0, arms_guard body inner gs all.1)

    switch_guards : (outs : List ℕ) (at : Span) (again : ℕ → List Node → Goal) → ((y : ℕ) (ds : List Node) → AllGuard ds → GuardsGoal x c (again y ds)) → (ds : List Node) → AllGuard ds → (o : Option ℕ)
        → GuardsGoal x c (switched declared types o (λ y. Switch y (arms_of_groups declared types (arm_body declared types outs at (again y)) (grouped y ds))) ds)
    switch_guards outs at again inner ds all None = each_guards x c ds all
    switch_guards outs at again inner ds all (Some y) =
        arms_guard (arm_body declared types outs at (again y)) (body_guards outs at (again y) (inner y)) (grouped y ds) (grouped_all (Guards x c) y ds all)

    pub regrouped_guards : (left : ℕ) (outs : List ℕ) (at : Span) (bound : Bound) (used : List ℕ) (ds : List Node) → AllGuard ds → GuardsGoal x c (regrouped declared types left outs at bound used ds)
    regrouped_guards zero outs at bound used ds all = each_guards x c ds all
    regrouped_guards (suc left) outs at bound used ds all =
        switch_guards outs at (λ y several. regrouped declared types left outs at bound (y ∷ used) several) (λ y several k. regrouped_guards left outs at bound (y ∷ used) several k) ds all (choice declared types bound used ds)

  -- A switch of disjuncts whose switches are guarded is guarded.
  abbrev AllHave : List Node → Type 0
  AllHave ds = AllByRecursion HasGuards ds

  body_has : (outs : List ℕ) (at : Span) (again : List Node → Goal) → ((ds : List Node) → AllHave ds → GoalHasGuards (again ds)) → (ds : List Node) → AllHave ds → HasGuards (arm_body declared types outs at again ds)
  body_has outs at again inner [] all = inner [] all
  body_has outs at again inner (d ∷ []) all = all.0
  body_has outs at again inner (d ∷ e ∷ ds) all = inner (d ∷ e ∷ ds) all

  arms_have : (body : List Node → Node) (x : ℕ) → ((c : Symbol) (ds : List Node) → AllByRecursion (Guards x c) ds → Guards x c (body ds)) → ((ds : List Node) → AllHave ds → HasGuards (body ds))
      → (gs : List Group) → GroupsBegin x gs → AreApart gs → AllIn HasGuards gs → ArmsHaveGuards x (arms_of_groups declared types body gs)
  arms_have body x guards has [] begin apart all = tt
  arms_have body x guards has (g ∷ gs) begin apart all =
      (guards g.0 g.1 (begin_guards x g.0 g.1 begin.0), symbols_apart declared types body g.0 gs apart.0, has g.1 all.0, arms_have body x guards has gs begin.1 apart.1 all.1)

  switch_has : (outs : List ℕ) (at : Span) (again : ℕ → List Node → Goal) → ((x y : ℕ) (c : Symbol) (ds : List Node) → AllByRecursion (Guards x c) ds → GuardsGoal x c (again y ds))
      → ((y : ℕ) (ds : List Node) → AllHave ds → GoalHasGuards (again y ds)) → (ds : List Node) → AllHave ds → (o : Option ℕ)
      → GoalHasGuards (switched declared types o (λ y. Switch y (arms_of_groups declared types (arm_body declared types outs at (again y)) (grouped y ds))) ds)
  switch_has outs at again guards inner ds all None = all_have ds all
  switch_has outs at again guards inner ds all (Some y) =
      arms_have (arm_body declared types outs at (again y)) y (λ c several k. body_guards y c outs at (again y) (λ those. guards y y c those) several k) (body_has outs at (again y) (inner y))
      (grouped y ds) (grouped_begin y ds) (grouped_apart y ds) (grouped_all HasGuards y ds all)

  regrouped_has : (left : ℕ) (outs : List ℕ) (at : Span) (bound : Bound) (used : List ℕ) (ds : List Node) → AllHave ds → GoalHasGuards (regrouped declared types left outs at bound used ds)
  regrouped_has zero outs at bound used ds all = all_have ds all
  regrouped_has (suc left) outs at bound used ds all =
      switch_has outs at (λ y several. regrouped declared types left outs at bound (y ∷ used) several) (λ x y c several k. regrouped_guards x c left outs at bound (y ∷ used) several k)
      (λ y several k. regrouped_has left outs at bound (y ∷ used) several k) ds all (choice declared types bound used ds)

  mutual
    pub found_has_guards : (bound : Bound) (m : Node) → HasGuards m → HasGuards (find declared types bound m)
    found_has_guards bound (node g outs c at) has = found_goal_has bound outs at g has

    found_goal_has : (bound : Bound) (outs : List ℕ) (at : Span) (g : Goal) → GoalHasGuards g → GoalHasGuards (find_goal declared types bound outs at g)
    found_goal_has bound outs at (Basic g) has = tt
    found_goal_has bound outs at (Conjunction running ms) has = found_all_have bound ms has
    found_goal_has bound outs at (Disjunction ms) has =
        let ds = list_of (find_each declared types bound ms) in
        regrouped_has (length (split_variables ds)) outs at bound [] ds (found_each_has bound ms has)
    found_goal_has bound outs at (Switch x arms) has = has
    found_goal_has bound outs at (Conditional c t e) has = (found_has_guards bound c has.0, found_has_guards (bound_behind declared types bound c) t has.1, found_has_guards bound e has.2)
    found_goal_has bound outs at (Negation m) has = found_has_guards bound m has
    found_goal_has bound outs at (Quantified own m) has = found_has_guards bound m has

    found_all_have : (bound : Bound) (ms : Nodes) → AllHaveGuards ms → AllHaveGuards (find_all declared types bound ms)
    found_all_have bound no_nodes has = tt
    found_all_have bound (more_nodes m ms) has = (found_has_guards bound m has.0, found_all_have (bound_behind declared types bound m) ms has.1)

    found_each_has : (bound : Bound) (ms : Nodes) → AllHaveGuards ms → AllHave (list_of (find_each declared types bound ms))
    found_each_has bound no_nodes has = tt
    found_each_has bound (more_nodes m ms) has = (found_has_guards bound m has.0, found_each_has bound ms has.1)
