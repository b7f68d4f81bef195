-- With its switches a good goal keeps its outputs.
use Rattle.std.proofs.Common.{◌≡◌, ◌⊎◌, inl, inr, ℕ, zero, suc, Bool, true, false, ◌||◌, ◌&&◌, List, [], ◌∷◌, ◌++◌, length, Option, Some, None, filter, refl, ap, sym, ◌∙◌}
use Rattle.std.specs.List.{AllByRecursion}
use Rattle.merc_base.specs.declared.place.Span.{Span}
use Rattle.merc_tree.specs.Types.{TypeExpr}
use Rattle.merc_tree.specs.declared.declarations.ModeDecl.{ModeDecl}
use Rattle.merc_tree.specs.declared.declarations.TypeDef.{TypeDef}
use Rattle.merc_graded_tree.specs.Nodes.{Node, node, Goal, Basic, Conjunction, Disjunction, Switch, Conditional, Negation, Quantified, Nodes, no_nodes, more_nodes, nodes_of, list_of, outputs_of}
use Rattle.merc_graded_tree.specs.Variables.{in_node, in_nodes}
use Rattle.merc_order.specs.Bound.{Bound, Holds, with, among}
use Rattle.merc_grading.specs.Switches.{Group, split_variables, choice, grouped, switched, arms_of_groups, arm_body, regrouped, bound_behind, find, find_goal, find_all, find_each}
use Rattle.merc_switch_choice.proofs.GroupLaws.{AllIn, grouped_all}
use Rattle.merc_switch.proofs.FoundVariables.{in_found}
use Rattle.merc_order_laws.specs.Bindings.{Variables}
use Rattle.merc_order_laws.specs.GoodTree.{node_ends, some_node_ends, GoodNode, GoodGoal, GoodNodes, GoodDisjuncts}
use Rattle.merc_order_laws.proofs.Facts.{or_left, or_right, and_left, and_right, among_filter}
use Rattle.merc_program_laws.proofs.Regrouped.{StandsFor, regrouped_stands, found_ends, found_outputs}
use Rattle.merc_script_laws.specs.Parallel.{AreWithin, all_outputs, ArmHas, KeepsOutputs, GoalKeepsOutputs, AllKeepOutputs, EachKeepsOutputs, ArmsKeepOutputs}

neither : (a b : Bool) → a ≡ false → b ≡ false → (a || b) ≡ false
neither true b h k = h
neither false b h k = k

both : (a b : Bool) → a ≡ true → b ≡ true → (a && b) ≡ true
both a b h k = cc

module _ (modes : ℕ → List ModeDecl) where
  arm_of_less : (outs fewer : List ℕ) (arm : Node) → AreWithin fewer outs → ArmHas modes outs arm → ArmHas modes fewer arm
  arm_of_less outs fewer arm less (inl h) = inl h
  arm_of_less outs fewer arm less (inr h) = inr (λ v k. h v (less v k))

  -- A disjunct, or the body of an arm, of a goal with these outputs. Its own occur in it.
  record Part (outs : List ℕ) (d : Node) : Type 0 where
    keeps : KeepsOutputs modes d
    has : ArmHas modes outs d
    occurs : Holds (among (outputs_of d)) (in_node d)

  abbrev AllParts : List ℕ → List Node → Type 0
  AllParts outs ds = AllByRecursion (Part outs) ds

  -- Of the whole's outputs those that occur in some of its disjuncts are all, where the end of one of them can be reached.
  parts_have : (outs : List ℕ) (inner : Variables) (ds : List Node) → Holds (in_nodes (nodes_of ds)) inner → AllParts outs ds → (some_node_ends modes (nodes_of ds) ≡ false) ⊎ AreWithin outs (filter inner outs)
  parts_have outs inner [] held all = inl refl
  parts_have outs inner (d ∷ ds) held all = by all.0.has (parts_have outs inner ds (λ v h. held v (or_right (in_node d v) (in_nodes (nodes_of ds) v) h)) all.1)
    where
      by : ArmHas modes outs d → (some_node_ends modes (nodes_of ds) ≡ false) ⊎ AreWithin outs (filter inner outs) → (node_ends modes d || some_node_ends modes (nodes_of ds) ≡ false) ⊎ AreWithin outs (filter inner outs)
      by (inr has) others = inr (λ v h. among_filter v inner outs
          ∙ both (among outs v) (inner v) h (held v (or_left (in_node d v) (in_nodes (nodes_of ds) v) (all.0.occurs v (has v h)))))
      by (inl h) (inl k) = inl (neither (node_ends modes d) (some_node_ends modes (nodes_of ds)) h k)
      by (inl h) (inr k) = inr k

  disjuncts_keep : (outs fewer : List ℕ) (ds : List Node) → AreWithin fewer outs → AllParts outs ds → EachKeepsOutputs modes fewer (nodes_of ds)
  disjuncts_keep outs fewer [] less all = tt
  disjuncts_keep outs fewer (d ∷ ds) less all = ((all.0.keeps, arm_of_less outs fewer d less all.0.has), disjuncts_keep outs fewer ds less all.1)

  module _ (declared : List TypeDef) (types : ℕ → TypeExpr) where
    -- what a goal that stands for disjuncts has to be for any of their outputs
    abbrev IsFor : List ℕ → List Node → Goal → Type 0
    IsFor outs ds goal = (fewer : List ℕ) → AreWithin fewer outs → AllParts outs ds → GoalKeepsOutputs modes fewer goal

    several_part : (outs : List ℕ) (at : Span) (ds : List Node) (goal : Goal) → AllParts outs ds → StandsFor declared types modes ds goal → IsFor outs ds goal
        → Part outs (node goal (filter (λ v. in_nodes (nodes_of ds) v) outs) None at)
    several_part outs at ds goal all stands is =
        let inner : Variables = λ v. in_nodes (nodes_of ds) v in
        let part : (v : ℕ) → among (filter inner outs) v ≡ true → (among outs v && inner v) ≡ true = λ v h. sym (among_filter v inner outs) ∙ h in
        record {
          keeps = is (filter inner outs) (λ v h. and_left (among outs v) (inner v) (part v h)) all;
          has = by (parts_have outs inner ds (λ v h. h) all);
          occurs = λ v h. stands.inside v ∙ and_right (among outs v) (inner v) (part v h);
        } where
          by : (some_node_ends modes (nodes_of ds) ≡ false) ⊎ AreWithin outs (filter (λ v. in_nodes (nodes_of ds) v) outs) → ArmHas modes outs (node goal (filter (λ v. in_nodes (nodes_of ds) v) outs) None at)
          by (inl h) = inl (stands.ends ∙ h)
          by (inr h) = inr h

    body_part : (outs : List ℕ) (at : Span) (again : List Node → Goal) → ((ds : List Node) → StandsFor declared types modes ds (again ds)) → ((ds : List Node) → IsFor outs ds (again ds))
        → (ds : List Node) → AllParts outs ds → Part outs (arm_body declared types outs at again ds)
    body_part outs at again stands is [] all = several_part outs at [] (again []) all (stands []) (is [])
    body_part outs at again stands is (d ∷ []) all = all.0
    body_part outs at again stands is (d ∷ e ∷ ds) all = several_part outs at (d ∷ e ∷ ds) (again (d ∷ e ∷ ds)) all (stands (d ∷ e ∷ ds)) (is (d ∷ e ∷ ds))

    arms_keep : (body : List Node → Node) (outs fewer : List ℕ) → AreWithin fewer outs → ((ds : List Node) → AllParts outs ds → Part outs (body ds)) → (gs : List Group) → AllIn (Part outs) gs
        → ArmsKeepOutputs modes fewer (arms_of_groups declared types body gs)
    arms_keep body outs fewer less fits [] all = tt
    arms_keep body outs fewer less fits (g ∷ gs) all =
        let one = fits g.1 all.0 in
        ((one.keeps, arm_of_less outs fewer (body g.1) less one.has), arms_keep body outs fewer less fits gs all.1)

    switch_is : (outs : List ℕ) (at : Span) (again : ℕ → List Node → Goal) → ((x : ℕ) (ds : List Node) → StandsFor declared types modes ds (again x ds)) → ((x : ℕ) (ds : List Node) → IsFor outs ds (again x ds))
        → (ds : List Node) (o : Option ℕ) → IsFor outs ds (switched declared types o (λ x. Switch x (arms_of_groups declared types (arm_body declared types outs at (again x)) (grouped x ds))) ds)
    switch_is outs at again stands is ds None fewer less all = disjuncts_keep outs fewer ds less all
    switch_is outs at again stands is ds (Some x) fewer less all =
        arms_keep (arm_body declared types outs at (again x)) outs fewer less (body_part outs at (again x) (stands x) (is x)) (grouped x ds) (grouped_all (Part outs) x ds all)

    regrouped_is : (left : ℕ) (outs : List ℕ) (at : Span) (bound : Bound) (used : List ℕ) (ds : List Node) → IsFor outs ds (regrouped declared types left outs at bound used ds)
    regrouped_is zero outs at bound used ds fewer less all = disjuncts_keep outs fewer ds less all
    regrouped_is (suc left) outs at bound used ds fewer less all =
        switch_is outs at (λ x several. regrouped declared types left outs at bound (x ∷ used) several)
        (λ x several. regrouped_stands declared types modes left outs at bound (x ∷ used) several) (λ x several. regrouped_is left outs at bound (x ∷ used) several)
        ds (choice declared types bound used ds) fewer less all

    abbrev found : Bound → Node → Node
    found bound m = find declared types bound m

    arm_found : (bound : Bound) (m : Node) (outs : List ℕ) → ArmHas modes outs m → ArmHas modes outs (found bound m)
    arm_found bound m outs (inl h) = inl (found_ends declared types modes bound m ∙ h)
    arm_found bound m outs (inr h) = inr (λ v k. ap (λ (l : List ℕ). among l v) (found_outputs declared types bound m) ∙ h v k)

    then_found : (bound now : Bound) (c t : Node) (outs : List ℕ) → (node_ends modes c ≡ false) ⊎ ArmHas modes outs t → (node_ends modes (found bound c) ≡ false) ⊎ ArmHas modes outs (found now t)
    then_found bound now c t outs (inl h) = inl (found_ends declared types modes bound c ∙ h)
    then_found bound now c t outs (inr h) = inr (arm_found now t outs h)

    all_found : (bound : Bound) (ms : Nodes) → all_outputs (find_all declared types bound ms) ≡ all_outputs ms
    all_found bound no_nodes = refl
    all_found bound (more_nodes m ms) =
        ap (λ (l : List ℕ). l ++ all_outputs (find_all declared types (bound_behind declared types bound m) ms)) (found_outputs declared types bound m)
        ∙ ap (λ (l : List ℕ). outputs_of m ++ l) (all_found (bound_behind declared types bound m) ms)

    outputs_occur : (m : Node) (out b : Variables) → GoodNode modes out b m → Holds (among (outputs_of m)) (in_node m)
    outputs_occur (node g outs c at) out b good v h = good.0 v h

    found_occur : (bound : Bound) (m : Node) (out b : Variables) → GoodNode modes out b m → Holds (among (outputs_of (found bound m))) (in_node (found bound m))
    found_occur bound m out b good v h =
        in_found declared types bound m v ∙ outputs_occur m out b good v (ap (λ (l : List ℕ). among l v) (sym (found_outputs declared types bound m)) ∙ h)

    -- the switches are those that are found from what is bound, whatever the goal is good for
    mutual
      pub found_keeps : (m : Node) (bound : Bound) (out b : Variables) → GoodNode modes out b m → KeepsOutputs modes m → KeepsOutputs modes (found bound m)
      found_keeps (node g outs c at) bound out b good k = goal_keeps g bound out b outs at good.2 k

      goal_keeps : (g : Goal) (bound : Bound) (out b : Variables) (outs : List ℕ) (at : Span) → GoodGoal modes out b outs g → GoalKeepsOutputs modes outs g → GoalKeepsOutputs modes outs (find_goal declared types bound outs at g)
      goal_keeps (Basic g) bound out b outs at good k = tt
      goal_keeps (Conjunction running ms) bound out b outs at good k = (all_keep ms bound out b good.0 k.0, λ v h. ap (λ (l : List ℕ). among l v) (all_found bound ms) ∙ k.1 v h)
      goal_keeps (Disjunction ms) bound out b outs at good k =
          let ds = list_of (find_each declared types bound ms) in
          regrouped_is (length (split_variables ds)) outs at bound [] ds outs (λ v h. h) (each_part ms bound out b outs good.0 k)
      goal_keeps (Switch x arms) bound out b outs at good k = k
      goal_keeps (Conditional c t e) bound out b outs at good k = (
        found_keeps c bound (with out (with (in_node t) (in_node e))) b good.0 k.0,
        (
          found_keeps t (bound_behind declared types bound c) (with out (with (in_node c) (in_node e))) (with b (among (outputs_of c))) good.2 k.1.0,
          then_found bound (bound_behind declared types bound c) c t outs k.1.1,
        ),
        (found_keeps e bound (with out (with (in_node c) (in_node t))) b good.4 k.2.0, arm_found bound e outs k.2.1),
      )
      goal_keeps (Negation m) bound out b outs at good k = (found_keeps m bound out b good.0 k.0, k.1)
      goal_keeps (Quantified own m) bound out b outs at good k = (found_keeps m bound out b good.0 k.0, λ v h. ap (λ (l : List ℕ). among l v) (found_outputs declared types bound m) ∙ k.1 v h)

      all_keep : (ms : Nodes) (bound : Bound) (out b : Variables) → GoodNodes modes out b ms → AllKeepOutputs modes ms → AllKeepOutputs modes (find_all declared types bound ms)
      all_keep no_nodes bound out b good k = tt
      all_keep (more_nodes m ms) bound out b good k = (
        found_keeps m bound (with out (in_nodes ms)) b good.0 k.0,
        all_keep ms (bound_behind declared types bound m) (with out (in_node m)) (with b (among (outputs_of m))) good.1 k.1,
      )

      each_part : (ms : Nodes) (bound : Bound) (out b : Variables) (outs : List ℕ) → GoodDisjuncts modes out b ms → EachKeepsOutputs modes outs ms → AllParts outs (list_of (find_each declared types bound ms))
      each_part no_nodes bound out b outs good k = tt
      each_part (more_nodes m ms) bound out b outs good k = (
        record { keeps = found_keeps m bound out b good.0 k.0.0; has = arm_found bound m outs k.0.1; occurs = found_occur bound m out b good.0 },
        each_part ms bound out b outs good.1 k.1,
      )
