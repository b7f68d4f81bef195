-- Trees with their categories; and goals whose end cannot be reached have a maximum of 0.
use Rattle.std.proofs.Common.{◌≡◌, ◌⊎◌, inl, inr, ℕ, zero, suc, Bool, true, false, ◌||◌, ◌&&◌, if◌then◌else◌, List, [], ◌∷◌, Option, Some, slice_get, refl, ap, sym, ◌∙◌, subst}
use Rattle.merc_base.specs.Category.{can_fail_of, most_of}
use Rattle.merc_base.specs.declared.category.Category.{Category}
use Rattle.merc_base.specs.declared.category.Most.{Most}
use Rattle.merc_base.specs.declared.category.Most.TheVariants.{Zero, One, Many}
use Rattle.merc_tree.specs.Types.{TypeExpr}
use Rattle.merc_tree.specs.declared.declarations.ModeDecl.{ModeDecl}
use Rattle.merc_tree.specs.declared.declarations.TypeDef.{TypeDef}
use Rattle.merc_graded_tree.specs.declared.basic.BasicGoal.{BasicGoal}
use Rattle.merc_graded_tree.specs.declared.basic.BasicGoal.TheVariants.{True, Fail, Assign, Test, Build, Split, Arithmetic, Compare, Raise, Call, Wait, Signal}
use Rattle.merc_graded_tree.specs.declared.entries.Running.{Running}
use Rattle.merc_graded_tree.specs.declared.entries.Running.TheVariants.{Sequential, Parallel}
use Rattle.merc_graded_tree.specs.Nodes.{Node, node, Goal, Basic, Conjunction, Disjunction, Switch, Conditional, Negation, Quantified, Nodes, no_nodes, more_nodes, Arms, no_arms, more_arms, list_of}
use Rattle.merc_graded_tree.specs.Roots.{symbols_of, bodies_of}
use Rattle.merc_order.specs.Bound.{Bound}
use Rattle.merc_order.specs.CallModes.{may_answer, can_succeed}
use Rattle.merc_order_laws.specs.Bindings.{Variables}
use Rattle.merc_order_laws.specs.GoodTree.{GoodProcedure, basic_ends, node_ends, goal_ends, all_nodes_end, some_node_ends, some_arm_ends, GoodBasic, GoodNode, GoodGoal, GoodNodes, GoodDisjuncts, GoodArms}
use Rattle.merc_order_laws.proofs.Facts.{clash}
use Rattle.merc_grading.specs.Categories.{conjunction_category, disjunction_category, arms_category, greater_most, is_zero}
use Rattle.merc_grading.specs.Known.{symbols_of_type, are_complete, Known, known_behind, known_behind_goal, known_behind_all}
use Rattle.merc_grading.specs.Grading.{declared_in, given, category_at, categories, handed_on, basic_category, rule, with_category, graded, graded_goal, graded_all, graded_each, graded_arms}
use Rattle.merc_program_laws.proofs.Values.{or_not_left, or_not_right}
use Rattle.merc_program_laws.proofs.Maxima.{most_is, fails_or, capped_is_zero, then_is_zero, or_is_zero, greater_is_zero, conditional_is_zero}

and_false : (a b : Bool) → (a && b) ≡ false → (a ≡ false) ⊎ (b ≡ false)
and_false true b h = inr h
and_false false b h = inl refl

-- a goal of a conjunction hands on all that it tells, or it has no solution
pub handed_or_zero : (running : Running) (c : Category) (behind before : Known) → (handed_on running c behind before ≡ behind) ⊎ (most_of c ≡ Zero)
handed_or_zero Sequential c behind before = inl refl
handed_or_zero (Parallel site) c behind before = by (most_of c)
  where
    by : (m : Most) → ((if is_zero m then before else behind) ≡ behind) ⊎ (m ≡ Zero)
    by Zero = inr refl
    by One = inl refl
    by Many = inl refl

-- Given are the declared types, the modes of each predicate, and the type of each variable.
module _ (declared : List TypeDef) (modes : ℕ → List ModeDecl) (types : ℕ → TypeExpr) where
  abbrev mutual
    -- each part has its category, from the symbols known before it
    pub Graded : Known → Node → Type 0
    Graded seen (node goal outputs category span) = (category ≡ Some (with_category declared modes types seen outputs goal)) × GradedGoal seen goal

    pub GradedGoal : Known → Goal → Type 0
    GradedGoal seen (Basic goal) = Unit {0}
    GradedGoal seen (Conjunction running goals) = GradedAll running seen goals
    GradedGoal seen (Disjunction goals) = GradedEach seen goals
    GradedGoal seen (Switch variable arms) = GradedArms seen variable arms
    GradedGoal seen (Conditional condition then_part else_part) = Graded seen condition × Graded (known_behind condition seen) then_part × Graded seen else_part
    GradedGoal seen (Negation goal) = Graded seen goal
    GradedGoal seen (Quantified own goal) = Graded seen goal

    pub GradedAll : Running → Known → Nodes → Type 0
    GradedAll running seen no_nodes = Unit {0}
    GradedAll running seen (more_nodes first rest) = Graded seen first × GradedAll running (handed_on running (category_at first) (known_behind first seen) seen) rest

    pub GradedEach : Known → Nodes → Type 0
    GradedEach seen no_nodes = Unit {0}
    GradedEach seen (more_nodes first rest) = Graded seen first × GradedEach seen rest

    pub GradedArms : Known → ℕ → Arms → Type 0
    GradedArms seen variable no_arms = Unit {0}
    GradedArms seen variable (more_arms symbol body rest) = Graded ((variable, symbol) ∷ seen) body × GradedArms seen variable rest

  -- categories change nothing of what is known
  mutual
    same_known : (n : Node) (seen other : Known) → known_behind (graded declared modes types seen n) other ≡ known_behind n other
    same_known (node goal outputs category span) seen other = goal_same_known goal seen other

    goal_same_known : (g : Goal) (seen other : Known) → known_behind_goal (graded_goal declared modes types seen g) other ≡ known_behind_goal g other
    goal_same_known (Basic goal) seen other = refl
    goal_same_known (Conjunction running goals) seen other = all_same_known running goals seen other
    goal_same_known (Disjunction goals) seen other = refl
    goal_same_known (Switch variable arms) seen other = refl
    goal_same_known (Conditional c t e) seen other = refl
    goal_same_known (Negation goal) seen other = refl
    goal_same_known (Quantified own goal) seen other = same_known goal seen other

    all_same_known : (running : Running) (ns : Nodes) (seen other : Known) → known_behind_all (graded_all declared modes types running seen ns) other ≡ known_behind_all ns other
    all_same_known running no_nodes seen other = refl
    all_same_known running (more_nodes first rest) seen other =
        let next = handed_on running (category_at (graded declared modes types seen first)) (known_behind first seen) seen in
        ap (known_behind_all (graded_all declared modes types running next rest)) (same_known first seen other) ∙ all_same_known running rest next (known_behind first other)

  -- a tree that was given all categories has them
  mutual
    pub graded_has : (n : Node) (seen : Known) → Graded seen (graded declared modes types seen n)
    graded_has (node goal outputs category span) seen = (refl, goal_has goal seen)

    goal_has : (g : Goal) (seen : Known) → GradedGoal seen (graded_goal declared modes types seen g)
    goal_has (Basic goal) seen = tt
    goal_has (Conjunction running goals) seen = all_have running goals seen
    goal_has (Disjunction goals) seen = each_has goals seen
    goal_has (Switch variable arms) seen = arms_have arms seen variable
    goal_has (Conditional c t e) seen = (
      graded_has c seen,
      subst (λ (k : Known). Graded k (graded declared modes types (known_behind c seen) t)) (sym (same_known c seen seen)) (graded_has t (known_behind c seen)),
      graded_has e seen,
    )
    goal_has (Negation goal) seen = graded_has goal seen
    goal_has (Quantified own goal) seen = graded_has goal seen

    all_have : (running : Running) (ns : Nodes) (seen : Known) → GradedAll running seen (graded_all declared modes types running seen ns)
    all_have running no_nodes seen = tt
    all_have running (more_nodes first rest) seen =
        let one = graded declared modes types seen first in
        let next : Known → Known = λ (behind : Known). handed_on running (category_at one) behind seen in (
          graded_has first seen,
          subst (λ (k : Known). GradedAll running (next k) (graded_all declared modes types running (next (known_behind first seen)) rest)) (sym (same_known first seen seen))
              (all_have running rest (next (known_behind first seen))),
        )

    each_has : (ns : Nodes) (seen : Known) → GradedEach seen (graded_each declared modes types seen ns)
    each_has no_nodes seen = tt
    each_has (more_nodes first rest) seen = (graded_has first seen, each_has rest seen)

    arms_have : (arms : Arms) (seen : Known) (x : ℕ) → GradedArms seen x (graded_arms declared modes types seen x arms)
    arms_have no_arms seen x = tt
    arms_have (more_arms symbol body rest) seen x = (graded_has body ((x, symbol) ∷ seen), arms_have rest seen x)

  -- Unreachable ends.

  zero_most : (m : Most) → may_answer m ≡ false → m ≡ Zero
  zero_most Zero h = refl
  zero_most One h = clash refl h
  zero_most Many h = clash refl h

  call_zero : (ms : List ModeDecl) (number : ℕ) (out : Variables) (b : Bound) (outs args : List ℕ) → can_succeed ms ≡ false → GoodProcedure out b outs (slice_get ms number) args → most_of (declared_in (slice_get ms number)) ≡ Zero
  call_zero [] number out b outs args h good = absurd good
  call_zero (m ∷ ms) zero out b outs args h good = zero_most (most_of m.category) (or_not_left (may_answer (most_of m.category)) (can_succeed ms) h)
  call_zero (m ∷ ms) (suc number) out b outs args h good = call_zero ms number out b outs args (or_not_right (may_answer (most_of m.category)) (can_succeed ms) h) good

  basic_zero : (g : BasicGoal) (seen : Known) (out : Variables) (b : Bound) (outs : List ℕ) → GoodBasic modes out b outs g → basic_ends modes g ≡ false → most_of (basic_category declared modes types seen g) ≡ Zero
  basic_zero True seen out b outs good h = clash refl h
  basic_zero Fail seen out b outs good h = refl
  basic_zero (Assign x y) seen out b outs good h = clash refl h
  basic_zero (Test x y) seen out b outs good h = clash refl h
  basic_zero (Build x s ys) seen out b outs good h = clash refl h
  basic_zero (Split x s ys) seen out b outs good h = clash refl h
  basic_zero (Arithmetic op z x y) seen out b outs good h = clash refl h
  basic_zero (Compare test x y) seen out b outs good h = clash refl h
  basic_zero (Raise x) seen out b outs good h = refl
  basic_zero (Call p args) seen out b outs good h = call_zero (modes p.predicate) p.mode out b outs args h good
  basic_zero (Wait x n) seen out b outs good h = clash refl h
  basic_zero (Signal x n) seen out b outs good h = clash refl h

  mutual
    pub ends_zero : (n : Node) (seen : Known) (out : Variables) (b : Bound) → GoodNode modes out b n → Graded seen n → node_ends modes n ≡ false → most_of (category_at n) ≡ Zero
    ends_zero (node goal outs category span) seen out b good has h =
        ap (λ (c : Option Category). most_of (given c)) has.0 ∙ capped_is_zero outs (rule declared modes types seen goal) (goal_zero goal seen out b outs good.2 has.1 h)

    goal_zero : (g : Goal) (seen : Known) (out : Variables) (b : Bound) (outs : List ℕ) → GoodGoal modes out b outs g → GradedGoal seen g → goal_ends modes g ≡ false → most_of (rule declared modes types seen g) ≡ Zero
    goal_zero (Basic goal) seen out b outs good has h = basic_zero goal seen out b outs good h
    goal_zero (Conjunction running goals) seen out b outs good has h = all_zero running goals seen out b good.0 has h
    goal_zero (Disjunction goals) seen out b outs good has h = each_zero goals seen out b good.0 has h
    goal_zero (Switch x arms) seen out b outs good has h =
        most_is ((if are_complete (symbols_of_type declared (types x)) (symbols_of arms) then false else true) || can_fail_of (arms_category (categories (bodies_of arms)))) (most_of (arms_category (categories (bodies_of arms))))
        ∙ arms_zero arms seen x _ b good.1 has h
    goal_zero (Conditional c t e) seen out b outs good has h =
        let parts = fails_or (node_ends modes c && node_ends modes t) (node_ends modes e) h in
        conditional_is_zero (category_at c) (category_at t) (category_at e) (ends_zero e seen _ b good.4 has.2 parts.1)
        (elim (and_false (node_ends modes c) (node_ends modes t) parts.0) as (λ _. (most_of (category_at c) ≡ Zero) ⊎ (most_of (category_at t) ≡ Zero)) [
          | inl p ↦ inl (ends_zero c seen _ b good.0 has.0 p)
          | inr p ↦ inr (ends_zero t (known_behind c seen) _ _ good.2 has.1 p)
        ])
    goal_zero (Negation goal) seen out b outs good has h = clash refl h
    goal_zero (Quantified own goal) seen out b outs good has h = ends_zero goal seen out b good.0 has h

    all_zero : (running : Running) (ns : Nodes) (seen : Known) (out : Variables) (b : Bound) → GoodNodes modes out b ns → GradedAll running seen ns → all_nodes_end modes ns ≡ false → most_of (conjunction_category (categories (list_of ns))) ≡ Zero
    all_zero running no_nodes seen out b good has h = clash refl h
    all_zero running (more_nodes first rest) seen out b good has h =
        then_is_zero (category_at first) (conjunction_category (categories (list_of rest)))
        (elim (and_false (node_ends modes first) (all_nodes_end modes rest) h) as (λ _. (most_of (category_at first) ≡ Zero) ⊎ (most_of (conjunction_category (categories (list_of rest))) ≡ Zero)) [
          | inl p ↦ inl (ends_zero first seen _ b good.0 has.0 p)
          | inr p ↦ inr (all_zero running rest (handed_on running (category_at first) (known_behind first seen) seen) _ _ good.1 has.1 p)
        ])

    each_zero : (ns : Nodes) (seen : Known) (out : Variables) (b : Bound) → GoodDisjuncts modes out b ns → GradedEach seen ns → some_node_ends modes ns ≡ false → most_of (disjunction_category (categories (list_of ns))) ≡ Zero
    each_zero no_nodes seen out b good has h = refl
    each_zero (more_nodes first rest) seen out b good has h =
        let parts = fails_or (node_ends modes first) (some_node_ends modes rest) h in
        or_is_zero (category_at first) (disjunction_category (categories (list_of rest))) (ends_zero first seen out b good.0 has.0 parts.0) (each_zero rest seen out b good.1 has.1 parts.1)

    arms_zero : (arms : Arms) (seen : Known) (x : ℕ) (out : Variables) (b : Bound) → GoodArms modes out b arms → GradedArms seen x arms → some_arm_ends modes arms ≡ false → most_of (arms_category (categories (bodies_of arms))) ≡ Zero
    arms_zero no_arms seen x out b good has h = refl
    arms_zero (more_arms symbol body rest) seen x out b good has h =
        let parts = fails_or (node_ends modes body) (some_arm_ends modes rest) h in
        most_is (can_fail_of (category_at body) || can_fail_of (arms_category (categories (bodies_of rest)))) (greater_most (most_of (category_at body)) (most_of (arms_category (categories (bodies_of rest)))))
        ∙ greater_is_zero (most_of (category_at body)) (most_of (arms_category (categories (bodies_of rest)))) (ends_zero body ((x, symbol) ∷ seen) out b good.0 has.0 parts.0) (arms_zero rest seen x out b good.1 has.1 parts.1)
