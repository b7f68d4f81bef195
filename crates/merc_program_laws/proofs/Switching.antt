-- A disjunction has the truth of the switch that its disjuncts become.
use Rattle.std.proofs.Common.{◌≡◌, ◌⊎◌, inl, inr, ℕ, zero, suc, Bool, true, false, ◌==◌, ◌||◌, List, [], ◌∷◌, Option, Some, None, filter, refl, ap, sym, subst, ◌∙◌}
use Rattle.std.specs.List.{AllByRecursion}
use Rattle.std.proofs.lemmas.Bool.Decides.{Decides-eqb}
use mathlib.Core.Path.{fun_ext}
use Rattle.merc_base.specs.declared.category.Category.{Category}
use Rattle.merc_base.specs.declared.place.Span.{Span}
use Rattle.merc_tree.specs.Types.{TypeExpr}
use Rattle.merc_tree.specs.declared.declarations.TypeDef.{TypeDef}
use Rattle.merc_graded_tree.specs.Nodes.{Node, node, Goal, Disjunction, Switch, nodes_of}
use Rattle.merc_graded_tree.specs.Variables.{among, in_goal, in_node, in_nodes, in_arms}
use Rattle.merc_graded_tree.specs.Nodes.{Arms}
use Rattle.merc_grading.specs.Switches.{Group, grouped, arm_body, arms_of_groups, switched, regrouped, choice}
use Rattle.merc_grading.proofs.Choosing.{chosen}
use Rattle.merc_switch_choice.proofs.SplitVariables.{split_occurs}
use Rattle.merc_switch_choice.proofs.GroupLaws.{AllIn, grouped_all, in_groups, in_grouped}
use Rattle.merc_meaning.specs.Truth.{Assignment, IsAssignment, Outside, with, AgreeOn, Somewhere, Everywhere, Judgement, Yes, No, NoGoal, YesAny, NoAll, YesArm, NoArms}
use Rattle.merc_order_laws.proofs.Facts.{clash, or_left, or_right, or_cases, or_same, same_bool}
use Rattle.merc_program_laws.proofs.Basics.{either}
use Rattle.merc_program_laws.proofs.Keeping.{Within, Misses, Grown, Law}
use Rattle.merc_program_laws.proofs.Spelled.{law_self}
use Rattle.merc_program_laws.proofs.Regrouping.{HaveSymbols, Any, AnyIn, any_grouped, grouped_any, grouped_back}

or_false : (a : Bool) → (a || false) ≡ true → a ≡ true
or_false true h = refl
or_false false h = h

module _ (y n : Judgement) where
  -- no fresh variable, and what is bound occurs outside
  abbrev pub Kept : Outside → Node → Node → Type 0
  Kept bound m m' = Law y n y n (λ v. false) (λ out. Within bound out) m m'

  pub kept_self : (bound : Outside) (m : Node) → Kept bound m m
  kept_self bound m = law_self y n (λ v. false) (λ out. Within bound out) m

  every : (out : Outside) (g : Goal) (outs : List ℕ) (at : Span) (s : Assignment) → No y n out (node g outs None at) s → Everywhere out (λ t. NoGoal y n out g t) s
  every out g outs at s (inl z) = absurd z
  every out g outs at s (inr f) = f

  -- a category stands for itself
  pub node_kept : (bound : Outside) (g g' : Goal) (outs outs' : List ℕ) (cat : Option Category) (at at' : Span) → Kept bound (node g [] None at) (node g' [] None at') → Kept bound (node g outs cat at) (node g' outs' cat at')
  node_kept bound g g' outs outs' cat at at' l = record {
    grown = l.grown;
    there = λ out i o s v. (λ h. (h.0, ((l.there out i o s v).0 (λ z. z, h.1)).1), λ h. either (λ z. z) (λ f. every out g' [] at' s ((l.there out i o s v).1 (inr f))) h);
    return = λ out i o s v. (λ h. (h.0, ((l.return out i o s v).0 (λ z. z, h.1)).1), λ h. either (λ z. z) (λ f. every out g [] at s ((l.return out i o s v).1 (inr f))) h);
  }

  pub then_kept : (bound : Outside) (m k l : Node) → Kept bound m k → Kept bound k l → Kept bound m l
  then_kept bound m k l p q = record {
    grown = (λ v h. elim (q.grown.0 v h) as (λ _. (in_node m v ≡ true) ⊎ (false ≡ true)) [ inl j ↦ p.grown.0 v j | inr j ↦ inr j ], λ v h. q.grown.1 v (p.grown.1 v h));
    there = λ out i o s v. (λ h. (q.there out i o s v).0 ((p.there out i o s v).0 h), λ h. (q.there out i o s v).1 ((p.there out i o s v).1 h));
    return = λ out i o s v. (λ h. (p.return out i o s v).0 ((q.return out i o s v).0 h), λ h. (p.return out i o s v).1 ((q.return out i o s v).1 h));
  }

  abbrev pub disjunction : List Node → Span → Node
  disjunction ds at = node (Disjunction (nodes_of ds)) [] None at

  -- A disjunction of one.

  alone_yes : (m : Node) (out : Outside) (s : Assignment) (at : Span) → Yes y n out (disjunction (m ∷ []) at) s → Yes y n out m s
  alone_yes (node g outs cat span) out s at h = elim h.1.3 as (λ _. Yes y n out (node g outs cat span) s) [
    | inl k ↦ (k.0, (k.1.0, k.1.1, (λ x i. k.1.2 x i ∙ h.1.2 x i), k.1.3))
    | inr k ↦ absurd k
  ]

  alone_no : (m : Node) (out : Outside) (s : Assignment) (at : Span) → IsAssignment s → No y n out (disjunction (m ∷ []) at) s → No y n out m s
  alone_no m out s at v (inl z) = absurd z
  alone_no m out s at v (inr f) = (f s v (λ x i. refl)).0

  still_no : (m : Node) (out : Outside) (s t : Assignment) → AgreeOn out s t → No y n out m s → No y n out m t
  still_no (node g outs cat span) out s t a (inl z) = inl z
  still_no (node g outs cat span) out s t a (inr f) = inr (λ u w b. f u w (λ x i. b x i ∙ a x i))

  alone_kept : (bound : Outside) (m : Node) (at : Span) → Kept bound (disjunction (m ∷ []) at) m
  alone_kept bound m at = record {
    grown = (λ v h. inl (or_left (in_node m v) false h), λ v h. or_false (in_node m v) h);
    there = λ out i o s v. (λ h. alone_yes m out s at h, λ h. alone_no m out s at v h);
    return = λ out i o s v. (
      λ h. (λ z. z, (s, v, (λ x k. refl), inl h)),
      λ h. inr (λ t w a. (still_no m out s t a h, tt)),
    );
  }

  -- Disjuncts, one by one.

  any_is : (ds : List Node) (out : Outside) (s : Assignment) → YesAny y n out (nodes_of ds) s → Any (λ m. Yes y n out m s) ds
  any_is [] out s h = h
  any_is (d ∷ ds) out s h = either (λ k. k) (any_is ds out s) h

  is_any : (ds : List Node) (out : Outside) (s : Assignment) → Any (λ m. Yes y n out m s) ds → YesAny y n out (nodes_of ds) s
  is_any [] out s h = h
  is_any (d ∷ ds) out s h = either (λ k. k) (is_any ds out s) h

  all_is : (ds : List Node) (out : Outside) (s : Assignment) → NoAll y n out (nodes_of ds) s → AllByRecursion (λ m. No y n out m s) ds
  all_is [] out s h = tt
  all_is (d ∷ ds) out s h = (h.0, all_is ds out s h.1)

  is_all : (ds : List Node) (out : Outside) (s : Assignment) → AllByRecursion (λ m. No y n out m s) ds → NoAll y n out (nodes_of ds) s
  is_all [] out s h = tt
  is_all (d ∷ ds) out s h = (h.0, is_all ds out s h.1)

  module _ (declared : List TypeDef) (types : ℕ → TypeExpr) (bound : Outside) (at : Span) where
    -- Groups as arms. Given is the body that each group becomes, with the truth of its disjunction.
    module _ (body : List Node → Node) (body_law : (ds : List Node) → Kept bound (disjunction ds at) (body ds)) where
      abbrev pub arms : List Group → Arms
      arms gs = arms_of_groups declared types body gs

      body_in : (ds : List Node) (v : ℕ) → in_node (body ds) v ≡ in_nodes (nodes_of ds) v
      body_in ds v = same_bool (in_node (body ds) v) (in_nodes (nodes_of ds) v)
          (λ h. elim ((body_law ds).grown.0 v h) as (λ _. in_nodes (nodes_of ds) v ≡ true) [ inl k ↦ k | inr k ↦ clash k refl ]) (λ h. (body_law ds).grown.1 v h)

      arms_in : (gs : List Group) (v : ℕ) → in_arms (arms gs) v ≡ in_groups gs v
      arms_in [] v = refl
      arms_in (g ∷ gs) v = or_same (in_node (body g.1) v) (in_arms (arms gs) v) (in_nodes (nodes_of g.1) v) (in_groups gs v) (body_in g.1 v) (arms_in gs v)

      nothing : (out : Outside) → Misses (λ v. false) out
      nothing out v h = clash h refl

      arms_yes : (gs : List Group) (out : Outside) (s : Assignment) → Within bound out → IsAssignment s → AnyIn (λ m. Yes y n out m s) gs → YesArm y n out (arms gs) s
      arms_yes [] out s w v h = h
      arms_yes (g ∷ gs) out s w v h = either (λ k. ((body_law g.1).there out (nothing out) w s v).0 (λ z. z, (s, v, (λ x m. refl), is_any g.1 out s k))) (arms_yes gs out s w v) h

      arms_yes_back : (gs : List Group) (out : Outside) (s : Assignment) → Within bound out → IsAssignment s → YesArm y n out (arms gs) s → Somewhere out (λ t. AnyIn (λ m. Yes y n out m t) gs) s
      arms_yes_back [] out s w v h = absurd h
      arms_yes_back (g ∷ gs) out s w v (inl h) =
          let k = ((body_law g.1).return out (nothing out) w s v).0 h in
          (k.1.0, k.1.1, k.1.2, inl (any_is g.1 out k.1.0 k.1.3))
      arms_yes_back (g ∷ gs) out s w v (inr h) =
          let k = arms_yes_back gs out s w v h in
          (k.0, k.1, k.2, inr k.3)

      arms_no : (gs : List Group) (out : Outside) (s : Assignment) → Within bound out → IsAssignment s → Everywhere out (λ t. AllIn (λ m. No y n out m t) gs) s → NoArms y n out (arms gs) s
      arms_no [] out s w v h = tt
      arms_no (g ∷ gs) out s w v h = (
        ((body_law g.1).there out (nothing out) w s v).1 (inr (λ t u a. is_all g.1 out t (h t u a).0)),
        arms_no gs out s w v (λ t u a. (h t u a).1),
      )

      first_no : (out : Outside) (ds : List Node) (s : Assignment) → IsAssignment s → No y n out (disjunction ds at) s → NoAll y n out (nodes_of ds) s
      first_no out ds s v (inl z) = absurd z
      first_no out ds s v (inr h) = h s v (λ x m. refl)

      arms_no_back : (gs : List Group) (out : Outside) (s : Assignment) → Within bound out → IsAssignment s → NoArms y n out (arms gs) s → AllIn (λ m. No y n out m s) gs
      arms_no_back [] out s w v h = tt
      arms_no_back (g ∷ gs) out s w v h = (
        all_is g.1 out s (first_no out g.1 s v (((body_law g.1).return out (nothing out) w s v).1 h.0)),
        arms_no_back gs out s w v h.1,
      )

      -- the variable of the switch occurs outside each arm in any case
      out_x : (out : Outside) (x : ℕ) → out x ≡ true → with out (among (x ∷ [])) ≡ out
      out_x out x h = fun_ext (λ v. same_bool (out v || ((v == x) || false)) (out v)
          (λ k. elim (or_cases (out v) ((v == x) || false) k) as (λ _. out v ≡ true) [ inl j ↦ j | inr j ↦ ap out ((Decides-eqb v x).0 (or_false (v == x) j)) ∙ h ])
          (λ k. or_left (out v) ((v == x) || false) k))

      switch_grown : (x : ℕ) (ds : List Node) → HaveSymbols x ds → in_nodes (nodes_of ds) x ≡ true → Grown (λ v. false) (in_nodes (nodes_of ds)) (in_goal (Switch x (arms (grouped x ds))))
      switch_grown x ds l i =
          let same : (v : ℕ) → in_arms (arms (grouped x ds)) v ≡ in_nodes (nodes_of ds) v = λ v. arms_in (grouped x ds) v ∙ in_grouped x ds v l in (
            λ v h. elim (or_cases (v == x) (in_arms (arms (grouped x ds)) v) h) as (λ _. (in_nodes (nodes_of ds) v ≡ true) ⊎ (false ≡ true)) [
              | inl k ↦ inl (ap (in_nodes (nodes_of ds)) ((Decides-eqb v x).0 k) ∙ i)
              | inr k ↦ inl (sym (same v) ∙ k)
            ],
            λ v h. or_right (v == x) (in_arms (arms (grouped x ds)) v) (same v ∙ h),
          )

      switch_yes : (x : ℕ) (ds : List Node) (out : Outside) (s : Assignment) → HaveSymbols x ds → bound x ≡ true → Within bound out → Yes y n out (disjunction ds at) s → Yes y n out (node (Switch x (arms (grouped x ds))) [] None at) s
      switch_yes x ds out s l b w h = (
        h.0,
        (
          h.1.0,
          h.1.1,
          h.1.2,
          subst (λ (o : Outside). YesArm y n o (arms (grouped x ds)) h.1.0) (sym (out_x out x (w x b)))
              (arms_yes (grouped x ds) out h.1.0 w h.1.1 (any_grouped (λ m. Yes y n out m h.1.0) x ds l (any_is ds out h.1.0 h.1.3))),
        ),
      )

      switch_no : (x : ℕ) (ds : List Node) (out : Outside) (s : Assignment) → bound x ≡ true → Within bound out → No y n out (disjunction ds at) s → No y n out (node (Switch x (arms (grouped x ds))) [] None at) s
      switch_no x ds out s b w (inl z) = inl z
      switch_no x ds out s b w (inr f) = inr (λ t u a. subst (λ (o : Outside). NoArms y n o (arms (grouped x ds)) t) (sym (out_x out x (w x b)))
          (arms_no (grouped x ds) out t w u (λ t2 u2 a2. grouped_all (λ m. No y n out m t2) x ds (all_is ds out t2 (f t2 u2 (λ z m. a2 z m ∙ a z m))))))

      back_yes : (x : ℕ) (ds : List Node) (out : Outside) (s : Assignment) → bound x ≡ true → Within bound out → Yes y n out (node (Switch x (arms (grouped x ds))) [] None at) s → Yes y n out (disjunction ds at) s
      back_yes x ds out s b w h =
          let k = arms_yes_back (grouped x ds) out h.1.0 w h.1.1 (subst (λ (o : Outside). YesArm y n o (arms (grouped x ds)) h.1.0) (out_x out x (w x b)) h.1.3) in
          (h.0, (k.0, k.1, (λ z m. k.2 z m ∙ h.1.2 z m), is_any ds out k.0 (grouped_any (λ m. Yes y n out m k.0) x ds k.3)))

      back_no : (x : ℕ) (ds : List Node) (out : Outside) (s : Assignment) → HaveSymbols x ds → bound x ≡ true → Within bound out → No y n out (node (Switch x (arms (grouped x ds))) [] None at) s → No y n out (disjunction ds at) s
      back_no x ds out s l b w (inl z) = inl z
      back_no x ds out s l b w (inr f) = inr (λ t u a. is_all ds out t (grouped_back (λ m. No y n out m t) x ds l
          (arms_no_back (grouped x ds) out t w u (subst (λ (o : Outside). NoArms y n o (arms (grouped x ds)) t) (out_x out x (w x b)) (f t u a)))))

      switch_law : (x : ℕ) (ds : List Node) → HaveSymbols x ds → bound x ≡ true → in_nodes (nodes_of ds) x ≡ true → Kept bound (disjunction ds at) (node (Switch x (arms (grouped x ds))) [] None at)
      switch_law x ds l b i = record {
        grown = switch_grown x ds l i;
        there = λ out e w s v. (λ h. switch_yes x ds out s l b w h, λ h. switch_no x ds out s b w h);
        return = λ out e w s v. (λ h. back_yes x ds out s b w h, λ h. back_no x ds out s l b w h);
      }

    -- the variable occurs, since there is a disjunct
    occurs : (used : List ℕ) (ds : List Node) (x : ℕ) → choice declared types bound used ds ≡ Some x → in_nodes (nodes_of ds) x ≡ true
    occurs used [] x e = absurd cc
    occurs used (d ∷ ds) x e =
        let l = (chosen declared types bound used (d ∷ ds) x e).can.symbols in
        or_left (in_node d x) (in_nodes (nodes_of ds) x) (split_occurs d x l.0.0 l.0.1)

    body_kept : (outs : List ℕ) (again : List Node → Goal) → ((ds : List Node) → Kept bound (disjunction ds at) (node (again ds) [] None at)) → (ds : List Node) → Kept bound (disjunction ds at) (arm_body declared types outs at again ds)
    body_kept outs again l [] = node_kept bound (Disjunction (nodes_of [])) (again []) [] (filter (λ v. in_nodes (nodes_of []) v) outs) None at at (l [])
    body_kept outs again l (d ∷ []) = alone_kept bound d at
    body_kept outs again l (d ∷ e ∷ ds) = node_kept bound (Disjunction (nodes_of (d ∷ e ∷ ds))) (again (d ∷ e ∷ ds)) [] (filter (λ v. in_nodes (nodes_of (d ∷ e ∷ ds)) v) outs) None at at (l (d ∷ e ∷ ds))

    chosen_kept : (ds : List Node) (o : Option ℕ) (goal : ℕ → Goal) → ((x : ℕ) → o ≡ Some x → Kept bound (disjunction ds at) (node (goal x) [] None at))
        → Kept bound (disjunction ds at) (node (switched declared types o goal ds) [] None at)
    chosen_kept ds None goal l = kept_self bound (disjunction ds at)
    chosen_kept ds (Some x) goal l = l x refl

    pub regrouped_kept : (left : ℕ) (outs used : List ℕ) (ds : List Node) → Kept bound (disjunction ds at) (node (regrouped declared types left outs at bound used ds) [] None at)
    regrouped_kept zero outs used ds = kept_self bound (disjunction ds at)
    regrouped_kept (suc left) outs used ds =
        chosen_kept ds (choice declared types bound used ds)
        (λ x. Switch x (arms_of_groups declared types (arm_body declared types outs at (λ ms. regrouped declared types left outs at bound (x ∷ used) ms)) (grouped x ds)))
        (λ x e. switch_law (arm_body declared types outs at (λ ms. regrouped declared types left outs at bound (x ∷ used) ms))
        (body_kept outs (λ ms. regrouped declared types left outs at bound (x ∷ used) ms) (λ ms. regrouped_kept left outs (x ∷ used) ms)) x ds
        (chosen declared types bound used ds x e).can.symbols (chosen declared types bound used ds x e).can.is_bound (occurs used ds x e))
