-- A disjunction of good disjuncts is good as a switch.
use Rattle.std.proofs.Common.{◌≡◌, inl, inr, ℕ, zero, suc, Bool, true, false, ◌==◌, ◌||◌, ◌&&◌, List, [], ◌∷◌, Option, Some, None, filter, refl, ap, sym, subst, ◌∙◌}
use Rattle.std.specs.List.{AllByRecursion}
use Rattle.std.proofs.lemmas.Bool.Decides.{Decides-eqb}
use mathlib.Core.Path.{fun_ext}
use Rattle.merc_base.specs.declared.place.Span.{Span}
use Rattle.merc_tree.specs.Types.{TypeExpr}
use Rattle.merc_tree.specs.declared.declarations.ModeDecl.{ModeDecl}
use Rattle.merc_tree.specs.declared.declarations.TypeDef.{TypeDef}
use Rattle.merc_graded_tree.specs.Nodes.{Node, node, Goal, Disjunction, Switch, nodes_of, outputs_of}
use Rattle.merc_graded_tree.specs.Variables.{in_node, in_nodes}
use Rattle.merc_order.specs.Bound.{Bound, Holds, with, among}
use Rattle.merc_grading.specs.Switches.{Group, choice, grouped, switched, arms_of_groups, arm_body, regrouped}
use Rattle.merc_grading.proofs.Choosing.{chosen}
use Rattle.merc_switch_choice.proofs.GroupLaws.{AllIn, grouped_all}
use Rattle.merc_order_laws.specs.Bindings.{Variables, AreFree, ArmBinds}
use Rattle.merc_order_laws.specs.GoodTree.{node_ends, some_node_ends, GoodNode, GoodGoal, GoodDisjuncts, GoodArms, DisjunctsBind, ArmsBind}
use Rattle.merc_order_laws.proofs.Facts.{clash, or_left, or_right, or_cases, and_right, same_bool, among_filter, free_filter}
use Rattle.merc_program_laws.proofs.Regrouped.{StandsFor, regrouped_stands}

or_false : (a : Bool) → (a || false) ≡ true → a ≡ true
or_false true h = refl
or_false false h = h

-- what is bound and occurs outside is among what occurs outside
pub known_outside : (bound outside : Variables) (x : ℕ) → Holds bound outside → bound x ≡ true → outside ≡ with outside (among (x ∷ []))
known_outside bound outside x held is = fun_ext (λ v. same_bool (outside v) (outside v || ((v == x) || false))
    (λ h. or_left (outside v) ((v == x) || false) h)
    (λ h. elim (or_cases (outside v) ((v == x) || false) h) as (λ _. outside v ≡ true) [
      | inl k ↦ k
      | inr k ↦ ap outside ((Decides-eqb v x).0 (or_false (v == x) k)) ∙ held x is
    ]))

-- outputs that are those of a goal, of what occurs in it, do for its parts
other_outputs : (reached : Bool) (outside whole bound behind : Variables) (outs outs' : List ℕ) → ((v : ℕ) → whole v ≡ true → among outs' v ≡ among outs v)
    → ArmBinds reached outside whole bound outs behind → ArmBinds reached outside whole bound outs' behind
other_outputs reached outside whole bound behind outs outs' same (inl h) = inl h
other_outputs reached outside whole bound behind outs outs' same (inr h) = inr (λ v i o. h v i o ∙ ap (λ (b : Bool). bound v || b) (sym (same v i)))

fewer_inside : (reached : Bool) (outside whole few bound behind : Variables) (outs : List ℕ) → Holds few whole → ArmBinds reached outside whole bound outs behind → ArmBinds reached outside few bound outs behind
fewer_inside reached outside whole few bound behind outs held (inl h) = inl h
fewer_inside reached outside whole few bound behind outs held (inr h) = inr (λ v i o. h v (held v i) o)

pick : (b o d i : Bool) → (b || d) ≡ (b || o) → (d ≡ true → i ≡ true) → (b || (o && i)) ≡ (b || o)
pick true o d i h f = refl
pick false true d i h f = f h
pick false false d i h f = refl

neither : (a b : Bool) → a ≡ false → b ≡ false → (a || b) ≡ false
neither true b h k = h
neither false b h k = k

module _ (declared : List TypeDef) (types : ℕ → TypeExpr) (modes : ℕ → List ModeDecl) (outside : Variables) (bound : Bound) (held : Holds bound outside) where
  -- a disjunct, or the body of an arm, of a goal with these variables and outputs
  pub record Fits (whole : Variables) (outputs : List ℕ) (disjunct : Node) : Type 0 where
    pub good : GoodNode modes outside bound disjunct
    pub binds : ArmBinds (node_ends modes disjunct) outside whole bound outputs (with bound (among (outputs_of disjunct)))
    pub within : Holds (in_node disjunct) whole

  abbrev pub AllFit : Variables → List ℕ → List Node → Type 0
  AllFit whole outputs disjuncts = AllByRecursion (Fits whole outputs) disjuncts

  disjuncts_good : (whole : Variables) (outs : List ℕ) (ds : List Node) → AllFit whole outs ds → GoodDisjuncts modes outside bound (nodes_of ds)
  disjuncts_good whole outs [] all = tt
  disjuncts_good whole outs (d ∷ ds) all = (all.0.good, disjuncts_good whole outs ds all.1)

  disjuncts_bind : (whole : Variables) (outs outs' : List ℕ) (ds : List Node) → ((v : ℕ) → whole v ≡ true → among outs' v ≡ among outs v) → AllFit whole outs ds → DisjunctsBind modes outside whole bound outs' (nodes_of ds)
  disjuncts_bind whole outs outs' [] same all = tt
  disjuncts_bind whole outs outs' (d ∷ ds) same all =
      (other_outputs (node_ends modes d) outside whole bound (with bound (among (outputs_of d))) outs outs' same all.0.binds, disjuncts_bind whole outs outs' ds same all.1)

  -- they fit a part of the goal that holds all that occurs in them

  within_all : (whole : Variables) (outs : List ℕ) (ds : List Node) → AllFit whole outs ds → Holds (in_nodes (nodes_of ds)) whole
  within_all whole outs [] all v h = clash h refl
  within_all whole outs (d ∷ ds) all v h = elim (or_cases (in_node d v) (in_nodes (nodes_of ds) v) h) as (λ _. whole v ≡ true) [
    | inl k ↦ all.0.within v k
    | inr k ↦ within_all whole outs ds all.1 v k
  ]

  fit_part : (whole part : Variables) (outs : List ℕ) (ds : List Node) → Holds part whole → Holds (in_nodes (nodes_of ds)) part → AllFit whole outs ds → AllFit part outs ds
  fit_part whole part outs [] held_in inner all = tt
  fit_part whole part outs (d ∷ ds) held_in inner all = (
    record {
      good = all.0.good;
      binds = fewer_inside (node_ends modes d) outside whole part bound (with bound (among (outputs_of d))) outs held_in all.0.binds;
      within = λ v h. inner v (or_left (in_node d v) (in_nodes (nodes_of ds) v) h);
    },
    fit_part whole part outs ds held_in (λ v h. inner v (or_right (in_node d v) (in_nodes (nodes_of ds) v) h)) all.1,
  )

  -- Of the whole's outputs those that occur in some of its disjuncts are what these bind, where the end of one of them can be reached.
  outputs_inside : (d : Node) → GoodNode modes outside bound d → Holds (among (outputs_of d)) (in_node d)
  outputs_inside (node goal outs category at) good v h = good.0 v h

  parts_bind : (whole inner : Variables) (outs : List ℕ) (ds : List Node) → Holds (in_nodes (nodes_of ds)) inner → AllFit whole outs ds
      → ArmBinds (some_node_ends modes (nodes_of ds)) outside whole bound outs (with bound (among (filter inner outs)))
  parts_bind whole inner outs [] held_in all = inl refl
  parts_bind whole inner outs (d ∷ ds) held_in all = by all.0.binds (parts_bind whole inner outs ds (λ v h. held_in v (or_right (in_node d v) (in_nodes (nodes_of ds) v) h)) all.1)
    where
      by : ArmBinds (node_ends modes d) outside whole bound outs (with bound (among (outputs_of d)))
          → ArmBinds (some_node_ends modes (nodes_of ds)) outside whole bound outs (with bound (among (filter inner outs)))
          → ArmBinds (node_ends modes d || some_node_ends modes (nodes_of ds)) outside whole bound outs (with bound (among (filter inner outs)))
      by (inr binds) others = inr (λ v i o. ap (λ (b : Bool). bound v || b) (among_filter v inner outs)
          ∙ pick (bound v) (among outs v) (among (outputs_of d) v) (inner v) (binds v i o) (λ h. held_in v (or_left (in_node d v) (in_nodes (nodes_of ds) v) (outputs_inside d all.0.good v h))))
      by (inl h) (inl k) = inl (neither (node_ends modes d) (some_node_ends modes (nodes_of ds)) h k)
      by (inl h) (inr k) = inr k

  -- Arms: given is what fits the body that each group becomes.

  module _ (body : List Node → Node) (whole : Variables) (outs : List ℕ) (fits : (ds : List Node) → AllFit whole outs ds → Fits whole outs (body ds)) where
    arms_good : (gs : List Group) → AllIn (Fits whole outs) gs → GoodArms modes outside bound (arms_of_groups declared types body gs)
    arms_good [] all = tt
    arms_good (g ∷ gs) all = ((fits g.1 all.0).good, arms_good gs all.1)

    arms_bind : (outs' : List ℕ) → ((v : ℕ) → whole v ≡ true → among outs' v ≡ among outs v) → (gs : List Group) → AllIn (Fits whole outs) gs → ArmsBind modes outside whole bound outs' (arms_of_groups declared types body gs)
    arms_bind outs' same [] all = tt
    arms_bind outs' same (g ∷ gs) all =
        (other_outputs (node_ends modes (body g.1)) outside whole bound (with bound (among (outputs_of (body g.1)))) outs outs' same (fits g.1 all.0).binds, arms_bind outs' same gs all.1)

  -- what a goal that stands for disjuncts has to be for any of them, with the outputs that occur in them
  abbrev pub IsGoodFor : List ℕ → List Node → Goal → Type 0
  IsGoodFor outs ds goal = (outs' : List ℕ) → AllFit (in_nodes (nodes_of ds)) outs ds → ((v : ℕ) → in_nodes (nodes_of ds) v ≡ true → among outs' v ≡ among outs v) → GoodGoal modes outside bound outs' goal

  itself_good : (outs : List ℕ) (ds : List Node) → IsGoodFor outs ds (Disjunction (nodes_of ds))
  itself_good outs ds outs' all same = (disjuncts_good (in_nodes (nodes_of ds)) outs ds all, disjuncts_bind (in_nodes (nodes_of ds)) outs outs' ds same all)

  filtered : (v : ℕ) (inner : Variables) (outs : List ℕ) → inner v ≡ true → among (filter inner outs) v ≡ among outs v
  filtered v inner outs h = among_filter v inner outs ∙ ap (λ (b : Bool). among outs v && b) h ∙ and_true (among outs v) where
    and_true : (b : Bool) → (b && true) ≡ b
    and_true true = refl
    and_true false = refl

  several_fit : (whole : Variables) (outs : List ℕ) (at : Span) (ds : List Node) (goal : Goal) → AreFree bound outs → AllFit whole outs ds → StandsFor declared types modes ds goal → IsGoodFor outs ds goal
      → Fits whole outs (node goal (filter (λ v. in_nodes (nodes_of ds) v) outs) None at)
  several_fit whole outs at ds goal free all stands good = record {
    good = (
      λ v h. stands.inside v ∙ and_right (among outs v) (in_nodes (nodes_of ds) v) (sym (among_filter v (in_nodes (nodes_of ds)) outs) ∙ h),
      free_filter bound (in_nodes (nodes_of ds)) outs free,
      good (filter (λ v. in_nodes (nodes_of ds) v) outs)
          (fit_part whole (in_nodes (nodes_of ds)) outs ds (within_all whole outs ds all) (λ v h. h) all) (λ v h. filtered v (in_nodes (nodes_of ds)) outs h),
    );
    binds = subst (λ (b : Bool). ArmBinds b outside whole bound outs (with bound (among (filter (λ v. in_nodes (nodes_of ds) v) outs)))) (sym stands.ends) (parts_bind whole (in_nodes (nodes_of ds)) outs ds (λ v h. h) all);
    within = λ v h. within_all whole outs ds all v (sym (stands.inside v) ∙ h);
  }

  body_fits : (whole : Variables) (outs : List ℕ) (at : Span) (again : List Node → Goal) → ((ds : List Node) → StandsFor declared types modes ds (again ds)) → AreFree bound outs → ((ds : List Node) → IsGoodFor outs ds (again ds))
      → (ds : List Node) → AllFit whole outs ds → Fits whole outs (arm_body declared types outs at again ds)
  body_fits whole outs at again stands free good [] all = several_fit whole outs at [] (again []) free all (stands []) (good [])
  body_fits whole outs at again stands free good (d ∷ []) all = all.0
  body_fits whole outs at again stands free good (d ∷ e ∷ ds) all = several_fit whole outs at (d ∷ e ∷ ds) (again (d ∷ e ∷ ds)) free all (stands (d ∷ e ∷ ds)) (good (d ∷ e ∷ ds))

  switch_good : (outs used : List ℕ) (at : Span) (again : ℕ → List Node → Goal) → ((x : ℕ) (ds : List Node) → StandsFor declared types modes ds (again x ds)) → AreFree bound outs → ((x : ℕ) (ds : List Node) → IsGoodFor outs ds (again x ds))
      → (ds : List Node) (o : Option ℕ) → choice declared types bound used ds ≡ o
      → StandsFor declared types modes ds (switched declared types o (λ x. Switch x (arms_of_groups declared types (arm_body declared types outs at (again x)) (grouped x ds))) ds)
      → IsGoodFor outs ds (switched declared types o (λ x. Switch x (arms_of_groups declared types (arm_body declared types outs at (again x)) (grouped x ds))) ds)
  switch_good outs used at again inner free good ds None is stands outs' all same = itself_good outs ds outs' all same
  switch_good outs used at again inner free good ds (Some x) is stands outs' all same =
      let whole = in_nodes (nodes_of ds) in
      let body = arm_body declared types outs at (again x) in
      let bound_x = (chosen declared types bound used ds x is).can.is_bound in
      let fits = body_fits whole outs at (again x) (inner x) free (good x) in
      let groups = grouped_all (Fits whole outs) x ds all in (
        bound_x,
        subst (λ (o : Variables). GoodArms modes o bound (arms_of_groups declared types body (grouped x ds))) (known_outside bound outside x held bound_x) (arms_good body whole outs fits (grouped x ds) groups),
        subst (λ (i : Variables). ArmsBind modes outside i bound outs' (arms_of_groups declared types body (grouped x ds))) (sym (fun_ext stands.inside)) (arms_bind body whole outs fits outs' same (grouped x ds) groups),
      )

  pub regrouped_good : (left : ℕ) (outs : List ℕ) (at : Span) (used : List ℕ) (ds : List Node) → AreFree bound outs → IsGoodFor outs ds (regrouped declared types left outs at bound used ds)
  regrouped_good zero outs at used ds free = itself_good outs ds
  regrouped_good (suc left) outs at used ds free =
      switch_good outs used at (λ x several. regrouped declared types left outs at bound (x ∷ used) several)
      (λ x several. regrouped_stands declared types modes left outs at bound (x ∷ used) several) free (λ x several. regrouped_good left outs at (x ∷ used) several free)
      ds (choice declared types bound used ds) refl (regrouped_stands declared types modes (suc left) outs at bound used ds)
