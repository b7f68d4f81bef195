-- A goal with its tests written out is good.
use Rattle.std.proofs.Common.{◌≡◌, ◌⊎◌, inl, inr, ℕ, suc, ◌<◌, ◌≤◌, Bool, true, false, ◌==◌, ◌||◌, ◌&&◌, List, [], ◌∷◌, filter, None, refl, ap, sym, subst, ◌∙◌}
use Rattle.std.proofs.lemmas.Bool.Decides.{Decides-eqb}
use Rattle.merc_base.specs.declared.place.Span.{Span}
use Rattle.merc_tree.specs.declared.declarations.ModeDecl.{ModeDecl}
use Rattle.merc_graded_tree.specs.declared.basic.BasicGoal.{BasicGoal}
use Rattle.merc_graded_tree.specs.declared.basic.BasicGoal.TheVariants.{Test as TestGoal}
use Rattle.merc_graded_tree.specs.declared.entries.Running.TheVariants.{Sequential}
use Rattle.merc_graded_tree.specs.Nodes.{Node, node, Basic, Conjunction, Nodes, more_nodes, outputs_of}
use Rattle.merc_graded_tree.specs.Variables.{variables_of, in_goal, in_node, in_nodes}
use Rattle.merc_order.specs.Bound.{Bound, with, among}
use Rattle.merc_order.specs.Spelt.{numbered, tests_of, inner_outputs, with_tests}
use Rattle.merc_order_laws.specs.Bindings.{Variables, AreBound, AreFree, Binds}
use Rattle.merc_order_laws.specs.GoodTree.{behind_nodes, node_ends, all_nodes_end, basic_ends, GoodBasic, GoodNode, GoodNodes}
use Rattle.merc_order_laws.proofs.Facts.{clash, or_left, or_right, or_cases, and_left, not_true, or_same, among_append, among_filter, free_filter}
use Rattle.merc_order_laws.proofs.Replacing.{right_false, first_among, not_numbered, free_numbered, free_append}

-- A goal in front of its tests: the variables that it has bound before, what it writes, and what it writes once tested places are fresh.
pub record Group (at : ℕ) (goal : BasicGoal) (b base occ : Variables) (writes tested news : List ℕ) : Type 0 where
  pub base_bound : (v : ℕ) → base v ≡ true → b v ≡ true
  pub variables_are : (v : ℕ) → among (variables_of goal) v ≡ (base v || among news v)
  pub news_are : (v : ℕ) → among news v ≡ (among writes v || among (numbered at tested) v)
  pub occ_is : (v : ℕ) → occ v ≡ (base v || (among writes v || among tested v))

tests_case : (n o r s t : Bool) → r ≡ (s || t) → ((n || (o || false)) || r) ≡ ((o || s) || (n || t))
tests_case true true r s t h = refl
tests_case true false r true t h = refl
tests_case true false r false t h = refl
tests_case false true r s t h = refl
tests_case false false r s t h = h

pub in_tests : (at : ℕ) (ys : List ℕ) (span : Span) (v : ℕ) → in_nodes (tests_of at ys span) v ≡ (among ys v || among (numbered at ys) v)
in_tests at [] span v = refl
in_tests at (y ∷ ys) span v = tests_case (v == at) (v == y) (in_nodes (tests_of (suc at) ys span) v) (among ys v) (among (numbered (suc at) ys) v) (in_tests (suc at) ys span v)

pub behind_tests : (at : ℕ) (ys : List ℕ) (span : Span) (b : Bound) (v : ℕ) → behind_nodes b (tests_of at ys span) v ≡ b v
behind_tests at [] span b v = refl
behind_tests at (y ∷ ys) span b v = behind_tests (suc at) ys span (with b (among [])) v ∙ right_false (b v)

among_inner : (at : ℕ) (outs writes tested : List ℕ) (v : ℕ) → among (inner_outputs at outs writes tested) v ≡ ((among writes v && (among outs v || among tested v)) || among (numbered at tested) v)
among_inner at outs writes tested v =
    among_append v (filter (λ z. among outs z || among tested z) writes) (numbered at tested)
    ∙ ap (λ (k : Bool). k || among (numbered at tested) v) (among_filter v (λ z. among outs z || among tested z) writes)

pub bound_in : (b : Variables) (ys : List ℕ) → AreBound b ys → (v : ℕ) → among ys v ≡ true → b v ≡ true
bound_in b [] h v k = clash k refl
bound_in b (y ∷ ys) h v k = elim (or_cases (v == y) (among ys v) k) as (λ _. b v ≡ true) [
  | inl j ↦ subst (λ (z : ℕ). b z ≡ true) (sym ((Decides-eqb v y).0 j)) h.0
  | inr j ↦ bound_in b ys h.1 v j
]

free_in : (b : Variables) (ys : List ℕ) → AreFree b ys → (v : ℕ) → among ys v ≡ true → b v ≡ false
free_in b [] h v k = clash k refl
free_in b (y ∷ ys) h v k = elim (or_cases (v == y) (among ys v) k) as (λ _. b v ≡ false) [
  | inl j ↦ subst (λ (z : ℕ). b z ≡ false) (sym ((Decides-eqb v y).0 j)) h.0
  | inr j ↦ free_in b ys h.2 v j
]

module _ (modes : ℕ → List ModeDecl) where
  tests_good : (at : ℕ) (ys : List ℕ) (span : Span) (out b : Variables) → ((v : ℕ) → among ys v ≡ true → b v ≡ true) → ((v : ℕ) → among (numbered at ys) v ≡ true → b v ≡ true) → GoodNodes modes out b (tests_of at ys span)
  tests_good at [] span out b f g = tt
  tests_good at (y ∷ ys) span out b f g = (
    (λ v h. clash h refl, tt, (g at (first_among at (numbered (suc at) ys)), f y (first_among y ys))),
    tests_good (suc at) ys span (with out (in_node (node (Basic (TestGoal at y)) [] None span))) (with b (among []))
        (λ v h. or_left (b v) false (f v (or_right (v == y) (among ys v) h)))
        (λ v h. or_left (b v) false (g v (or_right (v == at) (among (numbered (suc at) ys) v) h))),
  )

  tests_end : (at : ℕ) (ys : List ℕ) (span : Span) → all_nodes_end modes (tests_of at ys span) ≡ true
  tests_end at [] span = refl
  tests_end at (y ∷ ys) span = tests_end (suc at) ys span

  and_true : (a c : Bool) → c ≡ true → (a && c) ≡ a
  and_true true c h = h
  and_true false c h = refl

  pub group_ends : (at : ℕ) (goal : BasicGoal) (writes tested outs : List ℕ) (span : Span) → node_ends modes (with_tests at goal writes tested outs span) ≡ basic_ends modes goal
  group_ends at goal writes [] outs span = refl
  group_ends at goal writes (y ∷ ys) outs span = and_true (basic_ends modes goal) (all_nodes_end modes (tests_of at (y ∷ ys) span)) (tests_end at (y ∷ ys) span)

  pub group_outputs : (at : ℕ) (goal : BasicGoal) (writes tested outs : List ℕ) (span : Span) → outputs_of (with_tests at goal writes tested outs span) ≡ outs
  group_outputs at goal writes [] outs span = refl
  group_outputs at goal writes (y ∷ ys) outs span = refl

  inner_case : (b s n w i : Bool) → (s ≡ true → b ≡ true) → (w ≡ true → i ≡ true) → (s || w) ≡ true → (b || w) ≡ (b || i)
  inner_case true s n w i f g h = refl
  inner_case false true n w i f g h = clash (f refl) refl
  inner_case false false n w i f g h = h ∙ sym (g h)

  -- the goal itself leaves bound what it writes of what occurs outside it
  inner_binds : (at : ℕ) (goal : BasicGoal) (b base occ out : Variables) (writes tested news outs : List ℕ) → Group at goal b base occ writes tested news
      → ((v : ℕ) → out v ≡ true → among writes v ≡ true → (among outs v || among tested v) ≡ true)
      → Binds out (among (variables_of goal)) b (inner_outputs at outs writes tested) (with b (among news))
  inner_binds at goal b base occ out writes tested news outs g c v h o =
      inner_case (b v) (base v) false (among news v) (among (inner_outputs at outs writes tested) v) (g.base_bound v)
      (λ k. among_inner at outs writes tested v ∙ elim (or_cases (among writes v) (among (numbered at tested) v) (sym (g.news_are v) ∙ k)) as (λ _. ((among writes v && (among outs v || among tested v)) || among (numbered at tested) v) ≡ true) [
        | inl j ↦ or_left (among writes v && (among outs v || among tested v)) (among (numbered at tested) v) (both (among writes v) (among outs v || among tested v) j (c v o j))
        | inr j ↦ or_right (among writes v && (among outs v || among tested v)) (among (numbered at tested) v) j
      ])
      (sym (g.variables_are v) ∙ h) where
        both : (p q : Bool) → p ≡ true → q ≡ true → (p && q) ≡ true
        both p q h k = cc

  output_case : (b w o : Bool) → (b || w) ≡ (b || o) → b ≡ false → w ≡ true → o ≡ true
  output_case true w o h f g = clash refl f
  output_case false w o h f g = sym h ∙ g

  whole_case : (b w o t n : Bool) → n ≡ false → (b || w) ≡ (b || o) → (b || ((w && (o || t)) || n)) ≡ (b || o)
  whole_case true w o t n f h = refl
  whole_case false true true t n f h = refl
  whole_case false true false t n f h = clash refl h
  whole_case false false true t n f h = clash h refl
  whole_case false false false t n f h = f

  no_tests_case : (b w n : Bool) (o : Bool) → n ≡ (w || false) → (b || w) ≡ (b || o) → (b || n) ≡ (b || o)
  no_tests_case true w n o f h = refl
  no_tests_case false true n o f h = f ∙ h
  no_tests_case false false n o f h = f ∙ h

  -- What a goal that writes has to keep to, where its fresh variables have the numbers from here on.
  pub record Stands (at : ℕ) (goal : BasicGoal) (b base occ out out' : Variables) (writes tested news outs : List ℕ) : Type 0 where
    pub group : Group at goal b base occ writes tested news
    pub are_free : AreFree b writes
    pub are_tested : AreBound (with b (among writes)) tested
    pub binds : Binds out occ b outs (with b (among writes))
    pub outs_in : (v : ℕ) → among outs v ≡ true → occ v ≡ true
    pub outs_free : AreFree b outs
    pub below : (v : ℕ) → occ v ≡ true → v < at
    pub none_bound : (v : ℕ) → at ≤ v → b v ≡ false
    pub agree : (v : ℕ) → occ v ≡ true → out' v ≡ out v
    pub misses : (v : ℕ) → among (numbered at tested) v ≡ true → out' v ≡ false
    pub basic : (o : Variables) (i : List ℕ) → Binds o (among (variables_of goal)) b i (with b (among news)) → GoodBasic modes o b i goal

  conjunction_good : (at : ℕ) (goal : BasicGoal) (b base occ out out' : Variables) (writes tested news outs : List ℕ) (span : Span) → Stands at goal b base occ out out' writes tested news outs
      → GoodNode modes out' b (node (Conjunction Sequential (more_nodes (node (Basic goal) (inner_outputs at outs writes tested) None span) (tests_of at tested span))) outs None span)
  conjunction_good at goal b base occ out out' writes tested news outs span s =
      let g = s.group in
      let write_in : (v : ℕ) → among writes v ≡ true → occ v ≡ true =
      λ v h. g.occ_is v ∙ or_right (base v) (among writes v || among tested v) (or_left (among writes v) (among tested v) h) in
      let news_in : (v : ℕ) → among news v ≡ true → among (variables_of goal) v ≡ true = λ v h. g.variables_are v ∙ or_right (base v) (among news v) h in
      let written_in : (v : ℕ) → among writes v ≡ true → among (variables_of goal) v ≡ true =
      λ v h. news_in v (g.news_are v ∙ or_left (among writes v) (among (numbered at tested) v) h) in
      let fresh_in : (v : ℕ) → among (numbered at tested) v ≡ true → among (variables_of goal) v ≡ true =
      λ v h. news_in v (g.news_are v ∙ or_right (among writes v) (among (numbered at tested) v) h) in
      let inner : List ℕ = inner_outputs at outs writes tested in
      let goal_node : Node = node (Basic goal) (inner_outputs at outs writes tested) None span in
      let tests : Nodes = tests_of at tested span in (
        λ v h. elim (or_cases (base v) (among writes v || among tested v) (sym (g.occ_is v) ∙ s.outs_in v h)) as (λ _. (in_node goal_node v || in_nodes tests v) ≡ true) [
          | inl k ↦ or_left (in_node goal_node v) (in_nodes tests v) (g.variables_are v ∙ or_left (base v) (among news v) k)
          | inr k ↦ elim (or_cases (among writes v) (among tested v) k) as (λ _. (in_node goal_node v || in_nodes tests v) ≡ true) [
            | inl j ↦ or_left (in_node goal_node v) (in_nodes tests v) (written_in v j)
            | inr j ↦ or_right (in_node goal_node v) (in_nodes tests v) (in_tests at tested span v ∙ or_left (among tested v) (among (numbered at tested) v) j)
          ]
        ],
        s.outs_free,
        (
          (
            (
              λ v h. elim (or_cases (among writes v && (among outs v || among tested v)) (among (numbered at tested) v) (sym (among_inner at outs writes tested v) ∙ h)) as (λ _. among (variables_of goal) v ≡ true) [
                | inl k ↦ written_in v (and_left (among writes v) (among outs v || among tested v) k)
                | inr k ↦ fresh_in v k
              ],
              free_append b (filter (λ z. among outs z || among tested z) writes) (numbered at tested) (free_filter b (λ z. among outs z || among tested z) writes s.are_free)
                  (free_numbered b at tested s.none_bound)
                  (λ v h. not_numbered at tested v (s.below v (write_in v (and_left (among writes v) (among outs v || among tested v) (sym (among_filter v (λ z. among outs z || among tested z) writes) ∙ h))))),
              s.basic (with out' (in_nodes tests)) inner (inner_binds at goal b base occ (with out' (in_nodes tests)) writes tested news outs g (λ v o k.
                  let i : occ v ≡ true = write_in v k in
                  elim (or_cases (out' v) (in_nodes tests v) o) as (λ _. (among outs v || among tested v) ≡ true) [
                    | inl j ↦ or_left (among outs v) (among tested v) (output_case (b v) (among writes v) (among outs v) (s.binds v i (sym (s.agree v i) ∙ j)) (free_in b writes s.are_free v k) k)
                    | inr j ↦ elim (or_cases (among tested v) (among (numbered at tested) v) (sym (in_tests at tested span v) ∙ j)) as (λ _. (among outs v || among tested v) ≡ true) [
                      | inl l ↦ or_right (among outs v) (among tested v) l
                      | inr l ↦ clash l (not_numbered at tested v (s.below v i))
                    ]
                  ])),
            ),
            tests_good at tested span (with out' (in_node goal_node)) (with b (among inner))
                (λ v h. elim (or_cases (b v) (among writes v) (bound_in (with b (among writes)) tested s.are_tested v h)) as (λ _. with b (among inner) v ≡ true) [
                  | inl k ↦ or_left (b v) (among inner v) k
                  | inr k ↦ or_right (b v) (among inner v) (among_inner at outs writes tested v
                      ∙ or_left (among writes v && (among outs v || among tested v)) (among (numbered at tested) v) (both (among writes v) (among outs v || among tested v) k (or_right (among outs v) (among tested v) h)))
                ])
                (λ v h. or_right (b v) (among inner v) (among_inner at outs writes tested v ∙ or_right (among writes v && (among outs v || among tested v)) (among (numbered at tested) v) h)),
          ),
          λ v h o.
              let none : among (numbered at tested) v ≡ false = not_true (among (numbered at tested) v) (λ k. clash o (s.misses v k)) in
              let i : occ v ≡ true = g.occ_is v ∙ elim (or_cases (in_node goal_node v) (in_nodes tests v) h) as (λ _. (base v || (among writes v || among tested v)) ≡ true) [
                | inl k ↦ elim (or_cases (base v) (among news v) (sym (g.variables_are v) ∙ k)) as (λ _. (base v || (among writes v || among tested v)) ≡ true) [
                  | inl j ↦ or_left (base v) (among writes v || among tested v) j
                  | inr j ↦ or_right (base v) (among writes v || among tested v) (or_left (among writes v) (among tested v) (either_left (among writes v) (among (numbered at tested) v) none (sym (g.news_are v) ∙ j)))
                ]
                | inr k ↦ or_right (base v) (among writes v || among tested v)
                    (or_right (among writes v) (among tested v) (either_left (among tested v) (among (numbered at tested) v) none (sym (in_tests at tested span v) ∙ k)))
              ] in
              behind_tests at tested span (with b (among inner)) v
              ∙ ap (λ (k : Bool). b v || k) (among_inner at outs writes tested v)
              ∙ whole_case (b v) (among writes v) (among outs v) (among tested v) (among (numbered at tested) v) none (s.binds v i (sym (s.agree v i) ∙ o)),
        ),
      ) where
        both : (p q : Bool) → p ≡ true → q ≡ true → (p && q) ≡ true
        both p q h k = cc

        either_left : (p q : Bool) → q ≡ false → (p || q) ≡ true → p ≡ true
        either_left true q f h = refl
        either_left false q f h = clash h f

  pub group_good : (at : ℕ) (goal : BasicGoal) (b base occ out out' : Variables) (writes tested news outs : List ℕ) (span : Span) → Stands at goal b base occ out out' writes tested news outs
      → GoodNode modes out' b (with_tests at goal writes tested outs span)
  group_good at goal b base occ out out' writes (y ∷ ys) news outs span s = conjunction_good at goal b base occ out out' writes (y ∷ ys) news outs span s
  group_good at goal b base occ out out' writes [] news outs span s =
      let g = s.group in
      let same : (v : ℕ) → among (variables_of goal) v ≡ occ v =
      λ v. g.variables_are v ∙ ap (λ (k : Bool). base v || k) (g.news_are v) ∙ sym (g.occ_is v) in (
        λ v h. same v ∙ s.outs_in v h,
        s.outs_free,
        s.basic out' outs (λ v h o.
            let i : occ v ≡ true = sym (same v) ∙ h in
            no_tests_case (b v) (among writes v) (among news v) (among outs v) (g.news_are v) (s.binds v i (sym (s.agree v i) ∙ o))),
      )

  -- Which variables occur in a goal with its tests: those that occurred, and the fresh ones.

  pub group_old : (at : ℕ) (goal : BasicGoal) (base occ : Variables) (writes tested news other outs : List ℕ) (span : Span) (b : Variables) → Group at goal b base occ writes tested news → (v : ℕ) → v < at
      → in_node (with_tests at goal other tested outs span) v ≡ occ v
  group_old at goal base occ writes [] news other outs span b g v l = g.variables_are v ∙ ap (λ (k : Bool). base v || k) (g.news_are v) ∙ sym (g.occ_is v)
  group_old at goal base occ writes (y ∷ ys) news other outs span b g v l =
      old_case (base v) (among writes v) (among (y ∷ ys) v) (among (numbered at (y ∷ ys)) v) (among news v) (in_goal (Basic goal) v) (in_nodes (tests_of at (y ∷ ys) span) v)
      (not_numbered at (y ∷ ys) v l) (g.variables_are v) (g.news_are v) (in_tests at (y ∷ ys) span v)
      ∙ sym (g.occ_is v) where
        old_case : (s w t n u k r : Bool) → n ≡ false → k ≡ (s || u) → u ≡ (w || n) → r ≡ (t || n) → (k || r) ≡ (s || (w || t))
        old_case true w t n u k r f p q e = or_left k r p
        old_case false true t n u k r f p q e = or_left k r (p ∙ q)
        old_case false false t n u k r f p q e = or_same k r false t (p ∙ q ∙ f) (e ∙ ap (λ (z : Bool). t || z) f ∙ right_false t)

  pub group_new : (at : ℕ) (goal : BasicGoal) (base occ : Variables) (writes tested news other outs : List ℕ) (span : Span) (b : Variables) → Group at goal b base occ writes tested news → (v : ℕ)
      → in_node (with_tests at goal other tested outs span) v ≡ true → (occ v ≡ true) ⊎ (among (numbered at tested) v ≡ true)
  group_new at goal base occ writes [] news other outs span b g v h = inl (sym (g.variables_are v ∙ ap (λ (k : Bool). base v || k) (g.news_are v) ∙ sym (g.occ_is v)) ∙ h)
  group_new at goal base occ writes (y ∷ ys) news other outs span b g v h =
      elim (or_cases (in_goal (Basic goal) v) (in_nodes (tests_of at (y ∷ ys) span) v) h) as (λ _. (occ v ≡ true) ⊎ (among (numbered at (y ∷ ys)) v ≡ true)) [
        | inl k ↦ elim (or_cases (base v) (among news v) (sym (g.variables_are v) ∙ k)) as (λ _. (occ v ≡ true) ⊎ (among (numbered at (y ∷ ys)) v ≡ true)) [
          | inl j ↦ inl (g.occ_is v ∙ or_left (base v) (among writes v || among (y ∷ ys) v) j)
          | inr j ↦ elim (or_cases (among writes v) (among (numbered at (y ∷ ys)) v) (sym (g.news_are v) ∙ j)) as (λ _. (occ v ≡ true) ⊎ (among (numbered at (y ∷ ys)) v ≡ true)) [
            | inl i ↦ inl (g.occ_is v ∙ or_right (base v) (among writes v || among (y ∷ ys) v) (or_left (among writes v) (among (y ∷ ys) v) i))
            | inr i ↦ inr i
          ]
        ]
        | inr k ↦ elim (or_cases (among (y ∷ ys) v) (among (numbered at (y ∷ ys)) v) (sym (in_tests at (y ∷ ys) span v) ∙ k)) as (λ _. (occ v ≡ true) ⊎ (among (numbered at (y ∷ ys)) v ≡ true)) [
          | inl j ↦ inl (g.occ_is v ∙ or_right (base v) (among writes v || among (y ∷ ys) v) (or_right (among writes v) (among (y ∷ ys) v) j))
          | inr j ↦ inr j
        ]
      ]
