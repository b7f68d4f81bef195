-- A goal with fresh variables at tested places, and the tests behind it, has the truth of the goal as it is written.
use Rattle.std.proofs.Common.{◌≡◌, ◌⊎◌, inl, inr, ℕ, ◌<◌, Bool, true, false, ◌||◌, List, [], ◌∷◌, None, refl, ap, sym, subst, ◌∙◌}
use Rattle.std.specs.List.{AllByRecursion}
use Rattle.merc_base.specs.declared.place.Span.{Span}
use Rattle.merc_graded_tree.specs.declared.basic.BasicGoal.{BasicGoal}
use Rattle.merc_graded_tree.specs.declared.entries.Running.TheVariants.{Sequential}
use Rattle.merc_graded_tree.specs.Nodes.{Node, node, Basic, Conjunction, Nodes, more_nodes}
use Rattle.merc_graded_tree.specs.Variables.{variables_of, in_node, in_nodes}
use Rattle.merc_order.specs.Bound.{among}
use Rattle.merc_order.specs.Spelt.{replaced, tested_places, untested_places, numbered, tests_of, inner_outputs, with_tests}
use Rattle.merc_meaning.specs.Truth.{Assignment, IsAssignment, AgreeOn, Outside, with, Judgement, assigned, YesBasic, NoBasic, Yes, No, NoAny}
use Rattle.merc_order_laws.proofs.Facts.{clash, or_left, or_right, or_cases, not_true}
use Rattle.merc_order_laws.proofs.Replacing.{among_replaced, among_places, not_numbered}
use Rattle.merc_order_laws.proofs.Grouping.{in_tests}
use Rattle.merc_program_laws.proofs.Basics.{either, assigned_same}
use Rattle.merc_program_laws.proofs.Local.{Match}
use Rattle.merc_program_laws.proofs.Keeping.{Misses, Grown, Law}
use Rattle.merc_program_laws.proofs.Tests.{each_map, each_both, each_of, each_fresh, each_in, Equal, equal_assigned, twin, twin_values, twin_other, twin_equal, Held, tests_yes, tests_equal, tests_not, decide_tests}

-- a tested variable occurs outside, or at a place of its goal that is not tested
abbrev pub IsHeld : List ℕ → List Bool → Outside → ℕ → Type 0
IsHeld args tests out x = (out x ≡ true) ⊎ (among (untested_places args tests) x ≡ true)

abbrev pub AreHeld : List ℕ → List Bool → Outside → Type 0
AreHeld args tests out = AllByRecursion (IsHeld args tests out) (tested_places args tests)

-- the fresh variables that stand for these
abbrev pub fresh : ℕ → List ℕ → Outside
fresh at xs = among (numbered at xs)

none_replaced : (at : ℕ) (xs : List ℕ) (ts : List Bool) → tested_places xs ts ≡ [] → replaced at xs ts ≡ xs
none_replaced at [] ts e = refl
none_replaced at (x ∷ xs) [] e = refl
none_replaced at (x ∷ xs) (true ∷ ts) e = absurd cc
none_replaced at (x ∷ xs) (false ∷ ts) e = ap (λ (l : List ℕ). x ∷ l) (none_replaced at xs ts e)

-- Given are the goal, of which these variables are not among its arguments, and what is tested.
module _ (y n : Judgement) (made : List ℕ → BasicGoal) (base : Outside) (at : ℕ) (args : List ℕ) (tests : List Bool) (outs : List ℕ) (span : Span)
    (occurs : (v : ℕ) → among (variables_of (made args)) v ≡ (base v || among args v))
    (occurs' : (v : ℕ) → among (variables_of (made (replaced at args tests))) v ≡ (base v || among (replaced at args tests) v))
    (small : (v : ℕ) → among (variables_of (made args)) v ≡ true → v < at)
    (yes_in : (s s' : Assignment) → Match base s s' → assigned s args ≡ assigned s' (replaced at args tests) → YesBasic y n (made args) s → YesBasic y n (made (replaced at args tests)) s')
    (yes_out : (s s' : Assignment) → Match base s s' → assigned s (replaced at args tests) ≡ assigned s' args → YesBasic y n (made (replaced at args tests)) s → YesBasic y n (made args) s')
    (no_in : (s s' : Assignment) → Match base s s' → assigned s args ≡ assigned s' (replaced at args tests) → NoBasic y n (made args) s → NoBasic y n (made (replaced at args tests)) s')
    (no_out : (s s' : Assignment) → Match base s s' → assigned s (replaced at args tests) ≡ assigned s' args → NoBasic y n (made (replaced at args tests)) s → NoBasic y n (made args) s') where
  abbrev pub ys : List ℕ
  ys = tested_places args tests

  abbrev pub news : List ℕ
  news = replaced at args tests

  abbrev pub lone : Node
  lone = node (Basic (made args)) outs None span

  abbrev pub first : List ℕ → Node
  first inner = node (Basic (made news)) inner None span

  abbrev pub rest : Nodes
  rest = tests_of at ys span

  abbrev pub grouped : List ℕ → Node
  grouped inner = node (Conjunction Sequential (more_nodes (first inner) rest)) outs None span

  small_base : (v : ℕ) → base v ≡ true → v < at
  small_base v h = small v (occurs v ∙ or_left (base v) (among args v) h)

  small_args : (v : ℕ) → among args v ≡ true → v < at
  small_args v h = small v (occurs v ∙ or_right (base v) (among args v) h)

  small_tested : (v : ℕ) → among ys v ≡ true → v < at
  small_tested v h = small_args v (among_places args tests v ∙ or_right (among (untested_places args tests) v) (among ys v) h)

  base_fresh : (v : ℕ) → base v ≡ true → fresh at ys v ≡ false
  base_fresh v h = not_numbered at ys v (small_base v h)

  arg_fresh : (v : ℕ) → among args v ≡ true → fresh at ys v ≡ false
  arg_fresh v h = not_numbered at ys v (small_args v h)

  out_fresh : (out : Outside) → Misses (fresh at ys) out → (v : ℕ) → out v ≡ true → fresh at ys v ≡ false
  out_fresh out i v h = not_true (fresh at ys v) (λ k. clash h (i v k))

  -- what stands in the goal itself: its other variables, the places that are not tested, and the fresh variables

  in_first : (inner : List ℕ) (v : ℕ) → among news v ≡ true → in_node (first inner) v ≡ true
  in_first inner v h = occurs' v ∙ or_right (base v) (among news v) h

  kept_first : (inner : List ℕ) (v : ℕ) → among (untested_places args tests) v ≡ true → in_node (first inner) v ≡ true
  kept_first inner v h = in_first inner v (among_replaced at args tests v ∙ or_left (among (untested_places args tests) v) (fresh at ys v) h)

  fresh_first : (inner : List ℕ) (v : ℕ) → fresh at ys v ≡ true → in_node (first inner) v ≡ true
  fresh_first inner v h = in_first inner v (among_replaced at args tests v ∙ or_right (among (untested_places args tests) v) (fresh at ys v) h)

  -- what stands in the tests

  tested_rest : (v : ℕ) → among ys v ≡ true → in_nodes rest v ≡ true
  tested_rest v h = in_tests at ys span v ∙ or_left (among ys v) (fresh at ys v) h

  fresh_rest : (v : ℕ) → fresh at ys v ≡ true → in_nodes rest v ≡ true
  fresh_rest v h = in_tests at ys span v ∙ or_right (among ys v) (fresh at ys v) h

  held : (inner : List ℕ) (out : Outside) → AreHeld args tests out → Held (with out (in_node (first inner))) at ys
  held inner out o =
      each_map (λ f x. (in_node (first inner) f ≡ true) × IsHeld args tests out x) (λ f x. (with out (in_node (first inner)) f ≡ true) × (with out (in_node (first inner)) x ≡ true)) at ys
      (λ f x k. (
        or_right (out f) (in_node (first inner) f) k.0,
        elim k.1 as (λ _. with out (in_node (first inner)) x ≡ true) [
          | inl j ↦ or_left (out x) (in_node (first inner) x) j
          | inr j ↦ or_right (out x) (in_node (first inner) x) (kept_first inner x j)
        ],
      ))
      (each_both (λ f x. in_node (first inner) f ≡ true) (λ f x. IsHeld args tests out x) at ys (each_fresh (in_node (first inner)) at ys (fresh_first inner)) (each_of (IsHeld args tests out) at ys o))

  -- what agrees on the tests' variables has them equal too
  still_equal : (o : Outside) (t u : Assignment) → AgreeOn (with o (in_nodes rest)) t u → Equal t at ys → Equal u at ys
  still_equal o t u a e =
      each_map (λ f x. ((in_nodes rest f ≡ true) × (in_nodes rest x ≡ true)) × (t f ≡ t x)) (λ f x. u f ≡ u x) at ys
      (λ f x k. a f (or_right (o f) (in_nodes rest f) k.0.0) ∙ k.1 ∙ sym (a x (or_right (o x) (in_nodes rest x) k.0.1)))
      (each_both (λ f x. (in_nodes rest f ≡ true) × (in_nodes rest x ≡ true)) (λ f x. t f ≡ t x) at ys (each_in (in_nodes rest) at ys fresh_rest tested_rest) e)

  twin_args : (s : Assignment) → assigned s args ≡ assigned (twin at ys s) args
  twin_args s = assigned_same args s (twin at ys s) (λ x m. twin_other at ys s x (arg_fresh x m))

  twin_all : (s : Assignment) → assigned (twin at ys s) news ≡ assigned s args
  twin_all s = equal_assigned (twin at ys s) at args tests (twin_equal s at ys small_tested) ∙ sym (twin_args s)

  agree_twin : (out : Outside) (s t : Assignment) → Misses (fresh at ys) out → AgreeOn out s t → AgreeOn out s (twin at ys t)
  agree_twin out s t i a x m = twin_other at ys t x (out_fresh out i x m) ∙ a x m

  group_grown : (inner : List ℕ) → Grown (fresh at ys) (in_node lone) (in_node (grouped inner))
  group_grown inner = (
    λ v h. elim (or_cases (in_node (first inner) v) (in_nodes rest v) h) as (λ _. (in_node lone v ≡ true) ⊎ (fresh at ys v ≡ true)) [
      | inl k ↦ elim (or_cases (base v) (among news v) (sym (occurs' v) ∙ k)) as (λ _. (in_node lone v ≡ true) ⊎ (fresh at ys v ≡ true)) [
        | inl j ↦ inl (occurs v ∙ or_left (base v) (among args v) j)
        | inr j ↦ either (λ i. occurs v ∙ or_right (base v) (among args v) (among_places args tests v ∙ or_left (among (untested_places args tests) v) (among ys v) i)) (λ i. i)
            (or_cases (among (untested_places args tests) v) (fresh at ys v) (sym (among_replaced at args tests v) ∙ j))
      ]
      | inr k ↦ either (λ i. occurs v ∙ or_right (base v) (among args v) (among_places args tests v ∙ or_right (among (untested_places args tests) v) (among ys v) i)) (λ i. i)
          (or_cases (among ys v) (fresh at ys v) (sym (in_tests at ys span v) ∙ k))
    ],
    λ v h. elim (or_cases (base v) (among args v) (sym (occurs v) ∙ h)) as (λ _. in_node (grouped inner) v ≡ true) [
      | inl j ↦ or_left (in_node (first inner) v) (in_nodes rest v) (occurs' v ∙ or_left (base v) (among news v) j)
      | inr j ↦ elim (or_cases (among (untested_places args tests) v) (among ys v) (sym (among_places args tests v) ∙ j)) as (λ _. in_node (grouped inner) v ≡ true) [
        | inl i ↦ or_left (in_node (first inner) v) (in_nodes rest v) (kept_first inner v i)
        | inr i ↦ or_right (in_node (first inner) v) (in_nodes rest v) (tested_rest v i)
      ]
    ],
  )

  group_yes : (inner : List ℕ) (out : Outside) (s : Assignment) → Misses (fresh at ys) out → Yes y n out lone s → Yes y n out (grouped inner) s
  group_yes inner out s i h =
      let t : Assignment = twin at ys h.1.0 in
      let vt : IsAssignment t = twin_values at ys h.1.0 h.1.1 in (
        λ z. z,
        (
          t,
          vt,
          agree_twin out s h.1.0 i h.1.2,
          (
            (λ z. z, (t, vt, (λ x m. refl), yes_in h.1.0 t (λ x m. twin_other at ys h.1.0 x (base_fresh x m)) (sym (twin_all h.1.0)) h.1.3)),
            tests_yes y n span (with out (in_node (first inner))) at ys t vt (twin_equal h.1.0 at ys small_tested),
          ),
        ),
      )

  group_no : (inner : List ℕ) (out : Outside) (s : Assignment) → AreHeld args tests out → No y n out lone s → No y n out (grouped inner) s
  group_no inner out s o (inl z) = inl z
  group_no inner out s o (inr w) = inr (λ t v a. elim (decide_tests y n span (with out (in_node (first inner))) at ys t (held inner out o)) as (λ _. NoAny y n out (more_nodes (first inner) rest) t) [
    | inl e ↦ inl (inr (λ u vu b. no_in u u (λ x m. refl) (sym (equal_assigned u at args tests (still_equal out t u b e))) (w u vu (λ x m. b x (or_left (out x) (in_nodes rest x) m) ∙ a x m))))
    | inr k ↦ inr k
  ])

  ungroup_yes : (inner : List ℕ) (out : Outside) (s : Assignment) → AreHeld args tests out → Yes y n out (grouped inner) s → Yes y n out lone s
  ungroup_yes inner out s o h =
      let t : Assignment = h.1.0 in
      let e : Equal t at ys = tests_equal y n span (with out (in_node (first inner))) at ys t (held inner out o) h.1.3.1 in
      let u : Assignment = h.1.3.0.1.0 in
      let b : AgreeOn (with out (in_nodes rest)) t u = h.1.3.0.1.2 in (
        λ z. z,
        (
          u,
          h.1.3.0.1.1,
          (λ x m. b x (or_left (out x) (in_nodes rest x) m) ∙ h.1.2 x m),
          yes_out u u (λ x m. refl) (equal_assigned u at args tests (still_equal out t u b e)) h.1.3.0.1.3,
        ),
      )

  ungroup_no : (inner : List ℕ) (out : Outside) (s : Assignment) → Misses (fresh at ys) out → No y n out (grouped inner) s → No y n out lone s
  ungroup_no inner out s i (inl z) = inl z
  ungroup_no inner out s i (inr w) = inr (λ u v a.
      let t : Assignment = twin at ys u in
      let vt : IsAssignment t = twin_values at ys u v in
      elim (w t vt (agree_twin out s u i a)) as (λ _. NoBasic y n (made args) u) [
        | inl k ↦ elim k as (λ _. NoBasic y n (made args) u) [
          | inl z ↦ absurd z
          | inr f ↦ no_out t u (λ x m. sym (twin_other at ys u x (base_fresh x m))) (twin_all u) (f t vt (λ x m. refl))
        ]
        | inr k ↦ absurd (tests_not y n span (with out (in_node (first inner))) at ys t vt (twin_equal u at ys small_tested) k)
      ])

  grouped_law : (inner : List ℕ) → Law y n y n (fresh at ys) (AreHeld args tests) lone (grouped inner)
  grouped_law inner = record {
    grown = group_grown inner;
    there = λ out i o s v. (λ h. group_yes inner out s i h, λ h. group_no inner out s o h);
    return = λ out i o s v. (λ h. ungroup_yes inner out s o h, λ h. ungroup_no inner out s i h);
  }

  with_law : (writes l : List ℕ) → ys ≡ l → Law y n y n (fresh at ys) (AreHeld args tests) lone (with_tests at (made news) writes l outs span)
  with_law writes [] e = subst (λ (l : List ℕ). Law y n y n (fresh at ys) (AreHeld args tests) lone (node (Basic (made l)) outs None span)) (sym (none_replaced at args tests e)) (record {
    grown = (λ v h. inl h, λ v h. h);
    there = λ out i o s v. (λ h. h, λ h. h);
    return = λ out i o s v. (λ h. h, λ h. h);
  })
  with_law writes (x ∷ xs) e =
      subst (λ (l : List ℕ). Law y n y n (fresh at ys) (AreHeld args tests) lone (node (Conjunction Sequential (more_nodes (first (inner_outputs at outs writes (x ∷ xs))) (tests_of at l span))) outs None span)) e
      (grouped_law (inner_outputs at outs writes (x ∷ xs)))

  pub group_law : (writes : List ℕ) → Law y n y n (fresh at ys) (AreHeld args tests) lone (with_tests at (made news) writes ys outs span)
  group_law writes = with_law writes ys refl
