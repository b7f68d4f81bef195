-- The variables of an ordered goal with its tests written out, its outputs, and whether its end can be reached.
use Rattle.std.proofs.Common.{◌≡◌, ◌⊎◌, inl, inr, ℕ, ◌<◌, ◌≤◌, ◌+◌, Bool, true, false, ◌==◌, ◌||◌, ◌&&◌, List, [], ◌∷◌, ◌++◌, length, length-append, refl, ap, sym, subst, ◌∙◌, arith}
use Rattle.std.proofs.lemmas.Bool.Decides.{Decides-eqb}
use Rattle.merc_base.specs.declared.place.Span.{Span}
use Rattle.merc_tree.specs.declared.declarations.Arg.{Arg}
use Rattle.merc_tree.specs.declared.declarations.ModeDecl.{ModeDecl}
use Rattle.merc_goal_tree.specs.declared.goal.Operation.{Operation}
use Rattle.merc_goal_tree.specs.declared.goal.Symbol.{Symbol}
use Rattle.merc_graded_tree.specs.declared.basic.BasicGoal.TheVariants.{Split as SplitGoal, Arithmetic, Call}
use Rattle.merc_graded_tree.specs.Nodes.{outputs_of}
use Rattle.merc_graded_tree.specs.Variables.{in_node, in_nodes}
use Rattle.merc_order.specs.Bound.{Bound, with, among}
use Rattle.merc_order.specs.CallModes.{inputs_of}
use Rattle.merc_order.specs.Ordered.{Ordered, Step, Ordereds, put, Truth, Failure, Assign, Test, Build, Split, Computed, Compared, Raised, Called, Sequence, Beside, Choice, Decision, Denial, Within as Inside, no_goals, more_goals}
use Rattle.merc_order.specs.Spelt.{replaced, tested_places, untested_places, written, numbered, first_of, inputs_at, twins, step_twins, all_twins, spelt, spelt_step, spelt_all}
use Rattle.merc_order_laws.specs.Bindings.{Variables}
use Rattle.merc_order_laws.specs.GoodTree.{written_by, behind_nodes, node_ends, all_nodes_end, some_node_ends}
use Rattle.merc_order_laws.specs.OrderedVariables.{in_ordered, in_step, in_ordereds, ordered_outputs, bound_behind, ends, all_end, some_ends}
use Rattle.merc_order_laws.proofs.Facts.{or_left, or_right, or_cases, or_same, and_same}
use Rattle.merc_order_laws.proofs.Grouping.{Group, group_old, group_new, group_ends, group_outputs}
use Rattle.merc_order_laws.proofs.Replacing.{among_replaced, among_places, numbered_from, numbered_to, Placed, among_written, among_arguments, among_kinds}

-- Goals that write, as goals in front of their tests.

pub split_group : (at whole : ℕ) (symbol : Symbol) (arguments : List ℕ) (tests : List Bool) (b : Variables) → b whole ≡ true
    → Group at (SplitGoal whole symbol (replaced at arguments tests)) b (λ v. v == whole) (λ v. among (whole ∷ arguments) v) (untested_places arguments tests) (tested_places arguments tests) (replaced at arguments tests)
split_group at whole symbol arguments tests b h = record {
  base_bound = λ v k. subst (λ (z : ℕ). b z ≡ true) (sym ((Decides-eqb v whole).0 k)) h;
  variables_are = λ v. refl;
  news_are = among_replaced at arguments tests;
  occ_is = λ v. ap (λ (k : Bool). (v == whole) || k) (among_places arguments tests v);
}

pub one_place : (at result : ℕ) (tests : List Bool) → replaced at (result ∷ []) tests ≡ first_of (replaced at (result ∷ []) tests) ∷ []
one_place at result [] = refl
one_place at result (true ∷ tests) = refl
one_place at result (false ∷ tests) = refl

turned : (e b : Bool) → (e || b) ≡ (b || (e || false))
turned true true = refl
turned true false = refl
turned false true = refl
turned false false = refl

pub arithmetic_group : (at : ℕ) (operation : Operation) (result left right : ℕ) (tests : List Bool) (b : Variables) → ((v : ℕ) → among (left ∷ right ∷ []) v ≡ true → b v ≡ true)
    → Group at (Arithmetic operation (first_of (replaced at (result ∷ []) tests)) left right) b (λ v. among (left ∷ right ∷ []) v) (λ v. among (result ∷ left ∷ right ∷ []) v)
    (untested_places (result ∷ []) tests) (tested_places (result ∷ []) tests) (replaced at (result ∷ []) tests)
arithmetic_group at operation result left right tests b h = record {
  base_bound = h;
  variables_are = λ v.
      turned (v == first_of (replaced at (result ∷ []) tests)) (among (left ∷ right ∷ []) v)
      ∙ ap (λ (l : List ℕ). among (left ∷ right ∷ []) v || among l v) (sym (one_place at result tests));
  news_are = among_replaced at (result ∷ []) tests;
  occ_is = λ v. turned (v == result) (among (left ∷ right ∷ []) v) ∙ ap (λ (k : Bool). among (left ∷ right ∷ []) v || k) (among_places (result ∷ []) tests v);
}

pub call_group : (at predicate mode : ℕ) (places : List Arg) (arguments : List ℕ) (tests : List Bool) (b : Variables) → Placed places arguments tests → ((v : ℕ) → among (inputs_of places arguments) v ≡ true → b v ≡ true)
    → Group at (Call (record { predicate = predicate; mode = mode }) (replaced at arguments tests)) b (λ v. among (inputs_of places arguments) v) (λ v. among arguments v)
    (written places arguments tests) (tested_places arguments tests) (written_by places (replaced at arguments tests))
call_group at predicate mode places arguments tests b p h = record {
  base_bound = h;
  variables_are = among_arguments at places arguments tests p;
  news_are = among_written at places arguments tests p;
  occ_is = among_kinds places arguments tests p;
}

-- a call of which nothing is known
any_call : (at predicate mode : ℕ) (arguments : List ℕ) (tests : List Bool)
    → Group at (Call (record { predicate = predicate; mode = mode }) (replaced at arguments tests)) (λ v. true) (λ v. false) (λ v. among arguments v) (untested_places arguments tests) (tested_places arguments tests) (replaced at arguments tests)
any_call at predicate mode arguments tests = record {
  base_bound = λ v h. refl;
  variables_are = λ v. refl;
  news_are = among_replaced at arguments tests;
  occ_is = among_places arguments tests;
}

-- a variable has one of these numbers
abbrev pub IsFresh : ℕ → ℕ → ℕ → Type 0
IsFresh at count v = (at ≤ v) × (v < at + count)

is_numbered : (at : ℕ) (ys : List ℕ) (v : ℕ) {A : Type 0} → A ⊎ (among (numbered at ys) v ≡ true) → A ⊎ IsFresh at (length ys) v
is_numbered at ys v (inl h) = inl h
is_numbered at ys v (inr h) = inr (numbered_from at ys v h, numbered_to at ys v h)

first_part : (a b : Bool) (m n at k v : ℕ) → at ≤ m → m + n ≤ at + k → (a ≡ true) ⊎ IsFresh m n v → ((a || b) ≡ true) ⊎ IsFresh at k v
first_part a b m n at k v p q (inl h) = inl (or_left a b h)
first_part a b m n at k v p q (inr h) = inr (omega (arith, p, h.0), omega (arith, q, h.1))

later_part : (a b : Bool) (m n at k v : ℕ) → at ≤ m → m + n ≤ at + k → (b ≡ true) ⊎ IsFresh m n v → ((a || b) ≡ true) ⊎ IsFresh at k v
later_part a b m n at k v p q (inl h) = inl (or_right a b h)
later_part a b m n at k v p q (inr h) = inr (omega (arith, p, h.0), omega (arith, q, h.1))

module _ (modes : ℕ → List ModeDecl) where
  mutual
    -- a variable below the fresh ones occurs where it did
    pub in_old : (o : Ordered) (at v : ℕ) → v < at → in_node (spelt modes at o) v ≡ in_ordered o v
    in_old (put s outs span) at v l = in_step_old s outs span at v l

    in_step_old : (s : Step) (outs : List ℕ) (span : Span) (at v : ℕ) → v < at → in_node (spelt_step modes at s outs span) v ≡ in_step s v
    in_step_old Truth outs span at v l = refl
    in_step_old Failure outs span at v l = refl
    in_step_old (Assign to from) outs span at v l = refl
    in_step_old (Test one other) outs span at v l = refl
    in_step_old (Build whole symbol arguments) outs span at v l = refl
    in_step_old (Split whole symbol arguments tests) outs span at v l =
        group_old modes at (SplitGoal whole symbol (replaced at arguments tests)) (λ v. v == whole) (λ v. among (whole ∷ arguments) v) (untested_places arguments tests) (tested_places arguments tests) (replaced at arguments tests)
        (untested_places arguments tests) outs span (λ v. true) (split_group at whole symbol arguments tests (λ v. true) refl) v l
    in_step_old (Computed operation result left right tests) outs span at v l =
        group_old modes at (Arithmetic operation (first_of (replaced at (result ∷ []) tests)) left right) (λ v. among (left ∷ right ∷ []) v) (λ v. among (result ∷ left ∷ right ∷ []) v)
        (untested_places (result ∷ []) tests) (tested_places (result ∷ []) tests) (replaced at (result ∷ []) tests) (untested_places (result ∷ []) tests) outs span (λ v. true)
        (arithmetic_group at operation result left right tests (λ v. true) (λ v h. refl)) v l
    in_step_old (Compared comparison left right) outs span at v l = refl
    in_step_old (Raised text) outs span at v l = refl
    in_step_old (Called predicate mode arguments tests) outs span at v l =
        group_old modes at (Call (record { predicate = predicate; mode = mode }) (replaced at arguments tests)) (λ v. false) (λ v. among arguments v) (untested_places arguments tests) (tested_places arguments tests) (replaced at arguments tests)
        (written (inputs_at modes predicate mode) arguments tests) outs span (λ v. true) (any_call at predicate mode arguments tests) v l
    in_step_old (Sequence goals) outs span at v l = in_all_old goals at v l
    in_step_old (Beside goals) outs span at v l = in_all_old goals at v l
    in_step_old (Choice goals) outs span at v l = in_all_old goals at v l
    in_step_old (Decision c t e) outs span at v l =
        or_same (in_node (spelt modes at c) v) (in_node (spelt modes (at + length (twins c)) t) v || in_node (spelt modes (at + length (twins c) + length (twins t)) e) v) (in_ordered c v) (in_ordered t v || in_ordered e v)
        (in_old c at v l)
        (or_same (in_node (spelt modes (at + length (twins c)) t) v) (in_node (spelt modes (at + length (twins c) + length (twins t)) e) v) (in_ordered t v) (in_ordered e v)
        (in_old t (at + length (twins c)) v (omega (arith, l))) (in_old e (at + length (twins c) + length (twins t)) v (omega (arith, l))))
    in_step_old (Denial goal) outs span at v l = in_old goal at v l
    in_step_old (Inside own goal) outs span at v l = in_old goal at v l

    pub in_all_old : (os : Ordereds) (at v : ℕ) → v < at → in_nodes (spelt_all modes at os) v ≡ in_ordereds os v
    in_all_old no_goals at v l = refl
    in_all_old (more_goals o os) at v l =
        or_same (in_node (spelt modes at o) v) (in_nodes (spelt_all modes (at + length (twins o)) os) v) (in_ordered o v) (in_ordereds os v) (in_old o at v l) (in_all_old os (at + length (twins o)) v (omega (arith, l)))

  mutual
    -- what occurs did so, or is fresh
    pub in_new : (o : Ordered) (at v : ℕ) → in_node (spelt modes at o) v ≡ true → (in_ordered o v ≡ true) ⊎ IsFresh at (length (twins o)) v
    in_new (put s outs span) at v h = in_step_new s outs span at v h

    in_step_new : (s : Step) (outs : List ℕ) (span : Span) (at v : ℕ) → in_node (spelt_step modes at s outs span) v ≡ true → (in_step s v ≡ true) ⊎ IsFresh at (length (step_twins s)) v
    in_step_new Truth outs span at v h = inl h
    in_step_new Failure outs span at v h = inl h
    in_step_new (Assign to from) outs span at v h = inl h
    in_step_new (Test one other) outs span at v h = inl h
    in_step_new (Build whole symbol arguments) outs span at v h = inl h
    in_step_new (Split whole symbol arguments tests) outs span at v h =
        is_numbered at (tested_places arguments tests) v
        (group_new modes at (SplitGoal whole symbol (replaced at arguments tests)) (λ v. v == whole) (λ v. among (whole ∷ arguments) v) (untested_places arguments tests) (tested_places arguments tests) (replaced at arguments tests)
        (untested_places arguments tests) outs span (λ v. true) (split_group at whole symbol arguments tests (λ v. true) refl) v h)
    in_step_new (Computed operation result left right tests) outs span at v h =
        is_numbered at (tested_places (result ∷ []) tests) v
        (group_new modes at (Arithmetic operation (first_of (replaced at (result ∷ []) tests)) left right) (λ v. among (left ∷ right ∷ []) v) (λ v. among (result ∷ left ∷ right ∷ []) v)
        (untested_places (result ∷ []) tests) (tested_places (result ∷ []) tests) (replaced at (result ∷ []) tests) (untested_places (result ∷ []) tests) outs span (λ v. true)
        (arithmetic_group at operation result left right tests (λ v. true) (λ v h. refl)) v h)
    in_step_new (Compared comparison left right) outs span at v h = inl h
    in_step_new (Raised text) outs span at v h = inl h
    in_step_new (Called predicate mode arguments tests) outs span at v h =
        is_numbered at (tested_places arguments tests) v
        (group_new modes at (Call (record { predicate = predicate; mode = mode }) (replaced at arguments tests)) (λ v. false) (λ v. among arguments v) (untested_places arguments tests) (tested_places arguments tests) (replaced at arguments tests)
        (written (inputs_at modes predicate mode) arguments tests) outs span (λ v. true) (any_call at predicate mode arguments tests) v h)
    in_step_new (Sequence goals) outs span at v h = in_all_new goals at v h
    in_step_new (Beside goals) outs span at v h = in_all_new goals at v h
    in_step_new (Choice goals) outs span at v h = in_all_new goals at v h
    in_step_new (Decision c t e) outs span at v h =
        let count : length (twins c ++ (twins t ++ twins e)) ≡ length (twins c) + (length (twins t) + length (twins e)) =
        omega (arith, length-append (twins c) (twins t ++ twins e), length-append (twins t) (twins e)) in
        elim (or_cases (in_node (spelt modes at c) v) (in_node (spelt modes (at + length (twins c)) t) v || in_node (spelt modes (at + length (twins c) + length (twins t)) e) v) h)
        as (λ _. ((in_ordered c v || (in_ordered t v || in_ordered e v)) ≡ true) ⊎ IsFresh at (length (twins c ++ (twins t ++ twins e))) v) [
          | inl k ↦ first_part (in_ordered c v) (in_ordered t v || in_ordered e v) at (length (twins c)) at (length (twins c ++ (twins t ++ twins e))) v (omega (arith)) (omega (arith, count)) (in_new c at v k)
          | inr k ↦ elim (or_cases (in_node (spelt modes (at + length (twins c)) t) v) (in_node (spelt modes (at + length (twins c) + length (twins t)) e) v) k)
              as (λ _. ((in_ordered c v || (in_ordered t v || in_ordered e v)) ≡ true) ⊎ IsFresh at (length (twins c ++ (twins t ++ twins e))) v) [
                | inl j ↦ later_part (in_ordered c v) (in_ordered t v || in_ordered e v) (at + length (twins c)) (length (twins t)) at (length (twins c ++ (twins t ++ twins e))) v (omega (arith)) (omega (arith, count))
                    (first_part (in_ordered t v) (in_ordered e v) (at + length (twins c)) (length (twins t)) (at + length (twins c)) (length (twins t)) v (omega (arith)) (omega (arith)) (in_new t (at + length (twins c)) v j))
                | inr j ↦ later_part (in_ordered c v) (in_ordered t v || in_ordered e v) (at + length (twins c) + length (twins t)) (length (twins e)) at (length (twins c ++ (twins t ++ twins e))) v (omega (arith)) (omega (arith, count))
                    (later_part (in_ordered t v) (in_ordered e v) (at + length (twins c) + length (twins t)) (length (twins e)) (at + length (twins c) + length (twins t)) (length (twins e)) v (omega (arith)) (omega (arith))
                    (in_new e (at + length (twins c) + length (twins t)) v j))
              ]
        ]
    in_step_new (Denial goal) outs span at v h = in_new goal at v h
    in_step_new (Inside own goal) outs span at v h = in_new goal at v h

    pub in_all_new : (os : Ordereds) (at v : ℕ) → in_nodes (spelt_all modes at os) v ≡ true → (in_ordereds os v ≡ true) ⊎ IsFresh at (length (all_twins os)) v
    in_all_new no_goals at v h = inl h
    in_all_new (more_goals o os) at v h =
        let count : length (twins o ++ all_twins os) ≡ length (twins o) + length (all_twins os) = length-append (twins o) (all_twins os) in
        elim (or_cases (in_node (spelt modes at o) v) (in_nodes (spelt_all modes (at + length (twins o)) os) v) h) as (λ _. ((in_ordered o v || in_ordereds os v) ≡ true) ⊎ IsFresh at (length (twins o ++ all_twins os)) v) [
          | inl k ↦ first_part (in_ordered o v) (in_ordereds os v) at (length (twins o)) at (length (twins o ++ all_twins os)) v (omega (arith)) (omega (arith, count)) (in_new o at v k)
          | inr k ↦ later_part (in_ordered o v) (in_ordereds os v) (at + length (twins o)) (length (all_twins os)) at (length (twins o ++ all_twins os)) v (omega (arith)) (omega (arith, count))
              (in_all_new os (at + length (twins o)) v k)
        ]

  -- outputs and ends stay

  pub outputs_stay : (o : Ordered) (at : ℕ) → outputs_of (spelt modes at o) ≡ ordered_outputs o
  outputs_stay (put Truth outs span) at = refl
  outputs_stay (put Failure outs span) at = refl
  outputs_stay (put (Assign to from) outs span) at = refl
  outputs_stay (put (Test one other) outs span) at = refl
  outputs_stay (put (Build whole symbol arguments) outs span) at = refl
  outputs_stay (put (Split whole symbol arguments tests) outs span) at =
      group_outputs modes at (SplitGoal whole symbol (replaced at arguments tests)) (untested_places arguments tests) (tested_places arguments tests) outs span
  outputs_stay (put (Computed operation result left right tests) outs span) at =
      group_outputs modes at (Arithmetic operation (first_of (replaced at (result ∷ []) tests)) left right) (untested_places (result ∷ []) tests) (tested_places (result ∷ []) tests) outs span
  outputs_stay (put (Compared comparison left right) outs span) at = refl
  outputs_stay (put (Raised text) outs span) at = refl
  outputs_stay (put (Called predicate mode arguments tests) outs span) at =
      group_outputs modes at (Call (record { predicate = predicate; mode = mode }) (replaced at arguments tests)) (written (inputs_at modes predicate mode) arguments tests) (tested_places arguments tests) outs span
  outputs_stay (put (Sequence goals) outs span) at = refl
  outputs_stay (put (Beside goals) outs span) at = refl
  outputs_stay (put (Choice goals) outs span) at = refl
  outputs_stay (put (Decision c t e) outs span) at = refl
  outputs_stay (put (Denial goal) outs span) at = refl
  outputs_stay (put (Inside own goal) outs span) at = refl

  mutual
    pub ends_stay : (o : Ordered) (at : ℕ) → node_ends modes (spelt modes at o) ≡ ends modes o
    ends_stay (put Truth outs span) at = refl
    ends_stay (put Failure outs span) at = refl
    ends_stay (put (Assign to from) outs span) at = refl
    ends_stay (put (Test one other) outs span) at = refl
    ends_stay (put (Build whole symbol arguments) outs span) at = refl
    ends_stay (put (Split whole symbol arguments tests) outs span) at =
        group_ends modes at (SplitGoal whole symbol (replaced at arguments tests)) (untested_places arguments tests) (tested_places arguments tests) outs span
    ends_stay (put (Computed operation result left right tests) outs span) at =
        group_ends modes at (Arithmetic operation (first_of (replaced at (result ∷ []) tests)) left right) (untested_places (result ∷ []) tests) (tested_places (result ∷ []) tests) outs span
    ends_stay (put (Compared comparison left right) outs span) at = refl
    ends_stay (put (Raised text) outs span) at = refl
    ends_stay (put (Called predicate mode arguments tests) outs span) at =
        group_ends modes at (Call (record { predicate = predicate; mode = mode }) (replaced at arguments tests)) (written (inputs_at modes predicate mode) arguments tests) (tested_places arguments tests) outs span
    ends_stay (put (Sequence goals) outs span) at = all_end_stay goals at
    ends_stay (put (Beside goals) outs span) at = all_end_stay goals at
    ends_stay (put (Choice goals) outs span) at = some_ends_stay goals at
    ends_stay (put (Decision c t e) outs span) at =
        or_same (node_ends modes (spelt modes at c) && node_ends modes (spelt modes (at + length (twins c)) t)) (node_ends modes (spelt modes (at + length (twins c) + length (twins t)) e)) (ends modes c && ends modes t) (ends modes e)
        (and_same (node_ends modes (spelt modes at c)) (node_ends modes (spelt modes (at + length (twins c)) t)) (ends modes c) (ends modes t) (ends_stay c at) (ends_stay t (at + length (twins c))))
        (ends_stay e (at + length (twins c) + length (twins t)))
    ends_stay (put (Denial goal) outs span) at = refl
    ends_stay (put (Inside own goal) outs span) at = ends_stay goal at

    all_end_stay : (os : Ordereds) (at : ℕ) → all_nodes_end modes (spelt_all modes at os) ≡ all_end modes os
    all_end_stay no_goals at = refl
    all_end_stay (more_goals o os) at =
        and_same (node_ends modes (spelt modes at o)) (all_nodes_end modes (spelt_all modes (at + length (twins o)) os)) (ends modes o) (all_end modes os) (ends_stay o at) (all_end_stay os (at + length (twins o)))

    some_ends_stay : (os : Ordereds) (at : ℕ) → some_node_ends modes (spelt_all modes at os) ≡ some_ends modes os
    some_ends_stay no_goals at = refl
    some_ends_stay (more_goals o os) at =
        or_same (node_ends modes (spelt modes at o)) (some_node_ends modes (spelt_all modes (at + length (twins o)) os)) (ends modes o) (some_ends modes os) (ends_stay o at) (some_ends_stay os (at + length (twins o)))

  -- what is bound behind goals stays
  pub behind_stays : (os : Ordereds) (at : ℕ) (b : Bound) → behind_nodes b (spelt_all modes at os) ≡ bound_behind b os
  behind_stays no_goals at b = refl
  behind_stays (more_goals o os) at b =
      ap (λ (l : List ℕ). behind_nodes (with b (among l)) (spelt_all modes (at + length (twins o)) os)) (outputs_stay o at) ∙ behind_stays os (at + length (twins o)) (with b (among (ordered_outputs o)))
