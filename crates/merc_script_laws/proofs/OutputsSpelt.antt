-- With its tests written out an ordered goal keeps its outputs.
use Rattle.std.proofs.Common.{◌≡◌, ◌⊎◌, inl, inr, ℕ, suc, ◌+◌, Bool, true, false, ◌||◌, ◌&&◌, List, [], ◌∷◌, ◌++◌, length, filter, refl, ap, ◌∙◌}
use Rattle.merc_base.specs.declared.place.Span.{Span}
use Rattle.merc_tree.specs.declared.declarations.ModeDecl.{ModeDecl}
use Rattle.merc_graded_tree.specs.declared.basic.BasicGoal.{BasicGoal}
use Rattle.merc_graded_tree.specs.declared.basic.BasicGoal.TheVariants.{Split as SplitGoal, Arithmetic, Call}
use Rattle.merc_graded_tree.specs.Nodes.{outputs_of}
use Rattle.merc_order.specs.Bound.{among}
use Rattle.merc_order.specs.Ordered.{Ordered, Step, Ordereds, put, Truth, Failure, Assign, Test, Build, Split, Computed, Compared, Raised, Called, Sequence, Beside, Choice, Decision, Denial, Within as Inside, no_goals, more_goals}
use Rattle.merc_order.specs.Spelt.{replaced, tested_places, untested_places, written, numbered, tests_of, inner_outputs, with_tests, first_of, inputs_at, twins, spelt, spelt_step, spelt_all}
use Rattle.merc_order_laws.specs.OrderedVariables.{ordered_outputs, ends}
use Rattle.merc_order_laws.specs.GoodTree.{node_ends}
use Rattle.merc_order_laws.proofs.Facts.{or_left, among_append, among_filter}
use Rattle.merc_order_laws.proofs.SpeltVariables.{outputs_stay, ends_stay}
use Rattle.merc_script_laws.specs.Parallel.{AreWithin, all_outputs, ArmHas, KeepsOutputs, AllKeepOutputs, EachKeepsOutputs}
use Rattle.merc_script_laws.proofs.OutputsOrdered.{all_ordered_outputs, OrderedArmHas, OrderedKeepsOutputs, StepKeepsOutputs, AllOrderedKeepOutputs, EachOrderedKeepsOutputs}

module _ (modes : ℕ → List ModeDecl) where
  tests_keep : (at : ℕ) (tested : List ℕ) (span : Span) → AllKeepOutputs modes (tests_of at tested span)
  tests_keep at [] span = tt
  tests_keep at (x ∷ xs) span = (tt, tests_keep (suc at) xs span)

  both : (a b c : Bool) → a ≡ true → b ≡ true → (b && (a || c)) ≡ true
  both a b c p q = cc

  -- what is an output and is written is one of the goal in front of its tests
  group_keeps : (at : ℕ) (goal : BasicGoal) (writes tested outs : List ℕ) (span : Span) → AreWithin outs writes → KeepsOutputs modes (with_tests at goal writes tested outs span)
  group_keeps at goal writes [] outs span within = tt
  group_keeps at goal writes (x ∷ xs) outs span within = (
    (tt, tests_keep at (x ∷ xs) span),
    λ v h.
        let written_out : among (filter (λ z. among outs z || among (x ∷ xs) z) writes) v ≡ true =
        among_filter v (λ z. among outs z || among (x ∷ xs) z) writes ∙ both (among outs v) (among writes v) (among (x ∷ xs) v) h (within v h) in
        let inner : among (inner_outputs at outs writes (x ∷ xs)) v ≡ true =
        among_append v (filter (λ z. among outs z || among (x ∷ xs) z) writes) (numbered at (x ∷ xs)) ∙ or_left (among (filter (λ z. among outs z || among (x ∷ xs) z) writes) v) (among (numbered at (x ∷ xs)) v) written_out in
        among_append v (inner_outputs at outs writes (x ∷ xs)) (all_outputs (tests_of at (x ∷ xs) span)) ∙ or_left (among (inner_outputs at outs writes (x ∷ xs)) v) (among (all_outputs (tests_of at (x ∷ xs) span)) v) inner,
  )

  all_stay : (os : Ordereds) (at : ℕ) → all_outputs (spelt_all modes at os) ≡ all_ordered_outputs os
  all_stay no_goals at = refl
  all_stay (more_goals o os) at =
      ap (λ (l : List ℕ). l ++ all_outputs (spelt_all modes (at + length (twins o)) os)) (outputs_stay modes o at) ∙ ap (λ (l : List ℕ). ordered_outputs o ++ l) (all_stay os (at + length (twins o)))

  within_stays : (outs inner others : List ℕ) → others ≡ inner → AreWithin outs inner → AreWithin outs others
  within_stays outs inner others e within v h = ap (λ (l : List ℕ). among l v) e ∙ within v h

  arm_stays : (o : Ordered) (at : ℕ) (outs : List ℕ) → OrderedArmHas modes outs o → ArmHas modes outs (spelt modes at o)
  arm_stays o at outs (inl h) = inl (ends_stay modes o at ∙ h)
  arm_stays o at outs (inr h) = inr (within_stays outs (ordered_outputs o) (outputs_of (spelt modes at o)) (outputs_stay modes o at) h)

  then_stays : (c t : Ordered) (at here : ℕ) (outs : List ℕ) → (ends modes c ≡ false) ⊎ OrderedArmHas modes outs t → (node_ends modes (spelt modes at c) ≡ false) ⊎ ArmHas modes outs (spelt modes here t)
  then_stays c t at here outs (inl h) = inl (ends_stay modes c at ∙ h)
  then_stays c t at here outs (inr h) = inr (arm_stays t here outs h)

  mutual
    pub spelt_keeps : (o : Ordered) (at : ℕ) → OrderedKeepsOutputs modes o → KeepsOutputs modes (spelt modes at o)
    spelt_keeps (put s outs span) at k = step_keeps s outs span at k

    step_keeps : (s : Step) (outs : List ℕ) (span : Span) (at : ℕ) → StepKeepsOutputs modes outs s → KeepsOutputs modes (spelt_step modes at s outs span)
    step_keeps Truth outs span at k = tt
    step_keeps Failure outs span at k = tt
    step_keeps (Assign to from) outs span at k = tt
    step_keeps (Test one other) outs span at k = tt
    step_keeps (Build whole symbol arguments) outs span at k = tt
    step_keeps (Split whole symbol arguments tests) outs span at k =
        group_keeps at (SplitGoal whole symbol (replaced at arguments tests)) (untested_places arguments tests) (tested_places arguments tests) outs span k
    step_keeps (Computed operation result left right tests) outs span at k =
        group_keeps at (Arithmetic operation (first_of (replaced at (result ∷ []) tests)) left right) (untested_places (result ∷ []) tests) (tested_places (result ∷ []) tests) outs span k
    step_keeps (Compared comparison left right) outs span at k = tt
    step_keeps (Raised text) outs span at k = tt
    step_keeps (Called predicate mode arguments tests) outs span at k =
        group_keeps at (Call (record { predicate = predicate; mode = mode }) (replaced at arguments tests)) (written (inputs_at modes predicate mode) arguments tests) (tested_places arguments tests) outs span k
    step_keeps (Sequence goals) outs span at k = (list_keeps goals at k.0, within_stays outs (all_ordered_outputs goals) (all_outputs (spelt_all modes at goals)) (all_stay goals at) k.1)
    step_keeps (Beside goals) outs span at k = (list_keeps goals at k.0, within_stays outs (all_ordered_outputs goals) (all_outputs (spelt_all modes at goals)) (all_stay goals at) k.1)
    step_keeps (Choice goals) outs span at k = each_keeps goals outs at k
    step_keeps (Decision c t e) outs span at k = (
      spelt_keeps c at k.0,
      (spelt_keeps t (at + length (twins c)) k.1.0, then_stays c t at (at + length (twins c)) outs k.1.1),
      (spelt_keeps e (at + length (twins c) + length (twins t)) k.2.0, arm_stays e (at + length (twins c) + length (twins t)) outs k.2.1),
    )
    step_keeps (Denial goal) outs span at k = (spelt_keeps goal at k.0, k.1)
    step_keeps (Inside own goal) outs span at k = (spelt_keeps goal at k.0, within_stays outs (ordered_outputs goal) (outputs_of (spelt modes at goal)) (outputs_stay modes goal at) k.1)

    list_keeps : (os : Ordereds) (at : ℕ) → AllOrderedKeepOutputs modes os → AllKeepOutputs modes (spelt_all modes at os)
    list_keeps no_goals at k = tt
    list_keeps (more_goals o os) at k = (spelt_keeps o at k.0, list_keeps os (at + length (twins o)) k.1)

    each_keeps : (os : Ordereds) (outs : List ℕ) (at : ℕ) → EachOrderedKeepsOutputs modes outs os → EachKeepsOutputs modes outs (spelt_all modes at os)
    each_keeps no_goals outs at k = tt
    each_keeps (more_goals o os) outs at k = ((spelt_keeps o at k.0.0, arm_stays o at outs k.0.1), each_keeps os outs (at + length (twins o)) k.1)
