-- A goal that is not ready stays so behind one that binds none of its variables.
use Rattle.std.specs.Prelude.{◌≡◌, ◌+◌, ◌==◌, ◌&&◌, ◌||◌, ◌++◌, not, ℕ, suc, length, Bool, true, false, List, [], ◌∷◌, refl}
use Rattle.std.specs.List.{list_any, slice_index_or}
use Rattle.std.proofs.Common.{◌∙◌, ap, sym}
use Rattle.std.proofs.lemmas.Bool.{eqb-true}
use Rattle.merc_tree.specs.declared.declarations.ModeDecl.{ModeDecl}
use Rattle.merc_goal_tree.specs.Nodes.{Node, Nodes, more_nodes}
use Rattle.merc_goal_tree.specs.Parts.{parts_of}
use Rattle.merc_goal_tree.specs.Variables.{variables}
use Rattle.merc_order.specs.Bound.{among, with}
use Rattle.merc_order.specs.Order.{binds, from}
use Rattle.merc_order.specs.Ordered.{is_ready}
use Rattle.merc_goal_facts.specs.Facts.{AreFactsOf, all_subgoals}
use Rattle.merc_goal_facts.specs.declared.facts.Facts.{Facts}
use Rattle.merc_readiness.specs.Sweeps.{AreKnownFrom}
use Rattle.merc_goal_order.proofs.Stretches.{known_next}
use Rattle.merc_goal_order.proofs.Agreeing.{Agree, from_same}

none_passes : (test : ℕ → Bool) (list : List ℕ) (variable : ℕ) → list_any test list ≡ false → among list variable ≡ true → test variable ≡ false
none_passes test [] variable none there = cc
none_passes test (first ∷ rest) variable none there = by (variable == first) (test first) refl refl there none (λ n t. none_passes test rest variable n t)
  where
    by : (same passes : Bool) → (variable == first) ≡ same → test first ≡ passes → (same || among rest variable) ≡ true → (passes || list_any test rest) ≡ false
        → (list_any test rest ≡ false → among rest variable ≡ true → test variable ≡ false) → test variable ≡ false
    by same true s p t n later = cc
    by true false s p t n later = ap test (eqb-true variable first s) ∙ p
    by false false s p t n later = later n t

new_bound : (known inside more : Bool) → inside ≡ true → (more ≡ true → (not known && inside) ≡ false) → (known || more) ≡ known
new_bound true inside more i h = refl
new_bound false inside false i h = refl
new_bound false inside true i h = let no : false ≡ true = sym (h refl) ∙ i in cc

neither : (one other : Bool) → (one || other) ≡ false → (one ≡ false) × (other ≡ false)
neither true other is = cc
neither false other is = (refl, is)

and_false : (one other : Bool) → other ≡ false → (one && other) ≡ false
and_false true other is = is
and_false false other is = refl

module _ (total : ℕ → ℕ) (modes : ℕ → List ModeDecl) where
  agrees : (goal later : Node) (found : Facts) (inside bound : List ℕ) → AreFactsOf total modes later found → inside ≡ [] ++ variables goal
      → list_any (λ variable. not (among bound variable) && among inside variable) found.binds ≡ false → Agree (variables goal) (with (among bound) (binds total modes later)) (among bound)
  agrees goal later found inside bound known is none = λ variable there.
      new_bound (among bound variable) (among inside variable) (binds total modes later variable) (ap (λ l. among l variable) is ∙ there)
      (λ more. none_passes (λ other. not (among bound other) && among inside other) found.binds variable none (known.binds_are variable ∙ more))

  pub never_freed : (goal later : Node) (found : Facts) (inside bound : List ℕ) → AreFactsOf total modes later found → inside ≡ [] ++ variables goal
      → list_any (λ variable. not (among bound variable) && among inside variable) found.binds ≡ false → is_ready (from total modes goal (among bound)) ≡ false
      → (is_ready (from total modes later (among bound)) && is_ready (from total modes goal (with (among bound) (binds total modes later)))) ≡ false
  never_freed goal later found inside bound known is none stuck =
      and_false (is_ready (from total modes later (among bound))) (is_ready (from total modes goal (with (among bound) (binds total modes later))))
      (ap is_ready (from_same total modes goal (with (among bound) (binds total modes later)) (among bound) (agrees goal later found inside bound known is none)) ∙ stuck)

  pub still_stuck : (goal later : Node) (rest : Nodes) (facts : List Facts) (at own : ℕ) (found : Facts) (inside bound now : List ℕ) (ready can : Bool) → AreKnownFrom total modes (all_subgoals (more_nodes later rest)) facts at
      → suc own ≡ at + length (parts_of later) → found ≡ slice_index_or facts own found → inside ≡ [] ++ variables goal → now ≡ bound → is_ready (from total modes goal (among bound)) ≡ ready
      → can ≡ (ready || list_any (λ variable. not (among now variable) && among inside variable) found.binds) → can ≡ false
      → (is_ready (from total modes later (among bound)) && is_ready (from total modes goal (with (among bound) (binds total modes later)))) ≡ false
  still_stuck goal later rest facts at own found inside bound now ready can known own_is found_is is same tells can_is cannot =
      let none = neither ready (list_any (λ variable. not (among now variable) && among inside variable) found.binds) (sym can_is ∙ cannot) in
      never_freed goal later found inside bound (known_next total modes later rest facts at own found known own_is found_is) is
      (ap (λ b. list_any (λ variable. not (among b variable) && among inside variable) found.binds) (sym same) ∙ none.1) (tells ∙ none.0)
