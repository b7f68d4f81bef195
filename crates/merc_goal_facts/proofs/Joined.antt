-- Facts of conjunctions by those of the goals that they join.
use Rattle.std.specs.Prelude.{◌≡◌, ◌<◌, length, ◌||◌, ◌&&◌, ℕ, Bool, true, false, List, [], ◌∷◌, Option, Some, None, slice_get, refl}
use Rattle.std.proofs.Common.{◌∙◌, ap, sym, arith}
use Rattle.merc_base.specs.declared.place.Span.{Span}
use Rattle.merc_tree.specs.declared.declarations.ModeDecl.{ModeDecl}
use Rattle.merc_goal_tree.specs.Nodes.{Nodes, Conjunction, Parallel, no_nodes, more_nodes}
use Rattle.merc_goal_tree.specs.Variables.{all_variables}
use Rattle.merc_order.specs.Bound.{among, are_bound}
use Rattle.merc_order.specs.Order.{reached, all_reached, binds, some_bind}
use Rattle.merc_goal_facts.specs.declared.facts.Facts.{Facts}
use Rattle.merc_goal_facts.specs.declared.complete.Complete.{Complete}
use Rattle.merc_goal_facts.specs.Bounds.{all_behind}
use Rattle.merc_goal_facts.specs.Complete.{AreKnown}
use Rattle.merc_goal_facts.specs.Facts.{AreFactsOf}
use Rattle.merc_goal_facts.specs.Needs.{found_in, is_needed_together}
use Rattle.merc_goal_facts.proofs.Bounds.{or_assoc, or_false}
use Rattle.merc_goal_facts.proofs.Found.{among-all_behind}
use Rattle.merc_goal_facts.proofs.Needs.{conjunction_needed, parallel_needed}

-- what comes of facts, where there are some

abbrev pub reached_with : Bool → Option Facts → Bool
reached_with known None = known
reached_with known (Some found) = known && found.reached

abbrev pub bound_with : List ℕ → Option Facts → List ℕ
bound_with known None = known
bound_with known (Some found) = all_behind known found.binds

abbrev pub reached_on : List Facts → Bool → List Complete → Bool
reached_on facts known [] = known
reached_on facts known (complete ∷ others) = reached_on facts (reached_with known (slice_get facts complete.part)) others

abbrev pub bound_on : List Facts → List ℕ → List Complete → List ℕ
bound_on facts known [] = known
bound_on facts known (complete ∷ others) = bound_on facts (bound_with known (slice_get facts complete.part)) others

and_true : (one : Bool) → (one && true) ≡ one
and_true true = refl
and_true false = refl

and_assoc : (a b c : Bool) → ((a && b) && c) ≡ (a && (b && c))
and_assoc true b c = refl
and_assoc false b c = refl

module _ (total : ℕ → ℕ) (modes : ℕ → List ModeDecl) (facts : List Facts) where
  pub reached_on_is : (joined : List Complete) (goals : Nodes) (known : Bool) → AreKnown total modes facts joined goals
      → reached_on facts known joined ≡ (known && all_reached total modes goals)
  reached_on_is [] no_nodes known are = sym (and_true known)
  reached_on_is [] (more_nodes first rest) known are = absurd are
  reached_on_is (complete ∷ others) no_nodes known are = absurd are
  reached_on_is (complete ∷ others) (more_nodes first rest) known (one, are) =
      ap (λ f. reached_on facts (reached_with known f) others) one.there
      ∙ reached_on_is others rest (known && one.found.reached) are
      ∙ ap (λ b. (known && b) && all_reached total modes rest) one.are.reached_is
      ∙ and_assoc known (reached total modes first) (all_reached total modes rest)

  pub bound_on_is : (joined : List Complete) (goals : Nodes) (known : List ℕ) (variable : ℕ) → AreKnown total modes facts joined goals
      → among (bound_on facts known joined) variable ≡ (among known variable || some_bind total modes goals variable)
  bound_on_is [] no_nodes known variable are = sym (or_false (among known variable))
  bound_on_is [] (more_nodes first rest) known variable are = absurd are
  bound_on_is (complete ∷ others) no_nodes known variable are = absurd are
  bound_on_is (complete ∷ others) (more_nodes first rest) known variable (one, are) =
      ap (λ f. among (bound_on facts (bound_with known f) others) variable) one.there
      ∙ bound_on_is others rest (all_behind known one.found.binds) variable are
      ∙ ap (λ b. b || some_bind total modes rest variable) (among-all_behind known one.found.binds variable ∙ ap (λ b. among known variable || b) (one.are.binds_are variable))
      ∙ or_assoc (among known variable) (binds total modes first variable) (some_bind total modes rest variable)

  pub conjunction_are : (joined : List Complete) (goals : Nodes) (span : Span) (found : Facts) → found.reached ≡ reached_on facts true joined → found.binds ≡ bound_on facts [] joined
      → found.owed ≡ [] → found.owed_by_condition ≡ [] → ((variable : ℕ) → among found.needs variable ≡ is_needed_together (found_in facts joined) variable)
      → AreKnown total modes facts joined goals → found.occurrences ≡ length (all_variables goals) → AreFactsOf total modes (Conjunction goals span) found
  conjunction_are joined goals span found r b o c s are n = record {
    needed = conjunction_needed total modes facts joined goals span found.needs are s;
    reached_is = r ∙ reached_on_is joined goals true are;
    binds_are = λ variable. ap (λ l. among l variable) b ∙ bound_on_is joined goals [] variable are;
    owed_are = λ bound. ap (are_bound bound) o;
    owed_by_condition_are = λ bound. ap (are_bound bound) c;
    occurrences_are = n;
  }

  pub parallel_are : (joined : List Complete) (goals : Nodes) (span : Span) (found : Facts) → found.reached ≡ reached_on facts true joined → found.binds ≡ bound_on facts [] joined
      → found.owed ≡ [] → found.owed_by_condition ≡ [] → ((variable : ℕ) → among found.needs variable ≡ is_needed_together (found_in facts joined) variable)
      → AreKnown total modes facts joined goals → found.occurrences ≡ length (all_variables goals) → AreFactsOf total modes (Parallel goals span) found
  parallel_are joined goals span found r b o c s are n = record {
    needed = parallel_needed total modes facts joined goals span found.needs are s;
    reached_is = r ∙ reached_on_is joined goals true are;
    binds_are = λ variable. ap (λ l. among l variable) b ∙ bound_on_is joined goals [] variable are;
    owed_are = λ bound. ap (are_bound bound) o;
    owed_by_condition_are = λ bound. ap (are_bound bound) c;
    occurrences_are = n;
  }

-- none is left where there are fewer than one
pub none_left : (rest : List Complete) → length rest < 1 → rest ≡ []
none_left [] few = refl
none_left (complete ∷ others) few = absurd (omega (arith, few))
