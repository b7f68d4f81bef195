-- What arms bind, by the facts of the goals that are the arms.
use Rattle.std.specs.Prelude.{◌≡◌, ◌||◌, ◌&&◌, not, ℕ, Bool, true, false, List, [], ◌∷◌, Option, Some, None, slice_get, if◌then◌else◌, refl}
use Rattle.std.specs.List.{filter, list_all, list_any}
use Rattle.std.proofs.Common.{◌∙◌, ap, sym}
use Rattle.merc_tree.specs.declared.declarations.ModeDecl.{ModeDecl}
use Rattle.merc_goal_tree.specs.Nodes.{Nodes, no_nodes, more_nodes}
use Rattle.merc_order.specs.Bound.{among}
use Rattle.merc_order.specs.Order.{reached, binds, any_reached, arms}
use Rattle.merc_goal_facts.specs.declared.facts.Facts.{Facts}
use Rattle.merc_goal_facts.specs.declared.complete.Complete.{Complete}
use Rattle.merc_goal_facts.specs.Arms.{counts, bound_with}
use Rattle.merc_goal_facts.specs.Bounds.{all_behind}
use Rattle.merc_goal_facts.specs.Complete.{AreKnown}
use Rattle.merc_goal_facts.proofs.Bounds.{or_assoc, or_false}
use Rattle.merc_goal_facts.proofs.Found.{among-all_behind, among-filter}

-- what comes of facts, where there are some

abbrev pub any_with : Bool → Option Facts → Bool
any_with known None = known
any_with known (Some found) = known || found.reached

abbrev pub any_on : List Facts → Bool → List Complete → Bool
any_on facts known [] = known
any_on facts known (complete ∷ others) = any_on facts (any_with known (slice_get facts complete.part)) others

abbrev pub some_with : Bool → List ℕ → Option Facts → List ℕ
some_with any known None = known
some_with any known (Some found) = bound_with any known found

abbrev pub some_on : List Facts → Bool → List ℕ → List Complete → List ℕ
some_on facts any known [] = known
some_on facts any known (complete ∷ others) = some_on facts any (some_with any known (slice_get facts complete.part)) others

abbrev pub all_with : Bool → ℕ → Bool → Option Facts → Bool
all_with any variable known None = known
all_with any variable known (Some found) = known && (not (counts any found.reached) || among found.binds variable)

abbrev pub all_on : List Facts → Bool → ℕ → Bool → List Complete → Bool
all_on facts any variable known [] = known
all_on facts any variable known (complete ∷ others) = all_on facts any variable (all_with any variable known (slice_get facts complete.part)) others

and_true : (one : Bool) → (one && true) ≡ one
and_true true = refl
and_true false = refl

and_assoc : (a b c : Bool) → ((a && b) && c) ≡ (a && (b && c))
and_assoc true b c = refl
and_assoc false b c = refl

pub both_are : (bound binds set both : List ℕ) (variable : ℕ) → set ≡ all_behind [] binds → both ≡ filter (λ v. among set v) bound → among both variable ≡ (among bound variable && among binds variable)
both_are bound binds set both variable s b =
    ap (λ l. among l variable) b ∙ among-filter (λ v. among set v) bound variable
    ∙ ap (λ t. among bound variable && t) (ap (λ l. among l variable) s ∙ among-all_behind [] binds variable)

among-bound_with : (counting : Bool) (known more : List ℕ) (variable : ℕ) → among (if counting then all_behind known more else known) variable ≡ (among known variable || (counting && among more variable))
among-bound_with true known more variable = among-all_behind known more variable
among-bound_with false known more variable = sym (or_false (among known variable))

module _ (total : ℕ → ℕ) (modes : ℕ → List ModeDecl) (facts : List Facts) where
  pub any_on_is : (joined : List Complete) (goals : Nodes) (known : Bool) → AreKnown total modes facts joined goals
      → any_on facts known joined ≡ (known || any_reached (arms total modes goals))
  any_on_is [] no_nodes known are = sym (or_false known)
  any_on_is [] (more_nodes first rest) known are = absurd are
  any_on_is (complete ∷ others) no_nodes known are = absurd are
  any_on_is (complete ∷ others) (more_nodes first rest) known (one, are) =
      ap (λ f. any_on facts (any_with known f) others) one.there
      ∙ any_on_is others rest (known || one.found.reached) are
      ∙ ap (λ b. (known || b) || any_reached (arms total modes rest)) one.are.reached_is
      ∙ or_assoc known (reached total modes first) (any_reached (arms total modes rest))

  pub some_on_is : (joined : List Complete) (goals : Nodes) (any : Bool) (known : List ℕ) (variable : ℕ) → AreKnown total modes facts joined goals
      → among (some_on facts any known joined) variable ≡ (among known variable || list_any (λ arm. counts any arm.reached && arm.binds variable) (arms total modes goals))
  some_on_is [] no_nodes any known variable are = sym (or_false (among known variable))
  some_on_is [] (more_nodes first rest) any known variable are = absurd are
  some_on_is (complete ∷ others) no_nodes any known variable are = absurd are
  some_on_is (complete ∷ others) (more_nodes first rest) any known variable (one, are) =
      ap (λ f. among (some_on facts any (some_with any known f) others) variable) one.there
      ∙ some_on_is others rest any (bound_with any known one.found) variable are
      ∙ ap (λ b. b || list_any (λ arm. counts any arm.reached && arm.binds variable) (arms total modes rest))
      (among-bound_with (counts any one.found.reached) known one.found.binds variable
      ∙ ap (λ b. among known variable || (counts any b && among one.found.binds variable)) one.are.reached_is
      ∙ ap (λ b. among known variable || (counts any (reached total modes first) && b)) (one.are.binds_are variable))
      ∙ or_assoc (among known variable) (counts any (reached total modes first) && binds total modes first variable)
      (list_any (λ arm. counts any arm.reached && arm.binds variable) (arms total modes rest))

  pub all_on_is : (joined : List Complete) (goals : Nodes) (any : Bool) (variable : ℕ) (known : Bool) → AreKnown total modes facts joined goals
      → all_on facts any variable known joined ≡ (known && list_all (λ arm. not (counts any arm.reached) || arm.binds variable) (arms total modes goals))
  all_on_is [] no_nodes any variable known are = sym (and_true known)
  all_on_is [] (more_nodes first rest) any variable known are = absurd are
  all_on_is (complete ∷ others) no_nodes any variable known are = absurd are
  all_on_is (complete ∷ others) (more_nodes first rest) any variable known (one, are) =
      ap (λ f. all_on facts any variable (all_with any variable known f) others) one.there
      ∙ all_on_is others rest any variable (known && (not (counts any one.found.reached) || among one.found.binds variable)) are
      ∙ ap (λ b. (known && (not (counts any b) || among one.found.binds variable)) && list_all (λ arm. not (counts any arm.reached) || arm.binds variable) (arms total modes rest)) one.are.reached_is
      ∙ ap (λ b. (known && (not (counts any (reached total modes first)) || b)) && list_all (λ arm. not (counts any arm.reached) || arm.binds variable) (arms total modes rest)) (one.are.binds_are variable)
      ∙ and_assoc known (not (counts any (reached total modes first)) || binds total modes first variable)
      (list_all (λ arm. not (counts any arm.reached) || arm.binds variable) (arms total modes rest))
