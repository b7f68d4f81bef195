-- Clauses and goals are refused in one way at most, and not where they are accepted.
use Rattle.std.proofs.Common.{◌≡◌, ℕ, List, [], ◌∷◌, ◌++◌, Some, None, refl, sym, subst, ap, ◌∙◌}
use Rattle.std.specs.List.{AllByRecursion}
use Rattle.merc_base.specs.declared.refusal.Refusal.{Refusal}
use Rattle.merc_tree.specs.Term.{Term}
use Rattle.merc_tree.specs.declared.declarations.Clause.{Clause}
use Rattle.merc_tree.specs.declared.declarations.Module.{Module}
use Rattle.merc_order.specs.Procedures.{order_fault}
use Rattle.merc_modes.specs.Told.{fault_in}
use Rattle.merc_grading.specs.Faults.{Body}
use Rattle.merc_check.specs.Accepted.{AcceptsClauses, AcceptsGoal, HasBody, HaveBodies, IsTypedClause, IsTypedQuery, RefusesClauses, RefusesGoal, bodies, query_order, type_mismatch}
use Rattle.merc_check.specs.Accepted.RefusesClauses.{fault as clauses_faulty, untyped as clause_untyped, unordered as clauses_unordered, category as clauses_categories}
use Rattle.merc_check.specs.Accepted.RefusesGoal.{fault as goal_faulty, untyped as goal_untyped, unordered as goal_unordered, category as goal_categories}

-- of two items that are each the first without a property, both are one
module _ {A : Type 0} (P : A → Type 0) where
  all-behind : (before : List A) (item : A) (behind : List A) → AllByRecursion P (before ++ item ∷ behind) → P item
  all-behind [] item behind all = all.0
  all-behind (first ∷ before) item behind all = all-behind before item behind all.1

  first_without : (before before' : List A) (item item' : A) (behind behind' : List A) → before ++ item ∷ behind ≡ before' ++ item' ∷ behind'
      → AllByRecursion P before → AllByRecursion P before' → (P item → ⊥) → (P item' → ⊥) → item ≡ item'
  first_without [] [] item item' behind behind' same all all' none none' = cc
  first_without [] (first ∷ before') item item' behind behind' same all all' none none' =
      let is : first ≡ item = cc in
      absurd (none (subst P is all'.0))
  first_without (first ∷ before) [] item item' behind behind' same all all' none none' =
      let is : first ≡ item' = cc in
      absurd (none' (subst P is all.0))
  first_without (first ∷ before) (first' ∷ before') item item' behind behind' same all all' none none' =
      first_without before before' item item' behind behind' (cc) all.1 all'.1 none none'

module _ (names : List (List ℕ)) (known : Module) where
  typed_not : (before : List Clause) (clause : Clause) (behind : List Clause) → known.clauses ≡ before ++ clause ∷ behind → AllByRecursion (IsTypedClause names known) known.clauses
      → (IsTypedClause names known clause → ⊥) → ⊥
  typed_not before clause behind same typed wrong =
      wrong (all-behind (IsTypedClause names known) before clause behind (subst (AllByRecursion (IsTypedClause names known)) same typed))

  -- Where clauses are typed and the procedures have an order, these have bodies.
  abbrev pub HasAllBodies : Type 0
  HasAllBodies = AllByRecursion (IsTypedClause names known) known.clauses → order_fault known.preds (bodies names known) ≡ None → (all : List Body) × HaveBodies names known all

  module _ (has : HasAllBodies) where
    pub RefusesClauses-excludes : (refusal : Refusal) → RefusesClauses names known refusal → AcceptsClauses names known → ⊥
    RefusesClauses-excludes refusal (clauses_faulty _ is) accepts = let none = accepts.flat in cc
    RefusesClauses-excludes _ (clause_untyped before clause behind none same typed wrong) accepts = typed_not before clause behind same accepts.typed wrong
    RefusesClauses-excludes refusal (clauses_unordered _ none typed is) accepts = let ordered = accepts.ordered in cc
    RefusesClauses-excludes refusal (clauses_categories _ none typed ordered told) accepts =
        let all = has typed ordered in
        let wrong : None ≡ Some refusal = sym (accepts.categories all.0 all.1) ∙ told all.0 all.1 in
        cc

    pub RefusesClauses-unique : (one other : Refusal) → RefusesClauses names known one → RefusesClauses names known other → one ≡ other
    RefusesClauses-unique one other (clauses_faulty _ is) (clauses_faulty _ is') =
        let same : Some one ≡ Some other = sym is ∙ is' in
        cc
    RefusesClauses-unique one _ (clauses_faulty _ is) (clause_untyped before clause behind none same typed wrong) = cc
    RefusesClauses-unique _ other (clause_untyped before clause behind none same typed wrong) (clauses_faulty _ is) = cc
    RefusesClauses-unique _ _ (clause_untyped before clause behind none same typed wrong) (clause_untyped before' clause' behind' none' same' typed' wrong') =
        ap (λ (one : Clause). type_mismatch one.span)
        (first_without (IsTypedClause names known) before before' clause clause' behind behind' (sym same ∙ same') typed typed' wrong wrong')
    RefusesClauses-unique one other (clauses_faulty _ is) (clauses_unordered _ none typed is') = cc
    RefusesClauses-unique one other (clauses_unordered _ none typed is) (clauses_faulty _ is') = cc
    RefusesClauses-unique _ other (clause_untyped before clause behind none same typed wrong) (clauses_unordered _ none' typed' is) =
        absurd (typed_not before clause behind same typed' wrong)
    RefusesClauses-unique one _ (clauses_unordered _ none typed is) (clause_untyped before clause behind none' same typed' wrong) =
        absurd (typed_not before clause behind same typed wrong)
    RefusesClauses-unique one other (clauses_unordered _ none typed is) (clauses_unordered _ none' typed' is') =
        let same : Some one ≡ Some other = sym is ∙ is' in
        cc
    RefusesClauses-unique one other (clauses_faulty _ is) (clauses_categories _ none typed ordered told) = cc
    RefusesClauses-unique one other (clauses_categories _ none typed ordered told) (clauses_faulty _ is) = cc
    RefusesClauses-unique _ other (clause_untyped before clause behind none same typed wrong) (clauses_categories _ none' typed' ordered told) =
        absurd (typed_not before clause behind same typed' wrong)
    RefusesClauses-unique one _ (clauses_categories _ none typed ordered told) (clause_untyped before clause behind none' same typed' wrong) =
        absurd (typed_not before clause behind same typed wrong)
    RefusesClauses-unique one other (clauses_unordered _ none typed is) (clauses_categories _ none' typed' ordered told) = cc
    RefusesClauses-unique one other (clauses_categories _ none typed ordered told) (clauses_unordered _ none' typed' is) = cc
    RefusesClauses-unique one other (clauses_categories _ none typed ordered told) (clauses_categories _ none' typed' ordered' told') =
        let all = has typed ordered in
        let same : Some one ≡ Some other = sym (told all.0 all.1) ∙ told' all.0 all.1 in
        cc

  -- The same of goals.
  abbrev pub HasOneBody : Term → Type 0
  HasOneBody goal = IsTypedQuery names known goal → fault_in (query_order names known goal) ≡ None → (body : Body) × HasBody names known goal body

  module _ (goal : Term) (has : HasOneBody goal) where
    pub RefusesGoal-excludes : (refusal : Refusal) → RefusesGoal names known goal refusal → AcceptsGoal names known goal → ⊥
    RefusesGoal-excludes refusal (goal_faulty _ is) accepts = let none = accepts.flat in cc
    RefusesGoal-excludes _ (goal_untyped none wrong) accepts = wrong accepts.typed
    RefusesGoal-excludes refusal (goal_unordered _ none typed is) accepts = let ordered = accepts.ordered in cc
    RefusesGoal-excludes refusal (goal_categories _ none typed ordered told) accepts =
        let own = has typed ordered in
        let wrong : None ≡ Some refusal = sym (accepts.categories own.0 own.1) ∙ told own.0 own.1 in
        cc

    pub RefusesGoal-unique : (one other : Refusal) → RefusesGoal names known goal one → RefusesGoal names known goal other → one ≡ other
    RefusesGoal-unique one other (goal_faulty _ is) (goal_faulty _ is') =
        let same : Some one ≡ Some other = sym is ∙ is' in
        cc
    RefusesGoal-unique one _ (goal_faulty _ is) (goal_untyped none wrong) = cc
    RefusesGoal-unique _ other (goal_untyped none wrong) (goal_faulty _ is) = cc
    RefusesGoal-unique _ _ (goal_untyped none wrong) (goal_untyped none' wrong') = refl
    RefusesGoal-unique one other (goal_faulty _ is) (goal_unordered _ none typed is') = cc
    RefusesGoal-unique one other (goal_unordered _ none typed is) (goal_faulty _ is') = cc
    RefusesGoal-unique _ other (goal_untyped none wrong) (goal_unordered _ none' typed is) = absurd (wrong typed)
    RefusesGoal-unique one _ (goal_unordered _ none typed is) (goal_untyped none' wrong) = absurd (wrong typed)
    RefusesGoal-unique one other (goal_unordered _ none typed is) (goal_unordered _ none' typed' is') =
        let same : Some one ≡ Some other = sym is ∙ is' in
        cc
    RefusesGoal-unique one other (goal_faulty _ is) (goal_categories _ none typed ordered told) = cc
    RefusesGoal-unique one other (goal_categories _ none typed ordered told) (goal_faulty _ is) = cc
    RefusesGoal-unique _ other (goal_untyped none wrong) (goal_categories _ none' typed ordered told) = absurd (wrong typed)
    RefusesGoal-unique one _ (goal_categories _ none typed ordered told) (goal_untyped none' wrong) = absurd (wrong typed)
    RefusesGoal-unique one other (goal_unordered _ none typed is) (goal_categories _ none' typed' ordered told) = cc
    RefusesGoal-unique one other (goal_categories _ none typed ordered told) (goal_unordered _ none' typed' is) = cc
    RefusesGoal-unique one other (goal_categories _ none typed ordered told) (goal_categories _ none' typed' ordered' told') =
        let own = has typed ordered in
        let same : Some one ≡ Some other = sym (told own.0 own.1) ∙ told' own.0 own.1 in
        cc
