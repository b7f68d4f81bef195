-- The variables of goals with new variables and of goals that are joined.
use Rattle.std.proofs.Common.{◌≡◌, ℕ, zero, suc, ◌+◌, ◌<◌, ◌≤◌, ◌&&◌, true, List, [], ◌∷◌, ◌++◌, length, map, get_or, refl, ap, sym, ◌∙◌, arith, inl, inr, ⊎_elim, ◌⊎◌}
use Rattle.std.specs.Prelude.{◌==◌, nat_le}
use Rattle.std.specs.List.{filter, flat_map, position_or_len, range_with_len}
use Rattle.std.specs.List.Sorted.{IsStrictlyIncreasing}
use Rattle.std.proofs.lemmas.Bool.{and_parts, cases_eq, eqb-true, eq-eqb, leb-true, ne_eqb, or_cases, or_left, or_right}
use Rattle.std.proofs.lemmas.List.{append-nil, map-append}
use Rattle.std.proofs.lemmas.List.Sums.{position_or_len_is}
use Rattle.std.proofs.lemmas.Map.Keys.{below_from_sorted, sorted_from_strictly_increasing}
use Rattle.std.proofs.lemmas.Map.Views.{any-filter_same}
use Rattle.merc_tree.specs.declared.declarations.Clause.{Clause}
use Rattle.merc_goal_tree.specs.declared.goal.SimpleGoal.{SimpleGoal}
use Rattle.merc_goal_tree.specs.declared.goal.SimpleGoal.TheVariants.{True, Fail, Same, Shape, Arithmetic, Compare, Raise, Call}
use Rattle.merc_goal_tree.specs.Nodes.{Node, Nodes, Simple, Conjunction, Parallel, Disjunction, Conditional, Negation, Quantified, no_nodes, more_nodes, nodes_of}
use Rattle.merc_goal_tree.specs.Variables.{variables_of, variables, all_variables}
use Rattle.merc_bodies.specs.Bodies.{as_one, own_variables}
use Rattle.merc_bodies.specs.Renamed.{renamed, renamed_goal, all_renamed}
use Rattle.merc_bodies.proofs.Rising.{Rises, IsBelow, has, has-rising, first_has, rising_increases}

module _ (new : ℕ → ℕ) where
  goal_variables : (goal : SimpleGoal) → variables_of (renamed_goal new goal) ≡ map new (variables_of goal)
  goal_variables True = refl
  goal_variables Fail = refl
  goal_variables (Same one other) = refl
  goal_variables (Shape variable symbol arguments) = refl
  goal_variables (Arithmetic operation result left right) = refl
  goal_variables (Compare comparison left right) = refl
  goal_variables (Raise text) = refl
  goal_variables (Call number arguments) = refl

  both : (one other : List ℕ) (found also : List ℕ) → found ≡ map new one → also ≡ map new other → found ++ also ≡ map new (one ++ other)
  both one other found also is too = ap (λ l. l ++ also) is ∙ ap (λ l. map new one ++ l) too ∙ sym (map-append new one other)

  mutual
    pub new_variables : (goal : Node) → variables (renamed new goal) ≡ map new (variables goal)
    new_variables (Simple goal span) = goal_variables goal
    new_variables (Conjunction goals span) = all_new_variables goals
    new_variables (Parallel goals span) = all_new_variables goals
    new_variables (Disjunction goals span) = all_new_variables goals
    new_variables (Conditional condition then_part else_part span) =
        both (variables condition) (variables then_part ++ variables else_part) _ _ (new_variables condition)
        (both (variables then_part) (variables else_part) _ _ (new_variables then_part) (new_variables else_part))
    new_variables (Negation goal span) = new_variables goal
    new_variables (Quantified own goal span) = new_variables goal

    all_new_variables : (goals : Nodes) → all_variables (all_renamed new goals) ≡ map new (all_variables goals)
    all_new_variables no_nodes = refl
    all_new_variables (more_nodes first rest) = both (variables first) (all_variables rest) _ _ (new_variables first) (all_new_variables rest)

joined_variables : (goals : List Node) → all_variables (nodes_of goals) ≡ flat_map variables goals
joined_variables [] = refl
joined_variables (first ∷ rest) = ap (λ l. variables first ++ l) (joined_variables rest)

pub one_variables : (clauses : List Clause) (goals : List Node) → variables (as_one clauses goals) ≡ flat_map variables goals
one_variables clauses [] = refl
one_variables clauses (only ∷ []) = sym (append-nil (variables only))
one_variables [] (first ∷ second ∷ rest) = joined_variables (first ∷ second ∷ rest)
one_variables (clause ∷ clauses) (first ∷ second ∷ rest) = joined_variables (first ∷ second ∷ rest)

-- members

pub has_either : (number : ℕ) (one other : List ℕ) → has number (one ++ other) ≡ true → (has number one ≡ true) ⊎ (has number other ≡ true)
has_either number [] other there = inr there
has_either number (first ∷ rest) other there =
    ⊎_elim
    (λ (here : (number == first) ≡ true). inl (or_left (number == first) (has number rest) here))
    (λ behind. ⊎_elim (λ (among : has number rest ≡ true). inl (or_right (number == first) (has number rest) among)) (λ (among : has number other ≡ true). inr among) (has_either number rest other behind))
    (or_cases (number == first) (has number (rest ++ other)) there)

pub has_new : (new : ℕ → ℕ) (number : ℕ) (numbers : List ℕ) → has number numbers ≡ true → has (new number) (map new numbers) ≡ true
has_new new number [] there = absurd cc
has_new new number (first ∷ rest) there =
    ⊎_elim
    (λ (here : (number == first) ≡ true). or_left (new number == new first) (has (new number) (map new rest)) (eq-eqb (new number) (new first) (ap new (eqb-true number first here))))
    (λ behind. or_right (new number == new first) (has (new number) (map new rest)) (has_new new number rest behind))
    (or_cases (number == first) (has number rest) there)

-- a new number is one of an old number
pub has_old : (new : ℕ → ℕ) (number : ℕ) (numbers : List ℕ) → has number (map new numbers) ≡ true → (old : ℕ) × (has old numbers ≡ true) × (number ≡ new old)
has_old new number [] there = absurd cc
has_old new number (first ∷ rest) there =
    ⊎_elim
    (λ (here : (number == new first) ≡ true). (first, first_has first rest, eqb-true number (new first) here))
    (λ behind. let found = has_old new number rest behind in (found.0, or_right (found.0 == first) (has found.0 rest) found.1, found.2))
    (or_cases (number == new first) (has number (map new rest)) there)

pub own_members : (arity : ℕ) (form : Node) (number : ℕ) → has number (own_variables arity form) ≡ (nat_le arity number && has number (variables form))
own_members arity form number =
    has-rising number (filter (λ variable. nat_le arity variable) (variables form))
    ∙ any-filter_same (λ other. number == other) (λ variable. nat_le arity variable) (nat_le arity number) (λ other same. ap (λ n. nat_le arity n) (sym (eqb-true number other same))) (variables form)

pub own_is : (arity : ℕ) (form : Node) (number : ℕ) → has number (own_variables arity form) ≡ true → (arity ≤ number) × (has number (variables form) ≡ true)
own_is arity form number there =
    let parts = and_parts (nat_le arity number) (has number (variables form)) (sym (own_members arity form number) ∙ there) in (leb-true arity number parts.0, parts.1)

-- the place of an own variable
pub own_place : (arity : ℕ) (form : Node) (index : ℕ) → index < length (own_variables arity form)
    → position_or_len (λ other. other == get_or (own_variables arity form) index 0) (own_variables arity form) ≡ index
own_place arity form index within =
    let own = own_variables arity form in
    let rises : IsStrictlyIncreasing own = rising_increases (filter (λ variable. nat_le arity variable) (variables form)) in
    position_or_len_is (λ other. other == get_or own index 0) own index 0 (omega (arith, within))
    (λ k before. ne_eqb (get_or own k 0) (get_or own index 0) (λ same. let less = below_from_sorted own k index 0 (sorted_from_strictly_increasing own rises) before within in omega (arith, less, same)))
    (λ _. eq-eqb (get_or own index 0) (get_or own index 0) refl)

-- ranges

pub range_has : (number start count : ℕ) → start ≤ number → number < start + count → has number (range_with_len start count) ≡ true
range_has number start zero least below = absurd (omega (arith, least, below))
range_has number start (suc count) least below =
    ⊎_elim
    (λ (is : number ≡ start). or_left (number == start) (has number (range_with_len (start + 1) count)) (eq-eqb number start is))
    (λ (differs : number ≡ start → ⊥). or_right (number == start) (has number (range_with_len (start + 1) count)) (range_has number (start + 1) count (omega arith) (omega arith)))
    (cases_eq number start)

pub range_is : (number start count : ℕ) → has number (range_with_len start count) ≡ true → (start ≤ number) × (number < start + count)
range_is number start zero there = absurd cc
range_is number start (suc count) there =
    ⊎_elim
    (λ (here : (number == start) ≡ true). let is = eqb-true number start here in (omega (arith, is), omega (arith, is)))
    (λ behind. let found = range_is number (start + 1) count behind in (omega (arith, found.0), omega (arith, found.1)))
    (or_cases (number == start) (has number (range_with_len (start + 1) count)) there)

range_below : (number start count : ℕ) → number < start → IsBelow number (range_with_len start count)
range_below number start zero less = tt
range_below number start (suc count) less = (less, range_below number (start + 1) count (omega (arith, less)))

pub range_rises : (start count : ℕ) → Rises (range_with_len start count)
range_rises start zero = tt
range_rises start (suc count) = (range_below start (start + 1) count (omega arith), range_rises (start + 1) count)
