-- The own variables of a body have the numbers behind the arguments, without gaps.
use Rattle.std.proofs.Common.{◌≡◌, ℕ, ◌+◌, ◌-◌, ◌<◌, ◌≤◌, Bool, true, false, List, [], ◌∷◌, length, map, get_or, refl, ap, sym, ◌∙◌, subst, arith, ⊎_elim}
use Rattle.std.specs.Prelude.{◌==◌, nat_le, nat_lt}
use Rattle.std.specs.List.{filter, flat_map, position_or_len, range_with_len}
use Rattle.std.proofs.lemmas.Bool.{and_from, cases_lt, eq-eqb, le-leb, lt-ltb, le-ltb}
use Rattle.std.proofs.lemmas.List.Folds.{list_any_at}
use Rattle.merc_tree.specs.declared.declarations.Clause.{Clause}
use Rattle.merc_tree.specs.declared.declarations.PredDecl.{PredDecl}
use Rattle.merc_goal_tree.specs.Nodes.{Node}
use Rattle.merc_goal_tree.specs.Variables.{variables}
use Rattle.merc_bodies.specs.Bodies.{as_one, asked_body, body_of, clauses_of, joined_forms, numbered, own_variables}
use Rattle.merc_bodies.specs.Renamed.{renamed}
use Rattle.merc_bodies.proofs.Rising.{has, same_rising, rises-rising}
use Rattle.merc_bodies.proofs.Members.{has_first, has_second, has_own, place_within}
use Rattle.merc_order_laws.specs.BodyNumbers.{own_count, body_count}
use Rattle.merc_order_laws.proofs.Choices.{chosen_true, chosen_false}
use Rattle.merc_order_laws.proofs.JoinedVariables.{new_variables, one_variables, has_either, has_new, has_old, own_is, own_members, own_place, range_has, range_is, range_rises}

same_bool : (one other : Bool) → (one ≡ true → other ≡ true) → (other ≡ true → one ≡ true) → one ≡ other
same_bool true other to from = sym (to refl)
same_bool false true to from = from refl
same_bool false false to from = refl

module _ (arity : ℕ) where
  -- a new number is an argument's, or lies among those that the clause takes
  new_within : (at : ℕ) (form : Node) (number : ℕ) → has number (variables form) ≡ true → arity ≤ at
      → arity ≤ numbered arity at (own_variables arity form) number
      → (at ≤ numbered arity at (own_variables arity form) number) × (numbered arity at (own_variables arity form) number < at + length (own_variables arity form))
  new_within at form number there behind past =
      let own = own_variables arity form in
      let place = position_or_len (λ other. other == number) own in
      ⊎_elim
      (λ (argument : number < arity).
      let is : numbered arity at own number ≡ number = chosen_true (nat_lt number arity) number (at + place) (lt-ltb number arity argument) in
      absurd (omega (arith, past, is, argument)))
      (λ (own_one : arity ≤ number).
      let is : numbered arity at own number ≡ at + place = chosen_false (nat_lt number arity) number (at + place) (le-ltb number arity own_one) in
      let within = place_within number own (has_own arity form number there own_one) in
      (omega (arith, is), omega (arith, is, within)))
      (cases_lt number arity)

  -- the variables of joined forms are arguments or numbered from `at` on
  within_all : (at : ℕ) (forms : List Node) (number : ℕ) → arity ≤ at → arity ≤ number → has number (flat_map variables (joined_forms arity at forms)) ≡ true
      → (at ≤ number) × (number < at + own_count arity forms)
  within_all at [] number behind past there = absurd cc
  within_all at (form ∷ forms) number behind past there =
      let own = own_variables arity form in
      let goal = renamed (numbered arity at own) form in
      ⊎_elim
      (λ (here : has number (variables goal) ≡ true).
      let found = has_old (numbered arity at own) number (variables form) (ap (has number) (sym (new_variables (numbered arity at own) form)) ∙ here) in
      let lies = new_within at form found.0 found.1 behind (subst (λ n. arity ≤ n) found.2 past) in
      (omega (arith, lies.0, found.2), omega (arith, lies.1, found.2)))
      (λ (later : has number (flat_map variables (joined_forms arity (at + length own) forms)) ≡ true).
      let lies = within_all (at + length own) forms number (omega (arith, behind)) past later in
      (omega (arith, lies.0), omega (arith, lies.1)))
      (has_either number (variables goal) (flat_map variables (joined_forms arity (at + length own) forms)) there)

  -- each of those numbers is there
  there_all : (at : ℕ) (forms : List Node) (number : ℕ) → arity ≤ at → at ≤ number → number < at + own_count arity forms → has number (flat_map variables (joined_forms arity at forms)) ≡ true
  there_all at [] number behind least below = absurd (omega (arith, least, below))
  there_all at (form ∷ forms) number behind least below =
      let own = own_variables arity form in
      let goal = renamed (numbered arity at own) form in
      ⊎_elim
      (λ (here : number < at + length own).
      let index = number - at in
      let within : index < length own = omega (arith, here, least) in
      let old = get_or own index 0 in
      let among : has old own ≡ true = list_any_at (λ other. old == other) own index 0 within (eq-eqb old old refl) in
      let is = own_is arity form old among in
      let new : numbered arity at own old ≡ number =
      chosen_false (nat_lt old arity) old (at + position_or_len (λ other. other == old) own) (le-ltb old arity is.0)
      ∙ ap (λ n. at + n) (own_place arity form index within) ∙ omega (arith, least) in
      has_first number (variables goal) (flat_map variables (joined_forms arity (at + length own) forms))
      (ap (has number) (new_variables (numbered arity at own) form)
      ∙ subst (λ n. has n (map (numbered arity at own) (variables form)) ≡ true) new (has_new (numbered arity at own) old (variables form) is.1)))
      (λ (later : at + length own ≤ number).
      has_second number (variables goal) (flat_map variables (joined_forms arity (at + length own) forms))
      (there_all (at + length own) forms number (omega (arith, behind)) later (omega (arith, below))))
      (cases_lt number (at + length own))

  joined_no_gaps : (clauses : List Clause) (forms : List Node) → own_variables arity (as_one clauses (joined_forms arity arity forms)) ≡ range_with_len arity (own_count arity forms)
  joined_no_gaps clauses forms =
      let body = as_one clauses (joined_forms arity arity forms) in
      same_rising (own_variables arity body) (range_with_len arity (own_count arity forms)) (rises-rising (filter (λ variable. nat_le arity variable) (variables body))) (range_rises arity (own_count arity forms))
      (λ number. same_bool (has number (own_variables arity body)) (has number (range_with_len arity (own_count arity forms)))
      (λ there.
      let is = own_is arity body number there in
      let lies = within_all arity forms number (omega arith) is.0 (ap (has number) (sym (one_variables clauses (joined_forms arity arity forms))) ∙ is.1) in
      range_has number arity (own_count arity forms) lies.0 lies.1)
      (λ there.
      let lies = range_is number arity (own_count arity forms) there in
      own_members arity body number
      ∙ and_from (nat_le arity number) (has number (variables body)) (le-leb arity number lies.0)
      (ap (has number) (one_variables clauses (joined_forms arity arity forms)) ∙ there_all arity forms number (omega arith) lies.0 lies.1)))

  joined_below : (clauses : List Clause) (forms : List Node) (number : ℕ) → has number (variables (as_one clauses (joined_forms arity arity forms))) ≡ true → number < arity + own_count arity forms
  joined_below clauses forms number there =
      ⊎_elim
      (λ (argument : number < arity). omega (arith, argument))
      (λ (past : arity ≤ number). (within_all arity forms number (omega arith) past (ap (has number) (sym (one_variables clauses (joined_forms arity arity forms))) ∙ there)).1)
      (cases_lt number arity)

pub no_gaps : (form : Clause → Node) (clauses : List Clause) (declared : PredDecl)
    → own_variables (length declared.args) (body_of form clauses declared) ≡ range_with_len (length declared.args) (body_count form clauses declared)
no_gaps form clauses declared = joined_no_gaps (length declared.args) (clauses_of clauses declared) (map form (clauses_of clauses declared))

pub are_below : (form : Clause → Node) (clauses : List Clause) (declared : PredDecl) (variable : ℕ)
    → has variable (variables (body_of form clauses declared)) ≡ true → variable < length declared.args + body_count form clauses declared
are_below form clauses declared variable there = joined_below (length declared.args) (clauses_of clauses declared) (map form (clauses_of clauses declared)) variable there

pub asked_no_gaps : (form : Node) → own_variables 0 (asked_body form) ≡ range_with_len 0 (length (own_variables 0 form))
asked_no_gaps form = joined_no_gaps 0 [] (form ∷ []) ∙ ap (range_with_len 0) (omega arith)
