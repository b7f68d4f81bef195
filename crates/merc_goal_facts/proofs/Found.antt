-- Facts of goals by what was found of the goals in them.
use Rattle.std.specs.Prelude.{◌≡◌, ◌==◌, ◌||◌, ◌&&◌, not, ℕ, Bool, true, false, List, [], ◌∷◌, ◌++◌, length, refl, if◌then◌else◌}
use Rattle.std.specs.List.{filter, list_all}
use Rattle.std.proofs.Common.{◌∙◌, ◌≢◌, ◌⊎◌, ap, sym, arith, inl, inr}
use Rattle.std.proofs.lemmas.Bool.{cases_eq, eqb-true}
use Rattle.std.proofs.lemmas.Bool.Decides.{nat_tests}
use Rattle.merc_base.specs.declared.place.Span.{Span}
use Rattle.merc_tree.specs.declared.declarations.ModeDecl.{ModeDecl}
use Rattle.merc_goal_tree.specs.declared.goal.SimpleGoal.{SimpleGoal}
use Rattle.merc_goal_tree.specs.Nodes.{Node, Nodes, Simple, Conjunction, Parallel, Disjunction, Conditional, Negation, Quantified, no_nodes, more_nodes}
use Rattle.merc_goal_tree.specs.Variables.{variables, all_variables, variables_of}
use Rattle.merc_order.specs.Bound.{Bound, among, are_bound}
use Rattle.merc_order.specs.Order.{outside, is_simple_reached, binds, some_bind, from}
use Rattle.merc_order.specs.Ordered.{is_ready}
use Rattle.merc_goal_facts.specs.declared.facts.Facts.{Facts}
use Rattle.merc_goal_facts.specs.Bounds.{behind, all_behind}
use Rattle.merc_goal_facts.specs.Facts.{AreFactsOf}
use Rattle.merc_goal_facts.specs.Outside.{occurs_outside, IsStretch}
use Rattle.merc_goal_facts.proofs.Bounds.{or_assoc, or_false, among-append}
use Rattle.merc_goal_facts.proofs.Ready.{negation_ready, quantified_ready}
use Rattle.merc_goal_facts.proofs.Outside.{outside_stretch}

-- truth values

same_truth : (one other : Bool) → (one ≡ true → other ≡ true) → (other ≡ true → one ≡ true) → one ≡ other
same_truth true other to from = sym (to refl)
same_truth false true to from = from refl
same_truth false false to from = refl

pub both_true : (one other : Bool) → (one && other) ≡ true → (one ≡ true) × (other ≡ true)
both_true true other is = (refl, is)
both_true false other is = cc

pub either_true : (one other : Bool) → (one || other) ≡ true → (one ≡ true) ⊎ (other ≡ true)
either_true true other is = inl refl
either_true false other is = inr is

and_true : (one : Bool) → (one && true) ≡ one
and_true true = refl
and_true false = refl

and_false : (one : Bool) → (one && false) ≡ false
and_false true = refl
and_false false = refl

pub or_left : (one other : Bool) → one ≡ true → (one || other) ≡ true
or_left true other is = refl
or_left false other is = cc

pub or_right : (one other : Bool) → other ≡ true → (one || other) ≡ true
or_right true other is = refl
or_right false other is = is

imply : (known keeps outer : Bool) → (keeps ≡ true → outer ≡ true → known ≡ true) → (known || not keeps || not outer) ≡ true
imply true true true h = refl
imply true true false h = refl
imply true false outer h = refl
imply false true true h = h refl refl
imply false true false h = refl
imply false false outer h = refl

implied : (known keeps outer : Bool) → (known || not keeps || not outer) ≡ true → keeps ≡ true → outer ≡ true → known ≡ true
implied true keeps outer h k o = refl
implied false true true h k o = h
implied false true false h k o = cc
implied false false outer h k o = cc

-- variables among others

same_is : (variable : ℕ) → (variable == variable) ≡ true
same_is variable = grind (arith, nat_tests)

other_is : (one other : ℕ) → one ≢ other → (one == other) ≡ false
other_is one other apart = grind (arith, nat_tests)

pub all_to : (test : Bound) (variables : List ℕ) → ((variable : ℕ) → among variables variable ≡ true → test variable ≡ true) → list_all test variables ≡ true
all_to test [] h = refl
all_to test (first ∷ rest) h =
    ap (λ b. b && list_all test rest) (h first (or_left (first == first) (among rest first) (same_is first)))
    ∙ all_to test rest (λ variable known. h variable (or_right (variable == first) (among rest variable) known))

pub all_from : (test : Bound) (variables : List ℕ) → list_all test variables ≡ true → (variable : ℕ) → among variables variable ≡ true → test variable ≡ true
all_from test [] all variable known = cc
all_from test (first ∷ rest) all variable known =
    let h = both_true (test first) (list_all test rest) all in
    elim (either_true (variable == first) (among rest variable) known) as (λ _. test variable ≡ true) [
      | inl same ↦ ap test (eqb-true variable first same) ∙ h.0
      | inr later ↦ all_from test rest h.1 variable later
    ]

kept_same : (test same : Bool) (first variable : ℕ) (rest : List ℕ) (known other : Bool) → (variable == first) ≡ same → same ≡ true → test ≡ other → among rest variable ≡ (known && other)
    → among (if test then first ∷ rest else rest) variable ≡ ((same || known) && other)
kept_same true true first variable rest known other e s t is = ap (λ b. b || among rest variable) e ∙ t
kept_same false true first variable rest known true e s t is = cc
kept_same false true first variable rest true false e s t is = is
kept_same false true first variable rest false false e s t is = is
kept_same test false first variable rest known other e s t is = cc

kept_other : (test same : Bool) (first variable : ℕ) (rest : List ℕ) (known other : Bool) → (variable == first) ≡ same → same ≡ false → among rest variable ≡ (known && other)
    → among (if test then first ∷ rest else rest) variable ≡ ((same || known) && other)
kept_other true false first variable rest known other e s is = ap (λ b. b || among rest variable) e ∙ is
kept_other false false first variable rest known other e s is = is
kept_other test true first variable rest known other e s is = cc

pub among-filter : (test : Bound) (variables : List ℕ) (variable : ℕ) → among (filter test variables) variable ≡ (among variables variable && test variable)
among-filter test [] variable = refl
among-filter test (first ∷ rest) variable = elim (cases_eq variable first) as (λ _. among (if test first then first ∷ filter test rest else filter test rest) variable ≡ (((variable == first) || among rest variable) && test variable)) [
  | inl e ↦ kept_same (test first) (variable == first) first variable (filter test rest) (among rest variable) (test variable) refl (ap (λ v. variable == v) (sym e) ∙ same_is variable) (ap test (sym e)) (among-filter test rest variable)
  | inr apart ↦ kept_other (test first) (variable == first) first variable (filter test rest) (among rest variable) (test variable) refl (other_is variable first apart) (among-filter test rest variable)
]

-- variables without doubles

one_behind : (known : Bool) (bound : List ℕ) (variable other : ℕ) → among bound variable ≡ known → among (if known then bound else bound ++ variable ∷ []) other ≡ (among bound other || (other == variable))
one_behind true bound variable other is = elim (cases_eq other variable) as (λ _. among bound other ≡ (among bound other || (other == variable))) [
  | inl e ↦ let h : among bound other ≡ true = ap (among bound) e ∙ is in h ∙ sym (or_left (among bound other) (other == variable) h)
  | inr apart ↦ sym (ap (λ b. among bound other || b) (other_is other variable apart) ∙ or_false (among bound other))
]
one_behind false bound variable other is = among-append bound (variable ∷ []) other ∙ ap (λ b. among bound other || b) (or_false (other == variable))

pub among-all_behind : (bound variables : List ℕ) (other : ℕ) → among (all_behind bound variables) other ≡ (among bound other || among variables other)
among-all_behind bound [] other = sym (or_false (among bound other))
among-all_behind bound (first ∷ rest) other =
    among-all_behind (behind bound first) rest other ∙ ap (λ b. b || among rest other) (one_behind (among bound first) bound first other refl)
    ∙ or_assoc (among bound other) (other == first) (among rest other)

module _ (total : ℕ → ℕ) (modes : ℕ → List ModeDecl) where
  -- What a goal binds occurs in it.

  and_left : (one other : Bool) → (one && other) ≡ true → one ≡ true
  and_left one other is = (both_true one other is).0

  mutual
    pub binds_within : (goal : Node) (variable : ℕ) → binds total modes goal variable ≡ true → among (variables goal) variable ≡ true
    binds_within (Simple goal span) variable is = is
    binds_within (Conjunction goals span) variable is = some_within goals variable is
    binds_within (Parallel goals span) variable is = some_within goals variable is
    binds_within (Disjunction goals span) variable is = and_left (among (all_variables goals) variable) _ (and_left _ _ is)
    binds_within (Conditional condition then_part else_part span) variable is =
        and_left (among (variables (Conditional condition then_part else_part span)) variable) _ (and_left _ _ is)
    binds_within (Negation goal span) variable is = cc
    binds_within (Quantified own goal span) variable is = and_left (among (variables goal) variable) _ (and_left _ _ is)

    pub some_within : (goals : Nodes) (variable : ℕ) → some_bind total modes goals variable ≡ true → among (all_variables goals) variable ≡ true
    some_within no_nodes variable is = cc
    some_within (more_nodes first rest) variable is =
        among-append (variables first) (all_variables rest) variable
        ∙ (elim (either_true (binds total modes first variable) (some_bind total modes rest variable) is) as (λ _. (among (variables first) variable || among (all_variables rest) variable) ≡ true) [
          | inl here ↦ or_left (among (variables first) variable) (among (all_variables rest) variable) (binds_within first variable here)
          | inr later ↦ or_right (among (variables first) variable) (among (all_variables rest) variable) (some_within rest variable later)
        ])

  -- Those of some variables that occur outside are bound, where none of them is unbound that occurs outside.
  pub owed_by : (all : List ℕ) (start end : ℕ) (inside those found : List ℕ) (keeps bound : Bound) → IsStretch total all start end inside
      → ((variable : ℕ) → among found variable ≡ keeps variable) → ((variable : ℕ) → keeps variable ≡ true → among those variable ≡ true)
      → are_bound bound (filter (λ variable. occurs_outside all start end variable) found)
      ≡ list_all (λ variable. bound variable || not (keeps variable) || not (outside total modes inside variable)) those
  owed_by all start end inside those found keeps bound stretch found_is within =
      let outer : Bound = λ variable. occurs_outside all start end variable in
      let test : Bound = λ variable. bound variable || not (keeps variable) || not (outside total modes inside variable) in
      same_truth (are_bound bound (filter outer found)) (list_all test those)
      (λ owed. all_to test those (λ variable _. imply (bound variable) (keeps variable) (outside total modes inside variable)
      (λ k o. all_from bound (filter outer found) owed variable
      (among-filter outer found variable ∙ ap (λ b. b && outer variable) (found_is variable ∙ k) ∙ outside_stretch total modes all start end inside variable stretch ∙ o))))
      (λ apart. all_to bound (filter outer found) (λ variable known.
      let h = both_true (among found variable) (outer variable) (sym (among-filter outer found variable) ∙ known) in
      let k : keeps variable ≡ true = sym (found_is variable) ∙ h.0 in
      implied (bound variable) (keeps variable) (outside total modes inside variable) (all_from test those apart variable (within variable k)) k
      (sym (outside_stretch total modes all start end inside variable stretch) ∙ h.1)))

  pub simple_are : (goal : SimpleGoal) (span : Span) (facts : Facts) → facts.reached ≡ is_simple_reached total modes goal → facts.binds ≡ all_behind [] (variables_of goal)
      → facts.owed ≡ [] → facts.owed_by_condition ≡ [] → ((bound : Bound) → is_ready (from total modes (Simple goal span) bound) ≡ true → are_bound bound facts.needs ≡ true)
      → facts.occurrences ≡ length (variables_of goal) → AreFactsOf total modes (Simple goal span) facts
  simple_are goal span facts r b o c needed n = record {
    reached_is = r;
    binds_are = λ variable. ap (λ l. among l variable) b ∙ among-all_behind [] (variables_of goal) variable;
    owed_are = λ bound. ap (are_bound bound) o;
    owed_by_condition_are = λ bound. ap (are_bound bound) c;
    needed = needed;
    occurrences_are = n;
  }

  pub negation_are : (goal : Node) (span : Span) (all : List ℕ) (start end : ℕ) (inner facts : Facts) → IsStretch total all start end (variables goal) → AreFactsOf total modes goal inner
      → facts.reached ≡ true → facts.binds ≡ [] → facts.owed ≡ filter (λ variable. occurs_outside all start end variable) inner.binds → facts.owed_by_condition ≡ []
      → facts.needs ≡ inner.needs → facts.occurrences ≡ inner.occurrences → AreFactsOf total modes (Negation goal span) facts
  negation_are goal span all start end inner facts stretch known r b o c s n = record {
    reached_is = r;
    binds_are = λ variable. ap (λ l. among l variable) b;
    owed_are = λ bound. ap (are_bound bound) o
        ∙ owed_by all start end (variables goal) (variables goal) inner.binds (binds total modes goal) bound stretch known.binds_are (binds_within goal);
    owed_by_condition_are = λ bound. ap (are_bound bound) c;
    needed = λ bound ready. ap (λ l. are_bound bound l) s ∙ known.needed bound (both_true (is_ready (from total modes goal bound)) _ (sym (negation_ready total modes goal span bound) ∙ ready)).0;
    occurrences_are = n ∙ known.occurrences_are;
  }

  -- what is shared and bound, of what was found to be bound
  shared_by : (within bound outer : Bool) → (bound ≡ true → within ≡ true) → (bound && outer) ≡ ((within && outer) && bound)
  shared_by true true outer h = sym (and_true outer)
  shared_by true false outer h = sym (and_false outer)
  shared_by false true outer h = let wrong = h refl in cc
  shared_by false false outer h = refl

  pub quantified_are : (own : List ℕ) (goal : Node) (span : Span) (all : List ℕ) (start end : ℕ) (inner facts : Facts) → IsStretch total all start end (variables goal) → AreFactsOf total modes goal inner
      → facts.reached ≡ inner.reached → facts.binds ≡ filter (λ variable. occurs_outside all start end variable) inner.binds → facts.owed ≡ [] → facts.owed_by_condition ≡ []
      → facts.needs ≡ inner.needs → facts.occurrences ≡ inner.occurrences → AreFactsOf total modes (Quantified own goal span) facts
  quantified_are own goal span all start end inner facts stretch known r b o c s n = record {
    reached_is = r ∙ known.reached_is;
    binds_are = λ variable. ap (λ l. among l variable) b ∙ among-filter (λ v. occurs_outside all start end v) inner.binds variable
        ∙ ap (λ t. t && occurs_outside all start end variable) (known.binds_are variable)
        ∙ ap (λ t. binds total modes goal variable && t) (outside_stretch total modes all start end (variables goal) variable stretch)
        ∙ shared_by (among (variables goal) variable) (binds total modes goal variable) (outside total modes (variables goal) variable) (binds_within goal variable);
    owed_are = λ bound. ap (are_bound bound) o;
    owed_by_condition_are = λ bound. ap (are_bound bound) c;
    needed = λ bound ready. ap (λ l. are_bound bound l) s ∙ known.needed bound (sym (quantified_ready total modes own goal span bound) ∙ ready);
    occurrences_are = n ∙ known.occurrences_are;
  }
