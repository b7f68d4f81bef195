-- A body that is known is ordered from what is bound: its goal, and then whether its head variables are bound at the end.
use Rattle.std.specs.Prelude.{◌≡◌, ◌<◌, ◌+◌, ◌==◌, ◌||◌, ◌&&◌, not, ℕ, zero, suc, Bool, true, false, List, [], ◌∷◌, ◌++◌, length, take, refl, if◌then◌else◌}
use Rattle.std.specs.List.{list_all, slice_index_or}
use Rattle.std.proofs.Common.{◌∙◌, ap, sym, subst, arith, add-one}
use Rattle.std.proofs.lemmas.Bool.Decides.{nat_tests}
use Rattle.std.proofs.lemmas.List.{append-nil}
use mathlib.Core.Path.{fun_ext}
use Rattle.merc_base.specs.declared.place.Span.{Span}
use Rattle.merc_tree.specs.declared.declarations.Arg.{Arg}
use Rattle.merc_tree.specs.declared.declarations.Arg.TheVariants.{Input, Output}
use Rattle.merc_tree.specs.declared.declarations.ModeDecl.{ModeDecl}
use Rattle.merc_goal_tree.specs.Nodes.{Node}
use Rattle.merc_goal_tree.specs.Parts.{parts_of}
use Rattle.merc_goal_tree.specs.Variables.{variables, count}
use Rattle.merc_graded_tree.specs.Nodes.{Node as OrderedNode}
use Rattle.merc_order.specs.Bound.{Bound, among, are_bound}
use Rattle.merc_order.specs.Faults.{unbound_output}
use Rattle.merc_order.specs.Order.{from, binds}
use Rattle.merc_order.specs.Ordered.{Ordered, Ready, Stuck, if_ready}
use Rattle.merc_order.specs.Procedures.{IsBody, are_bound_behind, body_from, bound_at, first_fresh, total_of}
use Rattle.merc_order.specs.Spelt.{spelt}
use Rattle.merc_modes.specs.Bodies.{IsKnown}
use Rattle.merc_goal_facts.specs.Bounds.{behind, all_behind}
use Rattle.merc_goal_facts.specs.Facts.{subgoals, AreFactsOf, AreKnown}
use Rattle.merc_goal_facts.specs.Outside.{IsStretch}
use Rattle.merc_goal_facts.specs.declared.facts.Facts.{Facts}
use Rattle.merc_modes.specs.declared.ordering.Body.{Body}
use Rattle.merc_goal_facts.proofs.Bounds.{or_false}
use Rattle.merc_goal_facts.proofs.Outside.{count-append}
use Rattle.merc_readiness.proofs.Binding.{among_all}
use Rattle.merc_readiness.proofs.Marking.{known_goal, known_length, parts_length, subgoals_length}

-- the arguments that a mode has bound

abbrev pub is_input : Arg → Bool
is_input Input = true
is_input Output = false

next_eq : (one other : ℕ) → (suc one == suc other) ≡ (one == other)
next_eq one other = grind (arith, nat_tests)

none_eq : (other : ℕ) → (zero == suc other) ≡ false
none_eq other = grind (arith, nat_tests)

past_eq : (one : ℕ) → (suc one == zero) ≡ false
past_eq one = grind (arith, nat_tests)

input_on : (places : List Arg) (index variable : ℕ) (place : Arg) → index < length places → slice_index_or places index Input ≡ place
    → bound_at (take (suc index) places) variable ≡ (bound_at (take index places) variable || ((variable == index) && is_input place))
input_on [] index variable place within is = absurd (omega (arith, within))
input_on (Input ∷ rest) zero zero place within is = ap is_input is
input_on (Output ∷ rest) zero zero place within is = ap is_input is
input_on (Input ∷ rest) zero (suc variable) place within is = sym (ap (λ b. b && is_input place) (past_eq variable))
input_on (Output ∷ rest) zero (suc variable) place within is = sym (ap (λ b. b && is_input place) (past_eq variable))
input_on (Input ∷ rest) (suc index) zero place within is = refl
input_on (Output ∷ rest) (suc index) zero place within is = sym (ap (λ b. b && is_input place) (none_eq index))
input_on (Input ∷ rest) (suc index) (suc variable) place within is =
    input_on rest index variable place (omega (arith, within)) is ∙ ap (λ b. bound_at (take index rest) variable || (b && is_input place)) (sym (next_eq variable index))
input_on (Output ∷ rest) (suc index) (suc variable) place within is =
    input_on rest index variable place (omega (arith, within)) is ∙ ap (λ b. bound_at (take index rest) variable || (b && is_input place)) (sym (next_eq variable index))

and_true : (b : Bool) → (b && true) ≡ b
and_true true = refl
and_true false = refl

and_false : (b : Bool) → (b && false) ≡ false
and_false true = refl
and_false false = refl

one_behind : (bound : List ℕ) (index variable : ℕ) → among (behind bound index) variable ≡ (among bound variable || (variable == index))
one_behind bound index variable = among_all bound (index ∷ []) variable ∙ ap (λ b. among bound variable || b) (or_false (variable == index))

pub input_bound : (places : List Arg) (index number variable : ℕ) (before after : List ℕ) → index < length places → slice_index_or places index Input ≡ Input → number ≡ index
    → after ≡ behind before number → among before variable ≡ bound_at (take index places) variable → among after variable ≡ bound_at (take (index + 1) places) variable
input_bound places index number variable before after within is number_is after_is same =
    ap (λ l. among l variable) (after_is ∙ ap (behind before) number_is) ∙ one_behind before index variable
    ∙ ap (λ b. b || (variable == index)) same ∙ ap (λ b. bound_at (take index places) variable || b) (sym (and_true (variable == index)))
    ∙ sym (input_on places index variable Input within is) ∙ ap (λ n. bound_at (take n places) variable) (sym (add-one index))

pub output_unbound : (places : List Arg) (index variable : ℕ) (before after : List ℕ) → index < length places → slice_index_or places index Input ≡ Output
    → after ≡ before → among before variable ≡ bound_at (take index places) variable → among after variable ≡ bound_at (take (index + 1) places) variable
output_unbound places index variable before after within is after_is same =
    ap (λ l. among l variable) after_is ∙ same ∙ sym (or_false (bound_at (take index places) variable))
    ∙ ap (λ b. bound_at (take index places) variable || b) (sym (and_false (variable == index)))
    ∙ sym (input_on places index variable Output within is) ∙ ap (λ n. bound_at (take n places) variable) (sym (add-one index))

module _ (modes : ℕ → List ModeDecl) (heads : List ℕ) (goal : Node) where
  -- whether the head variables are bound at the goal's end

  pub all_bound : (facts : Facts) (old : List ℕ) → facts.reached ≡ true → AreFactsOf (total_of heads goal) modes goal facts
      → are_bound (among (all_behind old facts.binds)) heads ≡ are_bound_behind modes heads (among old) goal
  all_bound facts old is_reached are =
      ap (λ p. list_all p heads) (fun_ext (λ variable. among_all old facts.binds variable ∙ ap (λ b. among old variable || b) (are.binds_are variable)))
      ∙ ap (λ b. not b || list_all (λ variable. among old variable || binds (total_of heads goal) modes goal variable) heads) (sym is_reached ∙ are.reached_is)

  -- what is known of the body serves for its goal

  pub facts_length : (facts : List Facts) (body : Body) → facts ≡ body.facts.items → IsKnown modes heads goal body → length facts ≡ length (parts_of goal)
  facts_length facts body is known = ap (λ l. length l) is ∙ known_length (total_of heads goal) modes (subgoals goal) body.facts.items known.facts_are ∙ subgoals_length goal

  pub facts_known : (facts : List Facts) (body : Body) → facts ≡ body.facts.items → IsKnown modes heads goal body → AreKnown (total_of heads goal) modes (subgoals goal) facts
  facts_known facts body is known = subst (AreKnown (total_of heads goal) modes (subgoals goal)) (sym is) known.facts_are

  pub some_facts : (facts : List Facts) (body : Body) → facts ≡ body.facts.items → IsKnown modes heads goal body → 0 < length facts
  some_facts facts body is known = omega (arith, facts_length facts body is known, parts_length goal)

  not_empty : (front : List Facts) (last : Facts) → [] ≡ front ++ last ∷ [] → ⊥
  not_empty [] last is = cc
  not_empty (first ∷ front) last is = cc

  last_known : (facts inner front : List Facts) (own last : Facts) → facts ≡ inner ++ own ∷ [] → facts ≡ front ++ last ∷ [] → own ≡ last
  last_known facts [] [] own last one other = cc
  last_known facts [] (first ∷ front) own last one other = let is : own ∷ [] ≡ first ∷ (front ++ last ∷ []) = sym one ∙ other in absurd (not_empty front last cc)
  last_known facts (first ∷ inner) [] own last one other = let is : last ∷ [] ≡ first ∷ (inner ++ own ∷ []) = sym other ∙ one in absurd (not_empty inner own cc)
  last_known facts (first ∷ inner) (second ∷ front) own last one other =
      let is : first ∷ (inner ++ own ∷ []) ≡ second ∷ (front ++ last ∷ []) = sym one ∙ other in last_known (inner ++ own ∷ []) inner front own last refl cc

  pub own_known : (facts front : List Facts) (own : Facts) (body : Body) → facts ≡ body.facts.items → IsKnown modes heads goal body → facts ≡ front ++ own ∷ []
      → AreFactsOf (total_of heads goal) modes goal own
  own_known facts front own body is known end =
      let k = known_goal (total_of heads goal) modes goal body.facts.items known.facts_are in
      subst (AreFactsOf (total_of heads goal) modes goal) (last_known facts k.inner front k.own own (is ∙ k.facts_are) end) k.own_known

  pub goal_stretch : (all : List ℕ) (start : ℕ) → all ≡ heads ++ variables goal → start ≡ length heads
      → IsStretch (total_of heads goal) all start (start + length (variables goal)) (variables goal)
  goal_stretch all start is start_is = record {
    before = heads;
    after = [];
    whole = is ∙ ap (λ l. heads ++ l) (sym (append-nil (variables goal)));
    start_is = sym start_is;
    end_is = ap (λ n. n + length (variables goal)) (sym start_is);
    total_is = λ variable. let sum = count-append variable heads (variables goal) in let whole = ap (count variable) is in omega arith;
  }

  -- what becomes of the body

  module _ (bound : Bound) (span : Span) where
    ends_by : (ordered : Ordered) (are : Bool) → from (total_of heads goal) modes goal bound ≡ Ready ordered → are ≡ are_bound_behind modes heads bound goal
        → body_from modes heads bound span goal ≡ (if are then Ready ordered else Stuck (unbound_output span))
    ends_by ordered are ready is =
        ap (λ o. if_ready o (λ ordered. if are_bound_behind modes heads bound goal then Ready ordered else Stuck (unbound_output span))) ready
        ∙ ap (λ b. if b then Ready ordered else Stuck (unbound_output span)) (sym is)

    pub body_unbound : (ordered : Ordered) (are : Bool) → from (total_of heads goal) modes goal bound ≡ Ready ordered → are ≡ are_bound_behind modes heads bound goal → are ≡ false
        → body_from modes heads bound span goal ≡ Stuck (unbound_output span)
    body_unbound ordered are ready is unbound = ends_by ordered are ready is ∙ ap (λ b. if b then Ready ordered else Stuck (unbound_output span)) unbound

    pub body_put : (ordered : Ordered) (are : Bool) (fresh : ℕ) (old new : List OrderedNode) → from (total_of heads goal) modes goal bound ≡ Ready ordered
        → are ≡ are_bound_behind modes heads bound goal → are ≡ true → fresh ≡ first_fresh heads goal → new ≡ old ++ spelt modes fresh ordered ∷ []
        → (tree : OrderedNode) × IsBody modes heads (body_from modes heads bound span goal) goal tree × (new ≡ old ++ tree ∷ [])
    body_put ordered are fresh old new ready is bound_too fresh_is put = (
      spelt modes (first_fresh heads goal) ordered,
      (ordered, ends_by ordered are ready is ∙ ap (λ b. if b then Ready ordered else Stuck (unbound_output span)) bound_too, refl),
      put ∙ ap (λ n. old ++ spelt modes n ordered ∷ []) fresh_is,
    )
