-- The variables that goals need are bound where the goals are ready.
use Rattle.std.specs.Prelude.{◌≡◌, ◌+◌, ◌==◌, ◌||◌, ◌&&◌, not, ℕ, Bool, true, false, List, [], ◌∷◌, length, Option, Some, None, is_some, slice_get, refl, if◌then◌else◌}
use Rattle.std.specs.List.{filter}
use Rattle.std.proofs.Common.{◌∙◌, ap, sym, inl, inr, arith}
use Rattle.std.proofs.lemmas.Bool.{eqb-true}
use Rattle.merc_base.specs.declared.place.Span.{Span}
use Rattle.merc_tree.specs.declared.declarations.ModeDecl.{ModeDecl}
use Rattle.merc_goal_tree.specs.declared.goal.SimpleGoal.{SimpleGoal}
use Rattle.merc_goal_tree.specs.declared.goal.SimpleGoal.TheVariants.{True, Fail, Same, Shape, Arithmetic, Compare, Raise, Call}
use Rattle.merc_goal_tree.specs.Nodes.{Node, Nodes, Simple, Conjunction, Parallel, Disjunction, Conditional, no_nodes, more_nodes}
use Rattle.merc_order.specs.Bound.{Bound, among, are_bound, with}
use Rattle.merc_order.specs.CallModes.{inputs_of, wider, taken_from}
use Rattle.merc_order.specs.Marks.{move_of}
use Rattle.merc_order.specs.Moves.{Move, beside, beside_next, each_from, settled}
use Rattle.merc_order.specs.Order.{from, moves, binds, binds_inside}
use Rattle.merc_order.specs.Ordered.{Ordereds, Outcome, Ready, Stuck, is_ready, Outcomes, AllReady, OneStuck, are_ready, and_all, if_all_ready}
use Rattle.merc_order.specs.Ways.{Removed, here, later, IsReady, CanAll, none, take, start, went}
use Rattle.merc_order.proofs.Marks.{conjunction-ready}
use Rattle.merc_order.proofs.MoveLaws.{then_all-ready, all-settled}
use Rattle.merc_goal_facts.specs.Ready.{can_go, is_arm_ready}
use Rattle.merc_goal_facts.specs.Complete.{AreKnown}
use Rattle.merc_goal_facts.specs.Facts.{AreFactsOf}
use Rattle.merc_goal_facts.specs.Needs.{only_inputs, reads, found_with, found_in, is_needed, brought_with, is_brought, is_needed_together}
use Rattle.merc_goal_facts.specs.Bounds.{all_behind}
use Rattle.merc_goal_facts.specs.declared.facts.Facts.{Facts}
use Rattle.merc_goal_facts.specs.declared.complete.Complete.{Complete}
use Rattle.merc_goal_facts.proofs.Bounds.{or_assoc, or_false, among-append}
use Rattle.merc_goal_facts.proofs.Ready.{simple_ready, conditional_ready}
use Rattle.merc_goal_facts.proofs.Found.{both_true, either_true, all_to, all_from, among-filter, among-all_behind}

-- truth values

and_one : (one : Bool) → one ≡ true → (one && true) ≡ true
and_one true h = refl
and_one false h = cc

and_two : (one other : Bool) → (one && other) ≡ true → (one && (other && true)) ≡ true
and_two true other h = and_one other h
and_two false other h = cc

neither : (one other : Bool) → (one || other) ≡ false → (one ≡ false) × (other ≡ false)
neither true other h = cc
neither false other h = (refl, h)

is_bound : (bound : Bool) → (bound ≡ false → ⊥) → bound ≡ true
is_bound true h = refl
is_bound false h = absurd (h refl)

is_not : (one : Bool) → (one ≡ true → ⊥) → one ≡ false
is_not true h = absurd (h refl)
is_not false h = refl

not_false : (one : Bool) → not one ≡ true → one ≡ false
not_false true h = cc
not_false false h = refl

not_both : (one : Bool) → one ≡ true → one ≡ false → ⊥
not_both one is apart = cc

still_unbound : (bound more : Bool) → bound ≡ false → (more ≡ true → bound ≡ true) → (bound || more) ≡ false
still_unbound true more h binds = cc
still_unbound false true h binds = let wrong = binds refl in cc
still_unbound false false h binds = refl

needs_too : (binds needs : Bool) → (binds && not needs) ≡ false → binds ≡ true → needs ≡ true
needs_too true true h b = refl
needs_too true false h b = cc
needs_too false needs h b = cc

-- a goal that holds no others

only_mode : (bound : Bool) (number : ℕ) (mode : ModeDecl) → is_some (if bound then Some (wider number mode None) else None) ≡ true → bound ≡ true
only_mode true number mode h = refl
only_mode false number mode h = cc

call_bound : (bound : Bound) (arguments : List ℕ) (modes : List ModeDecl) → is_some (taken_from 0 bound arguments modes) ≡ true → are_bound bound (only_inputs modes arguments) ≡ true
call_bound bound arguments [] h = refl
call_bound bound arguments (mode ∷ []) h = only_mode (are_bound bound (inputs_of mode.args arguments)) 0 mode h
call_bound bound arguments (mode ∷ other ∷ others) h = refl

reads_bound : (modes : ℕ → List ModeDecl) (goal : SimpleGoal) (bound : Bound) → can_go modes goal bound ≡ true → are_bound bound (reads modes goal) ≡ true
reads_bound modes True bound h = refl
reads_bound modes Fail bound h = refl
reads_bound modes (Same one other) bound h = refl
reads_bound modes (Shape whole symbol arguments) bound h = refl
reads_bound modes (Arithmetic operation result left right) bound h = and_two (bound left) (bound right) h
reads_bound modes (Compare comparison left right) bound h = and_two (bound left) (bound right) h
reads_bound modes (Raise text) bound h = and_one (bound text) h
reads_bound modes (Call predicate arguments) bound h = call_bound bound arguments (modes predicate) h

pub simple_needed : (total : ℕ → ℕ) (modes : ℕ → List ModeDecl) (goal : SimpleGoal) (span : Span) (needs : List ℕ) → needs ≡ reads modes goal → (bound : Bound)
    → is_ready (from total modes (Simple goal span) bound) ≡ true → are_bound bound needs ≡ true
simple_needed total modes goal span needs is bound ready =
    ap (λ l. are_bound bound l) is ∙ reads_bound modes goal bound (sym (simple_ready total modes goal _ span bound) ∙ ready)

-- Goals beside each other, and a variable that none of them brings: from where it is unbound each goes without it.

-- One that binds it needs it.
abbrev Guarded : ℕ → Move → Type 0
Guarded variable move = (bound : Bound) → move.binds variable ≡ true → IsReady move bound → bound variable ≡ true

abbrev AreGuarded : ℕ → List Move → Type 0
AreGuarded variable [] = Unit {0}
AreGuarded variable (move ∷ moves) = Guarded variable move × AreGuarded variable moves

-- It is ready somewhere without it.
abbrev GoesWithout : ℕ → Move → Type 0
GoesWithout variable move = (bound : Bound) × (IsReady move bound × (bound variable ≡ false))

abbrev AllWithout : ℕ → List Move → Type 0
AllWithout variable [] = Unit {0}
AllWithout variable (move ∷ moves) = GoesWithout variable move × AllWithout variable moves

guarded_rest : (variable : ℕ) (move : Move) (all others : List Move) → Removed move all others → AreGuarded variable all → Guarded variable move × AreGuarded variable others
guarded_rest variable move all others (here m o) (one, rest) = (one, rest)
guarded_rest variable move all others (later f m a o r) (one, rest) = let (own, more) = guarded_rest variable m a o r rest in (own, (one, more))

without_all : (variable : ℕ) (move : Move) (all others : List Move) → Removed move all others → GoesWithout variable move → AllWithout variable others → AllWithout variable all
without_all variable move all others (here m o) own rest = (own, rest)
without_all variable move all others (later f m a o r) own (first, rest) = (first, without_all variable m a o r own rest)

all_without : (variable : ℕ) (all : List Move) (bound : Bound) → CanAll all bound → AreGuarded variable all → bound variable ≡ false → AllWithout variable all
all_without variable all bound (none k) guarded h = tt
all_without variable all bound (take move a others k removed ready rest) guarded h =
    let (own, more) = guarded_rest variable move a others removed guarded in
    without_all variable move a others removed (k, (ready, h))
    (all_without variable others (with k move.binds) rest more (still_unbound (k variable) (move.binds variable) h (λ binds. own k binds ready)))

beside_both : (number : ℕ) (move : Move) (moves : List Move) (bound : Bound) (outcome : Outcome) (others : Outcomes) → are_ready (beside_next number move moves bound outcome others) ≡ true
    → (is_ready outcome ≡ true) × (are_ready others ≡ true)
beside_both number move moves bound (Ready goal) others h = (refl, sym (then_all-ready goal others) ∙ h)
beside_both number move moves bound (Stuck fault) others h = cc

beside_without : (variable number : ℕ) (all : List Move) (bound : Bound) → are_ready (beside number all bound) ≡ true → AreGuarded variable all → bound variable ≡ false → AllWithout variable all
beside_without variable number [] bound ready guarded h = tt
beside_without variable number (move ∷ others) bound ready (own, more) h =
    let (one, rest) = beside_both number move others bound (move.from bound) (beside (number + 1) others (with bound move.binds)) ready in
    ((bound, (one, h)), beside_without variable (number + 1) others (with bound move.binds) rest more (still_unbound (bound variable) (move.binds variable) h (λ binds. own bound binds one)))

each_both : (outcome : Outcome) (others : Outcomes) → are_ready (and_all outcome others) ≡ true → (is_ready outcome ≡ true) × (are_ready others ≡ true)
each_both (Ready goal) others h = (refl, sym (then_all-ready goal others) ∙ h)
each_both (Stuck fault) others h = cc

each_without : (variable : ℕ) (all : List Move) (bound : Bound) → are_ready (each_from all bound) ≡ true → bound variable ≡ false → AllWithout variable all
each_without variable [] bound ready h = tt
each_without variable (move ∷ others) bound ready h =
    let (one, rest) = each_both (move.from bound) (each_from others bound) ready in
    ((bound, (one, h)), each_without variable others bound rest h)

all_ready : (outcomes : Outcomes) (made : Ordereds → Outcome) → is_ready (if_all_ready outcomes made) ≡ true → are_ready outcomes ≡ true
all_ready (AllReady goals) made h = refl
all_ready (OneStuck fault) made h = h

-- what comes of facts, where there are some

abbrev needed_with : List ℕ → Option Facts → List ℕ
needed_with known None = known
needed_with known (Some found) = all_behind known found.needs

abbrev pub needed_on : List Facts → List ℕ → List Complete → List ℕ
needed_on facts known [] = known
needed_on facts known (complete ∷ others) = needed_on facts (needed_with known (slice_get facts complete.part)) others

abbrev brought_more : List ℕ → Option Facts → List ℕ
brought_more known None = known
brought_more known (Some found) = brought_with known found

abbrev pub brought_on : List Facts → List ℕ → List Complete → List ℕ
brought_on facts known [] = known
brought_on facts known (complete ∷ others) = brought_on facts (brought_more known (slice_get facts complete.part)) others

needed_step : (one : Option Facts) (known : List ℕ) (others : List Facts) (variable : ℕ)
    → (among (needed_with known one) variable || is_needed others variable) ≡ (among known variable || is_needed (found_with one others) variable)
needed_step None known others variable = refl
needed_step (Some found) known others variable =
    ap (λ b. b || is_needed others variable) (among-all_behind known found.needs variable) ∙ or_assoc (among known variable) (among found.needs variable) (is_needed others variable)

pub needed_on_is : (facts : List Facts) (joined : List Complete) (known : List ℕ) (variable : ℕ)
    → among (needed_on facts known joined) variable ≡ (among known variable || is_needed (found_in facts joined) variable)
needed_on_is facts [] known variable = sym (or_false (among known variable))
needed_on_is facts (complete ∷ others) known variable =
    needed_on_is facts others (needed_with known (slice_get facts complete.part)) variable
    ∙ needed_step (slice_get facts complete.part) known (found_in facts others) variable

brought_step : (one : Option Facts) (known : List ℕ) (others : List Facts) (variable : ℕ)
    → (among (brought_more known one) variable || is_brought others variable) ≡ (among known variable || is_brought (found_with one others) variable)
brought_step None known others variable = refl
brought_step (Some found) known others variable =
    ap (λ b. b || is_brought others variable) (among-append known (brought_with [] found) variable) ∙ or_assoc (among known variable) (among (brought_with [] found) variable) (is_brought others variable)

pub brought_on_is : (facts : List Facts) (joined : List Complete) (known : List ℕ) (variable : ℕ)
    → among (brought_on facts known joined) variable ≡ (among known variable || is_brought (found_in facts joined) variable)
brought_on_is facts [] known variable = sym (or_false (among known variable))
brought_on_is facts (complete ∷ others) known variable =
    brought_on_is facts others (brought_more known (slice_get facts complete.part)) variable
    ∙ brought_step (slice_get facts complete.part) known (found_in facts others) variable

pub empty_list : (list : List ℕ) → (length list == 0) ≡ true → list ≡ []
empty_list [] h = refl
empty_list (first ∷ rest) h = absurd (omega (arith, eqb-true (length (first ∷ rest)) 0 h))

-- Where none is needed, none is needed together.
pub none_needed : (all : List Facts) (needs slice : List ℕ) → ((variable : ℕ) → among needs variable ≡ is_needed all variable) → slice ≡ needs → slice ≡ [] → (variable : ℕ)
    → among needs variable ≡ is_needed_together all variable
none_needed all needs slice are same empty variable =
    let nothing : among needs variable ≡ false = ap (λ l. among l variable) (sym same ∙ empty) in
    nothing ∙ sym (ap (λ b. b && not (is_brought all variable)) (sym (are variable) ∙ nothing))

-- What is brought is bound.
pub brought_bound : (all : List Facts) (brought slice old set : List ℕ) → ((variable : ℕ) → among brought variable ≡ is_brought all variable) → slice ≡ brought → old ≡ []
    → set ≡ all_behind old slice → (variable : ℕ) → among set variable ≡ is_brought all variable
brought_bound all brought slice old set are same empty is variable =
    ap (λ l. among l variable) (is ∙ ap (λ l. all_behind l slice) empty ∙ ap (λ l. all_behind [] l) same) ∙ among-all_behind [] brought variable ∙ are variable

pub needed_not_brought : (all : List Facts) (some slice set needs : List ℕ) → ((variable : ℕ) → among some variable ≡ is_needed all variable) → slice ≡ some
    → ((variable : ℕ) → among set variable ≡ is_brought all variable) → needs ≡ filter (λ variable. not (among set variable)) slice → (variable : ℕ) → among needs variable ≡ is_needed_together all variable
needed_not_brought all some slice set needs some_are same set_is is variable =
    ap (λ l. among l variable) is ∙ among-filter (λ v. not (among set v)) slice variable
    ∙ ap (λ l. among l variable && not (among set variable)) same ∙ ap (λ b. b && not (among set variable)) (some_are variable)
    ∙ ap (λ b. is_needed all variable && not b) (set_is variable)

module _ (total : ℕ → ℕ) (modes : ℕ → List ModeDecl) where
  -- One that needs an unbound variable is not ready.
  pub not_without_needs : (goal : Node) (found : Facts) (bound : Bound) → AreFactsOf total modes goal found → are_bound bound found.needs ≡ false → is_ready (from total modes goal bound) ≡ false
  not_without_needs goal found bound are apart = is_not (is_ready (from total modes goal bound)) (λ ready. not_both (are_bound bound found.needs) (are.needed bound ready) apart)

  guarded_by : (goal : Node) (found : Facts) (variable : ℕ) → AreFactsOf total modes goal found → among (brought_with [] found) variable ≡ false → Guarded variable (move_of total modes goal)
  guarded_by goal found variable are apart bound binds ready =
      all_from bound found.needs (are.needed bound ready) variable
      (needs_too (among found.binds variable) (among found.needs variable) (sym (among-filter (λ v. not (among found.needs v)) found.binds variable) ∙ apart) (are.binds_are variable ∙ binds))

  are_guarded : (facts : List Facts) (joined : List Complete) (goals : Nodes) (variable : ℕ) → AreKnown total modes facts joined goals → is_brought (found_in facts joined) variable ≡ false
      → AreGuarded variable (moves total modes goals)
  are_guarded facts [] no_nodes variable known apart = tt
  are_guarded facts [] (more_nodes first rest) variable known apart = absurd known
  are_guarded facts (complete ∷ others) no_nodes variable known apart = absurd known
  are_guarded facts (complete ∷ others) (more_nodes first rest) variable (one, known) apart =
      let (own, more) = neither (among (brought_with [] one.found) variable) (is_brought (found_in facts others) variable)
      (sym (ap (λ f. is_brought (found_with f (found_in facts others)) variable) one.there) ∙ apart) in
      (guarded_by first one.found variable one.are own, are_guarded facts others rest variable known more)

  not_without : (facts : List Facts) (joined : List Complete) (goals : Nodes) (variable : ℕ) → AreKnown total modes facts joined goals → is_needed (found_in facts joined) variable ≡ true
      → AllWithout variable (moves total modes goals) → ⊥
  not_without facts [] no_nodes variable known needed without = cc
  not_without facts [] (more_nodes first rest) variable known needed without = absurd known
  not_without facts (complete ∷ others) no_nodes variable known needed without = absurd known
  not_without facts (complete ∷ others) (more_nodes first rest) variable (one, known) needed (own, without) =
      let some : (among one.found.needs variable || is_needed (found_in facts others) variable) ≡ true = sym (ap (λ f. is_needed (found_with f (found_in facts others)) variable) one.there) ∙ needed in
      elim (either_true (among one.found.needs variable) (is_needed (found_in facts others) variable) some) as (λ _. ⊥) [
        | inl needs ↦ not_both (own.0 variable) (all_from own.0 one.found.needs (one.are.needed own.0 own.1.0) variable needs) own.1.1
        | inr more ↦ not_without facts others rest variable known more without
      ]

  -- Goals that are ready together from what is bound go without each variable that is unbound and that none of them brings.
  all_bound : (facts : List Facts) (joined : List Complete) (goals : Nodes) (needs : List ℕ) (bound : Bound) → AreKnown total modes facts joined goals
      → ((variable : ℕ) → among needs variable ≡ is_needed_together (found_in facts joined) variable)
      → ((variable : ℕ) → AreGuarded variable (moves total modes goals) → bound variable ≡ false → AllWithout variable (moves total modes goals)) → are_bound bound needs ≡ true
  all_bound facts joined goals needs bound known are without =
      all_to bound needs (λ variable is.
      let both = both_true (is_needed (found_in facts joined) variable) (not (is_brought (found_in facts joined) variable)) (sym (are variable) ∙ is) in
      is_bound (bound variable) (λ unbound. not_without facts joined goals variable known both.0
      (without variable (are_guarded facts joined goals variable known (not_false (is_brought (found_in facts joined) variable) both.1)) unbound)))

  pub conjunction_needed : (facts : List Facts) (joined : List Complete) (goals : Nodes) (span : Span) (needs : List ℕ) → AreKnown total modes facts joined goals
      → ((variable : ℕ) → among needs variable ≡ is_needed_together (found_in facts joined) variable)
      → (bound : Bound) → is_ready (from total modes (Conjunction goals span) bound) ≡ true → are_bound bound needs ≡ true
  conjunction_needed facts joined goals span needs known are bound ready =
      let all = moves total modes goals in
      all_bound facts joined goals needs bound known are
      (λ variable guarded unbound. all_without variable all bound (all-settled (length all) all bound refl (all_ready (settled (length all) all bound) _ ready)) guarded unbound)

  pub parallel_needed : (facts : List Facts) (joined : List Complete) (goals : Nodes) (span : Span) (needs : List ℕ) → AreKnown total modes facts joined goals
      → ((variable : ℕ) → among needs variable ≡ is_needed_together (found_in facts joined) variable)
      → (bound : Bound) → is_ready (from total modes (Parallel goals span) bound) ≡ true → are_bound bound needs ≡ true
  parallel_needed facts joined goals span needs known are bound ready =
      let all = moves total modes goals in
      all_bound facts joined goals needs bound known are
      (λ variable guarded unbound. beside_without variable 1 all bound (all_ready (beside 1 all bound) _ ready) guarded unbound)

  pub disjunction_needed : (facts : List Facts) (joined : List Complete) (goals : Nodes) (span : Span) (needs : List ℕ) → AreKnown total modes facts joined goals
      → ((variable : ℕ) → among needs variable ≡ is_needed (found_in facts joined) variable)
      → (bound : Bound) → is_ready (from total modes (Disjunction goals span) bound) ≡ true → are_bound bound needs ≡ true
  disjunction_needed facts joined goals span needs known are bound ready =
      let all = moves total modes goals in
      all_to bound needs (λ variable is. is_bound (bound variable) (λ unbound. not_without facts joined goals variable known (sym (are variable) ∙ is)
      (each_without variable all bound (all_ready (each_from all bound) _ ready) unbound)))

  -- The condition and the then part of an if-then-else that is ready are ready one behind the other.

  arm_ready : (condition then_part else_part : Node) (span : Span) (bound : Bound) → is_ready (from total modes (Conditional condition then_part else_part span) bound) ≡ true
      → is_arm_ready total modes condition then_part bound ≡ true
  arm_ready condition then_part else_part span bound ready = (both_true (is_arm_ready total modes condition then_part bound) _ (sym (conditional_ready total modes condition then_part else_part span bound) ∙ ready)).0

  behind_ready : (condition then_part : Node) (span : Span) (bound : Bound) → is_arm_ready total modes condition then_part bound ≡ true
      → is_ready (from total modes (Conjunction (more_nodes condition (more_nodes then_part no_nodes)) span) bound) ≡ true
  behind_ready condition then_part span bound ready =
      let first = move_of total modes condition in
      let second = move_of total modes then_part in
      let all = first ∷ second ∷ [] in
      let one = both_true (is_ready (from total modes condition bound)) _ ready in
      let two = both_true (binds_inside total modes bound _ _ (binds total modes condition)) _ one.1 in
      conjunction-ready total modes (more_nodes condition (more_nodes then_part no_nodes)) span bound _
      (went all (second ∷ []) [] bound (with bound (binds total modes condition)) second
      (went all all (second ∷ []) bound bound first (start all bound) (here first (second ∷ [])) one.0) (here second []) two.1)

  pub conditional_needed : (condition then_part else_part : Node) (span : Span) (own : Facts) (needs : List ℕ) → AreFactsOf total modes (Conjunction (more_nodes condition (more_nodes then_part no_nodes)) span) own
      → needs ≡ own.needs → (bound : Bound) → is_ready (from total modes (Conditional condition then_part else_part span) bound) ≡ true → are_bound bound needs ≡ true
  conditional_needed condition then_part else_part span own needs are is bound ready =
      ap (λ l. are_bound bound l) is ∙ are.needed bound (behind_ready condition then_part span bound (arm_ready condition then_part else_part span bound ready))
