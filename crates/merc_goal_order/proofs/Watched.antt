-- A goal of which one of the variables that are watched has to be bound before it is ready.
use Rattle.std.specs.Prelude.{◌≡◌, ◌≤◌, ◌<◌, ◌-◌, ◌==◌, ◌⊎◌, ◌&&◌, ◌||◌, not, ℕ, zero, suc, Bool, true, false, List, [], ◌∷◌, ◌++◌, length, take, drop, set, slice_range, refl}
use Rattle.std.specs.List.{list_all, list_any}
use Rattle.std.proofs.Common.{◌∙◌, inl, inr, ap, sym, subst, arith}
use Rattle.std.proofs.lemmas.Bool.{eqb-true}
use Rattle.std.proofs.lemmas.List.{take-append-drop, length-append}
use Rattle.std.proofs.lemmas.List.Folds.{drop_split}
use Rattle.merc_tree.specs.declared.declarations.ModeDecl.{ModeDecl}
use Rattle.merc_goal_tree.specs.Nodes.{Node, Nodes, Simple, Conjunction, Parallel, Disjunction, Conditional, Negation, Quantified, no_nodes, more_nodes, nodes_of}
use Rattle.merc_goal_tree.specs.Variables.{variables, all_variables}
use Rattle.merc_order.specs.Bound.{Bound, Holds, among}
use Rattle.merc_order.specs.Order.{from}
use Rattle.merc_order.specs.Ordered.{is_ready}
use Rattle.merc_order.proofs.FromLaws.{from-more}
use Rattle.merc_goal_facts.specs.Bounds.{all_behind}
use Rattle.merc_goal_facts.specs.Facts.{AreKnown, AreFactsOf, subgoals, all_subgoals}
use Rattle.merc_goal_facts.specs.declared.facts.Facts.{Facts}
use Rattle.merc_goal_facts.proofs.Bounds.{among-append}
use Rattle.merc_readiness.proofs.Binding.{among_all}
use Rattle.merc_readiness.proofs.Marking.{known_split, subgoals_end}
use Rattle.merc_readiness.proofs.Rounds.{head_is}
use Rattle.merc_goal_order.specs.Watching.{none_bound, is_shut, all_but, IsWatch, watched_at, AreWatches, some_binds, AreFree}
use Rattle.merc_goal_order.proofs.Agreeing.{Agree, from_same}

-- tests

or_first : (a b : Bool) → a ≡ true → (a || b) ≡ true
or_first true b h = refl
or_first false b h = cc

or_second : (a b : Bool) → b ≡ true → (a || b) ≡ true
or_second true b h = refl
or_second false b h = h

either : (a b : Bool) → (a || b) ≡ true → (a ≡ true) ⊎ (b ≡ true)
either true b h = inl refl
either false b h = inr h

or_more : (a b c : Bool) → (b ≡ true → c ≡ true) → (a || b) ≡ true → (a || c) ≡ true
or_more true b c more h = refl
or_more false b c more h = more h

-- a variable of a goal is one that some part of it binds

some_front : (front back : List Facts) (variable : ℕ) → some_binds front variable ≡ true → some_binds (front ++ back) variable ≡ true
some_front [] back variable h = cc
some_front (first ∷ rest) back variable h =
    or_more (among first.binds variable) (some_binds rest variable) (some_binds (rest ++ back) variable) (λ later. some_front rest back variable later) h

some_back : (front back : List Facts) (variable : ℕ) → some_binds back variable ≡ true → some_binds (front ++ back) variable ≡ true
some_back [] back variable h = h
some_back (first ∷ rest) back variable h = or_second (among first.binds variable) (some_binds (rest ++ back) variable) (some_back rest back variable h)

module _ (total : ℕ → ℕ) (modes : ℕ → List ModeDecl) where
  before : (first rest : List Node) (facts : List Facts) (variable : ℕ) → AreKnown total modes (first ++ rest) facts
      → ((front : List Facts) → AreKnown total modes first front → some_binds front variable ≡ true) → some_binds facts variable ≡ true
  before first rest facts variable known there =
      let k = known_split total modes first rest facts known in
      subst (λ l. some_binds l variable ≡ true) (sym k.facts_are) (some_front k.front k.back variable (there k.front k.first_known))

  behind : (first rest : List Node) (facts : List Facts) (variable : ℕ) → AreKnown total modes (first ++ rest) facts
      → ((back : List Facts) → AreKnown total modes rest back → some_binds back variable ≡ true) → some_binds facts variable ≡ true
  behind first rest facts variable known there =
      let k = known_split total modes first rest facts known in
      subst (λ l. some_binds l variable ≡ true) (sym k.facts_are) (some_back k.front k.back variable (there k.back k.rest_known))

  in_one : (first rest : List ℕ) (variable : ℕ) → among (first ++ rest) variable ≡ true → (among first variable ≡ true) ⊎ (among rest variable ≡ true)
  in_one first rest variable there = either (among first variable) (among rest variable) (sym (among-append first rest variable) ∙ there)

  -- what is said of the parts of a goal with these variables
  abbrev Binds : List Node → List ℕ → ℕ → Type 0
  Binds parts inside variable = (facts : List Facts) → AreKnown total modes parts facts → among inside variable ≡ true → some_binds facts variable ≡ true

  two_bind : (first rest : List Node) (one others : List ℕ) (variable : ℕ) → Binds first one variable → Binds rest others variable → Binds (first ++ rest) (one ++ others) variable
  two_bind first rest one others variable front back = λ facts known there. by facts known (in_one one others variable there)
    where
      by : (facts : List Facts) → AreKnown total modes (first ++ rest) facts → (among one variable ≡ true) ⊎ (among others variable ≡ true) → some_binds facts variable ≡ true
      by facts known (inl there) = before first rest facts variable known (λ l k. front l k there)
      by facts known (inr there) = behind first rest facts variable known (λ l k. back l k there)

  own_bind : (parts : List Node) (goal : Node) (inside : List ℕ) (variable : ℕ) → Binds parts inside variable → Binds (parts ++ goal ∷ []) inside variable
  own_bind parts goal inside variable inner = λ facts known there. before parts (goal ∷ []) facts variable known (λ l k. inner l k there)

  last_bind : (parts : List Node) (inside : List ℕ) (variable : ℕ) → Binds parts inside variable → Binds (parts ++ []) inside variable
  last_bind parts inside variable inner = λ facts known there. before parts [] facts variable known (λ l k. inner l k there)

  mutual
    pub all_bound : (goal : Node) (variable : ℕ) → Binds (subgoals goal) (variables goal) variable
    all_bound (Simple goal span) variable [] known there = absurd known
    all_bound (Simple goal span) variable (found ∷ rest) (own, others) there = or_first (among found.binds variable) (some_binds rest variable) (own.binds_are variable ∙ there)
    all_bound (Conjunction goals span) variable facts known there = own_bind (all_subgoals goals) (Conjunction goals span) (all_variables goals) variable (λ l k h. each_bound goals variable l k h) facts known there
    all_bound (Parallel goals span) variable facts known there = own_bind (all_subgoals goals) (Parallel goals span) (all_variables goals) variable (λ l k h. each_bound goals variable l k h) facts known there
    all_bound (Disjunction goals span) variable facts known there = own_bind (all_subgoals goals) (Disjunction goals span) (all_variables goals) variable (λ l k h. each_bound goals variable l k h) facts known there
    all_bound (Conditional condition then_part else_part span) variable facts known there =
        own_bind (subgoals condition ++ (subgoals then_part ++ (subgoals else_part ++ []))) (Conditional condition then_part else_part span) (variables condition ++ (variables then_part ++ variables else_part)) variable
        (two_bind (subgoals condition) (subgoals then_part ++ (subgoals else_part ++ [])) (variables condition) (variables then_part ++ variables else_part) variable (λ l k h. all_bound condition variable l k h)
        (two_bind (subgoals then_part) (subgoals else_part ++ []) (variables then_part) (variables else_part) variable (λ l k h. all_bound then_part variable l k h)
        (last_bind (subgoals else_part) (variables else_part) variable (λ l k h. all_bound else_part variable l k h))))
        facts (subst (λ l. AreKnown total modes l facts) (subgoals_end (Conditional condition then_part else_part span)) known) there
    all_bound (Negation goal span) variable facts known there = own_bind (subgoals goal) (Negation goal span) (variables goal) variable (λ l k h. all_bound goal variable l k h) facts known there
    all_bound (Quantified own goal span) variable facts known there = own_bind (subgoals goal) (Quantified own goal span) (variables goal) variable (λ l k h. all_bound goal variable l k h) facts known there

    each_bound : (goals : Nodes) (variable : ℕ) → Binds (all_subgoals goals) (all_variables goals) variable
    each_bound no_nodes variable facts known there = cc
    each_bound (more_nodes first rest) variable facts known there =
        two_bind (subgoals first) (all_subgoals rest) (variables first) (all_variables rest) variable (λ l k h. all_bound first variable l k h) (λ l k h. each_bound rest variable l k h) facts known there

-- what is bound where all but a stretch of the free variables are

none_taken : (count : ℕ) → ◌≡◌ {A = List ℕ} (take count []) []
none_taken zero = refl
none_taken (suc count) = refl

take_whole : (items : List ℕ) (count : ℕ) → count ≡ length items → take count items ≡ items
take_whole [] count h = none_taken count
take_whole (first ∷ rest) zero h = absurd (omega (arith, h))
take_whole (first ∷ rest) (suc count) h = ap (λ l. first ∷ l) (take_whole rest count (omega (arith, h)))

pub tail_is : (items : List ℕ) (at : ℕ) → take (length items - at) (drop at items) ≡ drop at items
tail_is [] zero = none_taken (0 - 0)
tail_is [] (suc at) = none_taken (0 - suc at)
tail_is (first ∷ rest) zero = take_whole (first ∷ rest) (length (first ∷ rest) - 0) (omega arith)
tail_is (first ∷ rest) (suc at) = let e : length (first ∷ rest) - suc at ≡ length rest - at = omega arith in ap (λ n. take n (drop at rest)) e ∙ tail_is rest at

range_is : (free : List ℕ) (low high : ℕ) → low ≤ high → free ≡ take low free ++ (slice_range free low high ++ drop high free)
range_is free low high h = sym (take-append-drop low free) ∙ ap (λ l. take low free ++ l) (drop_split free low high h)

free_bound : (bound before inside behind : Bool) → (bound || (before || (inside || behind))) ≡ true → not inside ≡ true → ((bound || before) || behind) ≡ true
free_bound true before inside behind h out = refl
free_bound false true inside behind h out = refl
free_bound false false true behind h out = cc
free_bound false false false behind h out = h

others_bound : (bound free after : List ℕ) (low high variable : ℕ) → low ≤ high → after ≡ all_behind (all_behind bound (take low free)) (drop high free) → (among bound variable || among free variable) ≡ true
    → all_but (slice_range free low high) variable ≡ true → among after variable ≡ true
others_bound bound free after low high variable h is there out =
    let cut : among free variable ≡ (among (take low free) variable || (among (slice_range free low high) variable || among (drop high free) variable)) =
    ap (λ l. among l variable) (range_is free low high h) ∙ among-append (take low free) (slice_range free low high ++ drop high free) variable
    ∙ ap (λ b. among (take low free) variable || b) (among-append (slice_range free low high) (drop high free) variable) in
    let bound_now : among after variable ≡ ((among bound variable || among (take low free) variable) || among (drop high free) variable) =
    ap (λ l. among l variable) is ∙ among_all (all_behind bound (take low free)) (drop high free) variable ∙ ap (λ b. b || among (drop high free) variable) (among_all bound (take low free) variable) in
    bound_now
    ∙ free_bound (among bound variable) (among (take low free) variable) (among (slice_range free low high) variable) (among (drop high free) variable) (ap (λ b. among bound variable || b) (sym cut) ∙ there) out

-- the variables of a goal, but for some
abbrev own_but : List ℕ → List ℕ → Bound
own_but own variables variable = among own variable && all_but variables variable

and_one : (a b : Bool) → a ≡ true → b ≡ (a && b)
and_one true b h = refl
and_one false b h = cc

and_both : (a b : Bool) → (a && b) ≡ true → (a ≡ true) × (b ≡ true)
and_both true b h = (refl, h)
and_both false b h = cc

not_ready : (one other : Bool) → (one ≡ true → other ≡ true) → other ≡ false → one ≡ false
not_ready true other more h = let no : true ≡ false = sym (more refl) ∙ h in cc
not_ready false other more h = refl

module _ (total : ℕ → ℕ) (modes : ℕ → List ModeDecl) where
  pub watch_of : (goal : Node) (watched : List ℕ) → is_ready (from total modes goal (all_but watched)) ≡ false → IsWatch total modes goal watched
  watch_of goal [] stuck = tt
  watch_of goal (first ∷ rest) stuck = stuck

  pub stuck_watch : (goal : Node) (facts : List Facts) (bound free after : List ℕ) (low high : ℕ) → low ≤ high → after ≡ all_behind (all_behind bound (take low free)) (drop high free)
      → AreKnown total modes (subgoals goal) facts → AreFree facts (among bound) free → is_ready (from total modes goal (among after)) ≡ false → IsWatch total modes goal (slice_range free low high)
  stuck_watch goal facts bound free after low high h is known reaches stuck =
      let watched = slice_range free low high in
      let own = own_but (variables goal) watched in
      let less : Holds own (among after) = λ variable there.
      let both = and_both (among (variables goal) variable) (all_but watched variable) there in
      others_bound bound free after low high variable h is (reaches variable (all_bound total modes goal variable facts known both.0)) both.1 in
      let agree : Agree (variables goal) (all_but watched) own = λ variable there. and_one (among (variables goal) variable) (all_but watched variable) there in
      let own_stuck : is_ready (from total modes goal own) ≡ false =
      not_ready (is_ready (from total modes goal own)) (is_ready (from total modes goal (among after))) (λ ready. from-more total modes goal own (among after) less ready) stuck in
      watch_of goal watched (ap is_ready (from_same total modes goal (all_but watched) own agree) ∙ own_stuck)

  -- A goal that is watched is not ready where none of the variables is bound.

  none_of : (variables : List ℕ) (bound : Bound) (variable : ℕ) → none_bound variables bound ≡ true → bound variable ≡ true → among variables variable ≡ false
  none_of [] bound variable none there = refl
  none_of (first ∷ rest) bound variable none there =
      let both = and_both (not (bound first)) (none_bound rest bound) none in
      by (variable == first) refl both.0 (none_of rest bound variable both.1 there)
    where
      by : (same : Bool) → (variable == first) ≡ same → not (bound first) ≡ true → among rest variable ≡ false → (same || among rest variable) ≡ false
      by true is not_first later = let no : not true ≡ true = ap not (sym there ∙ ap bound (eqb-true variable first is)) ∙ not_first in cc
      by false is not_first later = later

  pub shut_stuck : (goal : Node) (watched bound : List ℕ) → IsWatch total modes goal watched → is_shut watched (among bound) ≡ true → is_ready (from total modes goal (among bound)) ≡ false
  shut_stuck goal [] bound watch shut = cc
  shut_stuck goal (first ∷ rest) bound watch shut =
      not_ready (is_ready (from total modes goal (among bound))) (is_ready (from total modes goal (all_but (first ∷ rest))))
      (λ ready. from-more total modes goal (among bound) (all_but (first ∷ rest)) (λ variable there. ap not (none_of (first ∷ rest) (among bound) variable shut there)) ready) watch

  -- what is watched for the goals of a conjunction

  pub none_watched : (goals : List Node) (lists : List (List ℕ)) → length lists ≡ 0 → AreWatches total modes goals lists
  none_watched goals [] h index goal rest there = tt
  none_watched goals (first ∷ others) h index goal rest there = absurd (omega (arith, h))

  pub watches_on : (goals rest : List Node) (goal : Node) (old new : List (List ℕ)) (index : ℕ) → drop index goals ≡ goal ∷ rest
      → ((other : ℕ) → (watched_at new other ≡ watched_at old other) ⊎ ((other ≡ index) × IsWatch total modes goal (watched_at new other))) → AreWatches total modes goals old → AreWatches total modes goals new
  watches_on goals rest goal old new index there keeps watches = λ other one others here. by other one others here (keeps other)
    where
      by : (other : ℕ) (one : Node) (others : List Node) → drop other goals ≡ one ∷ others → (watched_at new other ≡ watched_at old other) ⊎ ((other ≡ index) × IsWatch total modes goal (watched_at new other))
          → IsWatch total modes one (watched_at new other)
      by other one others here (inl same) = subst (λ l. IsWatch total modes one l) (sym same) (watches other one others here)
      by other one others here (inr (is, watch)) =
          subst (λ g. IsWatch total modes g (watched_at new other)) (head_is goal one rest others (sym there ∙ ap (λ n. drop n goals) (sym is) ∙ here)) watch

pub not_true : (b : Bool) → not b ≡ true → b ≡ false
not_true true h = cc
not_true false h = refl

pub kept_or : {A B C D : Type 0} → A ⊎ (B × C) → (C → D) → A ⊎ (B × D)
kept_or (inl same) right = inl same
kept_or (inr (is, told)) right = inr (is, right told)

-- one list is put in the place of another

pub put_watch : (lists : List (List ℕ)) (index other : ℕ) (watched : List ℕ)
    → (watched_at (set lists index watched) other ≡ watched_at lists other) ⊎ ((other ≡ index) × (watched_at (set lists index watched) other ≡ watched))
put_watch [] zero other watched = inl refl
put_watch [] (suc index) other watched = inl refl
put_watch (first ∷ rest) zero zero watched = inr (refl, refl)
put_watch (first ∷ rest) zero (suc other) watched = inl refl
put_watch (first ∷ rest) (suc index) zero watched = inl refl
put_watch (first ∷ rest) (suc index) (suc other) watched = by (put_watch rest index other watched)
  where
    by : (watched_at (set rest index watched) other ≡ watched_at rest other) ⊎ ((other ≡ index) × (watched_at (set rest index watched) other ≡ watched))
        → (watched_at (set (first ∷ rest) (suc index) watched) (suc other) ≡ watched_at (first ∷ rest) (suc other)) ⊎ ((suc other ≡ suc index) × (watched_at (set (first ∷ rest) (suc index) watched) (suc other) ≡ watched))
    by (inl same) = inl same
    by (inr (is, put)) = inr (ap suc is, put)

pub put_keeps : (right : List ℕ → Type 0) (old now : List (List ℕ)) (index other : ℕ) (watched : List ℕ) → ((other : ℕ) → watched_at now other ≡ watched_at old other) → right watched
    → (watched_at (set now index watched) other ≡ watched_at old other) ⊎ ((other ≡ index) × right (watched_at (set now index watched) other))
put_keeps right old now index other watched same is_right = by (put_watch now index other watched)
  where
    by : (watched_at (set now index watched) other ≡ watched_at now other) ⊎ ((other ≡ index) × (watched_at (set now index watched) other ≡ watched))
        → (watched_at (set now index watched) other ≡ watched_at old other) ⊎ ((other ≡ index) × right (watched_at (set now index watched) other))
    by (inl kept) = inl (kept ∙ same other)
    by (inr (is, put)) = inr (is, subst right (sym put) is_right)

-- the variables that goals bind, put behind what is bound

pub binds_more : (facts rest : List Facts) (found : Facts) (now new : List ℕ) → facts ≡ found ∷ rest → new ≡ all_behind now found.binds
    → ((variable : ℕ) → (among now variable || some_binds facts variable) ≡ (among new variable || some_binds rest variable))
binds_more facts rest found now new is put = λ variable.
    ap (λ l. among now variable || some_binds l variable) is ∙ regroup (among now variable) (among found.binds variable) (some_binds rest variable)
    ∙ ap (λ b. b || some_binds rest variable) (sym (ap (λ l. among l variable) put ∙ among_all now found.binds variable))
  where
    regroup : (a b c : Bool) → (a || (b || c)) ≡ ((a || b) || c)
    regroup true b c = refl
    regroup false b c = refl
