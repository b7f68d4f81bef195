-- What becomes of a goal depends on what is bound of its own variables alone.
use Rattle.std.specs.Prelude.{◌≡◌, ℕ, zero, suc, ◌+◌, ◌==◌, Bool, true, false, not, ◌&&◌, ◌||◌, List, [], ◌∷◌, ◌++◌, length, Option, Some, None, refl, if◌then◌else◌}
use Rattle.std.specs.List.{list_all, filter}
use Rattle.std.proofs.Common.{◌∙◌, ap, subst}
use Rattle.std.proofs.lemmas.Bool.Decides.{nat_tests}
use Rattle.std.proofs.Common.{arith}
use Rattle.merc_base.specs.declared.place.Span.{Span}
use Rattle.merc_tree.specs.declared.declarations.Arg.{Arg}
use Rattle.merc_tree.specs.declared.declarations.Arg.TheVariants.{Input, Output}
use Rattle.merc_tree.specs.declared.declarations.ModeDecl.{ModeDecl}
use Rattle.merc_goal_tree.specs.declared.goal.SimpleGoal.{SimpleGoal}
use Rattle.merc_goal_tree.specs.declared.goal.SimpleGoal.TheVariants.{True, Fail, Same, Shape, Arithmetic, Compare, Raise, Call}
use Rattle.merc_goal_tree.specs.Nodes.{Node, Nodes, Simple, Conjunction, Parallel, Disjunction, Conditional, Negation, Quantified, no_nodes, more_nodes}
use Rattle.merc_goal_tree.specs.Variables.{variables_of, variables, all_variables}
use Rattle.merc_order.specs.Bound.{Bound, with, among, are_bound, each_once}
use Rattle.merc_order.specs.CallModes.{inputs_of, wider, taken_from, tested, call_tested}
use Rattle.merc_order.specs.Moves.{Move, Next, next, behind, if_ready_next, settled_next, settled, needed, beside_next, beside, each_from}
use Rattle.merc_order.specs.Order.{Arm, differ_on, outside, outputs, outputs_of, binds, arms, decision_arms, binds_inside, agree, called_from, simple_from, from, moves}
use Rattle.merc_order.specs.Ordered.{Ordered, Ordereds, Outcome, Ready, Stuck, is_ready, Outcomes, AllReady, OneStuck, then_all, and_all, if_ready, if_all_ready}

-- the same of these variables is bound
abbrev pub Agree : List ℕ → Bound → Bound → Type 0
Agree inside one other = (variable : ℕ) → among inside variable ≡ true → one variable ≡ other variable

-- variables among others

or_left : (a b : Bool) → a ≡ true → (a || b) ≡ true
or_left true b h = refl
or_left false b h = cc

or_right : (a b : Bool) → b ≡ true → (a || b) ≡ true
or_right true b h = refl
or_right false b h = h

same_is : (variable : ℕ) → (variable == variable) ≡ true
same_is variable = grind (arith, nat_tests)

first_among : (first : ℕ) (rest : List ℕ) → among (first ∷ rest) first ≡ true
first_among first rest = or_left (first == first) (among rest first) (same_is first)

rest_among : (first : ℕ) (rest : List ℕ) (variable : ℕ) → among rest variable ≡ true → among (first ∷ rest) variable ≡ true
rest_among first rest variable h = or_right (variable == first) (among rest variable) h

front_step : (e a b : Bool) → (a ≡ true → b ≡ true) → (e || a) ≡ true → (e || b) ≡ true
front_step true a b f h = refl
front_step false a b f h = f h

front_among : (front back : List ℕ) (variable : ℕ) → among front variable ≡ true → among (front ++ back) variable ≡ true
front_among [] back variable h = cc
front_among (first ∷ rest) back variable h = front_step (variable == first) (among rest variable) (among (rest ++ back) variable) (front_among rest back variable) h

back_among : (front back : List ℕ) (variable : ℕ) → among back variable ≡ true → among (front ++ back) variable ≡ true
back_among [] back variable h = h
back_among (first ∷ rest) back variable h = or_right (variable == first) (among (rest ++ back) variable) (back_among rest back variable h)

agree_rest : (first : ℕ) (rest : List ℕ) (b c : Bound) → Agree (first ∷ rest) b c → Agree rest b c
agree_rest first rest b c h = λ variable i. h variable (rest_among first rest variable i)

pub agree_front : (front back : List ℕ) (b c : Bound) → Agree (front ++ back) b c → Agree front b c
agree_front front back b c h = λ variable i. h variable (front_among front back variable i)

pub agree_back : (front back : List ℕ) (b c : Bound) → Agree (front ++ back) b c → Agree back b c
agree_back front back b c h = λ variable i. h variable (back_among front back variable i)

agree_with : (inside : List ℕ) (b c more : Bound) → Agree inside b c → Agree inside (with b more) (with c more)
agree_with inside b c more h = λ variable i. ap (λ x. x || more variable) (h variable i)

-- lists

all_same : (all : List ℕ) (p q : ℕ → Bool) → ((variable : ℕ) → among all variable ≡ true → p variable ≡ q variable) → list_all p all ≡ list_all q all
all_same [] p q h = refl
all_same (first ∷ rest) p q h =
    ap (λ x. x && list_all p rest) (h first (first_among first rest)) ∙ ap (λ x. q first && x) (all_same rest p q (λ variable i. h variable (rest_among first rest variable i)))

filter_same : (all : List ℕ) (p q : ℕ → Bool) → ((variable : ℕ) → among all variable ≡ true → p variable ≡ q variable) → filter p all ≡ filter q all
filter_same [] p q h = refl
filter_same (first ∷ rest) p q h =
    ap (λ x. if x then first ∷ filter p rest else filter p rest) (h first (first_among first rest))
    ∙ ap (λ x. if q first then first ∷ x else x) (filter_same rest p q (λ variable i. h variable (rest_among first rest variable i)))

are_bound_same : (all : List ℕ) (b c : Bound) → Agree all b c → are_bound b all ≡ are_bound c all
are_bound_same all b c h = all_same all b c h

inputs_same : (places : List Arg) (arguments : List ℕ) (b c : Bound) → Agree arguments b c → are_bound b (inputs_of places arguments) ≡ are_bound c (inputs_of places arguments)
inputs_same [] arguments b c h = refl
inputs_same (place ∷ places) [] b c h = refl
inputs_same (Input ∷ places) (first ∷ rest) b c h =
    ap (λ x. x && are_bound b (inputs_of places rest)) (h first (first_among first rest)) ∙ ap (λ x. c first && x) (inputs_same places rest b c (agree_rest first rest b c h))
inputs_same (Output ∷ places) (first ∷ rest) b c h = inputs_same places rest b c (agree_rest first rest b c h)

taken_same : (number : ℕ) (arguments : List ℕ) (ms : List ModeDecl) (b c : Bound) → Agree arguments b c → taken_from number b arguments ms ≡ taken_from number c arguments ms
taken_same number arguments [] b c h = refl
taken_same number arguments (m ∷ ms) b c h =
    ap (λ x. if x then Some (wider number m (taken_from (suc number) b arguments ms)) else taken_from (suc number) b arguments ms) (inputs_same m.args arguments b c h)
    ∙ ap (λ l. if are_bound c (inputs_of m.args arguments) then Some (wider number m l) else l) (taken_same (suc number) arguments ms b c h)

agree_or : (inside : List ℕ) (b c : Bound) (one : ℕ) → Agree inside b c → Agree inside (λ other. b other || (other == one)) (λ other. c other || (other == one))
agree_or inside b c one h = λ variable i. ap (λ x. x || (variable == one)) (h variable i)

tested_same : (all : List ℕ) (b c : Bound) → Agree all b c → tested b all ≡ tested c all
tested_same [] b c h = refl
tested_same (first ∷ rest) b c h =
    ap (λ x. x ∷ tested (λ other. b other || (other == first)) rest) (h first (first_among first rest))
    ∙ ap (λ l. c first ∷ l) (tested_same rest (λ other. b other || (other == first)) (λ other. c other || (other == first)) (agree_or rest b c first (agree_rest first rest b c h)))

call_tested_same : (places : List Arg) (all : List ℕ) (b c : Bound) → Agree all b c → call_tested b places all ≡ call_tested c places all
call_tested_same [] all b c h = refl
call_tested_same (place ∷ places) [] b c h = refl
call_tested_same (Input ∷ places) (first ∷ rest) b c h = ap (λ l. false ∷ l) (call_tested_same places rest b c (agree_rest first rest b c h))
call_tested_same (Output ∷ places) (first ∷ rest) b c h =
    ap (λ x. x ∷ call_tested (λ other. b other || (other == first)) places rest) (h first (first_among first rest))
    ∙ ap (λ l. c first ∷ l) (call_tested_same places rest (λ other. b other || (other == first)) (λ other. c other || (other == first)) (agree_or rest b c first (agree_rest first rest b c h)))

-- outcomes

if_ready_by : (o : Outcome) (f g : Ordered → Outcome) → ((x : Ordered) → f x ≡ g x) → if_ready o f ≡ if_ready o g
if_ready_by (Ready x) f g h = h x
if_ready_by (Stuck x) f g h = refl

if_ready_same : (o p : Outcome) (f g : Ordered → Outcome) → o ≡ p → ((x : Ordered) → f x ≡ g x) → if_ready o f ≡ if_ready p g
if_ready_same o p f g e h = ap (λ x. if_ready x f) e ∙ if_ready_by p f g h

if_all_by : (o : Outcomes) (f g : Ordereds → Outcome) → ((x : Ordereds) → f x ≡ g x) → if_all_ready o f ≡ if_all_ready o g
if_all_by (AllReady x) f g h = h x
if_all_by (OneStuck x) f g h = refl

if_all_same : (o p : Outcomes) (f g : Ordereds → Outcome) → o ≡ p → ((x : Ordereds) → f x ≡ g x) → if_all_ready o f ≡ if_all_ready p g
if_all_same o p f g e h = ap (λ x. if_all_ready x f) e ∙ if_all_by p f g h

-- goals beside each other, each of which depends on these variables alone

abbrev pub IsLocal : List ℕ → Move → Type 0
IsLocal inside move = (b c : Bound) → Agree inside b c → move.from b ≡ move.from c

abbrev pub AreLocal : List ℕ → List Move → Type 0
AreLocal inside [] = Unit {0}
AreLocal inside (move ∷ moves) = IsLocal inside move × AreLocal inside moves

next_same : (inside : List ℕ) (ms : List Move) (b c : Bound) → AreLocal inside ms → Agree inside b c → next ms b ≡ next ms c
next_same inside [] b c l h = refl
next_same inside (m ∷ ms) b c (one, rest) h =
    ap (λ o. if_ready_next o m.binds ms (behind m (next ms b))) (one b c h) ∙ ap (λ x. if_ready_next (m.from c) m.binds ms (behind m x)) (next_same inside ms b c rest h)

-- the others are local too

some_is : (n found : Next) → Some n ≡ Some found → n ≡ found
some_is n found h = cc

local_step : (inside : List ℕ) (m : Move) (ms : List Move) (found : Next) (o : Outcome) (l : Option Next) → IsLocal inside m → AreLocal inside ms
    → ((n : Next) → l ≡ Some n → AreLocal inside n.others) → if_ready_next o m.binds ms (behind m l) ≡ Some found → AreLocal inside found.others
local_step inside m ms found (Ready g) l one rest f h = subst (λ n. AreLocal inside n.others) (some_is (record { goal = g; binds = m.binds; others = ms }) found h) rest
local_step inside m ms found (Stuck x) None one rest f h = cc
local_step inside m ms found (Stuck x) (Some n) one rest f h =
    subst (λ k. AreLocal inside k.others) (some_is (record { goal = n.goal; binds = n.binds; others = m ∷ n.others }) found h) (one, f n refl)

local_others : (inside : List ℕ) (ms : List Move) (b : Bound) (found : Next) → AreLocal inside ms → next ms b ≡ Some found → AreLocal inside found.others
local_others inside [] b found l h = cc
local_others inside (m ∷ ms) b found (one, rest) h = local_step inside m ms found (m.from b) (next ms b) one rest (λ n e. local_others inside ms b n rest e) h

settled_step : (inside : List ℕ) (left : ℕ) (o : Outcome) (ms : List Move) (b c : Bound) (l : Option Next) → ((found : Next) → l ≡ Some found → AreLocal inside found.others) → Agree inside b c
    → ((others : List Move) (d e : Bound) → AreLocal inside others → Agree inside d e → settled left others d ≡ settled left others e)
    → settled_next o b l (settled left) ≡ settled_next o c l (settled left)
settled_step inside left o ms b c None k h again = refl
settled_step inside left o ms b c (Some found) k h again =
    ap (λ x. then_all found.goal x) (again found.others (with b found.binds) (with c found.binds) (k found refl) (agree_with inside b c found.binds h))

settled_same : (inside : List ℕ) (left : ℕ) (ms : List Move) (b c : Bound) → AreLocal inside ms → Agree inside b c → settled left ms b ≡ settled left ms c
settled_same inside left [] b c l h = refl
settled_same inside zero (m ∷ ms) b c l h = refl
settled_same inside (suc left) (m ∷ ms) b c (one, rest) h =
    ap (λ o. settled_next o b (next (m ∷ ms) b) (settled left)) (one b c h)
    ∙ (settled_step inside left (m.from c) (m ∷ ms) b c (next (m ∷ ms) b) (λ found e. local_others inside (m ∷ ms) b found (one, rest) e) h (λ others d e. settled_same inside left others d e)
    ∙ ap (λ x. settled_next (m.from c) c x (settled left)) (next_same inside (m ∷ ms) b c (one, rest) h))

needed_same : (inside : List ℕ) (number : ℕ) (m : Move) (ms : List Move) (b c : Bound) → IsLocal inside m → AreLocal inside ms → Agree inside b c → needed number m ms b ≡ needed number m ms c
needed_same inside number m [] b c l ls h = refl
needed_same inside number m (later ∷ others) b c l (one, rest) h =
    ap (λ x. if is_ready x && is_ready (m.from (with b later.binds)) then Some number else needed (number + 1) m others b) (one b c h)
    ∙ (ap (λ x. if is_ready (later.from c) && is_ready x then Some number else needed (number + 1) m others b) (l (with b later.binds) (with c later.binds) (agree_with inside b c later.binds h))
    ∙ ap (λ x. if is_ready (later.from c) && is_ready (m.from (with c later.binds)) then Some number else x) (needed_same inside (number + 1) m others b c l rest h))

beside_step : (number : ℕ) (m : Move) (ms : List Move) (b c : Bound) (o : Outcome) (l : Outcomes) → needed (number + 1) m ms b ≡ needed (number + 1) m ms c
    → beside_next number m ms b o l ≡ beside_next number m ms c o l
beside_step number m ms b c (Ready g) l h = refl
beside_step number m ms b c (Stuck x) l h = rw h refl

beside_same : (inside : List ℕ) (number : ℕ) (ms : List Move) (b c : Bound) → AreLocal inside ms → Agree inside b c → beside number ms b ≡ beside number ms c
beside_same inside number [] b c l h = refl
beside_same inside number (m ∷ ms) b c (one, rest) h =
    ap (λ o. beside_next number m ms b o (beside (number + 1) ms (with b m.binds))) (one b c h)
    ∙ (ap (λ x. beside_next number m ms b (m.from c) x) (beside_same inside (number + 1) ms (with b m.binds) (with c m.binds) rest (agree_with inside b c m.binds h))
    ∙ beside_step number m ms b c (m.from c) (beside (number + 1) ms (with c m.binds)) (needed_same inside (number + 1) m ms b c one rest h))

each_same : (inside : List ℕ) (ms : List Move) (b c : Bound) → AreLocal inside ms → Agree inside b c → each_from ms b ≡ each_from ms c
each_same inside [] b c l h = refl
each_same inside (m ∷ ms) b c (one, rest) h = ap (λ o. and_all o (each_from ms b)) (one b c h) ∙ ap (λ x. and_all (m.from c) x) (each_same inside ms b c rest h)

local_in : (inside whole : List ℕ) (ms : List Move) → ((variable : ℕ) → among inside variable ≡ true → among whole variable ≡ true) → AreLocal inside ms → AreLocal whole ms
local_in inside whole [] f l = tt
local_in inside whole (m ∷ ms) f (one, rest) = (λ b c h. one b c (λ variable i. h variable (f variable i)), local_in inside whole ms f rest)

module _ (total : ℕ → ℕ) (modes : ℕ → List ModeDecl) where
  outputs_same : (b c : Bound) (inside : List ℕ) (bs : Bound) → Agree inside b c → outputs total modes b inside bs ≡ outputs total modes c inside bs
  outputs_same b c inside bs h = ap each_once (filter_same inside (λ variable. bs variable && (not (b variable) && outside total modes inside variable))
      (λ variable. bs variable && (not (c variable) && outside total modes inside variable)) (λ variable i. ap (λ x. bs variable && (not x && outside total modes inside variable)) (h variable i)))

  inside_same : (b c : Bound) (inside all : List ℕ) (bs : Bound) → Agree all b c → binds_inside total modes b inside all bs ≡ binds_inside total modes c inside all bs
  inside_same b c inside all bs h = all_same all (λ variable. b variable || not (bs variable) || not (outside total modes inside variable)) (λ variable. c variable || not (bs variable) || not (outside total modes inside variable))
      (λ variable i. ap (λ x. x || not (bs variable) || not (outside total modes inside variable)) (h variable i))

  agree_same : (b c : Bound) (inside : List ℕ) (those : List Arm) → Agree inside b c → agree total modes b inside those ≡ agree total modes c inside those
  agree_same b c inside those h = all_same inside (λ variable. b variable || not (differ_on those variable) || not (outside total modes inside variable)) (λ variable. c variable || not (differ_on those variable) || not (outside total modes inside variable))
      (λ variable i. ap (λ x. x || not (differ_on those variable) || not (outside total modes inside variable)) (h variable i))

  called_same : (b c : Bound) (predicate : ℕ) (arguments : List ℕ) (l : Option (ℕ × ModeDecl)) (outs : List ℕ) (span : Span) → Agree arguments b c
      → called_from total modes b predicate arguments l outs span ≡ called_from total modes c predicate arguments l outs span
  called_same b c predicate arguments None outs span h = refl
  called_same b c predicate arguments (Some taken) outs span h = rw (call_tested_same taken.1.args arguments b c h) refl

  simple_same : (goal : SimpleGoal) (outs : List ℕ) (span : Span) (b c : Bound) → Agree (variables_of goal) b c → simple_from total modes goal outs span b ≡ simple_from total modes goal outs span c
  simple_same True outs span b c h = refl
  simple_same Fail outs span b c h = refl
  simple_same (Same one other) outs span b c h = rw (h one (first_among one (other ∷ [])), h other (rest_among one (other ∷ []) other (first_among other []))) refl
  simple_same (Shape whole symbol arguments) outs span b c h =
      rw (h whole (first_among whole arguments), tested_same arguments b c (agree_rest whole arguments b c h), are_bound_same arguments b c (agree_rest whole arguments b c h)) refl
  simple_same (Arithmetic operation result left right) outs span b c h =
      let r = h result (first_among result (left ∷ right ∷ [])) in
      let l = h left (rest_among result (left ∷ right ∷ []) left (first_among left (right ∷ []))) in
      let k = h right (rest_among result (left ∷ right ∷ []) right (rest_among left (right ∷ []) right (first_among right []))) in
      rw (r, l, k) refl
  simple_same (Compare comparison left right) outs span b c h = rw (h left (first_among left (right ∷ [])), h right (rest_among left (right ∷ []) right (first_among right []))) refl
  simple_same (Raise text) outs span b c h = rw (h text (first_among text [])) refl
  simple_same (Call predicate arguments) outs span b c h =
      ap (λ l. called_from total modes b predicate arguments l outs span) (taken_same 0 arguments (modes predicate) b c h)
      ∙ called_same b c predicate arguments (taken_from 0 c arguments (modes predicate)) outs span h

  mutual
    pub from_same : (goal : Node) (b c : Bound) → Agree (variables goal) b c → from total modes goal b ≡ from total modes goal c
    from_same (Simple goal span) b c h =
        simple_same goal (outputs_of total modes b (Simple goal span)) span b c h
        ∙ ap (λ o. simple_from total modes goal o span c) (outputs_same b c (variables_of goal) (binds total modes (Simple goal span)) h)
    from_same (Conjunction goals span) b c h =
        if_all_same (settled (length (moves total modes goals)) (moves total modes goals) b) (settled (length (moves total modes goals)) (moves total modes goals) c) _ _
        (settled_same (all_variables goals) (length (moves total modes goals)) (moves total modes goals) b c (moves_local goals) h)
        (λ all. rw (outputs_same b c (all_variables goals) (binds total modes (Conjunction goals span)) h) refl)
    from_same (Parallel goals span) b c h =
        if_all_same (beside 1 (moves total modes goals) b) (beside 1 (moves total modes goals) c) _ _ (beside_same (all_variables goals) 1 (moves total modes goals) b c (moves_local goals) h)
        (λ all. rw (outputs_same b c (all_variables goals) (binds total modes (Parallel goals span)) h) refl)
    from_same (Disjunction goals span) b c h =
        if_all_same (each_from (moves total modes goals) b) (each_from (moves total modes goals) c) _ _ (each_same (all_variables goals) (moves total modes goals) b c (moves_local goals) h)
        (λ all. rw (agree_same b c (all_variables goals) (arms total modes goals) h, outputs_same b c (all_variables goals) (binds total modes (Disjunction goals span)) h) refl)
    from_same (Conditional condition then_part else_part span) b c h =
        let hc = agree_front (variables condition) (variables then_part ++ variables else_part) b c h in
        let hr = agree_back (variables condition) (variables then_part ++ variables else_part) b c h in
        let ht = agree_front (variables then_part) (variables else_part) b c hr in
        let he = agree_back (variables then_part) (variables else_part) b c hr in
        let whole = variables (Conditional condition then_part else_part span) in
        if_ready_same (from total modes condition b) (from total modes condition c) _ _ (from_same condition b c hc)
        (λ first. rw (
          inside_same b c (variables condition ++ variables then_part) (variables condition) (binds total modes condition) hc,
          from_same then_part (with b (binds total modes condition)) (with c (binds total modes condition)) (agree_with (variables then_part) b c (binds total modes condition) ht),
          from_same else_part b c he,
          agree_same b c whole (decision_arms total modes condition then_part else_part) h,
          outputs_same b c whole (binds total modes (Conditional condition then_part else_part span)) h,
        ) refl)
    from_same (Negation goal span) b c h =
        if_ready_same (from total modes goal b) (from total modes goal c) _ _ (from_same goal b c h)
        (λ inner. rw (inside_same b c (variables goal) (variables goal) (binds total modes goal) h) refl)
    from_same (Quantified own goal span) b c h =
        if_ready_same (from total modes goal b) (from total modes goal c) _ _ (from_same goal b c h)
        (λ inner. rw (outputs_same b c (variables goal) (binds total modes (Quantified own goal span)) h) refl)

    pub moves_local : (goals : Nodes) → AreLocal (all_variables goals) (moves total modes goals)
    moves_local no_nodes = tt
    moves_local (more_nodes first rest) = (
      λ b c h. from_same first b c (agree_front (variables first) (all_variables rest) b c h),
      local_in (all_variables rest) (variables first ++ all_variables rest) (moves total modes rest) (λ variable i. back_among (variables first) (all_variables rest) variable i) (moves_local rest),
    )
