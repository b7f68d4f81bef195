-- Which right is found among those for a variable: in a list, in a part of it, and with numbers in place of names.
use Rattle.std.proofs.Common.{◌≡◌, ℕ, zero, suc, ◌⊎◌, inl, inr, Bool, true, false, not, if◌then◌else◌, List, [], ◌∷◌, map, filter, refl, ap, sym, subst, ◌∙◌, arith}
use Rattle.std.specs.Prelude.{⊤, Option, Some, None, ◌==◌, nat_lt}
use Rattle.std.proofs.lemmas.Bool.Decides.{nat_tests}
use Rattle.merc_core.specs.Rights.{has}
use Rattle.merc_core.specs.WellFormed.{AreDistinct}
use Rattle.merc_board.specs.Rights.{Due, Owed, passed_over, wait_for, is_sooner, sooner_of, signal_for}
use Rattle.merc_rights.specs.Rights.{is_sooner as plan_sooner}
use Rattle.merc_plan.specs.Branch.{HeldWait, HeldSignal}
use Rattle.merc_plan.specs.Hold.{wait_for as plan_wait, without_wait, sooner, signal_for as plan_signal, without_signal}
use Rattle.merc_plan.proofs.Sets.{clash, is_same, same_number, rest_in, front_or, or_in, absent}
use Rattle.merc_branch_laws.proofs.Parts.{Part, nothing, skip, keep, part_both, has_part, first_not, among_rest}

abbrev pub due_cells : List Due → List ℕ
due_cells waits = map (λ (one : Due). one.cell) waits

abbrev pub owed_cells : List Owed → List ℕ
owed_cells signals = map (λ (one : Owed). one.cell) signals

-- To wait.

abbrev pub first_for : ℕ → List Due → Option ℕ
first_for x [] = None
first_for x (first ∷ rest) = if first.variable == x then Some first.cell else first_for x rest

abbrev pub rest_for : ℕ → List Due → List Due
rest_for x [] = []
rest_for x (first ∷ rest) = if first.variable == x then rest else first ∷ rest_for x rest

abbrev with_others : Option ℕ → List Due → Option (ℕ × List Due)
with_others None others = None
with_others (Some c) others = Some (c, others)

wait_is : (x : ℕ) (ws : List Due) → wait_for x ws ≡ with_others (first_for x ws) (rest_for x ws)
wait_is x [] = refl
wait_is x (first ∷ rest) = on (first.variable == x) (wait_is x rest)
  where
    over : (c : Option ℕ) (others : List Due) → passed_over first (with_others c others) ≡ with_others c (first ∷ others)
    over None others = refl
    over (Some c) others = refl

    on : (b : Bool) → wait_for x rest ≡ with_others (first_for x rest) (rest_for x rest)
        → (if b then Some (first.cell, rest) else passed_over first (wait_for x rest)) ≡ with_others (if b then Some first.cell else first_for x rest) (if b then rest else first ∷ rest_for x rest)
    on true e = refl
    on false e = ap (λ (o : Option (ℕ × List Due)). passed_over first o) e ∙ over (first_for x rest) (rest_for x rest)

pub wait_found : (x c : ℕ) (ws : List Due) → first_for x ws ≡ Some c → wait_for x ws ≡ Some (c, rest_for x ws)
wait_found x c ws e = wait_is x ws ∙ ap (λ (o : Option ℕ). with_others o (rest_for x ws)) e

some_is : (c d : ℕ) → Some c ≡ Some d → d ≡ c
some_is c d e = cc

pub first_has : (x c : ℕ) (ws : List Due) → first_for x ws ≡ Some c → has c (due_cells ws) ≡ true
first_has x c [] e = absurd (cc (e))
first_has x c (first ∷ rest) e = on (first.variable == x) e (λ f. first_has x c rest f)
  where
    on : (b : Bool) → (if b then Some first.cell else first_for x rest) ≡ Some c → (first_for x rest ≡ Some c → has c (due_cells rest) ≡ true) → has c (first.cell ∷ due_cells rest) ≡ true
    on true e rec = or_in c first.cell (due_cells rest) (inl (some_is first.cell c e))
    on false e rec = rest_in c first.cell (due_cells rest) (rec e)

-- those that are left are all but the one that was found
pub rest_has : (x c d : ℕ) (ws : List Due) → first_for x ws ≡ Some c → has d (due_cells ws) ≡ true → (d ≡ c) ⊎ (has d (due_cells (rest_for x ws)) ≡ true)
rest_has x c d [] e h = absurd (cc (e))
rest_has x c d (first ∷ rest) e h = on (first.variable == x) e (front_or d first.cell (due_cells rest) h) (λ f k. rest_has x c d rest f k)
  where
    on : (b : Bool) → (if b then Some first.cell else first_for x rest) ≡ Some c → (d ≡ first.cell) ⊎ (has d (due_cells rest) ≡ true)
        → (first_for x rest ≡ Some c → has d (due_cells rest) ≡ true → (d ≡ c) ⊎ (has d (due_cells (rest_for x rest)) ≡ true))
        → (d ≡ c) ⊎ (has d (due_cells (if b then rest else first ∷ rest_for x rest)) ≡ true)
    on true e (inl p) rec = inl (p ∙ sym (some_is first.cell c e))
    on true e (inr k) rec = inr k
    on false e (inl p) rec = inr (or_in d first.cell (due_cells (rest_for x rest)) (inl p))
    on false e (inr k) rec = further (rec e k)
      where
        further : (d ≡ c) ⊎ (has d (due_cells (rest_for x rest)) ≡ true) → (d ≡ c) ⊎ (has d (first.cell ∷ due_cells (rest_for x rest)) ≡ true)
        further (inl q) = inl q
        further (inr q) = inr (rest_in d first.cell (due_cells (rest_for x rest)) q)

pub rest_part : (x : ℕ) (ws : List Due) → Part Due (rest_for x ws) ws
rest_part x [] = nothing
rest_part x (first ∷ rest) = on (first.variable == x) (rest_part x rest)
  where
    same : (ws : List Due) → Part Due ws ws
    same [] = nothing
    same (w ∷ ws) = keep w ws ws (same ws)

    on : (b : Bool) → Part Due (rest_for x rest) rest → Part Due (if b then rest else first ∷ rest_for x rest) (first ∷ rest)
    on true p = skip first rest rest (same rest)
    on false p = keep first (rest_for x rest) rest p

pub rest_more : (x : ℕ) (xs ys : List Due) → Part Due xs ys → Part Due (rest_for x xs) (rest_for x ys)
rest_more x xs ys nothing = nothing
rest_more x xs ys (skip y _ more p) = on (y.variable == x) (rest_more x xs more p)
  where
    on : (b : Bool) → Part Due (rest_for x xs) (rest_for x more) → Part Due (rest_for x xs) (if b then more else y ∷ rest_for x more)
    on true q = part_both (rest_for x xs) xs more (rest_part x xs) p
    on false q = skip y (rest_for x xs) (rest_for x more) q
rest_more x xs ys (keep w less more p) = on (w.variable == x) (rest_more x less more p)
  where
    on : (b : Bool) → Part Due (rest_for x less) (rest_for x more) → Part Due (if b then less else w ∷ rest_for x less) (if b then more else w ∷ rest_for x more)
    on true q = p
    on false q = keep w (rest_for x less) (rest_for x more) q

-- a right that is found in the whole is found in the part where it is there
pub first_part : (x c : ℕ) (xs ys : List Due) → Part Due xs ys → AreDistinct (due_cells ys) → first_for x ys ≡ Some c → has c (due_cells xs) ≡ true → first_for x xs ≡ Some c
first_part x c xs ys nothing d e h = e
first_part x c xs ys (skip y _ more p) d e h = on (y.variable == x) e (λ f. first_part x c xs more p d.1 f h)
  where
    on : (b : Bool) → (if b then Some y.cell else first_for x more) ≡ Some c → (first_for x more ≡ Some c → first_for x xs ≡ Some c) → first_for x xs ≡ Some c
    on true e rec = absurd (first_not (λ (one : Due). one.cell) c y more d (some_is y.cell c e) (has_part (λ (one : Due). one.cell) c xs more p h))
    on false e rec = rec e
first_part x c xs ys (keep w less more p) d e h =
    on (w.variable == x) e (λ f. first_part x c less more p d.1 f (among_rest (λ (one : Due). one.cell) c w less more d (first_has x c more f) h))
  where
    on : (b : Bool) → (if b then Some w.cell else first_for x more) ≡ Some c → (first_for x more ≡ Some c → first_for x less ≡ Some c) → (if b then Some w.cell else first_for x less) ≡ Some c
    on true e rec = e
    on false e rec = rec e

-- a branch's rights, as a board has them
abbrev pub due_of : HeldWait → Due
due_of right = record { variable = right.variable; cell = right.cell }

abbrev pub dues : List HeldWait → List Due
dues waits = map due_of waits

pub first_due : (x : ℕ) (ws : List HeldWait) (right : HeldWait) → plan_wait x ws ≡ Some right → first_for x (dues ws) ≡ Some right.cell
first_due x [] right e = absurd (cc (e))
first_due x (first ∷ rest) right e = on (first.variable == x) e (λ f. first_due x rest right f)
  where
    cell_same : (a b : HeldWait) → Some a ≡ Some b → Some a.cell ≡ Some b.cell
    cell_same a b e = cc

    on : (b : Bool) → (if b then Some first else plan_wait x rest) ≡ Some right → (plan_wait x rest ≡ Some right → first_for x (dues rest) ≡ Some right.cell)
        → (if b then Some first.cell else first_for x (dues rest)) ≡ Some right.cell
    on true e rec = cell_same first right e
    on false e rec = rec e

pub rest_due : (x : ℕ) (ws : List HeldWait) → dues (without_wait x ws) ≡ rest_for x (dues ws)
rest_due x [] = refl
rest_due x (first ∷ rest) = on (first.variable == x) (rest_due x rest)
  where
    on : (b : Bool) → dues (without_wait x rest) ≡ rest_for x (dues rest) → dues (if b then rest else first ∷ without_wait x rest) ≡ (if b then dues rest else due_of first ∷ rest_for x (dues rest))
    on true e = refl
    on false e = ap (λ (l : List Due). due_of first ∷ l) e

-- To signal.

abbrev pub better : Owed → Option Owed → Owed
better one None = one
better one (Some other) = if is_sooner other.consumer one.consumer then other else one

abbrev pub best_for : ℕ → List Owed → Option Owed
best_for x [] = None
best_for x (first ∷ rest) = if first.variable == x then Some (better first (best_for x rest)) else best_for x rest

abbrev pub without_owed : ℕ → List Owed → List Owed
without_owed c signals = filter (λ (one : Owed). not (one.cell == c)) signals

owed_is : (o q : Owed) → Some o ≡ Some q → q ≡ o
owed_is o q e = cc

pub best_has : (x : ℕ) (ss : List Owed) (o : Owed) → best_for x ss ≡ Some o → has o.cell (owed_cells ss) ≡ true
best_has x [] o e = absurd (cc (e))
best_has x (first ∷ rest) o e = on (first.variable == x) e (λ f. best_has x rest o f)
  where
    of_best : (best : Option Owed) → best_for x rest ≡ best → Some (better first best) ≡ Some o → (best_for x rest ≡ Some o → has o.cell (owed_cells rest) ≡ true) → has o.cell (first.cell ∷ owed_cells rest) ≡ true
    of_best None b e rec = or_in o.cell first.cell (owed_cells rest) (inl (ap (λ (q : Owed). q.cell) (owed_is first o e)))
    of_best (Some q) b e rec = sooner_of_two (is_sooner q.consumer first.consumer) e
      where
        sooner_of_two : (z : Bool) → Some (if z then q else first) ≡ Some o → has o.cell (first.cell ∷ owed_cells rest) ≡ true
        sooner_of_two true e = rest_in o.cell first.cell (owed_cells rest) (rec (b ∙ e))
        sooner_of_two false e = or_in o.cell first.cell (owed_cells rest) (inl (ap (λ (q : Owed). q.cell) (owed_is first o e)))

    on : (b : Bool) → (if b then Some (better first (best_for x rest)) else best_for x rest) ≡ Some o → (best_for x rest ≡ Some o → has o.cell (owed_cells rest) ≡ true)
        → has o.cell (first.cell ∷ owed_cells rest) ≡ true
    on true e rec = of_best (best_for x rest) refl e rec
    on false e rec = rest_in o.cell first.cell (owed_cells rest) (rec e)

-- the others are those with other cells, where cells are distinct

cell_not : (c d : ℕ) → (c ≡ d → ⊥) → (c == d) ≡ false
cell_not c d n = on (c == d) refl
  where
    on : (b : Bool) → (c == d) ≡ b → b ≡ false
    on true e = absurd (n (same_number c d e))
    on false e = refl

keeps_first : (c : ℕ) (first : Owed) (rest : List Owed) → (first.cell ≡ c → ⊥) → without_owed c (first ∷ rest) ≡ first ∷ without_owed c rest
keeps_first c first rest n = ap (λ (b : Bool). if not b then first ∷ without_owed c rest else without_owed c rest) (cell_not first.cell c n)

keeps_all : (c : ℕ) (ss : List Owed) → has c (owed_cells ss) ≡ false → without_owed c ss ≡ ss
keeps_all c [] h = refl
keeps_all c (first ∷ rest) h =
    keeps_first c first rest (λ e. clash (has c (owed_cells (first ∷ rest))) (or_in c first.cell (owed_cells rest) (inl (sym e))) h)
    ∙ ap (λ (l : List Owed). first ∷ l) (keeps_all c rest (absent c (owed_cells rest) (λ k. clash (has c (owed_cells (first ∷ rest))) (rest_in c first.cell (owed_cells rest) k) h)))

drops_first : (first : Owed) (rest : List Owed) → AreDistinct (owed_cells (first ∷ rest)) → without_owed first.cell (first ∷ rest) ≡ rest
drops_first first rest d =
    ap (λ (b : Bool). if not b then first ∷ without_owed first.cell rest else without_owed first.cell rest) (is_same first.cell) ∙ keeps_all first.cell rest d.0

abbrev with_left : Option Owed → List Owed → Option (Owed × List Owed)
with_left None signals = None
with_left (Some o) signals = Some (o, without_owed o.cell signals)

signal_is : (x : ℕ) (ss : List Owed) → AreDistinct (owed_cells ss) → signal_for x ss ≡ with_left (best_for x ss) ss
signal_is x [] d = refl
signal_is x (first ∷ rest) d = on (first.variable == x) (best_for x rest) refl (signal_is x rest d.1)
  where
    apart : (q : Owed) → best_for x rest ≡ Some q → first.cell ≡ q.cell → ⊥
    apart q b e = first_not (λ (one : Owed). one.cell) q.cell first rest d (sym e) (best_has x rest q b)

    first_left : ◌≡◌ {A = Owed × List Owed} (first, rest) (first, without_owed first.cell (first ∷ rest))
    first_left = ap (λ (l : List Owed). (first, l)) (sym (drops_first first rest d))

    chosen : (z : Bool) (q : Owed) → best_for x rest ≡ Some q
        → ◌≡◌ {A = Owed × List Owed} (if z then (q, first ∷ without_owed q.cell rest) else (first, rest)) ((if z then q else first), without_owed (if z then q else first).cell (first ∷ rest))
    chosen true q b = ap (λ (l : List Owed). (q, l)) (sym (keeps_first q.cell first rest (apart q b)))
    chosen false q b = first_left

    on : (b : Bool) (best : Option Owed) → best_for x rest ≡ best → signal_for x rest ≡ with_left best rest
        → (if b then Some (sooner_of first rest (signal_for x rest)) else passed_over first (signal_for x rest)) ≡ with_left (if b then Some (better first best) else best) (first ∷ rest)
    on true None b e = ap (λ (o : Option (Owed × List Owed)). Some (sooner_of first rest o)) e ∙ ap (λ (p : Owed × List Owed). Some p) first_left
    on true (Some q) b e =
        ap (λ (o : Option (Owed × List Owed)). Some (sooner_of first rest o)) e
        ∙ ap (λ (p : Owed × List Owed). Some p) (chosen (is_sooner q.consumer first.consumer) q b)
    on false None b e = ap (λ (o : Option (Owed × List Owed)). passed_over first o) e
    on false (Some q) b e =
        ap (λ (o : Option (Owed × List Owed)). passed_over first o) e ∙ ap (λ (l : List Owed). Some (q, l)) (sym (keeps_first q.cell first rest (apart q b)))

pub signal_found : (x : ℕ) (ss : List Owed) (o : Owed) → AreDistinct (owed_cells ss) → best_for x ss ≡ Some o → signal_for x ss ≡ Some (o, without_owed o.cell ss)
signal_found x ss o d e = signal_is x ss d ∙ ap (λ (best : Option Owed). with_left best ss) e

pub left_has : (c d : ℕ) (ss : List Owed) → has d (owed_cells ss) ≡ true → (d ≡ c) ⊎ (has d (owed_cells (without_owed c ss)) ≡ true)
left_has c d [] h = absurd (cc (h))
left_has c d (first ∷ rest) h = on (first.cell == c) refl (front_or d first.cell (owed_cells rest) h) (λ k. left_has c d rest k)
  where
    on : (b : Bool) → (first.cell == c) ≡ b → (d ≡ first.cell) ⊎ (has d (owed_cells rest) ≡ true) → (has d (owed_cells rest) ≡ true → (d ≡ c) ⊎ (has d (owed_cells (without_owed c rest)) ≡ true))
        → (d ≡ c) ⊎ (has d (owed_cells (if not b then first ∷ without_owed c rest else without_owed c rest)) ≡ true)
    on true e (inl p) rec = inl (p ∙ same_number first.cell c e)
    on true e (inr k) rec = rec k
    on false e (inl p) rec = inr (or_in d first.cell (owed_cells (without_owed c rest)) (inl p))
    on false e (inr k) rec = further (rec k)
      where
        further : (d ≡ c) ⊎ (has d (owed_cells (without_owed c rest)) ≡ true) → (d ≡ c) ⊎ (has d (first.cell ∷ owed_cells (without_owed c rest)) ≡ true)
        further (inl q) = inl q
        further (inr q) = inr (rest_in d first.cell (owed_cells (without_owed c rest)) q)

-- the order of consumers

not_sooner_both : (a b c : ℕ) → is_sooner a b ≡ false → is_sooner b c ≡ false → is_sooner a c ≡ false
not_sooner_both zero b c p q = refl
not_sooner_both (suc a) zero c p q = absurd (cc (p))
not_sooner_both (suc a) (suc b) zero p q = absurd (cc (q))
not_sooner_both (suc a) (suc b) (suc c) p q = on a b c p q
  where
    on : (a b c : ℕ) → nat_lt a b ≡ false → nat_lt b c ≡ false → nat_lt a c ≡ false
    on a b c p q = grind (arith, nat_tests, p, q)

not_both_sooner : (a b : ℕ) → is_sooner a b ≡ true → is_sooner b a ≡ false
not_both_sooner zero b p = absurd (cc (p))
not_both_sooner (suc a) zero p = refl
not_both_sooner (suc a) (suc b) p = on a b p
  where
    on : (a b : ℕ) → nat_lt a b ≡ true → nat_lt b a ≡ false
    on a b p = grind (arith, nat_tests, p)

abbrev NotSooner : ℕ → Option Owed → Type 0
NotSooner k None = ⊤
NotSooner k (Some o) = is_sooner o.consumer k ≡ false

better_not : (k : ℕ) (first : Owed) (best : Option Owed) → is_sooner (better first best).consumer k ≡ false → (is_sooner first.consumer k ≡ false) × NotSooner k best
better_not k first None e = (e, tt)
better_not k first (Some q) e = on (is_sooner q.consumer first.consumer) refl e
  where
    on : (z : Bool) → is_sooner q.consumer first.consumer ≡ z → is_sooner (if z then q else first).consumer k ≡ false → (is_sooner first.consumer k ≡ false) × (is_sooner q.consumer k ≡ false)
    on true s e = (not_sooner_both first.consumer q.consumer k (not_both_sooner q.consumer first.consumer s) e, e)
    on false s e = (e, not_sooner_both q.consumer first.consumer k s e)

not_better : (k : ℕ) (first : Owed) (best : Option Owed) → is_sooner first.consumer k ≡ false → NotSooner k best → is_sooner (better first best).consumer k ≡ false
not_better k first None e n = e
not_better k first (Some q) e n = on (is_sooner q.consumer first.consumer)
  where
    on : (z : Bool) → is_sooner (if z then q else first).consumer k ≡ false
    on true = n
    on false = e

not_sooner_part : (k x : ℕ) (xs ys : List Owed) → Part Owed xs ys → NotSooner k (best_for x ys) → NotSooner k (best_for x xs)
not_sooner_part k x xs ys nothing n = n
not_sooner_part k x xs ys (skip y _ more p) n = not_sooner_part k x xs more p (on (y.variable == x) n)
  where
    on : (b : Bool) → NotSooner k (if b then Some (better y (best_for x more)) else best_for x more) → NotSooner k (best_for x more)
    on true n = (better_not k y (best_for x more) n).1
    on false n = n
not_sooner_part k x xs ys (keep w less more p) n = on (w.variable == x) n (λ m. not_sooner_part k x less more p m)
  where
    on : (b : Bool) → NotSooner k (if b then Some (better w (best_for x more)) else best_for x more) → (NotSooner k (best_for x more) → NotSooner k (best_for x less))
        → NotSooner k (if b then Some (better w (best_for x less)) else best_for x less)
    on true n rec = let both = better_not k w (best_for x more) n in not_better k w (best_for x less) both.0 (rec both.1)
    on false n rec = rec n

none_part : (x : ℕ) (xs ys : List Owed) → Part Owed xs ys → best_for x ys ≡ None → best_for x xs ≡ None
none_part x xs ys nothing e = e
none_part x xs ys (skip y _ more p) e = none_part x xs more p (on (y.variable == x) e)
  where
    on : (b : Bool) → (if b then Some (better y (best_for x more)) else best_for x more) ≡ None → best_for x more ≡ None
    on true e = absurd (cc (e))
    on false e = e
none_part x xs ys (keep w less more p) e = on (w.variable == x) e (λ f. none_part x less more p f)
  where
    on : (b : Bool) → (if b then Some (better w (best_for x more)) else best_for x more) ≡ None → (best_for x more ≡ None → best_for x less ≡ None)
        → (if b then Some (better w (best_for x less)) else best_for x less) ≡ None
    on true e rec = absurd (cc (e))
    on false e rec = rec e

stays_better : (first : Owed) (best : Option Owed) → NotSooner first.consumer best → better first best ≡ first
stays_better first None n = refl
stays_better first (Some q) n = ap (λ (b : Bool). if b then q else first) n

pub best_part : (x : ℕ) (xs ys : List Owed) (o : Owed) → Part Owed xs ys → AreDistinct (owed_cells ys) → best_for x ys ≡ Some o → has o.cell (owed_cells xs) ≡ true → best_for x xs ≡ Some o
best_part x xs ys o nothing d e h = e
best_part x xs ys o (skip y _ more p) d e h = on (y.variable == x) e (λ f. best_part x xs more o p d.1 f h)
  where
    gone : y ≡ o → ⊥
    gone e = first_not (λ (one : Owed). one.cell) o.cell y more d (ap (λ (q : Owed). q.cell) (sym e)) (has_part (λ (one : Owed). one.cell) o.cell xs more p h)

    of_best : (best : Option Owed) → best_for x more ≡ best → Some (better y best) ≡ Some o → best_for x more ≡ Some o
    of_best None b e = absurd (gone (sym (owed_is y o e)))
    of_best (Some q) b e = two (is_sooner q.consumer y.consumer) e
      where
        two : (z : Bool) → Some (if z then q else y) ≡ Some o → best_for x more ≡ Some o
        two true e = b ∙ e
        two false e = absurd (gone (sym (owed_is y o e)))

    on : (b : Bool) → (if b then Some (better y (best_for x more)) else best_for x more) ≡ Some o → (best_for x more ≡ Some o → best_for x xs ≡ Some o) → best_for x xs ≡ Some o
    on true e rec = rec (of_best (best_for x more) refl e)
    on false e rec = rec e
best_part x xs ys o (keep w less more p) d e h =
    on (w.variable == x) e (λ f. best_part x less more o p d.1 f (among_rest (λ (one : Owed). one.cell) o.cell w less more d (best_has x more o f) h))
  where
    of_best : (best : Option Owed) → best_for x more ≡ best → Some (better w best) ≡ Some o → (best_for x more ≡ Some o → best_for x less ≡ Some o) → Some (better w (best_for x less)) ≡ Some o
    of_best None b e further = ap (λ (l : Option Owed). Some (better w l)) (none_part x less more p b) ∙ e
    of_best (Some q) b e further = two (is_sooner q.consumer w.consumer) refl e
      where
        two : (z : Bool) → is_sooner q.consumer w.consumer ≡ z → Some (if z then q else w) ≡ Some o → Some (better w (best_for x less)) ≡ Some o
        two true s e =
            ap (λ (l : Option Owed). Some (better w l)) (further (b ∙ e)) ∙ ap (λ (z : Bool). Some (if z then o else w)) (ap (λ (r : Owed). is_sooner r.consumer w.consumer) (owed_is q o e) ∙ s)
        two false s e =
            ap (λ (r : Owed). Some r) (stays_better w (best_for x less) (not_sooner_part w.consumer x less more p (subst (λ (l : Option Owed). NotSooner w.consumer l) (sym b) s))) ∙ e

    on : (b : Bool) → (if b then Some (better w (best_for x more)) else best_for x more) ≡ Some o → (best_for x more ≡ Some o → best_for x less ≡ Some o)
        → (if b then Some (better w (best_for x less)) else best_for x less) ≡ Some o
    on true e rec = of_best (best_for x more) refl e rec
    on false e rec = rec e

-- a branch's rights, as a board has them
abbrev pub owed_of : HeldSignal → Owed
owed_of right = record { variable = right.variable; consumer = right.conjunct; cell = right.cell }

abbrev pub owing : List HeldSignal → List Owed
owing signals = map owed_of signals

abbrev owed_if : Option HeldSignal → Option Owed
owed_if None = None
owed_if (Some right) = Some (owed_of right)

same_order : (a b : ℕ) → is_sooner a b ≡ plan_sooner a b
same_order zero b = refl
same_order (suc a) zero = refl
same_order (suc a) (suc b) = refl

best_owed : (x : ℕ) (ss : List HeldSignal) → best_for x (owing ss) ≡ owed_if (plan_signal x ss)
best_owed x [] = refl
best_owed x (first ∷ rest) = on (first.variable == x) (best_owed x rest)
  where
    two : (z : Bool) (q : HeldSignal) → (if z then owed_of q else owed_of first) ≡ owed_of (if z then q else first)
    two true q = refl
    two false q = refl

    of_best : (best : Option HeldSignal) → better (owed_of first) (owed_if best) ≡ owed_of (sooner first best)
    of_best None = refl
    of_best (Some q) =
        ap (λ (b : Bool). if b then owed_of q else owed_of first) (same_order q.conjunct first.conjunct) ∙ two (plan_sooner q.conjunct first.conjunct) q

    on : (b : Bool) → best_for x (owing rest) ≡ owed_if (plan_signal x rest)
        → (if b then Some (better (owed_of first) (best_for x (owing rest))) else best_for x (owing rest)) ≡ owed_if (if b then Some (sooner first (plan_signal x rest)) else plan_signal x rest)
    on true e = ap (λ (o : Option Owed). Some (better (owed_of first) o)) e ∙ ap (λ (o : Owed). Some o) (of_best (plan_signal x rest))
    on false e = e

pub best_held : (x : ℕ) (ss : List HeldSignal) (right : HeldSignal) → plan_signal x ss ≡ Some right → best_for x (owing ss) ≡ Some (owed_of right)
best_held x ss right e = best_owed x ss ∙ ap owed_if e

pub left_owed : (c : ℕ) (ss : List HeldSignal) → owing (without_signal c ss) ≡ without_owed c (owing ss)
left_owed c [] = refl
left_owed c (first ∷ rest) = on (first.cell == c) (left_owed c rest)
  where
    on : (b : Bool) → owing (without_signal c rest) ≡ without_owed c (owing rest)
        → owing (if not b then first ∷ without_signal c rest else without_signal c rest) ≡ (if not b then owed_of first ∷ without_owed c (owing rest) else without_owed c (owing rest))
    on true e = e
    on false e = ap (λ (l : List Owed). owed_of first ∷ l) e
