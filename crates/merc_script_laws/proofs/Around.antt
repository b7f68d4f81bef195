-- Waits before a goal, and signals behind it.
use Rattle.std.proofs.Common.{◌≡◌, ◌⊎◌, inl, inr, ℕ, suc, Bool, true, false, ◌==◌, nat_eq, List, [], ◌∷◌, ◌++◌, length, map, Option, Some, None, refl, ap, sym, subst, ◌∙◌}
use Rattle.merc_base.specs.declared.place.Span.{Span}
use Rattle.merc_graded_tree.specs.declared.basic.Procedure.{Procedure}
use Rattle.merc_graded_tree.specs.Nodes.{Node, nodes_of}
use Rattle.merc_order.specs.Bound.{Bound}
use Rattle.merc_order_laws.proofs.Facts.{clash, either_way}
use Rattle.merc_value.specs.Value.{Value}
use Rattle.merc_meaning.specs.Trace.{Env}
use Rattle.merc_meaning.specs.Steps.{value_at}
use Rattle.merc_meaning.specs.Runs.{Program}
use Rattle.merc_core.specs.Rights.{has, without}
use Rattle.merc_core.specs.WellFormed.{AreDistinct}
use Rattle.merc_rights.specs.Rights.{Right, wait_at, signal_at}
use Rattle.merc_par_split.specs.Sites.{are_for}
use Rattle.merc_plan.specs.Branch.{Hold, Gift, gift_at, Fork, BranchCourse, BranchCourses, Over, Breaks, Steps, Finds, Awaits, Gives, Forks, Starving, after, each, first_alone}
use Rattle.merc_plan.specs.Hold.{wait_for}
use Rattle.merc_plan.specs.Branches.{Plan, awaited, signalled, all_branch}
use Rattle.merc_plan.proofs.Flat.{Done, Answer}
use Rattle.merc_plan.proofs.Judging.{flat, Sure, Keeps}
use Rattle.merc_plan.proofs.Sets.{same_number, is_same, absent, minus_keeps, not_one, look_past, look_same, given_here, given_other}
use Rattle.merc_script_laws.proofs.Bonds.{Set, Here, Owed, signs, rights_for, Fit, Match, Names, here_or, Parts}
use Rattle.merc_script_laws.proofs.RightLists.{equal_is, equal_same, variables_of, right_first, right_rest, right_cases, right_only, right_other, listed, not_for, none_for, for_first, for_other}
use Rattle.merc_script_laws.proofs.Steps.{always, Waits, IsIn, AreApart, fit_waited, match_waited, moves_waited}
use Rattle.merc_script_laws.proofs.Holding.{Waitable, waitable_on, taken, taken_waits, no_elements, none_in, sent, signs_sent, sent_keeps, sent_other, sent_length, Sends, sends_none, sends_both, sent_sends, used_cell, uses_right}

pub after_over : (t : BranchCourse) → after t Over ≡ t
after_over Over = refl
after_over (Breaks h) = refl
after_over (Steps t) = ap (λ x. Steps x) (after_over t)
after_over (Finds hold t) = ap (λ x. Finds hold x) (after_over t)
after_over (Awaits c o t) = ap (λ x. Awaits c o x) (after_over t)
after_over (Gives c v t) = ap (λ x. Gives c v x) (after_over t)
after_over (Forks i x kids t) = ap (λ y. Forks i x kids y) (after_over t)

-- One wait.

awaited_owed : (hold : Hold) (x c : ℕ) (o : Option Value) → Owed hold x c o → awaited hold x (wait_for x hold.waits) ≡ awaited hold x (Some (record { variable = x; cell = c; value = o }))
awaited_owed hold x c o e =
    ap (λ z. awaited hold x z) e.found
    ∙ ap (λ z. awaited hold x (Some (record { variable = x; cell = z; value = e.right.value }))) e.at
    ∙ ap (λ z. awaited hold x (Some (record { variable = x; cell = c; value = z }))) e.gives

step_owed : (f : Hold → BranchCourse) (hold : Hold) (x c : ℕ) (v : Value) → Owed hold x c (Some v) → each f (first_alone (awaited hold x (wait_for x hold.waits))) ≡ Awaits c (Some v) (f (taken hold x v))
step_owed f hold x c v e = ap (λ z. each f (first_alone z)) (awaited_owed hold x c (Some v) e) ∙ ap (λ t. Awaits c (Some v) t) (after_over (f (taken hold x v)))

step_starves : (f : Hold → BranchCourse) (hold : Hold) (x c : ℕ) → Owed hold x c None → each f (first_alone (awaited hold x (wait_for x hold.waits))) ≡ Awaits c None (Breaks Starving)
step_starves f hold x c e = ap (λ z. each f (first_alone z)) (awaited_owed hold x c None e)

-- One wait, and then others.

cons_parts : (r : Right) (w : List Right) → Parts (r ∷ w) (r ∷ []) w
cons_parts r w x h = elim (right_cases r w x h) as (λ _. (are_for (r ∷ []) x ≡ true) ⊎ (are_for w x ≡ true)) [
  | inl p ↦ inl (subst (λ y. are_for (r ∷ []) y ≡ true) p (right_first r []))
  | inr p ↦ inr p
]

cons_one : (r : Right) (w : List Right) → IsIn (r ∷ []) (r ∷ w)
cons_one r w x h = subst (λ y. are_for (r ∷ w) y ≡ true) (right_only r x h) (right_first r w)

cons_rest : (r : Right) (w : List Right) → IsIn w (r ∷ w)
cons_rest r w x h = right_rest r w x h

cons_apart : (r : Right) (w : List Right) → AreDistinct (variables_of (r ∷ w)) → AreApart (r ∷ []) w
cons_apart r w d x h k = clash (listed w r.variable (subst (λ y. are_for w y ≡ true) (sym (right_only r x h)) k)) d.0

pub waits_none : (here : Set) (hold : Hold) → Waits here [] hold hold
waits_none here hold = record {
  moves = record {
    keep = λ x v h e. e;
    fresh = λ x h. clash h refl;
    got = λ x c o h l e. clash h refl;
    rest = λ x c o h e. e;
    old = λ x c o e. e;
    next = refl;
    names = λ n. n;
    signed = λ x c h. h;
    still = λ k. refl;
    unsigned = λ x h. refl;
  };
  other = λ x h. refl;
  gone = λ x c o h e. clash h refl;
  signals = refl;
  cells = λ d. d;
  variables = λ d. d;
}

waits_more : (b : Bound) (here : Set) (r : Right) (w : List Right) (hold hold1 hold2 : Hold) → Waits here (r ∷ []) hold hold1 → Waits (here_or here (r ∷ [])) w hold1 hold2 → AreDistinct (variables_of (r ∷ w)) → Waits here (r ∷ w) hold hold2
waits_more b here r w hold hold1 hold2 p q d = record {
  moves = moves_waited b here (r ∷ w) (r ∷ []) w hold hold1 (cons_parts r w) (cons_one r w) (cons_rest r w) (cons_apart r w d) [] always [] hold2 p.moves q.moves;
  other = λ x h. q.other x (right_other r w x h).1 ∙ p.other x (not_for (r ∷ []) x (λ k. (right_other r w x h).0 (right_only r x k)));
  gone = λ x c o h e. elim (cons_parts r w x h) as (λ _. ⊥) [
    | inl k ↦ p.gone x c o k (q.moves.old x c o e)
    | inr k ↦ q.gone x c o k e
  ];
  signals = q.signals ∙ p.signals;
  cells = λ e. q.cells (p.cells e);
  variables = λ e. q.variables (p.variables e);
}

-- Given are the plan and the program, with the courses of its calls, and the span of the goals that are put in.
module _ (plan : Plan) (program : Program) (call : Procedure → Hold → BranchCourse) (span : Span) where
  -- goals one after the other
  abbrev pub in_turn : List Node → Hold → BranchCourse
  in_turn goals hold = all_branch plan program call (nodes_of goals) hold

  -- waits, and then goals
  abbrev pub waiting : List Right → List Node → Hold → BranchCourse
  waiting w goals hold = in_turn (map (wait_at span) w ++ goals) hold

  abbrev pub sending : List Right → Hold → BranchCourse
  sending s hold = in_turn (map (signal_at span) s) hold

  pub record Waited (here : Set) (w : List Right) (hold : Hold) (goals : List Node) : Type 1 where
    pub hold1 : Hold
    pub waits : Waits here w hold hold1
    pub is_flat : flat (waiting w goals hold) ≡ flat (in_turn goals hold1)
    pub is_sure : (Holds : Fork → BranchCourses → Type 0) → Sure Holds (in_turn goals hold1) → Sure Holds (waiting w goals hold)

  -- waits that are all answered
  pub waits_flat : (w : List Right) (b : Bound) (here : Set) (hold : Hold) (full : Env) (goals : List Node) → Waitable hold → Fit b here w hold → Match w hold full → Waited here w hold goals
  waits_flat [] b here hold full goals can f t = record { hold1 = hold; waits = waits_none here hold; is_flat = refl; is_sure = λ Holds s. s }
  waits_flat (r ∷ w) b here hold full goals can f t =
      let e = f.owed r.variable (right_first r w) in
      let a = t.comes r.variable e.0 e.1.0 (right_first r w) e.1.1 in
      let o = subst (λ z. Owed hold r.variable e.0 z) a.1.0 e.1.1 in
      let one = taken hold r.variable a.0 in
      let p = taken_waits here r e.0 a.0 hold can o in
      let next = waits_flat w b (here_or here (r ∷ [])) one full goals (waitable_on here (r ∷ []) hold one p can)
      (fit_waited b here (r ∷ w) (r ∷ []) w hold one (cons_parts r w) (cons_one r w) (cons_rest r w) (cons_apart r w f.once) f.once.1 f p.moves)
      (match_waited b here (r ∷ w) (r ∷ []) w hold one (cons_parts r w) (cons_one r w) (cons_rest r w) (cons_apart r w f.once) full f t p) in
      let s = step_owed (λ inner. waiting w goals inner) hold r.variable e.0 a.0 o in
      record { hold1 = next.hold1; waits = waits_more b here r w hold one next.hold1 p next.waits f.once; is_flat = ap flat s ∙ next.is_flat; is_sure = λ Holds q. subst (λ z. Sure Holds z) (sym s) (next.is_sure Holds q) }

  -- rights to wait that are not used stay
  abbrev pub StillWaits : List Right → Hold → List ℕ → List ℕ → Type 0
  StillWaits w hold held held1 = (c : ℕ) → has c held ≡ true → ((x : ℕ) (o : Option Value) → are_for w x ≡ true → Owed hold x c o → ⊥) → has c held1 ≡ true

  -- waits that are answered or starve
  pub waits_keeps : (proper : ℕ → Value → Type 0) (end : List ℕ → List Gift → Hold → Type 0) (rights : ℕ → Bool) (w : List Right) (b : Bound) (here : Set) (hold : Hold) (goals : List Node) (held : List ℕ) (g : List Gift) → Waitable hold → Fit b here w hold
      → ((x c : ℕ) (o : Option Value) → are_for w x ≡ true → Owed hold x c o → has c held ≡ true)
      → ((hold1 : Hold) (held1 : List ℕ) → Waits here w hold hold1 → StillWaits w hold held held1 → Keeps proper end rights held1 g (in_turn goals hold1))
      → Keeps proper end rights held g (waiting w goals hold)
  waits_keeps proper end rights [] b here hold goals held g can f i k = k hold held (waits_none here hold) (λ c h n. h)
  waits_keeps proper end rights (r ∷ w) b here hold goals held g can f i k =
      let e = f.owed r.variable (right_first r w) in
      on e.0 e.1.0 e.1.1 (λ one held1 p j l.
      waits_keeps proper end rights w b (here_or here (r ∷ [])) one goals held1 g (waitable_on here (r ∷ []) hold one p can)
      (fit_waited b here (r ∷ w) (r ∷ []) w hold one (cons_parts r w) (cons_one r w) (cons_rest r w) (cons_apart r w f.once) f.once.1 f p.moves) j
      (λ hold2 held2 q m. k hold2 held2 (waits_more b here r w hold one hold2 p q f.once)
      (λ c h n. m c (l c h (λ o y. n r.variable o (right_first r w) y)) (λ y o u v. n y o (right_rest r w y u) (p.moves.old y c o v)))))
    where
      on : (c : ℕ) (o : Option Value) → Owed hold r.variable c o
          → ((one : Hold) (held1 : List ℕ) → Waits here (r ∷ []) hold one → ((y c : ℕ) (o : Option Value) → are_for w y ≡ true → Owed one y c o → has c held1 ≡ true)
          → ((c : ℕ) → has c held ≡ true → ((o : Option Value) → Owed hold r.variable c o → ⊥) → has c held1 ≡ true) → Keeps proper end rights held1 g (waiting w goals one))
          → Keeps proper end rights held g (waiting (r ∷ w) goals hold)
      on c None e rest_keeps =
          subst (λ z. Keeps proper end rights held g z) (sym (step_starves (λ inner. waiting w goals inner) hold r.variable c e)) (i r.variable c None (right_first r w) e, tt)
      on c (Some v) e rest_keeps =
          let p = taken_waits here r c v hold can e in
          subst (λ z. Keeps proper end rights held g z) (sym (step_owed (λ inner. waiting w goals inner) hold r.variable c v e)) (
            i r.variable c (Some v) (right_first r w) e,
            rest_keeps (taken hold r.variable v) (without (c ∷ []) held) p
                (λ y d o h q.
                let u = p.moves.old y d o q in
                minus_keeps d (c ∷ []) held
                (not_one d c (λ s. cons_apart r w f.once y (subst (λ z. are_for (r ∷ []) z ≡ true) (can.apart r.variable y c (Some v) o e (subst (λ z. Owed hold y z o) s u)) (right_first r [])) h))
                (i y d o (right_rest r w y h) u))
                (λ d h n. minus_keeps d (c ∷ []) held (not_one d c (λ s. n (Some v) (subst (λ z. Owed hold r.variable z (Some v)) (sym s) e))) h),
          )

  -- Signals.

  step_sent : (f : Hold → BranchCourse) (hold : Hold) (x : ℕ) (v : Value) → Here hold x v → each f (first_alone (signalled hold (used_cell x hold) (value_at hold.env x))) ≡ Gives (used_cell x hold) v (f (sent hold (used_cell x hold)))
  step_sent f hold x v e = ap (λ o. each f (first_alone (signalled hold (used_cell x hold) o))) e ∙ ap (λ t. Gives (used_cell x hold) v t) (after_over (f (sent hold (used_cell x hold))))

  -- the variables that are signalled have values
  abbrev pub AreHere : List Right → Hold → Type 0
  AreHere s hold = (x : ℕ) → are_for s x ≡ true → (v : Value) × Here hold x v

  signal_sure : (Holds : Fork → BranchCourses → Type 0) (f : Hold → BranchCourse) (hold : Hold) (c : ℕ) (o : Option Value) → Sure Holds (f (sent hold c)) → Sure Holds (each f (first_alone (signalled hold c o)))
  signal_sure Holds f hold c None s = tt
  signal_sure Holds f hold c (Some v) s = subst (λ z. Sure Holds z) (sym (after_over (f (sent hold c)))) s

  pub signals_sure : (Holds : Fork → BranchCourses → Type 0) (s : List Right) (hold : Hold) → Sure Holds (sending s hold)
  signals_sure Holds [] hold = tt
  signals_sure Holds (r ∷ s) hold = signal_sure Holds (λ inner. sending s inner) hold (used_cell r.variable hold) (value_at hold.env r.variable) (signals_sure Holds s (sent hold (used_cell r.variable hold)))

  -- What signals do of these variables: each right is used up.
  pub record Sent (s : List Right) (hold : Hold) (g : List Gift) (hold1 : Hold) (g1 : List Gift) : Type 0 where
    pub sends : Sends hold hold1
    pub gave : (x c : ℕ) → are_for s x ≡ true → has c (signs x hold) ≡ true → (v : Value) × ((gift_at c g1 ≡ Some (Some v)) × Here hold x v)
    pub left : (c : ℕ) → ((x : ℕ) → are_for s x ≡ true → has c (signs x hold) ≡ true → ⊥) → gift_at c g1 ≡ gift_at c g
    pub signed : (x : ℕ) → are_for s x ≡ true → signs x hold1 ≡ []
    pub unsigned : (x : ℕ) → are_for s x ≡ false → signs x hold1 ≡ signs x hold
    pub still : ((x : ℕ) → are_for s x ≡ false) → hold1.signals ≡ hold.signals

  -- of each variable as many rights are used as there are
  abbrev pub Counts : List Right → Hold → Type 0
  Counts s hold = (x : ℕ) → are_for s x ≡ true → length (rights_for x s) ≡ length (signs x hold)

  other_cell : (d c : ℕ) (v : Option Value) (g : List Gift) → (d ≡ c → ⊥) → gift_at d (g ++ (record { cell = c; value = v } ∷ [])) ≡ gift_at d g
  other_cell d c v g n = look_same d g (record { cell = c; value = v } ∷ []) (given_other d c v [] n)

  this_cell : (c : ℕ) (v : Option Value) (g : List Gift) → gift_at c g ≡ None → gift_at c (g ++ (record { cell = c; value = v } ∷ [])) ≡ Some v
  this_cell c v g n = look_past c g (record { cell = c; value = v } ∷ []) n ∙ given_here c v []

  pred : (n m : ℕ) → suc n ≡ suc m → n ≡ m
  pred n m e = cc

  -- one signal, and then others
  module _ (r : Right) (s : List Right) (hold : Hold) (names : Names hold) (counts : Counts (r ∷ s) hold) where
    abbrev cell : ℕ
    cell = used_cell r.variable hold

    abbrev one : Hold
    one = sent hold cell

    is_sign : has cell (signs r.variable hold) ≡ true
    is_sign = uses_right r.variable (length (rights_for r.variable s)) hold (sym (ap length (for_first r s)) ∙ counts r.variable (right_first r s))

    -- no other variable has it
    not_other : (x : ℕ) → (r.variable ≡ x → ⊥) → has cell (signs x hold) ≡ false
    not_other x n = absent cell (signs x hold) (λ k. n (names.apart r.variable x cell is_sign k))

    left_of_one : length (rights_for r.variable s) ≡ length (signs r.variable one)
    left_of_one = pred (length (rights_for r.variable s)) (length (signs r.variable one))
        (sym (ap length (for_first r s)) ∙ counts r.variable (right_first r s) ∙ sent_length r.variable cell hold (names.single r.variable) is_sign)

    counts_rest : Counts s one
    counts_rest x h = elim (either_way (r.variable == x)) as (λ _. length (rights_for x s) ≡ length (signs x one)) [
      | inl p ↦ subst (λ y. length (rights_for y s) ≡ length (signs y one)) (equal_is r.variable x p) left_of_one
      | inr p ↦ let n : r.variable ≡ x → ⊥ = λ q. clash (subst (λ y. r.variable == y ≡ true) q (equal_same r.variable)) p in
          ap length (sym (for_other x r s n)) ∙ counts x (right_rest r s x h) ∙ ap length (sym (sent_other x cell hold (not_other x n)))
    ]

    none_left : are_for s r.variable ≡ false → signs r.variable one ≡ []
    none_left h = no_elements (signs r.variable one) (sym left_of_one ∙ ap length (none_for r.variable s h))

    module _ (v : Value) (e : Here hold r.variable v) (g : List Gift) (fresh : gift_at cell g ≡ None) where
      abbrev given : List Gift
      given = g ++ (record { cell = cell; value = Some v } ∷ [])

      rest_fresh : (rights : ℕ → Bool) → ((x c : ℕ) → are_for (r ∷ s) x ≡ true → has c (signs x hold) ≡ true → (rights c ≡ true) × (gift_at c g ≡ None))
          → (x c : ℕ) → are_for s x ≡ true → has c (signs x one) ≡ true → (rights c ≡ true) × (gift_at c given ≡ None)
      rest_fresh rights may x c h k =
          let q = signs_sent x cell c hold k in
          let m = may x c (right_rest r s x h) q.0 in
          (m.0, other_cell c cell (Some v) g q.1 ∙ m.1)

      sent_more : (hold1 : Hold) (g1 : List Gift) → Sent s one given hold1 g1 → Sent (r ∷ s) hold g hold1 g1
      sent_more hold1 g1 p = record {
        sends = sends_both hold one hold1 (sent_sends hold cell) p.sends;
        gave = λ x c h k. gave x c h k (either_way (nat_eq c cell));
        left = λ c n. p.left c (λ x h k. n x (right_rest r s x h) (signs_sent x cell c hold k).0) ∙ other_cell c cell (Some v) g (λ q. n r.variable (right_first r s) (subst (λ z. has z (signs r.variable hold) ≡ true) (sym q) is_sign));
        signed = λ x h. signed x h (either_way (are_for s x));
        unsigned = λ x h. let o = right_other r s x h in p.unsigned x o.1 ∙ sent_other x cell hold (not_other x o.0);
        still = λ k. clash (right_first r s) (k r.variable);
      } where
        gave_here : gift_at cell g1 ≡ Some (Some v)
        gave_here = p.left cell (λ x h k. (signs_sent x cell cell hold k).1 refl) ∙ this_cell cell (Some v) g fresh

        gave_other : (x c : ℕ) → are_for (r ∷ s) x ≡ true → has c (signs x one) ≡ true → (are_for s x ≡ true) ⊎ (are_for s x ≡ false) → (u : Value) × ((gift_at c g1 ≡ Some (Some u)) × Here hold x u)
        gave_other x c h k (inl i) = p.gave x c i k
        gave_other x c h k (inr i) = elim (right_cases r s x h) as (λ _. (u : Value) × ((gift_at c g1 ≡ Some (Some u)) × Here hold x u)) [
          | inl q ↦ absurd (none_in c (signs x one) (ap length (subst (λ y. are_for s y ≡ false → signs y one ≡ []) q none_left i)) k)
          | inr q ↦ clash q i
        ]

        gave : (x c : ℕ) → are_for (r ∷ s) x ≡ true → has c (signs x hold) ≡ true → (nat_eq c cell ≡ true) ⊎ (nat_eq c cell ≡ false) → (u : Value) × ((gift_at c g1 ≡ Some (Some u)) × Here hold x u)
        gave x c h k (inl q) =
            let same = same_number c cell q in
            let x_is = names.apart r.variable x cell is_sign (subst (λ z. has z (signs x hold) ≡ true) same k) in
            (v, (subst (λ z. gift_at z g1 ≡ Some (Some v)) (sym same) gave_here, subst (λ y. Here hold y v) x_is e))
        gave x c h k (inr q) = gave_other x c h (sent_keeps x cell c hold k (λ same. clash (subst (λ z. nat_eq c z ≡ true) same (is_same c)) q)) (either_way (are_for s x))

        signed : (x : ℕ) → are_for (r ∷ s) x ≡ true → (are_for s x ≡ true) ⊎ (are_for s x ≡ false) → signs x hold1 ≡ []
        signed x h (inl i) = p.signed x i
        signed x h (inr i) = elim (right_cases r s x h) as (λ _. signs x hold1 ≡ []) [
          | inl q ↦ p.unsigned x i ∙ subst (λ y. are_for s y ≡ false → signs y one ≡ []) q none_left i
          | inr q ↦ clash q i
        ]

  -- what signals of these variables do
  pub record Signalled (s : List Right) (hold : Hold) : Type 0 where
    pub hold1 : Hold
    pub sends : Sends hold hold1
    pub is_flat : flat (sending s hold) ≡ Answer hold1 Done
    pub still : ((x : ℕ) → are_for s x ≡ false) → hold1.signals ≡ hold.signals
    pub unsigned : (x : ℕ) → are_for s x ≡ false → signs x hold1 ≡ signs x hold

  pub signals_flat : (s : List Right) (hold : Hold) → Names hold → Counts s hold → AreHere s hold → Signalled s hold
  signals_flat [] hold names counts a = record { hold1 = hold; sends = sends_none hold; is_flat = refl; still = λ k. refl; unsigned = λ x h. refl }
  signals_flat (r ∷ s) hold names counts a =
      let v = a r.variable (right_first r s) in
      let one = sent hold (used_cell r.variable hold) in
      let next = signals_flat s one ((sent_sends hold (used_cell r.variable hold)).names names) (counts_rest r s hold names counts) (λ x h. a x (right_rest r s x h)) in
      record {
        hold1 = next.hold1;
        sends = sends_both hold one next.hold1 (sent_sends hold (used_cell r.variable hold)) next.sends;
        is_flat = ap flat (step_sent (λ inner. sending s inner) hold r.variable v.0 v.1) ∙ next.is_flat;
        still = λ k. clash (right_first r s) (k r.variable);
        unsigned = λ x h. let o = right_other r s x h in next.unsigned x o.1 ∙ sent_other x (used_cell r.variable hold) hold (not_other r s hold names counts x o.0);
      }

  -- signals through cells for which the branch has the right
  pub signals_keeps : (proper : ℕ → Value → Type 0) (end : List ℕ → List Gift → Hold → Type 0) (rights : ℕ → Bool) (held : List ℕ) (s : List Right) (hold : Hold) (g : List Gift) → Names hold → AreHere s hold → Counts s hold
      → ((x c : ℕ) (v : Value) → are_for s x ≡ true → has c (signs x hold) ≡ true → Here hold x v → proper c v)
      → ((x c : ℕ) → are_for s x ≡ true → has c (signs x hold) ≡ true → (rights c ≡ true) × (gift_at c g ≡ None))
      → ((hold1 : Hold) (g1 : List Gift) → Sent s hold g hold1 g1 → end held g1 hold1) → Keeps proper end rights held g (sending s hold)
  signals_keeps proper end rights held [] hold g names a counts is_proper may k =
      k hold g (record { sends = sends_none hold; gave = λ x c h i. clash h refl; left = λ c n. refl; signed = λ x h. clash h refl; unsigned = λ x h. refl; still = λ k. refl })
  signals_keeps proper end rights held (r ∷ s) hold g names a counts is_proper may k =
      let v = a r.variable (right_first r s) in
      let c = used_cell r.variable hold in
      let one = sent hold c in
      let m = may r.variable c (right_first r s) (is_sign r s hold names counts) in
      subst (λ z. Keeps proper end rights held g z) (sym (step_sent (λ inner. sending s inner) hold r.variable v.0 v.1)) (
        (is_proper r.variable c v.0 (right_first r s) (is_sign r s hold names counts) v.1, m.0),
        (
          m.1,
          signals_keeps proper end rights held s one (g ++ (record { cell = c; value = Some v.0 } ∷ [])) ((sent_sends hold c).names names) (λ x h. a x (right_rest r s x h)) (counts_rest r s hold names counts)
              (λ x d u h i e. is_proper x d u (right_rest r s x h) (signs_sent x c d hold i).0 e)
              (rest_fresh r s hold names counts v.0 v.1 g m.1 rights may)
              (λ hold1 g1 p. k hold1 g1 (sent_more r s hold names counts v.0 v.1 g m.1 hold1 g1 p)),
        ),
      )
