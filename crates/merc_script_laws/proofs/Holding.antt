-- What a branch has behind one wait and behind one signal.
use Rattle.std.proofs.Common.{◌≡◌, ◌⊎◌, inl, inr, ℕ, zero, suc, Bool, true, false, not, ◌==◌, if◌then◌else◌, List, [], ◌∷◌, length, map, filter, Option, Some, None, refl, ap, sym, subst, ◌∙◌}
use Rattle.merc_order_laws.proofs.Facts.{clash, either_way}
use Rattle.merc_value.specs.Value.{Value}
use Rattle.merc_meaning.specs.Steps.{value_at, with_entry}
use Rattle.merc_program_laws.proofs.Values.{none_not, same_some, at_same, at_other}
use Rattle.merc_core.specs.Rights.{has, without}
use Rattle.merc_core.specs.WellFormed.{AreDistinct}
use Rattle.merc_rights.specs.Rights.{Right, is_sooner}
use Rattle.merc_par_split.specs.Sites.{are_for}
use Rattle.merc_plan.specs.Branch.{HeldWait, HeldSignal, Hold}
use Rattle.merc_plan.specs.Hold.{wait_for, without_wait, sooner, signal_for, without_signal}
use Rattle.merc_plan.specs.Branches.{signal_cell}
use Rattle.merc_plan.proofs.Sets.{absent, front_or, first_in, rest_in, minus_in, minus_keeps, gone_not, only_one, not_one}
use Rattle.merc_script_laws.proofs.Bonds.{Set, Here, Owed, signs, Names, Moves}
use Rattle.merc_script_laws.proofs.RightLists.{equal_is, equal_same, right_only, right_other}
use Rattle.merc_script_laws.proofs.Steps.{always, Waits}

-- Lists of cells without one.

distinct_case : (c x : ℕ) (b : Bool) (xs : List ℕ) → has x xs ≡ false → AreDistinct (without (c ∷ []) xs) → AreDistinct (if b then x ∷ without (c ∷ []) xs else without (c ∷ []) xs)
distinct_case c x true xs h d = (absent x (without (c ∷ []) xs) (λ k. clash (minus_in x (c ∷ []) xs k) h), d)
distinct_case c x false xs h d = d

pub distinct_without : (c : ℕ) (xs : List ℕ) → AreDistinct xs → AreDistinct (without (c ∷ []) xs)
distinct_without c [] d = d
distinct_without c (x ∷ xs) d = distinct_case c x (not (has x (c ∷ []))) xs d.0 (distinct_without c xs d.1)

absent_case : (c x : ℕ) (b : Bool) (xs : List ℕ) → has x (c ∷ []) ≡ b → has c (x ∷ xs) ≡ false → without (c ∷ []) xs ≡ xs → (if not b then x ∷ without (c ∷ []) xs else without (c ∷ []) xs) ≡ x ∷ xs
absent_case c x true xs e h k = clash (subst (λ z. has z (x ∷ xs) ≡ true) (only_one x c e) (first_in x xs)) h
absent_case c x false xs e h k = ap (λ l. x ∷ l) k

pub without_absent : (c : ℕ) (xs : List ℕ) → has c xs ≡ false → without (c ∷ []) xs ≡ xs
without_absent c [] h = refl
without_absent c (x ∷ xs) h = absent_case c x (has x (c ∷ [])) xs refl h (without_absent c xs (absent c xs (λ k. clash (rest_in c x xs k) h)))

length_case : (c x : ℕ) (b : Bool) (xs : List ℕ) → has x (c ∷ []) ≡ b → has x xs ≡ false → has c (x ∷ xs) ≡ true → (has c xs ≡ true → length xs ≡ suc (length (without (c ∷ []) xs)))
    → suc (length xs) ≡ suc (length (if not b then x ∷ without (c ∷ []) xs else without (c ∷ []) xs))
length_case c x true xs e d h k = ap (λ l. suc (length l)) (sym (without_absent c xs (subst (λ z. has z xs ≡ false) (only_one x c e) d)))
length_case c x false xs e d h k = elim (front_or c x xs h) as (λ _. suc (length xs) ≡ suc (suc (length (without (c ∷ []) xs)))) [
  | inl p ↦ clash (subst (λ z. has x (z ∷ []) ≡ true) (sym p) (first_in x [])) e
  | inr p ↦ ap suc (k p)
]

pub without_length : (c : ℕ) (xs : List ℕ) → AreDistinct xs → has c xs ≡ true → length xs ≡ suc (length (without (c ∷ []) xs))
without_length c [] d h = clash h refl
without_length c (x ∷ xs) d h = length_case c x (has x (c ∷ [])) xs refl d.0 h (λ k. without_length c xs d.1 k)

pub none_in : (c : ℕ) (xs : List ℕ) → length xs ≡ zero → has c xs ≡ true → ⊥
none_in c [] e h = clash h refl
none_in c (x ∷ xs) e h = absurd (cc)

pub no_elements : (xs : List ℕ) → length xs ≡ zero → xs ≡ []
no_elements [] e = refl
no_elements (x ∷ xs) e = absurd (cc)

-- Rights to wait.

abbrev pub wait_variables_of : List HeldWait → List ℕ
wait_variables_of ws = map (λ (right : HeldWait). right.variable) ws

abbrev pub wait_cells_of : List HeldWait → List ℕ
wait_cells_of ws = map (λ (right : HeldWait). right.cell) ws

other_case : (x y : ℕ) (a b : Bool) (r : HeldWait) (ws : List HeldWait) → r.variable == x ≡ a → r.variable == y ≡ b → (y ≡ x → ⊥) → wait_for y (without_wait x ws) ≡ wait_for y ws
    → wait_for y (if a then ws else r ∷ without_wait x ws) ≡ (if b then Some r else wait_for y ws)
other_case x y true true r ws p q n k = absurd (n (sym (equal_is r.variable y q) ∙ equal_is r.variable x p))
other_case x y true false r ws p q n k = refl
other_case x y false true r ws p q n k = ap (λ (b : Bool). if b then Some r else wait_for y (without_wait x ws)) q
other_case x y false false r ws p q n k = ap (λ (b : Bool). if b then Some r else wait_for y (without_wait x ws)) q ∙ k

pub wait_other : (x y : ℕ) (ws : List HeldWait) → (y ≡ x → ⊥) → wait_for y (without_wait x ws) ≡ wait_for y ws
wait_other x y [] n = refl
wait_other x y (r ∷ ws) n = other_case x y (r.variable == x) (r.variable == y) r ws refl refl n (wait_other x y ws n)

none_case : (x : ℕ) (b : Bool) (r : HeldWait) (ws : List HeldWait) → r.variable == x ≡ b → has x (wait_variables_of (r ∷ ws)) ≡ false → (has x (wait_variables_of ws) ≡ false → wait_for x ws ≡ None) → (if b then Some r else wait_for x ws) ≡ None
none_case x true r ws e h k = clash (subst (λ z. has z (wait_variables_of (r ∷ ws)) ≡ true) (equal_is r.variable x e) (first_in r.variable (wait_variables_of ws))) h
none_case x false r ws e h k = k (absent x (wait_variables_of ws) (λ j. clash (rest_in x r.variable (wait_variables_of ws) j) h))

pub no_wait : (x : ℕ) (ws : List HeldWait) → has x (wait_variables_of ws) ≡ false → wait_for x ws ≡ None
no_wait x [] h = refl
no_wait x (r ∷ ws) h = none_case x (r.variable == x) r ws refl h (λ k. no_wait x ws k)

gone_case : (x : ℕ) (b : Bool) (r : HeldWait) (ws : List HeldWait) → r.variable == x ≡ b → has r.variable (wait_variables_of ws) ≡ false → wait_for x (without_wait x ws) ≡ None → wait_for x (if b then ws else r ∷ without_wait x ws) ≡ None
gone_case x true r ws e d k = no_wait x ws (subst (λ z. has z (wait_variables_of ws) ≡ false) (equal_is r.variable x e) d)
gone_case x false r ws e d k = ap (λ (b : Bool). if b then Some r else wait_for x (without_wait x ws)) e ∙ k

pub wait_gone : (x : ℕ) (ws : List HeldWait) → AreDistinct (wait_variables_of ws) → wait_for x (without_wait x ws) ≡ None
wait_gone x [] d = refl
wait_gone x (r ∷ ws) d = gone_case x (r.variable == x) r ws refl d.0 (wait_gone x ws d.1)

-- what is listed of the rights that are left was listed before
left_case : (key : HeldWait → ℕ) (x k : ℕ) (b : Bool) (r : HeldWait) (ws : List HeldWait) → (has k (map key (without_wait x ws)) ≡ true → has k (map key ws) ≡ true)
    → has k (map key (if b then ws else r ∷ without_wait x ws)) ≡ true → has k (key r ∷ map key ws) ≡ true
left_case key x k true r ws rec h = rest_in k (key r) (map key ws) h
left_case key x k false r ws rec h = elim (front_or k (key r) (map key (without_wait x ws)) h) as (λ _. has k (key r ∷ map key ws) ≡ true) [
  | inl p ↦ subst (λ z. has z (key r ∷ map key ws) ≡ true) (sym p) (first_in (key r) (map key ws))
  | inr p ↦ rest_in k (key r) (map key ws) (rec p)
]

wait_left : (key : HeldWait → ℕ) (x k : ℕ) (ws : List HeldWait) → has k (map key (without_wait x ws)) ≡ true → has k (map key ws) ≡ true
wait_left key x k [] h = h
wait_left key x k (r ∷ ws) h = left_case key x k (r.variable == x) r ws (λ j. wait_left key x k ws j) h

left_distinct_case : (key : HeldWait → ℕ) (x : ℕ) (b : Bool) (r : HeldWait) (ws : List HeldWait) → has (key r) (map key ws) ≡ false → AreDistinct (map key ws) → AreDistinct (map key (without_wait x ws))
    → AreDistinct (map key (if b then ws else r ∷ without_wait x ws))
left_distinct_case key x true r ws h d k = d
left_distinct_case key x false r ws h d k = (absent (key r) (map key (without_wait x ws)) (λ j. clash (wait_left key x (key r) ws j) h), k)

pub waits_distinct : (key : HeldWait → ℕ) (x : ℕ) (ws : List HeldWait) → AreDistinct (map key ws) → AreDistinct (map key (without_wait x ws))
waits_distinct key x [] d = d
waits_distinct key x (r ∷ ws) d = left_distinct_case key x (r.variable == x) r ws d.0 d.1 (waits_distinct key x ws d.1)

-- one right for each variable
pub owed_same : (hold : Hold) (x c d : ℕ) (o q : Option Value) → Owed hold x c o → Owed hold x d q → (c ≡ d) × (o ≡ q)
owed_same hold x c d o q e f =
    let s = same_some (sym e.found ∙ f.found) in
    (sym e.at ∙ ap (λ (r : HeldWait). r.cell) s ∙ f.at, sym e.gives ∙ ap (λ (r : HeldWait). r.value) s ∙ f.gives)

-- what waits need of what a branch has
pub record Waitable (hold : Hold) : Type 0 where
  pub variables : AreDistinct (wait_variables_of hold.waits)
  pub apart : (x y c : ℕ) (o q : Option Value) → Owed hold x c o → Owed hold y c q → x ≡ y
  pub valueless : (x c : ℕ) (o : Option Value) (v : Value) → Owed hold x c o → Here hold x v → ⊥

pub waitable : (hold : Hold) → Names hold → Waitable hold
waitable hold n = record { variables = n.wait_variables; apart = n.apart_owed; valueless = n.valueless }

-- behind a wait that got this value
abbrev pub taken : Hold → ℕ → Value → Hold
taken hold x v = record { env = with_entry hold.env x (Some v); waits = without_wait x hold.waits; signals = hold.signals; next = hold.next }

module _ (here : Set) (r : Right) (c : ℕ) (v : Value) (hold : Hold) (can : Waitable hold) (e : Owed hold r.variable c (Some v)) where
  taken_gone : (d : ℕ) (o : Option Value) → Owed (taken hold r.variable v) r.variable d o → ⊥
  taken_gone d o f = none_not (sym (wait_gone r.variable hold.waits can.variables) ∙ f.found)

  taken_old : (y d : ℕ) (o : Option Value) → Owed (taken hold r.variable v) y d o → (y ≡ r.variable → ⊥) × Owed hold y d o
  taken_old y d o f =
      let n : y ≡ r.variable → ⊥ = λ p. taken_gone d o (subst (λ z. Owed (taken hold r.variable v) z d o) p f) in
      (n, record { right = f.right; found = sym (wait_other r.variable y hold.waits n) ∙ f.found; at = f.at; gives = f.gives })

  taken_rest : (y d : ℕ) (o : Option Value) → (y ≡ r.variable → ⊥) → Owed hold y d o → Owed (taken hold r.variable v) y d o
  taken_rest y d o n f = record { right = f.right; found = wait_other r.variable y hold.waits n ∙ f.found; at = f.at; gives = f.gives }

  taken_other : (y : ℕ) → (y ≡ r.variable → ⊥) → value_at (taken hold r.variable v).env y ≡ value_at hold.env y
  taken_other y n = at_other hold.env r.variable y v n

  taken_names : Names hold → Names (taken hold r.variable v)
  taken_names n = record {
    low = n.low;
    apart = n.apart;
    low_owed = λ y d o f. n.low_owed y d o (taken_old y d o f).1;
    apart_owed = λ y z d o q f g. n.apart_owed y z d o q (taken_old y d o f).1 (taken_old z d q g).1;
    single = n.single;
    kinds = λ y z d o h f. n.kinds y z d o h (taken_old z d o f).1;
    cells = n.cells;
    wait_cells = waits_distinct (λ (right : HeldWait). right.cell) r.variable hold.waits n.wait_cells;
    wait_variables = waits_distinct (λ (right : HeldWait). right.variable) r.variable hold.waits n.wait_variables;
    valueless = λ y d o u f h. let k = taken_old y d o f in n.valueless y d o u k.1 (sym (taken_other y k.0) ∙ h);
  }

  taken_moves : Moves here (r ∷ []) [] always [] hold (taken hold r.variable v)
  taken_moves = record {
    keep = λ y u i h. taken_other y (λ p. can.valueless r.variable c (Some v) u e (subst (λ z. Here hold z u) p h)) ∙ h;
    fresh = λ y h. clash h refl;
    got = λ y d o h l f. got y d o (right_only r y h) f;
    rest = λ y d o h f. taken_rest y d o (λ p. (right_other r [] y h).0 (sym p)) f;
    old = λ y d o f. (taken_old y d o f).1;
    next = refl;
    names = taken_names;
    signed = λ y d h. h;
    still = λ k. refl;
    unsigned = λ x h. refl;
  } where
    got : (y d : ℕ) (o : Option Value) → r.variable ≡ y → Owed hold y d o → (u : Value) × ((o ≡ Some u) × Here (taken hold r.variable v) y u)
    got y d o p f = (
      v,
      (
        sym (owed_same hold r.variable c d (Some v) o e (subst (λ z. Owed hold z d o) (sym p) f)).1,
        subst (λ z. Here (taken hold r.variable v) z v) p (at_same hold.env r.variable v),
      ),
    )

  pub taken_waits : Waits here (r ∷ []) hold (taken hold r.variable v)
  taken_waits = record {
    moves = taken_moves;
    other = λ y h. taken_other y (λ p. (right_other r [] y h).0 (sym p));
    gone = λ y d o h f. taken_gone d o (subst (λ z. Owed (taken hold r.variable v) z d o) (sym (right_only r y h)) f);
    signals = refl;
    cells = λ d. waits_distinct (λ (right : HeldWait). right.cell) r.variable hold.waits d;
    variables = λ d. waits_distinct (λ (right : HeldWait). right.variable) r.variable hold.waits d;
  }

pub waitable_on : (here : Set) (w : List Right) (hold hold1 : Hold) → Waits here w hold hold1 → Waitable hold → Waitable hold1
waitable_on here w hold hold1 p can = record {
  variables = p.variables can.variables;
  apart = λ x y c o q e f. can.apart x y c o q (p.moves.old x c o e) (p.moves.old y c q f);
  valueless = λ x c o v e h. elim (either_way (are_for w x)) as (λ _. ⊥) [
    | inl k ↦ p.gone x c o k e
    | inr k ↦ can.valueless x c o v (p.moves.old x c o e) (sym (p.other x k) ∙ h)
  ];
}

-- Rights to signal.

abbrev pub signs_of : ℕ → List HeldSignal → List ℕ
signs_of x rights = map (λ (right : HeldSignal). right.cell) (filter (λ (right : HeldSignal). right.variable == x) rights)

abbrev pub cells_in : List HeldSignal → List ℕ
cells_in rights = map (λ (right : HeldSignal). right.cell) rights

-- behind a signal through this cell
abbrev pub sent : Hold → ℕ → Hold
sent hold c = record { env = hold.env; waits = hold.waits; signals = without_signal c hold.signals; next = hold.next }

not_same : (c d : ℕ) → not (d == c) ≡ not (has d (c ∷ []))
not_same c d = elim (either_way (d == c)) as (λ _. not (d == c) ≡ not (has d (c ∷ []))) [
  | inl p ↦ ap not p ∙ sym (ap not (subst (λ z. has d (z ∷ []) ≡ true) (equal_is d c p) (first_in d [])))
  | inr p ↦ ap not p ∙ sym (ap not (not_one d c (λ q. clash (subst (λ z. d == z ≡ true) q (equal_same d)) p)))
]

cells_case : (c : ℕ) (b : Bool) (r : HeldSignal) (rights : List HeldSignal) → not (has r.cell (c ∷ [])) ≡ b → cells_in (without_signal c rights) ≡ without (c ∷ []) (cells_in rights)
    → cells_in (if b then r ∷ without_signal c rights else without_signal c rights) ≡ (if b then r.cell ∷ without (c ∷ []) (cells_in rights) else without (c ∷ []) (cells_in rights))
cells_case c true r rights e k = ap (λ l. r.cell ∷ l) k
cells_case c false r rights e k = k

pub cells_without : (c : ℕ) (rights : List HeldSignal) → cells_in (without_signal c rights) ≡ without (c ∷ []) (cells_in rights)
cells_without c [] = refl
cells_without c (r ∷ rights) =
    ap (λ (b : Bool). cells_in (if b then r ∷ without_signal c rights else without_signal c rights)) (not_same c r.cell)
    ∙ cells_case c (not (has r.cell (c ∷ []))) r rights refl (cells_without c rights)

signs_case : (x c : ℕ) (a b : Bool) (r : HeldSignal) (rights : List HeldSignal) → r.variable == x ≡ a → not (has r.cell (c ∷ [])) ≡ b → signs_of x (without_signal c rights) ≡ without (c ∷ []) (signs_of x rights)
    → signs_of x (if b then r ∷ without_signal c rights else without_signal c rights) ≡ without (c ∷ []) (map (λ (right : HeldSignal). right.cell) (if a then r ∷ filter (λ (right : HeldSignal). right.variable == x) rights else filter (λ (right : HeldSignal). right.variable == x) rights))
signs_case x c true true r rights p q k =
    ap (λ (b : Bool). map (λ (right : HeldSignal). right.cell) (if b then r ∷ filter (λ (right : HeldSignal). right.variable == x) (without_signal c rights) else filter (λ (right : HeldSignal). right.variable == x) (without_signal c rights))) p
    ∙ ap (λ l. r.cell ∷ l) k ∙ sym (ap (λ (b : Bool). if b then r.cell ∷ without (c ∷ []) (signs_of x rights) else without (c ∷ []) (signs_of x rights)) q)
signs_case x c true false r rights p q k = k ∙ sym (ap (λ (b : Bool). if b then r.cell ∷ without (c ∷ []) (signs_of x rights) else without (c ∷ []) (signs_of x rights)) q)
signs_case x c false true r rights p q k =
    ap (λ (b : Bool). map (λ (right : HeldSignal). right.cell) (if b then r ∷ filter (λ (right : HeldSignal). right.variable == x) (without_signal c rights) else filter (λ (right : HeldSignal). right.variable == x) (without_signal c rights))) p
    ∙ k
signs_case x c false false r rights p q k = k

pub signs_without : (x c : ℕ) (rights : List HeldSignal) → signs_of x (without_signal c rights) ≡ without (c ∷ []) (signs_of x rights)
signs_without x c [] = refl
signs_without x c (r ∷ rights) =
    ap (λ (b : Bool). signs_of x (if b then r ∷ without_signal c rights else without_signal c rights)) (not_same c r.cell)
    ∙ signs_case x c (r.variable == x) (not (has r.cell (c ∷ []))) r rights refl refl (signs_without x c rights)

pub signs_sent : (x c d : ℕ) (hold : Hold) → has d (signs x (sent hold c)) ≡ true → (has d (signs x hold) ≡ true) × (d ≡ c → ⊥)
signs_sent x c d hold h =
    let k = subst (λ l. has d l ≡ true) (signs_without x c hold.signals) h in
    (minus_in d (c ∷ []) (signs x hold) k, λ e. gone_not d (c ∷ []) (signs x hold) (subst (λ z. has d (z ∷ []) ≡ true) e (first_in d [])) k)

pub sent_keeps : (x c d : ℕ) (hold : Hold) → has d (signs x hold) ≡ true → (d ≡ c → ⊥) → has d (signs x (sent hold c)) ≡ true
sent_keeps x c d hold h n = subst (λ l. has d l ≡ true) (sym (signs_without x c hold.signals)) (minus_keeps d (c ∷ []) (signs x hold) (not_one d c n) h)

pub sent_other : (x c : ℕ) (hold : Hold) → has c (signs x hold) ≡ false → signs x (sent hold c) ≡ signs x hold
sent_other x c hold h = signs_without x c hold.signals ∙ without_absent c (signs x hold) h

pub sent_length : (x c : ℕ) (hold : Hold) → AreDistinct (signs x hold) → has c (signs x hold) ≡ true → length (signs x hold) ≡ suc (length (signs x (sent hold c)))
sent_length x c hold d h = without_length c (signs x hold) d h ∙ ap (λ l. suc (length l)) (sym (signs_without x c hold.signals))

-- what signals do: their rights are gone
pub record Sends (hold hold1 : Hold) : Type 0 where
  pub env : hold1.env ≡ hold.env
  pub waits : hold1.waits ≡ hold.waits
  pub next : hold1.next ≡ hold.next
  pub names : Names hold → Names hold1
  pub signed : (x c : ℕ) → has c (signs x hold1) ≡ true → has c (signs x hold) ≡ true

pub sends_none : (hold : Hold) → Sends hold hold
sends_none hold = record { env = refl; waits = refl; next = refl; names = λ n. n; signed = λ x c h. h }

pub sends_both : (hold hold1 hold2 : Hold) → Sends hold hold1 → Sends hold1 hold2 → Sends hold hold2
sends_both hold hold1 hold2 p q = record { env = q.env ∙ p.env; waits = q.waits ∙ p.waits; next = q.next ∙ p.next; names = λ n. q.names (p.names n); signed = λ x c h. p.signed x c (q.signed x c h) }

pub sent_sends : (hold : Hold) (c : ℕ) → Sends hold (sent hold c)
sent_sends hold c = record {
  env = refl;
  waits = refl;
  next = refl;
  names = λ n. record {
    low = λ x d h. n.low x d (signs_sent x c d hold h).0;
    apart = λ x y d h k. n.apart x y d (signs_sent x c d hold h).0 (signs_sent y c d hold k).0;
    low_owed = λ x d o e. n.low_owed x d o (owed x d o e);
    apart_owed = λ x y d o q e f. n.apart_owed x y d o q (owed x d o e) (owed y d q f);
    single = λ x. subst (λ l. AreDistinct l) (sym (signs_without x c hold.signals)) (distinct_without c (signs x hold) (n.single x));
    kinds = λ x y d o h e. n.kinds x y d o (signs_sent x c d hold h).0 (owed y d o e);
    cells = subst (λ l. AreDistinct l) (sym (cells_without c hold.signals)) (distinct_without c (cells_in hold.signals) n.cells);
    wait_cells = n.wait_cells;
    wait_variables = n.wait_variables;
    valueless = λ x d o v e h. n.valueless x d o v (owed x d o e) h;
  };
  signed = λ x d h. (signs_sent x c d hold h).0;
} where
  owed : (x d : ℕ) (o : Option Value) → Owed (sent hold c) x d o → Owed hold x d o
  owed x d o e = record { right = e.right; found = e.found; at = e.at; gives = e.gives }

pub moves_sent : (here : Set) (w s s1 : List Right) (later : ℕ → Bool) (outs : List ℕ) (hold hold1 hold2 : Hold)
    → (((x : ℕ) → are_for s x ≡ false) → ((x : ℕ) → are_for s1 x ≡ false) × (hold2.signals ≡ hold1.signals)) → ((x : ℕ) → are_for s x ≡ false → (are_for s1 x ≡ false) × (signs x hold2 ≡ signs x hold1)) → Moves here w s1 later outs hold hold1 → Sends hold1 hold2
    → Moves here w s later outs hold hold2
moves_sent here w s s1 later outs hold hold1 hold2 none others m p = record {
  keep = λ x v i h. at x v (m.keep x v i h);
  fresh = λ x h. let g = m.fresh x h in (g.0, at x g.0 g.1);
  got = λ x c o h l e. let g = m.got x c o h l e in (g.0, (g.1.0, at x g.0 g.1.1));
  rest = λ x c o h e. let f = m.rest x c o h e in record { right = f.right; found = ap (wait_for x) p.waits ∙ f.found; at = f.at; gives = f.gives };
  old = λ x c o e. m.old x c o (record { right = e.right; found = sym (ap (wait_for x) p.waits) ∙ e.found; at = e.at; gives = e.gives });
  next = p.next ∙ m.next;
  names = λ n. p.names (m.names n);
  signed = λ x c h. m.signed x c (p.signed x c h);
  still = λ k. (none k).1 ∙ m.still (none k).0;
  unsigned = λ x h. (others x h).1 ∙ m.unsigned x (others x h).0;
} where
  at : (x : ℕ) (v : Value) → Here hold1 x v → Here hold2 x v
  at x v h = ap (λ n. value_at n x) p.env ∙ h

-- a right that is there is found
abbrev Found : ℕ → List HeldSignal → Type 0
Found x rights = (right : HeldSignal) × ((signal_for x rights ≡ Some right) × (has right.cell (signs_of x rights) ≡ true))

sooner_case : (x : ℕ) (r other : HeldSignal) (rights : List HeldSignal) (b : Bool) → is_sooner other.conjunct r.conjunct ≡ b → has other.cell (signs_of x rights) ≡ true
    → has (if b then other else r).cell (r.cell ∷ signs_of x rights) ≡ true
sooner_case x r other rights true e h = rest_in other.cell r.cell (signs_of x rights) h
sooner_case x r other rights false e h = first_in r.cell (signs_of x rights)

found_sooner : (x : ℕ) (r : HeldSignal) (rights : List HeldSignal) → (signal_for x rights ≡ None) ⊎ Found x rights → has (sooner r (signal_for x rights)).cell (r.cell ∷ signs_of x rights) ≡ true
found_sooner x r rights (inl e) = subst (λ (o : Option HeldSignal). has (sooner r o).cell (r.cell ∷ signs_of x rights) ≡ true) (sym e) (first_in r.cell (signs_of x rights))
found_sooner x r rights (inr f) =
    subst (λ (o : Option HeldSignal). has (sooner r o).cell (r.cell ∷ signs_of x rights) ≡ true) (sym f.1.0) (sooner_case x r f.0 rights (is_sooner f.0.conjunct r.conjunct) refl f.1.1)

found_case : (x : ℕ) (b : Bool) (r : HeldSignal) (rights : List HeldSignal) → r.variable == x ≡ b → ((signal_for x rights ≡ None) × (signs_of x rights ≡ [])) ⊎ Found x rights
    → ((signal_for x (r ∷ rights) ≡ None) × (signs_of x (r ∷ rights) ≡ [])) ⊎ Found x (r ∷ rights)
found_case x true r rights e k = inr (
  sooner r (signal_for x rights),
  (
    ap (λ (b : Bool). if b then Some (sooner r (signal_for x rights)) else signal_for x rights) e,
    subst (λ l. has (sooner r (signal_for x rights)).cell l ≡ true) (sym (ap (λ (b : Bool). map (λ (right : HeldSignal). right.cell) (if b then r ∷ filter (λ (right : HeldSignal). right.variable == x) rights else filter (λ (right : HeldSignal). right.variable == x) rights)) e)) (found_sooner x r rights (less k)),
  ),
) where
  less : ((signal_for x rights ≡ None) × (signs_of x rights ≡ [])) ⊎ Found x rights → (signal_for x rights ≡ None) ⊎ Found x rights
  less (inl p) = inl p.0
  less (inr p) = inr p
found_case x false r rights e k = on k where
  same_signal : signal_for x (r ∷ rights) ≡ signal_for x rights
  same_signal = ap (λ (b : Bool). if b then Some (sooner r (signal_for x rights)) else signal_for x rights) e

  same_signs : signs_of x (r ∷ rights) ≡ signs_of x rights
  same_signs = ap (λ (b : Bool). map (λ (right : HeldSignal). right.cell) (if b then r ∷ filter (λ (right : HeldSignal). right.variable == x) rights else filter (λ (right : HeldSignal). right.variable == x) rights)) e

  on : ((signal_for x rights ≡ None) × (signs_of x rights ≡ [])) ⊎ Found x rights → ((signal_for x (r ∷ rights) ≡ None) × (signs_of x (r ∷ rights) ≡ [])) ⊎ Found x (r ∷ rights)
  on (inl p) = inl (same_signal ∙ p.0, same_signs ∙ p.1)
  on (inr p) = inr (p.0, (same_signal ∙ p.1.0, subst (λ l. has p.0.cell l ≡ true) (sym same_signs) p.1.1))

found : (x : ℕ) (rights : List HeldSignal) → ((signal_for x rights ≡ None) × (signs_of x rights ≡ [])) ⊎ Found x rights
found x [] = inl (refl, refl)
found x (r ∷ rights) = found_case x (r.variable == x) r rights refl (found x rights)

-- the cell of the right that is used
abbrev pub used_cell : ℕ → Hold → ℕ
used_cell x hold = signal_cell (signal_for x hold.signals)

pub uses_right : (x n : ℕ) (hold : Hold) → suc n ≡ length (signs x hold) → has (used_cell x hold) (signs x hold) ≡ true
uses_right x n hold e = on (found x hold.signals) where
  on : ((signal_for x hold.signals ≡ None) × (signs_of x hold.signals ≡ [])) ⊎ Found x hold.signals → has (used_cell x hold) (signs x hold) ≡ true
  on (inl p) = absurd (none (e ∙ ap length p.1)) where
    none : suc n ≡ zero → ⊥
    none h = absurd (cc)
  on (inr p) = subst (λ (o : Option HeldSignal). has (signal_cell o) (signs x hold) ≡ true) (sym p.1.0) p.1.1
