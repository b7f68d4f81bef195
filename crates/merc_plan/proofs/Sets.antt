-- Lists of numbers as sets, and gifts.
use Rattle.std.proofs.Common.{◌≡◌, ℕ, ◌⊎◌, inl, inr, Bool, true, false, if◌then◌else◌, List, [], ◌∷◌, ◌++◌, map, filter, refl, ap, sym, subst, ◌∙◌, arith}
use Rattle.std.specs.Prelude.{nat_eq, ⊤, Option, Some, None, ◌||◌, ◌&&◌, not}
use Rattle.std.specs.List.{AllByRecursion}
use Rattle.std.proofs.lemmas.Bool.Decides.{nat_tests}
use Rattle.merc_value.specs.Value.{Value}
use Rattle.merc_script.specs.declared.cells.Move.{Move}
use Rattle.merc_core.specs.Rights.{has, without, is_kind, moved, moved_to}
use Rattle.merc_plan.specs.Branch.{Gift, gift_at, gifts_through, value_given}
use Rattle.merc_plan.specs.BranchScript.{those_of}

pub clash : {A : Type 0} (b : Bool) → b ≡ true → b ≡ false → A
clash b p q = absurd (cc)

pub same_number : (c x : ℕ) → nat_eq c x ≡ true → c ≡ x
same_number c x h = grind (arith, nat_tests, h)

pub is_same : (x : ℕ) → nat_eq x x ≡ true
is_same x = grind (arith, nat_tests)

pub turned : (c x : ℕ) → nat_eq c x ≡ true → nat_eq x c ≡ true
turned c x h = grind (arith, nat_tests, h)

pub tell : (b : Bool) → (b ≡ true) ⊎ (b ≡ false)
tell true = inl refl
tell false = inr refl

pub or_either : (a b : Bool) → (a || b) ≡ true → (a ≡ true) ⊎ (b ≡ true)
or_either true b h = inl refl
or_either false b h = inr h

pub or_left : (a b : Bool) → a ≡ true → (a || b) ≡ true
or_left true b h = refl
or_left false b h = absurd (cc)

pub or_right : (a b : Bool) → b ≡ true → (a || b) ≡ true
or_right true b h = refl
or_right false b h = h

pub and_both : (a b : Bool) → (a && b) ≡ true → (a ≡ true) × (b ≡ true)
and_both true b h = (refl, h)
and_both false b h = absurd (cc)

pub both_and : (a b : Bool) → a ≡ true → b ≡ true → (a && b) ≡ true
both_and true b h k = k
both_and false b h k = absurd (cc)

pub not_true : (b : Bool) → not b ≡ true → b ≡ false
not_true true h = absurd (cc)
not_true false h = refl

pub true_not : (b : Bool) → b ≡ false → not b ≡ true
true_not true h = absurd (cc)
true_not false h = refl

-- a list's first number, and the others
pub first_in : (c : ℕ) (xs : List ℕ) → has c (c ∷ xs) ≡ true
first_in c xs = or_left (nat_eq c c) (has c xs) (is_same c)

pub rest_in : (c x : ℕ) (xs : List ℕ) → has c xs ≡ true → has c (x ∷ xs) ≡ true
rest_in c x xs h = or_right (nat_eq x c) (has c xs) h

pub front_or : (c x : ℕ) (xs : List ℕ) → has c (x ∷ xs) ≡ true → (c ≡ x) ⊎ (has c xs ≡ true)
front_or c x xs h = on (or_either (nat_eq x c) (has c xs) h)
  where
    on : (nat_eq x c ≡ true) ⊎ (has c xs ≡ true) → (c ≡ x) ⊎ (has c xs ≡ true)
    on (inl e) = inl (sym (same_number x c e))
    on (inr e) = inr e

-- what is the first number or among the others is in the list
pub or_in : (c x : ℕ) (xs : List ℕ) → (c ≡ x) ⊎ (has c xs ≡ true) → has c (x ∷ xs) ≡ true
or_in c x xs (inl e) = subst (λ z. has c (z ∷ xs) ≡ true) e (first_in c xs)
or_in c x xs (inr e) = rest_in c x xs e

pub absent : (c : ℕ) (xs : List ℕ) → (has c xs ≡ true → ⊥) → has c xs ≡ false
absent c xs h = on (tell (has c xs))
  where
    on : (has c xs ≡ true) ⊎ (has c xs ≡ false) → has c xs ≡ false
    on (inl e) = absurd (h e)
    on (inr e) = e

pub only_one : (c x : ℕ) → has c (x ∷ []) ≡ true → c ≡ x
only_one c x h = on (front_or c x [] h)
  where
    on : (c ≡ x) ⊎ (false ≡ true) → c ≡ x
    on (inl e) = e
    on (inr e) = absurd (cc)

pub not_one : (c x : ℕ) → (c ≡ x → ⊥) → has c (x ∷ []) ≡ false
not_one c x h = absent c (x ∷ []) (λ e. h (only_one c x e))

pub in_left : (c : ℕ) (xs ys : List ℕ) → has c xs ≡ true → has c (xs ++ ys) ≡ true
in_left c [] ys h = absurd (cc)
in_left c (x ∷ xs) ys h = on (front_or c x xs h) (λ k. in_left c xs ys k)
  where
    on : (c ≡ x) ⊎ (has c xs ≡ true) → (has c xs ≡ true → has c (xs ++ ys) ≡ true) → has c (x ∷ (xs ++ ys)) ≡ true
    on (inl e) rec = or_in c x (xs ++ ys) (inl e)
    on (inr e) rec = rest_in c x (xs ++ ys) (rec e)

pub in_right : (c : ℕ) (xs ys : List ℕ) → has c ys ≡ true → has c (xs ++ ys) ≡ true
in_right c [] ys h = h
in_right c (x ∷ xs) ys h = rest_in c x (xs ++ ys) (in_right c xs ys h)

pub in_either : (c : ℕ) (xs ys : List ℕ) → has c (xs ++ ys) ≡ true → (has c xs ≡ true) ⊎ (has c ys ≡ true)
in_either c [] ys h = inr h
in_either c (x ∷ xs) ys h = on (front_or c x (xs ++ ys) h) (λ k. in_either c xs ys k)
  where
    more : (has c xs ≡ true) ⊎ (has c ys ≡ true) → (has c (x ∷ xs) ≡ true) ⊎ (has c ys ≡ true)
    more (inl e) = inl (rest_in c x xs e)
    more (inr e) = inr e

    on : (c ≡ x) ⊎ (has c (xs ++ ys) ≡ true) → (has c (xs ++ ys) ≡ true → (has c xs ≡ true) ⊎ (has c ys ≡ true)) → (has c (x ∷ xs) ≡ true) ⊎ (has c ys ≡ true)
    on (inl e) rec = inl (or_in c x xs (inl e))
    on (inr e) rec = more (rec e)

-- those of a list that are so
only_in_on : (p : ℕ → Bool) (b : Bool) (x y : ℕ) (xs : List ℕ) → p y ≡ b → has x (if b then y ∷ filter p xs else filter p xs) ≡ true
    → (has x (filter p xs) ≡ true → (has x xs ≡ true) × (p x ≡ true)) → (has x (y ∷ xs) ≡ true) × (p x ≡ true)
only_in_on p true x y xs e h k = on (front_or x y (filter p xs) h)
  where
    on : (x ≡ y) ⊎ (has x (filter p xs) ≡ true) → (has x (y ∷ xs) ≡ true) × (p x ≡ true)
    on (inl q) = (or_in x y xs (inl q), ap p q ∙ e)
    on (inr q) = (rest_in x y xs (k q).0, (k q).1)
only_in_on p false x y xs e h k = (rest_in x y xs (k h).0, (k h).1)

pub only_in : (p : ℕ → Bool) (x : ℕ) (xs : List ℕ) → has x (filter p xs) ≡ true → (has x xs ≡ true) × (p x ≡ true)
only_in p x [] h = absurd (cc)
only_in p x (y ∷ xs) h = only_in_on p (p y) x y xs refl h (λ k. only_in p x xs k)

in_only_on : (p : ℕ → Bool) (b : Bool) (x y : ℕ) (xs : List ℕ) → p y ≡ b → (x ≡ y) ⊎ (has x xs ≡ true) → p x ≡ true → (has x xs ≡ true → has x (filter p xs) ≡ true)
    → has x (if b then y ∷ filter p xs else filter p xs) ≡ true
in_only_on p true x y xs e (inl q) h k = or_in x y (filter p xs) (inl q)
in_only_on p true x y xs e (inr q) h k = rest_in x y (filter p xs) (k q)
in_only_on p false x y xs e (inl q) h k = clash (p y) (sym (ap p q) ∙ h) e
in_only_on p false x y xs e (inr q) h k = k q

pub in_only : (p : ℕ → Bool) (x : ℕ) (xs : List ℕ) → has x xs ≡ true → p x ≡ true → has x (filter p xs) ≡ true
in_only p x [] h k = absurd (cc)
in_only p x (y ∷ xs) h k = in_only_on p (p y) x y xs refl (front_or x y xs h) k (λ q. in_only p x xs q k)

-- what is left is among what was; what is not left is gone
pub minus_in : (c : ℕ) (gone xs : List ℕ) → has c (without gone xs) ≡ true → has c xs ≡ true
minus_in c gone xs h = (only_in (λ one. not (has one gone)) c xs h).0

pub gone_not : (c : ℕ) (gone xs : List ℕ) → has c gone ≡ true → has c (without gone xs) ≡ true → ⊥
gone_not c gone xs h k = clash (has c gone) h (not_true (has c gone) (only_in (λ one. not (has one gone)) c xs k).1)

pub minus_keeps : (c : ℕ) (gone xs : List ℕ) → has c gone ≡ false → has c xs ≡ true → has c (without gone xs) ≡ true
minus_keeps c gone xs n h = in_only (λ one. not (has one gone)) c xs h (true_not (has c gone) n)

pub minus_out : (c : ℕ) (gone xs : List ℕ) → has c xs ≡ true → (has c gone ≡ true) ⊎ (has c (without gone xs) ≡ true)
minus_out c gone xs h = on (tell (has c gone))
  where
    on : (has c gone ≡ true) ⊎ (has c gone ≡ false) → (has c gone ≡ true) ⊎ (has c (without gone xs) ≡ true)
    on (inl e) = inl e
    on (inr e) = inr (minus_keeps c gone xs e h)

-- more stays of more
pub minus_more : (gone xs ys : List ℕ) → ((d : ℕ) → has d xs ≡ true → has d ys ≡ true) → (d : ℕ) → has d (without gone xs) ≡ true → has d (without gone ys) ≡ true
minus_more gone xs ys s d h = minus_keeps d gone ys (absent d gone (λ e. gone_not d gone xs e h)) (s d (minus_in d gone xs h))

pub append_more : (zs xs ys : List ℕ) → ((d : ℕ) → has d xs ≡ true → has d ys ≡ true) → (d : ℕ) → has d (zs ++ xs) ≡ true → has d (zs ++ ys) ≡ true
append_more zs xs ys s d h = on (in_either d zs xs h)
  where
    on : (has d zs ≡ true) ⊎ (has d xs ≡ true) → has d (zs ++ ys) ≡ true
    on (inl e) = in_left d zs ys e
    on (inr e) = in_right d zs ys (s d e)

-- those of a list that are in another
in_common_on : (b : Bool) (c x : ℕ) (xs ys : List ℕ) → has x ys ≡ b → (c ≡ x) ⊎ (has c xs ≡ true) → has c ys ≡ true → (has c xs ≡ true → has c (those_of ys xs) ≡ true)
    → has c (if b then x ∷ those_of ys xs else those_of ys xs) ≡ true
in_common_on true c x xs ys e (inl i) h rec = or_in c x (those_of ys xs) (inl i)
in_common_on true c x xs ys e (inr i) h rec = rest_in c x (those_of ys xs) (rec i)
in_common_on false c x xs ys e (inl i) h rec = clash (has x ys) (subst (λ z. has z ys ≡ true) i h) e
in_common_on false c x xs ys e (inr i) h rec = rec i

pub in_common : (c : ℕ) (xs ys : List ℕ) → has c xs ≡ true → has c ys ≡ true → has c (those_of ys xs) ≡ true
in_common c [] ys h k = absurd (cc)
in_common c (x ∷ xs) ys h k = in_common_on (has x ys) c x xs ys refl (front_or c x xs h) k (λ i. in_common c xs ys i k)

common_in_on : (b : Bool) (c x : ℕ) (xs ys : List ℕ) → has x ys ≡ b → has c (if b then x ∷ those_of ys xs else those_of ys xs) ≡ true
    → (has c (those_of ys xs) ≡ true → (has c xs ≡ true) × (has c ys ≡ true)) → (has c (x ∷ xs) ≡ true) × (has c ys ≡ true)
common_in_on true c x xs ys e h rec = on (front_or c x (those_of ys xs) h)
  where
    on : (c ≡ x) ⊎ (has c (those_of ys xs) ≡ true) → (has c (x ∷ xs) ≡ true) × (has c ys ≡ true)
    on (inl i) = (or_in c x xs (inl i), subst (λ z. has z ys ≡ true) (sym i) e)
    on (inr i) = (rest_in c x xs (rec i).0, (rec i).1)
common_in_on false c x xs ys e h rec = (rest_in c x xs (rec h).0, (rec h).1)

pub common_in : (c : ℕ) (xs ys : List ℕ) → has c (those_of ys xs) ≡ true → (has c xs ≡ true) × (has c ys ≡ true)
common_in c [] ys h = absurd (cc)
common_in c (x ∷ xs) ys h = common_in_on (has x ys) c x xs ys refl h (λ i. common_in c xs ys i)

-- gifts in order
look_on : (b : Bool) (c : ℕ) (g : Gift) (gs hs : List Gift) → (gift_at c gs ≡ None → gift_at c (gs ++ hs) ≡ gift_at c hs) → (if b then Some g.value else gift_at c gs) ≡ None
    → (if b then Some g.value else gift_at c (gs ++ hs)) ≡ gift_at c hs
look_on true c g gs hs k h = absurd (cc)
look_on false c g gs hs k h = k h

pub look_past : (c : ℕ) (gs hs : List Gift) → gift_at c gs ≡ None → gift_at c (gs ++ hs) ≡ gift_at c hs
look_past c [] hs h = refl
look_past c (g ∷ gs) hs h = look_on (nat_eq c g.cell) c g gs hs (λ k. look_past c gs hs k) h

look_before_on : (b : Bool) (v : Option Value) (g : Gift) (p q : Option (Option Value)) → (p ≡ Some v → q ≡ Some v) → (if b then Some g.value else p) ≡ Some v
    → (if b then Some g.value else q) ≡ Some v
look_before_on true v g p q k h = h
look_before_on false v g p q k h = k h

pub look_before : (c : ℕ) (v : Option Value) (gs hs : List Gift) → gift_at c gs ≡ Some v → gift_at c (gs ++ hs) ≡ Some v
look_before c v [] hs h = absurd (cc)
look_before c v (g ∷ gs) hs h = look_before_on (nat_eq c g.cell) v g (gift_at c gs) (gift_at c (gs ++ hs)) (λ k. look_before c v gs hs k) h

-- where the second gives nothing of it, nothing changes
look_same_on : (b : Bool) (g : Gift) (p q : Option (Option Value)) → p ≡ q → (if b then Some g.value else p) ≡ (if b then Some g.value else q)
look_same_on true g p q h = refl
look_same_on false g p q h = h

pub look_same : (c : ℕ) (gs hs : List Gift) → gift_at c hs ≡ None → gift_at c (gs ++ hs) ≡ gift_at c gs
look_same c [] hs h = h
look_same c (g ∷ gs) hs h = look_same_on (nat_eq c g.cell) g (gift_at c (gs ++ hs)) (gift_at c gs) (look_same c gs hs h)

pub some_now : (v : Option Value) (o : Option (Option Value)) → o ≡ Some v → o ≡ None → ⊥
some_now v o e n = absurd (cc)

pub look_none : (c : ℕ) (g h : List Gift) → gift_at c (g ++ h) ≡ None → gift_at c g ≡ None
look_none c g h n = on (gift_at c g) refl
  where
    on : (o : Option (Option Value)) → gift_at c g ≡ o → gift_at c g ≡ None
    on None e = e
    on (Some v) e = absurd (some_now v (gift_at c (g ++ h)) (look_before c v g h e) n)

-- one gift
one_given : (b : Bool) (c d : ℕ) (v : Option Value) → nat_eq c d ≡ b → gift_at c (record { cell = d; value = v } ∷ []) ≡ (if b then Some v else None)
one_given b c d v e = ap (λ (z : Bool). if z then Some v else None) e

pub given_here : (c : ℕ) (v : Option Value) (gs : List Gift) → gift_at c (record { cell = c; value = v } ∷ gs) ≡ Some v
given_here c v gs = ap (λ (z : Bool). if z then Some v else gift_at c gs) (is_same c)

pub given_other : (c d : ℕ) (v : Option Value) (gs : List Gift) → (c ≡ d → ⊥) → gift_at c (record { cell = d; value = v } ∷ gs) ≡ gift_at c gs
given_other c d v gs n = on (nat_eq c d) refl
  where
    on : (b : Bool) → nat_eq c d ≡ b → (if b then Some v else gift_at c gs) ≡ gift_at c gs
    on true e = absurd (n (same_number c d e))
    on false e = refl

-- what is given through cells
gifts_out_on : (b : Bool) (c d : ℕ) (v : Option Value) (p : Option (Option Value)) → nat_eq c d ≡ b → (c ≡ d → ⊥) → p ≡ None → (if b then Some v else p) ≡ None
gifts_out_on true c d v p e n h = absurd (n (same_number c d e))
gifts_out_on false c d v p e n h = h

pub gifts_out : (c : ℕ) (cs : List ℕ) (gs : List Gift) → (has c cs ≡ true → ⊥) → gift_at c (gifts_through cs gs) ≡ None
gifts_out c [] gs n = refl
gifts_out c (d ∷ cs) gs n =
    gifts_out_on (nat_eq c d) c d (value_given (gift_at d gs)) (gift_at c (gifts_through cs gs)) refl (λ e. n (or_in c d cs (inl e))) (gifts_out c cs gs (λ h. n (rest_in c d cs h)))

gifts_in_on : (b : Bool) (c d : ℕ) (cs : List ℕ) (gs : List Gift) → nat_eq c d ≡ b → (c ≡ d) ⊎ (has c cs ≡ true)
    → (has c cs ≡ true → gift_at c (gifts_through cs gs) ≡ Some (value_given (gift_at c gs)))
    → (if b then Some (value_given (gift_at d gs)) else gift_at c (gifts_through cs gs)) ≡ Some (value_given (gift_at c gs))
gifts_in_on true c d cs gs e h k = ap (λ z. Some (value_given (gift_at z gs))) (sym (same_number c d e))
gifts_in_on false c d cs gs e (inl q) k = clash (nat_eq c d) (subst (λ z. nat_eq c z ≡ true) q (is_same c)) e
gifts_in_on false c d cs gs e (inr q) k = k q

pub gifts_in : (c : ℕ) (cs : List ℕ) (gs : List Gift) → has c cs ≡ true → gift_at c (gifts_through cs gs) ≡ Some (value_given (gift_at c gs))
gifts_in c [] gs h = absurd (cc)
gifts_in c (d ∷ cs) gs h = gifts_in_on (nat_eq c d) c d cs gs refl (front_or c d cs h) (λ q. gifts_in c cs gs q)

pub append_all : (gs hs ks : List Gift) → (gs ++ hs) ++ ks ≡ gs ++ (hs ++ ks)
append_all [] hs ks = refl
append_all (g ∷ gs) hs ks = ap (λ x. g ∷ x) (append_all gs hs ks)

pub append_none : (gs : List Gift) → gs ++ [] ≡ gs
append_none [] = refl
append_none (g ∷ gs) = ap (λ x. g ∷ x) (append_none gs)

-- What passes a test is an element, which is found by each test that it passes.
pub record Picked (A : Type 0) (cell : A → ℕ) (test : A → Bool) (P : A → Type 0) (c : ℕ) (xs : List A) : Type 0 where
  pub one : A
  pub fact : P one
  pub is : cell one ≡ c
  pub passes : test one ≡ true
  pub found : (other : A → Bool) → other one ≡ true → has c (map cell (filter other xs)) ≡ true
  pub listed : has c (map cell xs) ≡ true

later_found : {A : Type 0} (cell : A → ℕ) (b : Bool) (c : ℕ) (x : A) (ys : List A) → has c (map cell ys) ≡ true → has c (map cell (if b then x ∷ ys else ys)) ≡ true
later_found cell true c x ys h = rest_in c (cell x) (map cell ys) h
later_found cell false c x ys h = h

here_found : {A : Type 0} (cell : A → ℕ) (b : Bool) (c : ℕ) (x : A) (ys : List A) → c ≡ cell x → b ≡ true → has c (map cell (if b then x ∷ ys else ys)) ≡ true
here_found cell true c x ys e h = or_in c (cell x) (map cell ys) (inl e)
here_found cell false c x ys e h = absurd (cc)

pick_on : {A : Type 0} (cell : A → ℕ) (test : A → Bool) (P : A → Type 0) (c : ℕ) (x : A) (xs : List A) (b : Bool) → test x ≡ b → P x
    → has c (map cell (if b then x ∷ filter test xs else filter test xs)) ≡ true → (has c (map cell (filter test xs)) ≡ true → Picked A cell test P c xs) → Picked A cell test P c (x ∷ xs)
pick_on {A} cell test P c x xs b e p h rec = on b e h
  where
    further : Picked A cell test P c xs → Picked A cell test P c (x ∷ xs)
    further k = record {
      one = k.one;
      fact = k.fact;
      is = k.is;
      passes = k.passes;
      found = λ other q. later_found cell (other x) c x (filter other xs) (k.found other q);
      listed = rest_in c (cell x) (map cell xs) k.listed;
    }

    front : test x ≡ true → (c ≡ cell x) ⊎ (has c (map cell (filter test xs)) ≡ true) → Picked A cell test P c (x ∷ xs)
    front t (inl q) = record {
      one = x;
      fact = p;
      is = sym q;
      passes = t;
      found = λ other r. here_found cell (other x) c x (filter other xs) q r;
      listed = or_in c (cell x) (map cell xs) (inl q);
    }
    front t (inr q) = further (rec q)

    on : (b : Bool) → test x ≡ b → has c (map cell (if b then x ∷ filter test xs else filter test xs)) ≡ true → Picked A cell test P c (x ∷ xs)
    on true t q = front t (front_or c (cell x) (map cell (filter test xs)) q)
    on false t q = further (rec q)

pub picked : {A : Type 0} (cell : A → ℕ) (test : A → Bool) (P : A → Type 0) (c : ℕ) (xs : List A) → AllByRecursion P xs → has c (map cell (filter test xs)) ≡ true → Picked A cell test P c xs
picked cell test P c [] all h = absurd (cc)
picked cell test P c (x ∷ xs) all h = pick_on cell test P c x xs (test x) refl all.0 h (λ k. picked cell test P c xs all.1 k)

pub all_pass : {A : Type 0} (xs : List A) → filter (λ x. true) xs ≡ xs
all_pass [] = refl
all_pass (x ∷ xs) = ap (λ l. x ∷ l) (all_pass xs)

pub listed : {A : Type 0} (cell : A → ℕ) (P : A → Type 0) (c : ℕ) (xs : List A) → AllByRecursion P xs → has c (map cell xs) ≡ true → Picked A cell (λ x. true) P c xs
listed cell P c xs all h = picked cell (λ x. true) P c xs all (subst (λ l. has c (map cell l) ≡ true) (sym (all_pass xs)) h)

pub each_true : {A : Type 0} (xs : List A) → AllByRecursion (λ x. ⊤) xs
each_true [] = tt
each_true (x ∷ xs) = (tt, each_true xs)

pub each_more : {A : Type 0} (P Q : A → Type 0) → ((x : A) → P x → Q x) → (xs : List A) → AllByRecursion P xs → AllByRecursion Q xs
each_more P Q s [] h = tt
each_more P Q s (x ∷ xs) h = (s x h.0, each_more P Q s xs h.1)

pub each_both : {A : Type 0} (P Q : A → Type 0) (xs : List A) → AllByRecursion P xs → AllByRecursion Q xs → AllByRecursion (λ x. P x × Q x) xs
each_both P Q [] p q = tt
each_both P Q (x ∷ xs) p q = ((p.0, q.0), each_both P Q xs p.1 q.1)

-- moves by kind
pub kind_is : (b : Bool) (m : Move) → is_kind b m ≡ true → m.signal ≡ b
kind_is true m h = h
kind_is false m h = not_true m.signal h

pub is_of_kind : (b : Bool) (m : Move) → m.signal ≡ b → is_kind b m ≡ true
is_of_kind true m h = h
is_of_kind false m h = true_not m.signal h

pub each_move_more : (P Q : Move → Type 0) → ((m : Move) → P m → Q m) → (ms : List Move) → AllByRecursion P ms → AllByRecursion Q ms
each_move_more P Q s ms h = each_more P Q s ms h

pub moved_move : (P : Move → Type 0) (b : Bool) (c : ℕ) (ms : List Move) → AllByRecursion P ms → has c (moved b ms) ≡ true → (m : Move) × (P m × ((m.cell ≡ c) × (m.signal ≡ b)))
moved_move P b c ms e h = let p = picked (λ (one : Move). one.cell) (is_kind b) P c ms e h in (p.one, (p.fact, (p.is, kind_is b p.one p.passes)))

pub moved_to_move : (P : Move → Type 0) (k : ℕ) (b : Bool) (c : ℕ) (ms : List Move) → AllByRecursion P ms → has c (moved_to k b ms) ≡ true
    → (m : Move) × (P m × ((m.cell ≡ c) × ((m.child ≡ k) × (m.signal ≡ b))))
moved_to_move P k b c ms e h =
    let p = picked (λ (one : Move). one.cell) (λ (one : Move). nat_eq one.child k && is_kind b one) P c ms e h in
    let t = and_both (nat_eq p.one.child k) (is_kind b p.one) p.passes in
    (p.one, (p.fact, (p.is, (same_number p.one.child k t.0, kind_is b p.one t.1))))

-- what moves into a child moves
pub moved_of_to : (k : ℕ) (b : Bool) (c : ℕ) (ms : List Move) → has c (moved_to k b ms) ≡ true → has c (moved b ms) ≡ true
moved_of_to k b c ms h =
    let p = picked (λ (one : Move). one.cell) (λ (one : Move). nat_eq one.child k && is_kind b one) (λ m. ⊤) c ms (each_true ms) h in
    p.found (is_kind b) (and_both (nat_eq p.one.child k) (is_kind b p.one) p.passes).1
