-- Where a branch is told what is known, its waits go on with the values that cells have.
use Rattle.std.proofs.Common.{◌≡◌, ℕ, zero, suc, ◌+◌, ◌-◌, ◌≤◌, ◌<◌, ◌⊎◌, inl, inr, Bool, true, false, if◌then◌else◌, List, [], ◌∷◌, ◌++◌, refl, ap, sym, subst, ◌∙◌, arith}
use Rattle.std.specs.Prelude.{⊤, nat_eq, Option, Some, None}
use Rattle.std.specs.List.{AllByRecursion}
use Rattle.std.proofs.lemmas.Bool.Decides.{nat_tests}
use Rattle.merc_value.specs.Value.{Value}
use Rattle.merc_script.specs.declared.outcome.Outcome.{Outcome}
use Rattle.merc_script.specs.declared.outcome.Outcome.TheVariants.{Ok as Fine, Raise, Limit, Starved, NoMemory}
use Rattle.merc_script.specs.Script.{Script, Ends, Children, ends}
use Rattle.merc_script.specs.Joining.{joined}
use Rattle.merc_core.specs.Rights.{has, without, moved, moved_to}
use Rattle.merc_plan.specs.Branch.{all_do_answer, NamedCell, Fork, BranchCourse, Over, Breaks, Steps, Finds, Awaits, Gives, Forks, BranchCourses, no_branches, more_branches, names, Gift, gift_at, gifts_through, value_given, gives, all_give}
use Rattle.merc_plan.specs.BranchScript.{those_of, signalled, all_signalled, going, script, scripts}
use Rattle.merc_plan.proofs.Answering.{all_behind}
use Rattle.merc_plan.proofs.Judging.{AllAnswer, kid_count, makes, uses, signals_to, waits_to, NamedFits, MoveGoes, HoldsRight, SiteFits, Whole, anything, Keeps, AllKeep, Quiet, told_values}
use Rattle.merc_plan.proofs.Holds.{waits_past, pending_past, kid_proper, names_of_made, own_fits}
use Rattle.merc_plan.proofs.Gives.{Within, AllWithin, within_gives}
use Rattle.merc_plan.proofs.Standing.{IfFine, IsGiven, IfGiven, Valued, AllValued}
use Rattle.merc_plan.proofs.Forms.{told, value_of, Given, own_value, outer_value, fine_kids_answer, moved_right, sig_only, all_only, moved_not_own, one_maker, alone, not_none, sig_given, all_given, signalled_going, same_test, in_front, in_rest, not_moved_to}
use Rattle.merc_plan.proofs.Telling.{known_anew, Tells, AllTell, agree_same}
use Rattle.merc_plan.proofs.Sets.{clash, tell, same_number, is_same, only_one, first_in, in_common, common_in, in_either, in_left, minus_in, minus_keeps, gone_not, absent, look_before, look_past, look_same, look_none, some_now, gifts_in, gifts_out, given_here, given_other, picked, each_true, moved_to_move, moved_of_to}

-- a right to signal is for another cell than each right to wait
abbrev pub Apart : (ℕ → Bool) → List ℕ → Type 0
Apart rights w = (c : ℕ) → rights c ≡ true → has c w ≡ true → ⊥

-- a cell that is given has the value that is known, and another one has none
abbrev pub IsSo : Bool → Option Value → Option Value → Type 0
IsSo b known there = IfGiven b (IsGiven known there) (there ≡ None)

abbrev pub WaitsSo : (ℕ → Option Value) → (ℕ → Option Value) → List ℕ → List ℕ → Type 0
WaitsSo value known gn w = (c : ℕ) → has c w ≡ true → IsSo (has c gn) (known c) (value c)

-- a cell that may be signalled has the value that the course gives, where the script signals it
abbrev pub SignalsSo : (ℕ → Option Value) → (ℕ → Bool) → List Gift → List ℕ → List Gift → Type 0
SignalsSo value rights g sg gs = (c : ℕ) → rights c ≡ true → gift_at c g ≡ None → value c ≡ value_of sg gs c

-- values of lists in two parts

value_at_front : (sg more : List ℕ) (gs others : List Gift) (c : ℕ) → has c more ≡ false → (has c sg ≡ true → Given c gs) → value_of (sg ++ more) (gs ++ others) c ≡ value_of sg gs c
value_at_front sg more gs others c n g = on (has c sg) refl
  where
    on : (b : Bool) → has c sg ≡ b → value_of (sg ++ more) (gs ++ others) c ≡ (if b then value_given (gift_at c gs) else None)
    on true e =
        let f = g e in
        ap (λ (z : Bool). if z then value_given (gift_at c (gs ++ others)) else None) (in_left c sg more e)
        ∙ ap value_given (look_before c (Some f.value) gs others f.is ∙ sym f.is)
    on false e =
        ap (λ (z : Bool). if z then value_given (gift_at c (gs ++ others)) else None)
        (in_front c sg more (λ q. clash (has c more) q n) ∙ e)

value_at_rest : (sg more : List ℕ) (gs others : List Gift) (c : ℕ) → has c sg ≡ false → gift_at c gs ≡ None → value_of (sg ++ more) (gs ++ others) c ≡ value_of more others c
value_at_rest sg more gs others c n g =
    ap (λ (z : Bool). if z then value_given (gift_at c (gs ++ others)) else None) (in_rest c sg more (λ q. clash (has c sg) q n))
    ∙ ap (λ o. if has c more then value_given o else None) (look_past c gs others g)

value_first : (d : ℕ) (v : Value) (sg : List ℕ) (gs : List Gift) → value_of (d ∷ sg) (record { cell = d; value = Some v } ∷ gs) d ≡ Some v
value_first d v sg gs =
    ap (λ (z : Bool). if z then value_given (gift_at d (record { cell = d; value = Some v } ∷ gs)) else None) (first_in d sg) ∙ ap value_given (given_here d (Some v) gs)

-- what is moved is signalled where a conjunct signals it
value_moved : (c : ℕ) (sk ms rest : List ℕ) (gs others : List Gift) → has c ms ≡ true → has c rest ≡ false → value_of (those_of sk ms ++ rest) (gifts_through ms gs ++ others) c ≡ value_of sk gs c
value_moved c sk ms rest gs others m n =
    ap (λ (z : Bool). if z then value_given (gift_at c (gifts_through ms gs ++ others)) else None)
    (in_front c (those_of sk ms) rest (λ z. clash (has c rest) z n) ∙ same_test (has c (those_of sk ms)) (has c sk) (λ z. (common_in c ms sk z).1) (λ z. in_common c ms sk m z))
    ∙ ap (λ o. if has c sk then value_given o else None) (look_before c (value_given (gift_at c gs)) (gifts_through ms gs) others (gifts_in c ms gs m))

so_signalled : (b : Bool) (c : ℕ) (gs : List Gift) (known there : Option Value) → there ≡ (if b then value_given (gift_at c gs) else None) → known ≡ value_given (gift_at c gs) → (b ≡ true → Given c gs)
    → IsSo b known there
so_signalled true c gs known there e k g =
    let f = g refl in
    subst (λ o. IsGiven o there) (sym (k ∙ ap value_given f.is)) (e ∙ ap value_given f.is)
so_signalled false c gs known there e k g = e

so_same : (b b' : Bool) (known known' there there' : Option Value) → b ≡ b' → known ≡ known' → there ≡ there' → IsSo b known there → IsSo b' known' there'
so_same b b' known known' there there' p q r s = subst (λ z. IsSo z known' there') p (subst (λ z. IsSo b z there') q (subst (λ z. IsSo b known z) r s))

awaits_so : (b : Bool) (o known there : Option Value) (More : Type 0) → o ≡ known → IsSo b known there → (b ≡ true → More) → IfGiven b (IsGiven o there × More) (there ≡ None)
awaits_so true o known there More e s m = (subst (λ z. IsGiven z there) (sym e) s, m refl)
awaits_so false o known there More e s m = s

fine_from : (o : Outcome) (Fits : ℕ → Type 0) → ((n : ℕ) → o ≡ Fine n → Fits n) → IfFine o Fits
fine_from (Fine n) Fits h = h n refl
fine_from (Raise e n) Fits h = tt
fine_from Limit Fits h = tt
fine_from Starved Fits h = tt
fine_from NoMemory Fits h = tt

less : (q k : ℕ) → q < suc k → nat_eq q k ≡ false → q < k
less q k l e = grind (arith, nat_tests, l, e)

-- a fork's cells

-- the conjunct that makes a cell for which another waits, to its left
used_made : (n : ℕ) (x : Fork) (k c : ℕ) → AllByRecursion (NamedFits n) x.cells → has c (uses k x.cells) ≡ true
    → (p : ℕ) × ((has c (makes p x.cells) ≡ true) × ((1 ≤ p) × ((k ≡ 0) ⊎ (p < k))))
used_made n x k c f h =
    let q = picked (λ (one : NamedCell). one.cell) (λ (one : NamedCell). nat_eq one.consumer k) (NamedFits n) c x.cells f h in
    let e = same_number q.one.consumer k q.passes in
    (q.one.producer, (q.found (λ one. nat_eq one.producer q.one.producer) (is_same q.one.producer), (q.fact.0, on q.one.producer q.one.consumer e q.fact.1.1)))
  where
    on : (p consumer : ℕ) → consumer ≡ k → (consumer ≡ 0) ⊎ ((p < consumer) × (consumer ≤ n)) → (k ≡ 0) ⊎ (p < k)
    on p consumer e (inl z) = inl (sym e ∙ z)
    on p consumer e (inr z) = let l = z.0 in inr (omega (arith, e, l))

made_from_one : (n : ℕ) (x : Fork) (p c : ℕ) → AllByRecursion (NamedFits n) x.cells → has c (makes p x.cells) ≡ true → 1 ≤ p
made_from_one n x p c f h =
    let q = picked (λ (one : NamedCell). one.cell) (λ (one : NamedCell). nat_eq one.producer p) (NamedFits n) c x.cells f h in
    let e = same_number q.one.producer p q.passes in
    let l = q.fact.0 in
    omega (arith, e, l)

names_of_used : (c k : ℕ) (cs : List NamedCell) → has c (uses k cs) ≡ true → has c (names cs) ≡ true
names_of_used c k cs h = (picked (λ (one : NamedCell). one.cell) (λ (one : NamedCell). nat_eq one.consumer k) (λ x. ⊤) c cs (each_true cs) h).listed

-- a right to wait that moves is none to an own cell, and is held
moved_wait : (n : ℕ) (rights : ℕ → Bool) (g : List Gift) (w : List ℕ) (x : Fork) (k c : ℕ) → SiteFits n rights g w x → has c (moved_to k false x.moves) ≡ true
    → (has c (names x.cells) ≡ false) × (has c w ≡ true)
moved_wait n rights g w x k c f h =
    let m = moved_to_move (λ m. has m.cell (names x.cells) ≡ false) k false c x.moves f.fresh h in
    let q = moved_to_move (MoveGoes n rights g w) k false c x.moves f.moves h in (
      sym (ap (λ z. has z (names x.cells)) m.1.1.0) ∙ m.1.0,
      subst (λ z. has z w ≡ true) q.1.1.0 (subst (λ (z : Bool). HoldsRight rights g w z q.0.cell) q.1.1.1.1 q.1.0.1.1),
    )

moved_signal : (n : ℕ) (rights : ℕ → Bool) (g : List Gift) (w : List ℕ) (x : Fork) (k c : ℕ) → SiteFits n rights g w x → has c (moved_to k true x.moves) ≡ true → rights c ≡ true
moved_signal n rights g w x k c f h = (moved_right n rights g w c x.moves f.moves (moved_of_to k true c x.moves h)).0

-- A cell that is no own one, and for which the branch has a right to wait, is signalled by no conjunct.
held_not_signalled : (n : ℕ) (rights : ℕ → Bool) (g : List Gift) (w : List ℕ) (x : Fork) (k c : ℕ) → SiteFits n rights g w x → Apart rights w → has c (names x.cells) ≡ false → has c w ≡ true
    → has c (signals_to k x) ≡ false
held_not_signalled n rights g w x k c f a o h = absent c (signals_to k x) (λ i. on (in_either c (makes k x.cells) (moved_to k true x.moves) i))
  where
    on : (has c (makes k x.cells) ≡ true) ⊎ (has c (moved_to k true x.moves) ≡ true) → ⊥
    on (inl i) = clash (has c (names x.cells)) (names_of_made c k x.cells i) o
    on (inr i) = a c (moved_signal n rights g w x k c f i) h

kid_apart : (n : ℕ) (rights : ℕ → Bool) (g : List Gift) (w : List ℕ) (x : Fork) (k : ℕ) → 1 ≤ k → SiteFits n rights g w x → Apart rights w → Apart (λ c. has c (signals_to k x)) (waits_to k x)
kid_apart n rights g w x k l f a c h i = on (in_either c (makes k x.cells) (moved_to k true x.moves) h) (in_either c (uses k x.cells) (moved_to k false x.moves) i)
  where
    own : (p : ℕ) × ((has c (makes p x.cells) ≡ true) × ((1 ≤ p) × ((k ≡ 0) ⊎ (p < k)))) → has c (makes k x.cells) ≡ true → ⊥
    own u m = apart u.1.1.1 (one_maker x u.0 k c f.distinct u.1.0 m)
      where
        apart : (k ≡ 0) ⊎ (u.0 < k) → u.0 ≡ k → ⊥
        apart (inl z) e = absurd (omega (arith, z, l))
        apart (inr z) e = absurd (omega (arith, z, e))

    on : (has c (makes k x.cells) ≡ true) ⊎ (has c (moved_to k true x.moves) ≡ true) → (has c (uses k x.cells) ≡ true) ⊎ (has c (moved_to k false x.moves) ≡ true) → ⊥
    on (inl m) (inl u) = own (used_made n x k c f.cells u) m
    on (inl m) (inr v) = clash (has c (names x.cells)) (names_of_made c k x.cells m) (moved_wait n rights g w x k c f v).0
    on (inr m) (inl u) = clash (has c (names x.cells)) (names_of_used c k x.cells u) (moved_not_own n rights g w x k c f m)
    on (inr m) (inr v) = a c (moved_signal n rights g w x k c f m) (moved_wait n rights g w x k c f v).1

-- What is so when conjuncts before this number have gone, whose scripts signal `gn`, with what is known from before, and whose courses give `given`: own cells
-- that they make, own cells of those to the right, and cells from outside.
pub record KidsSo (value known : ℕ → Option Value) (x : Fork) (k : ℕ) (gn : List ℕ) (given : List Gift) (sg : List ℕ) (gs : List Gift) : Type 0 where
  pub past : (p c : ℕ) → p < k → has c (makes p x.cells) ≡ true → IsSo (has c gn) (value_given (gift_at c given)) (value c)
  pub future : (p c : ℕ) → k ≤ p → has c (makes p x.cells) ≡ true → (has c gn ≡ false) × (gift_at c given ≡ None)
  pub outer : (j c : ℕ) → has c (moved_to j false x.moves) ≡ true → IsSo (has c gn) (known c) (value c)
  pub signals : (j c : ℕ) → k ≤ j → has c (signals_to j x) ≡ true → value c ≡ value_of sg gs c

made_signal : (c p : ℕ) (x : Fork) → has c (makes p x.cells) ≡ true → has c (signals_to p x) ≡ true
made_signal c p x h = in_left c (makes p x.cells) (moved_to p true x.moves) h

-- the rights to wait of a conjunct
kid_waits : (n : ℕ) (rights : ℕ → Bool) (g : List Gift) (w : List ℕ) (value known : ℕ → Option Value) (x : Fork) (k : ℕ) (gn : List ℕ) (given : List Gift) (sg : List ℕ) (gs : List Gift) → 1 ≤ k
    → SiteFits n rights g w x → KidsSo value known x k gn given sg gs → WaitsSo value (known_anew known x given) gn (waits_to k x)
kid_waits n rights g w value known x k gn given sg gs l f so c h = on (in_either c (uses k x.cells) (moved_to k false x.moves) h)
  where
    own : (p : ℕ) × ((has c (makes p x.cells) ≡ true) × ((1 ≤ p) × ((k ≡ 0) ⊎ (p < k)))) → IsSo (has c gn) (value_given (gift_at c given)) (value c)
    own u = before u.1.1.1
      where
        before : (k ≡ 0) ⊎ (u.0 < k) → IsSo (has c gn) (value_given (gift_at c given)) (value c)
        before (inl z) = absurd (omega (arith, z, l))
        before (inr z) = so.past u.0 c z u.1.0

    on : (has c (uses k x.cells) ≡ true) ⊎ (has c (moved_to k false x.moves) ≡ true) → IsSo (has c gn) (known_anew known x given c) (value c)
    on (inl u) =
        so_same (has c gn) (has c gn) (value_given (gift_at c given)) (known_anew known x given c) (value c) (value c) refl
        (sym (ap (λ (b : Bool). if b then value_given (gift_at c given) else known c) (names_of_used c k x.cells u))) refl (own (used_made n x k c f.cells u))
    on (inr v) =
        so_same (has c gn) (has c gn) (known c) (known_anew known x given c) (value c) (value c) refl
        (sym (ap (λ (b : Bool). if b then value_given (gift_at c given) else known c) (moved_wait n rights g w x k c f v).0)) refl (so.outer k c v)

not_signalled : (t : BranchCourse) (proper : ℕ → Value → Type 0) (x : Fork) (k l : ℕ) (gn : List ℕ) → Keeps (kid_proper proper x) (Whole (λ c. has c (signals_to k x))) (λ c. has c (signals_to k x)) (waits_to k x) [] t
    → (c : ℕ) → has c (signals_to k x) ≡ false → has c (signalled (script false l 0 gn t)) ≡ false
not_signalled t proper x k l gn p c n =
    absent c (signalled (script false l 0 gn t)) (λ h. clash (has c (signals_to k x)) (sig_only (kid_proper proper x) t (λ d. has d (signals_to k x)) l 0 gn (waits_to k x) [] p c h).0 n)

-- .. and when one conjunct more has gone
more_so : (proper : ℕ → Value → Type 0) (n : ℕ) (rights : ℕ → Bool) (g : List Gift) (w : List ℕ) (value known : ℕ → Option Value) (x : Fork) (k l : ℕ) (gn : List ℕ) (given : List Gift)
    (t : BranchCourse) (more : BranchCourses) → SiteFits n rights g w x → Apart rights w → ((j : ℕ) → has 0 (signals_to j x) ≡ false)
    → AllKeep proper x k (more_branches t more) → Within (λ c. has c (signals_to k x)) t
    → KidsSo value known x k gn given (all_signalled (scripts l gn (more_branches t more))) (all_give (more_branches t more))
    → KidsSo value known x (suc k) (gn ++ signalled (script false l 0 gn t)) (given ++ gives t) (all_signalled (scripts l (gn ++ signalled (script false l 0 gn t)) more)) (all_give more)
more_so proper n rights g w value known x k l gn given t more f a z p wi so = record {
  past = λ q c l h. past q c h (early q l);
  future = λ q c l h. (
    in_front c gn sc (λ i. clash (has c sc) i (others q c l (made_signal c q x h))) ∙ (so.future q c (omega (arith, l)) h).0,
    look_past c given (gives t) (so.future q c (omega (arith, l)) h).1 ∙ none_given q c l (made_signal c q x h),
  );
  outer = λ j c h.
      let m = moved_wait n rights g w x j c f h in
      so_same (has c gn) (has c (gn ++ sc)) (known c) (known c) (value c) (value c)
      (sym (in_front c gn sc (λ i. clash (has c sc) i (not_signalled t proper x k l gn p.0 c (held_not_signalled n rights g w x k c f a m.0 m.1))))) refl refl (so.outer j c h);
  signals = λ j c q h. so.signals j c (omega (arith, q)) h ∙ value_at_rest sc (all_signalled (scripts l (gn ++ sc) more)) (gives t) (all_give more) c (others j c q h) (none_given j c q h);
}
  where
    sc : List ℕ
    sc = signalled (script false l 0 gn t)

    not_here : (j c : ℕ) → (j ≡ k → ⊥) → has c (signals_to j x) ≡ true → has c (signals_to k x) ≡ false
    not_here j c d h = absent c (signals_to k x) (λ i. d (alone n rights g w x j k c f h i))

    others : (j c : ℕ) → suc k ≤ j → has c (signals_to j x) ≡ true → has c sc ≡ false
    others j c q h = not_signalled t proper x k l gn p.0 c (not_here j c (λ e. absurd (omega (arith, e, q))) h)

    none_given : (j c : ℕ) → suc k ≤ j → has c (signals_to j x) ≡ true → gift_at c (gives t) ≡ None
    none_given j c q h = within_gives t (λ d. has d (signals_to k x)) wi c (not_here j c (λ e. absurd (omega (arith, e, q))) h) (not_none x j c z h)

    early : (q : ℕ) → q < suc k → (q < k) ⊎ (q ≡ k)
    early q l = on (tell (nat_eq q k))
      where
        on : (nat_eq q k ≡ true) ⊎ (nat_eq q k ≡ false) → (q < k) ⊎ (q ≡ k)
        on (inl e) = inr (same_number q k e)
        on (inr e) = inl (less q k l e)

    here : (c : ℕ) → has c (makes k x.cells) ≡ true → IsSo (has c (gn ++ sc)) (value_given (gift_at c (given ++ gives t))) (value c)
    here c h =
        let u = so.future k c (omega arith) h in
        let g' : (has c sc ≡ true → Given c (gives t)) = λ i. sig_given (kid_proper proper x) t (λ d. has d (signals_to k x)) l 0 gn (waits_to k x) [] p.0 wi c i in
        so_same (has c sc) (has c (gn ++ sc)) (value_given (gift_at c (gives t))) (value_given (gift_at c (given ++ gives t))) (value c) (value c)
        (sym (in_rest c gn sc (λ i. clash (has c gn) i u.0))) (ap value_given (sym (look_past c given (gives t) u.1))) refl
        (so_signalled (has c sc) c (gives t) (value_given (gift_at c (gives t))) (value c)
        (so.signals k c (omega arith) (made_signal c k x h)
        ∙ value_at_front sc (all_signalled (scripts l (gn ++ sc) more)) (gives t) (all_give more) c
        (absent c (all_signalled (scripts l (gn ++ sc) more)) (λ i. let r = all_only proper x (suc k) more l (gn ++ sc) p.1 c i in
        let e = alone n rights g w x r.0 k c f r.1.1 (made_signal c k x h) in let m = r.1.0 in absurd (omega (arith, e, m)))) g')
        refl g')

    past : (q c : ℕ) → has c (makes q x.cells) ≡ true → (q < k) ⊎ (q ≡ k) → IsSo (has c (gn ++ sc)) (value_given (gift_at c (given ++ gives t))) (value c)
    past q c h (inr e) = here c (subst (λ j. has c (makes j x.cells) ≡ true) e h)
    past q c h (inl e) =
        let d = not_here q c (λ r. absurd (omega (arith, r, e))) (made_signal c q x h) in
        so_same (has c gn) (has c (gn ++ sc)) (value_given (gift_at c given)) (value_given (gift_at c (given ++ gives t))) (value c) (value c)
        (sym (in_front c gn sc (λ i. clash (has c sc) i (not_signalled t proper x k l gn p.0 c d))))
        (ap value_given (sym (look_same c given (gives t) (within_gives t (λ d. has d (signals_to k x)) wi c d (not_none x q c z (made_signal c q x h))))))
        refl (so.past q c e h)

-- at a fork

not_left : (x : Fork) (gn : List ℕ) (c : ℕ) → has c (names x.cells) ≡ true → has c (without (names x.cells) gn) ≡ false
not_left x gn c h = absent c (without (names x.cells) gn) (λ i. gone_not c (names x.cells) gn h i)

still_left : (x : Fork) (gn : List ℕ) (c : ℕ) → has c (names x.cells) ≡ false → has c gn ≡ has c (without (names x.cells) gn)
still_left x gn c n = same_test (has c gn) (has c (without (names x.cells) gn)) (λ h. minus_keeps c (names x.cells) gn n h) (λ h. minus_in c (names x.cells) gn h)

-- before its conjuncts
starts_so : (n : ℕ) (rights : ℕ → Bool) (g : List Gift) (w : List ℕ) (value known : ℕ → Option Value) (x : Fork) (ks : BranchCourses) (l : ℕ) (gn : List ℕ) → SiteFits n rights g w x → WaitsSo value known gn w
    → ((j c : ℕ) → has c (moved_to j true x.moves) ≡ true → value c ≡ value_of (all_signalled (scripts l (without (names x.cells) gn) ks)) (all_give ks) c)
    → KidsSo (told_values value (told x ks (scripts l (without (names x.cells) gn) ks))) known x 1 (without (names x.cells) gn) [] (all_signalled (scripts l (without (names x.cells) gn) ks)) (all_give ks)
starts_so n rights g w value known x ks l gn f so moves = record {
  past = λ q c b h. let m = made_from_one n x q c f.cells h in absurd (omega (arith, b, m));
  future = λ q c b h. (not_left x gn c (names_of_made c q x.cells h), refl);
  outer = λ j c h.
      let m = moved_wait n rights g w x j c f h in
      so_same (has c gn) (has c (without (names x.cells) gn)) (known c) (known c) (value c) (told_values value (told x ks sk) c) (still_left x gn c m.0) refl (sym (outer_value value x ks sk c m.0)) (so c m.1);
  signals = λ j c q h. on j c (in_either c (makes j x.cells) (moved_to j true x.moves) h);
}
  where
    sk : Children
    sk = scripts l (without (names x.cells) gn) ks

    on : (j c : ℕ) → (has c (makes j x.cells) ≡ true) ⊎ (has c (moved_to j true x.moves) ≡ true) → told_values value (told x ks sk) c ≡ value_of (all_signalled sk) (all_give ks) c
    on j c (inl h) = own_value value x ks sk c (names_of_made c j x.cells h)
    on j c (inr h) = outer_value value x ks sk c (moved_not_own n rights g w x j c f h) ∙ moves j c h

-- behind it, with the rights to wait that are left
waits_behind : (proper : ℕ → Value → Type 0) (n : ℕ) (rights : ℕ → Bool) (g : List Gift) (w left : List ℕ) (value known : ℕ → Option Value) (x : Fork) (ks : BranchCourses) (l : ℕ) (gn : List ℕ)
    → SiteFits n rights g w x → Apart rights w → AllKeep proper x 1 ks → ((j : ℕ) → has 0 (signals_to j x) ≡ false) → AllWithin x 1 ks → WaitsSo value known gn w → ((c : ℕ) → has c left ≡ true → has c w ≡ true)
    → WaitsSo (told_values value (told x ks (scripts l (without (names x.cells) gn) ks))) (known_anew known x (all_give ks))
    (without (names x.cells) gn ++ all_signalled (scripts l (without (names x.cells) gn) ks)) (uses 0 x.cells ++ without (names x.cells) left)
waits_behind proper n rights g w left value known x ks l gn f a p z wi so sub c h = on (in_either c (uses 0 x.cells) (without (names x.cells) left) h)
  where
    gn' : List ℕ
    gn' = without (names x.cells) gn

    sk : Children
    sk = scripts l gn' ks

    anew : ℕ → Option Value
    anew = told_values value (told x ks sk)

    own : has c (names x.cells) ≡ true → IsSo (has c (gn' ++ all_signalled sk)) (known_anew known x (all_give ks) c) (anew c)
    own i =
        so_same (has c (all_signalled sk)) (has c (gn' ++ all_signalled sk)) (value_given (gift_at c (all_give ks))) (known_anew known x (all_give ks) c) (anew c) (anew c)
        (sym (in_rest c gn' (all_signalled sk) (λ q. clash (has c gn') q (not_left x gn c i)))) (sym (ap (λ (b : Bool). if b then value_given (gift_at c (all_give ks)) else known c) i)) refl
        (so_signalled (has c (all_signalled sk)) c (all_give ks) (value_given (gift_at c (all_give ks))) (anew c) (own_value value x ks sk c i) refl
        (λ q. all_given proper x 1 ks l gn' n rights w g f p z wi c q))

    kept : has c (names x.cells) ≡ false → has c w ≡ true → IsSo (has c (gn' ++ all_signalled sk)) (known_anew known x (all_give ks) c) (anew c)
    kept o i =
        so_same (has c gn) (has c (gn' ++ all_signalled sk)) (known c) (known_anew known x (all_give ks) c) (value c) (anew c)
        (still_left x gn c o
        ∙ sym (in_front c gn' (all_signalled sk) (λ q. let r = all_only proper x 1 ks l gn' p c q in clash (has c (signals_to r.0 x)) r.1.1 (held_not_signalled n rights g w x r.0 c f a o i))))
        (sym (ap (λ (b : Bool). if b then value_given (gift_at c (all_give ks)) else known c) o)) (sym (outer_value value x ks sk c o)) (so c i)

    on : (has c (uses 0 x.cells) ≡ true) ⊎ (has c (without (names x.cells) left) ≡ true) → IsSo (has c (gn' ++ all_signalled sk)) (known_anew known x (all_give ks) c) (anew c)
    on (inl u) = own (names_of_used c 0 x.cells u)
    on (inr v) = kept (absent c (names x.cells) (λ e. gone_not c (names x.cells) left e v)) (sub c (minus_in c (names x.cells) left v))

apart_behind : (n : ℕ) (rights : ℕ → Bool) (g : List Gift) (w left : List ℕ) (x : Fork) → SiteFits n rights g w x → Apart rights w → ((c : ℕ) → has c left ≡ true → has c w ≡ true)
    → Apart rights (uses 0 x.cells ++ without (names x.cells) left)
apart_behind n rights g w left x f a sub c r h = on (in_either c (uses 0 x.cells) (without (names x.cells) left) h)
  where
    on : (has c (uses 0 x.cells) ≡ true) ⊎ (has c (without (names x.cells) left) ≡ true) → ⊥
    on (inl u) = clash (has c (names x.cells)) (names_of_used c 0 x.cells u) (f.apart c r)
    on (inr v) = a c r (sub c (minus_in c (names x.cells) left v))

-- the script behind a fork, where that is reached
abbrev rest_of : ℕ → ℕ → List ℕ → Fork → BranchCourses → BranchCourse → Script
rest_of l s gn x ks t =
    going (joined l (ends (scripts l gn ks))) s (λ u. script false (l - u) (s + u) (gn ++ all_signalled (scripts l gn ks)) t)

-- what moves is signalled by conjuncts alone
moved_so : (i : ℕ) (proper : ℕ → Value → Type 0) (value : ℕ → Option Value) (x : Fork) (ks : BranchCourses) (t : BranchCourse) (rights : ℕ → Bool) (l s : ℕ) (gn w : List ℕ) (g : List Gift) → SiteFits (kid_count ks) rights g w x
    → AllKeep proper x 1 ks → (AllAnswer ks → Keeps proper (Whole rights) rights (waits_past x w) (g ++ gifts_through (moved true x.moves) (all_give ks)) t)
    → SignalsSo value rights g (those_of (all_signalled (scripts l gn ks)) (moved true x.moves) ++ signalled (rest_of l s gn x ks t)) (gives (Forks i x ks t))
    → (j c : ℕ) → has c (moved_to j true x.moves) ≡ true → value c ≡ value_of (all_signalled (scripts l gn ks)) (all_give ks) c
moved_so i proper value x ks t rights l s gn w g f p k so j c h =
    let m = moved_of_to j true c x.moves h in
    let r = moved_right (kid_count ks) rights g w c x.moves f.moves m in
    so c r.0 r.1
    ∙ value_moved c (all_signalled (scripts l gn ks)) (moved true x.moves) (signalled (rest_of l s gn x ks t)) (all_give ks) (if all_do_answer ks then gives t else []) m
    (absent c (signalled (rest_of l s gn x ks t)) (λ i. not_behind m r.1 i))
  where
    not_behind : has c (moved true x.moves) ≡ true → gift_at c g ≡ None → has c (signalled (rest_of l s gn x ks t)) ≡ true → ⊥
    not_behind m n i =
        let q = signalled_going c s (joined l (ends (scripts l gn ks))) (λ u. script false (l - u) (s + u) (gn ++ all_signalled (scripts l gn ks)) t) i in
        let y = sig_only proper t rights (l - q.0) (s + q.0) (gn ++ all_signalled (scripts l gn ks)) (waits_past x w) (g ++ gifts_through (moved true x.moves) (all_give ks))
        (k (fine_kids_answer proper x ks l q.0 gn p q.1.0)) c q.1.1 in
        some_now (value_given (gift_at c (all_give ks))) (gift_at c (g ++ gifts_through (moved true x.moves) (all_give ks)))
        (look_past c g (gifts_through (moved true x.moves) (all_give ks)) n ∙ gifts_in c (moved true x.moves) (all_give ks) m) y.1

signals_behind : (i : ℕ) (value : ℕ → Option Value) (x : Fork) (ks : BranchCourses) (t : BranchCourse) (rights : ℕ → Bool) (l s n : ℕ) (gn w : List ℕ) (g : List Gift) → SiteFits (kid_count ks) rights g w x
    → AllAnswer ks → joined l (ends (scripts l (without (names x.cells) gn) ks)) ≡ Fine n
    → SignalsSo value rights g (those_of (all_signalled (scripts l (without (names x.cells) gn) ks)) (moved true x.moves) ++ signalled (rest_of l s (without (names x.cells) gn) x ks t))
    (gives (Forks i x ks t))
    → SignalsSo (told_values value (told x ks (scripts l (without (names x.cells) gn) ks))) rights (g ++ gifts_through (moved true x.moves) (all_give ks))
    (signalled (script false (l - n) (s + n) (without (names x.cells) gn ++ all_signalled (scripts l (without (names x.cells) gn) ks)) t)) (gives t)
signals_behind i value x ks t rights l s n gn w g f answer e so c r m =
    outer_value value x ks sk c (f.apart c r)
    ∙ (so c r (look_none c g (gifts_through ms (all_give ks)) m)
    ∙ (ap (λ z. value_of (those_of (all_signalled sk) ms ++ signalled (going (joined l (ends sk)) s next)) (gifts_through ms (all_give ks) ++ z) c) (all_behind ks (gives t) answer)
    ∙ (ap (λ o. value_of (those_of (all_signalled sk) ms ++ signalled (going o s next)) (gifts_through ms (all_give ks) ++ gives t) c) e
    ∙ value_at_rest (those_of (all_signalled sk) ms) (signalled (next n)) (gifts_through ms (all_give ks)) (gives t) c
    (absent c (those_of (all_signalled sk) ms) (λ h. clash (has c ms) (common_in c ms (all_signalled sk) h).0 not_moved))
    (gifts_out c ms (all_give ks) (λ h. clash (has c ms) h not_moved)))))
  where
    ms : List ℕ
    ms = moved true x.moves

    sk : Children
    sk = scripts l (without (names x.cells) gn) ks

    next : ℕ → Script
    next u = script false (l - u) (s + u) (without (names x.cells) gn ++ all_signalled sk) t

    not_moved : has c ms ≡ false
    not_moved = absent c ms (λ h. some_now (value_given (gift_at c (all_give ks))) (gift_at c (g ++ gifts_through ms (all_give ks)))
        (look_past c g (gifts_through ms (all_give ks)) (look_none c g (gifts_through ms (all_give ks)) m) ∙ gifts_in c ms (all_give ks) h) m)

-- at a signal
signals_less : (value : ℕ → Option Value) (rights : ℕ → Bool) (g : List Gift) (d : ℕ) (v : Value) (sg : List ℕ) (gs : List Gift) → gift_at d g ≡ None
    → SignalsSo value rights g (d ∷ sg) (record { cell = d; value = Some v } ∷ gs) → SignalsSo value rights (g ++ (record { cell = d; value = Some v } ∷ [])) sg gs
signals_less value rights g d v sg gs n so c r m =
    so c r (look_none c g (record { cell = d; value = Some v } ∷ []) m)
    ∙ value_at_rest (d ∷ []) sg (record { cell = d; value = Some v } ∷ []) gs c (absent c (d ∷ []) (λ h. other (only_one c d h))) (given_other c d (Some v) [] other)
  where
    other : c ≡ d → ⊥
    other e =
        some_now (Some v) (gift_at c (g ++ (record { cell = d; value = Some v } ∷ [])))
        (subst (λ z. gift_at z (g ++ (record { cell = d; value = Some v } ∷ [])) ≡ Some (Some v)) (sym e)
        (look_past d g (record { cell = d; value = Some v } ∷ []) n ∙ given_here d (Some v) [])) m

mutual
  -- of a conjunct
  pub valued : (proper : ℕ → Value → Type 0) (t : BranchCourse) (rights : ℕ → Bool) (value known : ℕ → Option Value) (next l s : ℕ) (gn w : List ℕ) (g : List Gift) → Keeps proper (Whole rights) rights w g t
      → Within rights t → Tells next known t → Apart rights w → WaitsSo value known gn w → SignalsSo value rights g (signalled (script false l s gn t)) (gives t) → Valued value false l gn t
  valued proper Over rights value known next l s gn w g k wi te a ws ss = absurd k
  valued proper (Breaks h) rights value known next l s gn w g k wi te a ws ss = tt
  valued proper (Steps t) rights value known next zero s gn w g k wi te a ws ss = tt
  valued proper (Steps t) rights value known next (suc l) s gn w g k wi te a ws ss = valued proper t rights value known next l (suc s) gn w g k wi te a ws ss
  valued proper (Finds hold t) rights value known next l s gn w g k wi te a ws ss = tt
  valued proper (Awaits c o t) rights value known next l s gn w g k wi te a ws ss =
      awaits_so (has c gn) o (known c) (value c) (Valued value false l gn t) te.0 (ws c k.0)
      (λ e. valued proper t rights value known next l s gn (without (c ∷ []) w) g k.1 wi te.1 (λ d r h. a d r (minus_in d (c ∷ []) w h)) (λ d h. ws d (minus_in d (c ∷ []) w h))
      (subst (λ (b : Bool). SignalsSo value rights g (signalled (if b then script false l s gn t else Ends Starved)) (gives t)) e ss))
  valued proper (Gives d v t) rights value known next l s gn w g k wi te a ws ss = (
    ss d k.0.1 k.1.0 ∙ value_first d v (signalled (script false l s gn t)) (gives t),
    valued proper t rights value known next l s gn w (g ++ (record { cell = d; value = Some v } ∷ [])) k.1.1 wi.1 te a ws
        (signals_less value rights g d v (signalled (script false l s gn t)) (gives t) k.1.0 ss),
  )
  valued proper (Forks i x ks t) rights value known next l s gn w g k wi te a ws ss =
      let g' = without (names x.cells) gn in
      let sk = scripts l g' ks in
      let anew = told_values value (told x ks sk) in (
        all_valued proper x 1 ks anew known l g' [] (kid_count ks) rights w g (omega arith) k.0 a k.1.0 wi.1.0 wi.1.1.0 te.1.0
            (starts_so (kid_count ks) rights g w value known x ks l gn k.0 ws (λ j c h. moved_so i proper value x ks t rights l s g' w g k.0 k.1.0 k.1.1 ss j c h)),
        fine_from (joined l (ends sk)) (λ n. Valued anew false (l - n) (g' ++ all_signalled sk) t)
            (λ n e. valued proper t rights anew (known_anew known x (all_give ks)) next (l - n) (s + n) (g' ++ all_signalled sk) (waits_past x w)
            (g ++ gifts_through (moved true x.moves) (all_give ks)) (k.1.1 (fine_kids_answer proper x ks l n g' k.1.0 e)) wi.1.1.1 te.1.1
            (apart_behind (kid_count ks) rights g w (without (moved false x.moves) w) x k.0 a (λ c h. minus_in c (moved false x.moves) w h))
            (waits_behind proper (kid_count ks) rights g w (without (moved false x.moves) w) value known x ks l gn k.0 a k.1.0 wi.1.0 wi.1.1.0 ws (λ c h. minus_in c (moved false x.moves) w h))
            (signals_behind i value x ks t rights l s n gn w g k.0 (fine_kids_answer proper x ks l n g' k.1.0 e) e ss)),
      )

  pub all_valued : (proper : ℕ → Value → Type 0) (x : Fork) (k : ℕ) (ks : BranchCourses) (value known : ℕ → Option Value) (l : ℕ) (gn : List ℕ) (given : List Gift) (n : ℕ) (rights : ℕ → Bool) (w : List ℕ)
      (g : List Gift) → 1 ≤ k → SiteFits n rights g w x → Apart rights w → AllKeep proper x k ks → ((j : ℕ) → has 0 (signals_to j x) ≡ false) → AllWithin x k ks → AllTell known x given ks
      → KidsSo value known x k gn given (all_signalled (scripts l gn ks)) (all_give ks) → AllValued value l gn ks
  all_valued proper x k no_branches value known l gn given n rights w g one f a p z wi te so = tt
  all_valued proper x k (more_branches t more) value known l gn given n rights w g one f a p z wi te so =
      let sc = signalled (script false l 0 gn t) in
      let rest = all_signalled (scripts l (gn ++ sc) more) in (
        valued (kid_proper proper x) t (λ c. has c (signals_to k x)) value (known_anew known x given) te.0.0 l 0 gn (waits_to k x) [] p.0 wi.0 te.0.1 (kid_apart n rights g w x k one f a)
            (kid_waits n rights g w value known x k gn given (sc ++ rest) (gives t ++ all_give more) one f so)
            (λ c h q. so.signals k c (omega arith) h
            ∙ value_at_front sc rest (gives t) (all_give more) c
            (absent c rest (λ i. let r = all_only proper x (suc k) more l (gn ++ sc) p.1 c i in let e = alone n rights g w x r.0 k c f r.1.1 h in let m = r.1.0 in absurd (omega (arith, e, m))))
            (λ i. sig_given (kid_proper proper x) t (λ d. has d (signals_to k x)) l 0 gn (waits_to k x) [] p.0 wi.0 c i)),
        all_valued proper x (suc k) more value known l (gn ++ sc) (given ++ gives t) n rights w g (omega (arith, one)) f a p.1 z wi.1 te.1
            (more_so proper n rights g w value known x k l gn given t more f a z p wi.0 so),
      )

-- courses that use no rights from outside
pub valued_quiet : (t : BranchCourse) (root : Bool) (first : ℕ) (value known : ℕ → Option Value) (next l s : ℕ) (gn p : List ℕ) → Quiet first p t → Within (λ c. false) t → Tells next known t → WaitsSo value known gn p
    → Valued value root l gn t
valued_quiet Over root first value known next l s gn p q wi te ws = tt
valued_quiet (Breaks h) root first value known next l s gn p q wi te ws = tt
valued_quiet (Steps t) root first value known next zero s gn p q wi te ws = tt
valued_quiet (Steps t) root first value known next (suc l) s gn p q wi te ws = valued_quiet t root first value known next l (suc s) gn p q wi te ws
valued_quiet (Finds hold t) true first value known next l s gn p q wi te ws = valued_quiet t true first value known next l s gn [] q wi.1 (te.1 known (agree_same next known)) (λ c h. absurd (cc))
valued_quiet (Finds hold t) false first value known next l s gn p q wi te ws = tt
valued_quiet (Awaits c o t) root first value known next l s gn p q wi te ws =
    awaits_so (has c gn) o (known c) (value c) (Valued value root l gn t) te.0 (ws c q.0)
    (λ e. valued_quiet t root first value known next l s gn (without (c ∷ []) p) q.1.1 wi te.1 (λ d h. ws d (minus_in d (c ∷ []) p h)))
valued_quiet (Gives c v t) root first value known next l s gn p q wi te ws = absurd q
valued_quiet (Forks i x ks t) root first value known next l s gn p q wi te ws =
    let g' = without (names x.cells) gn in
    let sk = scripts l g' ks in
    let anew = told_values value (told x ks sk) in
    let none : (ℕ → Bool) = λ c. false in
    let fits = own_fits (kid_count ks) first none [] p x (λ c r. absurd (cc)) q.0 q.1.0 in
    let apart : Apart none p = λ c r h. absurd (cc) in (
      all_valued anything x 1 ks anew known l g' [] (kid_count ks) none p [] (omega arith) fits apart q.1.1.0 wi.1.0 wi.1.1.0 te.1.0
          (starts_so (kid_count ks) none [] p value known x ks l gn fits ws (λ j c h. absurd (not_moved_to x.moves j c q.0 h))),
      fine_from (joined l (ends sk)) (λ n. Valued anew root (l - n) (g' ++ all_signalled sk) t)
          (λ n e. valued_quiet t root first anew (known_anew known x (all_give ks)) next (l - n) (s + n) (g' ++ all_signalled sk) (pending_past x p) (q.1.1.1 (fine_kids_answer anything x ks l n g' q.1.1.0 e))
          wi.1.1.1 te.1.1 (waits_behind anything (kid_count ks) none [] p p value known x ks l gn fits apart q.1.1.0 wi.1.0 wi.1.1.0 ws (λ c h. h))),
    )

-- .. beside which nobody is
pub valued_root : (t : BranchCourse) (first next l : ℕ) → Quiet first [] t → Within (λ c. false) t → Tells next (λ c. None) t → Valued (λ c. None) true l [] t
valued_root t first next l q wi te = valued_quiet t true first (λ c. None) (λ c. None) next l 0 [] [] q wi te (λ c h. absurd (cc))
