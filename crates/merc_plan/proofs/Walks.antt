-- The walk over the outcomes of conjuncts, one conjunct at a time.
use Rattle.std.proofs.Common.{◌≡◌, ◌≢◌, ℕ, zero, suc, ◌+◌, ◌<◌, ◌≤◌, Bool, true, false, if◌then◌else◌, List, [], ◌∷◌, refl, ap, subst, ◌∙◌, arith}
use Rattle.std.specs.Prelude.{⊤, nat_le}
use Rattle.std.proofs.lemmas.Bool.Decides.{nat_tests}
use Rattle.merc_script.specs.declared.outcome.Outcome.{Outcome}
use Rattle.merc_script.specs.declared.outcome.Outcome.TheVariants.{Ok as Fine, Raise, Limit, Starved, NoMemory}
use Rattle.merc_script.specs.Script.{Script, end_of}
use Rattle.merc_script.specs.Joining.{walk, lacks_memory, joined}
use Rattle.merc_plan.specs.Branch.{Halt, Raised, TooDeep, Starving}
use Rattle.merc_plan.specs.BranchScript.{going}
use Rattle.merc_plan.proofs.Flat.{Flat, Done, Halts, Tick, Answer, Det, Answers, Like, behind, seen}

-- behind an outcome, seen from a script that made s steps
abbrev pub onward : Outcome → ℕ → (ℕ → Outcome) → Outcome
onward (Fine u) s k = k u
onward (Raise e n) s k = Raise e (s + n)
onward Limit s k = Limit
onward Starved s k = Starved
onward NoMemory s k = NoMemory

pub end_going : (o : Outcome) (s : ℕ) (next : ℕ → Script) → end_of (going o s next) ≡ onward o s (λ u. end_of (next u))
end_going (Fine u) s next = refl
end_going (Raise e n) s next = refl
end_going Limit s next = refl
end_going Starved s next = refl
end_going NoMemory s next = refl

test_in : (a l : ℕ) → a ≤ l → nat_le a l ≡ true
test_in a l h = grind (arith, nat_tests, h)

test_out : (a l : ℕ) → l < a → nat_le a l ≡ false
test_out a l h = grind (arith, nat_tests, h)

test_le : (a l : ℕ) → nat_le a l ≡ true → a ≤ l
test_le a l h = grind (arith, nat_tests, h)

pub stays : (a l : ℕ) (x y : Outcome) → a ≤ l → (if nat_le a l then x else y) ≡ x
stays a l x y h = ap (λ b. if b then x else y) (test_in a l h)

pub goes : (a l : ℕ) (x y : Outcome) → l < a → (if nat_le a l then x else y) ≡ y
goes a l x y h = ap (λ b. if b then x else y) (test_out a l h)

pub over : {A : Type 0} (t : Flat A) → Det t → (c n u l : ℕ) → l < u + n → (os : List Outcome) → walk l u (seen false c n t ∷ os) ≡ Limit
over Done d c n u l h os = absurd d
over (Halts (Raised v)) d c n u l h os = goes (u + n) l _ _ h
over (Halts TooDeep) d c n u l h os = refl
over (Halts Starving) d c n u l h os = absurd d
over (Tick t) d zero n u l h os = refl
over (Tick t) d (suc c) n u l h os = over t d c (suc n) u l (omega (arith, h)) os
over (Answer a t) d c n u l h os = goes (u + n) l _ _ h

one_more : (s u n : ℕ) → s + (u + suc n) ≡ suc (s + (u + n))
one_more s u n = omega arith

-- a conjunct that made n steps, with c left, and what the trace behind it shows
pub step : {A : Type 0} (root : Bool) (t : Flat A) → Det t → (m n c u l : ℕ) → (u + n) + m ≡ l → n + c ≡ l
    → (os : List Outcome) (s : ℕ) (k : ℕ → Outcome) (w : Flat A)
    → ((a b : ℕ) → seen false c n t ≡ Fine a → (u + a) + b ≡ l → onward (walk l (u + a) os) s k ≡ seen root b (s + (u + a)) w)
    → onward (walk l u (seen false c n t ∷ os)) s k ≡ seen root m (s + (u + n)) (behind t w)
step root Done d m n c u l e f os s k w h = absurd d
step root (Halts (Raised v)) d m n c u l e f os s k w h = ap (λ o. onward o s k) (stays (u + n) l (Raise v (u + n)) Limit (omega (arith, e)))
step root (Halts TooDeep) d m n c u l e f os s k w h = refl
step root (Halts Starving) d m n c u l e f os s k w h = absurd d
step root (Tick t) d zero n zero u l e f os s k w h = refl
step root (Tick t) d zero n (suc c) u l e f os s k w h = ap (λ o. onward o s k) (over t d c (suc n) u l (omega (arith, e)) os)
step root (Tick t) d (suc m) n zero u l e f os s k w h = absurd (omega (arith, e, f))
step root (Tick t) d (suc m) n (suc c) u l e f os s k w h =
    step root t d m (suc n) c u l (omega (arith, e)) (omega (arith, f)) os s k w h ∙ ap (λ x. seen root m x (behind t w)) (one_more s u n)
step root (Answer a t) d m n c u l e f os s k w h = ap (λ o. onward o s k) (stays (u + n) l (walk l (u + n) os) Limit (omega (arith, e))) ∙ h n m refl e

no_more : (s u : ℕ) → s + (u + 0) ≡ s + u
no_more s u = omega arith

pub first_step : {A : Type 0} (root : Bool) (t : Flat A) → Det t → (m u l : ℕ) → u + m ≡ l
    → (os : List Outcome) (s : ℕ) (k : ℕ → Outcome) (w : Flat A)
    → ((a b : ℕ) → seen false l 0 t ≡ Fine a → (u + a) + b ≡ l → onward (walk l (u + a) os) s k ≡ seen root b (s + (u + a)) w)
    → onward (walk l u (seen false l 0 t ∷ os)) s k ≡ seen root m (s + u) (behind t w)
first_step root t d m u l e os s k w h =
    step root t d m 0 l u l (omega (arith, e)) (omega arith) os s k w h ∙ ap (λ x. seen root m x (behind t w)) (no_more s u)

pub answers_of : {A : Type 0} (t : Flat A) → Det t → (l s n : ℕ) → seen false l s t ≡ Fine n → Answers t
answers_of Done d l s n h = absurd d
answers_of (Halts (Raised v)) d l s n h = absurd (cc)
answers_of (Halts TooDeep) d l s n h = absurd (cc)
answers_of (Halts Starving) d l s n h = absurd (cc)
answers_of (Tick t) d zero s n h = absurd (cc)
answers_of (Tick t) d (suc l) s n h = answers_of t d l (suc s) n h
answers_of (Answer a t) d l s n h = tt

-- traces that are alike show the same

seen_any : (A B : Type 0) (root : Bool) (l s : ℕ) (h : Halt) → seen {A = A} root l s (Halts h) ≡ seen {A = B} root l s (Halts h)
seen_any A B root l s (Raised v) = refl
seen_any A B root l s TooDeep = refl
seen_any A B root l s Starving = refl

pub like_seen : {A B : Type 0} (R : A → B → Type 0) (root : Bool) (t : Flat A) (t' : Flat B) → Like R t t' → (l s : ℕ) → seen root l s t ≡ seen root l s t'
like_seen R root Done Done h l s = refl
like_seen {A = A} {B = B} R root (Halts g) (Halts g') h l s = ap (λ x. seen {A = A} root l s (Halts x)) h ∙ seen_any A B root l s g'
like_seen R root (Tick t) (Tick t') h zero s = refl
like_seen R root (Tick t) (Tick t') h (suc l) s = like_seen R root t t' h l (suc s)
like_seen R true (Answer a t) (Answer b t') h l s = like_seen R true t t' h.1 l s
like_seen R false (Answer a t) (Answer b t') h l s = refl
like_seen R root t t' h l s = absurd h

-- a joined outcome counts no more steps than the limit

abbrev pub WithinLimit : ℕ → Outcome → Type 0
WithinLimit l (Fine n) = n ≤ l
WithinLimit l (Raise e n) = n ≤ l
WithinLimit l Limit = ⊤
WithinLimit l Starved = ⊤
WithinLimit l NoMemory = ⊤

tested : (a l : ℕ) (b : Bool) (o : Outcome) → nat_le a l ≡ b → (nat_le a l ≡ true → WithinLimit l o) → WithinLimit l (if b then o else Limit)
tested a l true o e h = h e
tested a l false o e h = tt

pub walk_within : (l u : ℕ) (os : List Outcome) → u ≤ l → WithinLimit l (walk l u os)
walk_within l u [] h = h
walk_within l u (Fine n ∷ os) h = tested (u + n) l (nat_le (u + n) l) (walk l (u + n) os) refl (λ e. walk_within l (u + n) os (test_le (u + n) l e))
walk_within l u (Raise e n ∷ os) h = tested (u + n) l (nat_le (u + n) l) (Raise e (u + n)) refl (λ q. test_le (u + n) l q)
walk_within l u (Limit ∷ os) h = tt
walk_within l u (Starved ∷ os) h = tt
walk_within l u (NoMemory ∷ os) h = tt

lacking : (b : Bool) (l : ℕ) (o : Outcome) → WithinLimit l o → WithinLimit l (if b then NoMemory else o)
lacking true l o h = tt
lacking false l o h = h

pub joined_limit : (l : ℕ) (os : List Outcome) → WithinLimit l (joined l os)
joined_limit l os = lacking (lacks_memory os) l (walk l 0 os) (walk_within l 0 os (omega arith))

pub joined_within : (l : ℕ) (os : List Outcome) (n : ℕ) → joined l os ≡ Fine n → n ≤ l
joined_within l os n h = subst (λ o. WithinLimit l o) h (joined_limit l os)

pub joined_raise_within : (l : ℕ) (os : List Outcome) (e n : ℕ) → joined l os ≡ Raise e n → n ≤ l
joined_raise_within l os e n h = subst (λ o. WithinLimit l o) h (joined_limit l os)

-- outcomes that are not for want of memory

abbrev pub HasMemory : Outcome → Type 0
HasMemory (Fine n) = ⊤
HasMemory (Raise e n) = ⊤
HasMemory Limit = ⊤
HasMemory Starved = ⊤
HasMemory NoMemory = ⊥

pub has_memory : (o : Outcome) → HasMemory o → o ≢ NoMemory
has_memory (Fine n) h e = absurd (cc)
has_memory (Raise x n) h e = absurd (cc)
has_memory Limit h e = absurd (cc)
has_memory Starved h e = absurd (cc)
has_memory NoMemory h e = absurd h

pub one_with_memory : (o : Outcome) (os : List Outcome) → HasMemory o → lacks_memory os ≡ false → lacks_memory (o ∷ os) ≡ false
one_with_memory (Fine n) os h e = e
one_with_memory (Raise x n) os h e = e
one_with_memory Limit os h e = e
one_with_memory Starved os h e = e
one_with_memory NoMemory os h e = absurd h

either_has : (b : Bool) (o : Outcome) → HasMemory o → HasMemory (if b then o else Limit)
either_has true o h = h
either_has false o h = tt

pub walk_has : (l u : ℕ) (os : List Outcome) → lacks_memory os ≡ false → HasMemory (walk l u os)
walk_has l u [] h = tt
walk_has l u (Fine n ∷ os) h = either_has (nat_le (u + n) l) (walk l (u + n) os) (walk_has l (u + n) os h)
walk_has l u (Raise e n ∷ os) h = either_has (nat_le (u + n) l) (Raise e (u + n)) tt
walk_has l u (Limit ∷ os) h = tt
walk_has l u (Starved ∷ os) h = tt
walk_has l u (NoMemory ∷ os) h = absurd (cc)

pub joined_walk : (l : ℕ) (os : List Outcome) → lacks_memory os ≡ false → joined l os ≡ walk l 0 os
joined_walk l os h = ap (λ b. if b then NoMemory else walk l 0 os) h

pub going_has : (o : Outcome) (s : ℕ) (next : ℕ → Script) → HasMemory o → ((u : ℕ) → HasMemory (end_of (next u))) → HasMemory (end_of (going o s next))
going_has (Fine u) s next h k = k u
going_has (Raise e n) s next h k = tt
going_has Limit s next h k = tt
going_has Starved s next h k = tt
going_has NoMemory s next h k = absurd h
