-- Traces that are alike, and what the combinators make of them.
use Rattle.std.proofs.Common.{◌≡◌, ℕ, zero, suc, Bool, true, false, refl, ap, sym, subst, ◌∙◌}
use Rattle.merc_plan.specs.Branch.{Halt, Raised, TooDeep, Starving}
use Rattle.merc_plan.proofs.Flat.{Flat, Done, Halts, Tick, Answer, Det, Answers, NotDone, Each, Enough, Like, behind, after, each, taken, first_alone, choose, negated, once_if, seen}

pub like_after : {A B : Type 0} (R : A → B → Type 0) (t : Flat A) (t' : Flat B) (u : Flat A) (u' : Flat B) → Like R t t' → Like R u u' → Like R (after t u) (after t' u')
like_after R Done Done u u' h k = k
like_after R (Halts g) (Halts g') u u' h k = h
like_after R (Tick t) (Tick t') u u' h k = like_after R t t' u u' h k
like_after R (Answer a t) (Answer b t') u u' h k = (h.0, like_after R t t' u u' h.1 k)
like_after R t t' u u' h k = absurd h

pub like_each : {A B C D : Type 0} (R : A → B → Type 0) (Q : C → D → Type 0) (f : A → Flat C) (f' : B → Flat D) → ((a : A) (b : B) → R a b → Like Q (f a) (f' b))
    → (t : Flat A) (t' : Flat B) → Like R t t' → Like Q (each f t) (each f' t')
like_each R Q f f' s Done Done h = tt
like_each R Q f f' s (Halts g) (Halts g') h = h
like_each R Q f f' s (Tick t) (Tick t') h = like_each R Q f f' s t t' h
like_each R Q f f' s (Answer a t) (Answer b t') h = like_after Q (f a) (f' b) (each f t) (each f' t') (s a b h.0) (like_each R Q f f' s t t' h.1)
like_each R Q f f' s t t' h = absurd h

pub like_taken : {A B C D : Type 0} (R : A → B → Type 0) (Q : C → D → Type 0) (f : A → C) (f' : B → D) → ((a : A) (b : B) → R a b → Q (f a) (f' b))
    → (t : Flat A) (t' : Flat B) → Like R t t' → Like Q (taken f t) (taken f' t')
like_taken R Q f f' s Done Done h = tt
like_taken R Q f f' s (Halts g) (Halts g') h = h
like_taken R Q f f' s (Tick t) (Tick t') h = like_taken R Q f f' s t t' h
like_taken R Q f f' s (Answer a t) (Answer b t') h = (s a b h.0, like_taken R Q f f' s t t' h.1)
like_taken R Q f f' s t t' h = absurd h

pub like_first : {A B : Type 0} (R : A → B → Type 0) (t : Flat A) (t' : Flat B) → Like R t t' → Like R (first_alone t) (first_alone t')
like_first R Done Done h = tt
like_first R (Halts g) (Halts g') h = h
like_first R (Tick t) (Tick t') h = like_first R t t' h
like_first R (Answer a t) (Answer b t') h = (h.0, tt)
like_first R t t' h = absurd h

pub like_once : {A B : Type 0} (R : A → B → Type 0) (b : Bool) (t : Flat A) (t' : Flat B) → Like R t t' → Like R (once_if b t) (once_if b t')
like_once R true t t' h = like_first R t t' h
like_once R false t t' h = h

pub like_choose : {A B C D : Type 0} (R : A → B → Type 0) (Q : C → D → Type 0) (f : A → Flat C) (f' : B → Flat D) → ((a : A) (b : B) → R a b → Like Q (f a) (f' b))
    → (u : Flat C) (u' : Flat D) → Like Q u u' → (t : Flat A) (t' : Flat B) → Like R t t' → Like Q (choose f u t) (choose f' u' t')
like_choose R Q f f' s u u' k Done Done h = k
like_choose R Q f f' s u u' k (Halts g) (Halts g') h = h
like_choose R Q f f' s u u' k (Tick t) (Tick t') h = like_choose R Q f f' s u u' k t t' h
like_choose R Q f f' s u u' k (Answer a t) (Answer b t') h = like_after Q (f a) (f' b) (each f t) (each f' t') (s a b h.0) (like_each R Q f f' s t t' h.1)
like_choose R Q f f' s u u' k t t' h = absurd h

pub like_negated : {A B C D : Type 0} (R : A → B → Type 0) (Q : C → D → Type 0) (c : C) (d : D) → Q c d → (t : Flat A) (t' : Flat B) → Like R t t' → Like Q (negated c t) (negated d t')
like_negated R Q c d q Done Done h = (q, tt)
like_negated R Q c d q (Halts g) (Halts g') h = h
like_negated R Q c d q (Tick t) (Tick t') h = like_negated R Q c d q t t' h
like_negated R Q c d q (Answer a t) (Answer b t') h = tt
like_negated R Q c d q t t' h = absurd h

pub like_more : {A B : Type 0} (R Q : A → B → Type 0) → ((a : A) (b : B) → R a b → Q a b) → (t : Flat A) (t' : Flat B) → Like R t t' → Like Q t t'
like_more R Q s Done Done h = tt
like_more R Q s (Halts g) (Halts g') h = h
like_more R Q s (Tick t) (Tick t') h = like_more R Q s t t' h
like_more R Q s (Answer a t) (Answer b t') h = (s a b h.0, like_more R Q s t t' h.1)
like_more R Q s t t' h = absurd h

pub like_with : {A B : Type 0} (R : A → B → Type 0) (P : B → Type 0) (t : Flat A) (t' : Flat B) → Like R t t' → Each P t' → Like (λ a b. R a b × P b) t t'
like_with R P Done Done h e = tt
like_with R P (Halts g) (Halts g') h e = h
like_with R P (Tick t) (Tick t') h e = like_with R P t t' h e
like_with R P (Answer a t) (Answer b t') h e = ((h.0, e.0), like_with R P t t' h.1 e.1)
like_with R P t t' h e = absurd h

pub like_notdone : {A B : Type 0} (R : A → B → Type 0) (t : Flat A) (t' : Flat B) → Like R t t' → NotDone t' → NotDone t
like_notdone R Done Done h n = n
like_notdone R (Halts g) (Halts g') h n = tt
like_notdone R (Tick t) (Tick t') h n = like_notdone R t t' h n
like_notdone R (Answer a t) (Answer b t') h n = tt
like_notdone R t t' h n = absurd h

like_done : {A B : Type 0} (R : A → B → Type 0) (t : Flat A) → Like R t Done → t ≡ Done
like_done R Done h = refl
like_done R t h = absurd h

halts_det : (A B : Type 0) (g h : Halt) → g ≡ h → Det {A = B} (Halts h) → Det {A = A} (Halts g)
halts_det A B (Raised v) (Raised w) e d = tt
halts_det A B (Raised v) TooDeep e d = tt
halts_det A B (Raised v) Starving e d = absurd d
halts_det A B TooDeep (Raised w) e d = tt
halts_det A B TooDeep TooDeep e d = tt
halts_det A B TooDeep Starving e d = absurd d
halts_det A B Starving (Raised w) e d = absurd (cc)
halts_det A B Starving TooDeep e d = absurd (cc)
halts_det A B Starving Starving e d = d

pub like_det : {A B : Type 0} (R : A → B → Type 0) (t : Flat A) (t' : Flat B) → Like R t t' → Det t' → Det t
like_det R Done Done h d = d
like_det {A = A} {B = B} R (Halts g) (Halts g') h d = halts_det A B g g' h d
like_det R (Tick t) (Tick t') h d = like_det R t t' h d
like_det R (Answer a t) (Answer b t') h d = like_done R t (subst (λ x. Like R t x) d h.1)
like_det R t t' h d = absurd h

pub like_back : {A B : Type 0} (R : A → B → Type 0) (t : Flat A) (t' : Flat B) → Like R t t' → Like (λ b a. R a b) t' t
like_back R Done Done h = tt
like_back R (Halts g) (Halts g') h = sym h
like_back R (Tick t) (Tick t') h = like_back R t t' h
like_back R (Answer a t) (Answer b t') h = (h.0, like_back R t t' h.1)
like_back R t t' h = absurd h

halts_enough : (A B : Type 0) (l : ℕ) (g h : Halt) → g ≡ h → Enough {A = A} l (Halts g) → Enough {A = B} l (Halts h)
halts_enough A B l (Raised v) (Raised w) e k = tt
halts_enough A B l (Raised v) TooDeep e k = absurd (cc)
halts_enough A B l (Raised v) Starving e k = tt
halts_enough A B l TooDeep h e k = absurd k
halts_enough A B l Starving (Raised w) e k = tt
halts_enough A B l Starving TooDeep e k = absurd (cc)
halts_enough A B l Starving Starving e k = tt

pub like_enough : {A B : Type 0} (R : A → B → Type 0) (t : Flat A) (t' : Flat B) → Like R t t' → (l : ℕ) → Enough l t → Enough l t'
like_enough R Done Done h l k = tt
like_enough {A = A} {B = B} R (Halts g) (Halts g') h l k = halts_enough A B l g g' h k
like_enough R (Tick t) (Tick t') h zero k = tt
like_enough R (Tick t) (Tick t') h (suc l) k = like_enough R t t' h l k
like_enough R (Answer a t) (Answer b t') h l k = like_enough R t t' h.1 l k
like_enough R t t' h l k = absurd h

seen_any : (A B : Type 0) (root : Bool) (l s : ℕ) (h : Halt) → seen {A = A} root l s (Halts h) ≡ seen {A = B} root l s (Halts h)
seen_any A B true l s (Raised v) = refl
seen_any A B false l s (Raised v) = refl
seen_any A B true l s TooDeep = refl
seen_any A B false l s TooDeep = refl
seen_any A B true l s Starving = refl
seen_any A B false l s Starving = refl

seen_done : (A B : Type 0) (root : Bool) (l s : ℕ) → seen {A = A} root l s Done ≡ seen {A = B} root l s Done
seen_done A B true l s = refl
seen_done A B false l s = refl

seen_stop : (A B : Type 0) (root : Bool) (s : ℕ) (t : Flat A) (u : Flat B) → seen root zero s (Tick t) ≡ seen root zero s (Tick u)
seen_stop A B true s t u = refl
seen_stop A B false s t u = refl

pub like_seen : {A B : Type 0} (R : A → B → Type 0) (t : Flat A) (t' : Flat B) → Like R t t' → (root : Bool) (l s : ℕ) → seen root l s t ≡ seen root l s t'
like_seen {A = A} {B = B} R Done Done h root l s = seen_done A B root l s
like_seen {A = A} {B = B} R (Halts g) (Halts g') h root l s = ap (λ x. seen {A = A} root l s (Halts x)) h ∙ seen_any A B root l s g'
like_seen {A = A} {B = B} R (Tick t) (Tick t') h root zero s = seen_stop A B root s t t'
like_seen R (Tick t) (Tick t') h true (suc l) s = like_seen R t t' h true l (suc s)
like_seen R (Tick t) (Tick t') h false (suc l) s = like_seen R t t' h false l (suc s)
like_seen R (Answer a t) (Answer b t') h true l s = like_seen R t t' h.1 true l s
like_seen R (Answer a t) (Answer b t') h false l s = refl
like_seen R t t' h root l s = absurd h

-- each answer is like one
pub like_answers : {A B : Type 0} (R : A → B → Type 0) (t : Flat A) (t' : Flat B) → Like R t t' → Each (λ a. (b : B) × R a b) t
like_answers R Done Done h = tt
like_answers R (Halts g) (Halts g') h = tt
like_answers R (Tick t) (Tick t') h = like_answers R t t' h
like_answers R (Answer a t) (Answer b t') h = ((b, h.0), like_answers R t t' h.1)
like_answers R t t' h = absurd h

pub each_more : {A : Type 0} (P Q : A → Type 0) → ((a : A) → P a → Q a) → (t : Flat A) → Each P t → Each Q t
each_more P Q s Done h = tt
each_more P Q s (Halts g) h = tt
each_more P Q s (Tick t) h = each_more P Q s t h
each_more P Q s (Answer a t) h = (s a h.0, each_more P Q s t h.1)

-- the one answer of a det conjunct
pub after_done : {A : Type 0} (t : Flat A) → after t Done ≡ t
after_done Done = refl
after_done (Halts h) = refl
after_done (Tick t) = ap (λ x. Tick x) (after_done t)
after_done (Answer a t) = ap (λ x. Answer a x) (after_done t)

-- behind the first answer of a det trace, against the answers replaced
pub like_behind : {A B C D : Type 0} (R : A → B → Type 0) (Q : C → D → Type 0) (f' : B → Flat D) (t : Flat A) (t' : Flat B) → Det t' → (w : Flat C) → Like R t t'
    → ((a : A) (b : B) → R a b → Answers t → Like Q w (f' b)) → Like Q (behind t w) (each f' t')
like_behind R Q f' Done Done d w h s = tt
like_behind R Q f' (Halts g) (Halts g') d w h s = h
like_behind R Q f' (Tick t) (Tick t') d w h s = like_behind R Q f' t t' d w h s
like_behind R Q f' (Answer a t) (Answer b t') d w h s = subst (λ x. Like Q w x) (sym (ap (λ x. after (f' b) (each f' x)) d ∙ after_done (f' b))) (s a b h.0 tt)
like_behind R Q f' t t' d w h s = absurd h

-- facts about each answer
pub each_all : {A : Type 0} (P : A → Type 0) → ((a : A) → P a) → (t : Flat A) → Each P t
each_all P s Done = tt
each_all P s (Halts h) = tt
each_all P s (Tick t) = each_all P s t
each_all P s (Answer a t) = (s a, each_all P s t)

pub each_and : {A : Type 0} (P Q : A → Type 0) (t : Flat A) → Each P t → Each Q t → Each (λ a. P a × Q a) t
each_and P Q Done h k = tt
each_and P Q (Halts g) h k = tt
each_and P Q (Tick t) h k = each_and P Q t h k
each_and P Q (Answer a t) h k = ((h.0, k.0), each_and P Q t h.1 k.1)

pub each_never : {A : Type 0} (b : Bool) (t : Flat A) → (b ≡ true → Each (λ x. ⊥) t) → Each (λ x. b ≡ true → ⊥) t
each_never true t h = each_more (λ x. ⊥) (λ x. true ≡ true → ⊥) (λ x k p. k) t (h refl)
each_never false t h = each_all (λ x. false ≡ true → ⊥) (λ x p. absurd (cc)) t

-- answers as they are, and where they are replaced in the same way
pub each_answer : {A : Type 0} (t : Flat A) → each (λ a. Answer a Done) t ≡ t
each_answer Done = refl
each_answer (Halts h) = refl
each_answer (Tick t) = ap (λ x. Tick x) (each_answer t)
each_answer (Answer a t) = ap (λ x. Answer a x) (each_answer t)

pub each_same : {A B : Type 0} (f h : A → Flat B) → ((a : A) → f a ≡ h a) → (t : Flat A) → each f t ≡ each h t
each_same f h s Done = refl
each_same f h s (Halts g) = refl
each_same f h s (Tick t) = ap (λ x. Tick x) (each_same f h s t)
each_same f h s (Answer a t) = ap (λ x. after x (each f t)) (s a) ∙ ap (λ x. after (h a) x) (each_same f h s t)

first_twice : {A : Type 0} (t : Flat A) → first_alone (first_alone t) ≡ first_alone t
first_twice Done = refl
first_twice (Halts h) = refl
first_twice (Tick t) = ap (λ x. Tick x) (first_twice t)
first_twice (Answer a t) = refl

pub once_twice : {A : Type 0} (b : Bool) (t : Flat A) → once_if b (once_if b t) ≡ once_if b t
once_twice true t = first_twice t
once_twice false t = refl
