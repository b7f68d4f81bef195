-- The end of a script is what its course shows with the conjuncts one behind the other.
use Rattle.std.proofs.Common.{◌≡◌, ◌≢◌, ℕ, zero, suc, ◌+◌, ◌-◌, Bool, true, false, if◌then◌else◌, List, ◌∷◌, ◌++◌, refl, ap, sym, subst, ◌∙◌, arith}
use Rattle.std.specs.Prelude.{nat_le}
use Rattle.merc_script.specs.declared.outcome.Outcome.{Outcome}
use Rattle.merc_script.specs.declared.outcome.Outcome.TheVariants.{Ok as Fine, Raise, Limit, Starved, NoMemory}
use Rattle.merc_script.specs.Script.{Script, Ends, end_of, ends}
use Rattle.merc_script.specs.Joining.{walk, lacks_memory, joined}
use Rattle.merc_core.specs.Rights.{has, without, moved}
use Rattle.merc_plan.specs.Branch.{Hold, Fork, BranchCourse, BranchCourses, Over, Breaks, Steps, Finds, Awaits, Gives, Forks, no_branches, more_branches, Raised, TooDeep, Starving, names}
use Rattle.merc_plan.specs.BranchScript.{those_of, signalled, all_signalled, going, script, scripts}
use Rattle.merc_plan.proofs.Flat.{Flat, Done, Answer, seen}
use Rattle.merc_plan.proofs.Judging.{flat, flats, marks, all_marks, AllAnswer, Served, AllServed, Sure, AllSure}
use Rattle.merc_plan.proofs.Walks.{onward, end_going, stays, first_step, answers_of, HasMemory, has_memory, one_with_memory, walk_has, joined_walk, going_has}

-- no script of a course ends for want of memory

waited_has : (b : Bool) (r : Script) → HasMemory (end_of r) → HasMemory (end_of (if b then r else Ends Starved))
waited_has true r h = h
waited_has false r h = tt

mutual
  pub memory_law : (root : Bool) (t : BranchCourse) (l s : ℕ) (g : List ℕ) → HasMemory (end_of (script root l s g t))
  memory_law root Over l s g = tt
  memory_law root (Breaks (Raised e)) l s g = tt
  memory_law root (Breaks TooDeep) l s g = tt
  memory_law root (Breaks Starving) l s g = tt
  memory_law root (Steps t) zero s g = tt
  memory_law root (Steps t) (suc l) s g = memory_law root t l (suc s) g
  memory_law true (Finds hold t) l s g = memory_law true t l s g
  memory_law false (Finds hold t) l s g = tt
  memory_law root (Awaits c v t) l s g = waited_has (has c g) (script root l s g t) (memory_law root t l s g)
  memory_law root (Gives c v t) l s g = memory_law root t l s g
  memory_law root (Forks i x ks t) l s g =
      going_has (joined l (ends (scripts l (without (names x.cells) g) ks))) s
      (λ u. script root (l - u) (s + u) (without (names x.cells) g ++ all_signalled (scripts l (without (names x.cells) g) ks)) t)
      (subst (λ o. HasMemory o) (sym (joined_walk l (ends (scripts l (without (names x.cells) g) ks)) (kids_memory ks l (without (names x.cells) g))))
      (walk_has l 0 (ends (scripts l (without (names x.cells) g) ks)) (kids_memory ks l (without (names x.cells) g))))
      (λ u. memory_law root t (l - u) (s + u) (without (names x.cells) g ++ all_signalled (scripts l (without (names x.cells) g) ks)))

  pub kids_memory : (ks : BranchCourses) (l : ℕ) (g : List ℕ) → lacks_memory (ends (scripts l g ks)) ≡ false
  kids_memory no_branches l g = refl
  kids_memory (more_branches t more) l g =
      one_with_memory (end_of (script false l 0 g t)) (ends (scripts l (g ++ signalled (script false l 0 g t)) more)) (memory_law false t l 0 g)
      (kids_memory more l (g ++ signalled (script false l 0 g t)))

pub no_memory : (root : Bool) (t : BranchCourse) (l s : ℕ) (g : List ℕ) → end_of (script root l s g t) ≢ NoMemory
no_memory root t l s g = has_memory (end_of (script root l s g t)) (memory_law root t l s g)

-- .. so that the walk from the left decides
pub joined_is_walk : (ks : BranchCourses) (l : ℕ) (g : List ℕ) → joined l (ends (scripts l g ks)) ≡ walk l 0 (ends (scripts l g ks))
joined_is_walk ks l g = joined_walk l (ends (scripts l g ks)) (kids_memory ks l g)

pub record GoesFine (o : Outcome) (s n : ℕ) (next : ℕ → Script) : Type 0 where
  pub steps : ℕ
  pub is_fine : o ≡ Fine steps
  pub next_fine : end_of (next steps) ≡ Fine n

pub going_fine : (o : Outcome) (s n : ℕ) (next : ℕ → Script) → end_of (going o s next) ≡ Fine n → GoesFine o s n next
going_fine (Fine u) s n next h = record { steps = u; is_fine = refl; next_fine = h }
going_fine (Raise e k) s n next h = absurd (cc)
going_fine Limit s n next h = absurd (cc)
going_fine Starved s n next h = absurd (cc)
going_fine NoMemory s n next h = absurd (cc)

pub record WalksFine (l u n : ℕ) (o : Outcome) (os : List Outcome) : Type 0 where
  pub steps : ℕ
  pub is_fine : o ≡ Fine steps
  pub rest : walk l (u + steps) os ≡ Fine n

walk_head : (b : Bool) (l u k n : ℕ) (os : List Outcome) → (if b then walk l (u + k) os else Limit) ≡ Fine n → walk l (u + k) os ≡ Fine n
walk_head true l u k n os h = h
walk_head false l u k n os h = absurd (cc)

raise_head : {A : Type 0} (b : Bool) (e k n : ℕ) → (if b then Raise e k else Limit) ≡ Fine n → A
raise_head true e k n h = absurd (cc)
raise_head false e k n h = absurd (cc)

pub walk_fine : (l u n : ℕ) (o : Outcome) (os : List Outcome) → walk l u (o ∷ os) ≡ Fine n → WalksFine l u n o os
walk_fine l u n (Fine k) os h = record { steps = k; is_fine = refl; rest = walk_head (nat_le (u + k) l) l u k n os h }
walk_fine l u n (Raise e k) os h = raise_head (nat_le (u + k) l) e (u + k) n h
walk_fine l u n Limit os h = absurd (cc)
walk_fine l u n Starved os h = absurd (cc)
walk_fine l u n NoMemory os h = absurd (cc)

left_of : (l n m : ℕ) → n + m ≡ l → l - n ≡ m
left_of l n m h = omega (arith, h)

plus_none : (s : ℕ) → s + 0 ≡ s
plus_none s = omega arith

none_plus : (l : ℕ) → 0 + l ≡ l
none_plus l = omega arith

none_before : (n : ℕ) → 0 + n ≡ n
none_before n = omega arith

none_out : (o : Outcome) → onward o 0 (λ u. Fine u) ≡ o
none_out (Fine u) = refl
none_out (Raise e n) = ap (λ x. Raise e x) (none_before n)
none_out Limit = refl
none_out Starved = refl
none_out NoMemory = refl

module _ (Holds : Fork → BranchCourses → Type 0) where
  mutual
    -- the end of a script is what the trace shows
    pub end_law : (root : Bool) (t : BranchCourse) (l s : ℕ) (g : List ℕ) → Served root g t → Sure Holds t → end_of (script root l s g t) ≡ seen root l s (flat t)
    end_law root Over l s g sv su = refl
    end_law root (Breaks (Raised e)) l s g sv su = refl
    end_law root (Breaks TooDeep) l s g sv su = refl
    end_law root (Breaks Starving) l s g sv su = refl
    end_law root (Steps t) zero s g sv su = refl
    end_law root (Steps t) (suc l) s g sv su = end_law root t l (suc s) g sv su
    end_law true (Finds hold t) l s g sv su = end_law true t l s g sv su
    end_law false (Finds hold t) l s g sv su = refl
    end_law root (Awaits c v t) l s g sv su = ap (λ b. end_of (if b then script root l s g t else Ends Starved)) sv.0 ∙ end_law root t l s g sv.1 su
    end_law root (Gives c v t) l s g sv su = end_law root t l s g sv su
    end_law root (Forks i x ks t) l s g sv su =
        (ap (λ o. end_of (going o s
        (λ u. script root (l - u) (s + u) (without (names x.cells) g ++ all_signalled (scripts l (without (names x.cells) g) ks)) t)))
        (joined_is_walk ks l (without (names x.cells) g))
        ∙ (end_going (walk l 0 (ends (scripts l (without (names x.cells) g) ks))) s
        (λ u. script root (l - u) (s + u) (without (names x.cells) g ++ all_signalled (scripts l (without (names x.cells) g) ks)) t)
        ∙ kids_law root ks l 0 s l (none_plus l) (without (names x.cells) g) sv.0 su.1.0 (flat t)
        (λ u. end_of (script root (l - u) (s + u) (without (names x.cells) g ++ all_signalled (scripts l (without (names x.cells) g) ks)) t))
        (λ n m e h. end_law root t (l - n) (s + n) (without (names x.cells) g ++ all_signalled (scripts l (without (names x.cells) g) ks))
        (subst (λ y. Served root (without (names x.cells) g ++ y) t) (sym (fine_kids ks l 0 n (without (names x.cells) g) sv.0 su.1.0 h).0)
        (sv.1 (fine_kids ks l 0 n (without (names x.cells) g) sv.0 su.1.0 h).1))
        (su.1.1 (fine_kids ks l 0 n (without (names x.cells) g) sv.0 su.1.0 h).1)
        ∙ ap (λ y. seen root y (s + n) (flat t)) (left_of l n m e))))
        ∙ ap (λ y. seen root l y (flats ks (flat t))) (plus_none s)

    pub kids_law : (root : Bool) (ks : BranchCourses) (m u s l : ℕ) → u + m ≡ l → (g : List ℕ) → AllServed g ks → AllSure Holds ks → (w : Flat Hold) (k : ℕ → Outcome)
        → ((n b : ℕ) → n + b ≡ l → walk l u (ends (scripts l g ks)) ≡ Fine n → k n ≡ seen root b (s + n) w)
        → onward (walk l u (ends (scripts l g ks))) s k ≡ seen root m (s + u) (flats ks w)
    kids_law root no_branches m u s l e g sv su w k h = h u m e refl
    kids_law root (more_branches t more) m u s l e g sv su w k h =
        ap (λ o. onward (walk l u (o ∷ ends (scripts l (g ++ signalled (script false l 0 g t)) more))) s k) (end_law false t l 0 g sv.0 su.0)
        ∙ first_step root (flat t) su.1.0 m u l e (ends (scripts l (g ++ signalled (script false l 0 g t)) more)) s k (flats more w)
        (λ a b q e'. kids_law root more b (u + a) s l e' (g ++ signalled (script false l 0 g t))
        (subst (λ x. AllServed (g ++ x) more) (sym (fine_law t l 0 a g sv.0 su.0 (end_law false t l 0 g sv.0 su.0 ∙ q)))
        (sv.1 (answers_of (flat t) su.1.0 l 0 a q)))
        (su.1.1 (answers_of (flat t) su.1.0 l 0 a q)) w k
        (λ n c f r. h n c f (ap (λ o. walk l u (o ∷ ends (scripts l (g ++ signalled (script false l 0 g t)) more))) (end_law false t l 0 g sv.0 su.0 ∙ q)
        ∙ (stays (u + a) l (walk l (u + a) (ends (scripts l (g ++ signalled (script false l 0 g t)) more))) Limit (omega (arith, e')) ∙ r))))

    -- a conjunct's script that ends well signals all that its course signals
    pub fine_law : (t : BranchCourse) (l s n : ℕ) (g : List ℕ) → Served false g t → Sure Holds t → end_of (script false l s g t) ≡ Fine n
        → signalled (script false l s g t) ≡ marks t
    fine_law Over l s n g sv su h = refl
    fine_law (Breaks (Raised e)) l s n g sv su h = refl
    fine_law (Breaks TooDeep) l s n g sv su h = refl
    fine_law (Breaks Starving) l s n g sv su h = refl
    fine_law (Steps t) zero s n g sv su h = absurd (cc)
    fine_law (Steps t) (suc l) s n g sv su h = fine_law t l (suc s) n g sv su h
    fine_law (Finds hold t) l s n g sv su h = refl
    fine_law (Awaits c v t) l s n g sv su h =
        ap (λ b. signalled (if b then script false l s g t else Ends Starved)) sv.0
        ∙ fine_law t l s n g sv.1 su (sym (ap (λ b. end_of (if b then script false l s g t else Ends Starved)) sv.0) ∙ h)
    fine_law (Gives c v t) l s n g sv su h = ap (λ x. c ∷ x) (fine_law t l s n g sv su h)
    fine_law (Forks i x ks t) l s n g sv su h =
        let f = going_fine (joined l (ends (scripts l (without (names x.cells) g) ks))) s n
        (λ u. script false (l - u) (s + u) (without (names x.cells) g ++ all_signalled (scripts l (without (names x.cells) g) ks)) t) h in
        let q = fine_kids ks l 0 f.steps (without (names x.cells) g) sv.0 su.1.0 (sym (joined_is_walk ks l (without (names x.cells) g)) ∙ f.is_fine) in
        ap (λ o. those_of (all_signalled (scripts l (without (names x.cells) g) ks)) (moved true x.moves) ++ signalled (going o s
        (λ u. script false (l - u) (s + u) (without (names x.cells) g ++ all_signalled (scripts l (without (names x.cells) g) ks)) t))) f.is_fine
        ∙ (ap (λ y. those_of y (moved true x.moves)
        ++ signalled (script false (l - f.steps) (s + f.steps) (without (names x.cells) g ++ all_signalled (scripts l (without (names x.cells) g) ks)) t)) q.0
        ∙ ap (λ y. those_of (all_marks ks) (moved true x.moves) ++ y)
        (fine_law t (l - f.steps) (s + f.steps) n (without (names x.cells) g ++ all_signalled (scripts l (without (names x.cells) g) ks))
        (subst (λ y. Served false (without (names x.cells) g ++ y) t) (sym q.0) (sv.1 q.1)) (su.1.1 q.1) f.next_fine))

    pub fine_kids : (ks : BranchCourses) (l u n : ℕ) (g : List ℕ) → AllServed g ks → AllSure Holds ks → walk l u (ends (scripts l g ks)) ≡ Fine n
        → (all_signalled (scripts l g ks) ≡ all_marks ks) × AllAnswer ks
    fine_kids no_branches l u n g sv su h = (refl, tt)
    fine_kids (more_branches t more) l u n g sv su h =
        let f = walk_fine l u n (end_of (script false l 0 g t)) (ends (scripts l (g ++ signalled (script false l 0 g t)) more)) h in
        let a = answers_of (flat t) su.1.0 l 0 f.steps (sym (end_law false t l 0 g sv.0 su.0) ∙ f.is_fine) in
        let p = fine_law t l 0 f.steps g sv.0 su.0 f.is_fine in
        let q = fine_kids more l (u + f.steps) n (g ++ signalled (script false l 0 g t)) (subst (λ x. AllServed (g ++ x) more) (sym p) (sv.1 a))
        (su.1.1 a) f.rest in
        (ap (λ x. x ++ all_signalled (scripts l (g ++ signalled (script false l 0 g t)) more)) p ∙ ap (λ x. marks t ++ x) q.0, (a, q.1))

  -- a fork that joins well has conjuncts that all answer and signal what they are to signal
  pub fine_joined : (ks : BranchCourses) (l n : ℕ) (g : List ℕ) → AllServed g ks → AllSure Holds ks → joined l (ends (scripts l g ks)) ≡ Fine n
      → (all_signalled (scripts l g ks) ≡ all_marks ks) × AllAnswer ks
  fine_joined ks l n g sv su h = fine_kids ks l 0 n g sv su (sym (joined_is_walk ks l g) ∙ h)

  -- the outcomes of a fork's conjuncts join to what they show one behind the other
  pub joined_law : (kids : BranchCourses) (l : ℕ) (g : List ℕ) (hold : Hold) → AllServed g kids → AllSure Holds kids
      → joined l (ends (scripts l g kids)) ≡ seen false l 0 (flats kids (Answer hold Done))
  joined_law kids l g hold sv su =
      joined_is_walk kids l g
      ∙ (sym (none_out (walk l 0 (ends (scripts l g kids))))
      ∙ kids_law false kids l 0 0 l (none_plus l) g sv su (Answer hold Done) (λ u. Fine u) (λ n b e h. ap Fine (sym (none_before n))))
