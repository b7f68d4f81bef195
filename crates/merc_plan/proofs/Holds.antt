-- Courses that keep to their rights, under the combinators.
use Rattle.std.proofs.Common.{◌≡◌, ℕ, suc, ◌≤◌, ◌<◌, ◌⊎◌, inl, inr, Bool, true, false, if◌then◌else◌, List, [], ◌∷◌, ◌++◌, refl, ap, sym, subst, ◌∙◌, arith}
use Rattle.std.specs.Prelude.{⊤, Option, Some, None, nat_eq}
use Rattle.std.specs.List.{AllByRecursion}
use Rattle.merc_value.specs.Value.{Value}
use Rattle.merc_script.specs.declared.cells.Move.{Move}
use Rattle.merc_core.specs.Rights.{has, without, moved, moved_to}
use Rattle.merc_core.specs.WellFormed.{AreDistinct}
use Rattle.merc_plan.specs.Branch.{all_do_answer, NamedCell, Fork, Hold, BranchCourse, Over, Breaks, Steps, Finds, Awaits, Gives, Forks, BranchCourses, no_branches, more_branches, names, Gift, gift_at, gifts_through, gives, all_give, value_given, after, each, taken_back, first_alone, choose, negated}
use Rattle.merc_plan.specs.Branches.{once_if}
use Rattle.merc_plan.proofs.Flat.{Flat, Done, Halts, Tick, Answer, Answers, NotDone, Each, behind}
use Rattle.merc_plan.proofs.Answering.{all_behind, all_told, none_behind}
use Rattle.merc_plan.proofs.Judging.{flat, flats, AllAnswer, kid_count, uses, makes, signals_to, waits_to, MoveGoes, HoldsRight, SiteFits, OwnFits, Whole, anything, Keeps, AllKeep, Quiet}
use Rattle.merc_plan.proofs.Sets.{clash, tell, same_number, in_right, in_either, minus_keeps, minus_more, append_more, not_one, look_past, gifts_out, gifts_in, append_all, append_none, given_other, moved_move, moved_to_move, picked, each_true}

-- the rights to wait behind a fork
abbrev pub waits_past : Fork → List ℕ → List ℕ
waits_past x w = uses 0 x.cells ++ without (names x.cells) (without (moved false x.moves) w)

abbrev pub pending_past : Fork → List ℕ → List ℕ
pending_past x p = uses 0 x.cells ++ without (names x.cells) p

pub waits_more : (x : Fork) (w ws : List ℕ) → ((c : ℕ) → has c w ≡ true → has c ws ≡ true) → (c : ℕ) → has c (waits_past x w) ≡ true → has c (waits_past x ws) ≡ true
waits_more x w ws a c h =
    append_more (uses 0 x.cells) (without (names x.cells) (without (moved false x.moves) w)) (without (names x.cells) (without (moved false x.moves) ws))
    (λ d k. minus_more (names x.cells) (without (moved false x.moves) w) (without (moved false x.moves) ws) (λ e i. minus_more (moved false x.moves) w ws a e i) d k) c h

pub pending_more : (x : Fork) (p q : List ℕ) → ((c : ℕ) → has c p ≡ true → has c q ≡ true) → (c : ℕ) → has c (pending_past x p) ≡ true → has c (pending_past x q) ≡ true
pending_more x p q a c h =
    append_more (uses 0 x.cells) (without (names x.cells) p) (without (names x.cells) q) (λ d k. minus_more (names x.cells) p q a d k) c h

each_behind : (P : Hold → Type 0) (t w : Flat Hold) → Each P (behind t w) → Answers t → Each P w
each_behind P Done w e a = absurd a
each_behind P (Halts h) w e a = absurd a
each_behind P (Tick t) w e a = each_behind P t w e a
each_behind P (Answer b t) w e a = e

-- what is so of each answer is so of each behind the conjuncts of a fork
pub each_flats : (P : Hold → Type 0) (ks : BranchCourses) (w : Flat Hold) → Each P (flats ks w) → AllAnswer ks → Each P w
each_flats P no_branches w e a = e
each_flats P (more_branches t more) w e a = each_flats P more w (each_behind P (flat t) (flats more w) e a.0) a.1

module _ (proper : ℕ → Value → Type 0) (end : List ℕ → List Gift → Hold → Type 0) (rights : ℕ → Bool) where
  pub keeps_after : (t u : BranchCourse) (w : List ℕ) (g : List Gift) → Keeps proper end rights w g t → Keeps proper end rights w g (after t u)
  keeps_after Over u w g k = absurd k
  keeps_after (Breaks h) u w g k = tt
  keeps_after (Steps t) u w g k = keeps_after t u w g k
  keeps_after (Finds env t) u w g k = k
  keeps_after (Awaits c v t) u w g k = (k.0, keeps_after t u (without (c ∷ []) w) g k.1)
  keeps_after (Gives c v t) u w g k = (k.0, (k.1.0, keeps_after t u w (g ++ (record { cell = c; value = Some v } ∷ [])) k.1.1))
  keeps_after (Forks i x ks t) u w g k = (k.0, (k.1.0, λ a. keeps_after t u (waits_past x w) (g ++ gifts_through (moved true x.moves) (all_give ks)) (k.1.1 a)))

  pub keeps_each : (first : List ℕ → List Gift → Hold → Type 0) (f : Hold → BranchCourse) → ((w : List ℕ) (g : List Gift) (env : Hold) → first w g env → Keeps proper end rights w g (f env))
      → (t : BranchCourse) (w : List ℕ) (g : List Gift) → Keeps proper first rights w g t → Keeps proper end rights w g (each f t)
  keeps_each first f s Over w g k = absurd k
  keeps_each first f s (Breaks h) w g k = tt
  keeps_each first f s (Steps t) w g k = keeps_each first f s t w g k
  keeps_each first f s (Finds env t) w g k = keeps_after (f env) (each f t) w g (s w g env k)
  keeps_each first f s (Awaits c v t) w g k = (k.0, keeps_each first f s t (without (c ∷ []) w) g k.1)
  keeps_each first f s (Gives c v t) w g k = (k.0, (k.1.0, keeps_each first f s t w (g ++ (record { cell = c; value = Some v } ∷ [])) k.1.1))
  keeps_each first f s (Forks i x ks t) w g k = (k.0, (k.1.0, λ a. keeps_each first f s t (waits_past x w) (g ++ gifts_through (moved true x.moves) (all_give ks)) (k.1.1 a)))

  pub keeps_first : (t : BranchCourse) (w : List ℕ) (g : List Gift) → Keeps proper end rights w g t → Keeps proper end rights w g (first_alone t)
  keeps_first Over w g k = k
  keeps_first (Breaks h) w g k = tt
  keeps_first (Steps t) w g k = keeps_first t w g k
  keeps_first (Finds env t) w g k = k
  keeps_first (Awaits c v t) w g k = (k.0, keeps_first t (without (c ∷ []) w) g k.1)
  keeps_first (Gives c v t) w g k = (k.0, (k.1.0, keeps_first t w (g ++ (record { cell = c; value = Some v } ∷ [])) k.1.1))
  keeps_first (Forks i x ks t) w g k = (k.0, (k.1.0, λ a. keeps_first t (waits_past x w) (g ++ gifts_through (moved true x.moves) (all_give ks)) (k.1.1 a)))

  pub keeps_once : (b : Bool) (t : BranchCourse) (w : List ℕ) (g : List Gift) → Keeps proper end rights w g t → Keeps proper end rights w g (once_if b t)
  keeps_once true t w g k = keeps_first t w g k
  keeps_once false t w g k = k

  -- the end's fact from one that holds at it, and from one of each answer
  pub keeps_with : (first : List ℕ → List Gift → Hold → Type 0) (P : Hold → Type 0) → ((w : List ℕ) (g : List Gift) (env : Hold) → first w g env → P env → end w g env)
      → (t : BranchCourse) (w : List ℕ) (g : List Gift) → Keeps proper first rights w g t → Each P (flat t) → Keeps proper end rights w g t
  keeps_with first P s Over w g k e = k
  keeps_with first P s (Breaks h) w g k e = tt
  keeps_with first P s (Steps t) w g k e = keeps_with first P s t w g k e
  keeps_with first P s (Finds env t) w g k e = s w g env k e.0
  keeps_with first P s (Awaits c v t) w g k e = (k.0, keeps_with first P s t (without (c ∷ []) w) g k.1 e)
  keeps_with first P s (Gives c v t) w g k e = (k.0, (k.1.0, keeps_with first P s t w (g ++ (record { cell = c; value = Some v } ∷ [])) k.1.1 e))
  keeps_with first P s (Forks i x ks t) w g k e =
      (k.0, (k.1.0, λ a. keeps_with first P s t (waits_past x w) (g ++ gifts_through (moved true x.moves) (all_give ks)) (k.1.1 a) (each_flats P ks (flat t) e a)))

pub keeps_end : (proper : ℕ → Value → Type 0) (end first : List ℕ → List Gift → Hold → Type 0) (rights : ℕ → Bool) → ((w : List ℕ) (g : List Gift) (env : Hold) → first w g env → end w g env)
    → (t : BranchCourse) (w : List ℕ) (g : List Gift) → Keeps proper first rights w g t → Keeps proper end rights w g t
keeps_end proper end first rights s Over w g k = k
keeps_end proper end first rights s (Breaks h) w g k = tt
keeps_end proper end first rights s (Steps t) w g k = keeps_end proper end first rights s t w g k
keeps_end proper end first rights s (Finds env t) w g k = s w g env k
keeps_end proper end first rights s (Awaits c v t) w g k = (k.0, keeps_end proper end first rights s t (without (c ∷ []) w) g k.1)
keeps_end proper end first rights s (Gives c v t) w g k = (k.0, (k.1.0, keeps_end proper end first rights s t w (g ++ (record { cell = c; value = Some v } ∷ [])) k.1.1))
keeps_end proper end first rights s (Forks i x ks t) w g k =
    (k.0, (k.1.0, λ a. keeps_end proper end first rights s t (waits_past x w) (g ++ gifts_through (moved true x.moves) (all_give ks)) (k.1.1 a)))

-- what is proper for the cells that a conjunct may signal
abbrev pub kid_proper : (ℕ → Value → Type 0) → Fork → ℕ → Value → Type 0
kid_proper proper x c v = has c (names x.cells) ≡ false → proper c v

pub names_of_made : (c k : ℕ) (cs : List NamedCell) → has c (makes k cs) ≡ true → has c (names cs) ≡ true
names_of_made c k cs h = (picked (λ (one : NamedCell). one.cell) (λ (one : NamedCell). nat_eq one.producer k) (λ x. ⊤) c cs (each_true cs) h).listed

moved_proper : (proper more : ℕ → Value → Type 0) (x : Fork) (k n : ℕ) (rights : ℕ → Bool) (w : List ℕ) (g : List Gift) → SiteFits n rights g w x → ((c : ℕ) (v : Value) → rights c ≡ true → proper c v → more c v)
    → (c : ℕ) (v : Value) → has c (signals_to k x) ≡ true → kid_proper proper x c v → kid_proper more x c v
moved_proper proper more x k n rights w g f s c v r p o = on (in_either c (makes k x.cells) (moved_to k true x.moves) r)
  where
    on : (has c (makes k x.cells) ≡ true) ⊎ (has c (moved_to k true x.moves) ≡ true) → more c v
    on (inl h) = clash (has c (names x.cells)) (names_of_made c k x.cells h) o
    on (inr h) =
        let m = moved_to_move (MoveGoes n rights g w) k true c x.moves f.moves h in
        s c v (ap rights (sym m.1.1.0) ∙ (subst (λ (z : Bool). HoldsRight rights g w z m.0.cell) m.1.1.1.1 m.1.0.1.1).0) (p o)

mutual
  -- more is proper for the cells that a course has the right to signal
  pub keeps_proper : (proper more : ℕ → Value → Type 0) (end : List ℕ → List Gift → Hold → Type 0) (rights : ℕ → Bool) → ((c : ℕ) (v : Value) → rights c ≡ true → proper c v → more c v)
      → (t : BranchCourse) (w : List ℕ) (g : List Gift) → Keeps proper end rights w g t → Keeps more end rights w g t
  keeps_proper proper more end rights s Over w g k = k
  keeps_proper proper more end rights s (Breaks h) w g k = tt
  keeps_proper proper more end rights s (Steps t) w g k = keeps_proper proper more end rights s t w g k
  keeps_proper proper more end rights s (Finds env t) w g k = k
  keeps_proper proper more end rights s (Awaits c v t) w g k = (k.0, keeps_proper proper more end rights s t (without (c ∷ []) w) g k.1)
  keeps_proper proper more end rights s (Gives c v t) w g k =
      ((s c v k.0.1 k.0.0, k.0.1), (k.1.0, keeps_proper proper more end rights s t w (g ++ (record { cell = c; value = Some v } ∷ [])) k.1.1))
  keeps_proper proper more end rights s (Forks i x ks t) w g k = (
    k.0,
    (
      all_proper proper more x 1 ks (kid_count ks) rights w g k.0 s k.1.0,
      λ a. keeps_proper proper more end rights s t (waits_past x w) (g ++ gifts_through (moved true x.moves) (all_give ks)) (k.1.1 a),
    ),
  )

  pub all_proper : (proper more : ℕ → Value → Type 0) (x : Fork) (k : ℕ) (ks : BranchCourses) (n : ℕ) (rights : ℕ → Bool) (w : List ℕ) (g : List Gift) → SiteFits n rights g w x
      → ((c : ℕ) (v : Value) → rights c ≡ true → proper c v → more c v) → AllKeep proper x k ks → AllKeep more x k ks
  all_proper proper more x k no_branches n rights w g f s p = tt
  all_proper proper more x k (more_branches t rest) n rights w g f s p = (
    keeps_proper (kid_proper proper x) (kid_proper more x) (Whole (λ c. has c (signals_to k x))) (λ c. has c (signals_to k x)) (moved_proper proper more x k n rights w g f s) t (waits_to k x) [] p.0,
    all_proper proper more x (suc k) rest n rights w g f s p.1,
  )

-- what is proper may be more
pub keeps_weaker : (proper more : ℕ → Value → Type 0) (end : List ℕ → List Gift → Hold → Type 0) (rights : ℕ → Bool) → ((c : ℕ) (v : Value) → proper c v → more c v)
    → (t : BranchCourse) (w : List ℕ) (g : List Gift) → Keeps proper end rights w g t → Keeps more end rights w g t
keeps_weaker proper more end rights s t w g k = keeps_proper proper more end rights (λ c v r p. s c v p) t w g k

pub notdone_behind : (t w : Flat Hold) → NotDone (behind t w) → Answers t → NotDone w
notdone_behind Done w n a = absurd a
notdone_behind (Halts h) w n a = absurd a
notdone_behind (Tick t) w n a = notdone_behind t w n a
notdone_behind (Answer b t) w n a = n

pub notdone_flats : (ks : BranchCourses) (w : Flat Hold) → NotDone (flats ks w) → AllAnswer ks → NotDone w
notdone_flats no_branches w n a = n
notdone_flats (more_branches t more) w n a = notdone_flats more w (notdone_behind (flat t) (flats more w) n a.0) a.1

-- quiet courses
module _ (next : ℕ) where
  pub quiet_more : (t : BranchCourse) (p q : List ℕ) → ((d : ℕ) → has d p ≡ true → has d q ≡ true) → Quiet next p t → Quiet next q t
  quiet_more Over p q s h = tt
  quiet_more (Breaks g) p q s h = tt
  quiet_more (Steps t) p q s h = quiet_more t p q s h
  quiet_more (Finds env t) p q s h = h
  quiet_more (Awaits c v t) p q s h = (s c h.0, (h.1.0, quiet_more t (without (c ∷ []) p) (without (c ∷ []) q) (λ d k. minus_more (c ∷ []) p q s d k) h.1.1))
  quiet_more (Gives c v t) p q s h = absurd h
  quiet_more (Forks i x ks t) p q s h = (h.0, (h.1.0, (h.1.1.0, λ a. quiet_more t (pending_past x p) (pending_past x q) (λ d k. pending_more x p q s d k) (h.1.1.1 a))))

  pub quiet_any : (t : BranchCourse) (q : List ℕ) → Quiet next [] t → Quiet next q t
  quiet_any t q h = quiet_more t [] q (λ d k. absurd (cc)) h

  pub quiet_after : (t u : BranchCourse) (p : List ℕ) → Quiet next p t → Quiet next [] u → Quiet next p (after t u)
  quiet_after Over u p h k = quiet_any u p k
  quiet_after (Breaks g) u p h k = tt
  quiet_after (Steps t) u p h k = quiet_after t u p h k
  quiet_after (Finds env t) u p h k = quiet_after t u [] h k
  quiet_after (Awaits c v t) u p h k = (h.0, (h.1.0, quiet_after t u (without (c ∷ []) p) h.1.1 k))
  quiet_after (Gives c v t) u p h k = absurd h
  quiet_after (Forks i x ks t) u p h k = (h.0, (h.1.0, (h.1.1.0, λ a. quiet_after t u (pending_past x p) (h.1.1.1 a) k)))

  pub quiet_each : (f : Hold → BranchCourse) (t : BranchCourse) (p : List ℕ) → Quiet next p t → Each (λ env. Quiet next [] (f env)) (flat t) → Quiet next p (each f t)
  quiet_each f Over p h e = tt
  quiet_each f (Breaks g) p h e = tt
  quiet_each f (Steps t) p h e = quiet_each f t p h e
  quiet_each f (Finds env t) p h e = quiet_after (f env) (each f t) p (quiet_any (f env) p e.0) (quiet_each f t [] h e.1)
  quiet_each f (Awaits c v t) p h e = (h.0, (h.1.0, quiet_each f t (without (c ∷ []) p) h.1.1 e))
  quiet_each f (Gives c v t) p h e = absurd h
  quiet_each f (Forks i x ks t) p h e = (h.0, (h.1.0, (h.1.1.0, λ a. quiet_each f t (pending_past x p) (h.1.1.1 a) (each_flats (λ env. Quiet next [] (f env)) ks (flat t) e a))))

  pub quiet_choose : (f : Hold → BranchCourse) (u t : BranchCourse) (p : List ℕ) → Quiet next p t → Quiet next [] u → Each (λ env. Quiet next [] (f env)) (flat t) → Quiet next p (choose f u t)
  quiet_choose f u Over p h k e = quiet_any u p k
  quiet_choose f u (Breaks g) p h k e = tt
  quiet_choose f u (Steps t) p h k e = quiet_choose f u t p h k e
  quiet_choose f u (Finds env t) p h k e = quiet_after (f env) (each f t) p (quiet_any (f env) p e.0) (quiet_each f t [] h e.1)
  quiet_choose f u (Awaits c v t) p h k e = (h.0, (h.1.0, quiet_choose f u t (without (c ∷ []) p) h.1.1 k e))
  quiet_choose f u (Gives c v t) p h k e = absurd h
  quiet_choose f u (Forks i x ks t) p h k e = (h.0, (h.1.0, (h.1.1.0, λ a. quiet_choose f u t (pending_past x p) (h.1.1.1 a) k (each_flats (λ env. Quiet next [] (f env)) ks (flat t) e a))))

  pub quiet_taken : (f : Hold → Hold) (t : BranchCourse) (p : List ℕ) → Quiet next p t → Quiet next p (taken_back f t)
  quiet_taken f Over p h = tt
  quiet_taken f (Breaks g) p h = tt
  quiet_taken f (Steps t) p h = quiet_taken f t p h
  quiet_taken f (Finds env t) p h = quiet_taken f t [] h
  quiet_taken f (Awaits c v t) p h = (h.0, (h.1.0, quiet_taken f t (without (c ∷ []) p) h.1.1))
  quiet_taken f (Gives c v t) p h = absurd h
  quiet_taken f (Forks i x ks t) p h = (h.0, (h.1.0, (h.1.1.0, λ a. quiet_taken f t (pending_past x p) (h.1.1.1 a))))

  pub quiet_first : (t : BranchCourse) (p : List ℕ) → Quiet next p t → Quiet next p (first_alone t)
  quiet_first Over p h = tt
  quiet_first (Breaks g) p h = tt
  quiet_first (Steps t) p h = quiet_first t p h
  quiet_first (Finds env t) p h = tt
  quiet_first (Awaits c v t) p h = (h.0, (h.1.0, quiet_first t (without (c ∷ []) p) h.1.1))
  quiet_first (Gives c v t) p h = absurd h
  quiet_first (Forks i x ks t) p h = (h.0, (h.1.0, (h.1.1.0, λ a. quiet_first t (pending_past x p) (h.1.1.1 a))))

  pub quiet_once : (b : Bool) (t : BranchCourse) (p : List ℕ) → Quiet next p t → Quiet next p (once_if b t)
  quiet_once true t p h = quiet_first t p h
  quiet_once false t p h = h

  pub quiet_negated : (env : Hold) (t : BranchCourse) (p : List ℕ) → Quiet next p t → Quiet next p (negated env t)
  quiet_negated env Over p h = tt
  quiet_negated env (Breaks g) p h = tt
  quiet_negated env (Steps t) p h = quiet_negated env t p h
  quiet_negated env (Finds e t) p h = tt
  quiet_negated env (Awaits c v t) p h = (h.0, (h.1.0, quiet_negated env t (without (c ∷ []) p) h.1.1))
  quiet_negated env (Gives c v t) p h = absurd h
  quiet_negated env (Forks i x ks t) p h = (h.0, (h.1.0, (h.1.1.0, λ a. quiet_negated env t (pending_past x p) (h.1.1.1 a))))

-- what is left of rights from before: below next the same
pub record StillHeld (next : ℕ) (w : List ℕ) (g : List Gift) (w' : List ℕ) (g' : List Gift) : Type 0 where
  pub still : (c : ℕ) → c < next → has c w ≡ true → has c w' ≡ true
  pub gifts_same : (c : ℕ) → gift_at c g' ≡ gift_at c g

no_moves : (m : List Move) (c : ℕ) (g gs : List Gift) → m ≡ [] → gift_at c (g ++ gifts_through (moved true m) gs) ≡ gift_at c g
no_moves m c g gs e = subst (λ z. gift_at c (g ++ gifts_through (moved true z) gs) ≡ gift_at c g) (sym e) (ap (λ z. gift_at c z) (append_none g))

pub no_gone : (m : List Move) (c : ℕ) (w : List ℕ) → m ≡ [] → has c w ≡ true → has c (without (moved false m) w) ≡ true
no_gone m c w e h = subst (λ z. has c (without (moved false z) w) ≡ true) (sym e) (minus_keeps c [] w refl h)

-- without moves nothing is asked of them
pub no_move_fits : (P : Move → Type 0) (m : List Move) → m ≡ [] → AllByRecursion P m
no_move_fits P m e = subst (λ z. AllByRecursion P z) (sym e) tt

pub no_move_once : (b : Bool) (m : List Move) → m ≡ [] → AreDistinct (moved b m)
no_move_once b m e = subst (λ z. AreDistinct (moved b z)) (sym e) tt

minus_still : (next c : ℕ) (w0 w : List ℕ) → next ≤ c → ((d : ℕ) → d < next → has d w0 ≡ true → has d w ≡ true) → (d : ℕ) → d < next → has d w0 ≡ true → has d (without (c ∷ []) w) ≡ true
minus_still next c w0 w l s d k h = minus_keeps d (c ∷ []) w (not_one d c (λ e. absurd (omega (arith, e, l, k)))) (s d k h)

own_above : (next : ℕ) (cells : List NamedCell) (c : ℕ) → c < next → ((d : ℕ) → has d (names cells) ≡ true → next ≤ d) → has c (names cells) ≡ false
own_above next cells c l a = on (tell (has c (names cells)))
  where
    on : (has c (names cells) ≡ true) ⊎ (has c (names cells) ≡ false) → has c (names cells) ≡ false
    on (inl h) = let q = a c h in absurd (omega (arith, q, l))
    on (inr h) = h

-- a fork that moves nothing fits where rights are below the names of its cells
pub own_fits : (n next : ℕ) (rights : ℕ → Bool) (g : List Gift) (w : List ℕ) (x : Fork) → ((c : ℕ) → rights c ≡ true → c < next) → x.moves ≡ [] → OwnFits n next x → SiteFits n rights g w x
own_fits n next rights g w x lowr e o = record {
  some = o.some;
  few = o.few;
  cells = o.cells;
  moves = no_move_fits (MoveGoes n rights g w) x.moves e;
  fresh = no_move_fits (λ m. has m.cell (names x.cells) ≡ false) x.moves e;
  distinct = o.distinct;
  signals_once = no_move_once true x.moves e;
  waits_once = no_move_once false x.moves e;
  apart = λ c r. own_above next x.cells c (lowr c r) o.low;
}

-- a fork that moves nothing asks its conjuncts of own cells alone
quiet_kids : (proper : ℕ → Value → Type 0) (next : ℕ) (x : Fork) (ks : BranchCourses) → x.moves ≡ [] → OwnFits (kid_count ks) next x → AllKeep anything x 1 ks → AllKeep proper x 1 ks
quiet_kids proper next x ks e o k =
    all_proper anything proper x 1 ks (kid_count ks) (λ c. false) [] [] (own_fits (kid_count ks) next (λ c. false) [] [] x (λ c r. absurd (cc)) e o) (λ c v r p. absurd (cc)) k

-- rights from before stay past such a fork, and what is pending is among the rights
still_past : (next : ℕ) (x : Fork) (w0 w : List ℕ) → x.moves ≡ [] → ((d : ℕ) → has d (names x.cells) ≡ true → next ≤ d) → ((d : ℕ) → d < next → has d w0 ≡ true → has d w ≡ true)
    → (d : ℕ) → d < next → has d w0 ≡ true → has d (waits_past x w) ≡ true
still_past next x w0 w e low s d l h =
    in_right d (uses 0 x.cells) (without (names x.cells) (without (moved false x.moves) w))
    (minus_keeps d (names x.cells) (without (moved false x.moves) w) (own_above next x.cells d l low) (no_gone x.moves d w e (s d l h)))

pending_still : (x : Fork) (p w : List ℕ) → x.moves ≡ [] → ((d : ℕ) → has d p ≡ true → has d w ≡ true) → (d : ℕ) → has d (pending_past x p) ≡ true → has d (waits_past x w) ≡ true
pending_still x p w e a d h =
    append_more (uses 0 x.cells) (without (names x.cells) p) (without (names x.cells) (without (moved false x.moves) w))
    (λ c k. minus_more (names x.cells) p (without (moved false x.moves) w) (λ b i. no_gone x.moves b w e (a b i)) c k) d h

module _ (proper : ℕ → Value → Type 0) (end : List ℕ → List Gift → Hold → Type 0) (rights : ℕ → Bool) (next : ℕ) (w0 : List ℕ) (g0 : List Gift) (lowr : (c : ℕ) → rights c ≡ true → c < next) where
  pub quiet_ends : (t : BranchCourse) (p w : List ℕ) (g : List Gift) → Quiet next p t → ((c : ℕ) → has c p ≡ true → has c w ≡ true) → ((c : ℕ) → c < next → has c w0 ≡ true → has c w ≡ true) → ((c : ℕ) → gift_at c g ≡ gift_at c g0)
      → NotDone (flat t) → Each (λ env. (w' : List ℕ) (g' : List Gift) → StillHeld next w0 g0 w' g' → end w' g' env) (flat t) → Keeps proper end rights w g t
  quiet_ends Over p w g q a b s n e = n
  quiet_ends (Breaks h) p w g q a b s n e = tt
  quiet_ends (Steps t) p w g q a b s n e = quiet_ends t p w g q a b s n e
  quiet_ends (Finds env t) p w g q a b s n e = e.0 w g (record { still = b; gifts_same = s })
  quiet_ends (Awaits c v t) p w g q a b s n e =
      (a c q.0, quiet_ends t (without (c ∷ []) p) (without (c ∷ []) w) g q.1.1 (λ d k. minus_more (c ∷ []) p w a d k) (λ d l k. minus_still next c w0 w q.1.0 b d l k) s n e)
  quiet_ends (Gives c v t) p w g q a b s n e = absurd q
  quiet_ends (Forks i x ks t) p w g q a b s n e = (
    own_fits (kid_count ks) next rights g w x lowr q.0 q.1.0,
    (
      quiet_kids proper next x ks q.0 q.1.0 q.1.1.0,
      λ r.
          quiet_ends t (pending_past x p) (waits_past x w) (g ++ gifts_through (moved true x.moves) (all_give ks)) (q.1.1.1 r)
          (λ c h. pending_still x p w q.0 a c h)
          (λ c l h. still_past next x w0 w q.0 q.1.0.low b c l h)
          (λ c. no_moves x.moves c g (all_give ks) q.0 ∙ s c)
          (notdone_flats ks (flat t) n r)
          (each_flats (λ env. (w' : List ℕ) (g' : List Gift) → StillHeld next w0 g0 w' g' → end w' g' env) ks (flat t) e r),
    ),
  )

  -- a quiet condition
  pub quiet_turns : (f : Hold → BranchCourse) (u t : BranchCourse) (p w : List ℕ) (g : List Gift) → Quiet next p t → ((c : ℕ) → has c p ≡ true → has c w ≡ true) → ((c : ℕ) → c < next → has c w0 ≡ true → has c w ≡ true) → ((c : ℕ) → gift_at c g ≡ gift_at c g0)
      → (NotDone (flat t)) ⊎ ((w' : List ℕ) (g' : List Gift) → StillHeld next w0 g0 w' g' → Keeps proper end rights w' g' u)
      → Each (λ env. (w' : List ℕ) (g' : List Gift) → StillHeld next w0 g0 w' g' → Keeps proper end rights w' g' (f env)) (flat t) → Keeps proper end rights w g (choose f u t)
  quiet_turns f u Over p w g q a b s (inl n) e = absurd n
  quiet_turns f u Over p w g q a b s (inr n) e = n w g (record { still = b; gifts_same = s })
  quiet_turns f u (Breaks h) p w g q a b s n e = tt
  quiet_turns f u (Steps t) p w g q a b s n e = quiet_turns f u t p w g q a b s n e
  quiet_turns f u (Finds env t) p w g q a b s n e = keeps_after proper end rights (f env) (each f t) w g (e.0 w g (record { still = b; gifts_same = s }))
  quiet_turns f u (Awaits c v t) p w g q a b s n e =
      (a c q.0, quiet_turns f u t (without (c ∷ []) p) (without (c ∷ []) w) g q.1.1 (λ d k. minus_more (c ∷ []) p w a d k) (λ d l k. minus_still next c w0 w q.1.0 b d l k) s n e)
  quiet_turns f u (Gives c v t) p w g q a b s n e = absurd q
  quiet_turns f u (Forks i x ks t) p w g q a b s n e = (
    own_fits (kid_count ks) next rights g w x lowr q.0 q.1.0,
    (
      quiet_kids proper next x ks q.0 q.1.0 q.1.1.0,
      λ r.
          quiet_turns f u t (pending_past x p) (waits_past x w) (g ++ gifts_through (moved true x.moves) (all_give ks)) (q.1.1.1 r)
          (λ c h. pending_still x p w q.0 a c h)
          (λ c l h. still_past next x w0 w q.0 q.1.0.low b c l h)
          (λ c. no_moves x.moves c g (all_give ks) q.0 ∙ s c)
          (turn r n)
          (each_flats (λ env. (w' : List ℕ) (g' : List Gift) → StillHeld next w0 g0 w' g' → Keeps proper end rights w' g' (f env)) ks (flat t) e r),
    ),
  )
    where
      turn : AllAnswer ks → (NotDone (flats ks (flat t))) ⊎ ((w' : List ℕ) (g' : List Gift) → StillHeld next w0 g0 w' g' → Keeps proper end rights w' g' u)
          → (NotDone (flat t)) ⊎ ((w' : List ℕ) (g' : List Gift) → StillHeld next w0 g0 w' g' → Keeps proper end rights w' g' u)
      turn r (inl m) = inl (notdone_flats ks (flat t) m r)
      turn r (inr m) = inr m

-- at the first answer
abbrev pub First : (Hold → Type 0) → Flat Hold → Type 0
First P Done = ⊤
First P (Halts h) = ⊤
First P (Tick t) = First P t
First P (Answer a t) = P a

first_behind : (P : Hold → Type 0) (t w : Flat Hold) → (Answers t → First P w) → First P (behind t w)
first_behind P Done w h = tt
first_behind P (Halts g) w h = tt
first_behind P (Tick t) w h = first_behind P t w h
first_behind P (Answer a t) w h = h tt

pub first_flats : (P : Hold → Type 0) (ks : BranchCourses) (w : Flat Hold) → (AllAnswer ks → First P w) → First P (flats ks w)
first_flats P no_branches w h = h tt
first_flats P (more_branches t more) w h = first_behind P (flat t) (flats more w) (λ a. first_flats P more w (λ b. h (a, b)))

pub keeps_gives : (proper : ℕ → Value → Type 0) (end : List ℕ → List Gift → Hold → Type 0) (rights : ℕ → Bool) (t : BranchCourse) (w : List ℕ) (g : List Gift) → Keeps proper end rights w g t
    → First (λ env. (w' : List ℕ) × end w' (g ++ gives t) env) (flat t)
keeps_gives proper end rights Over w g k = tt
keeps_gives proper end rights (Breaks h) w g k = tt
keeps_gives proper end rights (Steps t) w g k = keeps_gives proper end rights t w g k
keeps_gives proper end rights (Finds env t) w g k = (w, subst (λ z. end w z env) (sym (append_none g)) k)
keeps_gives proper end rights (Awaits c v t) w g k = keeps_gives proper end rights t (without (c ∷ []) w) g k.1
keeps_gives proper end rights (Gives c v t) w g k =
    subst (λ z. First (λ env. (w' : List ℕ) × end w' z env) (flat t)) (append_all g (record { cell = c; value = Some v } ∷ []) (gives t)) (keeps_gives proper end rights t w (g ++ (record { cell = c; value = Some v } ∷ [])) k.1.1)
keeps_gives proper end rights (Forks i x ks t) w g k =
    first_flats (λ env. (w' : List ℕ) × end w' (g ++ gives (Forks i x ks t)) env) ks (flat t) (λ a.
    subst (λ z. First (λ env. (w' : List ℕ) × end w' (g ++ (gifts_through (moved true x.moves) (all_give ks) ++ z)) env) (flat t)) (sym (all_behind ks (gives t) a))
    (subst (λ z. First (λ env. (w' : List ℕ) × end w' z env) (flat t)) (append_all g (gifts_through (moved true x.moves) (all_give ks)) (gives t))
    (keeps_gives proper end rights t (waits_past x w) (g ++ gifts_through (moved true x.moves) (all_give ks)) (k.1.1 a))))

pub answers_behind : (t u : Flat Hold) → Answers (behind t u) → Answers t × Answers u
answers_behind Done u h = absurd h
answers_behind (Halts g) u h = absurd h
answers_behind (Tick t) u h = answers_behind t u h
answers_behind (Answer a t) u h = (tt, h)

pub answers_kids : (ks : BranchCourses) (u : Flat Hold) → Answers (flats ks u) → AllAnswer ks × Answers u
answers_kids no_branches u h = (tt, h)
answers_kids (more_branches t more) u h =
    let a = answers_behind (flat t) (flats more u) h in
    let b = answers_kids more u a.1 in
    ((a.0, b.0), b.1)

-- no others than those with the right are given
not_moved : (n : ℕ) (rights : ℕ → Bool) (g : List Gift) (w : List ℕ) (ms : List Move) (c : ℕ) → AllByRecursion (MoveGoes n rights g w) ms → rights c ≡ false → has c (moved true ms) ≡ true → ⊥
not_moved n rights g w ms c h r q =
    let m = moved_move (MoveGoes n rights g w) true c ms h q in
    clash (rights c) (ap rights (sym m.1.1.0) ∙ (subst (λ z. HoldsRight rights g w z m.0.cell) m.1.1.1 m.1.0.1.1).0) r

other_gift : (c d : ℕ) (v : Option Value) (gs : List Gift) (rights : ℕ → Bool) → rights d ≡ true → rights c ≡ false → gift_at c gs ≡ None → gift_at c (record { cell = d; value = v } ∷ gs) ≡ None
other_gift c d v gs rights p q h = given_other c d v gs (λ e. clash (rights c) (ap rights e ∙ p) q) ∙ h

pub keeps_only : (proper : ℕ → Value → Type 0) (end : List ℕ → List Gift → Hold → Type 0) (rights : ℕ → Bool) (t : BranchCourse) (w : List ℕ) (g : List Gift) → Keeps proper end rights w g t → Answers (flat t) → (c : ℕ) → rights c ≡ false → gift_at c (gives t) ≡ None
keeps_only proper end rights Over w g k a c r = absurd k
keeps_only proper end rights (Breaks h) w g k a c r = refl
keeps_only proper end rights (Steps t) w g k a c r = keeps_only proper end rights t w g k a c r
keeps_only proper end rights (Finds env t) w g k a c r = refl
keeps_only proper end rights (Awaits d v t) w g k a c r = keeps_only proper end rights t (without (d ∷ []) w) g k.1 a c r
keeps_only proper end rights (Gives d v t) w g k a c r = other_gift c d (Some v) (gives t) rights k.0.1 r (keeps_only proper end rights t w (g ++ (record { cell = d; value = Some v } ∷ [])) k.1.1 a c r)
keeps_only proper end rights (Forks i x ks t) w g k a c r =
    look_past c (gifts_through (moved true x.moves) (all_give ks)) (if all_do_answer ks then gives t else [])
    (gifts_out c (moved true x.moves) (all_give ks) (λ q. not_moved (kid_count ks) rights g w x.moves c k.0.moves r q))
    ∙ none_behind (all_do_answer ks) (gives t) c
    (keeps_only proper end rights t (waits_past x w) (g ++ gifts_through (moved true x.moves) (all_give ks)) (k.1.1 (answers_kids ks (flat t) a).0) (answers_kids ks (flat t) a).1 c r)

-- what a course gives is proper, where it keeps to its rights

gift_from : (c : ℕ) (v : Value) (gs hs : List Gift) → gift_at c (gs ++ hs) ≡ Some (Some v) → (gift_at c gs ≡ Some (Some v)) ⊎ (gift_at c hs ≡ Some (Some v))
gift_from c v [] hs h = inr h
gift_from c v (g ∷ gs) hs h = on (nat_eq c g.cell) h (λ k. gift_from c v gs hs k) where
  on : (b : Bool) → (if b then Some g.value else gift_at c (gs ++ hs)) ≡ Some (Some v) → (gift_at c (gs ++ hs) ≡ Some (Some v) → (gift_at c gs ≡ Some (Some v)) ⊎ (gift_at c hs ≡ Some (Some v)))
      → ((if b then Some g.value else gift_at c gs) ≡ Some (Some v)) ⊎ (gift_at c hs ≡ Some (Some v))
  on true k rec = inl k
  on false k rec = rec k

gift_only : (c d : ℕ) (v w : Value) (gs : List Gift) → gift_at c (record { cell = d; value = Some w } ∷ gs) ≡ Some (Some v) → ((c ≡ d) × (w ≡ v)) ⊎ (gift_at c gs ≡ Some (Some v))
gift_only c d v w gs h = on (nat_eq c d) refl h where
  on : (b : Bool) → nat_eq c d ≡ b → (if b then Some (Some w) else gift_at c gs) ≡ Some (Some v) → ((c ≡ d) × (w ≡ v)) ⊎ (gift_at c gs ≡ Some (Some v))
  on true e k = inl (same_number c d e, cc)
  on false e k = inr k

gift_through : (c : ℕ) (v : Value) (cs : List ℕ) (gs : List Gift) → gift_at c (gifts_through cs gs) ≡ Some (Some v) → (has c cs ≡ true) × (gift_at c gs ≡ Some (Some v))
gift_through c v cs gs h = on (tell (has c cs)) where
  valued : (o : Option (Option Value)) → Some (value_given o) ≡ Some (Some v) → o ≡ Some (Some v)
  valued None e = absurd (cc)
  valued (Some None) e = absurd (cc)
  valued (Some (Some u)) e = cc

  none_there : gift_at c (gifts_through cs gs) ≡ None → gift_at c (gifts_through cs gs) ≡ Some (Some v) → ⊥
  none_there p q = cc

  on : (has c cs ≡ true) ⊎ (has c cs ≡ false) → (has c cs ≡ true) × (gift_at c gs ≡ Some (Some v))
  on (inl k) = (k, valued (gift_at c gs) (sym (gifts_in c cs gs k) ∙ h))
  on (inr k) = absurd (none_there (gifts_out c cs gs (λ i. clash (has c cs) i k)) h)

not_fresh : (x : Fork) (ms : List Move) (c : ℕ) → AllByRecursion (λ m. has m.cell (names x.cells) ≡ false) ms → has c (moved true ms) ≡ true → has c (names x.cells) ≡ false
not_fresh x ms c f h = let m = moved_move (λ m. has m.cell (names x.cells) ≡ false) true c ms f h in ap (λ d. has d (names x.cells)) (sym m.1.1.0) ∙ m.1.0

if_given : (b : Bool) (c : ℕ) (v : Value) (gs : List Gift) → gift_at c (if b then gs else []) ≡ Some (Some v) → (b ≡ true) × (gift_at c gs ≡ Some (Some v))
if_given true c v gs h = (refl, h)
if_given false c v gs h = absurd (cc)

mutual
  pub gives_proper : (proper : ℕ → Value → Type 0) (end : List ℕ → List Gift → Hold → Type 0) (rights : ℕ → Bool) (t : BranchCourse) (w : List ℕ) (g : List Gift) → Keeps proper end rights w g t → (c : ℕ) (v : Value)
      → gift_at c (gives t) ≡ Some (Some v) → proper c v
  gives_proper proper end rights Over w g k c v h = absurd k
  gives_proper proper end rights (Breaks halt) w g k c v h = absurd (cc)
  gives_proper proper end rights (Steps t) w g k c v h = gives_proper proper end rights t w g k c v h
  gives_proper proper end rights (Finds hold t) w g k c v h = absurd (cc)
  gives_proper proper end rights (Awaits d o t) w g k c v h = gives_proper proper end rights t (without (d ∷ []) w) g k.1 c v h
  gives_proper proper end rights (Gives d u t) w g k c v h = elim (gift_only c d v u (gives t) h) as (λ _. proper c v) [
    | inl e ↦ subst (λ z. proper c z) e.1 (subst (λ z. proper z u) (sym e.0) k.0.0)
    | inr e ↦ gives_proper proper end rights t w (g ++ (record { cell = d; value = Some u } ∷ [])) k.1.1 c v e
  ]
  gives_proper proper end rights (Forks i x ks t) w g k c v h =
      elim (gift_from c v (gifts_through (moved true x.moves) (all_give ks)) (if all_do_answer ks then gives t else []) h) as (λ _. proper c v) [
        | inl e ↦ let q = gift_through c v (moved true x.moves) (all_give ks) e in
            all_give_proper proper x 1 ks k.1.0 c v (not_fresh x x.moves c k.0.fresh q.0) q.1
        | inr e ↦ let q = if_given (all_do_answer ks) c v (gives t) e in
            gives_proper proper end rights t (waits_past x w) (g ++ gifts_through (moved true x.moves) (all_give ks)) (k.1.1 (all_told ks q.0)) c v q.1
      ]

  all_give_proper : (proper : ℕ → Value → Type 0) (x : Fork) (k : ℕ) (ks : BranchCourses) → AllKeep proper x k ks → (c : ℕ) (v : Value) → has c (names x.cells) ≡ false → gift_at c (all_give ks) ≡ Some (Some v) → proper c v
  all_give_proper proper x k no_branches p c v n h = absurd (cc)
  all_give_proper proper x k (more_branches t more) p c v n h = elim (gift_from c v (gives t) (all_give more) h) as (λ _. proper c v) [
    | inl e ↦ gives_proper (λ d u. has d (names x.cells) ≡ false → proper d u) (Whole (λ d. has d (signals_to k x))) (λ d. has d (signals_to k x)) t (waits_to k x) [] p.0 c v e n
    | inr e ↦ all_give_proper proper x (suc k) more p.1 c v n e
  ]
