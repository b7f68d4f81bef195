-- What a course awaits is given, where it keeps to its rights.
use Rattle.std.proofs.Common.{◌≡◌, ℕ, suc, ◌+◌, ◌≤◌, ◌<◌, ◌⊎◌, inl, inr, Bool, true, false, if◌then◌else◌, List, [], ◌∷◌, ◌++◌, refl, ap, sym, subst, ◌∙◌, arith}
use Rattle.std.specs.Prelude.{nat_eq, Option, Some, None, ◌&&◌}
use Rattle.std.specs.List.{AllByRecursion}
use Rattle.std.proofs.lemmas.Bool.Decides.{nat_tests}
use Rattle.merc_value.specs.Value.{Value}
use Rattle.merc_script.specs.declared.cells.Move.{Move}
use Rattle.merc_core.specs.Rights.{has, without, is_kind, moved, moved_to}
use Rattle.merc_plan.specs.Branch.{NamedCell, Fork, Hold, BranchCourse, Over, Breaks, Steps, Finds, Awaits, Gives, Forks, BranchCourses, no_branches, more_branches, names, Gift, gift_at, gifts_through, all_give}
use Rattle.merc_plan.specs.BranchScript.{those_of}
use Rattle.merc_plan.proofs.Flat.{Answers}
use Rattle.merc_plan.proofs.Judging.{flat, marks, all_marks, AllAnswer, Served, AllServed, kid_count, makes, uses, signals_to, waits_to, NamedFits, MoveGoes, HoldsRight, SiteFits, Whole, anything, Keeps, AllKeep, Quiet}
use Rattle.merc_plan.proofs.Holds.{kid_proper, waits_past, pending_past, answers_kids, own_fits}
use Rattle.merc_plan.proofs.Sets.{clash, tell, same_number, is_same, in_common, first_in, rest_in, in_left, in_right, in_either, minus_in, minus_keeps, absent, gone_not, look_same, gifts_out, both_and, each_both, picked, moved_to_move}

here_or_later : (k j : ℕ) → k ≤ j → (b : Bool) → nat_eq j k ≡ b → (j ≡ k) ⊎ (suc k ≤ j)
here_or_later k j h true e = inl (grind (arith, nat_tests, e))
here_or_later k j h false e = inr (grind (arith, nat_tests, e, h))

-- the conjunct into which a right to signal moves
pub record Mover (P : Move → Type 0) (c : ℕ) (ms : List Move) : Type 0 where
  pub move : Move
  pub fact : P move
  pub into : has c (moved_to move.child true ms) ≡ true

pub to_child : (P : Move → Type 0) (c : ℕ) (ms : List Move) → AllByRecursion P ms → has c (moved true ms) ≡ true → Mover P c ms
to_child P c ms e h =
    let p = picked (λ (one : Move). one.cell) (is_kind true) P c ms e h in
    record {
      move = p.one;
      fact = p.fact;
      into = p.found (λ (one : Move). nat_eq one.child p.one.child && is_kind true one) (both_and (nat_eq p.one.child p.one.child) (is_kind true p.one) (is_same p.one.child) p.passes);
    }

-- the producer of a cell that is awaited
pub record Producer (P : NamedCell → Type 0) (c k : ℕ) (xs : List NamedCell) : Type 0 where
  pub one : NamedCell
  pub fact : P one
  pub consumer : one.consumer ≡ k
  pub made : has c (makes one.producer xs) ≡ true

pub used_some : (P : NamedCell → Type 0) (xs : List NamedCell) (c k : ℕ) → AllByRecursion P xs → has c (uses k xs) ≡ true → Producer P c k xs
used_some P xs c k e h =
    let p = picked (λ (one : NamedCell). one.cell) (λ (one : NamedCell). nat_eq one.consumer k) P c xs e h in
    record {
      one = p.one;
      fact = p.fact;
      consumer = same_number p.one.consumer k p.passes;
      made = p.found (λ (one : NamedCell). nat_eq one.producer p.one.producer) (is_same p.one.producer);
    }

give_on : (c d : ℕ) (v : Option Value) (g : List Gift) (t : BranchCourse) → gift_at c g ≡ None → (b : Bool) → nat_eq c d ≡ b
    → (gift_at c (g ++ (record { cell = d; value = v } ∷ [])) ≡ None → has c (marks t) ≡ true) → has c (d ∷ marks t) ≡ true
give_on c d v g t n true e rec = subst (λ z. has c (z ∷ marks t) ≡ true) (same_number c d e) (first_in c (marks t))
give_on c d v g t n false e rec = rest_in c d (marks t) (rec (look_same c g (record { cell = d; value = v } ∷ []) (ap (λ (b : Bool). if b then Some v else None) e) ∙ n))

split_on : (c : ℕ) (x : Fork) (ks : BranchCourses) (t : BranchCourse) (g : List Gift) → gift_at c g ≡ None → (has c (moved true x.moves) ≡ true) ⊎ (has c (moved true x.moves) ≡ false)
    → (has c (moved true x.moves) ≡ true → has c (all_marks ks) ≡ true) → (gift_at c (g ++ gifts_through (moved true x.moves) (all_give ks)) ≡ None → has c (marks t) ≡ true)
    → has c (those_of (all_marks ks) (moved true x.moves) ++ marks t) ≡ true
split_on c x ks t g n (inl h) kid rest = in_left c (those_of (all_marks ks) (moved true x.moves)) (marks t) (in_common c (moved true x.moves) (all_marks ks) h (kid h))
split_on c x ks t g n (inr h) kid rest =
    in_right c (those_of (all_marks ks) (moved true x.moves)) (marks t)
    (rest (look_same c g (gifts_through (moved true x.moves) (all_give ks)) (gifts_out c (moved true x.moves) (all_give ks) (λ q. clash (has c (moved true x.moves)) q h)) ∙ n))

kid_on : (x : Fork) (k j c : ℕ) (ms ns : List ℕ) → (j ≡ k) ⊎ (suc k ≤ j) → has c (signals_to j x) ≡ true → (has c (signals_to k x) ≡ true → has c ms ≡ true) → (suc k ≤ j → has c ns ≡ true)
    → has c (ms ++ ns) ≡ true
kid_on x k j c ms ns (inl e) h here later = in_left c ms ns (here (subst (λ i. has c (signals_to i x) ≡ true) e h))
kid_on x k j c ms ns (inr f) h here later = in_right c ms ns (later f)

mutual
  -- a course that answers has signalled each right that it held
  pub kept_marks : (proper : ℕ → Value → Type 0) (t : BranchCourse) (rights : ℕ → Bool) (w : List ℕ) (g : List Gift) → Keeps proper (Whole rights) rights w g t → Answers (flat t)
      → (c : ℕ) → rights c ≡ true → gift_at c g ≡ None → has c (marks t) ≡ true
  kept_marks proper Over rights w g k a c r n = absurd k
  kept_marks proper (Breaks h) rights w g k a c r n = absurd a
  kept_marks proper (Steps t) rights w g k a c r n = kept_marks proper t rights w g k a c r n
  kept_marks proper (Finds hold t) rights w g k a c r n = absurd (k c r n)
  kept_marks proper (Awaits d v t) rights w g k a c r n = kept_marks proper t rights (without (d ∷ []) w) g k.1 a c r n
  kept_marks proper (Gives d v t) rights w g k a c r n =
      give_on c d (Some v) g t n (nat_eq c d) refl (λ q. kept_marks proper t rights w (g ++ (record { cell = d; value = Some v } ∷ [])) k.1.1 a c r q)
  kept_marks proper (Forks i x ks t) rights w g k a c r n =
      let s = answers_kids ks (flat t) a in
      split_on c x ks t g n (tell (has c (moved true x.moves)))
      (λ h. let m = to_child (MoveGoes (kid_count ks) rights g w) c x.moves k.0.moves h in let l = m.fact.1.0 in
      kid_marks proper x 1 ks k.1.0 s.0 m.move.child m.fact.0 (omega (arith, l)) c (in_right c (makes m.move.child x.cells) (moved_to m.move.child true x.moves) m.into))
      (λ q. kept_marks proper t rights (waits_past x w) (g ++ gifts_through (moved true x.moves) (all_give ks)) (k.1.1 s.0) s.1 c r q)

  pub kid_marks : (proper : ℕ → Value → Type 0) (x : Fork) (k : ℕ) (ks : BranchCourses) → AllKeep proper x k ks → AllAnswer ks → (j : ℕ) → k ≤ j → j < k + kid_count ks
      → (c : ℕ) → has c (signals_to j x) ≡ true → has c (all_marks ks) ≡ true
  kid_marks proper x k no_branches p a j f l c h = absurd (omega (arith, f, l))
  kid_marks proper x k (more_branches t more) p a j f l c h =
      kid_on x k j c (marks t) (all_marks more) (here_or_later k j f (nat_eq j k) refl) h
      (λ q. kept_marks (kid_proper proper x) t (λ d. has d (signals_to k x)) (waits_to k x) [] p.0 a.0 c q refl)
      (λ f'. kid_marks proper x (suc k) more p.1 a.1 j f' (omega (arith, l)) c h)

-- what the goals behind a fork wait for is signalled by its conjuncts
used_marked : (proper : ℕ → Value → Type 0) (x : Fork) (ks : BranchCourses) → AllByRecursion (NamedFits (kid_count ks)) x.cells → AllKeep proper x 1 ks → AllAnswer ks → (c : ℕ) → has c (uses 0 x.cells) ≡ true → has c (all_marks ks) ≡ true
used_marked proper x ks fits p a c h =
    let u = used_some (NamedFits (kid_count ks)) x.cells c 0 fits h in
    let l = u.fact.1.0 in
    kid_marks proper x 1 ks p a u.one.producer u.fact.0 (omega (arith, l)) c (in_left c (makes u.one.producer x.cells) (moved_to u.one.producer true x.moves) u.made)

behind_on : (x : Fork) (ks : BranchCourses) (g : List ℕ) (c : ℕ) (w : List ℕ) → (has c (uses 0 x.cells) ≡ true) ⊎ (has c (without (names x.cells) w) ≡ true)
    → (has c (uses 0 x.cells) ≡ true → has c (all_marks ks) ≡ true) → (has c w ≡ true → has c g ≡ true) → has c (without (names x.cells) g ++ all_marks ks) ≡ true
behind_on x ks g c w (inl h) own old = in_right c (without (names x.cells) g) (all_marks ks) (own h)
behind_on x ks g c w (inr h) own old =
    in_left c (without (names x.cells) g) (all_marks ks)
    (minus_keeps c (names x.cells) g (absent c (names x.cells) (λ e. gone_not c (names x.cells) w e h)) (old (minus_in c (names x.cells) w h)))

moved_given : (x : Fork) (n : ℕ) (rights : ℕ → Bool) (gs : List Gift) (w g : List ℕ) (c j : ℕ) → SiteFits n rights gs w x → ((c : ℕ) → has c w ≡ true → has c g ≡ true)
    → has c (moved_to j false x.moves) ≡ true → has c (without (names x.cells) g) ≡ true
moved_given x n rights gs w g c j s f h =
    let m = moved_to_move (λ m. MoveGoes n rights gs w m × (has m.cell (names x.cells) ≡ false)) j false c x.moves
    (each_both (MoveGoes n rights gs w) (λ m. has m.cell (names x.cells) ≡ false) x.moves s.moves s.fresh) h in
    minus_keeps c (names x.cells) g (sym (ap (λ z. has z (names x.cells)) m.1.1.0) ∙ m.1.0.1)
    (f c (subst (λ z. has z w ≡ true) m.1.1.0 (subst (λ (z : Bool). HoldsRight rights gs w z m.0.cell) m.1.1.1.1 m.1.0.0.1.1)))

waits_on : (x : Fork) (k c : ℕ) (g : List ℕ) → (has c (uses k x.cells) ≡ true) ⊎ (has c (moved_to k false x.moves) ≡ true) → (has c (moved_to k false x.moves) ≡ true → has c g ≡ true)
    → (has c (uses k x.cells) ≡ true → has c g ≡ true) → has c g ≡ true
waits_on x k c g (inl h) m u = u h
waits_on x k c g (inr h) m u = m h

next_on : (x : Fork) (k j c : ℕ) (g ms : List ℕ) → (k ≡ j) ⊎ (suc j ≤ k) → has c (makes j x.cells) ≡ true → (j < k → has c g ≡ true) → (has c (makes k x.cells) ≡ true → has c ms ≡ true)
    → has c (g ++ ms) ≡ true
next_on x k j c g ms (inl e) h before here = in_right c g ms (here (subst (λ i. has c (makes i x.cells) ≡ true) (sym e) h))
next_on x k j c g ms (inr l) h before here = in_left c g ms (before l)

-- a cell that a conjunct waits for has its producer to the left
left_of : (n k : ℕ) (y : NamedCell) → 1 ≤ k → y.consumer ≡ k → (y.consumer ≡ 0) ⊎ ((y.producer < y.consumer) × (y.consumer ≤ n)) → y.producer < k
left_of n k y o d (inl z) = absurd (omega (arith, z, d, o))
left_of n k y o d (inr z) = let l = z.0 in omega (arith, l, d)

mutual
  pub served : (proper : ℕ → Value → Type 0) (t : BranchCourse) (end : List ℕ → List Gift → Hold → Type 0) (rights : ℕ → Bool) (g w : List ℕ) (gs : List Gift) → Keeps proper end rights w gs t
      → ((c : ℕ) → has c w ≡ true → has c g ≡ true) → Served false g t
  served proper Over end rights g w gs k f = tt
  served proper (Breaks h) end rights g w gs k f = tt
  served proper (Steps t) end rights g w gs k f = served proper t end rights g w gs k f
  served proper (Finds hold t) end rights g w gs k f = tt
  served proper (Awaits c v t) end rights g w gs k f = (f c k.0, served proper t end rights g (without (c ∷ []) w) gs k.1 (λ d h. f d (minus_in d (c ∷ []) w h)))
  served proper (Gives c v t) end rights g w gs k f = served proper t end rights g w (gs ++ (record { cell = c; value = Some v } ∷ [])) k.1.1 f
  served proper (Forks i x ks t) end rights g w gs k f = (
    served_all proper x 1 ks end (without (names x.cells) g) rights w gs (kid_count ks) (omega arith) k.0 k.1.0
        (λ j c h. moved_given x (kid_count ks) rights gs w g c j k.0 f h)
        (λ p c l r h. absurd (omega (arith, l, r))),
    λ a. served proper t end rights (without (names x.cells) g ++ all_marks ks) (waits_past x w) (gs ++ gifts_through (moved true x.moves) (all_give ks)) (k.1.1 a)
        (λ c h. behind_on x ks g c (without (moved false x.moves) w) (in_either c (uses 0 x.cells) (without (names x.cells) (without (moved false x.moves) w)) h)
        (λ h'. used_marked proper x ks k.0.cells k.1.0 a c h') (λ h'. f c (minus_in c (moved false x.moves) w h'))),
  )

  pub served_all : (proper : ℕ → Value → Type 0) (x : Fork) (k : ℕ) (ks : BranchCourses) (end : List ℕ → List Gift → Hold → Type 0) (g : List ℕ) (rights : ℕ → Bool) (w : List ℕ) (gs : List Gift) (n : ℕ) → 1 ≤ k → SiteFits n rights gs w x → AllKeep proper x k ks
      → ((j c : ℕ) → has c (moved_to j false x.moves) ≡ true → has c g ≡ true) → ((p c : ℕ) → 1 ≤ p → p < k → has c (makes p x.cells) ≡ true → has c g ≡ true) → AllServed g ks
  served_all proper x k no_branches end g rights w gs n o s p f q = tt
  served_all proper x k (more_branches t more) end g rights w gs n o s p f q = (
    served (kid_proper proper x) t (Whole (λ c. has c (signals_to k x))) (λ c. has c (signals_to k x)) g (waits_to k x) [] p.0
        (λ c h. waits_on x k c g (in_either c (uses k x.cells) (moved_to k false x.moves) h) (λ h'. f k c h')
        (λ h'. let u = used_some (NamedFits n) x.cells c k s.cells h' in q u.one.producer c u.fact.0 (left_of n k u.one o u.consumer u.fact.1.1) u.made)),
    λ a. served_all proper x (suc k) more end (g ++ marks t) rights w gs n (omega arith) s p.1 (λ j c h. in_left c g (marks t) (f j c h))
        (λ j c l r h. next_on x k j c g (marks t) (here_or_later j k (omega (arith, r)) (nat_eq k j) refl) h
        (λ r'. q j c l r' h)
        (λ h'. kept_marks (kid_proper proper x) t (λ d. has d (signals_to k x)) (waits_to k x) [] p.0 a c (in_left c (makes k x.cells) (moved_to k true x.moves) h') refl)),
  )

nothing_moves : (m : List Move) → m ≡ [] → (j c : ℕ) (g : List ℕ) → has c (moved_to j false m) ≡ true → has c g ≡ true
nothing_moves m e j c g h = nothing (subst (λ z. has c (moved_to j false z) ≡ true) e h)
  where
    nothing : has c [] ≡ true → has c g ≡ true
    nothing q = absurd (cc)

-- and where it uses no rights from outside
pub served_quiet : (t : BranchCourse) (root : Bool) (next : ℕ) (p g : List ℕ) → Quiet next p t → ((c : ℕ) → has c p ≡ true → has c g ≡ true) → Served root g t
served_quiet Over root next p g q f = tt
served_quiet (Breaks h) root next p g q f = tt
served_quiet (Steps t) root next p g q f = served_quiet t root next p g q f
served_quiet (Finds hold t) true next p g q f = served_quiet t true next [] g q (λ c h. absurd (cc))
served_quiet (Finds hold t) false next p g q f = tt
served_quiet (Awaits c v t) root next p g q f = (f c q.0, served_quiet t root next (without (c ∷ []) p) g q.1.1 (λ d h. f d (minus_in d (c ∷ []) p h)))
served_quiet (Gives c v t) root next p g q f = absurd q
served_quiet (Forks i x ks t) root next p g q f = (
  served_all anything x 1 ks (λ w s e. Unit {0}) (without (names x.cells) g) (λ c. false) [] [] (kid_count ks) (omega arith)
      (own_fits (kid_count ks) next (λ c. false) [] [] x (λ c r. absurd (cc)) q.0 q.1.0)
      q.1.1.0 (λ j c h. nothing_moves x.moves q.0 j c (without (names x.cells) g) h) (λ j c l r h. absurd (omega (arith, l, r))),
  λ a. served_quiet t root next (pending_past x p) (without (names x.cells) g ++ all_marks ks) (q.1.1.1 a)
      (λ c h. behind_on x ks g c p (in_either c (uses 0 x.cells) (without (names x.cells) p) h) (λ h'. used_marked anything x ks q.1.0.cells q.1.1.0 a c h') (λ h'. f c h')),
)
