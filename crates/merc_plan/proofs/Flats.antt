-- The flat course of what the combinators make.
use Rattle.std.proofs.Common.{◌≡◌, Bool, true, false, refl, ap, sym, ◌∙◌}
use Rattle.merc_plan.specs.Branch.{Hold, Fork, BranchCourse, Over, Breaks, Steps, Finds, Awaits, Gives, Forks, BranchCourses, no_branches, more_branches, after as c_after, each as c_each, taken_back as c_taken, first_alone as c_first, choose as c_choose, negated as c_negated}
use Rattle.merc_plan.specs.Branches.{once_if as c_once}
use Rattle.merc_plan.proofs.Flat.{Flat, Done, Halts, Tick, Answer, Det, Answers, Each, behind, after, each, taken, first_alone, choose, negated, once_if}
use Rattle.merc_plan.proofs.Judging.{flat, flats, Sure, AllSure, AllAnswer}

-- each combinator goes past a det trace
behind_after : (t : Flat Hold) → Det t → (w u : Flat Hold) → after (behind t w) u ≡ behind t (after w u)
behind_after Done d w u = absurd d
behind_after (Halts h) d w u = refl
behind_after (Tick t) d w u = ap (λ x. Tick x) (behind_after t d w u)
behind_after (Answer a t) d w u = refl

behind_each : (t : Flat Hold) → Det t → (f : Hold → Flat Hold) (w : Flat Hold) → each f (behind t w) ≡ behind t (each f w)
behind_each Done d f w = absurd d
behind_each (Halts h) d f w = refl
behind_each (Tick t) d f w = ap (λ x. Tick x) (behind_each t d f w)
behind_each (Answer a t) d f w = refl

behind_taken : (t : Flat Hold) → Det t → (f : Hold → Hold) (w : Flat Hold) → taken f (behind t w) ≡ behind t (taken f w)
behind_taken Done d f w = absurd d
behind_taken (Halts h) d f w = refl
behind_taken (Tick t) d f w = ap (λ x. Tick x) (behind_taken t d f w)
behind_taken (Answer a t) d f w = refl

behind_first : (t : Flat Hold) → Det t → (w : Flat Hold) → first_alone (behind t w) ≡ behind t (first_alone w)
behind_first Done d w = absurd d
behind_first (Halts h) d w = refl
behind_first (Tick t) d w = ap (λ x. Tick x) (behind_first t d w)
behind_first (Answer a t) d w = refl

behind_choose : (t : Flat Hold) → Det t → (f : Hold → Flat Hold) (u w : Flat Hold) → choose f u (behind t w) ≡ behind t (choose f u w)
behind_choose Done d f u w = absurd d
behind_choose (Halts h) d f u w = refl
behind_choose (Tick t) d f u w = ap (λ x. Tick x) (behind_choose t d f u w)
behind_choose (Answer a t) d f u w = refl

behind_negated : (t : Flat Hold) → Det t → (env : Hold) (w : Flat Hold) → negated env (behind t w) ≡ behind t (negated env w)
behind_negated Done d env w = absurd d
behind_negated (Halts h) d env w = refl
behind_negated (Tick t) d env w = ap (λ x. Tick x) (behind_negated t d env w)
behind_negated (Answer a t) d env w = refl

behind_same : (t : Flat Hold) (u w : Flat Hold) → (Answers t → u ≡ w) → behind t u ≡ behind t w
behind_same Done u w h = refl
behind_same (Halts g) u w h = refl
behind_same (Tick t) u w h = ap (λ x. Tick x) (behind_same t u w h)
behind_same (Answer a t) u w h = h tt

pub flats_same : (ks : BranchCourses) (u w : Flat Hold) → (AllAnswer ks → u ≡ w) → flats ks u ≡ flats ks w
flats_same no_branches u w h = h tt
flats_same (more_branches t more) u w h = behind_same (flat t) (flats more u) (flats more w) (λ a. flats_same more u w (λ b. h (a, b)))

each_behind : (P : Hold → Type 0) (t w : Flat Hold) → Each P (behind t w) → Answers t → Each P w
each_behind P Done w e a = absurd a
each_behind P (Halts h) w e a = absurd a
each_behind P (Tick t) w e a = each_behind P t w e a
each_behind P (Answer b t) w e a = e

pub each_flats : (P : Hold → Type 0) (ks : BranchCourses) (w : Flat Hold) → Each P (flats ks w) → AllAnswer ks → Each P w
each_flats P no_branches w e a = e
each_flats P (more_branches t more) w e a = each_flats P more w (each_behind P (flat t) (flats more w) e a.0) a.1

module _ (Holds : Fork → BranchCourses → Type 0) where
  -- and past the conjuncts of a Fork
  past : (h : Flat Hold → Flat Hold) → ((t : Flat Hold) → Det t → (w : Flat Hold) → h (behind t w) ≡ behind t (h w)) → (ks : BranchCourses) → AllSure Holds ks → (w : Flat Hold) → h (flats ks w) ≡ flats ks (h w)
  past h law no_branches su w = refl
  past h law (more_branches t ks) su w = law (flat t) su.1.0 (flats ks w) ∙ behind_same (flat t) (h (flats ks w)) (flats ks (h w)) (λ a. past h law ks (su.1.1 a) w)

  pub flat_after : (t u : BranchCourse) → Sure Holds t → flat (c_after t u) ≡ after (flat t) (flat u)
  flat_after Over u su = refl
  flat_after (Breaks h) u su = refl
  flat_after (Steps t) u su = ap (λ x. Tick x) (flat_after t u su)
  flat_after (Finds env t) u su = ap (λ x. Answer env x) (flat_after t u su)
  flat_after (Awaits c o t) u su = flat_after t u su
  flat_after (Gives c v t) u su = flat_after t u su
  flat_after (Forks i x ks t) u su = flats_same ks (flat (c_after t u)) (after (flat t) (flat u)) (λ a. flat_after t u (su.1.1 a)) ∙ sym (past (λ w. after w (flat u)) (λ a d w. behind_after a d w (flat u)) ks su.1.0 (flat t))

  pub sure_after : (t u : BranchCourse) → Sure Holds t → Sure Holds u → Sure Holds (c_after t u)
  sure_after Over u a b = b
  sure_after (Breaks h) u a b = tt
  sure_after (Steps t) u a b = sure_after t u a b
  sure_after (Finds env t) u a b = sure_after t u a b
  sure_after (Awaits c o t) u a b = sure_after t u a b
  sure_after (Gives c v t) u a b = sure_after t u a b
  sure_after (Forks i x ks t) u a b = (a.0, (a.1.0, λ q. sure_after t u (a.1.1 q) b))

  pub sure_each : (f : Hold → BranchCourse) (t : BranchCourse) → Each (λ env. Sure Holds (f env)) (flat t) → Sure Holds t → Sure Holds (c_each f t)
  sure_each f Over s a = tt
  sure_each f (Breaks h) s a = tt
  sure_each f (Steps t) s a = sure_each f t s a
  sure_each f (Finds env t) s a = sure_after (f env) (c_each f t) s.0 (sure_each f t s.1 a)
  sure_each f (Awaits c o t) s a = sure_each f t s a
  sure_each f (Gives c v t) s a = sure_each f t s a
  sure_each f (Forks i x ks t) s a = (a.0, (a.1.0, λ q. sure_each f t (each_flats (λ env. Sure Holds (f env)) ks (flat t) s q) (a.1.1 q)))

  pub flat_each : (f : Hold → BranchCourse) (t : BranchCourse) → Each (λ env. Sure Holds (f env)) (flat t) → Sure Holds t → flat (c_each f t) ≡ each (λ env. flat (f env)) (flat t)
  flat_each f Over s a = refl
  flat_each f (Breaks h) s a = refl
  flat_each f (Steps t) s a = ap (λ x. Tick x) (flat_each f t s a)
  flat_each f (Finds env t) s a = flat_after (f env) (c_each f t) s.0 ∙ ap (λ x. after (flat (f env)) x) (flat_each f t s.1 a)
  flat_each f (Awaits c o t) s a = flat_each f t s a
  flat_each f (Gives c v t) s a = flat_each f t s a
  flat_each f (Forks i x ks t) s a =
      flats_same ks (flat (c_each f t)) (each (λ env. flat (f env)) (flat t)) (λ q. flat_each f t (each_flats (λ env. Sure Holds (f env)) ks (flat t) s q) (a.1.1 q))
      ∙ sym (past (λ w. each (λ env. flat (f env)) w) (λ b d w. behind_each b d (λ env. flat (f env)) w) ks a.1.0 (flat t))

  pub flat_taken : (f : Hold → Hold) (t : BranchCourse) → Sure Holds t → flat (c_taken f t) ≡ taken f (flat t)
  flat_taken f Over a = refl
  flat_taken f (Breaks h) a = refl
  flat_taken f (Steps t) a = ap (λ x. Tick x) (flat_taken f t a)
  flat_taken f (Finds env t) a = ap (λ x. Answer (f env) x) (flat_taken f t a)
  flat_taken f (Awaits c o t) a = flat_taken f t a
  flat_taken f (Gives c v t) a = flat_taken f t a
  flat_taken f (Forks i x ks t) a = flats_same ks (flat (c_taken f t)) (taken f (flat t)) (λ q. flat_taken f t (a.1.1 q)) ∙ sym (past (λ w. taken f w) (λ b d w. behind_taken b d f w) ks a.1.0 (flat t))

  pub sure_taken : (f : Hold → Hold) (t : BranchCourse) → Sure Holds t → Sure Holds (c_taken f t)
  sure_taken f Over a = tt
  sure_taken f (Breaks h) a = tt
  sure_taken f (Steps t) a = sure_taken f t a
  sure_taken f (Finds env t) a = sure_taken f t a
  sure_taken f (Awaits c o t) a = sure_taken f t a
  sure_taken f (Gives c v t) a = sure_taken f t a
  sure_taken f (Forks i x ks t) a = (a.0, (a.1.0, λ q. sure_taken f t (a.1.1 q)))

  flat_first : (t : BranchCourse) → Sure Holds t → flat (c_first t) ≡ first_alone (flat t)
  flat_first Over a = refl
  flat_first (Breaks h) a = refl
  flat_first (Steps t) a = ap (λ x. Tick x) (flat_first t a)
  flat_first (Finds env t) a = refl
  flat_first (Awaits c o t) a = flat_first t a
  flat_first (Gives c v t) a = flat_first t a
  flat_first (Forks i x ks t) a = flats_same ks (flat (c_first t)) (first_alone (flat t)) (λ q. flat_first t (a.1.1 q)) ∙ sym (past (λ w. first_alone w) (λ b d w. behind_first b d w) ks a.1.0 (flat t))

  sure_first : (t : BranchCourse) → Sure Holds t → Sure Holds (c_first t)
  sure_first Over a = tt
  sure_first (Breaks h) a = tt
  sure_first (Steps t) a = sure_first t a
  sure_first (Finds env t) a = tt
  sure_first (Awaits c o t) a = sure_first t a
  sure_first (Gives c v t) a = sure_first t a
  sure_first (Forks i x ks t) a = (a.0, (a.1.0, λ q. sure_first t (a.1.1 q)))

  pub flat_choose : (f : Hold → BranchCourse) (u t : BranchCourse) → Each (λ env. Sure Holds (f env)) (flat t) → Sure Holds t → flat (c_choose f u t) ≡ choose (λ env. flat (f env)) (flat u) (flat t)
  flat_choose f u Over s a = refl
  flat_choose f u (Breaks h) s a = refl
  flat_choose f u (Steps t) s a = ap (λ x. Tick x) (flat_choose f u t s a)
  flat_choose f u (Finds env t) s a = flat_after (f env) (c_each f t) s.0 ∙ ap (λ x. after (flat (f env)) x) (flat_each f t s.1 a)
  flat_choose f u (Awaits c o t) s a = flat_choose f u t s a
  flat_choose f u (Gives c v t) s a = flat_choose f u t s a
  flat_choose f u (Forks i x ks t) s a =
      flats_same ks (flat (c_choose f u t)) (choose (λ env. flat (f env)) (flat u) (flat t)) (λ q. flat_choose f u t (each_flats (λ env. Sure Holds (f env)) ks (flat t) s q) (a.1.1 q))
      ∙ sym (past (λ w. choose (λ env. flat (f env)) (flat u) w) (λ b d w. behind_choose b d (λ env. flat (f env)) (flat u) w) ks a.1.0 (flat t))

  pub sure_choose : (f : Hold → BranchCourse) (u t : BranchCourse) → Each (λ env. Sure Holds (f env)) (flat t) → Sure Holds u → Sure Holds t → Sure Holds (c_choose f u t)
  sure_choose f u Over s b a = b
  sure_choose f u (Breaks h) s b a = tt
  sure_choose f u (Steps t) s b a = sure_choose f u t s b a
  sure_choose f u (Finds env t) s b a = sure_after (f env) (c_each f t) s.0 (sure_each f t s.1 a)
  sure_choose f u (Awaits c o t) s b a = sure_choose f u t s b a
  sure_choose f u (Gives c v t) s b a = sure_choose f u t s b a
  sure_choose f u (Forks i x ks t) s b a = (a.0, (a.1.0, λ q. sure_choose f u t (each_flats (λ env. Sure Holds (f env)) ks (flat t) s q) b (a.1.1 q)))

  pub flat_negated : (env : Hold) (t : BranchCourse) → Sure Holds t → flat (c_negated env t) ≡ negated env (flat t)
  flat_negated env Over a = refl
  flat_negated env (Breaks h) a = refl
  flat_negated env (Steps t) a = ap (λ x. Tick x) (flat_negated env t a)
  flat_negated env (Finds env' t) a = refl
  flat_negated env (Awaits c o t) a = flat_negated env t a
  flat_negated env (Gives c v t) a = flat_negated env t a
  flat_negated env (Forks i x ks t) a = flats_same ks (flat (c_negated env t)) (negated env (flat t)) (λ q. flat_negated env t (a.1.1 q)) ∙ sym (past (λ w. negated env w) (λ b d w. behind_negated b d env w) ks a.1.0 (flat t))

  pub sure_negated : (env : Hold) (t : BranchCourse) → Sure Holds t → Sure Holds (c_negated env t)
  sure_negated env Over a = tt
  sure_negated env (Breaks h) a = tt
  sure_negated env (Steps t) a = sure_negated env t a
  sure_negated env (Finds env' t) a = tt
  sure_negated env (Awaits c o t) a = sure_negated env t a
  sure_negated env (Gives c v t) a = sure_negated env t a
  sure_negated env (Forks i x ks t) a = (a.0, (a.1.0, λ q. sure_negated env t (a.1.1 q)))

  pub flat_once : (b : Bool) (t : BranchCourse) → Sure Holds t → flat (c_once b t) ≡ once_if b (flat t)
  flat_once true t a = flat_first t a
  flat_once false t a = refl

  pub sure_once : (b : Bool) (t : BranchCourse) → Sure Holds t → Sure Holds (c_once b t)
  sure_once true t a = sure_first t a
  sure_once false t a = a
