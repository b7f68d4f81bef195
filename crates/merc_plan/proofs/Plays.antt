-- What belongs to courses of branches goes together as they do.
use Rattle.std.proofs.Common.{◌≡◌, sym, subst}
use Rattle.merc_meaning.specs.Trace.{Env}
use Rattle.merc_course.specs.Course.{GoalCourse, Answer, Given, Passed, Joined, after, each, taken_back, first_alone, choose, negated, closed}
use Rattle.merc_plan.specs.Branch.{Hold, BranchCourse, Finds, after as b_after, each as b_each, taken_back as b_taken, first_alone as b_first, choose as b_choose, negated as b_negated, closed as b_closed}
use Rattle.merc_plan.specs.Plays.{Plays, ends_done, ends_raised, ends_deep, steps, finds, waits, starves, hands, forks}

pub plays-after : (t u : GoalCourse) (t' u' : BranchCourse) → Plays t t' → Plays u u' → Plays (after t u) (b_after t' u')
plays-after t u t' u' ends_done q = q
plays-after t u t' u' (ends_raised e) q = ends_raised e
plays-after t u t' u' ends_deep q = ends_deep
plays-after t u t' u' (steps t1 t2 p) q = steps _ _ (plays-after t1 u t2 u' p q)
plays-after t u t' u' (finds hold t1 t2 p) q = finds hold _ _ (plays-after t1 u t2 u' p q)
plays-after t u t' u' (waits x c v ks f t2 p) q = waits x c v ks _ _ (plays-after (f (Given v)) u t2 u' p q)
plays-after t u t' u' (starves x c ks f) q = starves x c ks _
plays-after t u t' u' (hands x c v ks f t2 p) q = hands x c v ks _ _ (plays-after (f Passed) u t2 u' p q)
plays-after t u t' u' (forks i x ks f kids t2 ps p) q = forks i x ks _ kids _ ps (λ n. plays-after (f (Joined n)) u t2 u' (p n) q)

pub plays-each : (F : Env → GoalCourse) (F' : Hold → BranchCourse) → ((hold : Hold) → Plays (F hold.env) (F' hold)) → (t : GoalCourse) (t' : BranchCourse) → Plays t t'
    → Plays (each F t) (b_each F' t')
plays-each F F' h t t' ends_done = ends_done
plays-each F F' h t t' (ends_raised e) = ends_raised e
plays-each F F' h t t' ends_deep = ends_deep
plays-each F F' h t t' (steps t1 t2 p) = steps _ _ (plays-each F F' h t1 t2 p)
plays-each F F' h t t' (finds hold t1 t2 p) = plays-after (F hold.env) (each F t1) (F' hold) (b_each F' t2) (h hold) (plays-each F F' h t1 t2 p)
plays-each F F' h t t' (waits x c v ks f t2 p) = waits x c v ks _ _ (plays-each F F' h (f (Given v)) t2 p)
plays-each F F' h t t' (starves x c ks f) = starves x c ks _
plays-each F F' h t t' (hands x c v ks f t2 p) = hands x c v ks _ _ (plays-each F F' h (f Passed) t2 p)
plays-each F F' h t t' (forks i x ks f kids t2 ps p) = forks i x ks _ kids _ ps (λ n. plays-each F F' h (f (Joined n)) t2 (p n))

pub plays-taken : (F : Env → Env) (F' : Hold → Hold) → ((hold : Hold) → F hold.env ≡ (F' hold).env) → (t : GoalCourse) (t' : BranchCourse) → Plays t t'
    → Plays (taken_back F t) (b_taken F' t')
plays-taken F F' h t t' ends_done = ends_done
plays-taken F F' h t t' (ends_raised e) = ends_raised e
plays-taken F F' h t t' ends_deep = ends_deep
plays-taken F F' h t t' (steps t1 t2 p) = steps _ _ (plays-taken F F' h t1 t2 p)
plays-taken F F' h t t' (finds hold t1 t2 p) =
    subst (λ x. Plays (Answer x (taken_back F t1)) (Finds (F' hold) (b_taken F' t2))) (sym (h hold)) (finds (F' hold) _ _ (plays-taken F F' h t1 t2 p))
plays-taken F F' h t t' (waits x c v ks f t2 p) = waits x c v ks _ _ (plays-taken F F' h (f (Given v)) t2 p)
plays-taken F F' h t t' (starves x c ks f) = starves x c ks _
plays-taken F F' h t t' (hands x c v ks f t2 p) = hands x c v ks _ _ (plays-taken F F' h (f Passed) t2 p)
plays-taken F F' h t t' (forks i x ks f kids t2 ps p) = forks i x ks _ kids _ ps (λ n. plays-taken F F' h (f (Joined n)) t2 (p n))

pub plays-first : (t : GoalCourse) (t' : BranchCourse) → Plays t t' → Plays (first_alone t) (b_first t')
plays-first t t' ends_done = ends_done
plays-first t t' (ends_raised e) = ends_raised e
plays-first t t' ends_deep = ends_deep
plays-first t t' (steps t1 t2 p) = steps _ _ (plays-first t1 t2 p)
plays-first t t' (finds hold t1 t2 p) = finds hold _ _ ends_done
plays-first t t' (waits x c v ks f t2 p) = waits x c v ks _ _ (plays-first (f (Given v)) t2 p)
plays-first t t' (starves x c ks f) = starves x c ks _
plays-first t t' (hands x c v ks f t2 p) = hands x c v ks _ _ (plays-first (f Passed) t2 p)
plays-first t t' (forks i x ks f kids t2 ps p) = forks i x ks _ kids _ ps (λ n. plays-first (f (Joined n)) t2 (p n))

pub plays-choose : (F : Env → GoalCourse) (F' : Hold → BranchCourse) → ((hold : Hold) → Plays (F hold.env) (F' hold)) → (u : GoalCourse) (u' : BranchCourse) → Plays u u'
    → (t : GoalCourse) (t' : BranchCourse) → Plays t t' → Plays (choose F u t) (b_choose F' u' t')
plays-choose F F' h u u' q t t' ends_done = q
plays-choose F F' h u u' q t t' (ends_raised e) = ends_raised e
plays-choose F F' h u u' q t t' ends_deep = ends_deep
plays-choose F F' h u u' q t t' (steps t1 t2 p) = steps _ _ (plays-choose F F' h u u' q t1 t2 p)
plays-choose F F' h u u' q t t' (finds hold t1 t2 p) =
    plays-after (F hold.env) (each F t1) (F' hold) (b_each F' t2) (h hold) (plays-each F F' h t1 t2 p)
plays-choose F F' h u u' q t t' (waits x c v ks f t2 p) = waits x c v ks _ _ (plays-choose F F' h u u' q (f (Given v)) t2 p)
plays-choose F F' h u u' q t t' (starves x c ks f) = starves x c ks _
plays-choose F F' h u u' q t t' (hands x c v ks f t2 p) = hands x c v ks _ _ (plays-choose F F' h u u' q (f Passed) t2 p)
plays-choose F F' h u u' q t t' (forks i x ks f kids t2 ps p) = forks i x ks _ kids _ ps (λ n. plays-choose F F' h u u' q (f (Joined n)) t2 (p n))

pub plays-negated : (hold : Hold) (t : GoalCourse) (t' : BranchCourse) → Plays t t' → Plays (negated hold.env t) (b_negated hold t')
plays-negated hold t t' ends_done = finds hold _ _ ends_done
plays-negated hold t t' (ends_raised e) = ends_raised e
plays-negated hold t t' ends_deep = ends_deep
plays-negated hold t t' (steps t1 t2 p) = steps _ _ (plays-negated hold t1 t2 p)
plays-negated hold t t' (finds found t1 t2 p) = ends_done
plays-negated hold t t' (waits x c v ks f t2 p) = waits x c v ks _ _ (plays-negated hold (f (Given v)) t2 p)
plays-negated hold t t' (starves x c ks f) = starves x c ks _
plays-negated hold t t' (hands x c v ks f t2 p) = hands x c v ks _ _ (plays-negated hold (f Passed) t2 p)
plays-negated hold t t' (forks i x ks f kids t2 ps p) = forks i x ks _ kids _ ps (λ n. plays-negated hold (f (Joined n)) t2 (p n))

pub plays-closed : (t : GoalCourse) (t' : BranchCourse) → Plays t t' → Plays (closed t) (b_closed t')
plays-closed t t' ends_done = ends_done
plays-closed t t' (ends_raised e) = ends_raised e
plays-closed t t' ends_deep = ends_deep
plays-closed t t' (steps t1 t2 p) = steps _ _ (plays-closed t1 t2 p)
plays-closed t t' (finds hold t1 t2 p) = ends_done
plays-closed t t' (waits x c v ks f t2 p) = waits x c v ks _ _ (plays-closed (f (Given v)) t2 p)
plays-closed t t' (starves x c ks f) = starves x c ks _
plays-closed t t' (hands x c v ks f t2 p) = hands x c v ks _ _ (plays-closed (f Passed) t2 p)
plays-closed t t' (forks i x ks f kids t2 ps p) = forks i x ks _ kids _ ps (λ n. plays-closed (f (Joined n)) t2 (p n))
