-- Courses that answer, by test; and what is given behind conjuncts.
use Rattle.std.proofs.Common.{◌≡◌, Bool, true, false, ◌&&◌, if◌then◌else◌, List, [], refl, ap}
use Rattle.std.specs.Prelude.{None}
use Rattle.merc_plan.specs.Branch.{Hold, BranchCourse, Over, Breaks, Steps, Finds, Awaits, Gives, Forks, BranchCourses, no_branches, more_branches, Gift, gift_at, does_answer, all_do_answer}
use Rattle.merc_plan.proofs.Flat.{Flat, Done, Halts, Tick, Answer, Answers, behind}
use Rattle.merc_plan.proofs.Judging.{flat, flats, AllAnswer}

both_true : (a b : Bool) → (a && b) ≡ true → (a ≡ true) × (b ≡ true)
both_true true b h = (refl, h)
both_true false b h = absurd (cc)

true_both : (a b : Bool) → a ≡ true → b ≡ true → (a && b) ≡ true
true_both true b h k = k
true_both false b h k = absurd (cc)

behind_answers : (t u : Flat Hold) → Answers t → Answers u → Answers (behind t u)
behind_answers Done u a b = absurd a
behind_answers (Halts h) u a b = absurd a
behind_answers (Tick t) u a b = behind_answers t u a b
behind_answers (Answer e t) u a b = b

flats_answer : (ks : BranchCourses) (u : Flat Hold) → AllAnswer ks → Answers u → Answers (flats ks u)
flats_answer no_branches u a b = b
flats_answer (more_branches t more) u a b = behind_answers (flat t) (flats more u) a.0 (flats_answer more u a.1 b)

both_answer : (t u : Flat Hold) → Answers (behind t u) → Answers t × Answers u
both_answer Done u h = absurd h
both_answer (Halts g) u h = absurd h
both_answer (Tick t) u h = both_answer t u h
both_answer (Answer e t) u h = (tt, h)

all_answer : (ks : BranchCourses) (u : Flat Hold) → Answers (flats ks u) → AllAnswer ks × Answers u
all_answer no_branches u h = (tt, h)
all_answer (more_branches t more) u h =
    let a = both_answer (flat t) (flats more u) h in
    let b = all_answer more u a.1 in
    ((a.0, b.0), b.1)

mutual
  pub told_answers : (t : BranchCourse) → does_answer t ≡ true → Answers (flat t)
  told_answers Over h = absurd (cc)
  told_answers (Breaks g) h = absurd (cc)
  told_answers (Steps t) h = told_answers t h
  told_answers (Finds hold t) h = tt
  told_answers (Awaits c v t) h = told_answers t h
  told_answers (Gives c v t) h = told_answers t h
  told_answers (Forks i x ks t) h = let b = both_true (all_do_answer ks) (does_answer t) h in flats_answer ks (flat t) (all_told ks b.0) (told_answers t b.1)

  pub all_told : (ks : BranchCourses) → all_do_answer ks ≡ true → AllAnswer ks
  all_told no_branches h = tt
  all_told (more_branches t more) h = let b = both_true (does_answer t) (all_do_answer more) h in (told_answers t b.0, all_told more b.1)

mutual
  pub is_told : (t : BranchCourse) → Answers (flat t) → does_answer t ≡ true
  is_told Over a = absurd a
  is_told (Breaks g) a = absurd a
  is_told (Steps t) a = is_told t a
  is_told (Finds hold t) a = refl
  is_told (Awaits c v t) a = is_told t a
  is_told (Gives c v t) a = is_told t a
  is_told (Forks i x ks t) a = let b = all_answer ks (flat t) a in true_both (all_do_answer ks) (does_answer t) (are_told ks b.0) (is_told t b.1)

  pub are_told : (ks : BranchCourses) → AllAnswer ks → all_do_answer ks ≡ true
  are_told no_branches a = refl
  are_told (more_branches t more) a = true_both (does_answer t) (all_do_answer more) (is_told t a.0) (are_told more a.1)

-- behind conjuncts that answer all is given
pub all_behind : (ks : BranchCourses) (gs : List Gift) → AllAnswer ks → (if all_do_answer ks then gs else []) ≡ gs
all_behind ks gs a = ap (λ (b : Bool). if b then gs else []) (are_told ks a)

pub none_behind : (b : Bool) (gs : List Gift) (c : _) → gift_at c gs ≡ None → gift_at c (if b then gs else []) ≡ None
none_behind true gs c h = h
none_behind false gs c h = refl
