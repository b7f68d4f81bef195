-- Courses that are the same up to a limit of steps.
use Rattle.std.proofs.Common.{◌≡◌, ℕ, zero, suc, ◌-◌, ◌≤◌, Bool, true, false, Option, Some, None, refl, ap, ◌∙◌, arith}
use mathlib.Core.Path.{fun_ext}
use Rattle.merc_value.specs.Value.{Values}
use Rattle.merc_meaning.specs.Trace.{Env, End, Done, Raised, TooDeep}
use Rattle.merc_course.specs.Course.{Meeting, Reply, Given, Passed, Joined, GoalCourse, Ends, Tick, Answer, Meets, Courses, no_courses, more_courses, after, each, taken_back, first_alone, choose, negated, closed, left_after, cut, cut_all}
use Rattle.merc_course.specs.Known.{known, all_known}
use Rattle.merc_course.specs.Courses.{once_if, where_some}

-- Two courses are the same up to a limit of steps, and so are those of their conjuncts; where the first has a step past the limit, the second may be too deep.
mutual
  pub data Alike : ℕ → GoalCourse → GoalCourse → Type 0 where
    ends : {limit : ℕ} {end : End} → Alike limit (Ends end) (Ends end)
    stops : {left right : GoalCourse} → Alike zero (Tick left) (Tick right)
    passes : {left : GoalCourse} → Alike zero (Tick left) (Ends TooDeep)
    ticks : {limit : ℕ} {left right : GoalCourse} → Alike limit left right → Alike (suc limit) (Tick left) (Tick right)
    answers : {limit : ℕ} {env : Env} {left right : GoalCourse} → Alike limit left right → Alike limit (Answer env left) (Answer env right)
    meets : {limit : ℕ} {what : Meeting} {forked others : Courses End} {next other : Reply → GoalCourse}
        → AllAlike limit forked others → ((reply : Reply) → Alike (left_after limit reply) (next reply) (other reply)) → Alike limit (Meets what forked next) (Meets what others other)

  pub data AllAlike : ℕ → Courses End → Courses End → Type 0 where
    none_left : {limit : ℕ} → AllAlike limit no_courses no_courses
    one_more : {limit : ℕ} {left right : GoalCourse} {forked others : Courses End}
        → Alike limit left right → AllAlike limit forked others → AllAlike limit (more_courses left forked) (more_courses right others)

mutual
  pub cut-alike : {limit : ℕ} {left right : GoalCourse} → Alike limit left right → cut limit left ≡ cut limit right
  cut-alike ends = refl
  cut-alike stops = refl
  cut-alike passes = refl
  cut-alike (ticks h) = ap Tick (cut-alike h)
  cut-alike (answers {env = env} h) = ap (λ t. Answer env t) (cut-alike h)
  cut-alike (meets {limit = limit} {what = what} {others = others} {next = next} ks h) =
      ap (λ x. Meets what x (λ reply. cut (left_after limit reply) (next reply))) (all-cut-alike ks)
      ∙ ap (λ x. Meets what (cut_all limit others) x) (fun_ext (λ (reply : Reply). cut-alike (h reply)))

  all-cut-alike : {limit : ℕ} {forked others : Courses End} → AllAlike limit forked others → cut_all limit forked ≡ cut_all limit others
  all-cut-alike none_left = refl
  all-cut-alike (one_more {limit = limit} {right = right} {forked = forked} h ks) =
      ap (λ x. more_courses x (cut_all limit forked)) (cut-alike h) ∙ ap (λ x. more_courses (cut limit right) x) (all-cut-alike ks)

mutual
  pub alike-self : (limit : ℕ) (t : GoalCourse) → Alike limit t t
  alike-self limit (Ends e) = ends
  alike-self zero (Tick t) = stops
  alike-self (suc limit) (Tick t) = ticks (alike-self limit t)
  alike-self limit (Answer env t) = answers (alike-self limit t)
  alike-self limit (Meets what ks f) = meets (all-alike-self limit ks) (λ reply. alike-self (left_after limit reply) (f reply))

  all-alike-self : (limit : ℕ) (ks : Courses End) → AllAlike limit ks ks
  all-alike-self limit no_courses = none_left
  all-alike-self limit (more_courses t ks) = one_more (alike-self limit t) (all-alike-self limit ks)

-- a course is so known from one that is cut
mutual
  pub alike-known : (limit : ℕ) (t : GoalCourse) → Alike limit t (known (cut limit t))
  alike-known limit (Ends Done) = ends
  alike-known limit (Ends (Raised x)) = ends
  alike-known limit (Ends TooDeep) = ends
  alike-known zero (Tick t) = passes
  alike-known (suc limit) (Tick t) = ticks (alike-known limit t)
  alike-known limit (Answer env t) = answers (alike-known limit t)
  alike-known limit (Meets what ks f) = meets (all-alike-known limit ks) (λ reply. alike-known (left_after limit reply) (f reply))

  all-alike-known : (limit : ℕ) (ks : Courses End) → AllAlike limit ks (all_known (cut_all limit ks))
  all-alike-known limit no_courses = none_left
  all-alike-known limit (more_courses t ks) = one_more (alike-known limit t) (all-alike-known limit ks)

-- at a lower limit

fewer-left : (lower limit : ℕ) (reply : Reply) → lower ≤ limit → left_after lower reply ≤ left_after limit reply
fewer-left lower limit (Given value) k = k
fewer-left lower limit Passed k = k
fewer-left lower limit (Joined steps) k = let fewest : lower - steps ≤ limit - steps = omega (arith, k) in fewest

none-more : (limit : ℕ) (reply : Reply) → left_after limit reply ≤ limit
none-more limit (Given value) = let same : limit ≤ limit = omega arith in same
none-more limit Passed = let same : limit ≤ limit = omega arith in same
none-more limit (Joined steps) = let less : limit - steps ≤ limit = omega arith in less

mutual
  pub fewer : (lower limit : ℕ) {left right : GoalCourse} → lower ≤ limit → Alike limit left right → Alike lower left right
  fewer lower limit k ends = ends
  fewer zero limit k stops = stops
  fewer (suc lower) limit k stops = absurd (omega (arith, k))
  fewer zero limit k passes = passes
  fewer (suc lower) limit k passes = absurd (omega (arith, k))
  fewer zero limit k (ticks h) = stops
  fewer (suc lower) limit k (ticks {limit = rest} h) = ticks (fewer lower rest (omega (arith, k)) h)
  fewer lower limit k (answers h) = answers (fewer lower limit k h)
  fewer lower limit k (meets ks h) = meets (all-fewer lower limit k ks) (λ reply. fewer (left_after lower reply) (left_after limit reply) (fewer-left lower limit reply k) (h reply))

  all-fewer : (lower limit : ℕ) {forked others : Courses End} → lower ≤ limit → AllAlike limit forked others → AllAlike lower forked others
  all-fewer lower limit k none_left = none_left
  all-fewer lower limit k (one_more h ks) = one_more (fewer lower limit k h) (all-fewer lower limit k ks)

alike-less : (limit : ℕ) {left right : GoalCourse} → Alike (suc limit) left right → Alike limit left right
alike-less limit h = let k : limit ≤ suc limit = omega arith in fewer limit (suc limit) k h

alike-left : (limit : ℕ) (reply : Reply) {left right : GoalCourse} → Alike limit left right → Alike (left_after limit reply) left right
alike-left limit reply h = fewer (left_after limit reply) limit (none-more limit reply) h

-- courses of courses that are so

pub after-alike : {limit : ℕ} {l r u w : GoalCourse} → Alike limit l r → Alike limit u w → Alike limit (after l u) (after r w)
after-alike (ends {end = Done}) k = k
after-alike (ends {end = Raised x}) k = ends
after-alike (ends {end = TooDeep}) k = ends
after-alike stops k = stops
after-alike passes k = passes
after-alike (ticks {limit = limit} h) k = ticks (after-alike h (alike-less limit k))
after-alike (answers h) k = answers (after-alike h k)
after-alike (meets {limit = limit} ks h) k = meets ks (λ reply. after-alike (h reply) (alike-left limit reply k))

pub each-alike : {limit : ℕ} {l r : GoalCourse} {f g : Env → GoalCourse} → ((env : Env) → Alike limit (f env) (g env)) → Alike limit l r → Alike limit (each f l) (each g r)
each-alike k ends = ends
each-alike k stops = stops
each-alike k passes = passes
each-alike k (ticks {limit = limit} h) = ticks (each-alike (λ env. alike-less limit (k env)) h)
each-alike k (answers {env = env} h) = after-alike (k env) (each-alike k h)
each-alike k (meets {limit = limit} ks h) = meets ks (λ reply. each-alike (λ env. alike-left limit reply (k env)) (h reply))

pub choose-alike : {limit : ℕ} {l r u w : GoalCourse} {f g : Env → GoalCourse} → ((env : Env) → Alike limit (f env) (g env)) → Alike limit u w → Alike limit l r
    → Alike limit (choose f u l) (choose g w r)
choose-alike k m (ends {end = Done}) = m
choose-alike k m (ends {end = Raised x}) = ends
choose-alike k m (ends {end = TooDeep}) = ends
choose-alike k m stops = stops
choose-alike k m passes = passes
choose-alike k m (ticks {limit = limit} h) = ticks (choose-alike (λ env. alike-less limit (k env)) (alike-less limit m) h)
choose-alike k m (answers {env = env} h) = after-alike (k env) (each-alike k h)
choose-alike k m (meets {limit = limit} ks h) = meets ks (λ reply. choose-alike (λ env. alike-left limit reply (k env)) (alike-left limit reply m) (h reply))

pub negated-alike : {limit : ℕ} {l r : GoalCourse} (env : Env) → Alike limit l r → Alike limit (negated env l) (negated env r)
negated-alike env (ends {end = Done}) = answers ends
negated-alike env (ends {end = Raised x}) = ends
negated-alike env (ends {end = TooDeep}) = ends
negated-alike env stops = stops
negated-alike env passes = passes
negated-alike env (ticks h) = ticks (negated-alike env h)
negated-alike env (answers h) = ends
negated-alike env (meets ks h) = meets ks (λ reply. negated-alike env (h reply))

pub taken-alike : {limit : ℕ} {l r : GoalCourse} (f : Env → Env) → Alike limit l r → Alike limit (taken_back f l) (taken_back f r)
taken-alike f ends = ends
taken-alike f stops = stops
taken-alike f passes = passes
taken-alike f (ticks h) = ticks (taken-alike f h)
taken-alike f (answers h) = answers (taken-alike f h)
taken-alike f (meets ks h) = meets ks (λ reply. taken-alike f (h reply))

pub first-alike : {limit : ℕ} {l r : GoalCourse} → Alike limit l r → Alike limit (first_alone l) (first_alone r)
first-alike ends = ends
first-alike stops = stops
first-alike passes = passes
first-alike (ticks h) = ticks (first-alike h)
first-alike (answers h) = answers ends
first-alike (meets ks h) = meets ks (λ reply. first-alike (h reply))

pub closed-alike : {limit : ℕ} {l r : GoalCourse} → Alike limit l r → Alike limit (closed l) (closed r)
closed-alike ends = ends
closed-alike stops = stops
closed-alike passes = passes
closed-alike (ticks h) = ticks (closed-alike h)
closed-alike (answers h) = ends
closed-alike (meets ks h) = meets ks (λ reply. closed-alike (h reply))

pub once-alike : {limit : ℕ} {l r : GoalCourse} (answers_once : Bool) → Alike limit l r → Alike limit (once_if answers_once l) (once_if answers_once r)
once-alike true h = first-alike h
once-alike false h = h

pub where-alike : {limit : ℕ} {l r u w : GoalCourse} (o : Option Values) → Alike limit l r → Alike limit u w → Alike limit (where_some o l u) (where_some o r w)
where-alike None h k = k
where-alike (Some vs) h k = h

-- a joined course, cut, and one of parts that were cut

pub cut-after : (limit : ℕ) (t u : GoalCourse) → cut limit (after t u) ≡ cut limit (after (known (cut limit t)) (known (cut limit u)))
cut-after limit t u = cut-alike (after-alike (alike-known limit t) (alike-known limit u))

pub cut-each : (limit : ℕ) (f : Env → GoalCourse) (t : GoalCourse) → cut limit (each f t) ≡ cut limit (each (λ env. known (cut limit (f env))) (known (cut limit t)))
cut-each limit f t = cut-alike (each-alike (λ env. alike-known limit (f env)) (alike-known limit t))

pub cut-taken : (limit : ℕ) (f : Env → Env) (t : GoalCourse) → cut limit (taken_back f t) ≡ cut limit (taken_back f (known (cut limit t)))
cut-taken limit f t = cut-alike (taken-alike f (alike-known limit t))

pub cut-first : (limit : ℕ) (t : GoalCourse) → cut limit (first_alone t) ≡ cut limit (first_alone (known (cut limit t)))
cut-first limit t = cut-alike (first-alike (alike-known limit t))

pub cut-choose : (limit : ℕ) (f : Env → GoalCourse) (u t : GoalCourse)
    → cut limit (choose f u t) ≡ cut limit (choose (λ env. known (cut limit (f env))) (known (cut limit u)) (known (cut limit t)))
cut-choose limit f u t = cut-alike (choose-alike (λ env. alike-known limit (f env)) (alike-known limit u) (alike-known limit t))

pub cut-negated : (limit : ℕ) (env : Env) (t : GoalCourse) → cut limit (negated env t) ≡ cut limit (negated env (known (cut limit t)))
cut-negated limit env t = cut-alike (negated-alike env (alike-known limit t))

pub cut-closed : (limit : ℕ) (t : GoalCourse) → cut limit (closed t) ≡ cut limit (closed (known (cut limit t)))
cut-closed limit t = cut-alike (closed-alike (alike-known limit t))

pub cut-again : (limit lower : ℕ) (t : GoalCourse) → lower ≤ limit → cut lower t ≡ cut lower (known (cut limit t))
cut-again limit lower t k = cut-alike (fewer lower limit k (alike-known limit t))

pub closed-first : (t : GoalCourse) → closed (first_alone t) ≡ closed t
closed-first (Ends e) = refl
closed-first (Tick t) = ap Tick (closed-first t)
closed-first (Answer env t) = refl
closed-first (Meets what ks f) = ap (λ x. Meets what ks x) (fun_ext (λ (reply : Reply). closed-first (f reply)))
