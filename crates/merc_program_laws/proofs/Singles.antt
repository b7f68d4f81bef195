-- Goals with a maximum of 1, and traces of one answer at most.
use Rattle.std.proofs.Common.{◌≡◌, ◌⊎◌, inl, inr, ℕ, Bool, true, false, ◌&&◌, ◌||◌, if◌then◌else◌, List, Option, Some, None, refl, sym, ◌∙◌, subst}
use Rattle.merc_base.specs.Category.{can_fail_of, most_of}
use Rattle.merc_base.specs.declared.category.Category.{Category}
use Rattle.merc_base.specs.declared.category.Most.{Most}
use Rattle.merc_base.specs.declared.category.Most.TheVariants.{Zero, One, Many}
use Rattle.merc_goal_tree.specs.declared.goal.Operation.{Operation}
use Rattle.merc_goal_tree.specs.declared.goal.Symbol.{Symbol}
use Rattle.merc_order_laws.proofs.Facts.{clash}
use Rattle.merc_grading.specs.Categories.{category, is_zero, is_many, both_most, sum_most, greater_most, then_category, or_category, decision_most, conditional_category}
use Rattle.merc_value.specs.Value.{Value, Int, Text, Con, Values}
use Rattle.merc_meaning.specs.Trace.{Env, Trace, Ends, Tick, Answer, Done, Raised, TooDeep, after, choose}
use Rattle.merc_meaning.specs.Values.{fields}
use Rattle.merc_meaning.specs.Arithmetic.{Result, Gives, ZeroDivisor, arithmetic}
use Rattle.merc_meaning.specs.Steps.{binds, tested, compared, filled_if, split, computed, operated, raised}
use Rattle.merc_meaning.specs.Runs.{where_some}
use Rattle.merc_program_laws.specs.Answers.{Each, Never, IsDone, Single}
use Rattle.merc_program_laws.proofs.Traces.{answers, choose_answered, choose_unanswered}
use Rattle.merc_program_laws.proofs.Maxima.{most_is}
use Rattle.merc_program_laws.proofs.Values.{or_not_left, or_not_right}
use Rattle.merc_program_laws.proofs.Truthful.{single_each}

-- Maxima.

abbrev pub NotMany : Most → Type 0
NotMany m = m ≡ Many → ⊥

pub one_not_many : (m : Most) → m ≡ One → NotMany m
one_not_many m h k = absurd (let e : One ≡ Many = sym h ∙ k in cc)

both_one : (m n : Most) → both_most m n ≡ One → (m ≡ One) × (n ≡ One)
both_one Zero n h = absurd cc
both_one One Zero h = absurd cc
both_one One One h = (refl, refl)
both_one One Many h = absurd cc
both_one Many Zero h = absurd cc
both_one Many One h = absurd cc
both_one Many Many h = absurd cc

sum_one : (m n : Most) → sum_most m n ≡ One → ((m ≡ One) × (n ≡ Zero)) ⊎ ((m ≡ Zero) × (n ≡ One))
sum_one Zero n h = inr (refl, h)
sum_one One Zero h = inl (refl, refl)
sum_one One One h = absurd cc
sum_one One Many h = absurd cc
sum_one Many n h = absurd cc

greater_few : (m n : Most) → NotMany (greater_most m n) → NotMany m × NotMany n
greater_few Zero Zero h = ((λ k. absurd cc), (λ k. absurd cc))
greater_few Zero One h = ((λ k. absurd cc), (λ k. absurd cc))
greater_few Zero Many h = absurd (h refl)
greater_few One Zero h = ((λ k. absurd cc), (λ k. absurd cc))
greater_few One One h = ((λ k. absurd cc), (λ k. absurd cc))
greater_few One Many h = absurd (h refl)
greater_few Many n h = absurd (h refl)

few : (m : Most) → is_many m ≡ false → NotMany m
few Zero h k = absurd cc
few One h k = absurd cc
few Many h k = clash refl h

decision_one_case : (x m : Bool) → (if x then Zero else if m then Many else One) ≡ One → m ≡ false
decision_one_case true m h = absurd cc
decision_one_case false true h = absurd cc
decision_one_case false false h = refl

decision_one : (c t e : Most) → decision_most c t e ≡ One → NotMany c × NotMany t × NotMany e
decision_one c t e h =
    let k = decision_one_case (is_zero e && (is_zero c || is_zero t)) (is_many c || (is_many t || is_many e)) h in
    let l = or_not_right (is_many c) (is_many t || is_many e) k in
    (few c (or_not_left (is_many c) (is_many t || is_many e) k), few t (or_not_left (is_many t) (is_many e) l), few e (or_not_right (is_many t) (is_many e) l))

pub then_one : (a b : Category) → most_of (then_category a b) ≡ One → (most_of a ≡ One) × (most_of b ≡ One)
then_one a b h = both_one (most_of a) (most_of b) (sym (most_is (can_fail_of a || (if is_zero (most_of a) then false else can_fail_of b)) (both_most (most_of a) (most_of b))) ∙ h)

pub or_one : (a b : Category) → most_of (or_category a b) ≡ One → ((most_of a ≡ One) × (most_of b ≡ Zero)) ⊎ ((most_of a ≡ Zero) × (most_of b ≡ One))
or_one a b h = sum_one (most_of a) (most_of b) (sym (most_is (can_fail_of a && can_fail_of b) (sum_most (most_of a) (most_of b))) ∙ h)

pub arm_few : (a b : Category) → NotMany (most_of (category (can_fail_of a || can_fail_of b) (greater_most (most_of a) (most_of b)))) → NotMany (most_of a) × NotMany (most_of b)
arm_few a b h = greater_few (most_of a) (most_of b) (λ k. h (most_is (can_fail_of a || can_fail_of b) (greater_most (most_of a) (most_of b)) ∙ k))

-- of an if-then-else: the else part where the condition can fail
conditional_case : (c t e : Category) (f : Bool) → f ≡ can_fail_of c
    → most_of (if f then category (can_fail_of t || can_fail_of e) (decision_most (most_of c) (most_of t) (most_of e)) else then_category c t) ≡ One
    → NotMany (most_of c) × NotMany (most_of t) × (can_fail_of c ≡ true → NotMany (most_of e))
conditional_case c t e true q h =
    let k = decision_one (most_of c) (most_of t) (most_of e) (sym (most_is (can_fail_of t || can_fail_of e) (decision_most (most_of c) (most_of t) (most_of e))) ∙ h) in
    (k.0, k.1, λ _. k.2)
conditional_case c t e false q h = let k = then_one c t h in (one_not_many (most_of c) k.0, one_not_many (most_of t) k.1, λ m. clash m (sym q))

pub conditional_one : (c t e : Category) → most_of (conditional_category c t e) ≡ One → NotMany (most_of c) × NotMany (most_of t) × (can_fail_of c ≡ true → NotMany (most_of e))
conditional_one c t e h = conditional_case c t e (can_fail_of c) refl h

-- Traces.

pub single_binds : (env : Env) (x : ℕ) (o : Option Value) → Single (binds env x o)
single_binds env x None = tt
single_binds env x (Some v) = refl

single_filled : (env : Env) (ys : List ℕ) (o : Option Values) → Single (filled_if env ys o)
single_filled env ys None = tt
single_filled env ys (Some v) = refl

pub single_split : (env : Env) (s : Symbol) (ys : List ℕ) (o : Option Value) → Single (split env s ys o)
single_split env s ys None = tt
single_split env s ys (Some v) = single_filled env ys (fields s v)

single_tested : (b : Bool) (env : Env) → Single (tested b env)
single_tested true env = refl
single_tested false env = tt

pub single_compared : (env : Env) (holds : Value → Value → Bool) (o p : Option Value) → Single (compared env holds o p)
single_compared env holds None p = tt
single_compared env holds (Some v) None = tt
single_compared env holds (Some v) (Some w) = single_tested (holds v w) env

single_computed : (env : Env) (z : ℕ) (r : Result) → Single (computed env z r)
single_computed env z ZeroDivisor = tt
single_computed env z (Gives n) = refl

pub single_operated : (env : Env) (op : Operation) (z : ℕ) (o p : Option Value) → Single (operated env op z o p)
single_operated env op z None p = tt
single_operated env op z (Some (Text t)) p = tt
single_operated env op z (Some (Con c vs)) p = tt
single_operated env op z (Some (Int n)) None = tt
single_operated env op z (Some (Int n)) (Some (Text t)) = tt
single_operated env op z (Some (Int n)) (Some (Con c vs)) = tt
single_operated env op z (Some (Int n)) (Some (Int m)) = single_computed env z (arithmetic op n m)

pub single_raised : (o : Option Value) → Single (raised o)
single_raised None = tt
single_raised (Some (Int n)) = tt
single_raised (Some (Text t)) = tt
single_raised (Some (Con c vs)) = tt

single_after : (t u : Trace) → Each Never t → (IsDone t → Single u) → Single (after t u)
single_after (Ends Done) u h k = k tt
single_after (Ends (Raised x)) u h k = tt
single_after (Ends TooDeep) u h k = tt
single_after (Tick t) u h k = single_after t u h k
single_after (Answer env t) u h k = absurd h.0

pub single_choose : (f : Env → Trace) (u t : Trace) → Single t → ((env : Env) → Single (f env)) → (Each Never t → IsDone t → Single u) → Single (choose f u t)
single_choose f u t a b c = elim (answers t) as (λ _. Single (choose f u t)) [
  | inl h ↦ subst (λ (z : Trace). Single z) (sym (choose_answered f u t h)) (single_each f t a b)
  | inr h ↦ subst (λ (z : Trace). Single z) (sym (choose_unanswered f u t h)) (single_after t u h (c h))
]

pub single_where : (o : Option Values) (t u : Trace) → Single t → Single u → Single (where_some o t u)
single_where None t u h k = k
single_where (Some vs) t u h k = h
