-- Each goal of an ordered goal with its tests written out stands for one of the goal as it is written.
use Rattle.std.proofs.Common.{◌≡◌, ℕ, suc, ◌<◌, ◌≤◌, ◌+◌, Bool, true, false, ◌==◌, ◌||◌, if◌then◌else◌, List, [], ◌∷◌, ◌++◌, length, map, refl, ap, sym, subst, ◌∙◌, arith}
use Rattle.std.proofs.lemmas.Bool.Decides.{Decides-eqb}
use Rattle.std.specs.List.{AllByRecursion}
use Rattle.merc_base.specs.declared.place.Span.{Span}
use Rattle.merc_tree.specs.declared.declarations.ModeDecl.{ModeDecl}
use Rattle.merc_goal_tree.specs.declared.goal.SimpleGoal.{SimpleGoal}
use Rattle.merc_goal_tree.specs.declared.goal.SimpleGoal.TheVariants.{True, Fail, Same, Shape, Arithmetic, Compare, Raise, Call}
use Rattle.merc_goal_tree.specs.Variables.{variables_of}
use Rattle.merc_graded_tree.specs.declared.basic.BasicGoal.{BasicGoal}
use Rattle.merc_graded_tree.specs.declared.basic.BasicGoal.TheVariants.{Split as SplitGoal, Arithmetic as ArithmeticGoal, Call as CallGoal}
use Rattle.merc_order.specs.Bound.{among}
use Rattle.merc_order.specs.Order.{from}
use Rattle.merc_order.specs.Ordered.{Ordered, Step, Ordereds, put, Truth, Failure, Assign, Test, Build, Split, Computed, Compared, Raised, Called, Sequence, Beside, Choice, Decision, Denial, Within as Inside, no_goals, more_goals}
use Rattle.merc_order.specs.Spelt.{replaced, tested_places, untested_places, written, tests_of, with_tests, first_of, inputs_at, twins, step_twins, all_twins, spelt, spelt_step, spelt_all}
use Rattle.merc_order_laws.specs.Laws.{SpeltIsMadeOf}
use Rattle.merc_order_laws.specs.OrderedVariables.{in_ordered, in_step, in_ordereds}
use Rattle.merc_order_laws.specs.WrittenGoals.{simple_goals, basic_goals, all_basic_goals, written_goal}
use Rattle.merc_order_laws.specs.MadeOf.{renamed, original, StandsFor, with_itself}
use Rattle.merc_order_laws.proofs.Facts.{clash, or_left, or_right, not_true}
use Rattle.merc_order_laws.proofs.Replacing.{first_among, among_places}
use Rattle.merc_order_laws.proofs.Written.{all_joined, all_stand, turned_stand, EachStep, EachIn, EachOf, from_has}

-- The fresh variables from a number on stand for these.
abbrev pub Originals : (ℕ → ℕ) → ℕ → List ℕ → Type 0
Originals new at [] = Unit {0}
Originals new at (y ∷ ys) = (new at ≡ y) × Originals new (suc at) ys

originals_left : (new : ℕ → ℕ) (at : ℕ) (xs ys : List ℕ) → Originals new at (xs ++ ys) → Originals new at xs
originals_left new at [] ys h = tt
originals_left new at (x ∷ xs) ys h = (h.0, originals_left new (suc at) xs ys h.1)

originals_right : (new : ℕ → ℕ) (at : ℕ) (xs ys : List ℕ) → Originals new at (xs ++ ys) → Originals new (at + length xs) ys
originals_right new at [] ys h = subst (λ (k : ℕ). Originals new k ys) (none at) h where
  none : (n : ℕ) → n ≡ n + 0
  none n = omega (arith)
originals_right new at (x ∷ xs) ys h = subst (λ (k : ℕ). Originals new k ys) (one at (length xs)) (originals_right new (suc at) xs ys h.1) where
  one : (n m : ℕ) → suc n + m ≡ n + suc m
  one n m = omega (arith)

-- variables that stand for themselves
abbrev pub Fixed : (ℕ → ℕ) → List ℕ → Type 0
Fixed new xs = (v : ℕ) → among xs v ≡ true → new v ≡ v

fixed_rest : (new : ℕ → ℕ) (x : ℕ) (xs : List ℕ) → Fixed new (x ∷ xs) → Fixed new xs
fixed_rest new x xs f v h = f v (or_right (v == x) (among xs v) h)

map_fixed : (new : ℕ → ℕ) (xs : List ℕ) → Fixed new xs → map new xs ≡ xs
map_fixed new [] f = refl
map_fixed new (x ∷ xs) f = ap (λ (z : ℕ). z ∷ map new xs) (f x (first_among x xs)) ∙ ap (λ (l : List ℕ). x ∷ l) (map_fixed new xs (fixed_rest new x xs f))

taken_back : (new : ℕ → ℕ) (at : ℕ) (xs : List ℕ) (ts : List Bool) → Fixed new xs → Originals new at (tested_places xs ts) → map new (replaced at xs ts) ≡ xs
taken_back new at [] ts f o = refl
taken_back new at (x ∷ xs) [] f o = map_fixed new (x ∷ xs) f
taken_back new at (x ∷ xs) (true ∷ ts) f o =
    ap (λ (z : ℕ). z ∷ map new (replaced (suc at) xs ts)) o.0 ∙ ap (λ (l : List ℕ). x ∷ l) (taken_back new (suc at) xs ts (fixed_rest new x xs f) o.1)
taken_back new at (x ∷ xs) (false ∷ ts) f o =
    ap (λ (z : ℕ). z ∷ map new (replaced at xs ts)) (f x (first_among x xs)) ∙ ap (λ (l : List ℕ). x ∷ l) (taken_back new at xs ts (fixed_rest new x xs f) o)

result_back : (new : ℕ → ℕ) (at result : ℕ) (ts : List Bool) → new result ≡ result → Originals new at (tested_places (result ∷ []) ts) → new (first_of (replaced at (result ∷ []) ts)) ≡ result
result_back new at result [] f o = f
result_back new at result (true ∷ ts) f o = o.0
result_back new at result (false ∷ ts) f o = f

second_among : (x y : ℕ) (xs : List ℕ) → among (x ∷ y ∷ xs) y ≡ true
second_among x y xs = or_right (y == x) (among (y ∷ xs) y) (first_among y xs)

-- A goal all of whose variables stand for themselves stays.
renamed_fixed : (new : ℕ → ℕ) (g : SimpleGoal) → Fixed new (variables_of g) → renamed new g ≡ g
renamed_fixed new True f = refl
renamed_fixed new Fail f = refl
renamed_fixed new (Same one other) f =
    ap (λ (z : ℕ). Same z (new other)) (f one (first_among one (other ∷ []))) ∙ ap (λ (z : ℕ). Same one z) (f other (second_among one other []))
renamed_fixed new (Shape whole symbol arguments) f =
    ap (λ (z : ℕ). Shape z symbol (map new arguments)) (f whole (first_among whole arguments)) ∙ ap (λ (l : List ℕ). Shape whole symbol l) (map_fixed new arguments (fixed_rest new whole arguments f))
renamed_fixed new (Arithmetic operation result left right) f =
    ap (λ (z : ℕ). Arithmetic operation z (new left) (new right)) (f result (first_among result (left ∷ right ∷ [])))
    ∙ ap (λ (z : ℕ). Arithmetic operation result z (new right)) (f left (second_among result left (right ∷ [])))
    ∙ ap (λ (z : ℕ). Arithmetic operation result left z) (f right (or_right (right == result) (among (left ∷ right ∷ []) right) (second_among left right [])))
renamed_fixed new (Compare comparison left right) f =
    ap (λ (z : ℕ). Compare comparison z (new right)) (f left (first_among left (right ∷ []))) ∙ ap (λ (z : ℕ). Compare comparison left z) (f right (second_among left right []))
renamed_fixed new (Raise text) f = ap (λ (z : ℕ). Raise z) (f text (first_among text []))
renamed_fixed new (Call predicate arguments) f = ap (λ (l : List ℕ). Call predicate l) (map_fixed new arguments f)

module _ (P : SimpleGoal → Type 0) (itself : (v : ℕ) → P (Same v v)) (new : ℕ → ℕ) where
  abbrev pub Stays : BasicGoal → Type 0
  Stays basic = P (renamed new (written_goal basic))

  fixed_stays : (g : SimpleGoal) → Fixed new (variables_of g) → P g → P (renamed new g)
  fixed_stays g f h = subst (λ (z : SimpleGoal). P z) (sym (renamed_fixed new g f)) h

  tests_stay : (at : ℕ) (ys : List ℕ) (span : Span) → Originals new at ys → Fixed new ys → AllByRecursion Stays (all_basic_goals (tests_of at ys span))
  tests_stay at [] span o f = tt
  tests_stay at (y ∷ ys) span o f = (
    subst (λ (z : ℕ). P (Same z (new y))) (sym o.0) (subst (λ (z : ℕ). P (Same y z)) (sym (f y (first_among y ys))) (itself y)),
    tests_stay (suc at) ys span o.1 (fixed_rest new y ys f),
  )

  group_stays : (at : ℕ) (g : BasicGoal) (writes tested outs : List ℕ) (span : Span) → Stays g → AllByRecursion Stays (all_basic_goals (tests_of at tested span)) → AllByRecursion Stays (basic_goals (with_tests at g writes tested outs span))
  group_stays at g writes [] outs span h k = (h, tt)
  group_stays at g writes (y ∷ ys) outs span h k = (h, k)

  tested_fixed : (xs : List ℕ) (ts : List Bool) → Fixed new xs → Fixed new (tested_places xs ts)
  tested_fixed xs ts f v h = f v (among_places xs ts v ∙ or_right (among (untested_places xs ts) v) (among (tested_places xs ts) v) h)

  module _ (modes : ℕ → List ModeDecl) where
    mutual
      pub spelt_stays : (o : Ordered) (at : ℕ) → ((v : ℕ) → in_ordered o v ≡ true → new v ≡ v) → Originals new at (twins o) → EachStep P o → AllByRecursion Stays (basic_goals (spelt modes at o))
      spelt_stays (put s outs span) at f o h = step_stays s outs span at f o h

      step_stays : (s : Step) (outs : List ℕ) (span : Span) (at : ℕ) → ((v : ℕ) → in_step s v ≡ true → new v ≡ v) → Originals new at (step_twins s) → EachIn P s → AllByRecursion Stays (basic_goals (spelt_step modes at s outs span))
      step_stays Truth outs span at f o h = (h, tt)
      step_stays Failure outs span at f o h = (h, tt)
      step_stays (Assign to from) outs span at f o h = (fixed_stays (Same to from) f h, tt)
      step_stays (Test one other) outs span at f o h = (fixed_stays (Same one other) f h, tt)
      step_stays (Build whole symbol arguments) outs span at f o h = (fixed_stays (Shape whole symbol arguments) f h, tt)
      step_stays (Split whole symbol arguments tests) outs span at f o h =
          group_stays at (SplitGoal whole symbol (replaced at arguments tests)) (untested_places arguments tests) (tested_places arguments tests) outs span
          (subst (λ (z : ℕ). P (Shape z symbol (map new (replaced at arguments tests)))) (sym (f whole (first_among whole arguments)))
          (subst (λ (l : List ℕ). P (Shape whole symbol l)) (sym (taken_back new at arguments tests (fixed_rest new whole arguments f) o)) h))
          (tests_stay at (tested_places arguments tests) span o (tested_fixed arguments tests (fixed_rest new whole arguments f)))
      step_stays (Computed operation result left right tests) outs span at f o h =
          let r : new result ≡ result = f result (first_among result (left ∷ right ∷ [])) in
          group_stays at (ArithmeticGoal operation (first_of (replaced at (result ∷ []) tests)) left right) (untested_places (result ∷ []) tests) (tested_places (result ∷ []) tests) outs span
          (subst (λ (z : ℕ). P (Arithmetic operation z (new left) (new right))) (sym (result_back new at result tests r o))
          (subst (λ (z : ℕ). P (Arithmetic operation result z (new right))) (sym (f left (second_among result left (right ∷ []))))
          (subst (λ (z : ℕ). P (Arithmetic operation result left z)) (sym (f right (or_right (right == result) (among (left ∷ right ∷ []) right) (second_among left right [])))) h)))
          (tests_stay at (tested_places (result ∷ []) tests) span o (tested_fixed (result ∷ []) tests (λ v k. f v (widen (v == result) (among (left ∷ right ∷ []) v) k)))) where
            widen : (e k : Bool) → (e || false) ≡ true → (e || k) ≡ true
            widen true k h = refl
            widen false k h = clash h refl
      step_stays (Compared comparison left right) outs span at f o h = (fixed_stays (Compare comparison left right) f h, tt)
      step_stays (Raised text) outs span at f o h = (fixed_stays (Raise text) f h, tt)
      step_stays (Called predicate mode arguments tests) outs span at f o h =
          group_stays at (CallGoal (record { predicate = predicate; mode = mode }) (replaced at arguments tests)) (written (inputs_at modes predicate mode) arguments tests) (tested_places arguments tests) outs span
          (subst (λ (l : List ℕ). P (Call predicate l)) (sym (taken_back new at arguments tests f o)) h) (tests_stay at (tested_places arguments tests) span o (tested_fixed arguments tests f))
      step_stays (Sequence goals) outs span at f o h = all_stay goals at f o h
      step_stays (Beside goals) outs span at f o h = all_stay goals at f o h
      step_stays (Choice goals) outs span at f o h = all_stay goals at f o h
      step_stays (Decision c t e) outs span at f o h =
          let second : Originals new (at + length (twins c)) (twins t ++ twins e) = originals_right new at (twins c) (twins t ++ twins e) o in
          all_joined Stays (basic_goals (spelt modes at c)) (basic_goals (spelt modes (at + length (twins c)) t) ++ basic_goals (spelt modes (at + length (twins c) + length (twins t)) e))
          (spelt_stays c at (λ v k. f v (or_left (in_ordered c v) (in_ordered t v || in_ordered e v) k)) (originals_left new at (twins c) (twins t ++ twins e) o) h.0)
          (all_joined Stays (basic_goals (spelt modes (at + length (twins c)) t)) (basic_goals (spelt modes (at + length (twins c) + length (twins t)) e))
          (spelt_stays t (at + length (twins c)) (λ v k. f v (or_right (in_ordered c v) (in_ordered t v || in_ordered e v) (or_left (in_ordered t v) (in_ordered e v) k)))
          (originals_left new (at + length (twins c)) (twins t) (twins e) second) h.1)
          (spelt_stays e (at + length (twins c) + length (twins t)) (λ v k. f v (or_right (in_ordered c v) (in_ordered t v || in_ordered e v) (or_right (in_ordered t v) (in_ordered e v) k)))
          (originals_right new (at + length (twins c)) (twins t) (twins e) second) h.2))
      step_stays (Denial goal) outs span at f o h = spelt_stays goal at f o h
      step_stays (Inside own goal) outs span at f o h = spelt_stays goal at f o h

      all_stay : (os : Ordereds) (at : ℕ) → ((v : ℕ) → in_ordereds os v ≡ true → new v ≡ v) → Originals new at (all_twins os) → EachOf P os → AllByRecursion Stays (all_basic_goals (spelt_all modes at os))
      all_stay no_goals at f o h = tt
      all_stay (more_goals first rest) at f o h =
          all_joined Stays (basic_goals (spelt modes at first)) (all_basic_goals (spelt_all modes (at + length (twins first)) rest))
          (spelt_stays first at (λ v k. f v (or_left (in_ordered first v) (in_ordereds rest v) k)) (originals_left new at (twins first) (all_twins rest) o) h.0)
          (all_stay rest (at + length (twins first)) (λ v k. f v (or_right (in_ordered first v) (in_ordereds rest v) k)) (originals_right new at (twins first) (all_twins rest) o) h.1)

-- What fresh variables stand for.

if_first : (b : Bool) (x y : ℕ) → b ≡ true → (if b then x else y) ≡ x
if_first true x y h = refl
if_first false x y h = clash h refl

if_second : (b : Bool) (x y : ℕ) → b ≡ false → (if b then x else y) ≡ y
if_second true x y h = clash refl h
if_second false x y h = refl

pub original_old : (number : ℕ) (ys : List ℕ) (v : ℕ) → v < number → original number ys v ≡ v
original_old number [] v l = refl
original_old number (y ∷ ys) v l =
    if_second (v == number) y (original (suc number) ys v) (not_true (v == number) (λ h. absurd (omega (arith, l, (Decides-eqb v number).0 h)))) ∙ original_old (suc number) ys v (omega (arith, l))

originals_are : (new : ℕ → ℕ) (number : ℕ) (ys : List ℕ) → ((v : ℕ) → number ≤ v → new v ≡ original number ys v) → Originals new number ys
originals_are new number [] f = tt
originals_are new number (y ∷ ys) f = (
  f number (omega (arith)) ∙ if_first (number == number) y (original (suc number) ys number) ((Decides-eqb number number).1 refl),
  originals_are new (suc number) ys (λ v l. f v (omega (arith, l)) ∙ if_second (v == number) y (original (suc number) ys v) (not_true (v == number) (λ h. absurd (omega (arith, l, (Decides-eqb v number).0 h))))),
)

pub spelt_is_made_of : SpeltIsMadeOf
spelt_is_made_of total modes goal bound ordered number ready below =
    spelt_stays (λ g. StandsFor (simple_goals goal) g) (λ v. with_itself v) (original number (twins ordered)) modes ordered number
    (λ v h. original_old number (twins ordered) v (below v h)) (originals_are (original number (twins ordered)) number (twins ordered) (λ v l. refl))
    (from_has (λ g. StandsFor (simple_goals goal) g) total modes (λ one other h. turned_stand (simple_goals goal) one other (Same one other) h refl) goal (all_stand (simple_goals goal)) bound ordered ready)
