-- Cells and moves by numbers in place of names, and the values of cells.
use Rattle.std.proofs.Common.{◌≡◌, ℕ, suc, ◌+◌, ◌≤◌, ◌<◌, ◌⊎◌, inl, inr, Bool, true, false, not, List, [], ◌∷◌, ◌++◌, map, length, if◌then◌else◌, nat_eq, Option, refl, ap, sym, subst, ◌∙◌, arith}
use Rattle.std.specs.Prelude.{filter, ◌&&◌}
use Rattle.std.specs.List.{AllByRecursion}
use Rattle.std.proofs.lemmas.Bool.Decides.{nat_tests}
use Rattle.merc_value.specs.Value.{Value}
use Rattle.merc_script.specs.declared.cells.Move.{Move}
use Rattle.merc_script.specs.Script.{Cell}
use Rattle.merc_core.specs.Rights.{has, numbers_of, cells_moved, moved, moved_to, made_by, used_by, signals_at, waits_at, is_kind}
use Rattle.merc_core.specs.WellFormed.{AreDistinct, value_in, MoveFits, held_of}
use Rattle.merc_plan.specs.BranchScript.{with_numbers, renamed_cell, renamed_move}
use Rattle.merc_plan.proofs.NumberingLists.{clash, tell, same_number, first_in, rest_in, front_or, absent, in_left, in_right, in_either, map_more, distinct_append}

-- cells that pass a test that does not look at names

numbers_if : (f : ℕ → ℕ) (b : Bool) (one : Cell) (after before : List Cell) → numbers_of after ≡ map f (numbers_of before)
    → numbers_of (if b then renamed_cell f one ∷ after else after) ≡ map f (numbers_of (if b then one ∷ before else before))
numbers_if f true one after before e = ap (λ l. f one.cell ∷ l) e
numbers_if f false one after before e = e

pub some_renamed : (f : ℕ → ℕ) (p : Cell → Bool) → ((one : Cell) → p (renamed_cell f one) ≡ p one) → (cells : List Cell)
    → numbers_of (filter p (map (renamed_cell f) cells)) ≡ map f (numbers_of (filter p cells))
some_renamed f p same [] = refl
some_renamed f p same (one ∷ cells) =
    ap (λ b. numbers_of (if b then renamed_cell f one ∷ filter p (map (renamed_cell f) cells) else filter p (map (renamed_cell f) cells))) (same one)
    ∙ numbers_if f (p one) one (filter p (map (renamed_cell f) cells)) (filter p cells) (some_renamed f p same cells)

pub numbers_renamed : (f : ℕ → ℕ) (cells : List Cell) → numbers_of (map (renamed_cell f) cells) ≡ map f (numbers_of cells)
numbers_renamed f [] = refl
numbers_renamed f (one ∷ cells) = ap (λ l. f one.cell ∷ l) (numbers_renamed f cells)

moved_if : (f : ℕ → ℕ) (b : Bool) (one : Move) (after before : List Move) → cells_moved after ≡ map f (cells_moved before)
    → cells_moved (if b then renamed_move f one ∷ after else after) ≡ map f (cells_moved (if b then one ∷ before else before))
moved_if f true one after before e = ap (λ l. f one.cell ∷ l) e
moved_if f false one after before e = e

pub moves_renamed : (f : ℕ → ℕ) (p : Move → Bool) → ((one : Move) → p (renamed_move f one) ≡ p one) → (moves : List Move)
    → cells_moved (filter p (map (renamed_move f) moves)) ≡ map f (cells_moved (filter p moves))
moves_renamed f p same [] = refl
moves_renamed f p same (one ∷ moves) =
    ap (λ b. cells_moved (if b then renamed_move f one ∷ filter p (map (renamed_move f) moves) else filter p (map (renamed_move f) moves))) (same one)
    ∙ moved_if f (p one) one (filter p (map (renamed_move f) moves)) (filter p moves) (moves_renamed f p same moves)

kind_same : (f : ℕ → ℕ) (signal : Bool) (one : Move) → is_kind signal (renamed_move f one) ≡ is_kind signal one
kind_same f true one = refl
kind_same f false one = refl

pub moved_renamed : (f : ℕ → ℕ) (signal : Bool) (moves : List Move) → moved signal (map (renamed_move f) moves) ≡ map f (moved signal moves)
moved_renamed f signal moves = moves_renamed f (is_kind signal) (kind_same f signal) moves

moved_to_renamed : (f : ℕ → ℕ) (child : ℕ) (signal : Bool) (moves : List Move) → moved_to child signal (map (renamed_move f) moves) ≡ map f (moved_to child signal moves)
moved_to_renamed f child signal moves =
    moves_renamed f (λ one. nat_eq one.child child && is_kind signal one) (λ one. ap (λ b. nat_eq one.child child && b) (kind_same f signal one)) moves

joined_lists : (f : ℕ → ℕ) (a b c d : List ℕ) → a ≡ map f c → b ≡ map f d → a ++ b ≡ map f (c ++ d)
joined_lists f a b c d p q = ap (λ l. l ++ b) p ∙ ap (λ l. map f c ++ l) q ∙ sym (map_more f c d)

pub used_renamed : (f : ℕ → ℕ) (child : ℕ) (cells : List Cell) → used_by child (map (renamed_cell f) cells) ≡ map f (used_by child cells)
used_renamed f child cells = some_renamed f (λ one. nat_eq one.consumer child) (λ one. refl) cells

pub signals_renamed : (f : ℕ → ℕ) (child : ℕ) (cells : List Cell) (moves : List Move)
    → signals_at child (map (renamed_cell f) cells) (map (renamed_move f) moves) ≡ map f (signals_at child cells moves)
signals_renamed f child cells moves =
    joined_lists f (made_by child (map (renamed_cell f) cells)) (moved_to child true (map (renamed_move f) moves)) (made_by child cells) (moved_to child true moves)
    (some_renamed f (λ one. nat_eq one.producer child) (λ one. refl) cells) (moved_to_renamed f child true moves)

pub waits_renamed : (f : ℕ → ℕ) (child : ℕ) (cells : List Cell) (moves : List Move)
    → waits_at child (map (renamed_cell f) cells) (map (renamed_move f) moves) ≡ map f (waits_at child cells moves)
waits_renamed f child cells moves =
    joined_lists f (used_by child (map (renamed_cell f) cells)) (moved_to child false (map (renamed_move f) moves)) (used_by child cells) (moved_to child false moves)
    (used_renamed f child cells) (moved_to_renamed f child false moves)

-- those that pass a test are among all

among_on : (b : Bool) (c : ℕ) (one : Cell) (some all : List Cell) → (has c (numbers_of some) ≡ true → has c (numbers_of all) ≡ true)
    → has c (numbers_of (if b then one ∷ some else some)) ≡ true → has c (one.cell ∷ numbers_of all) ≡ true
among_on true c one some all on h = elim (front_or c one.cell (numbers_of some) h) [
  | inl e ↦ subst (λ z. has z (one.cell ∷ numbers_of all) ≡ true) e (first_in one.cell (numbers_of all))
  | inr k ↦ rest_in c one.cell (numbers_of all) (on k)
]
among_on false c one some all on h = rest_in c one.cell (numbers_of all) (on h)

pub among_all : (p : Cell → Bool) (c : ℕ) (cells : List Cell) → has c (numbers_of (filter p cells)) ≡ true → has c (numbers_of cells) ≡ true
among_all p c [] h = absurd (cc)
among_all p c (one ∷ cells) h = among_on (p one) c one (filter p cells) cells (λ k. among_all p c cells k) h

-- what moves is held, and is no own cell of the fork

abbrev pub IsOld : List ℕ → List ℕ → ℕ → Type 0
IsOld held names c = (has c held ≡ true) × (has c names ≡ false)

kind_held : (signals waits : List ℕ) (signal : Bool) (one : Move) → is_kind signal one ≡ true → has one.cell (held_of one.signal signals waits) ≡ true → has one.cell (held_of signal signals waits) ≡ true
kind_held signals waits true one e h = subst (λ b. has one.cell (held_of b signals waits) ≡ true) e h
kind_held signals waits false one e h = on one.signal e h
  where
    on : (b : Bool) → not b ≡ true → has one.cell (held_of b signals waits) ≡ true → has one.cell waits ≡ true
    on true e h = absurd (cc)
    on false e h = h

old_on : (b : Bool) (c : ℕ) (held names : List ℕ) (one : Move) (some : List Move) → (b ≡ true → IsOld held names one.cell) → (has c (cells_moved some) ≡ true → IsOld held names c)
    → has c (cells_moved (if b then one ∷ some else some)) ≡ true → IsOld held names c
old_on true c held names one some here on h = elim (front_or c one.cell (cells_moved some) h) [
  | inl e ↦ subst (λ z. IsOld held names z) e (here refl)
  | inr k ↦ on k
]
old_on false c held names one some here on h = on h

moves_old : (p : Move → Bool) (n : ℕ) (signals waits names : List ℕ) (signal : Bool) → ((one : Move) → p one ≡ true → is_kind signal one ≡ true) → (c : ℕ) (moves : List Move)
    → AllByRecursion (MoveFits n signals waits) moves → AllByRecursion (λ m. has m.cell names ≡ false) moves → has c (cells_moved (filter p moves)) ≡ true
    → IsOld (held_of signal signals waits) names c
moves_old p n signals waits names signal kind c [] fits fresh h = absurd (cc)
moves_old p n signals waits names signal kind c (one ∷ moves) fits fresh h =
    old_on (p one) c (held_of signal signals waits) names one (filter p moves) (λ e. (kind_held signals waits signal one (kind one e) fits.0.held, fresh.0))
    (λ k. moves_old p n signals waits names signal kind c moves fits.1 fresh.1 k) h

pub moved_old : (n : ℕ) (signals waits names : List ℕ) (signal : Bool) (c : ℕ) (moves : List Move)
    → AllByRecursion (MoveFits n signals waits) moves → AllByRecursion (λ m. has m.cell names ≡ false) moves → has c (moved signal moves) ≡ true → IsOld (held_of signal signals waits) names c
moved_old n signals waits names signal c moves fits fresh h = moves_old (is_kind signal) n signals waits names signal (λ one e. e) c moves fits fresh h

and_right : (a b : Bool) → (a && b) ≡ true → b ≡ true
and_right true b h = h
and_right false b h = absurd (cc)

pub moved_to_old : (n : ℕ) (signals waits names : List ℕ) (child : ℕ) (signal : Bool) (c : ℕ) (moves : List Move)
    → AllByRecursion (MoveFits n signals waits) moves → AllByRecursion (λ m. has m.cell names ≡ false) moves → has c (moved_to child signal moves) ≡ true → IsOld (held_of signal signals waits) names c
moved_to_old n signals waits names child signal c moves fits fresh h =
    moves_old (λ one. nat_eq one.child child && is_kind signal one) n signals waits names signal (λ one e. and_right (nat_eq one.child child) (is_kind signal one) e) c moves fits fresh h

-- the numbers of a fork's cells

pub with_old : (cells : List Cell) (first : ℕ) (numbers : ℕ → ℕ) (c : ℕ) → has c (numbers_of cells) ≡ false → with_numbers cells first numbers c ≡ numbers c
with_old [] first numbers c h = refl
with_old (one ∷ cells) first numbers c h = elim (tell (nat_eq one.cell c)) [
  | inl e ↦ clash (has c (one.cell ∷ numbers_of cells)) (subst (λ z. has z (one.cell ∷ numbers_of cells) ≡ true) (same_number one.cell c e) (first_in one.cell (numbers_of cells))) h
  | inr e ↦
      (let k : has c (numbers_of cells) ≡ false = absent (has c (numbers_of cells)) (λ i. clash (has c (one.cell ∷ numbers_of cells)) (rest_in c one.cell (numbers_of cells) i) h) in
      ap (λ b. if b then first else with_numbers cells (suc first) numbers c) e ∙ with_old cells (suc first) numbers c k)
]

-- an own cell is the first, or has a number behind it
own_on : (one : Cell) (cells : List Cell) (first : ℕ) (numbers : ℕ → ℕ) (c : ℕ) → has c (one.cell ∷ numbers_of cells) ≡ true
    → ((one.cell ≡ c) × (with_numbers (one ∷ cells) first numbers c ≡ first)) ⊎ ((has c (numbers_of cells) ≡ true) × (with_numbers (one ∷ cells) first numbers c ≡ with_numbers cells (suc first) numbers c))
own_on one cells first numbers c h = elim (tell (nat_eq one.cell c)) [
  | inl e ↦ inl (same_number one.cell c e, ap (λ b. if b then first else with_numbers cells (suc first) numbers c) e)
  | inr e ↦ elim (front_or c one.cell (numbers_of cells) h) [
    | inl q ↦ clash (nat_eq one.cell c) (grind (arith, nat_tests, q)) e
    | inr k ↦ inr (k, ap (λ b. if b then first else with_numbers cells (suc first) numbers c) e)
  ]
]

pub with_range : (cells : List Cell) (first : ℕ) (numbers : ℕ → ℕ) (c : ℕ) → has c (numbers_of cells) ≡ true
    → (first ≤ with_numbers cells first numbers c) × (with_numbers cells first numbers c < first + length cells)
with_range [] first numbers c h = absurd (cc)
with_range (one ∷ cells) first numbers c h = elim (own_on one cells first numbers c h) [
  | inl here ↦ (let e = here.1 in (omega (arith, e), omega (arith, e)))
  | inr later ↦ (let e = later.1 in let r = with_range cells (suc first) numbers c later.0 in let a = r.0 in let b = r.1 in (omega (arith, e, a), omega (arith, e, b)))
]

pub with_apart : (cells : List Cell) (first : ℕ) (numbers : ℕ → ℕ) (c d : ℕ) → has c (numbers_of cells) ≡ true → has d (numbers_of cells) ≡ true
    → with_numbers cells first numbers c ≡ with_numbers cells first numbers d → c ≡ d
with_apart [] first numbers c d h k same = absurd (cc)
with_apart (one ∷ cells) first numbers c d h k same = elim (own_on one cells first numbers c h) [
  | inl here ↦ elim (own_on one cells first numbers d k) [
    | inl there ↦ sym here.0 ∙ there.0
    | inr later ↦ (let a = here.1 in let b = later.1 in let r = (with_range cells (suc first) numbers d later.0).0 in absurd (omega (arith, a, b, r, same)))
  ]
  | inr later ↦ elim (own_on one cells first numbers d k) [
    | inl there ↦ (let a = there.1 in let b = later.1 in let r = (with_range cells (suc first) numbers c later.0).0 in absurd (omega (arith, a, b, r, same)))
    | inr other ↦ with_apart cells (suc first) numbers c d later.0 other.0 (sym later.1 ∙ same ∙ other.1)
  ]
]

-- values

value_if : (b : Bool) (one : Cell) (p q : Option Value) → p ≡ q → (if b then one.value else p) ≡ (if b then one.value else q)
value_if true one p q e = refl
value_if false one p q e = e

test_same : (f : ℕ → ℕ) (x c : ℕ) → (f x ≡ f c → x ≡ c) → nat_eq (f x) (f c) ≡ nat_eq x c
test_same f x c same = elim (tell (nat_eq x c)) [
  | inl e ↦ (let q : f x ≡ f c = ap f (same_number x c e) in grind (arith, nat_tests, q)) ∙ sym e
  | inr e ↦ absent (nat_eq (f x) (f c)) (λ h. let q : x ≡ c = same (same_number (f x) (f c) h) in clash (nat_eq x c) (grind (arith, nat_tests, q)) e) ∙ sym e
]

pub value_renamed : (f : ℕ → ℕ) (c : ℕ) (cells : List Cell) → ((d : ℕ) → has d (numbers_of cells) ≡ true → f d ≡ f c → d ≡ c) → value_in (map (renamed_cell f) cells) (f c) ≡ value_in cells c
value_renamed f c [] same = refl
value_renamed f c (one ∷ cells) same =
    ap (λ b. if b then one.value else value_in (map (renamed_cell f) cells) (f c)) (test_same f one.cell c (λ e. same one.cell (first_in one.cell (numbers_of cells)) e))
    ∙ value_if (nat_eq one.cell c) one (value_in (map (renamed_cell f) cells) (f c)) (value_in cells c)
    (value_renamed f c cells (λ d h e. same d (rest_in d one.cell (numbers_of cells) h) e))

value_left : (n : ℕ) (xs ys : List Cell) → has n (numbers_of xs) ≡ true → value_in (xs ++ ys) n ≡ value_in xs n
value_left n [] ys h = absurd (cc)
value_left n (x ∷ xs) ys h = elim (tell (nat_eq x.cell n)) [
  | inl e ↦ ap (λ b. if b then x.value else value_in (xs ++ ys) n) e ∙ sym (ap (λ b. if b then x.value else value_in xs n) e)
  | inr e ↦ elim (front_or n x.cell (numbers_of xs) h) [
    | inl q ↦ clash (nat_eq x.cell n) (grind (arith, nat_tests, q)) e
    | inr k ↦ value_if (nat_eq x.cell n) x (value_in (xs ++ ys) n) (value_in xs n) (value_left n xs ys k)
  ]
]

value_right : (n : ℕ) (xs ys : List Cell) → (has n (numbers_of xs) ≡ true → ⊥) → value_in (xs ++ ys) n ≡ value_in ys n
value_right n [] ys h = refl
value_right n (x ∷ xs) ys h = elim (tell (nat_eq x.cell n)) [
  | inl e ↦ absurd (h (subst (λ z. has z (x.cell ∷ numbers_of xs) ≡ true) (same_number x.cell n e) (first_in x.cell (numbers_of xs))))
  | inr e ↦ ap (λ b. if b then x.value else value_in (xs ++ ys) n) e ∙ value_right n xs ys (λ k. h (rest_in n x.cell (numbers_of xs) k))
]

-- cells of two lists

pub numbers_more : (xs ys : List Cell) → numbers_of (xs ++ ys) ≡ numbers_of xs ++ numbers_of ys
numbers_more [] ys = refl
numbers_more (x ∷ xs) ys = ap (λ l. x.cell ∷ l) (numbers_more xs ys)

pub cells_either : (n : ℕ) (xs ys : List Cell) → has n (numbers_of (xs ++ ys)) ≡ true → (has n (numbers_of xs) ≡ true) ⊎ (has n (numbers_of ys) ≡ true)
cells_either n xs ys h = in_either n (numbers_of xs) (numbers_of ys) (sym (ap (has n) (numbers_more xs ys)) ∙ h)

pub distinct_cells : (xs ys : List Cell) → AreDistinct (numbers_of xs) → AreDistinct (numbers_of ys) → ((n : ℕ) → has n (numbers_of xs) ≡ true → has n (numbers_of ys) ≡ true → ⊥)
    → AreDistinct (numbers_of (xs ++ ys))
distinct_cells xs ys d e apart = subst AreDistinct (sym (numbers_more xs ys)) (distinct_append (numbers_of xs) (numbers_of ys) d e apart)

-- the values of these cells are told
abbrev pub Agrees : (ℕ → Option Value) → List Cell → Type 0
Agrees values cells = (n : ℕ) → has n (numbers_of cells) ≡ true → values n ≡ value_in cells n

pub agrees_left : (values : ℕ → Option Value) (xs ys : List Cell) → Agrees values (xs ++ ys) → Agrees values xs
agrees_left values xs ys all n h =
    all n (ap (has n) (numbers_more xs ys) ∙ in_left n (numbers_of xs) (numbers_of ys) h) ∙ value_left n xs ys h

pub agrees_right : (values : ℕ → Option Value) (xs ys : List Cell) → ((n : ℕ) → has n (numbers_of xs) ≡ true → has n (numbers_of ys) ≡ true → ⊥) → Agrees values (xs ++ ys) → Agrees values ys
agrees_right values xs ys apart all n h =
    all n (ap (has n) (numbers_more xs ys) ∙ in_right n (numbers_of xs) (numbers_of ys) h) ∙ value_right n xs ys (λ k. apart n k h)
