-- Room, and what is known of cells, where branches are woken.
use Rattle.std.proofs.Common.{◌≡◌, ℕ, ◌+◌, ◌≤◌, inl, inr, Bool, true, false, List, [], ◌∷◌, ◌++◌, refl, ap, ◌∙◌, arith, length}
use Rattle.std.specs.Prelude.{filter, nat_eq, ◌||◌}
use Rattle.std.specs.List.{list_any}
use Rattle.std.proofs.lemmas.Bool.Decides.{nat_tests}
use Rattle.merc_script.specs.Script.{Cell, Move}
use Rattle.merc_core.specs.World.{Branch, Spot}
use Rattle.merc_core.specs.Rights.{has, has_in}
use Rattle.merc_core.specs.Events.{parked, woken, wake}
use Rattle.merc_core.specs.Mirror.{made, still_made}
use Rattle.merc_core.proofs.Pool.{each_way}
use Rattle.merc_core.proofs.Measure.{total, total-changed}
use Rattle.merc_core.proofs.Filters.{filter-yes, filter-no}
use Rattle.merc_core.proofs.Rooms.{still-is}

-- branches in two lists are not more than all
pub filters-apart : (one other : Spot → Bool) → ((x : Spot) → one x ≡ true → other x ≡ false) → (xs : List Spot) → length (filter one xs) + length (filter other xs) ≤ length xs
filters-apart one other apart [] = omega arith
filters-apart one other apart (x ∷ xs) =
    let rest = filters-apart one other apart xs in
    elim (each_way (one x)) [
      | inl is ↦ (let a = ap length (filter-yes one x xs is) in let b = ap length (filter-no other x xs (apart x is)) in omega arith)
      | inr is ↦ (let a = ap length (filter-no one x xs is) in
          elim (each_way (other x)) [
            | inl at ↦ (let b = ap length (filter-yes other x xs at) in omega arith)
            | inr at ↦ (let b = ap length (filter-no other x xs at) in omega arith)
          ])
    ]

pub still-wake : (each : ℕ → List Cell → List Move → ℕ) (cell v : ℕ) (change : Branch → Branch) → ((b : Branch) → made each (change b).rest ≤ made each b.rest) → (xs : List Spot)
    → still_made each (wake cell v change xs) ≤ still_made each xs
still-wake each cell v change less xs =
    let f = λ (x : Spot). made each x.branch.rest in
    let a = still-is each (wake cell v change xs) in let b = still-is each xs in
    let k : total f (wake cell v change xs) ≤ total f xs = total-changed f (parked cell) (woken v change) (λ x is. less x.branch) xs in omega arith

ones : (xs : List Spot) → total (λ x. 1) xs ≡ length xs
ones [] = refl
ones (x ∷ xs) = let e = ones xs in omega arith

pub length-wake : (cell v : ℕ) (change : Branch → Branch) (xs : List Spot) → length (wake cell v change xs) ≤ length xs
length-wake cell v change xs =
    let a = ones (wake cell v change xs) in let b = ones xs in
    let k : total (λ x. 1) (wake cell v change xs) ≤ total (λ x. 1) xs = total-changed (λ x. 1) (parked cell) (woken v change) (λ x is. omega arith) xs in omega arith

-- a cell that is added to a list

any-append : {A : Type 0} (test : A → Bool) (xs ys : List A) → list_any test (xs ++ ys) ≡ list_any test xs || list_any test ys
any-append test [] ys = refl
any-append test (x ∷ xs) ys = ap (λ b. test x || b) (any-append test xs ys) ∙ or-more (test x) (list_any test xs) (list_any test ys)
  where
    or-more : (a b c : Bool) → a || (b || c) ≡ (a || b) || c
    or-more true b c = refl
    or-more false b c = refl

pub or-true : (a : Bool) → a || (true || false) ≡ true
or-true true = refl
or-true false = refl

pub or-false : (a : Bool) → a || (false || false) ≡ a
or-false true = refl
or-false false = refl

pub has-added : (cell : ℕ) (cells : List ℕ) → has cell (cells ++ (cell ∷ [])) ≡ true
has-added cell cells =
    any-append (λ one. nat_eq one cell) cells (cell ∷ []) ∙ (let e : nat_eq cell cell ≡ true = grind (arith, nat_tests) in ap (λ t. list_any (λ one. nat_eq one cell) cells || (t || false)) e)
    ∙ or-true (list_any (λ one. nat_eq one cell) cells)

pub has-others : (cell other : ℕ) (cells : List ℕ) → nat_eq cell other ≡ false → has other (cells ++ (cell ∷ [])) ≡ has other cells
has-others cell other cells apart =
    any-append (λ one. nat_eq one other) cells (cell ∷ []) ∙ ap (λ t. list_any (λ one. nat_eq one other) cells || (t || false)) apart
    ∙ or-false (list_any (λ one. nat_eq one other) cells)

pub has-in-added : (cell : ℕ) (lists : List (List ℕ)) (cells : List ℕ) → has_in cell (lists ++ (cells ∷ [])) ≡ has_in cell lists || (has cell cells || false)
has-in-added cell lists cells = any-append (has cell) lists (cells ∷ [])
