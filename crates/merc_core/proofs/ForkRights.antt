-- A Fork's children get no more rights than there are cells and moves.
use Rattle.std.proofs.lemmas.Bool.Decides.{nat_tests}
use Rattle.merc_core.proofs.Pool.{each_way}
use Rattle.std.proofs.Common.{◌≡◌, inl, inr, ℕ, zero, suc, ◌+◌, ◌≤◌, Bool, true, false, List, [], ◌∷◌, ap, arith, length, length-append}
use Rattle.std.specs.Prelude.{nat_eq, nat_le, ◌&&◌, filter, if◌then◌else◌}
use Rattle.merc_script.specs.Script.{Cell, Move}
use Rattle.merc_core.specs.Rights.{numbers_of, cells_moved, made_by, moved_to}
use Rattle.merc_core.specs.Forking.{rights_wanted}

abbrev flag : Bool → ℕ
flag true = 1
flag false = 0

flag-one : (t : Bool) → flag t ≤ 1
flag-one true = omega arith
flag-one false = omega arith

flag-and : (s t : Bool) → flag (s && t) ≤ flag s
flag-and true true = omega arith
flag-and true false = omega arith
flag-and false t = omega arith

eq-after : (p child : ℕ) → nat_eq p child ≡ true → nat_le (suc child) p ≡ false
eq-after p child is = grind (arith, nat_tests)

eq-here : (p child : ℕ) → nat_eq p child ≡ true → nat_le child p ≡ true
eq-here p child is = grind (arith, nat_tests)

after-here : (p child : ℕ) → nat_le (suc child) p ≡ true → nat_le child p ≡ true
after-here p child is = grind (arith, nat_tests)

flag-step : (p child : ℕ) → flag (nat_eq p child) + flag (nat_le (suc child) p) ≤ flag (nat_le child p)
flag-step p child = elim (each_way (nat_eq p child)) [
  | inl is ↦ (let a = ap flag is in let c = ap flag (eq-after p child is) in let d = ap flag (eq-here p child is) in omega (arith, a, c, d))
  | inr apart ↦ (let a = ap flag apart in elim (each_way (nat_le (suc child) p)) [
    | inl is ↦ (let c = ap flag is in let d = ap flag (after-here p child is) in omega (arith, a, c, d))
    | inr is ↦ (let c = ap flag is in omega (arith, a, c))
  ])
]

abbrev later_cells : ℕ → List Cell → ℕ
later_cells child [] = 0
later_cells child (one ∷ cells) = flag (nat_le child one.producer) + later_cells child cells

abbrev later_moves : ℕ → List Move → ℕ
later_moves child [] = 0
later_moves child (one ∷ moves) = flag (nat_le child one.child) + later_moves child moves

cells-all : (child : ℕ) (cells : List Cell) → later_cells child cells ≤ length cells
cells-all child [] = omega arith
cells-all child (one ∷ cells) = let a = cells-all child cells in let b = flag-one (nat_le child one.producer) in omega (arith, a, b)

moves-all : (child : ℕ) (moves : List Move) → later_moves child moves ≤ length moves
moves-all child [] = omega arith
moves-all child (one ∷ moves) = let a = moves-all child moves in let b = flag-one (nat_le child one.child) in omega (arith, a, b)

if-cells : (t : Bool) (one : Cell) (rest : List Cell) → length (numbers_of (if t then one ∷ rest else rest)) ≡ flag t + length (numbers_of rest)
if-cells true one rest = omega arith
if-cells false one rest = omega arith

if-moves : (t : Bool) (one : Move) (rest : List Move) → length (cells_moved (if t then one ∷ rest else rest)) ≡ flag t + length (cells_moved rest)
if-moves true one rest = omega arith
if-moves false one rest = omega arith

cells-step : (child : ℕ) (cells : List Cell) → length (made_by child cells) + later_cells (suc child) cells ≤ later_cells child cells
cells-step child [] = omega arith
cells-step child (one ∷ cells) =
    let a = cells-step child cells in let b = flag-step one.producer child in
    let c = if-cells (nat_eq one.producer child) one (filter (λ x. nat_eq x.producer child) cells) in omega (arith, a, b, c)

moves-step : (child : ℕ) (moves : List Move) → length (moved_to child true moves) + later_moves (suc child) moves ≤ later_moves child moves
moves-step child [] = omega arith
moves-step child (one ∷ moves) =
    let a = moves-step child moves in let b = flag-step one.child child in let d = flag-and (nat_eq one.child child) one.signal in
    let c = if-moves (nat_eq one.child child && one.signal) one (filter (λ x. nat_eq x.child child && x.signal) moves) in omega (arith, a, b, c, d)

rights-later : (cells : List Cell) (moves : List Move) (child n : ℕ) → rights_wanted cells moves child n ≤ later_cells child cells + later_moves child moves
rights-later cells moves child zero = omega arith
rights-later cells moves child (suc n) =
    let a = rights-later cells moves (suc child) n in let b = cells-step child cells in let c = moves-step child moves in
    let d = length-append (made_by child cells) (moved_to child true moves) in omega (arith, a, b, c, d)

pub rights-few : (cells : List Cell) (moves : List Move) (child n : ℕ) → rights_wanted cells moves child n ≤ length cells + length moves
rights-few cells moves child n = let a = rights-later cells moves child n in let b = cells-all child cells in let c = moves-all child moves in omega (arith, a, b, c)
