-- Lists of branches: their lengths, and what is moved from one to another.
use Rattle.std.proofs.Common.{◌≡◌, ℕ, zero, suc, ◌+◌, ◌≤◌, ◌<◌, ◌==◌, false, List, [], ◌∷◌, ◌++◌, length, take, drop, refl, ap, ◌∙◌, arith, append_assoc, length-append}
use Rattle.std.specs.Prelude.{map}
use Rattle.std.proofs.lemmas.Bool.Decides.{nat_tests}
use Rattle.merc_core.specs.declared.branch.Branch.{Branch}
use Rattle.merc_core.specs.Queues.{starved}

pub length-map : {A B : Type 0} (f : A → B) (xs : List A) → length (map f xs) ≡ length xs
length-map f [] = refl
length-map f (x ∷ xs) = ap suc (length-map f xs)

-- a list with something in it begins with something
pub record Begins {A : Type 0} (xs : List A) : Type 0 where
  pub first : A
  pub rest : List A
  pub is : xs ≡ first ∷ rest

pub begins : {A : Type 0} (xs : List A) → 0 < length xs → Begins xs
begins [] some = absurd (omega arith)
begins (x ∷ xs) some = record { first = x; rest = xs; is = refl }

-- Starving the first, and moving it

pub starve-some : (old new : List Branch) → 0 < length old → ((b : Branch) (bs : List Branch) → old ≡ b ∷ bs → new ≡ starved b ∷ bs) → length new ≡ length old
starve-some [] new some starves = absurd (omega arith)
starve-some (b ∷ bs) new some starves = ap length (starves b bs refl)

pub starve-kept : (list old new whole : List Branch) → 0 < length old → ((b : Branch) (bs : List Branch) → old ≡ b ∷ bs → new ≡ starved b ∷ bs)
    → list ++ map starved old ≡ whole → (list ++ take 1 new) ++ map starved (drop 1 new) ≡ whole
starve-kept list [] new whole some starves same = absurd (omega arith)
starve-kept list (b ∷ bs) new whole some starves same =
    let e : new ≡ starved b ∷ bs = starves b bs refl in
    ap (λ (l : List Branch). (list ++ take 1 l) ++ map starved (drop 1 l)) e ∙ append_assoc list (starved b ∷ []) (map starved bs) ∙ same

pub starve-room : (list old list_at old_at : List Branch) → list ++ map starved old ≡ list_at ++ map starved old_at → length list + length old ≡ length list_at + length old_at
starve-room list old list_at old_at same =
    let e = ap length same in
    let a = length-append list (map starved old) in let b = length-append list_at (map starved old_at) in
    let c = length-map starved old in let d = length-map starved old_at in
    omega (arith, e, a, b, c, d)

-- a list that was found not to be empty
pub not-empty : (n : ℕ) → false ≡ (n == 0) → 0 < n
not-empty n test = grind (arith, nat_tests)

-- what is taken of a list is not longer than the list
pub take-less : {A : Type 0} (n : ℕ) (xs : List A) → length (take n xs) ≤ length xs
take-less zero xs = omega arith
take-less (suc n) [] = omega arith
take-less (suc n) (x ∷ xs) = let a = take-less n xs in omega (arith, a)
