-- The rights that branches are given, in a root script with a Fork inside a Fork.
use Rattle.std.proofs.Common.{◌≡◌, ℕ, inl, inr, true, List, [], ◌∷◌, Some, None, refl, arith}
use Rattle.merc_script.specs.declared.outcome.Outcome.TheVariants.{Limit}
use Rattle.merc_script.specs.Script.{Script, Ends, SignalThen, ForkThen, Children, NoChild, Child, Cell}
use Rattle.merc_core.specs.World.{AtCell, AtJoin, Runs, Join}
use Rattle.merc_core.specs.Given.{given, IsSettled, IsGone, AreLeft, nothing, stays, goes, AllSettled, IsOpenAt}

abbrev cell : ℕ → Cell
cell number = record { cell = number; producer = 1; consumer = 0; value = None }

-- Child 1 makes cells 5, 6 and 7, passes 6 on to its own child, and signals 5.
abbrev inner : Children
inner = Child (SignalThen 6 (Ends Limit)) NoChild

abbrev outer : Children
outer = Child (ForkThen 9 [] ((record { cell = 6; child = 1; signal = true }) ∷ []) inner (SignalThen 5 (Ends Limit))) NoChild

abbrev root : Script
root = ForkThen 9 (cell 5 ∷ cell 6 ∷ cell 7 ∷ []) [] outer (Ends Limit)

root-given : given root [] ≡ []
root-given = refl

outer-given : given root ((0, 1) ∷ []) ≡ 5 ∷ 6 ∷ 7 ∷ []
outer-given = refl

inner-given : given root ((0, 1) ∷ (0, 1) ∷ []) ≡ 6 ∷ []
inner-given = refl

-- there is no second child, and no Fork behind the first
none-given : given root ((0, 2) ∷ (0, 1) ∷ []) ≡ []
none-given = refl

none-behind : given root ((1, 1) ∷ []) ≡ []
none-behind = refl

-- the joins of the root, of its Fork and of the Fork inside
abbrev joins : List Join
joins =
    record { limit = 0; children = Child root NoChild; behind = 9; parent = None }
    ∷ record { limit = 9; children = outer; behind = 8; parent = Some (record { join = 0; child = 1; name = []; passed = 0 }) }
    ∷ record { limit = 9; children = inner; behind = 5; parent = Some (record { join = 1; child = 1; name = (0, 1) ∷ []; passed = 0 }) }
    ∷ []

-- child 1 waits at its Fork: it has 5 and 7, and 6 is with its child
parent-left : AreLeft (IsGone root [] [] joins (AtJoin 2)) (5 ∷ 6 ∷ 7 ∷ []) (5 ∷ 7 ∷ [])
parent-left = stays 5 (6 ∷ 7 ∷ []) (7 ∷ [])
    (goes 6 (7 ∷ []) (7 ∷ []) (inr (record { join = record { limit = 9; children = inner; behind = 5; parent = Some (record { join = 1; child = 1; name = (0, 1) ∷ []; passed = 0 }) }; is = refl; child = 1; from_one = omega arith; to_last = omega arith; holds = refl }))
    (stays 7 [] [] nothing))

-- behind the child 6 is full, and behind its own signal 5 is
runs-left : AreLeft (IsGone root (6 ∷ 5 ∷ []) [] joins (Runs 0)) (5 ∷ 6 ∷ 7 ∷ []) (7 ∷ [])
runs-left = goes 5 (6 ∷ 7 ∷ []) (7 ∷ []) (inl refl) (goes 6 (7 ∷ []) (7 ∷ []) (inl refl) (stays 7 [] [] nothing))

-- a right is not forgotten while its cell is not settled
not-forgotten : AreLeft (IsGone root [] [] joins (Runs 0)) (7 ∷ []) [] → ⊥
not-forgotten (goes _ _ _ (inl is) lies) = absurd (cc)
not-forgotten (goes _ _ _ (inr is) lies) = absurd (cc)

-- the child has ended as it signalled its cell, and not before
inner-settled : AllSettled root (6 ∷ []) [] 1 (Some (record { limit = 9; children = inner; behind = 5; parent = Some (record { join = 1; child = 1; name = (0, 1) ∷ []; passed = 0 }) }))
inner-settled = (inl refl, tt)

inner-not : IsSettled [] [] 6 → ⊥
inner-not (inl is) = absurd (cc)
inner-not (inr is) = absurd (cc)

-- parked at 7 while it is neither full nor poisoned
parked-open : IsOpenAt (6 ∷ []) ((5 ∷ []) ∷ []) (AtCell 7)
parked-open = (refl, refl)

not-open : IsOpenAt [] ((5 ∷ 7 ∷ []) ∷ []) (AtCell 7) → ⊥
not-open opened = let is = opened.1 in absurd (cc)
