-- What the children of a Fork and its parent need is served.
use Rattle.std.proofs.Common.{◌≡◌, ℕ, suc, ◌+◌, ◌≤◌, ◌<◌, inl, inr, Bool, true, false, not, List, [], ◌∷◌, ◌++◌, refl, subst, arith}
use Rattle.std.proofs.lemmas.Bool.Decides.{nat_tests}
use Rattle.std.specs.Prelude.{nat_eq, ◌&&◌}
use Rattle.std.specs.List.{AllByRecursion}
use Rattle.merc_script.specs.declared.cells.Move.{Move}
use Rattle.merc_script.specs.Script.{Script, ForkThen, Children, NoChild, Child, Cell, size, count}
use Rattle.merc_core.specs.Rights.{has, without, made_by, used_by, is_kind, moved, moved_to, signals_at, waits_at}
use Rattle.merc_core.specs.World.{Branch, Location, Listed, Runs, AtJoin, Spot, spot}
use Rattle.merc_core.specs.Events.{spawned, listed_backwards, placed, parent_behind}
use Rattle.merc_core.specs.WellFormed.{CellFits, MoveFits}
use Rattle.merc_core.proofs.Pool.{Takes, each_way, each-append, each-filter, each-changed, each-weaker, each-both, takes-one, takes-others}
use Rattle.merc_core.proofs.TruthSteps.{is_same, test_same, has-holds}
use Rattle.merc_core.proofs.Anys.{any-with, any-front, any-back, any-takes, any-placed, has-front, has-back, has-without, among, from-among, each-in}
use Rattle.merc_core.proofs.Live.{AnyOf, Owes, Served, is_full, is_poisoned, is_owed, IsServed}
use Rattle.merc_core.proofs.Serving.{Serves, still-served}

-- the branch of a child
abbrev pub kid : ℕ → Branch → List Cell → List Move → ℕ → ℕ → Script → Branch
kid number parent cells moves child at rest = record {
  join = number;
  child = child;
  name = parent.name ++ ((parent.passed, child) ∷ []);
  passed = 0;
  at = at;
  steps = 0;
  signals = signals_at child cells moves;
  waits = waits_at child cells moves;
  rest = rest;
}

-- each child has one
pub kid-any : (Is : Branch → Type 0) (number : ℕ) (b : Branch) (cells : List Cell) (moves : List Move) (child from at : ℕ) (more : Children) → from ≤ child → child < from + count more
    → ((at' : ℕ) (rest : Script) → Is (kid number b cells moves child at' rest)) → AnyOf Is (spawned number b cells moves from at more)
kid-any Is number b cells moves child from at NoChild low high is = absurd (omega arith)
kid-any Is number b cells moves child from at (Child first others) low high is = elim (each_way (nat_eq child from)) [
  | inl same ↦ inl (subst (λ (k : ℕ). Is (kid number b cells moves k at first)) (test_same child from same) (is at first))
  | inr other ↦ inr (kid-any Is number b cells moves child (suc from) (at + size first) others (grind (arith, nat_tests, low, other)) (omega arith) is)
]

module _ (full : List ℕ) (poisoned : List (List ℕ)) (pool : List Spot) (v number : ℕ) (b : Branch) (limit : ℕ) (cells : List Cell) (moves : List Move) (all : Children) (rest : Script) (others : List Spot)
    (takes : Takes pool (spot (Runs v) (record b { rest = ForkThen limit cells moves all rest })) others)
    (each_cell : AllByRecursion (CellFits (count all)) cells) (each_move : AllByRecursion (MoveFits (count all) b.signals b.waits) moves) where
  abbrev kids : List Branch
  kids = spawned number b cells moves 1 (suc b.at) all

  abbrev new : List Spot
  new = spot (AtJoin number) (parent_behind b cells moves all rest) ∷ placed v kids

  owed-by-child : (cell child : ℕ) → 1 ≤ child → child ≤ count all → has cell (signals_at child cells moves) ≡ true → AnyOf (Owes cell) (others ++ new)
  owed-by-child cell child one last is =
      any-back (Owes cell) others new (inr (any-placed (Owes cell) v kids
      (kid-any (λ k. (location : Location) → Owes cell (spot location k)) number b cells moves child 1 (suc b.at) all one (omega arith) (λ at' rest' location. is))))

  moved-owed : (cell : ℕ) → has cell (moved true moves) ≡ true → AnyOf (Owes cell) (others ++ new)
  moved-owed cell is =
      any-with (λ m. (m.cell ≡ cell) × (is_kind true m ≡ true)) (λ m. AnyOf (λ y. y ≡ m) moves × MoveFits (count all) b.signals b.waits m) (AnyOf (Owes cell) (others ++ new))
      (λ m which fits. owed-by-child cell m.child fits.1.from_one fits.1.to_last
      (has-back cell (made_by m.child cells) (moved_to m.child true moves)
      (subst (λ (c : ℕ). has c (moved_to m.child true moves) ≡ true) which.0
      (among (λ one. one.cell) (λ one. nat_eq one.child m.child && is_kind true one) m moves fits.0 (rw (is_same m.child, which.1) refl)))))
      moves (from-among (λ one. one.cell) (is_kind true) cell moves is)
      (each-both (λ m. AnyOf (λ y. y ≡ m) moves) (MoveFits (count all) b.signals b.waits) moves (each-in moves) each_move)

  fork-serves : Serves full poisoned pool full poisoned (others ++ new)
  fork-serves c (is_full is) = is_full is
  fork-serves c (is_poisoned is) = is_poisoned is
  fork-serves c (is_owed is) = elim (any-takes (Owes c) takes is) [
    | inl mine ↦ elim (each_way (has c (moved true moves))) [
      | inl gone ↦ is_owed (moved-owed c gone)
      | inr kept ↦ is_owed (any-back (Owes c) others new (inl (has-without c (moved true moves) b.signals mine kept)))
    ]
    | inr its ↦ is_owed (any-front (Owes c) others new its)
  ]

  abbrev After : ℕ → Type 0
  After = Served full poisoned (others ++ new)

  -- the cells that a child or the parent consumes
  used-served : (child : ℕ) → AllByRecursion After (used_by child cells)
  used-served child = each-changed (λ one. AnyOf (λ y. y ≡ one) cells × CellFits (count all) one) After (λ one. nat_eq one.consumer child) (λ one. one.cell)
      (λ one is fits. is_owed (owed-by-child one.cell one.producer fits.1.from_one fits.1.to_last
      (has-front one.cell (made_by one.producer cells) (moved_to one.producer true moves)
      (among (λ c. c.cell) (λ c. nat_eq c.producer one.producer) one cells fits.0 (is_same one.producer)))))
      cells (each-both (λ one. AnyOf (λ y. y ≡ one) cells) (CellFits (count all)) cells (each-in cells) each_cell)

  not-true : (at : Bool) → not at ≡ true → at ≡ false
  not-true true is = absurd (cc)
  not-true false is = refl

  moved-wait : (one : Move) → is_kind false one ≡ true → MoveFits (count all) b.signals b.waits one → has one.cell b.waits ≡ true
  moved-wait one kind fits = let none : one.signal ≡ false = not-true one.signal kind in rw none at fits.held

  right-of : (a c : Bool) → (a && c) ≡ true → c ≡ true
  right-of true c is = is
  right-of false c is = absurd (cc)

  module _ (served : AllByRecursion (IsServed full poisoned pool) pool) where
    mine-served : AllByRecursion After b.waits
    mine-served = still-served full poisoned pool full poisoned (others ++ new) fork-serves (spot (Runs v) (record b { rest = ForkThen limit cells moves all rest })) (takes-one (IsServed full poisoned pool) takes served)

    moved-served : (child : ℕ) → AllByRecursion After (moved_to child false moves)
    moved-served child = each-changed (MoveFits (count all) b.signals b.waits) After (λ one. nat_eq one.child child && is_kind false one) (λ one. one.cell)
        (λ one is fits. has-holds After one.cell b.waits mine-served (moved-wait one (right-of (nat_eq one.child child) (is_kind false one) is) fits)) moves each_move

    child-served : (child : ℕ) → AllByRecursion After (waits_at child cells moves)
    child-served child = each-append After (used_by child cells) (moved_to child false moves) (used-served child) (moved-served child)

    abbrev Kid : Branch → Type 0
    Kid k = AllByRecursion After k.waits

    kids-served : (from at : ℕ) (more : Children) → AllByRecursion Kid (spawned number b cells moves from at more)
    kids-served from at NoChild = tt
    kids-served from at (Child first others') = (child-served from, kids-served (suc from) (at + size first) others')

    abbrev Is : Spot → Type 0
    Is = IsServed full poisoned (others ++ new)

    backwards-served : (some : List Branch) → AllByRecursion Kid some → AllByRecursion Is (listed_backwards v some)
    backwards-served [] all' = tt
    backwards-served (k ∷ some) all' = each-append Is (listed_backwards v some) (spot (Listed v) k ∷ []) (backwards-served some all'.1) (all'.0, tt)

    placed-served : (some : List Branch) → AllByRecursion Kid some → AllByRecursion Is (placed v some)
    placed-served [] all' = tt
    placed-served (k ∷ some) all' = (all'.0, backwards-served some all'.1)

    pub fork-served : AllByRecursion Is (others ++ new)
    fork-served = each-append Is others new
        (each-weaker (IsServed full poisoned pool) Is (still-served full poisoned pool full poisoned (others ++ new) fork-serves) others (takes-others (IsServed full poisoned pool) takes served)) (
          each-append After (used_by 0 cells) (without (moved false moves) b.waits) (used-served 0) (each-filter After (λ one. not (has one (moved false moves))) b.waits mine-served),
          placed-served kids (kids-served 1 (suc b.at) all),
        )
