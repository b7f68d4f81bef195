-- A branch is parked where it cannot go on, and the parent of a join is held where it can: each event keeps this.
use Rattle.std.proofs.Common.{◌≡◌, ℕ, suc, ◌≤◌, ◌<◌, inl, inr, Bool, true, false, not, List, [], ◌∷◌, ◌++◌, Some, None, refl, ap, arith, length}
use Rattle.std.proofs.lemmas.Bool.Decides.{nat_tests}
use Rattle.std.specs.Prelude.{Option, slice_get, if◌then◌else◌, nat_eq, filter, map, ◌&&◌, ◌||◌}
use Rattle.std.specs.List.{AllByRecursion}
use Rattle.merc_script.specs.declared.outcome.Outcome.{Outcome}
use Rattle.merc_script.specs.declared.outcome.Outcome.TheVariants.{Starved}
use Rattle.merc_script.specs.Script.{Script, Children, NoChild, Child, count}
use Rattle.merc_core.specs.Outcomes.{with_first}
use Rattle.merc_core.specs.Rights.{has, has_in}
use Rattle.merc_core.specs.World.{Branch, Location, Listed, Runs, Holds, AtCell, AtJoin, Spot, spot, Join, Stored, stored_at, gathered, outcomes_of}
use Rattle.merc_core.specs.Events.{parked, parked_at, awaits, awaits_at, ended, listed_backwards, placed, woken, wake, unchanged, poison, hold_one, hold_if}
use Rattle.merc_core.proofs.Pool.{chosen, each_way, each-append, each-filter, each-mapped, each-changed, each-passing, each-weaker, each-both}
use Rattle.merc_core.proofs.TruthSteps.{get-front, get-last, test_same}
use Rattle.merc_core.proofs.Live.{StuckAt, Stuck}

-- numbers

none-or : (a b : Bool) → a ≡ false → b ≡ false → (a || b) ≡ false
none-or a b none nothing = rw (none, nothing) refl

or-none : (a b : Bool) → (a || b) ≡ false → (a ≡ false) × (b ≡ false)
or-none true b is = absurd (cc)
or-none false b is = (refl, is)

has-none : (c : ℕ) (xs ys : List ℕ) → has c xs ≡ false → has c ys ≡ false → has c (xs ++ ys) ≡ false
has-none c [] ys none nothing = nothing
has-none c (x ∷ xs) ys none nothing = let both = or-none (nat_eq x c) (has c xs) none in none-or (nat_eq x c) (has c (xs ++ ys)) both.0 (has-none c xs ys both.1 nothing)

has-in-none : (c : ℕ) (xs : List (List ℕ)) (last : List ℕ) → has_in c xs ≡ false → has c last ≡ false → has_in c (xs ++ (last ∷ [])) ≡ false
has-in-none c [] last none nothing = none-or (has c last) false nothing refl
has-in-none c (x ∷ xs) last none nothing = let both = or-none (has c x) (has_in c xs) none in none-or (has c x) (has_in c (xs ++ (last ∷ []))) both.0 (has-in-none c xs last both.1 nothing)

other-way : (a b : ℕ) → nat_eq a b ≡ false → nat_eq b a ≡ false
other-way a b is = grind (arith, nat_tests, is)

not-true : (at : Bool) → not at ≡ true → at ≡ false
not-true true is = absurd (cc)
not-true false is = refl

-- where a branch is, of each

abbrev At : (Location → Type 0) → Spot → Type 0
At Is x = Is x.location

wake-keeps : (Is : Location → Type 0) (cell v : ℕ) (change : Branch → Branch) (xs : List Spot) → Is (Listed v) → AllByRecursion (At Is) xs → AllByRecursion (At Is) (wake cell v change xs)
wake-keeps Is cell v change xs listed all = each-append (At Is) (filter (λ x. not (parked cell x)) xs) (map (woken v change) (filter (parked cell) xs))
    (each-filter (At Is) (λ x. not (parked cell x)) xs all)
    (each-changed (At Is) (At Is) (parked cell) (woken v change) (λ x is was. listed) xs all)

poison-keeps : (Is : Location → Type 0) (cells : List ℕ) (v : ℕ) (xs : List Spot) → Is (Listed v) → AllByRecursion (At Is) xs → AllByRecursion (At Is) (poison cells v xs)
poison-keeps Is [] v xs listed all = all
poison-keeps Is (cell ∷ cells) v xs listed all = poison-keeps Is cells v (wake cell v (ended Starved) xs) listed (wake-keeps Is cell v (ended Starved) xs listed all)

-- not parked at a cell, or at none of these
abbrev NotAt : ℕ → Location → Type 0
NotAt cell location = parked_at cell location ≡ false

abbrev NotIn : List ℕ → Location → Type 0
NotIn cells (AtCell other) = has other cells ≡ false
NotIn cells (Listed v) = Unit {0}
NotIn cells (Runs v) = Unit {0}
NotIn cells (Holds v number) = Unit {0}
NotIn cells (AtJoin number) = Unit {0}

none-left : (cell v : ℕ) (change : Branch → Branch) (xs : List Spot) → AllByRecursion (At (NotAt cell)) (wake cell v change xs)
none-left cell v change xs = each-append (At (NotAt cell)) (filter (λ x. not (parked cell x)) xs) (map (woken v change) (filter (parked cell) xs))
    (each-weaker (λ x. (not (parked cell x) ≡ true) × Unit {0}) (At (NotAt cell)) (λ x is. not-true (parked cell x) is.0) (filter (λ x. not (parked cell x)) xs)
    (each-passing (λ x. Unit {0}) (λ x. not (parked cell x)) xs (any-all xs)))
    (each-changed (λ x. Unit {0}) (At (NotAt cell)) (parked cell) (woken v change) (λ x is was. refl) xs (any-all xs))
  where
    any-all : (ys : List Spot) → AllByRecursion (λ x. Unit {0}) ys
    any-all [] = tt
    any-all (y ∷ ys) = (tt, any-all ys)

not-in : (cell : ℕ) (cells : List ℕ) (location : Location) → NotAt cell location → NotIn cells location → NotIn (cell ∷ cells) location
not-in cell cells (AtCell other) not-at none = none-or (nat_eq cell other) (has other cells) (other-way other cell not-at) none
not-in cell cells (Listed v) not-at none = tt
not-in cell cells (Runs v) not-at none = tt
not-in cell cells (Holds v number) not-at none = tt
not-in cell cells (AtJoin number) not-at none = tt

not-in-none : (location : Location) → NotIn [] location
not-in-none (AtCell other) = refl
not-in-none (Listed v) = tt
not-in-none (Runs v) = tt
not-in-none (Holds v number) = tt
not-in-none (AtJoin number) = tt

poison-leaves-none : (cells : List ℕ) (v : ℕ) (xs : List Spot) → AllByRecursion (At (NotIn cells)) (poison cells v xs)
poison-leaves-none [] v xs = each-weaker-all xs
  where
    each-weaker-all : (ys : List Spot) → AllByRecursion (At (NotIn [])) ys
    each-weaker-all [] = tt
    each-weaker-all (y ∷ ys) = (not-in-none y.location, each-weaker-all ys)
poison-leaves-none (cell ∷ cells) v xs =
    let after = wake cell v (ended Starved) xs in
    each-weaker (λ x. NotAt cell x.location × NotIn cells x.location) (At (NotIn (cell ∷ cells))) (λ x both. not-in cell cells x.location both.0 both.1) (poison cells v after)
    (each-both (At (NotAt cell)) (At (NotIn cells)) (poison cells v after) (poison-keeps (NotAt cell) cells v after refl (none-left cell v (ended Starved) xs)) (poison-leaves-none cells v after))

-- stored outcomes are only added to

stored-more : (j k : ℕ) (ss : List Stored) (s : Stored) (o : Outcome) → stored_at j k ss ≡ Some o → stored_at j k (ss ++ (s ∷ [])) ≡ Some o
stored-more j k [] s o is = absurd (cc)
stored-more j k (x ∷ ss) s o is = elim (chosen (nat_eq x.join j && nat_eq x.child k) (Some x.outcome) (stored_at j k ss) (Some o) is) [
  | inl now ↦ rw now.0 now.1
  | inr later ↦ rw later.0 (stored-more j k ss s o later.1)
]

pub stored-less : (j k : ℕ) (ss : List Stored) (s : Stored) → stored_at j k (ss ++ (s ∷ [])) ≡ None → (stored_at j k ss ≡ None) × ((nat_eq s.join j && nat_eq s.child k) ≡ false)
stored-less j k [] s is = elim (chosen (nat_eq s.join j && nat_eq s.child k) (Some s.outcome) None None is) [
  | inl now ↦ absurd (let e = now.1 in cc)
  | inr later ↦ (refl, later.0)
]
stored-less j k (x ∷ ss) s is = elim (chosen (nat_eq x.join j && nat_eq x.child k) (Some x.outcome) (stored_at j k (ss ++ (s ∷ []))) None is) [
  | inl now ↦ absurd (let e = now.1 in cc)
  | inr later ↦ let less = stored-less j k ss s later.1 in (rw later.0 less.0, less.1)
]

stored-other : (j k : ℕ) (ss : List Stored) (s : Stored) → nat_eq s.join j ≡ false → stored_at j k (ss ++ (s ∷ [])) ≡ stored_at j k ss
stored-other j k [] s other = rw other refl
stored-other j k (x ∷ ss) s other = ap (λ (r : Option Outcome). if (nat_eq x.join j && nat_eq x.child k) then Some x.outcome else r) (stored-other j k ss s other)

gathered-other : (j from : ℕ) (ss : List Stored) (s : Stored) (all : Children) → nat_eq s.join j ≡ false → gathered (ss ++ (s ∷ [])) j from all ≡ gathered ss j from all
gathered-other j from ss s NoChild other = refl
gathered-other j from ss s (Child first others) other = rw (stored-other j from ss s other, gathered-other j (suc from) ss s others other) refl

more-case : (j from : ℕ) (ss : List Stored) (s : Stored) (first : Script) (others : Children) (os : List Outcome) (one : Option Outcome) (rest : Option (List Outcome)) → stored_at j from ss ≡ one → gathered ss j (suc from) others ≡ rest
    → with_first one rest ≡ Some os → ((more : List Outcome) → gathered ss j (suc from) others ≡ Some more → gathered (ss ++ (s ∷ [])) j (suc from) others ≡ Some more)
    → gathered (ss ++ (s ∷ [])) j from (Child first others) ≡ Some os
more-case j from ss s first others os None rest e f is later = absurd (cc)
more-case j from ss s first others os (Some o) None e f is later = absurd (cc)
more-case j from ss s first others os (Some o) (Some more) e f is later = rw (stored-more j from ss s o e, later more f) is

gathered-more : (j from : ℕ) (ss : List Stored) (s : Stored) (all : Children) (os : List Outcome) → gathered ss j from all ≡ Some os → gathered (ss ++ (s ∷ [])) j from all ≡ Some os
gathered-more j from ss s NoChild os is = is
gathered-more j from ss s (Child first others) os is =
    more-case j from ss s first others os (stored_at j from ss) (gathered ss j (suc from) others) refl refl is (λ more later. gathered-more j (suc from) ss s others more later)

-- the events

module _ (full : List ℕ) (poisoned : List (List ℕ)) (joins : List Join) (stored : List Stored) where
  abbrev Is : Location → Type 0
  Is = StuckAt full poisoned joins stored

  -- a cell becomes full, and those parked there are woken
  signal-stays : (cell : ℕ) (location : Location) → NotAt cell location → Is location → StuckAt (full ++ (cell ∷ [])) poisoned joins stored location
  signal-stays cell (AtCell other) not-at stuck = (has-none other full (cell ∷ []) stuck.0 (none-or (nat_eq cell other) false (other-way other cell not-at) refl), stuck.1)
  signal-stays cell (Listed v) not-at stuck = tt
  signal-stays cell (Runs v) not-at stuck = tt
  signal-stays cell (Holds v number) not-at stuck = stuck
  signal-stays cell (AtJoin number) not-at stuck = stuck

  pub signal-stuck : (cell v : ℕ) (xs : List Spot) → AllByRecursion (Stuck full poisoned joins stored) xs → AllByRecursion (Stuck (full ++ (cell ∷ [])) poisoned joins stored) (wake cell v unchanged xs)
  signal-stuck cell v xs all =
      each-weaker (λ x. NotAt cell x.location × Is x.location) (Stuck (full ++ (cell ∷ [])) poisoned joins stored) (λ x both. signal-stays cell x.location both.0 both.1) (wake cell v unchanged xs)
      (each-both (At (NotAt cell)) (At Is) (wake cell v unchanged xs) (none-left cell v unchanged xs) (wake-keeps Is cell v unchanged xs tt all))

  -- a branch ends, and its cells are poisoned
  poison-stays : (cells : List ℕ) (location : Location) → NotIn cells location → Is location → StuckAt full (poisoned ++ (cells ∷ [])) joins stored location
  poison-stays cells (AtCell other) none stuck = (stuck.0, has-in-none other poisoned cells stuck.1 none)
  poison-stays cells (Listed v) none stuck = tt
  poison-stays cells (Runs v) none stuck = tt
  poison-stays cells (Holds v number) none stuck = stuck
  poison-stays cells (AtJoin number) none stuck = stuck

  pub poison-stuck : (cells : List ℕ) (v : ℕ) (xs : List Spot) → AllByRecursion (Stuck full poisoned joins stored) xs → AllByRecursion (Stuck full (poisoned ++ (cells ∷ [])) joins stored) (poison cells v xs)
  poison-stuck cells v xs all =
      each-weaker (λ x. NotIn cells x.location × Is x.location) (Stuck full (poisoned ++ (cells ∷ [])) joins stored) (λ x both. poison-stays cells x.location both.0 both.1) (poison cells v xs)
      (each-both (At (NotIn cells)) (At Is) (poison cells v xs) (poison-leaves-none cells v xs) (poison-keeps Is cells v xs tt all))

  -- its outcome is stored, and the join may be done
  abbrev After : Stored → Location → Type 0
  After s = StuckAt full poisoned joins (stored ++ (s ∷ []))

  -- at a join other than that of the outcome, or where that one is not done
  unheld : (s : Stored) (location : Location) → awaits_at s.join location ≡ false → Is location → After s location
  unheld s (AtJoin number) other stuck = (stuck.0, stuck.1, rw (gathered-other number 1 stored s stuck.0.children (other-way number s.join other)) stuck.2)
  unheld s (Holds v number) other stuck = (stuck.0, stuck.1, stuck.2, gathered-more number 1 stored s stuck.0.children stuck.1 stuck.3)
  unheld s (AtCell cell) other stuck = stuck
  unheld s (Listed v) other stuck = tt
  unheld s (Runs v) other stuck = tt

  undone : (s : Stored) (location : Location) → awaits_at s.join location ≡ true → outcomes_of (stored ++ (s ∷ [])) s.join (slice_get joins s.join) ≡ None → Is location → After s location
  undone s (AtJoin number) here none stuck =
      let same = test_same number s.join here in
      (stuck.0, stuck.1, let at : outcomes_of (stored ++ (s ∷ [])) number (slice_get joins number) ≡ None = rw same none in rw stuck.1 at at)
  undone s (Holds v number) here none stuck = absurd (cc)
  undone s (AtCell cell) here none stuck = absurd (cc)
  undone s (Listed v) here none stuck = absurd (cc)
  undone s (Runs v) here none stuck = absurd (cc)

  done : (s : Stored) (v : ℕ) (location : Location) (os : List Outcome) → awaits_at s.join location ≡ true → outcomes_of (stored ++ (s ∷ [])) s.join (slice_get joins s.join) ≡ Some os → Is location → After s (Holds v s.join)
  done s v (AtJoin number) os here all stuck =
      let same = test_same number s.join here in
      let is : slice_get joins s.join ≡ Some stuck.0 = rw (← same) stuck.1 in
      (stuck.0, os, is, rw is at all)
  done s v (Holds u number) os here all stuck = absurd (cc)
  done s v (AtCell cell) os here all stuck = absurd (cc)
  done s v (Listed u) os here all stuck = absurd (cc)
  done s v (Runs u) os here all stuck = absurd (cc)

  hold-case : (s : Stored) (v : ℕ) (os : List Outcome) (x : Spot) (at : Bool) → awaits s.join x ≡ at → outcomes_of (stored ++ (s ∷ [])) s.join (slice_get joins s.join) ≡ Some os → Is x.location
      → After s (if at then spot (Holds v s.join) x.branch else x).location
  hold-case s v os x true at all stuck = done s v x.location os at all stuck
  hold-case s v os x false at all stuck = unheld s x.location at stuck

  still-case : (s : Stored) (x : Spot) → outcomes_of (stored ++ (s ∷ [])) s.join (slice_get joins s.join) ≡ None → Is x.location → After s x.location
  still-case s x none stuck = elim (each_way (awaits s.join x)) [ inl here ↦ undone s x.location here none stuck | inr other ↦ unheld s x.location other stuck ]

  pub stored-stuck : (s : Stored) (v : ℕ) (xs : List Spot) (outcomes : Option (List Outcome)) → outcomes_of (stored ++ (s ∷ [])) s.join (slice_get joins s.join) ≡ outcomes → AllByRecursion (Stuck full poisoned joins stored) xs
      → AllByRecursion (Stuck full poisoned joins (stored ++ (s ∷ []))) (hold_if v s.join xs outcomes)
  stored-stuck s v xs None none all = each-weaker (Stuck full poisoned joins stored) (Stuck full poisoned joins (stored ++ (s ∷ []))) (λ x stuck. still-case s x none stuck) xs all
  stored-stuck s v xs (Some os) is all = each-mapped (Stuck full poisoned joins stored) (Stuck full poisoned joins (stored ++ (s ∷ []))) (hold_one v s.join) (λ x stuck. hold-case s v os x (awaits s.join x) refl is stuck) xs all

  -- a join is added
  joins-stay : (new : Join) (location : Location) → Is location → StuckAt full poisoned (joins ++ (new ∷ [])) stored location
  joins-stay new (AtJoin number) stuck = (stuck.0, get-front joins (new ∷ []) number stuck.0 stuck.1, stuck.2)
  joins-stay new (Holds v number) stuck = (stuck.0, stuck.1, get-front joins (new ∷ []) number stuck.0 stuck.2, stuck.3)
  joins-stay new (AtCell cell) stuck = stuck
  joins-stay new (Listed v) stuck = tt
  joins-stay new (Runs v) stuck = tt

  none-stored : (number k : ℕ) (ss : List Stored) → AllByRecursion (λ one. one.join < number) ss → stored_at number k ss ≡ None
  none-stored number k [] all = refl
  none-stored number k (s ∷ ss) all = let less = all.0 in let other : nat_eq s.join number ≡ false = grind (arith, nat_tests) in rw other (none-stored number k ss all.1)

  none-gathered : (number : ℕ) (all : Children) (ss : List Stored) → 1 ≤ count all → AllByRecursion (λ one. one.join < number) ss → gathered ss number 1 all ≡ None
  none-gathered number NoChild ss some numbered = absurd (omega arith)
  none-gathered number (Child first others) ss some numbered = rw (none-stored number 1 ss numbered) refl

  backwards-stuck : (joins' : List Join) (v : ℕ) (kids : List Branch) → AllByRecursion (Stuck full poisoned joins' stored) (listed_backwards v kids)
  backwards-stuck joins' v [] = tt
  backwards-stuck joins' v (kid ∷ kids) = each-append (Stuck full poisoned joins' stored) (listed_backwards v kids) (spot (Listed v) kid ∷ []) (backwards-stuck joins' v kids) (tt, tt)

  placed-stuck : (joins' : List Join) (v : ℕ) (kids : List Branch) → AllByRecursion (Stuck full poisoned joins' stored) (placed v kids)
  placed-stuck joins' v [] = tt
  placed-stuck joins' v (kid ∷ kids) = (tt, backwards-stuck joins' v kids)

  pub fork-stuck : (v : ℕ) (new : Join) (parent : Branch) (kids : List Branch) (others : List Spot) → 1 ≤ count new.children → AllByRecursion (λ one. one.join < length joins) stored → AllByRecursion (Stuck full poisoned joins stored) others
      → AllByRecursion (Stuck full poisoned (joins ++ (new ∷ [])) stored) (others ++ (spot (AtJoin (length joins)) parent ∷ placed v kids))
  fork-stuck v new parent kids others some numbered all =
      each-append (Stuck full poisoned (joins ++ (new ∷ [])) stored) others (spot (AtJoin (length joins)) parent ∷ placed v kids)
      (each-weaker (Stuck full poisoned joins stored) (Stuck full poisoned (joins ++ (new ∷ [])) stored) (λ x stuck. joins-stay new x.location stuck) others all)
      ((new, get-last joins new, none-gathered (length joins) new.children stored some numbered), placed-stuck (joins ++ (new ∷ [])) v kids)
