-- What is left of the rights that a branch was given.
use Rattle.std.proofs.Common.{◌≡◌, ℕ, ◌≤◌, ◌⊎◌, inl, inr, Bool, true, false, not, List, [], ◌∷◌, ◌++◌, refl, ap, sym, ◌∙◌, subst}
use Rattle.std.proofs.lemmas.List.{append-nil}
use Rattle.std.specs.Prelude.{Option, filter, map, nat_eq, if◌then◌else◌, ◌||◌, ◌&&◌}
use Rattle.std.specs.List.{AllByRecursion}
use Rattle.merc_script.specs.declared.outcome.Outcome.TheVariants.{Starved}
use Rattle.merc_script.specs.Script.{Script, Move}
use Rattle.merc_script.specs.Places.{Name, child_of, left_in, script_named}
use Rattle.merc_core.specs.World.{Branch, Location, Listed, Runs, Holds, AtCell, AtJoin, Spot, Join}
use Rattle.merc_core.specs.Rights.{has, has_in, without, moved, moved_to}
use Rattle.merc_core.specs.Events.{acts_at, parked, parked_at, ended, woken, wake, poison}
use Rattle.merc_core.specs.WellFormed.{MoveFits}
use Rattle.merc_core.specs.Given.{given_by, given_from, IsSettled, IsGone, AreLeft, nothing, stays, goes, IsOpenAt}
use Rattle.merc_core.proofs.Pool.{each_way, each-append, each-filter}
use Rattle.merc_core.proofs.TruthSteps.{is_same, test_same, either_true}
use Rattle.merc_core.proofs.Anys.{or-left, or-right}
use Rattle.merc_core.proofs.Filters.{filter-yes, filter-no}

pub left-weaker : (One Other : ℕ → Type 0) → ((c : ℕ) → One c → Other c) → {had some : List ℕ} → AreLeft One had some → AreLeft Other had some
left-weaker One Other weaker nothing = nothing
left-weaker One Other weaker (stays cell had some lies) = stays cell had some (left-weaker One Other weaker lies)
left-weaker One Other weaker (goes cell had some gone lies) = goes cell had some (weaker cell gone) (left-weaker One Other weaker lies)

pub all-left : (Gone : ℕ → Type 0) (had : List ℕ) → AreLeft Gone had had
all-left Gone [] = nothing
all-left Gone (cell ∷ had) = stays cell had had (all-left Gone had)

-- some more are gone
pub left-without : (Gone : ℕ → Type 0) (out : List ℕ) → ((c : ℕ) → has c out ≡ true → Gone c) → {had some : List ℕ} → AreLeft Gone had some → AreLeft Gone had (without out some)
left-without Gone out are nothing = nothing
left-without Gone out are (goes cell had some gone lies) = goes cell had (without out some) gone (left-without Gone out are lies)
left-without Gone out are (stays cell had some lies) = elim (each_way (has cell out)) [
  | inl yes' ↦ subst (AreLeft Gone (cell ∷ had)) (sym (filter-no (λ one. not (has one out)) cell some (ap not yes'))) (goes cell had (without out some) (are cell yes') (left-without Gone out are lies))
  | inr no' ↦ subst (AreLeft Gone (cell ∷ had)) (sym (filter-yes (λ one. not (has one out)) cell some (ap not no'))) (stays cell had (without out some) (left-without Gone out are lies))
]

-- what holds of those that are gone and of those that are left holds of all
pub all-hold : (Gone Is : ℕ → Type 0) → ((c : ℕ) → Gone c → Is c) → {had some : List ℕ} → AreLeft Gone had some → ((c : ℕ) → has c some ≡ true → Is c) → AllByRecursion Is had
all-hold Gone Is so nothing each = tt
all-hold Gone Is so (goes cell had some gone lies) each = (so cell gone, all-hold Gone Is so lies each)
all-hold Gone Is so (stays cell had some lies) each =
    (each cell (or-left (nat_eq cell cell) (has cell some) (is_same cell)), all-hold Gone Is so lies (λ c is. each c (or-right (nat_eq cell c) (has c some) is)))

-- a cell is gone, or there before and after
pub left-has : (Gone : ℕ → Type 0) {had some : List ℕ} → AreLeft Gone had some → (c : ℕ) → Gone c ⊎ (has c had ≡ has c some)
left-has Gone nothing c = inr refl
left-has Gone (stays cell had some lies) c = elim (left-has Gone lies c) [ inl gone ↦ inl gone | inr same ↦ inr (ap (λ t. nat_eq cell c || t) same) ]
left-has Gone (goes cell had some gone lies) c = elim (each_way (nat_eq cell c)) [
  | inl here ↦ inl (subst Gone (test_same cell c here) gone)
  | inr other ↦ elim (left-has Gone lies c) [ inl gone' ↦ inl gone' | inr same ↦ inr (ap (λ t. t || has c had) other ∙ same) ]
]

-- the rights of the script that is one step further
pub given-last : (had : List ℕ) (name : Name) (passed child : ℕ) (s : Option Script) → given_from had (name ++ ((passed, child) ∷ [])) s ≡ given_by child (left_in passed (script_named name s))
given-last had [] passed child s = refl
given-last had (step ∷ name) passed child s = given-last (given_by step.1 (left_in step.0 s)) name passed child (child_of step.1 (left_in step.0 s))

-- each right that moves is given to one of the children
pub record GoesTo (moves : List Move) (children cell : ℕ) : Type 0 where
  pub child : ℕ
  pub from_one : 1 ≤ child
  pub to_last : child ≤ children
  pub is : has cell (moved_to child true moves) ≡ true

moved-more : (cell child : ℕ) (move : Move) (moves : List Move) → has cell (moved_to child true moves) ≡ true → has cell (moved_to child true (move ∷ moves)) ≡ true
moved-more cell child move moves is = either (nat_eq move.child child && move.signal)
  where
    either : (b : Bool) → has cell (map (λ one. one.cell) (if b then move ∷ filter (λ one. nat_eq one.child child && one.signal) moves else filter (λ one. nat_eq one.child child && one.signal) moves)) ≡ true
    either true = or-right (nat_eq move.cell cell) (has cell (moved_to child true moves)) is
    either false = is

moved-here : (move : Move) (moves : List Move) → move.signal ≡ true → has move.cell (moved_to move.child true (move ∷ moves)) ≡ true
moved-here move moves signal = rw (is_same move.child, signal, is_same move.cell) refl

pub goes-to : (children : ℕ) (signals waits : List ℕ) (moves : List Move) → AllByRecursion (MoveFits children signals waits) moves → (cell : ℕ) → has cell (moved true moves) ≡ true → GoesTo moves children cell
goes-to children signals waits [] fit cell is = absurd (cc)
goes-to children signals waits (move ∷ moves) fit cell is = elim (each_way move.signal) [
  | inl signal ↦ elim (either_true (nat_eq move.cell cell) (has cell (moved true moves)) (rw signal at is)) [
    | inl here ↦ record {
      child = move.child;
      from_one = fit.0.from_one;
      to_last = fit.0.to_last;
      is = subst (λ (c : ℕ). has c (moved_to move.child true (move ∷ moves)) ≡ true) (test_same move.cell cell here) (moved-here move moves signal);
    }
    | inr later ↦ more (goes-to children signals waits moves fit.1 cell later)
  ]
  | inr other ↦ more (goes-to children signals waits moves fit.1 cell (rw other at is))
]
  where
    more : GoesTo moves children cell → GoesTo (move ∷ moves) children cell
    more to = record { child = to.child; from_one = to.from_one; to_last = to.to_last; is = moved-more cell to.child move moves to.is }

-- what a worker's branch has no more is settled
pub acting-settled : (root : Script) (full : List ℕ) (poisoned : List (List ℕ)) (joins : List Join) (v : ℕ) (location : Location) → acts_at v location ≡ true → (c : ℕ) → IsGone root full poisoned joins location c → IsSettled full poisoned c
acting-settled root full poisoned joins v (Runs u) at c gone = gone
acting-settled root full poisoned joins v (Holds u number) at c gone = gone
acting-settled root full poisoned joins v (Listed u) at c gone = gone
acting-settled root full poisoned joins v (AtCell cell) at c gone = gone
acting-settled root full poisoned joins v (AtJoin number) at c gone = absurd (cc)

-- nobody is woken by what is settled
module _ (full : List ℕ) (poisoned : List (List ℕ)) where
  abbrev Opened : Spot → Type 0
  Opened x = IsOpenAt full poisoned x.location

  not-parked : (cell : ℕ) → IsSettled full poisoned cell → (location : Location) → IsOpenAt full poisoned location → parked_at cell location ≡ false
  not-parked cell settled (Listed v) opened = refl
  not-parked cell settled (Runs v) opened = refl
  not-parked cell settled (Holds v number) opened = refl
  not-parked cell settled (AtJoin number) opened = refl
  not-parked cell settled (AtCell other) opened = elim (each_way (nat_eq other cell)) [
    | inr apart ↦ apart
    | inl here ↦ (let same : other ≡ cell = test_same other cell here in
        elim settled [
          | inl is ↦ absurd (let none : has cell full ≡ false = subst (λ (c : ℕ). has c full ≡ false) same opened.0 in cc)
          | inr is ↦ absurd (let none : has_in cell poisoned ≡ false = subst (λ (c : ℕ). has_in c poisoned ≡ false) same opened.1 in cc)
        ])
  ]

  stay-all : (test : Spot → Bool) (xs : List Spot) → AllByRecursion (λ x. test x ≡ false) xs → filter (λ x. not (test x)) xs ≡ xs
  stay-all test [] none = refl
  stay-all test (x ∷ xs) none = filter-yes (λ y. not (test y)) x xs (ap not none.0) ∙ ap (λ l. x ∷ l) (stay-all test xs none.1)

  go-none : (test : Spot → Bool) (xs : List Spot) → AllByRecursion (λ x. test x ≡ false) xs → filter test xs ≡ []
  go-none test [] none = refl
  go-none test (x ∷ xs) none = filter-no test x xs none.0 ∙ go-none test xs none.1

  nobody : (cell : ℕ) → IsSettled full poisoned cell → (xs : List Spot) → AllByRecursion Opened xs → AllByRecursion (λ x. parked cell x ≡ false) xs
  nobody cell settled [] opened = tt
  nobody cell settled (x ∷ xs) opened = (not-parked cell settled x.location opened.0, nobody cell settled xs opened.1)

  wakes-nobody : (cell : ℕ) → IsSettled full poisoned cell → (v : ℕ) (change : Branch → Branch) (xs : List Spot) → AllByRecursion Opened xs → wake cell v change xs ≡ xs
  wakes-nobody cell settled v change xs opened =
      let none = nobody cell settled xs opened in
      ap (λ l. filter (λ x. not (parked cell x)) xs ++ map (woken v change) l) (go-none (parked cell) xs none) ∙ append-nil (filter (λ x. not (parked cell x)) xs) ∙ stay-all (parked cell) xs none

  listed-open : (v : ℕ) (change : Branch → Branch) (xs : List Spot) → AllByRecursion Opened (map (woken v change) xs)
  listed-open v change [] = tt
  listed-open v change (x ∷ xs) = (tt, listed-open v change xs)

  wake-open : (cell v : ℕ) (change : Branch → Branch) (xs : List Spot) → AllByRecursion Opened xs → AllByRecursion Opened (wake cell v change xs)
  wake-open cell v change xs opened = each-append Opened (filter (λ x. not (parked cell x)) xs) (map (woken v change) (filter (parked cell) xs))
      (each-filter Opened (λ x. not (parked cell x)) xs opened) (listed-open v change (filter (parked cell) xs))

  -- those that are left are poisoned, or all that were given: it is the same
  pub poison-left : {had some : List ℕ} → AreLeft (IsSettled full poisoned) had some → (v : ℕ) (xs : List Spot) → AllByRecursion Opened xs → poison had v xs ≡ poison some v xs
  poison-left nothing v xs opened = refl
  poison-left (stays cell had some lies) v xs opened = poison-left lies v (wake cell v (ended Starved) xs) (wake-open cell v (ended Starved) xs opened)
  poison-left (goes cell had some settled lies) v xs opened = ap (poison had v) (wakes-nobody cell settled v (ended Starved) xs opened) ∙ poison-left lies v xs opened
