-- Only a worker's own events change what it runs or holds.
use Rattle.std.proofs.Common.{◌≡◌, ℕ, zero, suc, ◌+◌, ◌⊎◌, inl, inr, Bool, true, false, not, List, [], ◌∷◌, ◌++◌, Some, None, refl, ap, sym, ◌∙◌, arith, length}
use Rattle.std.specs.Prelude.{Option, slice_get, if◌then◌else◌, nat_eq, filter, map, find}
use Rattle.std.specs.List.{remove}
use Rattle.merc_script.specs.declared.outcome.Outcome.{Outcome}
use Rattle.merc_script.specs.declared.outcome.Outcome.TheVariants.{Starved}
use Rattle.merc_script.specs.Script.{Script, TickThen, WaitThen}
use Rattle.merc_script.specs.Joining.{joined}
use Rattle.merc_core.specs.declared.event.Event.{Event}
use Rattle.merc_core.specs.World.{Branch, Location, Listed, Runs, Holds, AtCell, AtJoin, Spot, spot, World, outcomes_of}
use Rattle.merc_core.specs.Events.{worker_of, acts, acts_at, parked, parked_at, first_from, beside, taken, past_tick, past_signal, past_wait, ended, go_behind, spawned, listed_backwards, placed, parent_behind, woken, wake, unchanged, poison, hold_one, hold_if, stored_with}
use Rattle.merc_core.specs.Laws.{spot_of, OwnEventsAlone}
use Rattle.merc_core.proofs.Pool.{Takes, here, there, chosen, each_way}
use Rattle.merc_core.proofs.Steps.{
  with_rest,
  put_back,
  TakesUp,
  pops,
  steals,
  Finishes,
  ends as ends_it,
  loses,
  Step,
  ticked,
  forks,
  signals as signals_it,
  passes,
  starves,
  parks,
  finishes,
  takes_up,
  resumes,
  step_of,
}
use Rattle.merc_core.proofs.TruthSteps.{test_same}

-- the first that passes a test

beside-is : (others : List Spot) (one : Option Spot) → spot_of (beside others one) ≡ one
beside-is others None = refl
beside-is others (Some one) = refl

module _ (test : Spot → Bool) where
  find-takes : {xs : List Spot} {y : Spot} {ys : List Spot} → Takes xs y ys → test y ≡ false → find test xs ≡ find test ys
  find-takes (here x xs) none = rw none refl
  find-takes (there x y xs ys takes) none = ap (λ (r : Option Spot). if test x then Some x else r) (find-takes takes none)

  find-append : (xs ys : List Spot) → find test ys ≡ None → find test (xs ++ ys) ≡ find test xs
  find-append [] ys none = none
  find-append (x ∷ xs) ys none = ap (λ (r : Option Spot). if test x then Some x else r) (find-append xs ys none)

  find-filter : (other : Spot → Bool) → ((x : Spot) → other x ≡ true → test x ≡ false) → (xs : List Spot) → find test (filter (λ x. not (other x)) xs) ≡ find test xs
  find-filter other apart [] = refl
  find-filter other apart (x ∷ xs) = elim (each_way (other x)) [
    | inl is ↦ rw (is, apart x is) (find-filter other apart xs)
    | inr isnt ↦ rw isnt (ap (λ (r : Option Spot). if test x then Some x else r) (find-filter other apart xs))
  ]

  find-none : (change : Spot → Spot) → ((x : Spot) → test (change x) ≡ false) → (xs : List Spot) → find test (map change xs) ≡ None
  find-none change none [] = refl
  find-none change none (x ∷ xs) = rw (none x) (find-none change none xs)

  find-mapped : (change : Spot → Spot) → ((x : Spot) → (change x ≡ x) ⊎ ((test x ≡ false) × (test (change x) ≡ false))) → (xs : List Spot) → find test (map change xs) ≡ find test xs
  find-mapped change keeps [] = refl
  find-mapped change keeps (x ∷ xs) = elim (keeps x) [
    | inl same ↦ rw (same, find-mapped change keeps xs) refl
    | inr neither ↦ rw (neither.0, neither.1) (find-mapped change keeps xs)
  ]

  -- as a place it is the same
  find-first : (from : ℕ) (xs : List Spot) → find test xs ≡ None → first_from from test xs ≡ None
  find-first from [] none = refl
  find-first from (x ∷ xs) none = elim (chosen (test x) (Some x) (find test xs) None none) [
    | inl now ↦ absurd (let e = now.1 in cc)
    | inr later ↦ rw later.0 (find-first (from + 1) xs later.1)
  ]

  find-there : (xs : List Spot) (place : ℕ) (from : ℕ) → first_from from test xs ≡ Some place → (i : ℕ) × (place ≡ from + i) × (slice_get xs i ≡ find test xs)
  find-there [] place from is = absurd (cc)
  find-there (x ∷ xs) place from is = elim (chosen (test x) (Some from) (first_from (from + 1) test xs) (Some place) is) [
    | inl now ↦ (zero, (let e : from ≡ place = let s = now.1 in cc in omega arith), rw now.0 refl)
    | inr later ↦ let found = find-there xs place (from + 1) later.1 in (suc found.0, (let e = found.1 in omega arith), rw later.0 found.2)
  ]

  first-none : (from : ℕ) (xs : List Spot) → first_from from test xs ≡ None → find test xs ≡ None
  first-none from [] none = refl
  first-none from (x ∷ xs) none = elim (chosen (test x) (Some from) (first_from (from + 1) test xs) None none) [
    | inl now ↦ absurd (let e = now.1 in cc)
    | inr later ↦ rw later.0 (first-none (from + 1) xs later.1)
  ]

  from-place : (xs : List Spot) (place : Option ℕ) → first_from 0 test xs ≡ place → spot_of (taken xs place) ≡ find test xs
  from-place xs None none = sym (first-none 0 xs none)
  from-place xs (Some place) is =
      let found = find-there xs place 0 is in
      let same : place ≡ found.0 = let e = found.1 in omega arith in
      beside-is (remove xs place) (slice_get xs place) ∙ (ap (slice_get xs) same ∙ found.2)

  pub hand-found : (xs : List Spot) → spot_of (taken xs (first_from 0 test xs)) ≡ find test xs
  hand-found xs = from-place xs (first_from 0 test xs) refl

-- a worker other than that of an event

module _ (v u : ℕ) (apart : nat_eq u v ≡ false) where
  abbrev hand : List Spot → Option Spot
  hand = find (acts v)

  parked-apart : (cell : ℕ) (location : Location) → parked_at cell location ≡ true → acts_at v location ≡ false
  parked-apart cell (AtCell other) is = refl
  parked-apart cell (Listed w) is = refl
  parked-apart cell (AtJoin number) is = refl
  parked-apart cell (Runs w) is = absurd (cc)
  parked-apart cell (Holds w number) is = absurd (cc)

  wake-hand : (cell : ℕ) (change : Branch → Branch) (xs : List Spot) → hand (wake cell u change xs) ≡ hand xs
  wake-hand cell change xs =
      find-append (acts v) (filter (λ x. not (parked cell x)) xs) (map (woken u change) (filter (parked cell) xs)) (find-none (acts v) (woken u change) (λ x. refl) (filter (parked cell) xs))
      ∙ find-filter (acts v) (parked cell) (λ x is. parked-apart cell x.location is) xs

  poison-hand : (cells : List ℕ) (xs : List Spot) → hand (poison cells u xs) ≡ hand xs
  poison-hand [] xs = refl
  poison-hand (cell ∷ cells) xs = poison-hand cells (wake cell u (ended Starved) xs) ∙ wake-hand cell (ended Starved) xs

  held-apart : (number : ℕ) (location : Location) (b : Branch) → (hold_one u number (spot location b) ≡ spot location b) ⊎ ((acts_at v location ≡ false) × (acts v (hold_one u number (spot location b)) ≡ false))
  held-apart number (AtJoin other) b = inr (refl, by-test (nat_eq other number))
    where
      by-test : (at : Bool) → acts v (if at then spot (Holds u number) b else spot (AtJoin other) b) ≡ false
      by-test true = apart
      by-test false = refl
  held-apart number (Listed w) b = inl refl
  held-apart number (Runs w) b = inl refl
  held-apart number (Holds w other) b = inl refl
  held-apart number (AtCell cell) b = inl refl

  hold-hand : (number : ℕ) (xs : List Spot) (outcomes : Option (List Outcome)) → hand (hold_if u number xs outcomes) ≡ hand xs
  hold-hand number xs None = refl
  hold-hand number xs (Some outcomes) = find-mapped (acts v) (hold_one u number) (λ x. held-apart number x.location x.branch) xs

  backwards-hand : (kids : List Branch) → hand (listed_backwards u kids) ≡ None
  backwards-hand [] = refl
  backwards-hand (kid ∷ kids) = find-append (acts v) (listed_backwards u kids) (spot (Listed u) kid ∷ []) refl ∙ backwards-hand kids

  placed-hand : (kids : List Branch) → hand (placed u kids) ≡ None
  placed-hand [] = refl
  placed-hand (kid ∷ kids) = rw apart (backwards-hand kids)

  back-hand : (w : World) (x : Spot) (to : Location) (b : Branch) (others : List Spot) → Takes w.pool x others → acts v x ≡ false → acts_at v to ≡ false → hand (put_back w to b others).pool ≡ hand w.pool
  back-hand w x to b others takes none to-none = find-append (acts v) others (spot to b ∷ []) (rw to-none refl) ∙ sym (find-takes (acts v) takes none)

other-worker : (u v : ℕ) → (u ≡ v → ⊥) → nat_eq u v ≡ false
other-worker u v apart = elim (each_way (nat_eq u v)) [ inl same ↦ absurd (apart (test_same u v same)) | inr other ↦ other ]

-- whose event it is
takes-worker : (e : Event) (v : ℕ) → TakesUp e v → worker_of e ≡ v
takes-worker _ _ (pops v) = refl
takes-worker _ _ (steals v victim) = refl

finish-worker : (e : Event) (v : ℕ) (s : Script) (o : Outcome) → Finishes e v s o → worker_of e ≡ v
finish-worker _ _ _ _ (ends_it v o) = refl
finish-worker _ _ _ _ (loses v s) = refl

step-hand : (w : World) (e : Event) (w' : World) (v : ℕ) → Step w e w' → (worker_of e ≡ v → ⊥) → find (acts v) w'.pool ≡ find (acts v) w.pool
step-hand w _ _ v (ticked u b rest others worker takes) apart =
    let other = other-worker u v apart in back-hand v u other w (spot (Runs u) (with_rest b (TickThen rest))) (Runs u) (past_tick b rest) others takes other other
step-hand w _ _ v (forks u b limit cells moves children rest others worker takes) apart =
    let other = other-worker u v apart in
    find-append (acts v) others (spot (AtJoin (length w.joins)) (parent_behind b cells moves children rest) ∷ placed u (spawned (length w.joins) b cells moves 1 (suc b.at) children))
    (placed-hand v u other (spawned (length w.joins) b cells moves 1 (suc b.at) children))
    ∙ sym (find-takes (acts v) takes other)
step-hand w _ _ v (signals_it u b cell rest others worker takes) apart =
    let other = other-worker u v apart in
    find-append (acts v) (wake cell u unchanged others) (spot (Runs u) (past_signal cell b rest) ∷ []) (rw other refl) ∙ (wake-hand v u other cell unchanged others ∙ sym (find-takes (acts v) takes other))
step-hand w _ _ v (passes u b cell rest others worker takes full) apart =
    let other = other-worker u v apart in back-hand v u other w (spot (Runs u) (with_rest b (WaitThen cell rest))) (Runs u) (past_wait cell b rest) others takes other other
step-hand w _ _ v (starves u b cell rest others worker takes poisoned) apart =
    let other = other-worker u v apart in back-hand v u other w (spot (Runs u) (with_rest b (WaitThen cell rest))) (Runs u) (ended Starved b) others takes other other
step-hand w _ _ v (parks u b cell rest others worker takes full poisoned) apart =
    let other = other-worker u v apart in back-hand v u other w (spot (Runs u) (with_rest b (WaitThen cell rest))) (AtCell cell) (past_wait cell b rest) others takes other refl
step-hand w _ _ v (finishes e u b o others worker takes how) apart =
    let other = other-worker u v (λ same. apart (finish-worker e u b.rest o how ∙ same)) in
    hold-hand v u other b.join (poison b.signals u others) (outcomes_of (stored_with w b o) b.join (slice_get w.joins b.join)) ∙ (poison-hand v u other b.signals others ∙ sym (find-takes (acts v) takes other))
step-hand w _ _ v (takes_up e u from b others worker takes-up free takes) apart =
    let other = other-worker u v (λ same. apart (takes-worker e u takes-up ∙ same)) in back-hand v u other w (spot (Listed from) b) (Runs u) b others takes refl other
step-hand w _ _ v (resumes u b number join os others worker takes is all) apart =
    let other = other-worker u v apart in back-hand v u other w (spot (Holds u number) b) (Runs u) (go_behind (joined join.limit os) b) others takes other other

pub own_events_alone : OwnEventsAlone
own_events_alone w event next worker is apart =
    hand-found (acts worker) next.pool ∙ (step-hand w event next worker (step_of w event next is) apart ∙ sym (hand-found (acts worker) w.pool))
