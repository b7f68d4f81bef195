-- What a branch needs is full, poisoned or owed by some branch: each event keeps this.
use Rattle.std.proofs.Common.{◌≡◌, ℕ, inl, inr, Bool, true, false, not, List, [], ◌∷◌, ◌++◌, Some, None, refl, sym, subst}
use Rattle.std.specs.Prelude.{Option, if◌then◌else◌, nat_eq, filter, map}
use Rattle.std.specs.List.{AllByRecursion}
use Rattle.merc_script.specs.declared.outcome.Outcome.{Outcome}
use Rattle.merc_script.specs.declared.outcome.Outcome.TheVariants.{Starved}
use Rattle.merc_script.specs.Script.{Script}
use Rattle.merc_core.specs.World.{Branch, Location, Listed, Runs, Holds, AtCell, AtJoin, Spot, spot}
use Rattle.merc_core.specs.Events.{parked, awaits, past_signal, ended, woken, wake, unchanged, poison, hold_one, hold_if}
use Rattle.merc_core.proofs.Pool.{Takes, each_way, each-append, each-filter, each-mapped, each-changed, each-weaker, takes-one, takes-others}
use Rattle.merc_core.proofs.Anys.{any-front, any-back, any-takes, any-put, any-wake, any-poison, any-hold, has-front, has-back, has-in-front, has-in-last, has-without}
use Rattle.merc_core.proofs.Live.{AnyOf, Owes, Served, is_full, is_poisoned, is_owed, needs, IsServed}

-- a branch's rights do not depend on where it is
pub owes-keeps : (cell : ℕ) (location : Location) (rest : Script) (x : Spot) → Owes cell x → Owes cell (spot location (record x.branch { rest = rest }))
owes-keeps cell location rest x owes = owes

-- what is served before is served after
abbrev pub Serves : List ℕ → List (List ℕ) → List Spot → List ℕ → List (List ℕ) → List Spot → Type 0
Serves full poisoned pool full' poisoned' pool' = (cell : ℕ) → Served full poisoned pool cell → Served full' poisoned' pool' cell

serves-as : (full : List ℕ) (poisoned : List (List ℕ)) (pool pool' : List Spot) → ((cell : ℕ) → AnyOf (Owes cell) pool → AnyOf (Owes cell) pool') → Serves full poisoned pool full poisoned pool'
serves-as full poisoned pool pool' keeps cell (is_full is) = is_full is
serves-as full poisoned pool pool' keeps cell (is_poisoned is) = is_poisoned is
serves-as full poisoned pool pool' keeps cell (is_owed is) = is_owed (keeps cell is)

module _ (full : List ℕ) (poisoned : List (List ℕ)) (pool : List Spot) (full' : List ℕ) (poisoned' : List (List ℕ)) (pool' : List Spot) (serves : Serves full poisoned pool full' poisoned' pool') where
  abbrev Before : Spot → Type 0
  Before = IsServed full poisoned pool

  abbrev After : Spot → Type 0
  After = IsServed full' poisoned' pool'

  pub still-served : (x : Spot) → Before x → After x
  still-served x served = each-weaker (Served full poisoned pool) (Served full' poisoned' pool') serves (needs x.location x.branch.waits) served

  -- at another place a branch needs no more than it did
  waits-served : (location : Location) (waits : List ℕ) → AllByRecursion (Served full' poisoned' pool') (needs location waits) → AllByRecursion (Served full' poisoned' pool') waits
  waits-served (AtCell cell) waits all = all.1
  waits-served (Listed v) waits all = all
  waits-served (Runs v) waits all = all
  waits-served (Holds v number) waits all = all
  waits-served (AtJoin number) waits all = all

  pub moved-served : (x : Spot) (to : Location) (b : Branch) → needs to b.waits ≡ x.branch.waits → Before x → After (spot to b)
  moved-served x to b same served = subst (AllByRecursion (Served full' poisoned' pool')) (sym same) (waits-served x.location x.branch.waits (still-served x served))

  pub wakes-served : (cell v : ℕ) (xs : List Spot) → AllByRecursion Before xs → AllByRecursion After (wake cell v unchanged xs)
  wakes-served cell v xs all = each-append After (filter (λ x. not (parked cell x)) xs) (map (woken v unchanged) (filter (parked cell) xs))
      (each-filter After (λ x. not (parked cell x)) xs (each-weaker Before After still-served xs all))
      (each-changed Before After (parked cell) (woken v unchanged) (λ x is served. moved-served x (Listed v) x.branch refl served) xs all)

-- through poison and holding, where nothing is served less
module _ (full : List ℕ) (poisoned : List (List ℕ)) (pool : List Spot) where
  abbrev Is : Spot → Type 0
  Is = IsServed full poisoned pool

  same-served : Serves full poisoned pool full poisoned pool
  same-served cell served = served

  pub poison-served : (cells : List ℕ) (v : ℕ) (xs : List Spot) → AllByRecursion Is xs → AllByRecursion Is (poison cells v xs)
  poison-served [] v xs all = all
  poison-served (cell ∷ cells) v xs all = poison-served cells v (wake cell v (ended Starved) xs)
      (each-append Is (filter (λ x. not (parked cell x)) xs) (map (woken v (ended Starved)) (filter (parked cell) xs))
      (each-filter Is (λ x. not (parked cell x)) xs all)
      (each-changed Is Is (parked cell) (woken v (ended Starved)) (λ x is served. moved-served full poisoned pool full poisoned pool same-served x (Listed v) (ended Starved x.branch) refl served) xs all))

  held-served : (v number : ℕ) (x : Spot) (at : Bool) → Is x → Is (if at then spot (Holds v number) x.branch else x)
  held-served v number x true served = moved-served full poisoned pool full poisoned pool same-served x (Holds v number) x.branch refl served
  held-served v number x false served = served

  pub hold-served : (v number : ℕ) (xs : List Spot) (outcomes : Option (List Outcome)) → AllByRecursion Is xs → AllByRecursion Is (hold_if v number xs outcomes)
  hold-served v number xs None all = all
  hold-served v number xs (Some outcomes) all = each-mapped Is Is (hold_one v number) (λ x served. held-served v number x (awaits number x) served) xs all

-- A branch is put back that owes what it owed and needs no more.
pub back-served : (full : List ℕ) (poisoned : List (List ℕ)) (pool : List Spot) (x : Spot) (others : List Spot) (to : Location) (b : Branch) → Takes pool x others → b.signals ≡ x.branch.signals
    → ((Is : ℕ → Type 0) → AllByRecursion Is (needs x.location x.branch.waits) → AllByRecursion Is (needs to b.waits))
    → AllByRecursion (IsServed full poisoned pool) pool → AllByRecursion (IsServed full poisoned (others ++ (spot to b ∷ []))) (others ++ (spot to b ∷ []))
back-served full poisoned pool x others to b takes same fewer all =
    let pool' : List Spot = others ++ (spot to b ∷ []) in
    let serves : Serves full poisoned pool full poisoned pool' = serves-as full poisoned pool pool' (λ cell any. any-put (Owes cell) (spot to b) takes (λ owes. rw same owes) any) in
    each-append (IsServed full poisoned pool') others (spot to b ∷ [])
    (each-weaker (IsServed full poisoned pool) (IsServed full poisoned pool') (still-served full poisoned pool full poisoned pool' serves) others (takes-others (IsServed full poisoned pool) takes all))
    (fewer (Served full poisoned pool') (still-served full poisoned pool full poisoned pool' serves x (takes-one (IsServed full poisoned pool) takes all)), tt)

-- a signal
signal-serves : (full : List ℕ) (poisoned : List (List ℕ)) (pool : List Spot) (v cell : ℕ) (b : Branch) (rest rest' : Script) (others : List Spot) → Takes pool (spot (Runs v) (record b { rest = rest' })) others
    → Serves full poisoned pool (full ++ (cell ∷ [])) poisoned (wake cell v unchanged others ++ (spot (Runs v) (past_signal cell b rest) ∷ []))
signal-serves full poisoned pool v cell b rest rest' others takes c (is_full is) = is_full (has-front c full (cell ∷ []) is)
signal-serves full poisoned pool v cell b rest rest' others takes c (is_poisoned is) = is_poisoned is
signal-serves full poisoned pool v cell b rest rest' others takes c (is_owed is) = elim (any-takes (Owes c) takes is) [
  | inl mine ↦ elim (each_way (nat_eq cell c)) [
    | inl same ↦ is_full (has-back c full (cell ∷ []) (rw same refl))
    | inr other ↦ is_owed (any-back (Owes c) (wake cell v unchanged others) (spot (Runs v) (past_signal cell b rest) ∷ []) (inl (has-without c (cell ∷ []) b.signals mine (rw other refl))))
  ]
  | inr its ↦ is_owed (any-front (Owes c) (wake cell v unchanged others) (spot (Runs v) (past_signal cell b rest) ∷ []) (any-wake (Owes c) (owes-keeps c) cell v others its))
]

pub signal-served : (full : List ℕ) (poisoned : List (List ℕ)) (pool : List Spot) (v cell : ℕ) (b : Branch) (rest rest' : Script) (others : List Spot) → Takes pool (spot (Runs v) (record b { rest = rest' })) others
    → AllByRecursion (IsServed full poisoned pool) pool
    → AllByRecursion (IsServed (full ++ (cell ∷ [])) poisoned (wake cell v unchanged others ++ (spot (Runs v) (past_signal cell b rest) ∷ []))) (wake cell v unchanged others ++ (spot (Runs v) (past_signal cell b rest) ∷ []))
signal-served full poisoned pool v cell b rest rest' others takes all =
    let full' = full ++ (cell ∷ []) in
    let pool' = wake cell v unchanged others ++ (spot (Runs v) (past_signal cell b rest) ∷ []) in
    let serves = signal-serves full poisoned pool v cell b rest rest' others takes in
    each-append (IsServed full' poisoned pool') (wake cell v unchanged others) (spot (Runs v) (past_signal cell b rest) ∷ [])
    (wakes-served full poisoned pool full' poisoned pool' serves cell v others (takes-others (IsServed full poisoned pool) takes all))
    (still-served full poisoned pool full' poisoned pool' serves (spot (Runs v) (record b { rest = rest' })) (takes-one (IsServed full poisoned pool) takes all), tt)

-- an end
end-serves : (full : List ℕ) (poisoned : List (List ℕ)) (pool : List Spot) (v : ℕ) (b : Branch) (others : List Spot) (number : ℕ) (outcomes : Option (List Outcome)) → Takes pool (spot (Runs v) b) others
    → Serves full poisoned pool full (poisoned ++ (b.signals ∷ [])) (hold_if v number (poison b.signals v others) outcomes)
end-serves full poisoned pool v b others number outcomes takes c (is_full is) = is_full is
end-serves full poisoned pool v b others number outcomes takes c (is_poisoned is) = is_poisoned (has-in-front c poisoned (b.signals ∷ []) is)
end-serves full poisoned pool v b others number outcomes takes c (is_owed is) = elim (any-takes (Owes c) takes is) [
  | inl mine ↦ is_poisoned (has-in-last c poisoned b.signals mine)
  | inr its ↦ is_owed (any-hold (Owes c) (owes-keeps c) v number (poison b.signals v others) outcomes (any-poison (Owes c) (owes-keeps c) b.signals v others its))
]

pub end-served : (full : List ℕ) (poisoned : List (List ℕ)) (pool : List Spot) (v : ℕ) (b : Branch) (others : List Spot) (number : ℕ) (outcomes : Option (List Outcome)) → Takes pool (spot (Runs v) b) others
    → AllByRecursion (IsServed full poisoned pool) pool
    → AllByRecursion (IsServed full (poisoned ++ (b.signals ∷ [])) (hold_if v number (poison b.signals v others) outcomes)) (hold_if v number (poison b.signals v others) outcomes)
end-served full poisoned pool v b others number outcomes takes all =
    let poisoned' = poisoned ++ (b.signals ∷ []) in
    let pool' = hold_if v number (poison b.signals v others) outcomes in
    hold-served full poisoned' pool' v number (poison b.signals v others) outcomes
    (poison-served full poisoned' pool' b.signals v others
    (each-weaker (IsServed full poisoned pool) (IsServed full poisoned' pool') (still-served full poisoned pool full poisoned' pool' (end-serves full poisoned pool v b others number outcomes takes)) others
    (takes-others (IsServed full poisoned pool) takes all)))
