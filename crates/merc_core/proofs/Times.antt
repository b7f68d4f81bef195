-- Each branch comes behind what it needs and before where what it owes is due: each event keeps this.
use Rattle.std.proofs.Common.{◌≡◌, ℕ, suc, ◌+◌, ◌≤◌, Bool, true, false, not, List, [], ◌∷◌, ◌++◌, Some, None, refl, sym, subst, arith}
use Rattle.std.specs.Prelude.{Option, slice_get, if◌then◌else◌, nat_lt, filter, map}
use Rattle.std.specs.List.{AllByRecursion}
use Rattle.merc_script.specs.declared.outcome.Outcome.{Outcome}
use Rattle.merc_script.specs.declared.outcome.Outcome.TheVariants.{Ok as Fine, Raise, Limit, Starved, NoMemory}
use Rattle.merc_script.specs.Script.{Script, Ends, size}
use Rattle.merc_core.specs.World.{Branch, Location, Listed, Runs, Holds, AtCell, AtJoin, Spot, spot, Join}
use Rattle.merc_core.specs.Events.{parked, parked_at, awaits, ended, go_behind, woken, wake, unchanged, poison, hold_one, hold_if}
use Rattle.merc_core.proofs.Pool.{each-append, each-filter, each-mapped, each-changed, each-weaker}
use Rattle.merc_core.proofs.TruthSteps.{grown}
use Rattle.merc_core.proofs.Live.{Timed, needs, InRange, BeforeIn, BehindIt, Begins, Timely, OnTime}
use Rattle.merc_core.proofs.Progress.{size-some}

pub before-less : (most at : ℕ) (join : Option Join) → at ≤ most → BeforeIn most join → BeforeIn at join
before-less most at None less before = before
before-less most at (Some join) less before = omega arith

begins-grown : (joins more : List Join) (at : ℕ) (location : Location) → Begins joins at location → Begins (joins ++ more) at location
begins-grown joins more at (AtJoin number) begins = grown (BehindIt at) (λ none. none) joins more number begins
begins-grown joins more at (Holds v number) begins = tt
begins-grown joins more at (Listed v) begins = tt
begins-grown joins more at (Runs v) begins = tt
begins-grown joins more at (AtCell cell) begins = tt

module _ (due : ℕ → ℕ) (workers : ℕ) where
  abbrev Times : List Join → Location → ℕ → ℕ → List ℕ → List ℕ → Script → Type 0
  Times = Timely due workers

  abbrev Timeous : List Join → Spot → Type 0
  Timeous = OnTime due workers

  pub time-grown : (joins more : List Join) (x : Spot) → Timeous joins x → Timeous (joins ++ more) x
  time-grown joins more x time = record {
    in_range = time.in_range;
    needs_before = time.needs_before;
    owes_behind = time.owes_behind;
    ends_before = grown (BeforeIn (x.branch.at + size x.branch.rest)) (λ none. none) joins more x.branch.join time.ends_before;
    begins = begins-grown joins more x.branch.at x.location time.begins;
    timed = time.timed;
  }

  -- a script that ends early
  pub time-ended : (joins : List Join) (location : Location) (join at : ℕ) (owed waits : List ℕ) (rest : Script) (o : Outcome) → Times joins location join at owed waits rest → Times joins location join at owed waits (Ends o)
  time-ended joins location join at owed waits rest o time =
      let some = size-some rest in
      record {
        in_range = time.in_range;
        needs_before = time.needs_before;
        owes_behind = each-weaker (λ cell. at + size rest ≤ due cell) (λ cell. at + 1 ≤ due cell) (λ cell less. omega arith) owed time.owes_behind;
        ends_before = before-less (at + size rest) (at + 1) (slice_get joins join) (omega arith) time.ends_before;
        begins = time.begins;
        timed = tt;
      }

  -- a branch that may be listed, run or held
  pub time-acts : (joins : List Join) (to : Location) (join at : ℕ) (owed waits : List ℕ) (rest : Script) (from : Location) → InRange workers to → needs to waits ≡ waits → Begins joins at to
      → Times joins from join at owed waits rest → Times joins to join at owed waits rest
  time-acts joins to join at owed waits rest from range same begins time = record {
    in_range = range;
    needs_before = subst (AllByRecursion (λ cell. due cell ≤ at)) (sym same) (its-waits from time.needs_before);
    owes_behind = time.owes_behind;
    ends_before = time.ends_before;
    begins = begins;
    timed = time.timed;
  }
    where
      its-waits : (location : Location) → AllByRecursion (λ cell. due cell ≤ at) (needs location waits) → AllByRecursion (λ cell. due cell ≤ at) waits
      its-waits (AtCell cell) all = all.1
      its-waits (Listed v) all = all
      its-waits (Runs v) all = all
      its-waits (Holds v number) all = all
      its-waits (AtJoin number) all = all

  -- past an item
  pub time-past : (joins : List Join) (to : Location) (v join at : ℕ) (owed owed' waits waits' : List ℕ) (item rest : Script) → size item ≡ suc (size rest) → (Timed due at item → Timed due (suc at) rest)
      → InRange workers to → Begins joins (suc at) to
      → ((Is : ℕ → Type 0) → AllByRecursion Is owed → AllByRecursion Is owed') → ((Is : ℕ → Type 0) → AllByRecursion Is waits → AllByRecursion Is (needs to waits'))
      → Times joins (Runs v) join at owed waits item → Times joins to join (suc at) owed' waits' rest
  time-past joins to v join at owed owed' waits waits' item rest same timed range begins fewer fewer' time = record {
    in_range = range;
    needs_before = fewer' (λ cell. due cell ≤ suc at) (each-weaker (λ cell. due cell ≤ at) (λ cell. due cell ≤ suc at) (λ cell less. omega arith) waits time.needs_before);
    owes_behind = fewer (λ cell. suc at + size rest ≤ due cell) (each-weaker (λ cell. at + size item ≤ due cell) (λ cell. suc at + size rest ≤ due cell) (λ cell less. omega arith) owed time.owes_behind);
    ends_before = before-less (at + size item) (suc at + size rest) (slice_get joins join) (omega arith) time.ends_before;
    begins = begins;
    timed = timed time.timed;
  }

  -- waking

  woken-time : (joins : List Join) (v cell : ℕ) (location : Location) (b : Branch) → nat_lt v workers ≡ true → parked_at cell location ≡ true → Timeous joins (spot location b) → Timeous joins (spot (Listed v) b)
  woken-time joins v cell location b worker is time = time-acts joins (Listed v) b.join b.at b.signals b.waits b.rest location worker refl tt time

  pub wakes-time : (joins : List Join) (v cell : ℕ) (xs : List Spot) → nat_lt v workers ≡ true → AllByRecursion (Timeous joins) xs → AllByRecursion (Timeous joins) (wake cell v unchanged xs)
  wakes-time joins v cell xs worker all = each-append (Timeous joins) (filter (λ x. not (parked cell x)) xs) (map (woken v unchanged) (filter (parked cell) xs))
      (each-filter (Timeous joins) (λ x. not (parked cell x)) xs all)
      (each-changed (Timeous joins) (Timeous joins) (parked cell) (woken v unchanged) (λ x is time. woken-time joins v cell x.location x.branch worker is time) xs all)

  starves-time : (joins : List Join) (v cell : ℕ) (xs : List Spot) → nat_lt v workers ≡ true → AllByRecursion (Timeous joins) xs → AllByRecursion (Timeous joins) (wake cell v (ended Starved) xs)
  starves-time joins v cell xs worker all = each-append (Timeous joins) (filter (λ x. not (parked cell x)) xs) (map (woken v (ended Starved)) (filter (parked cell) xs))
      (each-filter (Timeous joins) (λ x. not (parked cell x)) xs all)
      (each-changed (Timeous joins) (Timeous joins) (parked cell) (woken v (ended Starved))
      (λ x is time. time-ended joins (Listed v) x.branch.join x.branch.at x.branch.signals x.branch.waits x.branch.rest Starved (woken-time joins v cell x.location x.branch worker is time)) xs all)

  pub poisons-time : (joins : List Join) (v : ℕ) (cells : List ℕ) (xs : List Spot) → nat_lt v workers ≡ true → AllByRecursion (Timeous joins) xs → AllByRecursion (Timeous joins) (poison cells v xs)
  poisons-time joins v [] xs worker all = all
  poisons-time joins v (cell ∷ cells) xs worker all = poisons-time joins v cells (wake cell v (ended Starved) xs) worker (starves-time joins v cell xs worker all)

  held-time : (joins : List Join) (v number : ℕ) (x : Spot) (at : Bool) → nat_lt v workers ≡ true → Timeous joins x → Timeous joins (if at then spot (Holds v number) x.branch else x)
  held-time joins v number x true worker time = time-acts joins (Holds v number) x.branch.join x.branch.at x.branch.signals x.branch.waits x.branch.rest x.location worker refl tt time
  held-time joins v number x false worker time = time

  pub holds-time : (joins : List Join) (v number : ℕ) (xs : List Spot) (outcomes : Option (List Outcome)) → nat_lt v workers ≡ true → AllByRecursion (Timeous joins) xs → AllByRecursion (Timeous joins) (hold_if v number xs outcomes)
  holds-time joins v number xs None worker all = all
  holds-time joins v number xs (Some outcomes) worker all = each-mapped (Timeous joins) (Timeous joins) (hold_one v number) (λ x time. held-time joins v number x (awaits number x) worker time) xs all

  -- a parent goes on
  pub behind-time : (joins : List Join) (v number : ℕ) (b : Branch) (o : Outcome) → nat_lt v workers ≡ true → Timeous joins (spot (Holds v number) b) → Timeous joins (spot (Runs v) (go_behind o b))
  behind-time joins v number b (Fine u) worker time = time-acts joins (Runs v) b.join b.at b.signals b.waits b.rest (Holds v number) worker refl tt time
  behind-time joins v number b (Raise e n) worker time = time-ended joins (Runs v) b.join b.at b.signals b.waits b.rest _ (time-acts joins (Runs v) b.join b.at b.signals b.waits b.rest (Holds v number) worker refl tt time)
  behind-time joins v number b Limit worker time = time-ended joins (Runs v) b.join b.at b.signals b.waits b.rest _ (time-acts joins (Runs v) b.join b.at b.signals b.waits b.rest (Holds v number) worker refl tt time)
  behind-time joins v number b Starved worker time = time-ended joins (Runs v) b.join b.at b.signals b.waits b.rest _ (time-acts joins (Runs v) b.join b.at b.signals b.waits b.rest (Holds v number) worker refl tt time)
  behind-time joins v number b NoMemory worker time = time-ended joins (Runs v) b.join b.at b.signals b.waits b.rest _ (time-acts joins (Runs v) b.join b.at b.signals b.waits b.rest (Holds v number) worker refl tt time)
