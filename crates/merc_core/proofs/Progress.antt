-- The event that `ready` names is accepted, and there is one until the outermost join is done.
use Rattle.std.proofs.Common.{◌≡◌, ℕ, zero, suc, ◌+◌, ◌≤◌, ◌<◌, inl, inr, Bool, true, false, List, [], ◌∷◌, Some, None, refl, ap, sym, ◌∙◌, subst, arith}
use Rattle.std.specs.Prelude.{Option, Ok, slice_get, if◌then◌else◌, nat_lt}
use Rattle.std.specs.List.{AllByRecursion, remove}
use Rattle.merc_script.specs.declared.outcome.Outcome.{Outcome}
use Rattle.merc_script.specs.Script.{Script, Ends, TickThen, WaitThen, SignalThen, ForkThen, Children, NoChild, Child, size, count}
use Rattle.merc_script.specs.Joining.{joined}
use Rattle.merc_core.specs.Outcomes.{with_first}
use Rattle.merc_core.specs.declared.event.Event.{Event}
use Rattle.merc_core.specs.declared.event.Event.TheVariants.{Tick, Fork, Pop, Signal, Wait, End, Resume}
use Rattle.merc_core.specs.Rights.{has, has_in}
use Rattle.merc_core.specs.World.{Branch, Location, Listed, Runs, Holds, AtCell, AtJoin, Spot, spot, Join, Stored, World, outcome, outermost, stored_at, gathered}
use Rattle.merc_core.specs.Events.{Answer, first_from, last_from, acts, acts_at, listed, listed_at, in_hand, back_of, tick_on, fork_on, signal_on, wait_at, wait_on, end_on, go_behind, running, happens}
use Rattle.merc_core.specs.Ready.{event_at, acting_at, acting, listed_for, waiting, or_else, unless_done, ready}
use Rattle.merc_core.specs.Laws.{GoesOn}
use Rattle.merc_core.proofs.Pool.{last-found, each-always, each-both}
use Rattle.merc_core.proofs.Steps.{put_back}
use Rattle.merc_core.proofs.TruthSteps.{is_same, test_same, has-holds}
use Rattle.merc_core.proofs.Anys.{any-weaker, any-with}
use Rattle.merc_core.proofs.Live.{AnyOf, Owes, InPlace, Served, is_full, is_poisoned, is_owed, InRange, BeforeIn, BehindIt, OnTime, IsServed, Stuck, Live}

-- finding

pub find-none : {A : Type 0} (test : A → Bool) (from : ℕ) (xs : List A) → AllByRecursion (λ x. test x ≡ false) xs → first_from from test xs ≡ None
find-none test from [] none = refl
find-none test from (x ∷ xs) none = rw none.0 (find-none test (from + 1) xs none.1)

-- the last that passes a test is found if there is one, or if one was found before
pub record IsFound {A : Type 0} (found : Option A) : Type 0 where
  pub one : A
  pub is : found ≡ Some one

find-last : {A : Type 0} (test : A → Bool) (from : ℕ) (found : Option ℕ) (xs : List A) → IsFound found → IsFound (last_from from found test xs)
find-last test from found [] is = is
find-last test from found (x ∷ xs) is = find-last test (from + 1) (if test x then Some from else found) xs (either (test x))
  where
    either : (b : Bool) → IsFound (if b then Some from else found)
    either true = record { one = from; is = refl }
    either false = is

pub find-some : (test : Spot → Bool) (from : ℕ) (found : Option ℕ) (xs : List Spot) → AnyOf (λ x. test x ≡ true) xs → IsFound (last_from from found test xs)
find-some test from found [] none = absurd none
find-some test from found (x ∷ xs) (inl here) = find-last test (from + 1) (if test x then Some from else found) xs (rw here (record { one = from; is = refl }))
find-some test from found (x ∷ xs) (inr later) = find-some test (from + 1) (if test x then Some from else found) xs later

-- a branch that a worker runs or holds, and its next event
pub data Acting : Spot → ℕ → Event → Type 0 where
  runs_it : (v : ℕ) (b : Branch) → Acting (spot (Runs v) b) v (event_at v b.rest)
  holds_it : (v number : ℕ) (b : Branch) → Acting (spot (Holds v number) b) v (Resume v)

-- the first of them is the first of its worker
pub record FirstActing (pool : List Spot) (from : ℕ) (e : Event) : Type 0 where
  pub index : ℕ
  pub worker : ℕ
  pub one : Spot
  pub first : first_from from (acts worker) pool ≡ Some (from + index)
  pub stands : slice_get pool index ≡ Some one
  pub acting_so : Acting one worker e

acting-now : (from v : ℕ) (x : Spot) (pool : List Spot) (e : Event) → Acting x v e → acts v x ≡ true → FirstActing (x ∷ pool) from e
acting-now from v x pool e is at = record { index = zero; worker = v; one = x; first = rw at (let k : from ≡ from + zero = omega arith in ap Some k); stands = refl; acting_so = is }

acting-later : (from : ℕ) (x : Spot) (pool : List Spot) (e : Event) → ((v : ℕ) → acts v x ≡ false) → FirstActing pool (from + 1) e → FirstActing (x ∷ pool) from e
acting-later from x pool e none found = record {
  index = suc found.index;
  worker = found.worker;
  one = found.one;
  first = rw (none found.worker) (found.first ∙ ap Some (omega arith));
  stands = found.stands;
  acting_so = found.acting_so;
}

acting-at : (from : ℕ) (location : Location) (b : Branch) (pool : List Spot) (e : Event) → acting_at location b.rest (acting pool) ≡ Some e
    → (acting pool ≡ Some e → FirstActing pool (from + 1) e) → FirstActing (spot location b ∷ pool) from e
acting-at from (Runs v) b pool e is next = let same : event_at v b.rest ≡ e = cc in subst (FirstActing (spot (Runs v) b ∷ pool) from) same (acting-now from v (spot (Runs v) b) pool (event_at v b.rest) (runs_it v b) (is_same v))
acting-at from (Holds v number) b pool e is next = let same : Resume v ≡ e = cc in subst (FirstActing (spot (Holds v number) b ∷ pool) from) same (acting-now from v (spot (Holds v number) b) pool (Resume v) (holds_it v number b) (is_same v))
acting-at from (Listed v) b pool e is next = acting-later from (spot (Listed v) b) pool e (λ u. refl) (next is)
acting-at from (AtCell cell) b pool e is next = acting-later from (spot (AtCell cell) b) pool e (λ u. refl) (next is)
acting-at from (AtJoin number) b pool e is next = acting-later from (spot (AtJoin number) b) pool e (λ u. refl) (next is)

pub acting-first : (from : ℕ) (pool : List Spot) (e : Event) → acting pool ≡ Some e → FirstActing pool from e
acting-first from [] e is = absurd (cc)
acting-first from (x ∷ pool) e is = acting-at from x.location x.branch pool e is (λ later. acting-first (from + 1) pool e later)

-- where no branch runs or is held, no worker acts
none-at : (location : Location) (b : Branch) (other : Option Event) (v : ℕ) → acting_at location b.rest other ≡ None → (acts_at v location ≡ false) × (other ≡ None)
none-at (Runs u) b other v is = absurd (cc)
none-at (Holds u number) b other v is = absurd (cc)
none-at (Listed u) b other v is = (refl, is)
none-at (AtCell cell) b other v is = (refl, is)
none-at (AtJoin number) b other v is = (refl, is)

none-act : (v : ℕ) (pool : List Spot) → acting pool ≡ None → AllByRecursion (λ x. acts v x ≡ false) pool
none-act v [] is = tt
none-act v (x ∷ pool) is = let first = none-at x.location x.branch (acting pool) v is in (first.0, none-act v pool first.1)

-- the first branch in a list is listed for the worker that pops it
listed-at : (location : Location) (b : Branch) (other : Option Event) (e : Event) (pool : List Spot) → listed_for location other ≡ Some e
    → (other ≡ Some e → (v : ℕ) × (e ≡ Pop v) × AnyOf (λ x. listed v x ≡ true) pool) → (v : ℕ) × (e ≡ Pop v) × AnyOf (λ x. listed v x ≡ true) (spot location b ∷ pool)
listed-at (Listed v) b other e pool is next = (v, cc, inl (is_same v))
listed-at (Runs v) b other e pool is next = let later = next is in (later.0, later.1, inr later.2)
listed-at (Holds v number) b other e pool is next = let later = next is in (later.0, later.1, inr later.2)
listed-at (AtCell cell) b other e pool is next = let later = next is in (later.0, later.1, inr later.2)
listed-at (AtJoin number) b other e pool is next = let later = next is in (later.0, later.1, inr later.2)

waiting-listed : (pool : List Spot) (e : Event) → waiting pool ≡ Some e → (v : ℕ) × (e ≡ Pop v) × AnyOf (λ x. listed v x ≡ true) pool
waiting-listed [] e is = absurd (cc)
waiting-listed (x ∷ pool) e is = listed-at x.location x.branch (waiting pool) e pool is (λ later. waiting-listed pool e later)

-- acceptance

pub record Accepted (w : World) (e : Event) : Type 0 where
  pub next : World
  pub is : happens w e ≡ Ok next

abbrev pub IsOk : Answer → Type 0
IsOk answer = (next : World) × (answer ≡ Ok next)

is-ok : (w : World) (e : Event) (answer : Answer) → happens w e ≡ answer → IsOk answer → Accepted w e
is-ok w e answer same ok = record { next = ok.0; is = same ∙ ok.1 }

wait-ok : (w : World) (v cell : ℕ) (b : Branch) (rest : Script) (others : List Spot) (full poisoned : Bool) → IsOk (wait_at w v cell rest b others full poisoned)
wait-ok w v cell b rest others true poisoned = (_, refl)
wait-ok w v cell b rest others false true = (_, refl)
wait-ok w v cell b rest others false false = (_, refl)

running-is : (w : World) (v : ℕ) (b : Branch) (others : List Spot) (go : Branch → List Spot → Answer) → nat_lt v w.workers ≡ true → in_hand v w.pool ≡ Some (spot (Runs v) b, others) → running w v go ≡ go b others
running-is w v b others go worker hand = rw (worker, hand)

pub runs-ok : (w : World) (v : ℕ) (b : Branch) (rest : Script) (others : List Spot) → nat_lt v w.workers ≡ true → in_hand v w.pool ≡ Some (spot (Runs v) (record b { rest = rest }), others) → Accepted w (event_at v rest)
runs-ok w v b (Ends o) others worker hand = is-ok w (End v) _ (running-is w v (record b { rest = Ends o }) others (λ b others. end_on w v b.rest b others) worker hand) (_, refl)
runs-ok w v b (TickThen rest) others worker hand = is-ok w (Tick v) _ (running-is w v (record b { rest = TickThen rest }) others (λ b others. tick_on w v b.rest b others) worker hand) (_, refl)
runs-ok w v b (WaitThen cell rest) others worker hand = is-ok w (Wait v) _ (running-is w v (record b { rest = WaitThen cell rest }) others (λ b others. wait_on w v b.rest b others) worker hand) (wait-ok w v cell (record b { rest = WaitThen cell rest }) rest others (has cell w.full) (has_in cell w.poisoned))
runs-ok w v b (SignalThen cell rest) others worker hand = is-ok w (Signal v) _ (running-is w v (record b { rest = SignalThen cell rest }) others (λ b others. signal_on w v b.rest b others) worker hand) (_, refl)
runs-ok w v b (ForkThen limit cells moves children rest) others worker hand = is-ok w (Fork v) _ (running-is w v (record b { rest = ForkThen limit cells moves children rest }) others (λ b others. fork_on w v b.rest b others) worker hand) (_, refl)

pub holds-ok : (w : World) (v number : ℕ) (b : Branch) (others : List Spot) → nat_lt v w.workers ≡ true → in_hand v w.pool ≡ Some (spot (Holds v number) b, others)
    → (join : Join) → slice_get w.joins number ≡ Some join → (os : List Outcome) → gathered w.stored number 1 join.children ≡ Some os → Accepted w (Resume v)
holds-ok w v number b others worker hand join is os all = record { next = put_back w (Runs v) (go_behind (joined join.limit os) b) others; is = rw (worker, hand, is, all) }

-- what is taken by a worker that acts
hand-is : (w : World) (e : Event) (found : FirstActing w.pool 0 e) → in_hand found.worker w.pool ≡ Some (found.one, remove w.pool found.index)
hand-is w e found =
    let first : first_from 0 (acts found.worker) w.pool ≡ Some found.index = found.first ∙ ap Some (omega arith) in
    rw (first, found.stands)

each-at : (Is : Spot → Type 0) (pool : List Spot) (index : ℕ) (x : Spot) → AllByRecursion Is pool → slice_get pool index ≡ Some x → Is x
each-at Is [] index x all is = absurd (cc)
each-at Is (y ∷ pool) zero x all is = let same : y ≡ x = cc in subst Is same all.0
each-at Is (y ∷ pool) (suc index) x all is = each-at Is pool index x all.1 is

-- parked at a cell or at a join
data Parks : Location → Type 0 where
  at_a_cell : (cell : ℕ) → Parks (AtCell cell)
  at_a_join : (number : ℕ) → Parks (AtJoin number)

pub size-some : (s : Script) → 1 ≤ size s
size-some (Ends o) = omega arith
size-some (TickThen rest) = omega arith
size-some (WaitThen cell rest) = omega arith
size-some (SignalThen cell rest) = omega arith
size-some (ForkThen limit cells moves children rest) = omega arith

-- a child from this one on whose outcome is not stored
record Missing (ss : List Stored) (number from : ℕ) (all : Children) : Type 0 where
  child : ℕ
  from_here : from ≤ child
  to_last : child < from + count all
  none : stored_at number child ss ≡ None

missing-or : (ss : List Stored) (number from : ℕ) (first : Script) (others : Children) (one : Option Outcome) (rest : Option (List Outcome)) → stored_at number from ss ≡ one → gathered ss number (suc from) others ≡ rest
    → with_first one rest ≡ None → (gathered ss number (suc from) others ≡ None → Missing ss number (suc from) others) → Missing ss number from (Child first others)
missing-or ss number from first others None rest e f is later = record { child = from; from_here = omega arith; to_last = omega arith; none = e }
missing-or ss number from first others (Some o) None e f is later =
    let found = later f in record { child = found.child; from_here = let k = found.from_here in omega arith; to_last = let k = found.to_last in omega arith; none = found.none }
missing-or ss number from first others (Some o) (Some os) e f is later = absurd (cc)

missing-from : (ss : List Stored) (number from : ℕ) (all : Children) → gathered ss number from all ≡ None → Missing ss number from all
missing-from ss number from NoChild is = absurd (cc)
missing-from ss number from (Child first others) is =
    missing-or ss number from first others (stored_at number from ss) (gathered ss number (suc from) others) refl refl is (λ none. missing-from ss number (suc from) others none)

module _ (due : ℕ → ℕ) (root : Script) (w : World) (live : Live due root w) where
  acts-ok : (x : Spot) (v : ℕ) (e : Event) (others : List Spot) → Acting x v e → in_hand v w.pool ≡ Some (x, others) → OnTime due w.workers w.joins x → Stuck w.full w.poisoned w.joins w.stored x → Accepted w e
  acts-ok _ _ _ others (runs_it v b) hand time stuck = runs-ok w v b b.rest others time.in_range hand
  acts-ok _ _ _ others (holds_it v number b) hand time stuck = holds-ok w v number b others time.in_range hand stuck.0 stuck.2 stuck.1 stuck.3

  acting-ok : (e : Event) → acting w.pool ≡ Some e → Accepted w e
  acting-ok e is =
      let found = acting-first 0 w.pool e is in
      acts-ok found.one found.worker e (remove w.pool found.index) found.acting_so (hand-is w e found)
      (each-at (OnTime due w.workers w.joins) w.pool found.index found.one live.on_time found.stands)
      (each-at (Stuck w.full w.poisoned w.joins w.stored) w.pool found.index found.one live.stuck found.stands)

  listed-worker : (v : ℕ) (location : Location) (b : Branch) → listed_at v location ≡ true → InRange w.workers location → nat_lt v w.workers ≡ true
  listed-worker v (Listed u) b is range = subst (λ (k : ℕ). nat_lt k w.workers ≡ true) (test_same u v is) range
  listed-worker v (Runs u) b is range = absurd (cc)
  listed-worker v (Holds u number) b is range = absurd (cc)
  listed-worker v (AtCell cell) b is range = absurd (cc)
  listed-worker v (AtJoin number) b is range = absurd (cc)

  any-worker : (v : ℕ) (pool : List Spot) → AnyOf (λ x. listed v x ≡ true) pool → AllByRecursion (OnTime due w.workers w.joins) pool → nat_lt v w.workers ≡ true
  any-worker v [] any all = absurd any
  any-worker v (x ∷ pool) (inl here) all = listed-worker v x.location x.branch here all.0.in_range
  any-worker v (x ∷ pool) (inr later) all = any-worker v pool later all.1

  pop-ok : (v : ℕ) → acting w.pool ≡ None → nat_lt v w.workers ≡ true → AnyOf (λ x. listed v x ≡ true) w.pool → Accepted w (Pop v)
  pop-ok v none worker any =
      let found = find-some (listed v) 0 None w.pool any in
      let free : in_hand v w.pool ≡ None = rw (find-none (acts v) 0 w.pool (none-act v w.pool none)) in
      elim (last-found (listed v) 0 found.one None w.pool found.is) [
        | inl nothing ↦ absurd (cc)
        | inr at ↦
            let place : found.one ≡ at.index = let e = at.is in omega arith in
            let stands : slice_get w.pool found.one ≡ Some at.one = rw place at.stands in
            let back : back_of v w.pool ≡ Some (at.one, remove w.pool found.one) = rw (found.is, stands) in
            record { next = put_back w (Runs v) at.one.branch (remove w.pool found.one); is = rw (worker, free, back) }
      ]

  waiting-ok : (e : Event) → acting w.pool ≡ None → waiting w.pool ≡ Some e → Accepted w e
  waiting-ok e none is =
      let found = waiting-listed w.pool e is in
      subst (Accepted w) (sym found.1) (pop-ok found.0 none (any-worker found.0 w.pool found.2 live.on_time) found.2)

  either-ok : (e : Event) (one other : Option Event) → acting w.pool ≡ one → waiting w.pool ≡ other → or_else one other ≡ Some e → Accepted w e
  either-ok e None other none some is = waiting-ok e none (some ∙ is)
  either-ok e (Some x) other some none is = acting-ok e (some ∙ is)

  unless-ok : (e : Event) (done : Option Outcome) → unless_done done (or_else (acting w.pool) (waiting w.pool)) ≡ Some e → Accepted w e
  unless-ok e None is = either-ok e (acting w.pool) (waiting w.pool) refl refl is
  unless-ok e (Some o) is = absurd (cc)

  -- the event that `ready` names is accepted
  pub ready-accepted : (e : Event) → ready w ≡ Some e → Accepted w e
  ready-accepted e is = unless-ok e (outcome w) is

  -- there is one

  parked-at : (location : Location) (rest : Script) (other more : Option Event) → acting_at location rest other ≡ None → listed_for location more ≡ None → Parks location × (other ≡ None) × (more ≡ None)
  parked-at (AtCell cell) rest other more none nothing = (at_a_cell cell, none, nothing)
  parked-at (AtJoin number) rest other more none nothing = (at_a_join number, none, nothing)
  parked-at (Runs v) rest other more none nothing = absurd (cc)
  parked-at (Holds v number) rest other more none nothing = absurd (cc)
  parked-at (Listed v) rest other more none nothing = absurd (cc)

  all-parked : (pool : List Spot) → acting pool ≡ None → waiting pool ≡ None → AllByRecursion (λ x. Parks x.location) pool
  all-parked [] none nothing = tt
  all-parked (x ∷ pool) none nothing = let at = parked-at x.location x.branch.rest (acting pool) (waiting pool) none nothing in (at.0, all-parked pool at.1 at.2)

  -- some branch comes before a place
  abbrev Before : ℕ → Type 0
  Before at = AnyOf (λ y. y.branch.at < at) w.pool

  before-served : (cell at : ℕ) → Served w.full w.poisoned w.pool cell → has cell w.full ≡ false → has_in cell w.poisoned ≡ false → due cell ≤ at → Before at
  before-served cell at (is_full full) not-full not-poisoned before = absurd (cc)
  before-served cell at (is_poisoned poisoned) not-full not-poisoned before = absurd (cc)
  before-served cell at (is_owed owed) not-full not-poisoned before =
      any-weaker (Owes cell) (OnTime due w.workers w.joins) (λ y. y.branch.at < at)
      (λ y owes time. let behind = has-holds (λ c. y.branch.at + size y.branch.rest ≤ due c) cell y.branch.signals time.owes_behind owes in let some = size-some y.branch.rest in omega arith)
      w.pool owed live.on_time

  ends-in : (number at : ℕ) (join : Option Join) (y : Spot) → BehindIt at join → BeforeIn (y.branch.at + size y.branch.rest) join → y.branch.at < at
  ends-in number at None y behind before = absurd behind
  ends-in number at (Some join) y behind before = let some = size-some y.branch.rest in omega arith

  in-place : (number child at : ℕ) (y : Spot) → BehindIt at (slice_get w.joins number) → InPlace number child y → OnTime due w.workers w.joins y → y.branch.at < at
  in-place number child at y behind in-place' time =
      ends-in number at (slice_get w.joins number) y behind (subst (λ (k : ℕ). BeforeIn (y.branch.at + size y.branch.rest) (slice_get w.joins k)) in-place'.0 time.ends_before)

  before-join : (number at : ℕ) (join : Join) → slice_get w.joins number ≡ Some join → gathered w.stored number 1 join.children ≡ None → BehindIt at (slice_get w.joins number) → Before at
  before-join number at join is none behind =
      let missing = missing-from w.stored number 1 join.children none in
      any-weaker (InPlace number missing.child) (OnTime due w.workers w.joins) (λ y. y.branch.at < at) (λ y in-place' time. in-place number missing.child at y behind in-place' time)
      w.pool (live.placed number missing.child join is missing.from_here (let k = missing.to_last in omega arith) missing.none) live.on_time

  before-parked : (location : Location) (b : Branch) → Parks location → OnTime due w.workers w.joins (spot location b) → IsServed w.full w.poisoned w.pool (spot location b)
      → Stuck w.full w.poisoned w.joins w.stored (spot location b) → Before b.at
  before-parked _ b (at_a_cell cell) time served stuck = before-served cell b.at served.0 stuck.0 stuck.1 time.needs_before.0
  before-parked _ b (at_a_join number) time served stuck = before-join number b.at stuck.0 stuck.1 stuck.2 time.begins

  no-branch : AllByRecursion (λ x. Parks x.location) w.pool → (at : ℕ) → Before at → ⊥
  no-branch parked zero before = any-with (λ y. y.branch.at < 0) (λ x. Parks x.location) ⊥ (λ x less parks. absurd (omega arith)) w.pool before parked
  no-branch parked (suc at) before =
      any-with (λ y. y.branch.at < suc at) (λ x. Parks x.location × (OnTime due w.workers w.joins x × (IsServed w.full w.poisoned w.pool x × Stuck w.full w.poisoned w.joins w.stored x))) ⊥
      (λ x less is. no-branch parked at (any-weaker (λ y. y.branch.at < x.branch.at) (λ y. Unit {0}) (λ y. y.branch.at < at) (λ y less' _. omega arith) w.pool
      (before-parked x.location x.branch is.0 is.1.0 is.1.1.0 is.1.1.1) (each-always (λ y. Unit {0}) (λ y. tt) w.pool)))
      w.pool before
      (each-both _ _ w.pool parked (each-both _ _ w.pool live.on_time (each-both _ _ w.pool live.served live.stuck)))

  -- the root's branch, or one that comes before it
  some-branch : outcome w ≡ None → Before (suc (size root))
  some-branch none = before-join 0 (suc (size root)) (outermost root) live.outermost_is (rw none) (rw live.outermost_is (omega arith))

  either-there : outcome w ≡ None → (one other : Option Event) → acting w.pool ≡ one → waiting w.pool ≡ other → IsFound (or_else one other)
  either-there none None None e f = absurd (no-branch (all-parked w.pool e f) (suc (size root)) (some-branch none))
  either-there none None (Some x) e f = record { one = x; is = refl }
  either-there none (Some x) other e f = record { one = x; is = refl }

  pub ready-there : outcome w ≡ None → IsFound (ready w)
  ready-there none = rw none (either-there none (acting w.pool) (waiting w.pool) refl refl)

  pub goes-on : outcome w ≡ None → GoesOn w
  goes-on none = let there = ready-there none in let accepted = ready-accepted there.one there.is in record { event = there.one; next = accepted.next; accepted = accepted.is }
