-- In a well-formed script one branch at most waits for a cell: the right to wait for it is held once, and given out by one Fork.
use Rattle.std.proofs.Common.{◌≡◌, ℕ, suc, ◌+◌, ◌≤◌, ◌<◌, inl, inr, Bool, true, false, not, List, [], ◌∷◌, ◌++◌, Some, None, refl, ap, arith, length}
use Rattle.std.specs.Prelude.{Option, slice_get, if◌then◌else◌, nat_eq, filter, map, ◌&&◌, ◌||◌}
use Rattle.std.specs.List.{AllByRecursion}
use Rattle.merc_value.specs.Value.{Value}
use Rattle.merc_script.specs.declared.outcome.Outcome.{Outcome}
use Rattle.merc_script.specs.declared.outcome.Outcome.TheVariants.{Ok as Fine, Raise, Limit, Starved, NoMemory}
use Rattle.merc_script.specs.declared.cells.Move.{Move}
use Rattle.merc_script.specs.Script.{Script, TickThen, WaitThen, ForkThen, Children, NoChild, Child, Cell, size, count}
use Rattle.merc_script.specs.Joining.{joined}
use Rattle.merc_core.specs.declared.event.Event.{Event}
use Rattle.merc_core.specs.Rights.{has, without, numbers_of, used_by, is_kind, moved, moved_to}
use Rattle.merc_core.specs.World.{Branch, Location, Listed, Runs, Holds, AtCell, AtJoin, Spot, spot, World, start, outcomes_of}
use Rattle.merc_core.specs.Events.{parked, parked_at, awaits, past_tick, past_signal, past_wait, ended, go_behind, spawned, listed_backwards, placed, parent_behind, woken, wake, unchanged, poison, hold_one, hold_if, forked, stored_with}
use Rattle.merc_core.specs.WellFormed.{AreDistinct, Formed, MoveFits, WellFormed, cells_of, cells_in, value_in}
use Rattle.merc_core.specs.Laws.{LeadsTo, EachWaiter}
use Rattle.merc_core.proofs.Pool.{Takes, each_way, each-always}
use Rattle.merc_core.proofs.Steps.{
  with_rest,
  put_back,
  Step,
  ticked,
  forks,
  signals as signals_it,
  passes,
  starves,
  parks,
  finishes,
  takes_up,
  resumes,
  run-keeps,
}
use Rattle.merc_core.proofs.Truth.{Truth, truth-start}
use Rattle.merc_core.proofs.TruthSteps.{truth-step, MayLose, test_same}
use Rattle.merc_core.proofs.Losses.{Excused, Spoiled, excuses, lost-may}
use Rattle.merc_core.proofs.Measure.{total, total-takes, total-append, total-back, total-changed, total-mapped}
use Rattle.merc_core.proofs.Anys.{any-with, from-among}
use Rattle.merc_core.proofs.Single.{one_if, total-passing}
use Rattle.merc_core.proofs.LiveSteps.{formed-at}

-- how often a number stands in a list

abbrev times : ℕ → List ℕ → ℕ
times c [] = 0
times c (x ∷ xs) = one_if (nat_eq x c) + times c xs

times-append : (c : ℕ) (xs ys : List ℕ) → times c (xs ++ ys) ≡ times c xs + times c ys
times-append c [] ys = omega arith
times-append c (x ∷ xs) ys = let k = times-append c xs ys in omega arith

numbers-append : (c : ℕ) (xs ys : List Cell) → times c (numbers_of (xs ++ ys)) ≡ times c (numbers_of xs) + times c (numbers_of ys)
numbers-append c [] ys = omega arith
numbers-append c (x ∷ xs) ys = let k = numbers-append c xs ys in omega arith

times-none : (c : ℕ) (xs : List ℕ) → has c xs ≡ false → times c xs ≡ 0
times-none c [] none = refl
times-none c (x ∷ xs) none = by-test (nat_eq x c) none (times-none c xs)
  where
    by-test : (at : Bool) → (at || has c xs) ≡ false → (has c xs ≡ false → times c xs ≡ 0) → one_if at + times c xs ≡ 0
    by-test true none' later = absurd (cc)
    by-test false none' later = let k = later none' in omega arith

times-some : (c : ℕ) (xs : List ℕ) → has c xs ≡ true → 1 ≤ times c xs
times-some c [] is = absurd (cc)
times-some c (x ∷ xs) is = by-test (nat_eq x c) is (times-some c xs)
  where
    by-test : (at : Bool) → (at || has c xs) ≡ true → (has c xs ≡ true → 1 ≤ times c xs) → 1 ≤ one_if at + times c xs
    by-test true is' later = omega arith
    by-test false is' later = let k = later is' in omega arith

times-distinct : (c : ℕ) (xs : List ℕ) → AreDistinct xs → times c xs ≤ 1
times-distinct c [] distinct = omega arith
times-distinct c (x ∷ xs) distinct = elim (each_way (nat_eq x c)) [
  | inl same ↦
      let is = test_same x c same in
      let none = times-none c xs (rw (← is) distinct.0) in
      let one : one_if (nat_eq x c) ≡ 1 = rw same refl in omega arith
  | inr other ↦ let k = times-distinct c xs distinct.1 in let none : one_if (nat_eq x c) ≡ 0 = rw other refl in omega arith
]

times-kept : (c : ℕ) (gone xs : List ℕ) → times c (without gone xs) ≤ times c xs
times-kept c gone [] = omega arith
times-kept c gone (x ∷ xs) = by-test (has x gone) (times-kept c gone xs)
  where
    by-test : (at : Bool) → times c (without gone xs) ≤ times c xs → times c (if not at then x ∷ without gone xs else without gone xs) ≤ one_if (nat_eq x c) + times c xs
    by-test true less = omega arith
    by-test false less = omega arith

times-gone : (c : ℕ) (gone xs : List ℕ) → has c gone ≡ true → times c (without gone xs) ≡ 0
times-gone c gone [] is = refl
times-gone c gone (x ∷ xs) is = elim (each_way (has x gone)) [
  | inl away ↦ rw away (times-gone c gone xs is)
  | inr kept ↦
      let k = times-gone c gone xs is in
      let apart : nat_eq x c ≡ false = elim (each_way (nat_eq x c)) [
        | inl same ↦ absurd (let e = test_same x c same in let there : has x gone ≡ true = rw e is in cc)
        | inr other ↦ other
      ] in
      rw (kept, apart) (omega arith)
]

-- Items of a list that go to one child each: all children together are given none twice.

module _ {A : Type 0} (number : A → ℕ) (goes : ℕ → A → Bool) (test : A → Bool) (one-child : (j k : ℕ) (x : A) → goes j x ≡ true → goes k x ≡ true → j ≡ k) (passes' : (k : ℕ) (x : A) → goes k x ≡ true → test x ≡ true) (c : ℕ) where
  abbrev given : ℕ → List A → ℕ
  given k xs = times c (map number (filter (goes k) xs))

  abbrev given_all : ℕ → Children → List A → ℕ
  given_all from NoChild xs = 0
  given_all from (Child first others) xs = given from xs + given_all (suc from) others xs

  abbrev here : ℕ → A → ℕ
  here k x = if goes k x then one_if (nat_eq (number x) c) else 0

  abbrev here_all : ℕ → Children → A → ℕ
  here_all from NoChild x = 0
  here_all from (Child first others) x = here from x + here_all (suc from) others x

  given-more : (k : ℕ) (x : A) (xs : List A) → given k (x ∷ xs) ≡ here k x + given k xs
  given-more k x xs = by-test (goes k x)
    where
      by-test : (at : Bool) → times c (map number (if at then x ∷ filter (goes k) xs else filter (goes k) xs)) ≡ (if at then one_if (nat_eq (number x) c) else 0) + given k xs
      by-test true = refl
      by-test false = omega arith

  all-more : (from : ℕ) (all : Children) (x : A) (xs : List A) → given_all from all (x ∷ xs) ≡ here_all from all x + given_all from all xs
  all-more from NoChild x xs = omega arith
  all-more from (Child first others) x xs = let k = all-more (suc from) others x xs in let m = given-more from x xs in omega arith

  all-none : (from : ℕ) (all : Children) → given_all from all [] ≡ 0
  all-none from NoChild = refl
  all-none from (Child first others) = let k = all-none (suc from) others in omega arith

  -- behind the child to which it goes there is no other
  none-behind : (k from : ℕ) (all : Children) (x : A) → goes k x ≡ true → k < from → here_all from all x ≡ 0
  none-behind k from NoChild x is less = refl
  none-behind k from (Child first others) x is less =
      let later = none-behind k (suc from) others x is (omega arith) in
      let apart : goes from x ≡ false = elim (each_way (goes from x)) [
        | inl also ↦ absurd (let same = one-child k from x is also in omega arith)
        | inr not-so ↦ not-so
      ] in
      rw apart (omega arith)

  once : (from : ℕ) (all : Children) (x : A) → here_all from all x ≤ (if test x then one_if (nat_eq (number x) c) else 0)
  once from NoChild x = omega arith
  once from (Child first others) x = elim (each_way (goes from x)) [
    | inl is ↦ let none = none-behind from (suc from) others x is (omega arith) in rw (is, passes' from x is) (omega arith)
    | inr isnt ↦ let k = once (suc from) others x in rw isnt (omega arith)
  ]

  pub given-once : (from : ℕ) (all : Children) (xs : List A) → given_all from all xs ≤ times c (map number (filter test xs))
  given-once from all [] = let k = all-none from all in omega arith
  given-once from all (x ∷ xs) =
      let k = given-once from all xs in let m = all-more from all x xs in let o = once from all x in
      let t = by-test (test x) in omega arith
    where
      by-test : (at : Bool) → times c (map number (if at then x ∷ filter test xs else filter test xs)) ≡ (if at then one_if (nat_eq (number x) c) else 0) + times c (map number (filter test xs))
      by-test true = refl
      by-test false = omega arith

filter-all : {A : Type 0} (xs : List A) → filter (λ x. true) xs ≡ xs
filter-all [] = refl
filter-all (x ∷ xs) = ap (λ (ys : List _). x ∷ ys) (filter-all xs)

both-true : (a b : Bool) → (a && b) ≡ true → (a ≡ true) × (b ≡ true)
both-true true b is = (refl, is)
both-true false b is = absurd (cc)

module _ (c : ℕ) where
  -- cells go to their consumers, 0 being the parent
  abbrev used : ℕ → Children → List Cell → ℕ
  used = given_all (λ one. one.cell) (λ k one. nat_eq one.consumer k) (λ one. true)
      (λ j k one is also. let e = test_same one.consumer j is in let f = test_same one.consumer k also in omega arith) (λ k one is. refl) c

  used-once : (rest : Script) (all : Children) (cells : List Cell) → times c (used_by 0 cells) + used 1 all cells ≤ times c (numbers_of cells)
  used-once rest all cells =
      let k = given-once (λ one. one.cell) (λ k one. nat_eq one.consumer k) (λ one. true)
      (λ j k one is also. let e = test_same one.consumer j is in let f = test_same one.consumer k also in omega arith) (λ k one is. refl) c 0 (Child rest all) cells in
      let same : times c (map (λ one. one.cell) (filter (λ one. true) cells)) ≡ times c (numbers_of cells) = ap (λ (xs : List Cell). times c (numbers_of xs)) (filter-all cells) in
      omega arith

  -- rights to wait go to the children into which they move
  abbrev gone : ℕ → Children → List Move → ℕ
  gone = given_all (λ one. one.cell) (λ k one. nat_eq one.child k && is_kind false one) (is_kind false)
      (λ j k one is also. let e = test_same one.child j (both-true (nat_eq one.child j) (is_kind false one) is).0 in let f = test_same one.child k (both-true (nat_eq one.child k) (is_kind false one) also).0 in omega arith)
      (λ k one is. (both-true (nat_eq one.child k) (is_kind false one) is).1) c

  gone-once : (all : Children) (moves : List Move) → gone 1 all moves ≤ times c (moved false moves)
  gone-once all moves = given-once (λ one. one.cell) (λ k one. nat_eq one.child k && is_kind false one) (is_kind false)
      (λ j k one is also. let e = test_same one.child j (both-true (nat_eq one.child j) (is_kind false one) is).0 in let f = test_same one.child k (both-true (nat_eq one.child k) (is_kind false one) also).0 in omega arith)
      (λ k one is. (both-true (nat_eq one.child k) (is_kind false one) is).1) c 1 all moves

  -- how often a branch may wait for a cell, waits for it, or may come to give it out
  abbrev rights : Branch → ℕ
  rights b = times c b.waits + times c (numbers_of (cells_of b.rest))

  abbrev claims : Spot → ℕ
  claims x = rights x.branch + one_if (parked c x)

  -- the children of a Fork

  abbrev all_rights : List Branch → ℕ
  all_rights [] = 0
  all_rights (kid ∷ kids) = rights kid + all_rights kids

  kids-rights : (number : ℕ) (b : Branch) (cells : List Cell) (moves : List Move) (from at : ℕ) (all : Children)
      → all_rights (spawned number b cells moves from at all) ≡ used from all cells + gone from all moves + times c (numbers_of (cells_in all))
  kids-rights number b cells moves from at NoChild = omega arith
  kids-rights number b cells moves from at (Child first others) =
      let k = kids-rights number b cells moves (suc from) (at + size first) others in
      let w = times-append c (used_by from cells) (moved_to from false moves) in
      let n = numbers-append c (cells_of first) (cells_in others) in omega arith

  backwards-claims : (v : ℕ) (kids : List Branch) → total claims (listed_backwards v kids) ≡ all_rights kids
  backwards-claims v [] = refl
  backwards-claims v (kid ∷ kids) = let k = backwards-claims v kids in let m = total-back claims (listed_backwards v kids) (spot (Listed v) kid) in omega arith

  placed-claims : (v : ℕ) (kids : List Branch) → total claims (placed v kids) ≡ all_rights kids
  placed-claims v [] = refl
  placed-claims v (kid ∷ kids) = let k = backwards-claims v kids in omega arith

  -- what moves was held
  not-true : (at : Bool) → not at ≡ true → at ≡ false
  not-true true is = absurd (cc)
  not-true false is = refl

  moved-held : (n : ℕ) (had may : List ℕ) (moves : List Move) → AllByRecursion (MoveFits n had may) moves → has c (moved false moves) ≡ true → has c may ≡ true
  moved-held n had may moves fits is =
      any-with (λ m. (m.cell ≡ c) × (is_kind false m ≡ true)) (MoveFits n had may) (has c may ≡ true)
      (λ m which fit. let none : m.signal ≡ false = not-true m.signal which.1 in let held : has m.cell may ≡ true = rw none at fit.held in rw (← which.0) held)
      moves (from-among (λ one. one.cell) (is_kind false) c moves is) fits

  kept-or-gone : (n : ℕ) (had may : List ℕ) (moves : List Move) (all : Children) → AllByRecursion (MoveFits n had may) moves → AreDistinct (moved false moves) → times c (without (moved false moves) may) + gone 1 all moves ≤ times c may
  kept-or-gone n had may moves all fits distinct =
      let g = gone-once all moves in
      elim (each_way (has c (moved false moves))) [
        | inl away ↦
            let none = times-gone c (moved false moves) may away in let one = times-distinct c (moved false moves) distinct in
            let some = times-some c may (moved-held n had may moves fits away) in omega arith
        | inr kept ↦ let none = times-none c (moved false moves) kept in let k = times-kept c (moved false moves) may in omega arith
      ]

  abbrev AtMost : World → Type 0
  AtMost w = total claims w.pool ≤ 1

  -- the events

  back-claims : (w : World) (x : Spot) (to : Location) (b : Branch) (others : List Spot) → Takes w.pool x others → rights b + one_if (parked_at c to) ≤ claims x → AtMost w → AtMost (put_back w to b others)
  back-claims w x to b others takes less most = let t = total-takes claims takes in let k = total-back claims others (spot to b) in omega arith

  woken-claims : (v cell : ℕ) (change : Branch → Branch) → ((b : Branch) → rights (change b) ≤ rights b) → (x : Spot) → claims (woken v change x) ≤ claims x
  woken-claims v cell change less x = let k = less x.branch in omega arith

  wake-claims : (v cell : ℕ) (change : Branch → Branch) → ((b : Branch) → rights (change b) ≤ rights b) → (xs : List Spot) → total claims (wake cell v change xs) ≤ total claims xs
  wake-claims v cell change less xs = total-changed claims (parked cell) (woken v change) (λ x is. woken-claims v cell change less x) xs

  ended-rights : (o : Outcome) (b : Branch) → rights (ended o b) ≤ rights b
  ended-rights o b = omega arith

  poison-claims : (cells : List ℕ) (v : ℕ) (xs : List Spot) → total claims (poison cells v xs) ≤ total claims xs
  poison-claims [] v xs = omega arith
  poison-claims (cell ∷ cells) v xs = let k = poison-claims cells v (wake cell v (ended Starved) xs) in let m = wake-claims v cell (ended Starved) (ended-rights Starved) xs in omega arith

  held-claims : (v number : ℕ) (x : Spot) (at : Bool) → claims (if at then spot (Holds v number) x.branch else x) ≤ claims x
  held-claims v number x true = omega arith
  held-claims v number x false = omega arith

  hold-claims : (v number : ℕ) (xs : List Spot) (outcomes : Option (List Outcome)) → total claims (hold_if v number xs outcomes) ≤ total claims xs
  hold-claims v number xs None = omega arith
  hold-claims v number xs (Some outcomes) = total-mapped claims (hold_one v number) (λ x. held-claims v number x (awaits number x)) xs

  behind-rights : (o : Outcome) (b : Branch) → rights (go_behind o b) ≤ rights b
  behind-rights (Fine u) b = omega arith
  behind-rights (Raise e n) b = omega arith
  behind-rights Limit b = omega arith
  behind-rights Starved b = omega arith
  behind-rights NoMemory b = omega arith

  park-claims : (cell : ℕ) (may : List ℕ) (at : Bool) → nat_eq cell c ≡ at → has cell may ≡ true → times c (without (cell ∷ []) may) + one_if at ≤ times c may
  park-claims cell may true is held =
      let same = test_same cell c is in
      let none = times-gone c (cell ∷ []) may (rw is refl) in let some = times-some c may (rw (← same) held) in omega arith
  park-claims cell may false is held = let k = times-kept c (cell ∷ []) may in omega arith

  fork-claims : (w : World) {V : Type 0} (value : ℕ → Option V) (v : ℕ) (b : Branch) (limit : ℕ) (cells : List Cell) (moves : List Move) (children : Children) (rest : Script) (others : List Spot)
      → Takes w.pool (spot (Runs v) (with_rest b (ForkThen limit cells moves children rest))) others → Formed value b.steps b.signals b.waits (ForkThen limit cells moves children rest) → AtMost w
      → AtMost (forked w v b others limit cells moves children rest)
  fork-claims w value v b limit cells moves children rest others takes formed most =
      let kids = spawned (length w.joins) b cells moves 1 (suc b.at) children in
      let mine = spot (AtJoin (length w.joins)) (parent_behind b cells moves children rest) in
      let t = total-takes claims takes in
      let k = total-append claims others (mine ∷ placed v kids) in
      let p = placed-claims v kids in
      let r = kids-rights (length w.joins) b cells moves 1 (suc b.at) children in
      let u = used-once rest children cells in
      let g = kept-or-gone (count children) b.signals b.waits moves children formed.0.each_move formed.0.waits_once in
      let h = times-append c (used_by 0 cells) (without (moved false moves) b.waits) in
      let n = numbers-append c cells (cells_in children ++ cells_of rest) in
      let m = numbers-append c (cells_in children) (cells_of rest) in
      omega arith

  module _ (root : Script) where
    abbrev value : ℕ → Option Value
    value = value_in (cells_of root)

    abbrev Lossy : ℕ → ℕ → Outcome → Type 0
    Lossy = Excused (Unit {0})

    abbrev Spoilt : ℕ → Type 0
    Spoilt = Spoiled (Unit {0})

    claims-step : (w : World) (e : Event) (w' : World) → Step w e w' → Truth value Lossy Spoilt root w → AtMost w → AtMost w'
    claims-step w _ _ (ticked v b rest others worker takes) truth most = back-claims w (spot (Runs v) (with_rest b (TickThen rest))) (Runs v) (past_tick b rest) others takes (omega arith) most
    claims-step w _ _ (forks v b limit cells moves children rest others worker takes) truth most =
        fork-claims w value v b limit cells moves children rest others takes (formed-at (λ n. n) root value Lossy Spoilt w v b (ForkThen limit cells moves children rest) others truth takes (λ o is. absurd (cc))) most
    claims-step w _ _ (signals_it v b cell rest others worker takes) truth most =
        let t = total-takes claims takes in let k = total-back claims (wake cell v unchanged others) (spot (Runs v) (past_signal cell b rest)) in
        let m = wake-claims v cell unchanged (λ b'. omega arith) others in omega arith
    claims-step w _ _ (passes v b cell rest others worker takes full) truth most =
        let k = times-kept c (cell ∷ []) b.waits in back-claims w (spot (Runs v) (with_rest b (WaitThen cell rest))) (Runs v) (past_wait cell b rest) others takes (omega arith) most
    claims-step w _ _ (starves v b cell rest others worker takes poisoned) truth most =
        back-claims w (spot (Runs v) (with_rest b (WaitThen cell rest))) (Runs v) (ended Starved b) others takes (omega arith) most
    claims-step w _ _ (parks v b cell rest others worker takes full poisoned) truth most =
        let formed = formed-at (λ n. n) root value Lossy Spoilt w v b (WaitThen cell rest) others truth takes (λ o is. absurd (cc)) in
        let k = park-claims cell b.waits (nat_eq cell c) refl formed.0 in
        back-claims w (spot (Runs v) (with_rest b (WaitThen cell rest))) (AtCell cell) (past_wait cell b rest) others takes (omega arith) most
    claims-step w _ _ (finishes e v b o others worker takes how) truth most =
        let t = total-takes claims takes in let p = poison-claims b.signals v others in
        let h = hold-claims v b.join (poison b.signals v others) (outcomes_of (stored_with w b o) b.join (slice_get w.joins b.join)) in omega arith
    claims-step w _ _ (takes_up e v u b others worker takes-up free takes) truth most = back-claims w (spot (Listed u) b) (Runs v) b others takes (omega arith) most
    claims-step w _ _ (resumes v b number join os others worker takes is all) truth most =
        let less = behind-rights (joined join.limit os) b in back-claims w (spot (Holds v number) b) (Runs v) (go_behind (joined join.limit os) b) others takes (omega arith) most

    abbrev Both : World → Type 0
    Both w = Truth value Lossy Spoilt root w × AtMost w

    abbrev Allows : Event → Type 0
    Allows = MayLose value Lossy Spoilt (excuses (Unit {0}))

    both-step : (w : World) (e : Event) (w' : World) → Step w e w' → Allows e → Both w → Both w'
    both-step w e w' step may both = (truth-step value Lossy Spoilt (excuses (Unit {0})) root w e w' step may both.0, claims-step w e w' step both.0 both.1)

    most-after : (workers : ℕ) (events : List Event) (w : World) → WellFormed root → LeadsTo root workers events w → AtMost w
    most-after workers events w well leads =
        let first = times-distinct c (numbers_of (cells_of root)) well.distinct in
        (run-keeps Allows Both both-step events (start root workers) w leads (each-always Allows (lost-may value) events) (truth-start value Lossy Spoilt root workers well.formed, omega arith)).1

  parked-claims : (xs : List Spot) → total (λ x. one_if (parked c x)) xs ≤ total claims xs
  parked-claims [] = omega arith
  parked-claims (x ∷ xs) = let k = parked-claims xs in omega arith

pub each_waiter : EachWaiter
each_waiter root workers events w well leads cell =
    let most = most-after cell root workers events w well leads in
    let less = parked-claims cell w.pool in
    let same = total-passing (parked cell) w.pool in omega arith
