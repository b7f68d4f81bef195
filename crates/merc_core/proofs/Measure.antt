-- Each accepted event makes what is left to do less.
use Rattle.std.proofs.Common.{◌≡◌, ℕ, suc, ◌+◌, ◌*◌, ◌≤◌, ◌<◌, Bool, true, false, not, List, [], ◌∷◌, ◌++◌, Some, None, refl, ap, arith, length}
use Rattle.std.specs.Prelude.{Option, Ok, Err, filter, map, if◌then◌else◌, slice_get}
use Rattle.merc_script.specs.declared.outcome.Outcome.{Outcome}
use Rattle.merc_script.specs.declared.outcome.Outcome.TheVariants.{Ok as Fine, Raise, Limit, Starved, NoMemory}
use Rattle.merc_script.specs.declared.cells.Move.{Move}
use Rattle.merc_script.specs.Script.{Script, Ends, TickThen, WaitThen, SignalThen, ForkThen, Children, NoChild, Child, Cell, size, sizes}
use Rattle.merc_script.specs.Joining.{joined}
use Rattle.merc_core.specs.declared.event.Event.{Event}
use Rattle.merc_core.specs.World.{Branch, Location, Listed, Runs, Holds, AtCell, AtJoin, Spot, spot, World, start, outcomes_of}
use Rattle.merc_core.specs.Events.{parked, parked_at, awaits_at, past_tick, past_signal, past_wait, ended, go_behind, spawned, listed_backwards, placed, parent_behind, woken, wake, unchanged, poison, hold_one, hold_if, stored_with, Answer, happens, run}
use Rattle.merc_core.specs.Laws.{LeadsTo}
use Rattle.merc_core.proofs.Pool.{Takes, here, there}
use Rattle.merc_core.proofs.Steps.{put_back, Step, ticked, forks, signals, passes, starves, parks, finishes, takes_up, resumes, step_of, run-refused}

-- sums over spots

module _ (f : Spot → ℕ) where
  abbrev pub total : List Spot → ℕ
  total [] = 0
  total (x ∷ xs) = f x + total xs

  pub total-takes : {xs : List Spot} {y : Spot} {ys : List Spot} → Takes xs y ys → total xs ≡ f y + total ys
  total-takes (here x xs) = refl
  total-takes (there x y xs ys takes) = let e = total-takes takes in omega arith

  pub total-append : (xs ys : List Spot) → total (xs ++ ys) ≡ total xs + total ys
  total-append [] ys = omega arith
  total-append (x ∷ xs) ys = let e = total-append xs ys in omega arith

  pub total-back : (xs : List Spot) (y : Spot) → total (xs ++ (y ∷ [])) ≡ total xs + f y
  total-back xs y = let e = total-append xs (y ∷ []) in omega arith

  -- Those that pass a test go to the back, changed, and none weighs more.
  abbrev moved_back : (Spot → Bool) → (Spot → Spot) → List Spot → List Spot
  moved_back test change xs = filter (λ x. not (test x)) xs ++ map change (filter test xs)

  changed_one : (x : Spot) (b : Bool) (stay go : List Spot) (change : Spot → Spot) (sum : ℕ) → (b ≡ true → f (change x) ≤ f x) → total stay + total (map change go) ≤ sum
      → total (if not b then x ∷ stay else stay) + total (map change (if b then x ∷ go else go)) ≤ f x + sum
  changed_one x true stay go change sum less rest = let one = less refl in omega arith
  changed_one x false stay go change sum less rest = omega arith

  changed : (test : Spot → Bool) (change : Spot → Spot) → ((x : Spot) → test x ≡ true → f (change x) ≤ f x) → (xs : List Spot)
      → total (filter (λ x. not (test x)) xs) + total (map change (filter test xs)) ≤ total xs
  changed test change less [] = omega arith
  changed test change less (x ∷ xs) = changed_one x (test x) (filter (λ y. not (test y)) xs) (filter test xs) change (total xs) (less x) (changed test change less xs)

  pub total-changed : (test : Spot → Bool) (change : Spot → Spot) → ((x : Spot) → test x ≡ true → f (change x) ≤ f x) → (xs : List Spot) → total (moved_back test change xs) ≤ total xs
  total-changed test change less xs =
      let e = total-append (filter (λ x. not (test x)) xs) (map change (filter test xs)) in let k = changed test change less xs in omega arith

  pub total-mapped : (change : Spot → Spot) → ((x : Spot) → f (change x) ≤ f x) → (xs : List Spot) → total (map change xs) ≤ total xs
  total-mapped change less [] = omega arith
  total-mapped change less (x ∷ xs) = let k = total-mapped change less xs in let one = less x in omega arith

-- what is left to do

abbrev mutual
  pub weight : Script → ℕ
  weight (Ends o) = 1
  weight (TickThen rest) = suc (weight rest)
  weight (WaitThen cell rest) = suc (suc (weight rest))
  weight (SignalThen cell rest) = suc (weight rest)
  weight (ForkThen limit cells moves children rest) = suc (suc (weights children + weight rest))

  pub weights : Children → ℕ
  weights NoChild = 0
  weights (Child first others) = suc (weight first) + weights others

weight-some : (s : Script) → 1 ≤ weight s
weight-some (Ends o) = omega arith
weight-some (TickThen rest) = omega arith
weight-some (WaitThen cell rest) = omega arith
weight-some (SignalThen cell rest) = omega arith
weight-some (ForkThen limit cells moves children rest) = omega arith

mutual
  weight-size : (s : Script) → weight s < 2 * size s
  weight-size (Ends o) = omega arith
  weight-size (TickThen rest) = let k = weight-size rest in omega arith
  weight-size (WaitThen cell rest) = let k = weight-size rest in omega arith
  weight-size (SignalThen cell rest) = let k = weight-size rest in omega arith
  weight-size (ForkThen limit cells moves children rest) = let k = weight-size rest in let m = weights-size children in omega arith

  weights-size : (all : Children) → weights all ≤ 2 * sizes all
  weights-size NoChild = omega arith
  weights-size (Child first others) = let k = weight-size first in let m = weights-size others in omega arith

-- a branch that does not run has one event more
abbrev idle : Location → ℕ
idle (Runs v) = 0
idle (Listed v) = 1
idle (Holds v join) = 1
idle (AtCell cell) = 1
idle (AtJoin join) = 1

abbrev pub load : Spot → ℕ
load x = idle x.location + weight x.branch.rest

abbrev pub left_to_do : World → ℕ
left_to_do w = total load w.pool

woken_load : (v : ℕ) (change : Branch → Branch) → ((b : Branch) → weight (change b).rest ≤ weight b.rest) → (location : Location) (b : Branch) (cell : ℕ)
    → parked_at cell location ≡ true → suc (weight (change b).rest) ≤ idle location + weight b.rest
woken_load v change less (AtCell other) b cell is = let k = less b in omega arith
woken_load v change less (Listed other) b cell is = absurd (cc)
woken_load v change less (Runs other) b cell is = absurd (cc)
woken_load v change less (Holds other join) b cell is = absurd (cc)
woken_load v change less (AtJoin join) b cell is = absurd (cc)

wake_load : (cell v : ℕ) (change : Branch → Branch) → ((b : Branch) → weight (change b).rest ≤ weight b.rest) → (xs : List Spot) → total load (wake cell v change xs) ≤ total load xs
wake_load cell v change less xs = total-changed load (parked cell) (woken v change) (λ x is. let k = woken_load v change less x.location x.branch cell is in omega arith) xs

ended_load : (o : Outcome) (b : Branch) → weight (ended o b).rest ≤ weight b.rest
ended_load o b = weight-some b.rest

poison_load : (cells : List ℕ) (v : ℕ) (xs : List Spot) → total load (poison cells v xs) ≤ total load xs
poison_load [] v xs = omega arith
poison_load (cell ∷ cells) v xs =
    let k = poison_load cells v (wake cell v (ended Starved) xs) in let m = wake_load cell v (ended Starved) (ended_load Starved) xs in omega arith

load-if : (yes : Bool) (x y : Spot) (most : ℕ) → load x ≤ most → load y ≤ most → load (if yes then x else y) ≤ most
load-if true x y most less others = less
load-if false x y most less others = others

held_load : (v join : ℕ) (location : Location) (b : Branch) → load (hold_one v join (spot location b)) ≤ load (spot location b)
held_load v join (AtJoin other) b = load-if (awaits_at join (AtJoin other)) (spot (Holds v join) b) (spot (AtJoin other) b) (1 + weight b.rest) (omega arith) (omega arith)
held_load v join (Listed other) b = omega arith
held_load v join (Runs other) b = omega arith
held_load v join (Holds other number) b = omega arith
held_load v join (AtCell cell) b = omega arith

hold_load : (v join : ℕ) (xs : List Spot) (outcomes : Option (List Outcome)) → total load (hold_if v join xs outcomes) ≤ total load xs
hold_load v join xs None = omega arith
hold_load v join xs (Some outcomes) = total-mapped load (hold_one v join) (λ x. held_load v join x.location x.branch) xs

abbrev branches_weight : List Branch → ℕ
branches_weight [] = 0
branches_weight (b ∷ bs) = suc (weight b.rest) + branches_weight bs

backwards_load : (v : ℕ) (bs : List Branch) → total load (listed_backwards v bs) ≡ branches_weight bs
backwards_load v [] = refl
backwards_load v (b ∷ bs) = let e = backwards_load v bs in let k = total-back load (listed_backwards v bs) (spot (Listed v) b) in omega arith

placed_load : (v : ℕ) (bs : List Branch) → total load (placed v bs) ≤ branches_weight bs
placed_load v [] = omega arith
placed_load v (b ∷ bs) = let e = backwards_load v bs in omega arith

spawned_weight : (j k t : ℕ) (b : Branch) (cells : List Cell) (moves : List Move) (all : Children) → branches_weight (spawned j b cells moves k t all) ≡ weights all
spawned_weight j k t b cells moves NoChild = refl
spawned_weight j k t b cells moves (Child first others) = let e = spawned_weight j (suc k) (t + size first) b cells moves others in omega arith

behind_load : (o : Outcome) (b : Branch) → weight (go_behind o b).rest ≤ weight b.rest
behind_load (Fine u) b = omega arith
behind_load (Raise e n) b = weight-some b.rest
behind_load Limit b = weight-some b.rest
behind_load Starved b = weight-some b.rest
behind_load NoMemory b = weight-some b.rest

back_load : (w : World) {x : Spot} (location : Location) (b : Branch) (others : List Spot) → Takes w.pool x others → idle location + weight b.rest < load x → left_to_do (put_back w location b others) < left_to_do w
back_load w location b others takes less = let e = total-takes load takes in let k = total-back load others (spot location b) in omega arith

pub event-less : {w w' : World} {e : Event} → Step w e w' → left_to_do w' < left_to_do w
event-less {w} (ticked v b rest others worker takes) = back_load w (Runs v) (past_tick b rest) others takes (omega arith)
event-less {w} (forks v b limit cells moves children rest others worker takes) =
    let e = total-takes load takes in
    let k = total-append load others (spot (AtJoin (length w.joins)) (parent_behind b cells moves children rest) ∷ placed v (spawned (length w.joins) b cells moves 1 (suc b.at) children)) in
    let p = placed_load v (spawned (length w.joins) b cells moves 1 (suc b.at) children) in
    let q = spawned_weight (length w.joins) 1 (suc b.at) b cells moves children in
    omega arith
event-less {w} (signals v b cell rest others worker takes) =
    let e = total-takes load takes in
    let k = total-back load (wake cell v unchanged others) (spot (Runs v) (past_signal cell b rest)) in
    let m = wake_load cell v unchanged (λ c. omega arith) others in
    omega arith
event-less {w} (passes v b cell rest others worker takes full) = back_load w (Runs v) (past_wait cell b rest) others takes (omega arith)
event-less {w} (starves v b cell rest others worker takes poisoned) = back_load w (Runs v) (ended Starved b) others takes (omega arith)
event-less {w} (parks v b cell rest others worker takes full poisoned) = back_load w (AtCell cell) (past_wait cell b rest) others takes (omega arith)
event-less {w} (finishes e v b o others worker takes how) =
    let t = total-takes load takes in
    let p = poison_load b.signals v others in
    let h = hold_load v b.join (poison b.signals v others) (outcomes_of (stored_with w b o) b.join (slice_get w.joins b.join)) in
    let some = weight-some b.rest in
    omega arith
event-less {w} (takes_up e v u b others worker takes-up free takes) = back_load w (Runs v) b others takes (omega arith)
event-less {w} (resumes v b number join outcomes others worker takes is all) =
    let less = behind_load (joined join.limit outcomes) b in back_load w (Runs v) (go_behind (joined join.limit outcomes) b) others takes (omega arith)

one-less : (e : Event) (es : List Event) (w w' : World) (answer : Answer) → happens w e ≡ answer → run es answer ≡ Ok w'
    → ((u : World) → run es (Ok u) ≡ Ok w' → length es + left_to_do w' ≤ left_to_do u) → length (e ∷ es) + left_to_do w' ≤ left_to_do w
one-less e es w w' (Err refused) this is next = absurd (run-refused es refused w' is)
one-less e es w w' (Ok u) this is next = let less = event-less (step_of w e u this) in let k = next u is in omega arith

events-less : (events : List Event) (w w' : World) → run events (Ok w) ≡ Ok w' → length events + left_to_do w' ≤ left_to_do w
events-less [] w w' is = let same : w ≡ w' = cc in let e = ap left_to_do same in omega arith
events-less (e ∷ es) w w' is = one-less e es w w' (happens w e) refl is (λ u next. events-less es u w' next)

pub bounded : (root : Script) (workers : ℕ) (events : List Event) (w : World) → LeadsTo root workers events w → length events < 2 * size root
bounded root workers events w leads = let k = events-less events (start root workers) w leads in let m = weight-size root in omega arith
