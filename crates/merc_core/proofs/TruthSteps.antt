-- Each accepted event keeps what holds of branches, cells and outcomes.
use Rattle.std.proofs.Common.{◌≡◌, ℕ, zero, suc, ◌+◌, ◌≤◌, ◌<◌, ◌⊎◌, inl, inr, Bool, true, false, not, List, [], ◌∷◌, ◌++◌, Some, None, refl, sym, subst, arith, length}
use Rattle.std.proofs.lemmas.Bool.Decides.{nat_tests}
use Rattle.std.specs.Prelude.{Option, slice_get, if◌then◌else◌, nat_eq, filter, map, ◌&&◌, ◌||◌}
use Rattle.std.specs.List.{AllByRecursion}
use Rattle.merc_script.specs.declared.outcome.Outcome.{Outcome}
use Rattle.merc_script.specs.declared.outcome.Outcome.TheVariants.{Ok as Fine, Raise, Limit, Starved, NoMemory}
use Rattle.merc_script.specs.declared.cells.Move.{Move}
use Rattle.merc_script.specs.Script.{Script, Ends, TickThen, WaitThen, SignalThen, ForkThen, Children, NoChild, Child, Cell, end_of, ends, size, sizes}
use Rattle.merc_script.specs.Joining.{joined, walk, lacks_memory, later}
use Rattle.merc_core.specs.Outcomes.{with_first}
use Rattle.merc_core.specs.Rights.{has, has_in}
use Rattle.merc_core.specs.declared.event.Event.{Event}
use Rattle.merc_core.specs.declared.event.Event.TheVariants.{Tick, Fork, Pop, Steal, Signal, Wait, End, Resume, Lost}
use Rattle.merc_core.specs.World.{Branch, Location, Listed, Runs, Holds, AtCell, AtJoin, Spot, spot, Join, Parent, Stored, World, outermost, stored_at, gathered, outcomes_of}
use Rattle.merc_core.specs.Events.{parked, parked_at, past_tick, past_signal, past_wait, ended, go_behind, spawned, listed_backwards, placed, parent_behind, woken, wake, unchanged, poison, hold_one, hold_if, forked, signalled, finished, stored_with}
use Rattle.merc_core.specs.WellFormed.{Formed, FormedAll, Follows, gain}
use Rattle.merc_core.specs.Laws.{IsCutEnd}
use Rattle.merc_core.proofs.Pool.{Takes, chosen, each_way, each-append, each-filter, each-mapped, each-changed, each-weaker, takes-one, takes-others}
use Rattle.merc_core.proofs.Steps.{
  with_rest,
  put_back,
  Step,
  ticked,
  forks,
  signals as signals_it,
  passes,
  starves,
  parks,
  finishes,
  takes_up,
  resumes,
  Finishes,
  ends as ends_it,
  loses,
}
use Rattle.merc_core.proofs.Truth.{end_at, EndIn, Near, Excuses, Honest, IsCut, BehindIn, StateAt, Good, StoredOk, MayPoison, Truth}

-- joins are only added to

pub get-front : {A : Type 0} (xs ys : List A) (i : ℕ) (x : A) → slice_get xs i ≡ Some x → slice_get (xs ++ ys) i ≡ Some x
get-front [] ys i x is = absurd (cc)
get-front (y ∷ xs) ys zero x is = is
get-front (y ∷ xs) ys (suc i) x is = get-front xs ys i x is

pub get-last : {A : Type 0} (xs : List A) (x : A) → slice_get (xs ++ (x ∷ [])) (length xs) ≡ Some x
get-last [] x = refl
get-last (y ∷ xs) x = get-last xs x

-- what holds of an element that is there holds when more are added
pub grown : {A : Type 0} (Is : Option A → Type 0) → (Is None → ⊥) → (xs ys : List A) (i : ℕ) → Is (slice_get xs i) → Is (slice_get (xs ++ ys) i)
grown Is none [] ys i holds = absurd (none holds)
grown Is none (x ∷ xs) ys zero holds = holds
grown Is none (x ∷ xs) ys (suc i) holds = grown Is none xs ys i holds

pub is_same : (k : ℕ) → nat_eq k k ≡ true
is_same k = grind (arith, nat_tests)

pub test_same : (a b : ℕ) → nat_eq a b ≡ true → a ≡ b
test_same a b is = grind (arith, nat_tests, is)

pub end-above : (from child : ℕ) (all : Children) (o : Outcome) → end_at from child all ≡ Some o → from ≤ child
end-above from child NoChild o is = absurd (cc)
end-above from child (Child first others) o is =
    elim (chosen (nat_eq child from) (Some (end_of first)) (end_at (suc from) child others) (Some o) is) [
      | inl p ↦ let e = test_same child from p.0 in omega arith
      | inr p ↦ let k = end-above (suc from) child others o p.1 in omega arith
    ]

not_same : (a b : ℕ) → a < b → nat_eq b a ≡ false
not_same a b less = grind (arith, nat_tests)

pub end-later : (from child : ℕ) (first : Script) (others : Children) (o : Outcome) → end_at (suc from) child others ≡ Some o → end_at from child (Child first others) ≡ Some o
end-later from child first others o is =
    let above = end-above (suc from) child others o is in
    let less : from < child = omega arith in
    rw (not_same from child less) is

pub end-here : (from : ℕ) (first : Script) (others : Children) → end_at from from (Child first others) ≡ Some (end_of first)
end-here from first others = rw (is_same from)

pub either_true : (a b : Bool) → (a || b) ≡ true → (a ≡ true) ⊎ (b ≡ true)
either_true true b is = inl refl
either_true false b is = inr is

pub has-holds : (Is : ℕ → Type 0) (cell : ℕ) (cells : List ℕ) → AllByRecursion Is cells → has cell cells ≡ true → Is cell
has-holds Is cell [] all is = absurd (cc)
has-holds Is cell (one ∷ cells) all is = elim (either_true (nat_eq one cell) (has cell cells) is) [
  | inl here ↦ subst Is (test_same one cell here) all.0
  | inr later ↦ has-holds Is cell cells all.1 later
]

module _ {V : Type 0} (value : ℕ → Option V) (Excused : ℕ → ℕ → Outcome → Type 0) (Spoiled : ℕ → Type 0) (law : Excuses Excused Spoiled) where
  abbrev Honestly : List Join → ℕ → ℕ → ℕ → List ℕ → List ℕ → Script → Type 0
  Honestly = Honest value Excused Spoiled

  abbrev Cut : ℕ → ℕ → Script → Type 0
  Cut = IsCut value Excused Spoiled

  abbrev State : List Join → Location → Branch → Script → Type 0
  State = StateAt value Excused Spoiled

  abbrev Right : List Join → Spot → Type 0
  Right = Good value Excused Spoiled

  abbrev Behind : List Join → Branch → Script → Option Join → Type 0
  Behind = BehindIn value Excused Spoiled

  abbrev Stores : List Join → Stored → Type 0
  Stores = StoredOk value Excused Spoiled

  abbrev Poisons : ℕ → Type 0
  Poisons = MayPoison value Excused Spoiled

  -- more joins

  honest-grown : (joins more : List Join) (join child steps : ℕ) (signals waits : List ℕ) (s : Script) → Honestly joins join child steps signals waits s → Honestly (joins ++ more) join child steps signals waits s
  honest-grown joins more join child steps signals waits s honest = record { formed = honest.formed; goal = grown (EndIn child (end_of s)) (λ none. none) joins more join honest.goal }

  behind-grown : (joins more : List Join) (b : Branch) (s : Script) (join : Option Join) → Behind joins b s join → Behind (joins ++ more) b s join
  behind-grown joins more b s None none = none
  behind-grown joins more b s (Some join) behind = (behind.0, honest-grown joins more b.join b.child _ b.signals b.waits s behind.1)

  either-grown : (joins more : List Join) (b : Branch) (s : Script) → Honestly joins b.join b.child b.steps b.signals b.waits s ⊎ Cut b.join b.child s
      → Honestly (joins ++ more) b.join b.child b.steps b.signals b.waits s ⊎ Cut b.join b.child s
  either-grown joins more b s (inl honest) = inl (honest-grown joins more b.join b.child b.steps b.signals b.waits s honest)
  either-grown joins more b s (inr cut) = inr cut

  state-grown : (joins more : List Join) (location : Location) (b : Branch) (s : Script) → State joins location b s → State (joins ++ more) location b s
  state-grown joins more (Listed v) b s state = either-grown joins more b s state
  state-grown joins more (Runs v) b s state = either-grown joins more b s state
  state-grown joins more (Holds v number) b s state = grown (Behind (joins ++ more) b s) (λ none. none) joins more number (behind-grown joins more b s (slice_get joins number) state)
  state-grown joins more (AtCell cell) b s state = (state.0, honest-grown joins more b.join b.child b.steps b.signals b.waits s state.1)
  state-grown joins more (AtJoin number) b s state = grown (Behind (joins ++ more) b s) (λ none. none) joins more number (behind-grown joins more b s (slice_get joins number) state)

  stored-grown : (joins more : List Join) (s : Stored) → Stores joins s → Stores (joins ++ more) s
  stored-grown joins more s (inl end) = inl (grown (EndIn s.child s.outcome) (λ none. none) joins more s.join end)
  stored-grown joins more s (inr excused) = inr excused

  -- waking

  wake-state : (joins : List Join) (v cell : ℕ) (location : Location) (b : Branch) → parked_at cell location ≡ true → State joins location b b.rest → State joins (Listed v) b b.rest
  wake-state joins v cell (AtCell other) b is state = inl state.1
  wake-state joins v cell (Listed u) b is state = absurd (cc)
  wake-state joins v cell (Runs u) b is state = absurd (cc)
  wake-state joins v cell (Holds u number) b is state = absurd (cc)
  wake-state joins v cell (AtJoin number) b is state = absurd (cc)

  wakes : (joins : List Join) (v cell : ℕ) (xs : List Spot) → AllByRecursion (Right joins) xs → AllByRecursion (Right joins) (wake cell v unchanged xs)
  wakes joins v cell xs all = each-append (Right joins) (filter (λ x. not (parked cell x)) xs) (map (woken v unchanged) (filter (parked cell) xs))
      (each-filter (Right joins) (λ x. not (parked cell x)) xs all)
      (each-changed (Right joins) (Right joins) (parked cell) (woken v unchanged) (λ x is good. wake-state joins v cell x.location x.branch is good) xs all)

  starved-state : (joins : List Join) (v cell : ℕ) (b : Branch) (s : Script) → Poisons cell → (value cell ≡ None → s ≡ Ends Starved) → Honestly joins b.join b.child b.steps b.signals b.waits s
      → State joins (Listed v) (ended Starved b) (Ends Starved)
  starved-state joins v cell b s (inl none) starves' honest = inl (subst (Honestly joins b.join b.child b.steps b.signals b.waits) (starves' none) honest)
  starved-state joins v cell b s (inr spoiled) starves' honest = inr (record { end = Starved; is = refl; excused = law.starved b.join b.child cell spoiled })

  poison-state : (joins : List Join) (v cell : ℕ) → Poisons cell → (location : Location) (b : Branch) → parked_at cell location ≡ true → State joins location b b.rest → State joins (Listed v) (ended Starved b) (Ends Starved)
  poison-state joins v cell poisons (AtCell other) b is state =
      let same : other ≡ cell = test_same other cell is in
      starved-state joins v other b b.rest (subst Poisons (sym same) poisons) state.0 state.1
  poison-state joins v cell poisons (Listed u) b is state = absurd (cc)
  poison-state joins v cell poisons (Runs u) b is state = absurd (cc)
  poison-state joins v cell poisons (Holds u number) b is state = absurd (cc)
  poison-state joins v cell poisons (AtJoin number) b is state = absurd (cc)

  poisons-one : (joins : List Join) (v cell : ℕ) → Poisons cell → (xs : List Spot) → AllByRecursion (Right joins) xs → AllByRecursion (Right joins) (wake cell v (ended Starved) xs)
  poisons-one joins v cell may xs all = each-append (Right joins) (filter (λ x. not (parked cell x)) xs) (map (woken v (ended Starved)) (filter (parked cell) xs))
      (each-filter (Right joins) (λ x. not (parked cell x)) xs all)
      (each-changed (Right joins) (Right joins) (parked cell) (woken v (ended Starved)) (λ x is good. poison-state joins v cell may x.location x.branch is good) xs all)

  poisons : (joins : List Join) (v : ℕ) (cells : List ℕ) (xs : List Spot) → AllByRecursion Poisons cells → AllByRecursion (Right joins) xs → AllByRecursion (Right joins) (poison cells v xs)
  poisons joins v [] xs may all = all
  poisons joins v (cell ∷ cells) xs may all = poisons joins v cells (wake cell v (ended Starved) xs) may.1 (poisons-one joins v cell may.0 xs all)

  -- holding

  hold-case : (joins : List Join) (v number other : ℕ) (b : Branch) (at : Bool) → Behind joins b b.rest (slice_get joins other) → nat_eq other number ≡ at
      → Right joins (if at then spot (Holds v number) b else spot (AtJoin other) b)
  hold-case joins v number other b true behind is = subst (λ (k : ℕ). Behind joins b b.rest (slice_get joins k)) (test_same other number is) behind
  hold-case joins v number other b false behind is = behind

  hold-state : (joins : List Join) (v number : ℕ) (location : Location) (b : Branch) → State joins location b b.rest → Right joins (hold_one v number (spot location b))
  hold-state joins v number (AtJoin other) b state = hold-case joins v number other b (nat_eq other number) state refl
  hold-state joins v number (Listed u) b state = state
  hold-state joins v number (Runs u) b state = state
  hold-state joins v number (Holds u other) b state = state
  hold-state joins v number (AtCell cell) b state = state

  holds-if : (joins : List Join) (v number : ℕ) (xs : List Spot) (outcomes : Option (List Outcome)) → AllByRecursion (Right joins) xs → AllByRecursion (Right joins) (hold_if v number xs outcomes)
  holds-if joins v number xs None all = all
  holds-if joins v number xs (Some outcomes) all = each-mapped (Right joins) (Right joins) (hold_one v number) (λ x good. hold-state joins v number x.location x.branch good) xs all

  -- the children of a Fork

  abbrev Fresh : List Join → Branch → Type 0
  Fresh joins b = Honestly joins b.join b.child b.steps b.signals b.waits b.rest

  spawns : (joins : List Join) (j : ℕ) (b : Branch) (cells : List Cell) (moves : List Move) (k t : ℕ) (all : Children) → FormedAll value cells moves k all
      → ((child : ℕ) (o : Outcome) → end_at k child all ≡ Some o → EndIn child o (slice_get joins j)) → AllByRecursion (Fresh joins) (spawned j b cells moves k t all)
  spawns joins j b cells moves k t NoChild formed leads = tt
  spawns joins j b cells moves k t (Child first others) formed leads = (
    record { formed = formed.0; goal = leads k (end_of first) (end-here k first others) },
    spawns joins j b cells moves (suc k) (t + size first) others formed.1 (λ child o is. leads child o (end-later k child first others o is)),
  )

  backwards : (joins : List Join) (v : ℕ) (bs : List Branch) → AllByRecursion (Fresh joins) bs → AllByRecursion (Right joins) (listed_backwards v bs)
  backwards joins v [] all = tt
  backwards joins v (b ∷ bs) all = each-append (Right joins) (listed_backwards v bs) (spot (Listed v) b ∷ []) (backwards joins v bs all.1) (inl all.0, tt)

  places : (joins : List Join) (v : ℕ) (bs : List Branch) → AllByRecursion (Fresh joins) bs → AllByRecursion (Right joins) (placed v bs)
  places joins v [] all = tt
  places joins v (b ∷ bs) all = (inl all.0, backwards joins v bs all.1)

  -- the outcomes that a join has gathered

  pub stored-near : (joins : List Join) (j k : ℕ) (ss : List Stored) (o : Outcome) → AllByRecursion (Stores joins) ss → stored_at j k ss ≡ Some o → EndIn k o (slice_get joins j) ⊎ Excused j k o
  stored-near joins j k [] o all is = absurd (cc)
  stored-near joins j k (s ∷ ss) o all is =
      elim (chosen (nat_eq s.join j && nat_eq s.child k) (Some s.outcome) (stored_at j k ss) (Some o) is) [
        | inl p ↦ stored-here joins j k s o all.0 p.0 p.1
        | inr p ↦ stored-near joins j k ss o all.1 p.1
      ]
    where
      stored-here : (joins' : List Join) (j' k' : ℕ) (s' : Stored) (o' : Outcome) → Stores joins' s' → (nat_eq s'.join j' && nat_eq s'.child k') ≡ true → Some s'.outcome ≡ Some o' → EndIn k' o' (slice_get joins' j') ⊎ Excused j' k' o'
      stored-here joins' j' k' s' o' stores passing is' =
          let join : s'.join ≡ j' = grind (arith, nat_tests, passing) in
          let child : s'.child ≡ k' = grind (arith, nat_tests, passing) in
          let same : s'.outcome ≡ o' = cc in
          subst (λ (x : Outcome). EndIn k' x (slice_get joins' j') ⊎ Excused j' k' x) same
          (subst (λ (x : ℕ). EndIn x s'.outcome (slice_get joins' j') ⊎ Excused j' x s'.outcome) child
          (subst (λ (x : ℕ). EndIn s'.child s'.outcome (slice_get joins' x) ⊎ Excused x s'.child s'.outcome) join stores))

  near-more : (joins : List Join) (j k : ℕ) (join : Join) (first : Script) (others : Children) (ss : List Stored) (os : List Outcome) (one : Option Outcome) (rest : Option (List Outcome))
      → stored_at j k ss ≡ one → gathered ss j (suc k) others ≡ rest → with_first one rest ≡ Some os
      → ((o : Outcome) → stored_at j k ss ≡ Some o → (o ≡ end_of first) ⊎ Excused j k o) → ((more : List Outcome) → gathered ss j (suc k) others ≡ Some more → Near Excused j (suc k) more others)
      → Near Excused j k os (Child first others)
  near-more joins j k join first others ss os None rest e f is here later = absurd (cc)
  near-more joins j k join first others ss os (Some o) None e f is here later = absurd (cc)
  near-more joins j k join first others ss os (Some o) (Some more) e f is here later =
      let same : (o ∷ more) ≡ os = cc in subst (λ (x : List Outcome). Near Excused j k x (Child first others)) same (here o e, later more f)

  pub gathered-near : (joins : List Join) (j : ℕ) (join : Join) (ss : List Stored) → slice_get joins j ≡ Some join → AllByRecursion (Stores joins) ss
      → (k : ℕ) (all : Children) (os : List Outcome) → ((child : ℕ) (o : Outcome) → end_at k child all ≡ Some o → end_at 1 child join.children ≡ Some o)
      → gathered ss j k all ≡ Some os → Near Excused j k os all
  gathered-near joins j join ss at stores k NoChild os leads is = let none : [] ≡ os = cc in subst (λ (x : List Outcome). Near Excused j k x NoChild) none tt
  gathered-near joins j join ss at stores k (Child first others) os leads is =
      near-more joins j k join first others ss os (stored_at j k ss) (gathered ss j (suc k) others) refl refl is
      (λ o stored. elim (stored-near joins j k ss o stores stored) [
        | inl end ↦ inl (let mine = leads k (end_of first) (end-here k first others) in let its : end_at 1 k join.children ≡ Some o = subst (EndIn k o) at end in cc)
        | inr excused ↦ inr excused
      ])
      (λ more later. gathered-near joins j join ss at stores (suc k) others more (λ child o end. leads child o (end-later k child first others o end)) later)

  -- a parent goes on

  -- behind its Fork's true outcome
  goes-on : (joins : List Join) (b : Branch) (s : Script) (o : Outcome) → Follows b.steps o s → Honestly joins b.join b.child (b.steps + gain o) b.signals b.waits s → Fresh joins (go_behind o (with_rest b s))
  goes-on joins b s (Fine u) follows honest = honest
  goes-on joins b s (Raise e n) follows honest =
      let there = subst (Honestly joins b.join b.child (b.steps + 0) b.signals b.waits) follows honest in record { formed = there.formed; goal = there.goal }
  goes-on joins b s Limit follows honest =
      let there = subst (Honestly joins b.join b.child (b.steps + 0) b.signals b.waits) follows honest in record { formed = there.formed; goal = there.goal }
  goes-on joins b s Starved follows honest =
      let there = subst (Honestly joins b.join b.child (b.steps + 0) b.signals b.waits) follows honest in record { formed = there.formed; goal = there.goal }
  goes-on joins b s NoMemory follows honest = absurd follows

  cut-off : (joins : List Join) (v : ℕ) (b : Branch) (o : Outcome) → IsCutEnd o → Excused b.join b.child o → Right joins (spot (Runs v) (go_behind o b))
  cut-off joins v b (Fine n) only excused = absurd only
  cut-off joins v b (Raise e n) only excused = absurd only
  cut-off joins v b Limit only excused = absurd only
  cut-off joins v b Starved only excused = inr (record { end = Starved; is = refl; excused = excused })
  cut-off joins v b NoMemory only excused = inr (record { end = NoMemory; is = refl; excused = excused })

  pub has-memory : (limit steps : ℕ) (all : List Outcome) (s : Script) → Follows steps (joined limit all) s → lacks_memory all ≡ false
  has-memory limit steps all s follows = elim (each_way (lacks_memory all)) [
    | inl lacks ↦ absurd (subst (λ (b : Bool). Follows steps (if b then NoMemory else walk limit 0 all) s) lacks follows)
    | inr has ↦ has
  ]

  resume-state : (joins : List Join) (v j : ℕ) (b : Branch) (join : Join) (os : List Outcome) → Near Excused j 1 os join.children → Behind joins b b.rest (Some join)
      → Right joins (spot (Runs v) (go_behind (joined join.limit os) b))
  resume-state joins v j b join os near behind =
      elim (law.joins j b.join b.child join.limit os join.children near (has-memory join.limit b.steps (ends join.children) b.rest behind.0)) [
        | inl same ↦ subst (λ (o : Outcome). Right joins (spot (Runs v) (go_behind o b))) (sym same) (inl (goes-on joins b b.rest (joined join.limit (ends join.children)) behind.0 behind.1))
        | inr excused ↦ cut-off joins v b (joined join.limit os) (law.only b.join b.child (joined join.limit os) excused) excused
      ]

  -- an end

  end-stores : (joins : List Join) (b : Branch) (o : Outcome) → Honestly joins b.join b.child b.steps b.signals b.waits (Ends o) ⊎ Cut b.join b.child (Ends o) → Stores joins (record { join = b.join; child = b.child; outcome = o })
  end-stores joins b o (inl honest) = inl honest.goal
  end-stores joins b o (inr cut) = let same : o ≡ cut.end = let e = cut.is in cc in inr (subst (λ (x : Outcome). Excused b.join b.child x) (sym same) cut.excused)

  end-poisons : (joins : List Join) (b : Branch) (o : Outcome) → Honestly joins b.join b.child b.steps b.signals b.waits (Ends o) ⊎ Cut b.join b.child (Ends o) → AllByRecursion Poisons b.signals
  end-poisons joins b o (inl honest) = each-weaker (λ cell. value cell ≡ None) Poisons (λ cell none. inl none) b.signals honest.formed.0
  end-poisons joins b o (inr cut) = each-all b.signals
    where
      each-all : (cells : List ℕ) → AllByRecursion Poisons cells
      each-all [] = tt
      each-all (cell ∷ cells) = (inr (law.spoilt b.join b.child cut.end cell cut.excused), each-all cells)

  -- all events, where an End for want of memory is excused if there is one

  abbrev pub MayLose : Event → Type 0
  MayLose (Lost v) = (join child : ℕ) → Excused join child NoMemory
  MayLose (Tick v) = Unit {0}
  MayLose (Fork v) = Unit {0}
  MayLose (Pop v) = Unit {0}
  MayLose (Steal v victim) = Unit {0}
  MayLose (Signal v) = Unit {0}
  MayLose (Wait v) = Unit {0}
  MayLose (End v) = Unit {0}
  MayLose (Resume v) = Unit {0}

  abbrev True : Script → World → Type 0
  True = Truth value Excused Spoiled

  -- only the pool changes
  true-pool : (root : Script) (w : World) (pool : List Spot) → AllByRecursion (Right w.joins) pool → True root w → True root (record w { pool = pool })
  true-pool root w pool all truth = record { spots = all; full_known = truth.full_known; poison_known = truth.poison_known; ends_stored = truth.ends_stored; outermost_is = truth.outermost_is }

  -- a branch that was taken is put back
  true-back : (root : Script) (w : World) {x : Spot} (location : Location) (b : Branch) (others : List Spot) → Takes w.pool x others → (Right w.joins x → Right w.joins (spot location b)) → True root w → True root (put_back w location b others)
  true-back root w location b others takes right truth = true-pool root w (others ++ (spot location b ∷ []))
      (each-append (Right w.joins) others (spot location b ∷ []) (takes-others (Right w.joins) takes truth.spots) (right (takes-one (Right w.joins) takes truth.spots), tt)) truth

  -- it goes past an item
  past-item : (joins : List Join) (join child steps steps' : ℕ) (had may had' may' : List ℕ) (item rest : Script) (none : (o : Outcome) → item ≡ Ends o → ⊥)
      → (Formed value steps had may item → Formed value steps' had' may' rest) → end_of item ≡ end_of rest
      → Honestly joins join child steps had may item ⊎ Cut join child item → Honestly joins join child steps' had' may' rest
  past-item joins join child steps steps' had may had' may' item rest none formed same (inl honest) = record { formed = formed honest.formed; goal = subst (λ (x : Outcome). EndIn child x (slice_get joins join)) same honest.goal }
  past-item joins join child steps steps' had may had' may' item rest none formed same (inr cut) = absurd (none cut.end cut.is)

  forked-truth : (root : Script) (w : World) (v : ℕ) (b : Branch) (limit : ℕ) (cells : List Cell) (moves : List Move) (children : Children) (rest : Script) (others : List Spot)
      → Takes w.pool (spot (Runs v) (with_rest b (ForkThen limit cells moves children rest))) others
      → Honestly w.joins b.join b.child b.steps b.signals b.waits (ForkThen limit cells moves children rest) ⊎ Cut b.join b.child (ForkThen limit cells moves children rest)
      → True root w → True root (forked w v b others limit cells moves children rest)
  forked-truth root w v b limit cells moves children rest others takes (inr cut) truth = absurd (let e = cut.is in cc)
  forked-truth root w v b limit cells moves children rest others takes (inl honest) truth =
      let parent : Parent = record { join = b.join; child = b.child; name = b.name; passed = b.passed } in
      let new : Join = record { limit = limit; children = children; behind = suc b.at + sizes children; parent = Some parent } in
      let joins : List Join = w.joins ++ (new ∷ []) in
      let is : slice_get joins (length w.joins) ≡ Some new = get-last w.joins new in
      let goes = parent_behind b cells moves children rest in
      let behind : Behind joins goes rest (Some new) = (honest.formed.2, record { formed = honest.formed.3; goal = (honest-grown w.joins (new ∷ []) b.join b.child b.steps b.signals b.waits (ForkThen limit cells moves children rest) honest).goal }) in
      let kids : AllByRecursion (Fresh joins) (spawned (length w.joins) b cells moves 1 (suc b.at) children)
      = spawns joins (length w.joins) b cells moves 1 (suc b.at) children honest.formed.1 (λ child o end. subst (EndIn child o) (sym is) end) in
      record {
        spots = each-append (Right joins) others (spot (AtJoin (length w.joins)) goes ∷ placed v (spawned (length w.joins) b cells moves 1 (suc b.at) children))
            (each-weaker (Right w.joins) (Right joins) (λ x good. state-grown w.joins (new ∷ []) x.location x.branch x.branch.rest good) others (takes-others (Right w.joins) takes truth.spots))
            (subst (Behind joins goes rest) (sym is) behind, places joins v (spawned (length w.joins) b cells moves 1 (suc b.at) children) kids);
        full_known = truth.full_known;
        poison_known = truth.poison_known;
        ends_stored = each-weaker (Stores w.joins) (Stores joins) (λ s stores. stored-grown w.joins (new ∷ []) s stores) w.stored truth.ends_stored;
        outermost_is = get-front w.joins (new ∷ []) 0 (outermost root) truth.outermost_is;
      }

  signalled-truth : (root : Script) (w : World) (v : ℕ) (b : Branch) (cell : ℕ) (rest : Script) (others : List Spot)
      → Takes w.pool (spot (Runs v) (with_rest b (SignalThen cell rest))) others
      → Honestly w.joins b.join b.child b.steps b.signals b.waits (SignalThen cell rest) ⊎ Cut b.join b.child (SignalThen cell rest) → True root w → True root (signalled w v b others cell rest)
  signalled-truth root w v b cell rest others takes (inr cut) truth = absurd (let e = cut.is in cc)
  signalled-truth root w v b cell rest others takes (inl honest) truth = record {
    spots = each-append (Right w.joins) (wake cell v unchanged others) (spot (Runs v) (past_signal cell b rest) ∷ [])
        (wakes w.joins v cell others (takes-others (Right w.joins) takes truth.spots)) (inl (record { formed = honest.formed.2; goal = honest.goal }), tt);
    full_known = each-append (λ c. value c ≡ None → ⊥) w.full (cell ∷ []) truth.full_known (honest.formed.1, tt);
    poison_known = truth.poison_known;
    ends_stored = truth.ends_stored;
    outermost_is = truth.outermost_is;
  }

  finished-truth : (root : Script) (w : World) {x : Spot} (v : ℕ) (b : Branch) (o : Outcome) (others : List Spot) → Takes w.pool x others
      → Stores w.joins (record { join = b.join; child = b.child; outcome = o }) → AllByRecursion Poisons b.signals → True root w → True root (finished w v b others o)
  finished-truth root w v b o others takes stores may truth = record {
    spots = holds-if w.joins v b.join (poison b.signals v others) (outcomes_of (stored_with w b o) b.join (slice_get w.joins b.join))
        (poisons w.joins v b.signals others may (takes-others (Right w.joins) takes truth.spots));
    full_known = truth.full_known;
    poison_known = each-append (AllByRecursion Poisons) w.poisoned (b.signals ∷ []) truth.poison_known (may, tt);
    ends_stored = each-append (Stores w.joins) w.stored (record { join = b.join; child = b.child; outcome = o } ∷ []) truth.ends_stored (stores, tt);
    outermost_is = truth.outermost_is;
  }

  spoils-all : (join child : ℕ) (o : Outcome) → Excused join child o → (cells : List ℕ) → AllByRecursion Poisons cells
  spoils-all join child o excused [] = tt
  spoils-all join child o excused (cell ∷ cells) = (inr (law.spoilt join child o cell excused), spoils-all join child o excused cells)

  finishes-truth : (root : Script) (w : World) (e : Event) (v : ℕ) (b : Branch) (s : Script) (o : Outcome) (others : List Spot) → Takes w.pool (spot (Runs v) (with_rest b s)) others → Finishes e v s o → MayLose e
      → True root w → True root (finished w v b others o)
  finishes-truth root w _ _ b _ _ others takes (ends_it v o) may truth =
      let state = takes-one (Right w.joins) takes truth.spots in
      finished-truth root w v b o others takes (end-stores w.joins b o state) (end-poisons w.joins b o state) truth
  finishes-truth root w _ _ b _ _ others takes (loses v s) may truth =
      finished-truth root w v b NoMemory others takes (inr (may b.join b.child)) (spoils-all b.join b.child NoMemory (may b.join b.child) b.signals) truth

  wait-states : (joins : List Join) (b : Branch) (cell : ℕ) (rest : Script) → Honestly joins b.join b.child b.steps b.signals b.waits (WaitThen cell rest) ⊎ Cut b.join b.child (WaitThen cell rest)
      → (value cell ≡ None → rest ≡ Ends Starved) × Fresh joins (past_wait cell b rest)
  wait-states joins b cell rest (inl honest) = (honest.formed.1, record { formed = honest.formed.2; goal = honest.goal })
  wait-states joins b cell rest (inr cut) = absurd (let e = cut.is in cc)

  -- a wait for a poisoned cell
  starved-wait : (joins : List Join) (v cell : ℕ) (b : Branch) (rest : Script) → Poisons cell → (value cell ≡ None → rest ≡ Ends Starved) × Fresh joins (past_wait cell b rest) → State joins (Runs v) (ended Starved b) (Ends Starved)
  starved-wait joins v cell b rest (inl none) waits =
      let there = subst (Honestly joins b.join b.child b.steps b.signals (past_wait cell b rest).waits) (waits.0 none) waits.1 in inl (record { formed = there.formed; goal = there.goal })
  starved-wait joins v cell b rest (inr spoiled) waits = inr (record { end = Starved; is = refl; excused = law.starved b.join b.child cell spoiled })

  poisoned-one : (cell : ℕ) (lists : List (List ℕ)) → AllByRecursion (AllByRecursion Poisons) lists → has_in cell lists ≡ true → Poisons cell
  poisoned-one cell [] all is = absurd (cc)
  poisoned-one cell (list ∷ lists) all is = elim (either_true (has cell list) (has_in cell lists) is) [
    | inl here ↦ has-holds Poisons cell list all.0 here
    | inr later ↦ poisoned-one cell lists all.1 later
  ]

  pub truth-step : (root : Script) (w : World) (e : Event) (w' : World) → Step w e w' → MayLose e → True root w → True root w'
  truth-step root w _ _ (ticked v b rest others worker takes) may truth = true-back root w (Runs v) (past_tick b rest) others takes
      (λ state. inl (past-item w.joins b.join b.child b.steps (suc b.steps) b.signals b.waits b.signals b.waits (TickThen rest) rest (λ o is. absurd (cc)) (λ formed. formed) refl state)) truth
  truth-step root w _ _ (forks v b limit cells moves children rest others worker takes) may truth =
      forked-truth root w v b limit cells moves children rest others takes (takes-one (Right w.joins) takes truth.spots) truth
  truth-step root w _ _ (signals_it v b cell rest others worker takes) may truth = signalled-truth root w v b cell rest others takes (takes-one (Right w.joins) takes truth.spots) truth
  truth-step root w _ _ (passes v b cell rest others worker takes full) may truth = true-back root w (Runs v) (past_wait cell b rest) others takes
      (λ state. inl (wait-states w.joins b cell rest state).1) truth
  truth-step root w _ _ (starves v b cell rest others worker takes poisoned) may truth = true-back root w (Runs v) (ended Starved b) others takes
      (λ state. starved-wait w.joins v cell b rest (poisoned-one cell w.poisoned truth.poison_known poisoned) (wait-states w.joins b cell rest state)) truth
  truth-step root w _ _ (parks v b cell rest others worker takes full poisoned) may truth = true-back root w (AtCell cell) (past_wait cell b rest) others takes
      (λ state. wait-states w.joins b cell rest state) truth
  truth-step root w _ _ (finishes e v b o others worker takes how) may truth = finishes-truth root w e v b b.rest o others takes how may truth
  truth-step root w _ _ (takes_up e v u b others worker takes-up free takes) may truth = true-back root w (Runs v) b others takes (λ state. state) truth
  truth-step root w _ _ (resumes v b number join os others worker takes is all) may truth = true-back root w (Runs v) (go_behind (joined join.limit os) b) others takes
      (λ state. resume-state w.joins v number b join os (gathered-near w.joins number join w.stored is truth.ends_stored 1 join.children os (λ child o end. end) all)
      (subst (Behind w.joins b b.rest) is state)) truth
