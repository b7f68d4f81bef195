-- The core on a root script with one Fork: child 1 makes a step and signals cell 5, child 2 waits for it and makes a step.
use Rattle.std.proofs.Common.{◌≡◌, ℕ, Bool, List, [], ◌∷◌, Some, None, refl, pos, arith}
use Rattle.std.specs.Prelude.{Option, Ok, Err, ◌++◌, false, filter, map, length}
use Rattle.merc_value.specs.Value.{Int}
use Rattle.merc_script.specs.declared.outcome.Outcome.{Outcome}
use Rattle.merc_script.specs.declared.outcome.Outcome.TheVariants.{Ok as Fine, Raise, Limit, Starved, NoMemory}
use Rattle.merc_script.specs.Script.{Script, Ends, TickThen, WaitThen, SignalThen, ForkThen, NoChild, Child, Cell}
use Rattle.merc_core.specs.declared.event.Event.{Event}
use Rattle.merc_core.specs.declared.event.Event.TheVariants.{Tick, Fork, Pop, Steal, Signal, Wait, End, Resume, Lost}
use Rattle.merc_core.specs.declared.event.NotNow.{NotNow}
use Rattle.merc_core.specs.declared.event.NotNow.TheVariants.{NoWorker, Idle, Busy, WrongItem, ListEmpty, SameWorker, NotAtEnd, NotHolding}
use Rattle.merc_core.specs.World.{Spot, start, outcome}
use Rattle.merc_core.specs.Events.{Answer, acts, listed, parked, run}
use Rattle.merc_core.specs.WellFormed.{WellFormed}

abbrev after : Script → List Event → Answer
after root events = run events (Ok (start root 3))

-- what is seen of a world

abbrev outcome_of : Answer → Option (Option Outcome)
outcome_of (Ok w) = Some (outcome w)
outcome_of (Err refused) = None

abbrev refusal : Answer → Option NotNow
refusal (Ok w) = None
refusal (Err refused) = Some refused

-- the children's numbers of those that pass a test, in order
abbrev children_in : (Spot → Bool) → Answer → Option (List ℕ)
children_in test (Ok w) = Some (map (λ one. one.branch.child) (filter test w.pool))
children_in test (Err refused) = None

-- those in a worker's list from the front, those that it runs or holds, and those parked at a cell
abbrev list_of : ℕ → Answer → Option (List ℕ)
list_of worker = children_in (listed worker)

abbrev hand_of : ℕ → Answer → Option (List ℕ)
hand_of worker = children_in (acts worker)

abbrev parked_at : ℕ → Answer → Option (List ℕ)
parked_at cell = children_in (parked cell)

-- the number of branches
abbrev branches : Answer → Option ℕ
branches (Ok w) = Some (length w.pool)
branches (Err refused) = None

-- the rights to signal that those in a hand hold, and the names of all branches with the items that they have passed
abbrev signals_in : ℕ → Answer → Option (List (List ℕ))
signals_in worker (Ok w) = Some (map (λ one. one.branch.signals) (filter (acts worker) w.pool))
signals_in worker (Err refused) = None

abbrev names : Answer → Option (List (List (ℕ × ℕ) × ℕ))
names (Ok w) = Some (map (λ one. (one.branch.name, one.branch.passed)) w.pool)
names (Err refused) = None

-- the steps of all branches
abbrev steps_in : Answer → Option (List ℕ)
steps_in (Ok w) = Some (map (λ one. one.branch.steps) w.pool)
steps_in (Err refused) = None

-- a value handed on

abbrev pub seven : Cell
seven = record { cell = 5; producer = 1; consumer = 2; value = Some (Int (pos 7)) }

abbrev pub maker : Script
maker = TickThen (SignalThen 5 (Ends (Fine 1)))

abbrev pub user : Script
user = WaitThen 5 (TickThen (Ends (Fine 1)))

abbrev pub root : Script
root = ForkThen 9 (seven ∷ []) [] (Child maker (Child user NoChild)) (Ends (Fine 2))

pub root-well : WellFormed root
root-well = record { distinct = Prim.search arith; formed = Prim.search arith }

abbrev pub whole_run : List Event
whole_run = Fork 0 ∷ Steal 1 0 ∷ Wait 1 ∷ Tick 0 ∷ Signal 0 ∷ End 0 ∷ Pop 0 ∷ Tick 0 ∷ End 0 ∷ Resume 0 ∷ End 0 ∷ []

whole_run-ends : outcome_of (run whole_run (Ok (start root 2))) ≡ Some (Some (Fine 2))
whole_run-ends = refl

-- after the first three of these worker 1 runs nothing, and the user is parked
three-parked : parked_at 5 (after root (Fork 0 ∷ Steal 1 0 ∷ Wait 1 ∷ [])) ≡ Some (2 ∷ [])
three-parked = refl

three-pop : refusal (run (Fork 0 ∷ Steal 1 0 ∷ Wait 1 ∷ Pop 1 ∷ []) (Ok (start root 2))) ≡ Some ListEmpty
three-pop = refl

three-tick : refusal (run (Fork 0 ∷ Steal 1 0 ∷ Wait 1 ∷ Tick 1 ∷ []) (Ok (start root 2))) ≡ Some Idle
three-tick = refl

three-steal : refusal (run (Fork 0 ∷ Steal 1 0 ∷ Wait 1 ∷ Steal 1 1 ∷ []) (Ok (start root 2))) ≡ Some SameWorker
three-steal = refl

-- The signal wakes the user once: it goes to the list of the worker that signalled, and there are still three branches.
signal-wakes : list_of 0 (after root (Fork 0 ∷ Steal 1 0 ∷ Wait 1 ∷ Tick 0 ∷ Signal 0 ∷ [])) ≡ Some (2 ∷ [])
signal-wakes = refl

signal-once : branches (after root (Fork 0 ∷ Steal 1 0 ∷ Wait 1 ∷ Tick 0 ∷ Signal 0 ∷ [])) ≡ Some 3
signal-once = refl

-- A right is held until it is used.
right-held : signals_in 0 (after root (Fork 0 ∷ Tick 0 ∷ [])) ≡ Some ((5 ∷ []) ∷ [])
right-held = refl

right-used : signals_in 0 (after root (Fork 0 ∷ Tick 0 ∷ Signal 0 ∷ [])) ≡ Some ([] ∷ [])
right-used = refl

-- Where the cell is full the user goes past its Wait.
full-passes : outcome_of (after root (Fork 0 ∷ Tick 0 ∷ Signal 0 ∷ End 0 ∷ Pop 0 ∷ Wait 0 ∷ Tick 0 ∷ End 0 ∷ Resume 0 ∷ End 0 ∷ [])) ≡ Some (Some (Fine 2))
full-passes = refl

-- The parent is held at the last end, and not before.
not-yet-held : hand_of 0 (after root (Fork 0 ∷ Steal 1 0 ∷ Wait 1 ∷ Tick 0 ∷ Signal 0 ∷ End 0 ∷ [])) ≡ Some []
not-yet-held = refl

not-yet-resumed : refusal (after root (Fork 0 ∷ Steal 1 0 ∷ Wait 1 ∷ Tick 0 ∷ Signal 0 ∷ End 0 ∷ Resume 0 ∷ [])) ≡ Some NotHolding
not-yet-resumed = refl

-- the other conditions, each where those tested before it hold
no-worker : refusal (after root (Tick 3 ∷ [])) ≡ Some NoWorker
no-worker = refl

no-victim : refusal (after root (Steal 0 3 ∷ [])) ≡ Some NoWorker
no-victim = refl

busy-pop : refusal (after root (Pop 0 ∷ [])) ≡ Some Busy
busy-pop = refl

busy-steal : refusal (after root (Steal 0 0 ∷ [])) ≡ Some Busy
busy-steal = refl

wrong-tick : refusal (after root (Tick 0 ∷ [])) ≡ Some WrongItem
wrong-tick = refl

wrong-fork : refusal (after root (Fork 0 ∷ Fork 0 ∷ [])) ≡ Some WrongItem
wrong-fork = refl

wrong-signal : refusal (after root (Signal 0 ∷ [])) ≡ Some WrongItem
wrong-signal = refl

wrong-wait : refusal (after root (Wait 0 ∷ [])) ≡ Some WrongItem
wrong-wait = refl

not-at-end : refusal (after root (End 0 ∷ [])) ≡ Some NotAtEnd
not-at-end = refl

idle-end : refusal (after root (End 1 ∷ [])) ≡ Some Idle
idle-end = refl

empty-steal : refusal (after root (Steal 1 0 ∷ [])) ≡ Some ListEmpty
empty-steal = refl

-- each event of a worker that there is not, and of one that runs nothing
abbrev refusals : List Event → List Event → List (Option NotNow)
refusals before events = map (λ event. refusal (after root (before ++ event ∷ []))) events

no-worker-each : refusals [] (Fork 3 ∷ Pop 3 ∷ Steal 3 0 ∷ Signal 3 ∷ Wait 3 ∷ End 3 ∷ Resume 3 ∷ Lost 3 ∷ [])
    ≡ Some NoWorker ∷ Some NoWorker ∷ Some NoWorker ∷ Some NoWorker ∷ Some NoWorker ∷ Some NoWorker ∷ Some NoWorker ∷ Some NoWorker ∷ []
no-worker-each = refl

idle-each : refusals [] (Tick 1 ∷ Fork 1 ∷ Signal 1 ∷ Wait 1 ∷ Lost 1 ∷ Pop 1 ∷ Resume 1 ∷ [])
    ≡ Some Idle ∷ Some Idle ∷ Some Idle ∷ Some Idle ∷ Some Idle ∷ Some ListEmpty ∷ Some NotHolding ∷ []
idle-each = refl

-- a branch at a Tick, at a Wait, at a Signal and at its end takes no other event
tick-each : refusals (Fork 0 ∷ []) (Signal 0 ∷ Wait 0 ∷ End 0 ∷ []) ≡ Some WrongItem ∷ Some WrongItem ∷ Some NotAtEnd ∷ []
tick-each = refl

wait-each : refusals (Fork 0 ∷ Steal 1 0 ∷ []) (Tick 1 ∷ Fork 1 ∷ Signal 1 ∷ End 1 ∷ []) ≡ Some WrongItem ∷ Some WrongItem ∷ Some WrongItem ∷ Some NotAtEnd ∷ []
wait-each = refl

signal-each : refusals (Fork 0 ∷ Tick 0 ∷ []) (Tick 0 ∷ Fork 0 ∷ Wait 0 ∷ End 0 ∷ []) ≡ Some WrongItem ∷ Some WrongItem ∷ Some WrongItem ∷ Some NotAtEnd ∷ []
signal-each = refl

end-each : refusals (Fork 0 ∷ Tick 0 ∷ Signal 0 ∷ []) (Tick 0 ∷ Fork 0 ∷ Signal 0 ∷ Wait 0 ∷ []) ≡ Some WrongItem ∷ Some WrongItem ∷ Some WrongItem ∷ Some WrongItem ∷ []
end-each = refl

runs-no-parent : refusal (after root (Resume 0 ∷ [])) ≡ Some NotHolding
runs-no-parent = refl

-- a parent that is held runs not, but its worker is busy
abbrev to_held : List Event
to_held = Fork 0 ∷ Tick 0 ∷ Signal 0 ∷ End 0 ∷ Pop 0 ∷ Wait 0 ∷ Tick 0 ∷ End 0 ∷ []

abbrev held_then : Event → Answer
held_then event = run (event ∷ []) (after root to_held)

held-tick : refusal (held_then (Tick 0)) ≡ Some Idle
held-tick = refl

held-lost : refusal (held_then (Lost 0)) ≡ Some Idle
held-lost = refl

held-pop : refusal (held_then (Pop 0)) ≡ Some Busy
held-pop = refl

held-steal : refusal (held_then (Steal 0 1)) ≡ Some Busy
held-steal = refl

-- three children: the first runs, the others go to the back of the list, the last child first

abbrev wide : Script
wide = ForkThen 9 [] [] (Child (Ends (Fine 1)) (Child (Ends (Fine 1)) (Child (Ends (Fine 1)) NoChild))) (Ends (Fine 3))

wide-runs : hand_of 0 (after wide (Fork 0 ∷ [])) ≡ Some (1 ∷ [])
wide-runs = refl

wide-list : list_of 0 (after wide (Fork 0 ∷ [])) ≡ Some (3 ∷ 2 ∷ [])
wide-list = refl

-- a thief takes the front, the worker itself the back
wide-stolen : hand_of 1 (after wide (Fork 0 ∷ Steal 1 0 ∷ [])) ≡ Some (3 ∷ [])
wide-stolen = refl

wide-popped : hand_of 0 (after wide (Fork 0 ∷ End 0 ∷ Pop 0 ∷ [])) ≡ Some (2 ∷ [])
wide-popped = refl

-- A Fork behind another puts its children behind those that are there.
abbrev twice : Script
twice = ForkThen 9 [] [] (Child (ForkThen 9 [] [] (Child (Ends (Fine 1)) (Child (Ends (Fine 1)) NoChild)) (Ends (Fine 2))) (Child (Ends (Fine 1)) (Child (Ends (Fine 1)) NoChild))) (Ends (Fine 4))

twice-list : list_of 0 (after twice (Fork 0 ∷ Fork 0 ∷ [])) ≡ Some (3 ∷ 2 ∷ 2 ∷ [])
twice-list = refl

-- The parent is behind its Fork, its children are at the beginnings of theirs, each under its number at the Fork's place.
wide-names : names (after (TickThen wide) (Tick 0 ∷ Fork 0 ∷ [])) ≡ Some (([], 2) ∷ ((1, 1) ∷ [], 0) ∷ ((1, 3) ∷ [], 0) ∷ ((1, 2) ∷ [], 0) ∷ [])
wide-names = refl

-- Worker 1 signals, and what it wakes goes to its own list.
abbrev thieves : Script
thieves = ForkThen 9 (record { cell = 5; producer = 2; consumer = 3; value = Some (Int (pos 7)) } ∷ []) []
    (Child (Ends (Fine 0)) (Child (SignalThen 5 (Ends (Fine 0))) (Child (WaitThen 5 (Ends (Fine 0))) NoChild))) (Ends (Fine 0))

thief-list : list_of 1 (after thieves (Fork 0 ∷ Steal 1 0 ∷ Wait 1 ∷ Steal 1 0 ∷ Signal 1 ∷ [])) ≡ Some (3 ∷ [])
thief-list = refl

-- Two cells that are poisoned: child 1 raises name 40 after two steps, children 2 and 3 wait for what it does not signal.

abbrev owed : ℕ → ℕ → Cell
owed cell consumer = record { cell = cell; producer = 1; consumer = consumer; value = None }

abbrev raiser : Script
raiser = TickThen (TickThen (Ends (Raise 40 2)))

abbrev poisoned : Script
poisoned = TickThen (ForkThen 9 (owed 5 2 ∷ owed 6 3 ∷ []) [] (Child raiser (Child (WaitThen 5 (Ends Starved)) (Child (WaitThen 6 (Ends Starved)) NoChild))) (Ends (Raise 40 3)))

poisoned-well : WellFormed poisoned
poisoned-well = record { distinct = Prim.search arith; formed = Prim.search arith }

abbrev to_poison : List Event
to_poison = Tick 0 ∷ Fork 0 ∷ Steal 1 0 ∷ Steal 2 0 ∷ Wait 1 ∷ Wait 2 ∷ Tick 0 ∷ Tick 0 ∷ End 0 ∷ []

-- both waiters go to the list in the order of the cells
poisoned-list : list_of 0 (after poisoned to_poison) ≡ Some (2 ∷ 3 ∷ [])
poisoned-list = refl

-- .. at their ends, and the parent's raise counts its own step before the Fork
poisoned-ends : outcome_of (run (Pop 0 ∷ End 0 ∷ Pop 0 ∷ End 0 ∷ Resume 0 ∷ End 0 ∷ []) (after poisoned to_poison)) ≡ Some (Some (Raise 40 3))
poisoned-ends = refl

-- a wait for a cell that is poisoned already
late-wait : refusal (after poisoned (Tick 0 ∷ Fork 0 ∷ Tick 0 ∷ Tick 0 ∷ End 0 ∷ Pop 0 ∷ Wait 0 ∷ Wait 0 ∷ [])) ≡ Some WrongItem
late-wait = refl

late-ends : outcome_of (after poisoned (Tick 0 ∷ Fork 0 ∷ Tick 0 ∷ Tick 0 ∷ End 0 ∷ Pop 0 ∷ Wait 0 ∷ End 0 ∷ Pop 0 ∷ Wait 0 ∷ End 0 ∷ Resume 0 ∷ End 0 ∷ [])) ≡ Some (Some (Raise 40 3))
late-ends = refl

-- the steps of a Fork that ended Ok count too
abbrev summed : Script
summed = TickThen (ForkThen 9 [] [] (Child (Ends (Fine 1)) NoChild) (ForkThen 9 [] [] (Child (Ends (Raise 40 1)) NoChild) (Ends (Raise 40 3))))

summed-well : WellFormed summed
summed-well = record { distinct = Prim.search arith; formed = Prim.search arith }

summed-ends : outcome_of (after summed (Tick 0 ∷ Fork 0 ∷ End 0 ∷ Resume 0 ∷ Fork 0 ∷ End 0 ∷ Resume 0 ∷ End 0 ∷ [])) ≡ Some (Some (Raise 40 3))
summed-ends = refl

-- a child's steps begin at 0, whatever steps its parent has made
child-starts : steps_in (after summed (Tick 0 ∷ Fork 0 ∷ [])) ≡ Some (1 ∷ 0 ∷ [])
child-starts = refl

child-starts-behind : steps_in (after summed (Tick 0 ∷ Fork 0 ∷ [])) ≡ Some (1 ∷ 1 ∷ []) → ⊥
child-starts-behind same = cc

-- children that make more steps together than the Fork's limit
abbrev limited : Script
limited = ForkThen 1 [] [] (Child (Ends (Fine 1)) (Child (Ends (Fine 1)) NoChild)) (Ends Limit)

limited-well : WellFormed limited
limited-well = record { distinct = Prim.search arith; formed = Prim.search arith }

limited-ends : outcome_of (after limited (Fork 0 ∷ End 0 ∷ Pop 0 ∷ End 0 ∷ Resume 0 ∷ End 0 ∷ [])) ≡ Some (Some Limit)
limited-ends = refl

-- a child that gives its own child the right to wait for what is not signalled: both are starved
abbrev starved : Script
starved = ForkThen 9 (owed 5 2 ∷ []) []
    (Child (Ends (Raise 40 0)) (Child (ForkThen 9 [] ((record { cell = 5; child = 1; signal = false }) ∷ []) (Child (WaitThen 5 (Ends Starved)) NoChild) (Ends Starved)) NoChild)) (Ends (Raise 40 0))

starved-well : WellFormed starved
starved-well = record { distinct = Prim.search arith; formed = Prim.search arith }

-- the inner parent goes on at its own end, as starved
starved-inner : outcome_of (after starved (Fork 0 ∷ Steal 1 0 ∷ Fork 1 ∷ Wait 1 ∷ End 0 ∷ Pop 0 ∷ End 0 ∷ Resume 0 ∷ End 0 ∷ Resume 0 ∷ End 0 ∷ [])) ≡ Some (Some (Raise 40 0))
starved-inner = refl

-- want of memory, wherever the branch stands: what it owed is poisoned, and the parent ends with it

lost-poisons : list_of 0 (after root (Fork 0 ∷ Steal 1 0 ∷ Wait 1 ∷ Lost 0 ∷ [])) ≡ Some (2 ∷ [])
lost-poisons = refl

lost-ends : outcome_of (after root (Fork 0 ∷ Steal 1 0 ∷ Wait 1 ∷ Lost 0 ∷ Pop 0 ∷ End 0 ∷ Resume 0 ∷ End 0 ∷ [])) ≡ Some (Some NoMemory)
lost-ends = refl
