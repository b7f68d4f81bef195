-- Events, their conditions in the order in which they are tested, and what they do.
use Rattle.std.specs.Prelude.{ℕ, suc, ◌+◌, Bool, true, false, not, List, [], ◌∷◌, ◌++◌, length, filter, map, Option, Some, None, Result, Ok, Err, if◌then◌else◌, nat_eq, nat_lt, slice_get}
use Rattle.std.specs.List.{remove}
use Rattle.merc_script.specs.declared.outcome.Outcome.{Outcome}
use Rattle.merc_script.specs.declared.outcome.Outcome.TheVariants.{Ok as Fine, Raise, Limit, Starved, NoMemory}
use Rattle.merc_script.specs.declared.cells.Move.{Move}
use Rattle.merc_script.specs.Script.{Script, Ends, TickThen, WaitThen, SignalThen, ForkThen, Children, NoChild, Child, Cell, size, sizes}
use Rattle.merc_script.specs.Joining.{joined, later}
use Rattle.merc_core.specs.declared.event.Event.{Event}
use Rattle.merc_core.specs.declared.event.Event.TheVariants.{Tick, Fork, Pop, Steal, Signal, Wait, End, Resume, Lost}
use Rattle.merc_core.specs.declared.event.NotNow.{NotNow}
use Rattle.merc_core.specs.declared.event.NotNow.TheVariants.{NoWorker, Idle, Busy, WrongItem, ListEmpty, SameWorker, NotAtEnd, NotHolding}
use Rattle.merc_core.specs.Rights.{has, has_in, without, signals_at, waits_at, signals_behind, waits_behind}
use Rattle.merc_core.specs.World.{Branch, Location, Listed, Runs, Holds, AtCell, AtJoin, Spot, spot, Join, Stored, World, outcomes_of}

-- what an event leaves, or the first of its conditions that fails
abbrev pub Answer : Type 0
Answer = Result World NotNow

-- the worker whose step an event is
abbrev pub worker_of : Event → ℕ
worker_of (Tick worker) = worker
worker_of (Fork worker) = worker
worker_of (Pop worker) = worker
worker_of (Steal worker victim) = worker
worker_of (Signal worker) = worker
worker_of (Wait worker) = worker
worker_of (End worker) = worker
worker_of (Resume worker) = worker
worker_of (Lost worker) = worker

-- Finding a branch

-- the place of the first that passes a test, where the first of all stands at this place
abbrev pub first_from : {A : Type 0} → ℕ → (A → Bool) → List A → Option ℕ
first_from place test [] = None
first_from place test (first ∷ rest) = if test first then Some place else first_from (place + 1) test rest

-- the place of the last that passes it, or the place found before where none does
abbrev pub last_from : {A : Type 0} → ℕ → Option ℕ → (A → Bool) → List A → Option ℕ
last_from place found test [] = found
last_from place found test (first ∷ rest) = last_from (place + 1) (if test first then Some place else found) test rest

abbrev pub beside : List Spot → Option Spot → Option (Spot × List Spot)
beside others None = None
beside others (Some one) = Some (one, others)

-- the one at a place, and the others
abbrev pub taken : List Spot → Option ℕ → Option (Spot × List Spot)
taken pool None = None
taken pool (Some place) = beside (remove pool place) (slice_get pool place)

-- a worker runs or holds it
abbrev pub acts_at : ℕ → Location → Bool
acts_at worker (Runs other) = nat_eq other worker
acts_at worker (Holds other join) = nat_eq other worker
acts_at worker (Listed other) = false
acts_at worker (AtCell cell) = false
acts_at worker (AtJoin join) = false

abbrev pub listed_at : ℕ → Location → Bool
listed_at worker (Listed other) = nat_eq other worker
listed_at worker (Runs other) = false
listed_at worker (Holds other join) = false
listed_at worker (AtCell cell) = false
listed_at worker (AtJoin join) = false

abbrev pub parked_at : ℕ → Location → Bool
parked_at cell (AtCell other) = nat_eq other cell
parked_at cell (Listed worker) = false
parked_at cell (Runs worker) = false
parked_at cell (Holds worker join) = false
parked_at cell (AtJoin join) = false

abbrev pub awaits_at : ℕ → Location → Bool
awaits_at join (AtJoin other) = nat_eq other join
awaits_at join (Listed worker) = false
awaits_at join (Runs worker) = false
awaits_at join (Holds worker other) = false
awaits_at join (AtCell cell) = false

abbrev pub acts : ℕ → Spot → Bool
acts worker one = acts_at worker one.location

abbrev pub listed : ℕ → Spot → Bool
listed worker one = listed_at worker one.location

abbrev pub parked : ℕ → Spot → Bool
parked cell one = parked_at cell one.location

abbrev pub awaits : ℕ → Spot → Bool
awaits join one = awaits_at join one.location

-- what a worker runs or holds; the back of its list; the front
abbrev pub in_hand : ℕ → List Spot → Option (Spot × List Spot)
in_hand worker pool = taken pool (first_from 0 (acts worker) pool)

abbrev pub back_of : ℕ → List Spot → Option (Spot × List Spot)
back_of worker pool = taken pool (last_from 0 None (listed worker) pool)

abbrev pub front_of : ℕ → List Spot → Option (Spot × List Spot)
front_of worker pool = taken pool (first_from 0 (listed worker) pool)

-- What becomes of branches

-- past one item
abbrev pub past : Branch → Script → Branch
past b rest = record b { passed = suc b.passed; at = suc b.at; rest = rest }

abbrev pub past_tick : Branch → Script → Branch
past_tick b rest = record (past b rest) { steps = suc b.steps }

abbrev pub past_signal : ℕ → Branch → Script → Branch
past_signal cell b rest = record (past b rest) { signals = without (cell ∷ []) b.signals }

abbrev pub past_wait : ℕ → Branch → Script → Branch
past_wait cell b rest = record (past b rest) { waits = without (cell ∷ []) b.waits }

-- its script ends here
abbrev pub ended : Outcome → Branch → Branch
ended o b = record b { rest = Ends o }

-- behind a Fork with this outcome
abbrev pub go_behind : Outcome → Branch → Branch
go_behind (Fine u) b = record b { steps = b.steps + u }
go_behind (Raise e n) b = ended (later b.steps (Raise e n)) b
go_behind Limit b = ended Limit b
go_behind Starved b = ended Starved b
go_behind NoMemory b = ended NoMemory b

-- the parent, as it goes on behind its Fork
abbrev pub parent_behind : Branch → List Cell → List Move → Children → Script → Branch
parent_behind b cells moves children rest = record b {
  passed = suc b.passed;
  at = suc b.at + sizes children;
  signals = signals_behind b.signals moves;
  waits = waits_behind b.waits cells moves;
  rest = rest;
}

-- the branches of a Fork's children from this one on, of which the first has so many items and ends before it
abbrev pub spawned : ℕ → Branch → List Cell → List Move → ℕ → ℕ → Children → List Branch
spawned join parent cells moves child at NoChild = []
spawned join parent cells moves child at (Child first more) =
    record {
      join = join;
      child = child;
      name = parent.name ++ ((parent.passed, child) ∷ []);
      passed = 0;
      at = at;
      steps = 0;
      signals = signals_at child cells moves;
      waits = waits_at child cells moves;
      rest = first;
    }
    ∷ spawned join parent cells moves (suc child) (at + size first) more

abbrev pub listed_backwards : ℕ → List Branch → List Spot
listed_backwards worker [] = []
listed_backwards worker (first ∷ rest) = listed_backwards worker rest ++ (spot (Listed worker) first ∷ [])

-- the first runs on a worker, the others go to the back of its list, the last of them first
abbrev pub placed : ℕ → List Branch → List Spot
placed worker [] = []
placed worker (first ∷ rest) = spot (Runs worker) first ∷ listed_backwards worker rest

-- What becomes of those that are parked. In a well-formed script one branch waits for a cell, and a join has one parent: the definitions need not say which.

abbrev pub woken : ℕ → (Branch → Branch) → Spot → Spot
woken worker change one = spot (Listed worker) (change one.branch)

-- those parked at a cell go to the back of a worker's list, changed
abbrev pub wake : ℕ → ℕ → (Branch → Branch) → List Spot → List Spot
wake cell worker change pool = filter (λ one. not (parked cell one)) pool ++ map (woken worker change) (filter (parked cell) pool)

abbrev pub unchanged : Branch → Branch
unchanged b = b

-- those parked at these cells end as starved, cell after cell
abbrev pub poison : List ℕ → ℕ → List Spot → List Spot
poison [] worker pool = pool
poison (cell ∷ cells) worker pool = poison cells worker (wake cell worker (ended Starved) pool)

abbrev pub hold_one : ℕ → ℕ → Spot → Spot
hold_one worker join one = if awaits join one then spot (Holds worker join) one.branch else one

-- a worker holds the parent that is parked at a join
abbrev pub hold : ℕ → ℕ → List Spot → List Spot
hold worker join pool = map (hold_one worker join) pool

-- if the join is done
abbrev pub hold_if : ℕ → ℕ → List Spot → Option (List Outcome) → List Spot
hold_if worker join pool None = pool
hold_if worker join pool (Some outcomes) = hold worker join pool

-- What each event does, for the branch that a worker runs and the others

abbrev pub run_on : World → ℕ → Branch → List Spot → Answer
run_on w worker b others = Ok (record w { pool = others ++ (spot (Runs worker) b ∷ []) })

abbrev pub tick_on : World → ℕ → Script → Branch → List Spot → Answer
tick_on w worker (TickThen rest) b others = run_on w worker (past_tick b rest) others
tick_on w worker _ b others = Err WrongItem

abbrev pub forked : World → ℕ → Branch → List Spot → ℕ → List Cell → List Move → Children → Script → World
forked w worker b others limit cells moves children rest = record w {
  joins = w.joins ++ (record {
    limit = limit;
    children = children;
    behind = suc b.at + sizes children;
    parent = Some (record { join = b.join; child = b.child; name = b.name; passed = b.passed });
  } ∷ []);
  pool = others ++ (spot (AtJoin (length w.joins)) (parent_behind b cells moves children rest)
      ∷ placed worker (spawned (length w.joins) b cells moves 1 (suc b.at) children));
}

abbrev pub fork_on : World → ℕ → Script → Branch → List Spot → Answer
fork_on w worker (ForkThen limit cells moves children rest) b others = Ok (forked w worker b others limit cells moves children rest)
fork_on w worker _ b others = Err WrongItem

abbrev pub signalled : World → ℕ → Branch → List Spot → ℕ → Script → World
signalled w worker b others cell rest = record w {
  full = w.full ++ (cell ∷ []);
  pool = wake cell worker unchanged others ++ (spot (Runs worker) (past_signal cell b rest) ∷ []);
}

abbrev pub signal_on : World → ℕ → Script → Branch → List Spot → Answer
signal_on w worker (SignalThen cell rest) b others = Ok (signalled w worker b others cell rest)
signal_on w worker _ b others = Err WrongItem

-- a wait for a cell that is full or not, and poisoned or not
abbrev pub wait_at : World → ℕ → ℕ → Script → Branch → List Spot → Bool → Bool → Answer
wait_at w worker cell rest b others true poisoned = run_on w worker (past_wait cell b rest) others
wait_at w worker cell rest b others false true = run_on w worker (ended Starved b) others
wait_at w worker cell rest b others false false = Ok (record w { pool = others ++ (spot (AtCell cell) (past_wait cell b rest) ∷ []) })

abbrev pub wait_on : World → ℕ → Script → Branch → List Spot → Answer
wait_on w worker (WaitThen cell rest) b others = wait_at w worker cell rest b others (has cell w.full) (has_in cell w.poisoned)
wait_on w worker _ b others = Err WrongItem

abbrev pub stored_with : World → Branch → Outcome → List Stored
stored_with w b o = w.stored ++ (record { join = b.join; child = b.child; outcome = o } ∷ [])

-- The outcome is stored, what the branch still had to signal is poisoned, and the worker holds the parent if the join is done.
abbrev pub finished : World → ℕ → Branch → List Spot → Outcome → World
finished w worker b others o = record w {
  stored = stored_with w b o;
  poisoned = w.poisoned ++ (b.signals ∷ []);
  pool = hold_if worker b.join (poison b.signals worker others) (outcomes_of (stored_with w b o) b.join (slice_get w.joins b.join));
}

abbrev pub end_on : World → ℕ → Script → Branch → List Spot → Answer
end_on w worker (Ends o) b others = Ok (finished w worker b others o)
end_on w worker _ b others = Err NotAtEnd

abbrev pub lose_on : World → ℕ → Branch → List Spot → Answer
lose_on w worker b others = Ok (finished w worker b others NoMemory)

abbrev pub resume_on : World → ℕ → Branch → List Spot → Option Join → Option (List Outcome) → Answer
resume_on w worker b others (Some join) (Some outcomes) = run_on w worker (go_behind (joined join.limit outcomes) b) others
resume_on w worker b others (Some join) None = Err NotHolding
resume_on w worker b others None outcomes = Err NotHolding

-- Conditions

abbrev pub if_worker : World → ℕ → Answer → Answer
if_worker w worker answer = if nat_lt worker w.workers then answer else Err NoWorker

-- the worker runs a branch
abbrev pub if_runs : Location → Branch → List Spot → (Branch → List Spot → Answer) → Answer
if_runs (Runs worker) b others go = go b others
if_runs (Holds worker join) b others go = Err Idle
if_runs (Listed worker) b others go = Err Idle
if_runs (AtCell cell) b others go = Err Idle
if_runs (AtJoin join) b others go = Err Idle

abbrev pub if_found : Option (Spot × List Spot) → (Branch → List Spot → Answer) → Answer
if_found None go = Err Idle
if_found (Some found) go = if_runs found.0.location found.0.branch found.1 go

abbrev pub running : World → ℕ → (Branch → List Spot → Answer) → Answer
running w worker go = if_worker w worker (if_found (in_hand worker w.pool) go)

-- it runs and holds none
abbrev pub if_free : Option (Spot × List Spot) → Answer → Answer
if_free None answer = answer
if_free (Some found) answer = Err Busy

-- it takes up what was found in a list
abbrev pub take_up : World → ℕ → Option (Spot × List Spot) → Answer
take_up w worker None = Err ListEmpty
take_up w worker (Some found) = run_on w worker found.0.branch found.1

-- it holds the parent of a join
abbrev pub if_holds : World → ℕ → Location → Branch → List Spot → Answer
if_holds w worker (Holds other join) b others = resume_on w worker b others (slice_get w.joins join) (outcomes_of w.stored join (slice_get w.joins join))
if_holds w worker (Runs other) b others = Err NotHolding
if_holds w worker (Listed other) b others = Err NotHolding
if_holds w worker (AtCell cell) b others = Err NotHolding
if_holds w worker (AtJoin join) b others = Err NotHolding

abbrev pub if_held : World → ℕ → Option (Spot × List Spot) → Answer
if_held w worker None = Err NotHolding
if_held w worker (Some found) = if_holds w worker found.0.location found.0.branch found.1

abbrev pub happens : World → Event → Answer
happens w (Tick worker) = running w worker (λ b others. tick_on w worker b.rest b others)
happens w (Fork worker) = running w worker (λ b others. fork_on w worker b.rest b others)
happens w (Pop worker) = if_worker w worker (if_free (in_hand worker w.pool) (take_up w worker (back_of worker w.pool)))
happens w (Steal worker victim) =
    if_worker w worker (if_worker w victim (if_free (in_hand worker w.pool)
    (if nat_eq worker victim then Err SameWorker else take_up w worker (front_of victim w.pool))))
happens w (Signal worker) = running w worker (λ b others. signal_on w worker b.rest b others)
happens w (Wait worker) = running w worker (λ b others. wait_on w worker b.rest b others)
happens w (End worker) = running w worker (λ b others. end_on w worker b.rest b others)
happens w (Resume worker) = if_worker w worker (if_held w worker (in_hand worker w.pool))
happens w (Lost worker) = running w worker (λ b others. lose_on w worker b others)

-- a list of events, one after the other
abbrev pub run : List Event → Answer → Answer
run [] answer = answer
run (first ∷ rest) (Err refused) = Err refused
run (first ∷ rest) (Ok w) = run rest (happens w first)
