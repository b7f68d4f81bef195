-- What an accepted event began with, and what it leaves.
use Rattle.std.proofs.Common.{◌≡◌, ℕ, inl, inr, Bool, true, false, List, [], ◌∷◌, ◌++◌, Some, None, refl, subst, arith}
use Rattle.std.proofs.lemmas.Bool.Decides.{nat_tests}
use Rattle.std.specs.Prelude.{Option, Ok, Err, slice_get, if◌then◌else◌, nat_eq, nat_lt}
use Rattle.std.specs.List.{AllByRecursion}
use Rattle.merc_script.specs.declared.outcome.Outcome.{Outcome}
use Rattle.merc_script.specs.declared.outcome.Outcome.TheVariants.{NoMemory, Starved}
use Rattle.merc_script.specs.declared.cells.Move.{Move}
use Rattle.merc_script.specs.Script.{Script, Ends, TickThen, WaitThen, SignalThen, ForkThen, Children, Cell}
use Rattle.merc_script.specs.Joining.{joined}
use Rattle.merc_core.specs.declared.event.Event.{Event}
use Rattle.merc_core.specs.declared.event.Event.TheVariants.{Tick, Fork, Pop, Steal, Signal, Wait, End, Resume, Lost}
use Rattle.merc_core.specs.declared.event.NotNow.{NotNow}
use Rattle.merc_core.specs.declared.event.NotNow.TheVariants.{NoWorker, SameWorker}
use Rattle.merc_core.specs.Rights.{has, has_in}
use Rattle.merc_core.specs.World.{Branch, Location, Listed, Runs, Holds, AtCell, AtJoin, Spot, spot, Join, World, outcomes_of}
use Rattle.merc_core.specs.Events.{Answer, acts, acts_at, listed, listed_at, in_hand, back_of, front_of, past_tick, past_wait, ended, go_behind, run_on, tick_on, forked, fork_on, signalled, signal_on, wait_at, wait_on, finished, end_on, lose_on, resume_on, if_worker, if_runs, if_found, running, if_free, take_up, if_holds, if_held, happens, run}
use Rattle.merc_core.proofs.Pool.{Takes, Took, took_first, took_last, chosen}

abbrev pub with_rest : Branch → Script → Branch
with_rest b rest = record b { rest = rest }

-- the branch runs again, or is parked
abbrev pub put_back : World → Location → Branch → List Spot → World
put_back w location b others = record w { pool = others ++ (spot location b ∷ []) }

-- a worker takes up a branch that is listed for some worker
pub data TakesUp : Event → ℕ → Type 0 where
  pops : (v : ℕ) → TakesUp (Pop v) v
  steals : (v victim : ℕ) → TakesUp (Steal v victim) v

pub data Finishes : Event → ℕ → Script → Outcome → Type 0 where
  ends : (v : ℕ) (o : Outcome) → Finishes (End v) v (Ends o) o
  loses : (v : ℕ) (rest : Script) → Finishes (Lost v) v rest NoMemory

pub data Step (w : World) : Event → World → Type 0 where
  ticked : (v : ℕ) (b : Branch) (rest : Script) (others : List Spot) → nat_lt v w.workers ≡ true
      → Takes w.pool (spot (Runs v) (with_rest b (TickThen rest))) others
      → Step w (Tick v) (put_back w (Runs v) (past_tick b rest) others)
  forks : (v : ℕ) (b : Branch) (limit : ℕ) (cells : List Cell) (moves : List Move) (children : Children) (rest : Script) (others : List Spot) → nat_lt v w.workers ≡ true
      → Takes w.pool (spot (Runs v) (with_rest b (ForkThen limit cells moves children rest))) others
      → Step w (Fork v) (forked w v b others limit cells moves children rest)
  signals : (v : ℕ) (b : Branch) (cell : ℕ) (rest : Script) (others : List Spot) → nat_lt v w.workers ≡ true
      → Takes w.pool (spot (Runs v) (with_rest b (SignalThen cell rest))) others
      → Step w (Signal v) (signalled w v b others cell rest)
  passes : (v : ℕ) (b : Branch) (cell : ℕ) (rest : Script) (others : List Spot) → nat_lt v w.workers ≡ true
      → Takes w.pool (spot (Runs v) (with_rest b (WaitThen cell rest))) others → has cell w.full ≡ true
      → Step w (Wait v) (put_back w (Runs v) (past_wait cell b rest) others)
  starves : (v : ℕ) (b : Branch) (cell : ℕ) (rest : Script) (others : List Spot) → nat_lt v w.workers ≡ true
      → Takes w.pool (spot (Runs v) (with_rest b (WaitThen cell rest))) others → has_in cell w.poisoned ≡ true
      → Step w (Wait v) (put_back w (Runs v) (ended Starved b) others)
  parks : (v : ℕ) (b : Branch) (cell : ℕ) (rest : Script) (others : List Spot) → nat_lt v w.workers ≡ true
      → Takes w.pool (spot (Runs v) (with_rest b (WaitThen cell rest))) others → has cell w.full ≡ false → has_in cell w.poisoned ≡ false
      → Step w (Wait v) (put_back w (AtCell cell) (past_wait cell b rest) others)
  finishes : (e : Event) (v : ℕ) (b : Branch) (o : Outcome) (others : List Spot) → nat_lt v w.workers ≡ true
      → Takes w.pool (spot (Runs v) b) others → Finishes e v b.rest o
      → Step w e (finished w v b others o)
  takes_up : (e : Event) (v u : ℕ) (b : Branch) (others : List Spot) → nat_lt v w.workers ≡ true
      → TakesUp e v → in_hand v w.pool ≡ None → Takes w.pool (spot (Listed u) b) others
      → Step w e (put_back w (Runs v) b others)
  resumes : (v : ℕ) (b : Branch) (number : ℕ) (join : Join) (outcomes : List Outcome) (others : List Spot) → nat_lt v w.workers ≡ true
      → Takes w.pool (spot (Holds v number) b) others → slice_get w.joins number ≡ Some join → outcomes_of w.stored number (Some join) ≡ Some outcomes
      → Step w (Resume v) (put_back w (Runs v) (go_behind (joined join.limit outcomes) b) others)

abbrev accepted : World → Answer
accepted w = Ok w

to_step : {w w' : World} (e : Event) (u : World) → Step w e u → accepted u ≡ accepted w' → Step w e w'
to_step {w} {w'} e u step is = let same : u ≡ w' = cc in subst (Step w e) same step

-- the branch that a worker runs
record Began (w : World) (v : ℕ) (go : Branch → List Spot → Answer) (w' : World) : Type 0 where
  worker : nat_lt v w.workers ≡ true
  branch : Branch
  others : List Spot
  takes : Takes w.pool (spot (Runs v) branch) others
  went : go branch others ≡ Ok w'

began_at : (w : World) (v : ℕ) (go : Branch → List Spot → Answer) (w' : World) → nat_lt v w.workers ≡ true → (location : Location) (b : Branch) (others : List Spot)
    → Takes w.pool (spot location b) others → acts_at v location ≡ true → if_runs location b others go ≡ Ok w' → Began w v go w'
began_at w v go w' worker (Runs u) b others takes acting went =
    let same : u ≡ v = grind (arith, nat_tests, acting) in
    record { worker = worker; branch = b; others = others; takes = subst (λ (k : ℕ). Takes w.pool (spot (Runs k) b) others) same takes; went = went }
began_at w v go w' worker (Holds u join) b others takes acting went = absurd (cc)
began_at w v go w' worker (Listed u) b others takes acting went = absurd (cc)
began_at w v go w' worker (AtCell cell) b others takes acting went = absurd (cc)
began_at w v go w' worker (AtJoin join) b others takes acting went = absurd (cc)

began : (w : World) (v : ℕ) (go : Branch → List Spot → Answer) (w' : World) → running w v go ≡ Ok w' → Began w v go w'
began w v go w' is =
    elim (chosen (nat_lt v w.workers) (if_found (in_hand v w.pool) go) (Err NoWorker) (Ok w') is) [
      | inl p ↦ found_one (in_hand v w.pool) refl p.0 p.1
      | inr p ↦ absurd (cc)
    ]
  where
    found_one : (q : Option (Spot × List Spot)) → in_hand v w.pool ≡ q → nat_lt v w.workers ≡ true → if_found q go ≡ Ok w' → Began w v go w'
    found_one None e worker went = absurd (cc)
    found_one (Some q) e worker went = let took = took_first (acts v) w.pool q e in began_at w v go w' worker q.0.location q.0.branch q.1 took.takes took.passes went

module _ (w : World) (v : ℕ) (worker : nat_lt v w.workers ≡ true) (b : Branch) (others : List Spot) (w' : World) where
  ticks_to : (rest : Script) → Takes w.pool (spot (Runs v) (with_rest b rest)) others → tick_on w v rest (with_rest b rest) others ≡ Ok w' → Step w (Tick v) w'
  ticks_to (TickThen rest) takes is = to_step _ _ (ticked v b rest others worker takes) is
  ticks_to _ takes is = absurd (cc)

  forks_to : (rest : Script) → Takes w.pool (spot (Runs v) (with_rest b rest)) others → fork_on w v rest (with_rest b rest) others ≡ Ok w' → Step w (Fork v) w'
  forks_to (ForkThen limit cells moves children rest) takes is = to_step _ _ (forks v b limit cells moves children rest others worker takes) is
  forks_to _ takes is = absurd (cc)

  signals_to : (rest : Script) → Takes w.pool (spot (Runs v) (with_rest b rest)) others → signal_on w v rest (with_rest b rest) others ≡ Ok w' → Step w (Signal v) w'
  signals_to (SignalThen cell rest) takes is = to_step _ _ (signals v b cell rest others worker takes) is
  signals_to _ takes is = absurd (cc)

  wait_cases : (cell : ℕ) (rest : Script) (full poisoned : Bool) → has cell w.full ≡ full → has_in cell w.poisoned ≡ poisoned
      → Takes w.pool (spot (Runs v) (with_rest b (WaitThen cell rest))) others → wait_at w v cell rest (with_rest b (WaitThen cell rest)) others full poisoned ≡ Ok w' → Step w (Wait v) w'
  wait_cases cell rest true poisoned e f takes is = to_step _ _ (passes v b cell rest others worker takes e) is
  wait_cases cell rest false true e f takes is = to_step _ _ (starves v b cell rest others worker takes f) is
  wait_cases cell rest false false e f takes is = to_step _ _ (parks v b cell rest others worker takes e f) is

  waits_to : (rest : Script) → Takes w.pool (spot (Runs v) (with_rest b rest)) others → wait_on w v rest (with_rest b rest) others ≡ Ok w' → Step w (Wait v) w'
  waits_to (WaitThen cell rest) takes is = wait_cases cell rest (has cell w.full) (has_in cell w.poisoned) refl refl takes is
  waits_to _ takes is = absurd (cc)

  ends_to : (rest : Script) → Takes w.pool (spot (Runs v) (with_rest b rest)) others → end_on w v rest (with_rest b rest) others ≡ Ok w' → Step w (End v) w'
  ends_to (Ends o) takes is = to_step _ _ (finishes (End v) v (with_rest b (Ends o)) o others worker takes (ends v o)) is
  ends_to _ takes is = absurd (cc)

loses_to : (w : World) (v : ℕ) (w' : World) → Began w v (λ b others. lose_on w v b others) w' → Step w (Lost v) w'
loses_to w v w' began' = to_step _ _ (finishes (Lost v) v began'.branch NoMemory began'.others began'.worker began'.takes (loses v began'.branch.rest)) began'.went

takes_up_at : (w : World) (e : Event) (v u : ℕ) (w' : World) → nat_lt v w.workers ≡ true → TakesUp e v → in_hand v w.pool ≡ None → (location : Location) (b : Branch) (others : List Spot)
    → Takes w.pool (spot location b) others → listed_at u location ≡ true → run_on w v b others ≡ Ok w' → Step w e w'
takes_up_at w e v u w' worker takes-up free (Listed other) b others takes listing is = to_step _ _ (takes_up e v other b others worker takes-up free takes) is
takes_up_at w e v u w' worker takes-up free (Runs other) b others takes listing is = absurd (cc)
takes_up_at w e v u w' worker takes-up free (Holds other join) b others takes listing is = absurd (cc)
takes_up_at w e v u w' worker takes-up free (AtCell cell) b others takes listing is = absurd (cc)
takes_up_at w e v u w' worker takes-up free (AtJoin join) b others takes listing is = absurd (cc)

takes_up_to : (w : World) (e : Event) (v u : ℕ) (w' : World) → nat_lt v w.workers ≡ true → TakesUp e v → in_hand v w.pool ≡ None → (q : Option (Spot × List Spot))
    → ((p : Spot × List Spot) → q ≡ Some p → Took (listed u) w.pool p) → take_up w v q ≡ Ok w' → Step w e w'
takes_up_to w e v u w' worker takes-up free None took is = absurd (cc)
takes_up_to w e v u w' worker takes-up free (Some p) took is = takes_up_at w e v u w' worker takes-up free p.0.location p.0.branch p.1 (took p refl).takes (took p refl).passes is

is_free : (q : Option (Spot × List Spot)) (answer : Answer) (w' : World) → if_free q answer ≡ Ok w' → (q ≡ None) × (answer ≡ Ok w')
is_free None answer w' is = (refl, is)
is_free (Some p) answer w' is = absurd (cc)

pops_to : (w : World) (v : ℕ) (w' : World) → happens w (Pop v) ≡ Ok w' → Step w (Pop v) w'
pops_to w v w' is =
    elim (chosen (nat_lt v w.workers) (if_free (in_hand v w.pool) (take_up w v (back_of v w.pool))) (Err NoWorker) (Ok w') is) [
      | inl p ↦ takes_up_to w (Pop v) v v w' p.0 (pops v) (is_free (in_hand v w.pool) _ w' p.1).0 (back_of v w.pool) (λ q e. took_last (listed v) w.pool q e) (is_free (in_hand v w.pool) _ w' p.1).1
      | inr p ↦ absurd (cc)
    ]

module _ (w : World) (v u : ℕ) where
  abbrev stolen : Answer
  stolen = if nat_eq v u then Err SameWorker else take_up w v (front_of u w.pool)

  abbrev stolen_if_free : Answer
  stolen_if_free = if_free (in_hand v w.pool) stolen

steals_to : (w : World) (v u : ℕ) (w' : World) → happens w (Steal v u) ≡ Ok w' → Step w (Steal v u) w'
steals_to w v u w' is =
    elim (chosen (nat_lt v w.workers) (if_worker w u (stolen_if_free w v u)) (Err NoWorker) (Ok w') is) [
      | inl p ↦ elim (chosen (nat_lt u w.workers) (stolen_if_free w v u) (Err NoWorker) (Ok w') p.1) [
        | inl q ↦ elim (chosen (nat_eq v u) (Err SameWorker) (take_up w v (front_of u w.pool)) (Ok w') (is_free (in_hand v w.pool) (stolen w v u) w' q.1).1) [
          | inl r ↦ absurd (cc)
          | inr r ↦ takes_up_to w (Steal v u) v u w' p.0 (steals v u) (is_free (in_hand v w.pool) (stolen w v u) w' q.1).0 (front_of u w.pool) (λ t e. took_first (listed u) w.pool t e) r.1
        ]
        | inr q ↦ absurd (cc)
      ]
      | inr p ↦ absurd (cc)
    ]

resume_cases : (w : World) (v u : ℕ) (w' : World) → nat_lt v w.workers ≡ true → u ≡ v → (number : ℕ) (b : Branch) (others : List Spot) → Takes w.pool (spot (Holds u number) b) others
    → (join : Option Join) (outcomes : Option (List Outcome)) → slice_get w.joins number ≡ join → outcomes_of w.stored number join ≡ outcomes
    → resume_on w v b others join outcomes ≡ Ok w' → Step w (Resume v) w'
resume_cases w v u w' worker same number b others takes (Some join) (Some outcomes) e f is =
    to_step _ _ (resumes v b number join outcomes others worker (subst (λ (k : ℕ). Takes w.pool (spot (Holds k number) b) others) same takes) e f) is
resume_cases w v u w' worker same number b others takes (Some join) None e f is = absurd (cc)
resume_cases w v u w' worker same number b others takes None outcomes e f is = absurd (cc)

resumes_at : (w : World) (v : ℕ) (w' : World) → nat_lt v w.workers ≡ true → (location : Location) (b : Branch) (others : List Spot)
    → Takes w.pool (spot location b) others → acts_at v location ≡ true → if_holds w v location b others ≡ Ok w' → Step w (Resume v) w'
resumes_at w v w' worker (Holds u number) b others takes acting is =
    let same : u ≡ v = grind (arith, nat_tests, acting) in
    resume_cases w v u w' worker same number b others takes (slice_get w.joins number) (outcomes_of w.stored number (slice_get w.joins number)) refl refl is
resumes_at w v w' worker (Runs u) b others takes acting is = absurd (cc)
resumes_at w v w' worker (Listed u) b others takes acting is = absurd (cc)
resumes_at w v w' worker (AtCell cell) b others takes acting is = absurd (cc)
resumes_at w v w' worker (AtJoin join) b others takes acting is = absurd (cc)

resumes_to : (w : World) (v : ℕ) (w' : World) → happens w (Resume v) ≡ Ok w' → Step w (Resume v) w'
resumes_to w v w' is =
    elim (chosen (nat_lt v w.workers) (if_held w v (in_hand v w.pool)) (Err NoWorker) (Ok w') is) [
      | inl p ↦ found_one (in_hand v w.pool) refl p.0 p.1
      | inr p ↦ absurd (cc)
    ]
  where
    found_one : (q : Option (Spot × List Spot)) → in_hand v w.pool ≡ q → nat_lt v w.workers ≡ true → if_held w v q ≡ Ok w' → Step w (Resume v) w'
    found_one None e worker went = absurd (cc)
    found_one (Some q) e worker went = let took = took_first (acts v) w.pool q e in resumes_at w v w' worker q.0.location q.0.branch q.1 took.takes took.passes went

pub step_of : (w : World) (e : Event) (w' : World) → happens w e ≡ Ok w' → Step w e w'
step_of w (Tick v) w' is = let b = began w v _ w' is in ticks_to w v b.worker b.branch b.others w' b.branch.rest b.takes b.went
step_of w (Fork v) w' is = let b = began w v _ w' is in forks_to w v b.worker b.branch b.others w' b.branch.rest b.takes b.went
step_of w (Pop v) w' is = pops_to w v w' is
step_of w (Steal v u) w' is = steals_to w v u w' is
step_of w (Signal v) w' is = let b = began w v _ w' is in signals_to w v b.worker b.branch b.others w' b.branch.rest b.takes b.went
step_of w (Wait v) w' is = let b = began w v _ w' is in waits_to w v b.worker b.branch b.others w' b.branch.rest b.takes b.went
step_of w (End v) w' is = let b = began w v _ w' is in ends_to w v b.worker b.branch b.others w' b.branch.rest b.takes b.went
step_of w (Resume v) w' is = resumes_to w v w' is
step_of w (Lost v) w' is = loses_to w v w' (began w v _ w' is)

pub run-refused : (events : List Event) (refused : NotNow) (w' : World) → run events (Err refused) ≡ Ok w' → ⊥
run-refused [] refused w' is = absurd (cc)
run-refused (e ∷ es) refused w' is = absurd (cc)

-- What holds of a world and is kept by each event of a list, of which each is of some kind, holds where the list leads to.
module _ (Allows : Event → Type 0) (Holds : World → Type 0) (keeps : (w : World) (e : Event) (w' : World) → Step w e w' → Allows e → Holds w → Holds w') where
  keeps-one : (e : Event) (es : List Event) (w w' : World) (answer : Answer) → happens w e ≡ answer → run es answer ≡ Ok w' → Allows e → Holds w
      → ((u : World) → run es (Ok u) ≡ Ok w' → Holds u → Holds w') → Holds w'
  keeps-one e es w w' (Err refused) this is allowed holds next = absurd (run-refused es refused w' is)
  keeps-one e es w w' (Ok u) this is allowed holds next = next u is (keeps w e u (step_of w e u this) allowed holds)

  pub run-keeps : (events : List Event) (w w' : World) → run events (Ok w) ≡ Ok w' → AllByRecursion Allows events → Holds w → Holds w'
  run-keeps [] w w' is allowed holds = let same : w ≡ w' = cc in subst Holds same holds
  run-keeps (e ∷ es) w w' is allowed holds = keeps-one e es w w' (happens w e) refl is allowed.0 holds (λ u next now. run-keeps es u w' next allowed.1 now)
