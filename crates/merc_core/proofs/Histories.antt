-- A history without Ticks is a list of events with them.
use Rattle.std.proofs.Common.{◌≡◌, ℕ, suc, ◌+◌, inl, inr, Bool, true, false, not, List, [], ◌∷◌, ◌++◌, Some, None, refl, ap, sym, ◌∙◌, arith, length}
use Rattle.std.specs.Prelude.{Option, Ok, Err, slice_get, if◌then◌else◌, nat_lt}
use Rattle.std.specs.List.{AllByRecursion, remove}
use Rattle.merc_script.specs.Script.{Script, Ends, TickThen, WaitThen, SignalThen, ForkThen}
use Rattle.merc_core.specs.declared.event.Event.{Event}
use Rattle.merc_core.specs.declared.event.Event.TheVariants.{Tick, Fork, Pop, Steal, Signal, Wait, End, Resume, Lost}
use Rattle.merc_core.specs.declared.event.NotNow.{NotNow}
use Rattle.merc_core.specs.declared.event.NotNow.TheVariants.{NoWorker}
use Rattle.merc_core.specs.Rights.{has, has_in}
use Rattle.merc_core.specs.World.{Branch, Location, Listed, Runs, Holds, AtCell, AtJoin, Spot, spot, World, start}
use Rattle.merc_core.specs.Events.{Answer, acts, acts_at, first_from, taken, in_hand, past_tick, tick_on, fork_on, signal_on, wait_at, wait_on, end_on, if_found, if_runs, running, happens, run}
use Rattle.merc_core.specs.Laws.{IsKept}
use Rattle.merc_core.specs.History.{past_ticks, settled, happens_settled, replay, is_tick, without_ticks, HistoriesAreRuns}
use Rattle.merc_core.proofs.Pool.{took_first, chosen, each_way, each-filter, each-always}
use Rattle.merc_core.proofs.Steps.{with_rest, put_back, run-keeps}
use Rattle.merc_core.proofs.TruthSteps.{is_same, test_same}
use Rattle.merc_core.proofs.Measure.{total, total-takes}
use Rattle.merc_core.proofs.Single.{acting, Single, single-start, single-step}

-- a branch that was put at the end is taken again

last-place : (test : Spot → Bool) (from : ℕ) (xs : List Spot) (x : Spot) → (AllByRecursion (λ y. test y ≡ false) xs) → test x ≡ true → first_from from test (xs ++ (x ∷ [])) ≡ Some (from + length xs)
last-place test from [] x none is = rw is (let e : from ≡ from + 0 = omega arith in ap Some e)
last-place test from (y ∷ xs) x none is = rw none.0 (last-place test (from + 1) xs x none.1 is ∙ (let e : from + 1 + length xs ≡ from + suc (length xs) = omega arith in ap Some e))

last-stands : (xs : List Spot) (x : Spot) → slice_get (xs ++ (x ∷ [])) (length xs) ≡ Some x
last-stands [] x = refl
last-stands (y ∷ xs) x = last-stands xs x

last-others : (xs : List Spot) (x : Spot) → remove (xs ++ (x ∷ [])) (length xs) ≡ xs
last-others [] x = refl
last-others (y ∷ xs) x = ap (λ (zs : List Spot). y ∷ zs) (last-others xs x)

last-taken : (test : Spot → Bool) (xs : List Spot) (x : Spot) → AllByRecursion (λ y. test y ≡ false) xs → test x ≡ true → taken (xs ++ (x ∷ [])) (first_from 0 test (xs ++ (x ∷ []))) ≡ Some (x, xs)
last-taken test xs x none is =
    let place : first_from 0 test (xs ++ (x ∷ [])) ≡ Some (length xs) = last-place test 0 xs x none is ∙ (let e : 0 + length xs ≡ length xs = omega arith in ap Some e) in
    rw (place, last-stands xs x, last-others xs x) refl

module _ (v : ℕ) where
  -- no other branch is in the worker's hand
  abbrev Idle : List Spot → Type 0
  Idle others = AllByRecursion (λ y. acts v y ≡ false) others

  none-act : (others : List Spot) → total (acting v) others ≡ 0 → Idle others
  none-act [] none = tt
  none-act (y ∷ others) none = elim (each_way (acts v y)) [
    | inl is ↦ absurd (let one : acting v y ≡ 1 = rw is refl in omega arith)
    | inr isnt ↦ (isnt, none-act others (omega arith))
  ]

  others-idle : (w : World) (b : Branch) (others : List Spot) → Single w → in_hand v w.pool ≡ Some (spot (Runs v) b, others) → Idle others
  others-idle w b others single hand =
      let took = took_first (acts v) w.pool (spot (Runs v) b, others) hand in
      let t = total-takes (acting v) took.takes in
      let one = single.one_hand v in
      let mine : acting v (spot (Runs v) b) ≡ 1 = rw (is_same v) refl in
      none-act others (omega arith)

  running-is : (w : World) (b : Branch) (others : List Spot) (go : Branch → List Spot → Answer) → nat_lt v w.workers ≡ true → in_hand v w.pool ≡ Some (spot (Runs v) b, others) → running w v go ≡ go b others
  running-is w b others go worker hand = rw (worker, hand) refl

  -- the Ticks before an event
  record Ticked (w : World) (e : Event) (answer : Answer) : Type 0 where
    ticks : List Event
    only : without_ticks ticks ≡ []
    is : run (ticks ++ (e ∷ [])) (Ok w) ≡ answer

  -- an event of a branch that runs, which does not look at the others in their places
  module _ (e : Event) (go : World → Branch → List Spot → Answer) (is-so : (w : World) → happens w e ≡ running w v (go w))
      (blind : (w : World) (pool : List Spot) (b : Branch) (others : List Spot) → go (record w { pool = pool }) b others ≡ go w b others) where
    now : (w : World) (b : Branch) (others : List Spot) → nat_lt v w.workers ≡ true → in_hand v w.pool ≡ Some (spot (Runs v) b, others) → Ticked w e (go w b others)
    now w b others worker hand = record { ticks = []; only = refl; is = is-so w ∙ running-is w b others (go w) worker hand }

    ticks-first : (rest : Script) (w : World) (b : Branch) (others : List Spot) → nat_lt v w.workers ≡ true → Idle others → in_hand v w.pool ≡ Some (spot (Runs v) (with_rest b rest), others)
        → Ticked w e (go w (past_ticks rest (with_rest b rest)) others)
    ticks-first (Ends o) w b others worker idle hand = now w (with_rest b (Ends o)) others worker hand
    ticks-first (WaitThen cell rest) w b others worker idle hand = now w (with_rest b (WaitThen cell rest)) others worker hand
    ticks-first (SignalThen cell rest) w b others worker idle hand = now w (with_rest b (SignalThen cell rest)) others worker hand
    ticks-first (ForkThen limit cells moves children rest) w b others worker idle hand = now w (with_rest b (ForkThen limit cells moves children rest)) others worker hand
    ticks-first (TickThen rest) w b others worker idle hand =
        let b' = past_tick b rest in
        let w' = put_back w (Runs v) b' others in
        let tick : happens w (Tick v) ≡ Ok w' = running-is w (with_rest b (TickThen rest)) others (λ c others'. tick_on w v c.rest c others') worker hand in
        let hand' : in_hand v w'.pool ≡ Some (spot (Runs v) b', others) = last-taken (acts v) others (spot (Runs v) b') idle (is_same v) in
        let later = ticks-first rest w' b' others worker idle hand' in
        record {
          ticks = Tick v ∷ later.ticks;
          only = later.only;
          is = ap (run (later.ticks ++ (e ∷ []))) tick ∙ (later.is ∙ blind w (others ++ (spot (Runs v) b' ∷ [])) (past_ticks rest b') others);
        }

  -- what a running worker had in its hand
  record Handed (w : World) (go : Branch → List Spot → Answer) (answer : Answer) : Type 0 where
    worker : nat_lt v w.workers ≡ true
    branch : Branch
    others : List Spot
    hand : in_hand v w.pool ≡ Some (spot (Runs v) branch, others)
    went : go branch others ≡ answer

  handed-at : (w : World) (go : Branch → List Spot → Answer) (w' : World) → nat_lt v w.workers ≡ true → (location : Location) (b : Branch) (others : List Spot) → in_hand v w.pool ≡ Some (spot location b, others) → acts_at v location ≡ true
      → if_runs location b others go ≡ Ok w' → Handed w go (Ok w')
  handed-at w go w' worker (Runs u) b others hand is went =
      let same = test_same u v is in record { worker = worker; branch = b; others = others; hand = hand ∙ ap (λ (k : ℕ). Some (spot (Runs k) b, others)) same; went = went }
  handed-at w go w' worker (Holds u number) b others hand is went = absurd (cc)
  handed-at w go w' worker (Listed u) b others hand is went = absurd (cc)
  handed-at w go w' worker (AtCell cell) b others hand is went = absurd (cc)
  handed-at w go w' worker (AtJoin number) b others hand is went = absurd (cc)

  handed : (w : World) (go : Branch → List Spot → Answer) (w' : World) → running w v go ≡ Ok w' → Handed w go (Ok w')
  handed w go w' is =
      elim (chosen (nat_lt v w.workers) (if_found (in_hand v w.pool) go) (Err NoWorker) (Ok w') is) [
        | inl p ↦ found-one (in_hand v w.pool) refl p.0 p.1
        | inr p ↦ absurd (let e = p.1 in cc)
      ]
    where
      found-one : (q : Option (Spot × List Spot)) → in_hand v w.pool ≡ q → nat_lt v w.workers ≡ true → if_found q go ≡ Ok w' → Handed w go (Ok w')
      found-one None e worker went = absurd (cc)
      found-one (Some q) e worker went = handed-at w go w' worker q.0.location q.0.branch q.1 e (took_first (acts v) w.pool q e).passes went

  settles : (e : Event) (go : World → Branch → List Spot → Answer) → ((w : World) → happens w e ≡ running w v (go w))
      → ((w : World) (pool : List Spot) (b : Branch) (others : List Spot) → go (record w { pool = pool }) b others ≡ go w b others)
      → (w w' : World) → Single w → running w v (λ b others. go w (settled b) others) ≡ Ok w' → Ticked w e (Ok w')
  settles e go is-so blind w w' single is =
      let at = handed w (λ b others. go w (settled b) others) w' is in
      let ran = ticks-first e go is-so blind at.branch.rest w at.branch at.others at.worker (others-idle w at.branch at.others single at.hand) at.hand in
      record { ticks = ran.ticks; only = ran.only; is = ran.is ∙ at.went }

-- what an event does does not depend on where the others stand

fork-blind : (w : World) (pool : List Spot) (v : ℕ) (rest : Script) (b : Branch) (others : List Spot) → fork_on (record w { pool = pool }) v rest b others ≡ fork_on w v rest b others
fork-blind w pool v (TickThen rest) b others = refl
fork-blind w pool v (Ends o) b others = refl
fork-blind w pool v (WaitThen cell rest) b others = refl
fork-blind w pool v (SignalThen cell rest) b others = refl
fork-blind w pool v (ForkThen limit cells moves children rest) b others = refl

signal-blind : (w : World) (pool : List Spot) (v : ℕ) (rest : Script) (b : Branch) (others : List Spot) → signal_on (record w { pool = pool }) v rest b others ≡ signal_on w v rest b others
signal-blind w pool v (TickThen rest) b others = refl
signal-blind w pool v (Ends o) b others = refl
signal-blind w pool v (WaitThen cell rest) b others = refl
signal-blind w pool v (SignalThen cell rest) b others = refl
signal-blind w pool v (ForkThen limit cells moves children rest) b others = refl

wait-blind-at : (w : World) (pool : List Spot) (v cell : ℕ) (rest : Script) (b : Branch) (others : List Spot) (full poisoned : Bool)
    → wait_at (record w { pool = pool }) v cell rest b others full poisoned ≡ wait_at w v cell rest b others full poisoned
wait-blind-at w pool v cell rest b others true poisoned = refl
wait-blind-at w pool v cell rest b others false true = refl
wait-blind-at w pool v cell rest b others false false = refl

wait-blind : (w : World) (pool : List Spot) (v : ℕ) (rest : Script) (b : Branch) (others : List Spot) → wait_on (record w { pool = pool }) v rest b others ≡ wait_on w v rest b others
wait-blind w pool v (TickThen rest) b others = refl
wait-blind w pool v (Ends o) b others = refl
wait-blind w pool v (WaitThen cell rest) b others = wait-blind-at w pool v cell rest b others (has cell w.full) (has_in cell w.poisoned)
wait-blind w pool v (SignalThen cell rest) b others = refl
wait-blind w pool v (ForkThen limit cells moves children rest) b others = refl

end-blind : (w : World) (pool : List Spot) (v : ℕ) (rest : Script) (b : Branch) (others : List Spot) → end_on (record w { pool = pool }) v rest b others ≡ end_on w v rest b others
end-blind w pool v (TickThen rest) b others = refl
end-blind w pool v (Ends o) b others = refl
end-blind w pool v (WaitThen cell rest) b others = refl
end-blind w pool v (SignalThen cell rest) b others = refl
end-blind w pool v (ForkThen limit cells moves children rest) b others = refl

-- each event of a history

at-once : (v : ℕ) (w w' : World) (e : Event) → happens w e ≡ Ok w' → Ticked v w e (Ok w')
at-once v w w' e is = record { ticks = []; only = refl; is = is }

with-ticks : (w w' : World) (e : Event) → Single w → happens_settled w e ≡ Ok w' → (v : ℕ) × Ticked v w e (Ok w')
with-ticks w w' (Tick v) single is = (v, at-once v w w' (Tick v) is)
with-ticks w w' (Fork v) single is = (v, settles v (Fork v) (λ u b others. fork_on u v b.rest b others) (λ u. refl) (λ u pool b others. fork-blind u pool v b.rest b others) w w' single is)
with-ticks w w' (Pop v) single is = (v, at-once v w w' (Pop v) is)
with-ticks w w' (Steal v victim) single is = (v, at-once v w w' (Steal v victim) is)
with-ticks w w' (Signal v) single is = (v, settles v (Signal v) (λ u b others. signal_on u v b.rest b others) (λ u. refl) (λ u pool b others. signal-blind u pool v b.rest b others) w w' single is)
with-ticks w w' (Wait v) single is = (v, settles v (Wait v) (λ u b others. wait_on u v b.rest b others) (λ u. refl) (λ u pool b others. wait-blind u pool v b.rest b others) w w' single is)
with-ticks w w' (End v) single is = (v, settles v (End v) (λ u b others. end_on u v b.rest b others) (λ u. refl) (λ u pool b others. end-blind u pool v b.rest b others) w w' single is)
with-ticks w w' (Resume v) single is = (v, at-once v w w' (Resume v) is)
with-ticks w w' (Lost v) single is = (v, at-once v w w' (Lost v) is)

-- whole histories

run-append : (xs ys : List Event) (answer : Answer) → run (xs ++ ys) answer ≡ run ys (run xs answer)
run-append [] ys answer = refl
run-append (x ∷ xs) ys (Ok w) = run-append xs ys (happens w x)
run-append (x ∷ xs) [] (Err refused) = refl
run-append (x ∷ xs) (y ∷ ys) (Err refused) = refl

kept-append : (xs ys : List Event) → without_ticks (xs ++ ys) ≡ without_ticks xs ++ without_ticks ys
kept-append [] ys = refl
kept-append (x ∷ xs) ys = by-test (is_tick x) (kept-append xs ys)
  where
    by-test : (at : Bool) → without_ticks (xs ++ ys) ≡ without_ticks xs ++ without_ticks ys
        → (if not at then x ∷ without_ticks (xs ++ ys) else without_ticks (xs ++ ys)) ≡ (if not at then x ∷ without_ticks xs else without_ticks xs) ++ without_ticks ys
    by-test true same = same
    by-test false same = ap (λ (zs : List Event). x ∷ zs) same

record RunsTo (w : World) (history : List Event) (w' : World) : Type 0 where
  events : List Event
  runs : run events (Ok w) ≡ Ok w'
  same : without_ticks events ≡ without_ticks history

one-more : (w u w' : World) (e : Event) (history : List Event) → (v : ℕ) × Ticked v w e (Ok u) → RunsTo u history w' → RunsTo w (e ∷ history) w'
one-more w u w' e history first later =
    let mine = first.1.ticks ++ (e ∷ []) in
    record {
      events = mine ++ later.events;
      runs = run-append mine later.events (Ok w) ∙ (ap (run later.events) first.1.is ∙ later.runs);
      same = kept-append mine later.events ∙ (rw (kept-append first.1.ticks (e ∷ []), first.1.only, later.same) (sym (kept-append (e ∷ []) history)));
    }

step-on : (w u : World) (e : Event) → Single w → (v : ℕ) × Ticked v w e (Ok u) → Single u
step-on w u e single first = run-keeps (λ x. Unit {0}) Single single-step (first.1.ticks ++ (e ∷ [])) w u first.1.is (each-always (λ x. Unit {0}) (λ x. tt) (first.1.ticks ++ (e ∷ []))) single

replay-refused : (history : List Event) (refused : NotNow) (w' : World) → replay history (Err refused) ≡ Ok w' → ⊥
replay-refused [] refused w' is = absurd (cc)
replay-refused (e ∷ history) refused w' is = absurd (cc)

next-one : (w w' : World) (e : Event) (history : List Event) (answer : Answer) → Single w → happens_settled w e ≡ answer → replay history answer ≡ Ok w' → ((u : World) → Single u → replay history (Ok u) ≡ Ok w' → RunsTo u history w')
    → RunsTo w (e ∷ history) w'
next-one w w' e history (Err refused) single this is next = absurd (replay-refused history refused w' is)
next-one w w' e history (Ok u) single this is next = let first = with-ticks w u e single this in one-more w u w' e history first (next u (step-on w u e single first) is)

runs-to : (history : List Event) (w w' : World) → Single w → replay history (Ok w) ≡ Ok w' → RunsTo w history w'
runs-to [] w w' single is = record { events = []; runs = is; same = refl }
runs-to (e ∷ history) w w' single is = next-one w w' e history (happens_settled w e) single refl is (λ u single' next. runs-to history u w' single' next)

kept-from : (events : List Event) → AllByRecursion IsKept (without_ticks events) → AllByRecursion IsKept events
kept-from [] kept = tt
kept-from (Tick v ∷ events) kept = (tt, kept-from events kept)
kept-from (Fork v ∷ events) kept = (tt, kept-from events kept.1)
kept-from (Pop v ∷ events) kept = (tt, kept-from events kept.1)
kept-from (Steal v victim ∷ events) kept = (tt, kept-from events kept.1)
kept-from (Signal v ∷ events) kept = (tt, kept-from events kept.1)
kept-from (Wait v ∷ events) kept = (tt, kept-from events kept.1)
kept-from (End v ∷ events) kept = (tt, kept-from events kept.1)
kept-from (Resume v ∷ events) kept = (tt, kept-from events kept.1)
kept-from (Lost v ∷ events) kept = absurd kept.0

pub histories_are_runs : HistoriesAreRuns
histories_are_runs root workers history w is =
    let ran = runs-to history (start root workers) w (single-start root workers) is in
    record {
      events = ran.events;
      leads = ran.runs;
      same = ran.same;
      kept = λ kept. kept-from ran.events (rw ran.same (each-filter IsKept (λ e. not (is_tick e)) history kept));
    }
