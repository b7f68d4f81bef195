-- Each accepted event keeps what lets some event go on.
use Rattle.std.proofs.Common.{◌≡◌, ℕ, zero, suc, ◌+◌, ◌≤◌, ◌<◌, ◌⊎◌, inl, inr, true, List, [], ◌∷◌, ◌++◌, Some, refl, ap, sym, ◌∙◌, arith, length}
use Rattle.std.proofs.lemmas.List.{length-append}
use Rattle.std.proofs.lemmas.Bool.Decides.{nat_tests}
use Rattle.std.specs.Prelude.{Option, slice_get, nat_lt}
use Rattle.std.specs.List.{AllByRecursion}
use Rattle.merc_script.specs.declared.outcome.Outcome.{Outcome}
use Rattle.merc_script.specs.declared.outcome.Outcome.TheVariants.{Ok as Fine, Raise, Limit, Starved, NoMemory}
use Rattle.merc_script.specs.declared.cells.Move.{Move}
use Rattle.merc_script.specs.Script.{Script, Ends, TickThen, WaitThen, SignalThen, ForkThen, Children, Cell, size, sizes, count}
use Rattle.merc_script.specs.Joining.{joined}
use Rattle.merc_core.specs.declared.event.Event.{Event}
use Rattle.merc_core.specs.Rights.{without}
use Rattle.merc_core.specs.World.{Branch, Location, Listed, Runs, Holds, AtCell, AtJoin, Spot, spot, Join, Parent, Stored, World, outermost, outcomes_of}
use Rattle.merc_core.specs.Events.{past_tick, past_signal, past_wait, ended, go_behind, spawned, placed, parent_behind, wake, unchanged, poison, forked, signalled, finished, stored_with}
use Rattle.merc_core.specs.WellFormed.{Formed, CellFits}
use Rattle.merc_core.proofs.Pool.{Takes, each-append, each-filter, each-weaker, each-both, takes-one, takes-others}
use Rattle.merc_core.proofs.Steps.{with_rest, put_back, Step, ticked, forks, signals as signals_it, passes, starves, parks, finishes, takes_up, resumes}
use Rattle.merc_core.proofs.Truth.{Honest, IsCut, Good, Truth}
use Rattle.merc_core.proofs.TruthSteps.{get-front, get-last, has-holds}
use Rattle.merc_core.proofs.Live.{InPlace, needs, BeforeIn, OnTime, StuckAt, Stuck, Live}
use Rattle.merc_core.proofs.Anys.{any-front, any-back, any-takes, any-put, any-wake, any-poison, any-hold, any-placed}
use Rattle.merc_core.proofs.Times.{time-grown, time-ended, time-acts, time-past, wakes-time, poisons-time, holds-time, behind-time}
use Rattle.merc_core.proofs.ForkTimes.{Forking, children-time, parent-time}
use Rattle.merc_core.proofs.Serving.{back-served, signal-served, end-served}
use Rattle.merc_core.proofs.ForkServing.{kid-any, fork-served}
use Rattle.merc_core.proofs.Parking.{stored-less, signal-stuck, poison-stuck, stored-stuck, fork-stuck}

-- joins by number

known : (joins : List Join) (number at : ℕ) → BeforeIn at (slice_get joins number) → number < length joins
known [] number at before = absurd before
known (join ∷ joins) zero at before = omega arith
known (join ∷ joins) (suc number) at before = let k = known joins number at before in omega arith

get-cases : {A : Type 0} (xs : List A) (y z : A) (i : ℕ) → slice_get (xs ++ (y ∷ [])) i ≡ Some z → (slice_get xs i ≡ Some z) ⊎ ((i ≡ length xs) × (y ≡ z))
get-cases [] y z zero is = inr (refl, cc)
get-cases [] y z (suc i) is = absurd (cc)
get-cases (x ∷ xs) y z zero is = inl is
get-cases (x ∷ xs) y z (suc i) is = elim (get-cases xs y z i is) [ inl old ↦ inl old | inr new ↦ inr (ap suc new.0, new.1) ]

place-keeps : (number child : ℕ) (location : Location) (rest : Script) (x : Spot) → InPlace number child x → InPlace number child (spot location (record x.branch { rest = rest }))
place-keeps number child location rest x place = place

behind-same : (o : Outcome) (b : Branch) → ((go_behind o b).signals ≡ b.signals) × ((go_behind o b).waits ≡ b.waits) × ((go_behind o b).join ≡ b.join) × ((go_behind o b).child ≡ b.child)
behind-same (Fine u) b = (refl, refl, refl, refl)
behind-same (Raise e n) b = (refl, refl, refl, refl)
behind-same Limit b = (refl, refl, refl, refl)
behind-same Starved b = (refl, refl, refl, refl)
behind-same NoMemory b = (refl, refl, refl, refl)

module _ (due : ℕ → ℕ) (root : Script) where
  abbrev Lives : World → Type 0
  Lives = Live due root

  -- a branch that was taken is put back
  live-back : (w : World) (x : Spot) (to : Location) (b : Branch) (others : List Spot) → Takes w.pool x others → (OnTime due w.workers w.joins x → OnTime due w.workers w.joins (spot to b)) → b.signals ≡ x.branch.signals
      → ((Is : ℕ → Type 0) → AllByRecursion Is (needs x.location x.branch.waits) → AllByRecursion Is (needs to b.waits)) → StuckAt w.full w.poisoned w.joins w.stored to
      → b.join ≡ x.branch.join → b.child ≡ x.branch.child → Lives w → Lives (put_back w to b others)
  live-back w x to b others takes time same fewer stuck join child live = record {
    on_time = each-append (OnTime due w.workers w.joins) others (spot to b ∷ []) (takes-others (OnTime due w.workers w.joins) takes live.on_time) (time (takes-one (OnTime due w.workers w.joins) takes live.on_time), tt);
    served = back-served w.full w.poisoned w.pool x others to b takes same fewer live.served;
    stuck = each-append (Stuck w.full w.poisoned w.joins w.stored) others (spot to b ∷ []) (takes-others (Stuck w.full w.poisoned w.joins w.stored) takes live.stuck) (stuck, tt);
    placed = λ number k at is one last none. any-put (InPlace number k) (spot to b) takes (λ place. (join ∙ place.0, child ∙ place.1)) (live.placed number k at is one last none);
    numbered = live.numbered;
    outermost_is = live.outermost_is;
  }

  signal-live : (w : World) (v : ℕ) (b : Branch) (cell : ℕ) (rest : Script) (others : List Spot) → nat_lt v w.workers ≡ true → Takes w.pool (spot (Runs v) (with_rest b (SignalThen cell rest))) others → Lives w → Lives (signalled w v b others cell rest)
  signal-live w v b cell rest others worker takes live =
      let mine = spot (Runs v) (past_signal cell b rest) in
      record {
        on_time = each-append (OnTime due w.workers w.joins) (wake cell v unchanged others) (mine ∷ [])
            (wakes-time due w.workers w.joins v cell others worker (takes-others (OnTime due w.workers w.joins) takes live.on_time)) (
              time-past due w.workers w.joins (Runs v) v b.join b.at b.signals (without (cell ∷ []) b.signals) b.waits b.waits (SignalThen cell rest) rest refl (λ timed. timed) worker tt
                  (λ Is all. each-filter Is _ b.signals all) (λ Is all. all) (takes-one (OnTime due w.workers w.joins) takes live.on_time),
              tt,
            );
        served = signal-served w.full w.poisoned w.pool v cell b rest (SignalThen cell rest) others takes live.served;
        stuck = each-append (Stuck (w.full ++ (cell ∷ [])) w.poisoned w.joins w.stored) (wake cell v unchanged others) (mine ∷ [])
            (signal-stuck w.full w.poisoned w.joins w.stored cell v others (takes-others (Stuck w.full w.poisoned w.joins w.stored) takes live.stuck)) (tt, tt);
        placed = λ number k at is one last none. elim (any-takes (InPlace number k) takes (live.placed number k at is one last none)) [
          | inl its ↦ any-back (InPlace number k) (wake cell v unchanged others) (mine ∷ []) (inl its)
          | inr other ↦ any-front (InPlace number k) (wake cell v unchanged others) (mine ∷ []) (any-wake (InPlace number k) (place-keeps number k) cell v others other)
        ];
        numbered = live.numbered;
        outermost_is = live.outermost_is;
      }

  finish-live : (w : World) (v : ℕ) (b : Branch) (o : Outcome) (others : List Spot) → nat_lt v w.workers ≡ true → Takes w.pool (spot (Runs v) b) others → Lives w → Lives (finished w v b others o)
  finish-live w v b o others worker takes live =
      let new : Stored = record { join = b.join; child = b.child; outcome = o } in
      let outcomes = outcomes_of (stored_with w b o) b.join (slice_get w.joins b.join) in
      let time = takes-one (OnTime due w.workers w.joins) takes live.on_time in
      record {
        on_time = holds-time due w.workers w.joins v b.join (poison b.signals v others) outcomes worker
            (poisons-time due w.workers w.joins v b.signals others worker (takes-others (OnTime due w.workers w.joins) takes live.on_time));
        served = end-served w.full w.poisoned w.pool v b others b.join outcomes takes live.served;
        stuck = stored-stuck w.full (w.poisoned ++ (b.signals ∷ [])) w.joins w.stored new v (poison b.signals v others) outcomes refl
            (poison-stuck w.full w.poisoned w.joins w.stored b.signals v others (takes-others (Stuck w.full w.poisoned w.joins w.stored) takes live.stuck));
        placed = λ number k at is one last none.
            let before = stored-less number k w.stored new none in
            elim (any-takes (InPlace number k) takes (live.placed number k at is one last before.0)) [
              | inl its ↦ absurd (let join : b.join ≡ number = its.0 in let child : b.child ≡ k = its.1 in let apart = before.1 in grind (arith, nat_tests, join, child, apart))
              | inr other ↦ any-hold (InPlace number k) (place-keeps number k) v b.join (poison b.signals v others) outcomes (any-poison (InPlace number k) (place-keeps number k) b.signals v others other)
            ];
        numbered = each-append (λ one. one.join < length w.joins) w.stored (new ∷ []) live.numbered (known w.joins b.join (b.at + size b.rest) time.ends_before, tt);
        outermost_is = live.outermost_is;
      }

  fork-live : (w : World) {V : Type 0} (value : ℕ → Option V) (v : ℕ) (b : Branch) (limit : ℕ) (cells : List Cell) (moves : List Move) (children : Children) (rest : Script) (others : List Spot) → nat_lt v w.workers ≡ true
      → Takes w.pool (spot (Runs v) (with_rest b (ForkThen limit cells moves children rest))) others → Formed value b.steps b.signals b.waits (ForkThen limit cells moves children rest) → Lives w
      → Lives (forked w v b others limit cells moves children rest)
  fork-live w value v b limit cells moves children rest others worker takes formed live =
      let parent : Parent = record { join = b.join; child = b.child; name = b.name; passed = b.passed } in
      let new : Join = record { limit = limit; children = children; behind = suc b.at + sizes children; parent = Some parent } in
      let number : ℕ = length w.joins in
      let joins : List Join = w.joins ++ (new ∷ []) in
      let is : slice_get joins number ≡ Some new = get-last w.joins new in
      let time = takes-one (OnTime due w.workers w.joins) takes live.on_time in
      let forking : Forking due w.workers b limit cells moves children rest = record {
        each_cell = each-both (λ one. due one.cell ≡ _) (CellFits (count children)) cells time.timed.0 formed.0.each_cell;
        each_move = formed.0.each_move;
        needs_before = time.needs_before;
        owes_behind = time.owes_behind;
      } in
      let later = time-grown due w.workers w.joins (new ∷ []) (spot (Runs v) (with_rest b (ForkThen limit cells moves children rest))) time in
      let kids = spawned number b cells moves 1 (suc b.at) children in
      let mine = spot (AtJoin number) (parent_behind b cells moves children rest) in
      record {
        on_time = each-append (OnTime due w.workers joins) others (mine ∷ placed v kids)
            (each-weaker (OnTime due w.workers w.joins) (OnTime due w.workers joins) (λ x on-time. time-grown due w.workers w.joins (new ∷ []) x on-time) others (takes-others (OnTime due w.workers w.joins) takes live.on_time)) (
              parent-time due w.workers b limit cells moves children rest forking joins number new is refl v worker later.ends_before time.timed.2,
              children-time due w.workers b limit cells moves children rest forking joins number new is refl v worker time.timed.1,
            );
        served = fork-served w.full w.poisoned w.pool v number b limit cells moves children rest others takes formed.0.each_cell formed.0.each_move live.served;
        stuck = fork-stuck w.full w.poisoned w.joins w.stored v new (parent_behind b cells moves children rest) kids others formed.0.some live.numbered
            (takes-others (Stuck w.full w.poisoned w.joins w.stored) takes live.stuck);
        placed = λ j k at there one last none. elim (get-cases w.joins new at j there) [
          | inl old ↦ elim (any-takes (InPlace j k) takes (live.placed j k at old one last none)) [
            | inl its ↦ any-back (InPlace j k) others (mine ∷ placed v kids) (inl its)
            | inr other ↦ any-front (InPlace j k) others (mine ∷ placed v kids) other
          ]
          | inr this ↦
              let all : k ≤ count children = rw (← this.1) at last in
              any-back (InPlace j k) others (mine ∷ placed v kids) (inr (any-placed (InPlace j k) v kids
              (kid-any (λ kid. (location : Location) → InPlace j k (spot location kid)) number b cells moves k 1 (suc b.at) children one (omega arith) (λ at' rest' location. (sym this.0, refl)))))
        ];
        numbered = each-weaker (λ one. one.join < length w.joins) (λ one. one.join < length joins) (λ one less. let k = length-append w.joins (new ∷ []) in omega arith) w.stored live.numbered;
        outermost_is = get-front w.joins (new ∷ []) 0 (outermost root) live.outermost_is;
      }

  module _ {V : Type 0} (value : ℕ → Option V) (Excused : ℕ → ℕ → Outcome → Type 0) (Spoiled : ℕ → Type 0) where
    -- where a branch stands at an item, what is left is well formed
    formed-of : (joins : List Join) (join child steps : ℕ) (had may : List ℕ) (item : Script) → ((o : Outcome) → item ≡ Ends o → ⊥)
        → Honest value Excused Spoiled joins join child steps had may item ⊎ IsCut value Excused Spoiled join child item → Formed value steps had may item
    formed-of joins join child steps had may item none (inl honest) = honest.formed
    formed-of joins join child steps had may item none (inr cut) = absurd (none cut.end cut.is)

    pub formed-at : (w : World) (v : ℕ) (b : Branch) (item : Script) (others : List Spot) → Truth value Excused Spoiled root w → Takes w.pool (spot (Runs v) (with_rest b item)) others → ((o : Outcome) → item ≡ Ends o → ⊥)
        → Formed value b.steps b.signals b.waits item
    formed-at w v b item others truth takes none =
        formed-of w.joins b.join b.child b.steps b.signals b.waits item none (takes-one (Good value Excused Spoiled w.joins) takes truth.spots)

    pub live-step : (w : World) (e : Event) (w' : World) → Step w e w' → Truth value Excused Spoiled root w → Lives w → Lives w'
    live-step w _ _ (ticked v b rest others worker takes) truth live =
        live-back w (spot (Runs v) (with_rest b (TickThen rest))) (Runs v) (past_tick b rest) others takes
        (λ time. time-past due w.workers w.joins (Runs v) v b.join b.at b.signals b.signals b.waits b.waits (TickThen rest) rest refl (λ timed. timed) worker tt (λ Is all. all) (λ Is all. all) time)
        refl (λ Is all. all) tt refl refl live
    live-step w _ _ (forks v b limit cells moves children rest others worker takes) truth live =
        fork-live w value v b limit cells moves children rest others worker takes (formed-at w v b (ForkThen limit cells moves children rest) others truth takes (λ o is. absurd (cc))) live
    live-step w _ _ (signals_it v b cell rest others worker takes) truth live = signal-live w v b cell rest others worker takes live
    live-step w _ _ (passes v b cell rest others worker takes full) truth live =
        live-back w (spot (Runs v) (with_rest b (WaitThen cell rest))) (Runs v) (past_wait cell b rest) others takes
        (λ time. time-past due w.workers w.joins (Runs v) v b.join b.at b.signals b.signals b.waits (without (cell ∷ []) b.waits) (WaitThen cell rest) rest refl (λ timed. timed) worker tt (λ Is all. all)
        (λ Is all. each-filter Is _ b.waits all) time)
        refl (λ Is all. each-filter Is _ b.waits all) tt refl refl live
    live-step w _ _ (starves v b cell rest others worker takes poisoned) truth live =
        live-back w (spot (Runs v) (with_rest b (WaitThen cell rest))) (Runs v) (ended Starved b) others takes
        (λ time. time-ended due w.workers w.joins (Runs v) b.join b.at b.signals b.waits (WaitThen cell rest) Starved time)
        refl (λ Is all. all) tt refl refl live
    live-step w _ _ (parks v b cell rest others worker takes full poisoned) truth live =
        let formed = formed-at w v b (WaitThen cell rest) others truth takes (λ o is. absurd (cc)) in
        live-back w (spot (Runs v) (with_rest b (WaitThen cell rest))) (AtCell cell) (past_wait cell b rest) others takes
        (λ time. time-past due w.workers w.joins (AtCell cell) v b.join b.at b.signals b.signals b.waits (without (cell ∷ []) b.waits) (WaitThen cell rest) rest refl (λ timed. timed) tt tt (λ Is all. all)
        (λ Is all. (has-holds Is cell b.waits all formed.0, each-filter Is _ b.waits all)) time)
        refl (λ Is all. (has-holds Is cell b.waits all formed.0, each-filter Is _ b.waits all)) (full, poisoned) refl refl live
    live-step w _ _ (finishes e v b o others worker takes how) truth live = finish-live w v b o others worker takes live
    live-step w _ _ (takes_up e v u b others worker takes-up free takes) truth live =
        live-back w (spot (Listed u) b) (Runs v) b others takes
        (λ time. time-acts due w.workers w.joins (Runs v) b.join b.at b.signals b.waits b.rest (Listed u) worker refl tt time)
        refl (λ Is all. all) tt refl refl live
    live-step w _ _ (resumes v b number join os others worker takes is all) truth live =
        let same = behind-same (joined join.limit os) b in
        live-back w (spot (Holds v number) b) (Runs v) (go_behind (joined join.limit os) b) others takes
        (λ time. behind-time due w.workers w.joins v number b (joined join.limit os) worker time)
        same.0 (λ Is every. rw same.1 every) tt same.2 same.3 live
