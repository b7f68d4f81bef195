-- A branch signals a cell.
use Rattle.std.proofs.Common.{◌≡◌, ℕ, suc, ◌+◌, ◌^◌, ◌≤◌, ◌<◌, inl, inr, true, false, List, [], ◌∷◌, ◌++◌, Some, None, refl, ap, sym, ◌∙◌, subst, arith, length, length-append, length-set}
use Rattle.std.specs.Prelude.{Option, Ok, Err, slice_get, filter, map, if◌then◌else◌, nat_eq, IsSome}
use Rattle.merc_script.specs.declared.items.Item.{Item}
use Rattle.merc_script.specs.Script.{Script, Ends, TickThen, WaitThen, SignalThen, ForkThen, Cell as ScriptCell, Move}
use Rattle.merc_core.specs.declared.branch.Branch.{Branch as CoreBranch}
use Rattle.merc_core.specs.declared.cell.Cell.{Cell as CoreCell}
use Rattle.merc_core.specs.declared.worker.Worker.{Worker}
use Rattle.merc_core.specs.declared.course.Next.{Next}
use Rattle.merc_core.specs.declared.course.Next.TheVariants.{Tick as TickNext, Wait as WaitNext, Signal as SignalNext, Fork as ForkNext, End as EndNext}
use Rattle.merc_core.specs.declared.event.Event.TheVariants.{Signal}
use Rattle.merc_core.specs.declared.event.NotNow.TheVariants.{WrongItem}
use Rattle.merc_core.specs.World.{Branch, Runs, Spot, spot, World}
use Rattle.merc_core.specs.Rights.{has, has_in}
use Rattle.merc_core.specs.Events.{signal_on, signalled, past_signal, unchanged, wake, happens}
use Rattle.merc_core.specs.Standing.{StandsAt, IsLeft, IsNext, IsSignal}
use Rattle.merc_core.specs.Queues.{filled, meeting_at, waiting_of}
use Rattle.merc_core.specs.Mirror.{Key, Hand, Row, Waiting, Parent, stands_in, queue, held, held_of, row_of, in_hand_at, Parts, Shows, ShowsPool, ShowsCell, Mirrors, AreFit, made, still_made, branches_made, rights_made, joins_made}
use Rattle.merc_core.specs.Stepping.{RunsNext}
use Rattle.merc_core.proofs.Pool.{each_way}
use Rattle.merc_core.proofs.Acting.{with_worker, Acting, acting, runs-on, held-there, held-here, nat-is, worker-there, replaced}
use Rattle.merc_core.proofs.PoolShows.{key-runs, nat-self, with_queue, queue-same, same-queues, show-length, stands-apart, put, held-changed}
use Rattle.merc_core.proofs.PoolMoves.{woken_queues, wake-shows}
use Rattle.merc_core.proofs.Rooms.{still-takes, still-append, takes-length}
use Rattle.merc_core.proofs.Waking.{filters-apart, still-wake, length-wake, has-added, has-others}
use Rattle.merc_core.proofs.Simple.{stands-within, not-ended, left-on}

pub map-as-is : (cs : List CoreBranch) → map (λ c. c) cs ≡ cs
map-as-is [] = refl
map-as-is (c ∷ cs) = ap (λ l. c ∷ l) (map-as-is cs)

module _ (items : List Item) (parts : Parts) (w : World) (mirrors : Mirrors items parts w) (fit : AreFit items w) (v : ℕ) (k : Worker) (stands : slice_get parts.workers v ≡ Some k) where
  pub record Signals (cell : ℕ) : Type 0 where
    pub c : CoreBranch
    pub acts : Acting items parts w mirrors v k stands None c
    pub rest : Script
    pub is : acts.gone.x.branch.rest ≡ SignalThen cell rest
    pub left : StandsAt items (suc c.at) rest
    pub none : c.ended ≡ None

  signals-by : (cell : ℕ) (c : CoreBranch) (a : Acting items parts w mirrors v k stands None c) (rest : Script) → a.gone.x.branch.rest ≡ rest → IsLeft items c rest → IsSignal cell c.at items rest → Signals cell
  signals-by cell c a (SignalThen other rest) is left at = record {
    c = c;
    acts = a;
    rest = rest;
    is = is ∙ ap (λ n. SignalThen n rest) (sym at.0);
    left = at.1;
    none = not-ended items c.at c.ended (SignalThen other rest) left (λ o e. cc);
  }
  signals-by cell c a (Ends o) is left at = absurd at
  signals-by cell c a (TickThen rest) is left at = absurd at
  signals-by cell c a (WaitThen other rest) is left at = absurd at
  signals-by cell c a (ForkThen limit cells moves children rest) is left at = absurd at

  pub signals : (next : Next) (cell : ℕ) → RunsNext items k next → next ≡ SignalNext cell → Signals cell
  signals next cell runs is =
      let a = acting items parts w mirrors v k stands None runs.branch runs.more runs.free runs.hand fit in
      let comes : IsSignal cell runs.branch.at items a.gone.x.branch.rest = subst (λ (n : Next). IsNext items runs.branch.at n a.gone.x.branch.rest) is (runs.comes a.gone.x.branch.rest a.gone.one.left) in
      signals-by cell runs.branch a a.gone.x.branch.rest refl a.gone.one.left comes

  -- there is room for those that are woken
  pub woken-room : (cell : ℕ) → length k.list + length (waiting_of (parts.cells cell)) < 2 ^ 63
  woken-room cell =
      let a = show-length items (queue parts (Row v)) (filter (stands_in (Row v)) w.pool) (mirrors.pool.each (Row v)) in
      let b = show-length items (queue parts (Waiting cell)) (filter (stands_in (Waiting cell)) w.pool) (mirrors.pool.each (Waiting cell)) in
      let c = filters-apart (stands_in (Row v)) (stands_in (Waiting cell)) (λ x is. stands-apart (Row v) (Waiting cell) x is refl) w.pool in
      let d = ap (λ o. length (row_of o)) stands in let e = mirrors.has_room.crowd in omega arith

  module _ (cell : ℕ) (cells' : ℕ → Option CoreCell) (cells-are : (other : ℕ) → cells' other ≡ (if nat_eq cell other then filled (parts.cells cell) else parts.cells other)) where
    full-here : (other : ℕ) → nat_eq cell other ≡ true → cells' other ≡ filled (parts.cells other)
    full-here other same =
        cells-are other ∙ ap (λ t. if t then filled (parts.cells cell) else parts.cells other) same ∙ ap (λ n. filled (parts.cells n)) (nat-is cell other same)

    full-there : (other : ℕ) → nat_eq cell other ≡ false → cells' other ≡ parts.cells other
    full-there other apart = cells-are other ∙ ap (λ t. if t then filled (parts.cells cell) else parts.cells other) apart

    filled-shows : (other : ℕ) (o : Option CoreCell) → has other (w.full ++ (cell ∷ [])) ≡ true → ShowsCell other w.full w.poisoned o → ShowsCell other (w.full ++ (cell ∷ [])) w.poisoned (filled o)
    filled-shows other None is shows = tt
    filled-shows other (Some found) is shows = sym (ap (λ t. meeting_at t (has_in other w.poisoned)) is)

    kept-shows : (other : ℕ) (o : Option CoreCell) → has other (w.full ++ (cell ∷ [])) ≡ has other w.full → ShowsCell other w.full w.poisoned o → ShowsCell other (w.full ++ (cell ∷ [])) w.poisoned o
    kept-shows other None is shows = tt
    kept-shows other (Some found) is shows = shows ∙ sym (ap (λ t. meeting_at t (has_in other w.poisoned)) is)

    full-shows : (other : ℕ) → ShowsCell other (w.full ++ (cell ∷ [])) w.poisoned (cells' other)
    full-shows other = elim (each_way (nat_eq cell other)) [
      | inl same ↦ subst (ShowsCell other (w.full ++ (cell ∷ [])) w.poisoned) (sym (full-here other same))
          (filled-shows other (parts.cells other) (subst (λ n. has n (w.full ++ (cell ∷ [])) ≡ true) (nat-is cell other same) (has-added cell w.full)) (mirrors.cells other))
      | inr apart ↦ subst (ShowsCell other (w.full ++ (cell ∷ [])) w.poisoned) (sym (full-there other apart)) (kept-shows other (parts.cells other) (has-others cell other w.full apart) (mirrors.cells other))
    ]

    filled-some : (o : Option CoreCell) → IsSome o → IsSome (filled o)
    filled-some (Some found) some = refl
    filled-some None some = absurd (cc)

    full-some : (other : ℕ) → IsSome (parts.cells other) → IsSome (cells' other)
    full-some other some = elim (each_way (nat_eq cell other)) [
      | inl same ↦ subst IsSome (sym (full-here other same)) (filled-some (parts.cells other) some)
      | inr apart ↦ subst IsSome (sym (full-there other apart)) some
    ]

    filled-none : (o : Option CoreCell) → waiting_of (filled o) ≡ []
    filled-none None = refl
    filled-none (Some found) = refl

    module _ (c' : CoreBranch) (k' : Worker) (hand : k'.hand ≡ c' ∷ []) (list : k'.list ≡ k.list ++ waiting_of (parts.cells cell)) where
      new-queues : (key : Key) → with_queue (Hand v) (woken_queues cell v (λ c. c) (with_queue (Hand v) [] (queue parts)) (Hand v) ++ (c' ∷ [])) (woken_queues cell v (λ c. c) (with_queue (Hand v) [] (queue parts))) key
          ≡ queue (record (with_worker parts v k') { cells = cells' }) key
      new-queues (Hand u) = elim (each_way (nat_eq v u)) [
        | inl same ↦
            ap (λ t. if t then (if nat_eq v v then [] else queue parts (Hand v)) ++ (c' ∷ []) else (if nat_eq v u then [] else queue parts (Hand u))) same
            ∙ ap (λ t. (if t then [] else queue parts (Hand v)) ++ (c' ∷ [])) (nat-self v) ∙ sym hand
            ∙ sym (ap (λ t. if t then k'.hand else queue parts (Hand u)) same) ∙ replaced parts v k' (worker-there items parts w mirrors v k stands) (Hand u)
        | inr apart ↦
            ap (λ t. if t then (if nat_eq v v then [] else queue parts (Hand v)) ++ (c' ∷ []) else (if t then [] else queue parts (Hand u))) apart
            ∙ sym (ap (λ t. if t then k'.hand else queue parts (Hand u)) apart) ∙ replaced parts v k' (worker-there items parts w mirrors v k stands) (Hand u)
      ]
      new-queues (Row u) =
          ap (λ (l : List CoreBranch). if nat_eq v u then l else queue parts (Row u))
          (ap (λ o. row_of o ++ map (λ c. c) (waiting_of (parts.cells cell))) stands ∙ ap (λ l. k.list ++ l) (map-as-is (waiting_of (parts.cells cell))) ∙ sym list)
          ∙ replaced parts v k' (worker-there items parts w mirrors v k stands) (Row u)
      new-queues (Waiting other) = elim (each_way (nat_eq cell other)) [
        | inl same ↦ ap (λ t. if t then [] else waiting_of (parts.cells other)) same ∙ sym (ap waiting_of (full-here other same) ∙ filled-none (parts.cells other))
        | inr apart ↦ ap (λ t. if t then [] else waiting_of (parts.cells other)) apart ∙ sym (ap waiting_of (full-there other apart))
      ]
      new-queues (Parent j) = refl

    still-room : (each : ℕ → List ScriptCell → List Move → ℕ) (at : Signals cell)
        → still_made each (wake cell v unchanged at.acts.gone.others ++ (spot (Runs v) (past_signal cell at.acts.gone.x.branch at.rest) ∷ [])) ≤ still_made each w.pool
    still-room each at =
        let e = ap (made each) at.is in let t = still-takes each at.acts.gone.takes in
        let k = still-wake each cell v unchanged (λ b. omega arith) at.acts.gone.others in
        let p = still-append each (wake cell v unchanged at.acts.gone.others) (spot (Runs v) (past_signal cell at.acts.gone.x.branch at.rest) ∷ []) in omega arith

    pub signal-done : (at : Signals cell) (k' : Worker) → ((b : CoreBranch) → k.hand ≡ b ∷ [] → k'.hand ≡ (record b { at = b.at + 1 }) ∷ [])
        → k'.list ≡ k.list ++ waiting_of (parts.cells cell) → k'.held ≡ k.held → k.held ≡ None
        → (after : World) × (happens w (Signal v) ≡ Ok after) × Mirrors items (record (with_worker parts v k') { cells = cells' }) after
    signal-done at k' changed list held-same free =
        let a = at.acts in let one = a.gone.one in
        let near : v < length parts.workers = worker-there items parts w mirrors v k stands in
        let c' : CoreBranch = record at.c { at = at.c.at + 1 } in
        let b' = past_signal cell a.gone.x.branch at.rest in
        let hand : k'.hand ≡ c' ∷ [] = changed at.c a.only in
        let holds = λ (u : ℕ). held (with_worker parts v k') u in
        let behind : Shows items c' b' = record {
          join = one.join;
          child = one.child;
          at = let e = one.at in omega arith;
          steps = one.steps;
          signals = one.signals;
          left = left-on items at.c.at at.c.ended at.rest at.none at.left;
          within = (let e : suc at.c.at ≡ at.c.at + 1 = omega arith in subst (λ n. n < length items) e (stands-within items (suc at.c.at) at.rest at.left));
          few = let e = one.few in omega arith;
        } in
        let waked : ShowsPool items (woken_queues cell v (λ c. c) (with_queue (Hand v) [] (queue parts))) (λ u. held_of (slice_get parts.workers u)) (wake cell v unchanged a.gone.others) =
        wake-shows items (with_queue (Hand v) [] (queue parts)) (λ u. held_of (slice_get parts.workers u)) a.gone.others a.gone.rest cell v (λ c. c) unchanged (λ c b shows. shows) in
        let empty : woken_queues cell v (λ c. c) (with_queue (Hand v) [] (queue parts)) (Hand v) ≡ [] = queue-same (Hand v) [] (queue parts) in
        let ready : ShowsPool items (woken_queues cell v (λ c. c) (with_queue (Hand v) [] (queue parts))) holds (wake cell v unchanged a.gone.others) =
        held-changed items (woken_queues cell v (λ c. c) (with_queue (Hand v) [] (queue parts))) (λ u. held_of (slice_get parts.workers u)) (wake cell v unchanged a.gone.others) waked v holds empty (λ u apart. held-there parts v u k' apart) in
        let new = put items (woken_queues cell v (λ c. c) (with_queue (Hand v) [] (queue parts))) holds (wake cell v unchanged a.gone.others) ready (Hand v) (Runs v) c' b' (key-runs v) behind tt (λ _. empty)
        (λ u e. let same : v ≡ u = cc in subst (λ (n : ℕ). Runs v ≡ in_hand_at n (holds n)) same (sym (ap (in_hand_at v) (held-here parts v k' near ∙ held-same ∙ free)))) in (
          signalled w v a.gone.x.branch a.gone.others cell at.rest,
          runs-on items parts w mirrors v k stands at.c a _ ∙ ap (λ s. signal_on w v s a.gone.x.branch a.gone.others) at.is,
          record {
            workers = length-set parts.workers v k' ∙ mirrors.workers;
            pool = same-queues items _ (queue (record (with_worker parts v k') { cells = cells' })) _ (held (record (with_worker parts v k') { cells = cells' })) _ (new-queues c' k' hand list) (λ u. refl) new;
            cells = full-shows;
            waits = λ place other item. full-some other (mirrors.waits place other item);
            joins = mirrors.joins;
            count = mirrors.count;
            has_room = let r = mirrors.has_room in record {
              branches = let n = still-room branches_made at in let m = r.branches in omega arith;
              outcomes = let n = still-room branches_made at in let m = r.outcomes in omega arith;
              rights = let n = still-room rights_made at in let m = r.rights in omega arith;
              joins = let n = still-room joins_made at in let m = r.joins in omega arith;
              crowd = let l = length-wake cell v unchanged a.gone.others in let t = takes-length a.gone.takes in
                  let p = length-append (wake cell v unchanged a.gone.others) (spot (Runs v) b' ∷ []) in let m = r.crowd in omega arith;
              many = r.many;
            };
          },
        )

  no-signal : (place : ℕ) (next : Next) (left : Script) (b : Branch) (others : List Spot) → ((cell : ℕ) → next ≡ SignalNext cell → ⊥) → IsNext items place next left → signal_on w v left b others ≡ Err WrongItem
  no-signal place next (Ends o) b others apart at = refl
  no-signal place next (TickThen rest) b others apart at = refl
  no-signal place next (WaitThen cell rest) b others apart at = refl
  no-signal place next (ForkThen limit cells moves children rest) b others apart at = refl
  no-signal place (SignalNext cell) (SignalThen other rest) b others apart at = absurd (apart cell refl)
  no-signal place TickNext (SignalThen other rest) b others apart at = absurd at
  no-signal place (WaitNext cell) (SignalThen other rest) b others apart at = absurd at
  no-signal place (ForkNext fork) (SignalThen other rest) b others apart at = absurd at
  no-signal place (EndNext o) (SignalThen other rest) b others apart at = absurd at

  pub signal-refused : (next : Next) → RunsNext items k next → ((cell : ℕ) → next ≡ SignalNext cell → ⊥) → happens w (Signal v) ≡ Err WrongItem
  signal-refused next runs apart =
      let a = acting items parts w mirrors v k stands None runs.branch runs.more runs.free runs.hand fit in
      runs-on items parts w mirrors v k stands runs.branch a _
      ∙ no-signal runs.branch.at next a.gone.x.branch.rest a.gone.x.branch a.gone.others apart (runs.comes a.gone.x.branch.rest a.gone.one.left)
