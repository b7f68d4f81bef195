-- A branch comes to a wait.
use Rattle.std.proofs.Common.{◌≡◌, ℕ, suc, ◌+◌, ◌^◌, ◌≤◌, ◌<◌, inl, inr, Bool, true, false, List, [], ◌∷◌, ◌++◌, Some, None, refl, ap, sym, ◌∙◌, subst, arith, length, length-set}
use Rattle.std.specs.Prelude.{Option, Ok, Err, slice_get, filter, if◌then◌else◌, nat_eq, IsSome}
use Rattle.merc_script.specs.declared.outcome.Outcome.TheVariants.{Starved}
use Rattle.merc_script.specs.declared.items.Item.{Item}
use Rattle.merc_script.specs.Script.{Script, Ends, TickThen, WaitThen, SignalThen, ForkThen}
use Rattle.merc_core.specs.declared.branch.Branch.{Branch as CoreBranch}
use Rattle.merc_core.specs.declared.cell.Cell.{Cell as CoreCell}
use Rattle.merc_core.specs.declared.cell.Meeting.{Meeting}
use Rattle.merc_core.specs.declared.cell.Meeting.TheVariants.{Full, Poisoned, Open}
use Rattle.merc_core.specs.declared.worker.Worker.{Worker}
use Rattle.merc_core.specs.declared.course.Next.{Next}
use Rattle.merc_core.specs.declared.course.Next.TheVariants.{Tick as TickNext, Wait as WaitNext, Signal as SignalNext, Fork as ForkNext, End as EndNext}
use Rattle.merc_core.specs.declared.event.Event.TheVariants.{Wait}
use Rattle.merc_core.specs.declared.event.NotNow.TheVariants.{WrongItem}
use Rattle.merc_core.specs.World.{Branch, Runs, AtCell, Spot, spot, World}
use Rattle.merc_core.specs.Rights.{has, has_in}
use Rattle.merc_core.specs.Events.{wait_on, wait_at, past_wait, ended, happens}
use Rattle.merc_core.specs.Standing.{StandsAt, IsLeft, IsNext, IsWait}
use Rattle.merc_core.specs.Queues.{meeting_of, meeting_at, parked_at, waiting_of}
use Rattle.merc_core.specs.Mirror.{Key, Hand, Row, Waiting, Parent, stands_in, queue, held, held_of, Parts, Shows, ShowsPool, ShowsCell, Mirrors, AreFit, made}
use Rattle.merc_core.specs.Stepping.{RunsNext}
use Rattle.merc_core.proofs.Pool.{each_way}
use Rattle.merc_core.proofs.Steps.{put_back}
use Rattle.merc_core.proofs.Acting.{with_worker, Acting, acting, runs-on, back-in-hand, held-there, held-here, nat-is, worker-there}
use Rattle.merc_core.proofs.PoolShows.{key-at-cell, nat-self, with_queue, same-queues, show-length, put}
use Rattle.merc_core.proofs.Rooms.{room-back, takes-length}
use Rattle.merc_core.proofs.TakingUp.{hand-alone}
use Rattle.merc_core.proofs.Simple.{stands-within, not-ended, left-on}

filter-longer : {A : Type 0} (b : Bool) (x : A) (xs : List A) (n : ℕ) → length xs ≤ n → length (if b then x ∷ xs else xs) ≤ suc n
filter-longer true x xs n few = omega (arith, few)
filter-longer false x xs n few = omega (arith, few)

pub filter-length : {A : Type 0} (test : A → Bool) (xs : List A) → length (filter test xs) ≤ length xs
filter-length test [] = omega arith
filter-length test (x ∷ xs) = filter-longer (test x) x (filter test xs) (length xs) (filter-length test xs)

module _ (items : List Item) (parts : Parts) (w : World) (mirrors : Mirrors items parts w) (fit : AreFit items w) (v : ℕ) (k : Worker) (stands : slice_get parts.workers v ≡ Some k) where
  -- the branch is at a wait, with this left behind it
  pub record Waits (cell : ℕ) : Type 0 where
    pub c : CoreBranch
    pub acts : Acting items parts w mirrors v k stands None c
    pub rest : Script
    pub is : acts.gone.x.branch.rest ≡ WaitThen cell rest
    pub left : StandsAt items (suc c.at) rest
    pub none : c.ended ≡ None
    pub found : (one : CoreCell) × (parts.cells cell ≡ Some one)

  is-some : {A : Type 0} (o : Option A) → IsSome o → (x : A) × (o ≡ Some x)
  is-some (Some x) some = (x, refl)
  is-some None some = absurd (cc)

  waits-by : (cell : ℕ) (c : CoreBranch) (a : Acting items parts w mirrors v k stands None c) (rest : Script) → a.gone.x.branch.rest ≡ rest → IsLeft items c rest → IsWait cell c.at items rest → Waits cell
  waits-by cell c a (WaitThen other rest) is left at = record {
    c = c;
    acts = a;
    rest = rest;
    is = is ∙ ap (λ n. WaitThen n rest) (sym at.0);
    left = at.1;
    none = not-ended items c.at c.ended (WaitThen other rest) left (λ o e. cc);
    found = is-some (parts.cells cell) (mirrors.waits c.at cell at.2);
  }
  waits-by cell c a (Ends o) is left at = absurd at
  waits-by cell c a (TickThen rest) is left at = absurd at
  waits-by cell c a (SignalThen other rest) is left at = absurd at
  waits-by cell c a (ForkThen limit cells moves children rest) is left at = absurd at

  pub waits : (next : Next) (cell : ℕ) → RunsNext items k next → next ≡ WaitNext cell → Waits cell
  waits next cell runs is =
      let a = acting items parts w mirrors v k stands None runs.branch runs.more runs.free runs.hand fit in
      let comes : IsWait cell runs.branch.at items a.gone.x.branch.rest = subst (λ (n : Next). IsNext items runs.branch.at n a.gone.x.branch.rest) is (runs.comes a.gone.x.branch.rest a.gone.one.left) in
      waits-by cell runs.branch a a.gone.x.branch.rest refl a.gone.one.left comes

  module _ (cell : ℕ) (at : Waits cell) where
    -- what the event comes to
    wait-is : happens w (Wait v) ≡ wait_at w v cell at.rest at.acts.gone.x.branch at.acts.gone.others (has cell w.full) (has_in cell w.poisoned)
    wait-is = runs-on items parts w mirrors v k stands at.c at.acts _ ∙ ap (λ s. wait_on w v s at.acts.gone.x.branch at.acts.gone.others) at.is

    same : ShowsCell cell w.full w.poisoned (Some at.found.0)
    same = subst (ShowsCell cell w.full w.poisoned) at.found.1 (mirrors.cells cell)

    meets : (m : Meeting) → m ≡ meeting_of (parts.cells cell) → m ≡ meeting_at (has cell w.full) (has_in cell w.poisoned)
    meets m is = is ∙ ap meeting_of at.found.1 ∙ same

    full-is : (a b : Bool) → Full ≡ meeting_at a b → a ≡ true
    full-is true b is = refl
    full-is false true is = absurd (cc)
    full-is false false is = absurd (cc)

    poisoned-is : (a b : Bool) → Poisoned ≡ meeting_at a b → (a ≡ false) × (b ≡ true)
    poisoned-is true b is = absurd (cc)
    poisoned-is false true is = (refl, refl)
    poisoned-is false false is = absurd (cc)

    open-is : (a b : Bool) → Open ≡ meeting_at a b → (a ≡ false) × (b ≡ false)
    open-is true b is = absurd (cc)
    open-is false true is = absurd (cc)
    open-is false false is = (refl, refl)

    -- a branch behind the wait
    pub behind : Shows items (record at.c { at = at.c.at + 1 }) (past_wait cell at.acts.gone.x.branch at.rest)
    behind = let one = at.acts.gone.one in record {
      join = one.join;
      child = one.child;
      at = let e = one.at in omega arith;
      steps = one.steps;
      signals = one.signals;
      left = left-on items at.c.at at.c.ended at.rest at.none at.left;
      within = (let e : suc at.c.at ≡ at.c.at + 1 = omega arith in subst (λ n. n < length items) e (stands-within items (suc at.c.at) at.rest at.left));
      few = let e = one.few in omega arith;
    }

    pub full-done : (m : Meeting) → m ≡ meeting_of (parts.cells cell) → m ≡ Full → (k' : Worker)
        → ((b : CoreBranch) → k.hand ≡ b ∷ [] → k'.hand ≡ (record b { at = b.at + 1 }) ∷ []) → k'.held ≡ k.held → k'.list ≡ k.list → k.held ≡ None
        → (after : World) × (happens w (Wait v) ≡ Ok after) × Mirrors items (with_worker parts v k') after
    full-done m is at-full k' hand held list free =
        let yes-full : has cell w.full ≡ true = full-is (has cell w.full) (has_in cell w.poisoned) (sym at-full ∙ meets m is) in (
          put_back w (Runs v) (past_wait cell at.acts.gone.x.branch at.rest) at.acts.gone.others,
          wait-is ∙ ap (λ t. wait_at w v cell at.rest at.acts.gone.x.branch at.acts.gone.others t (has_in cell w.poisoned)) yes-full,
          back-in-hand items parts w mirrors v k stands None None at.c (record at.c { at = at.c.at + 1 }) at.acts k' (past_wait cell at.acts.gone.x.branch at.rest)
              (hand at.c at.acts.only) list (held ∙ free) behind (λ each. let e = ap (made each) at.is in omega (arith, e)),
        )

    pub poisoned-done : (m : Meeting) → m ≡ meeting_of (parts.cells cell) → m ≡ Poisoned → (k' : Worker)
        → ((b : CoreBranch) (bs : List CoreBranch) → k.hand ≡ b ∷ bs → k'.hand ≡ (record b { ended = Some Starved }) ∷ bs) → k'.held ≡ k.held → k'.list ≡ k.list → k.held ≡ None
        → (after : World) × (happens w (Wait v) ≡ Ok after) × Mirrors items (with_worker parts v k') after
    poisoned-done m is at-poisoned k' hand held list free =
        let one = at.acts.gone.one in
        let which = poisoned-is (has cell w.full) (has_in cell w.poisoned) (sym at-poisoned ∙ meets m is) in (
          put_back w (Runs v) (ended Starved at.acts.gone.x.branch) at.acts.gone.others,
          wait-is ∙ ap (λ t. wait_at w v cell at.rest at.acts.gone.x.branch at.acts.gone.others t (has_in cell w.poisoned)) which.0
              ∙ ap (λ t. wait_at w v cell at.rest at.acts.gone.x.branch at.acts.gone.others false t) which.1,
          back-in-hand items parts w mirrors v k stands None None at.c (record at.c { ended = Some Starved }) at.acts k' (ended Starved at.acts.gone.x.branch)
              (hand at.c [] at.acts.only) list (held ∙ free)
              (record { join = one.join; child = one.child; at = one.at; steps = one.steps; signals = one.signals; left = refl; within = one.within; few = one.few })
              (λ each. omega arith),
        )

    -- helpers on what is parked
    same-held : (k' : Worker) → k'.held ≡ k.held → (u : ℕ) → held parts u ≡ held (with_worker parts v k') u
    same-held k' held-same u = elim (each_way (nat_eq v u)) [
      | inl is ↦ (let e : v ≡ u = nat-is v u is in
          subst (λ (n : ℕ). held parts n ≡ held (with_worker parts v k') n) e
          (ap (λ o. held_of o) stands ∙ sym (held-here parts v k' (worker-there items parts w mirrors v k stands) ∙ held-same)))
      | inr apart ↦ held-there parts v u k' apart
    ]

    module _ (mid : List CoreBranch) (cells' : ℕ → Option CoreCell) (cells-are : (other : ℕ) → cells' other ≡ (if nat_eq cell other then parked_at mid (parts.cells cell) else parts.cells other)) where
      here-is : (other : ℕ) → nat_eq cell other ≡ true → cells' other ≡ parked_at mid (Some at.found.0)
      here-is other same = cells-are other ∙ ap (λ t. if t then parked_at mid (parts.cells cell) else parts.cells other) same ∙ ap (parked_at mid) at.found.1

      there-is : (other : ℕ) → nat_eq cell other ≡ false → cells' other ≡ parts.cells other
      there-is other apart = cells-are other ∙ ap (λ t. if t then parked_at mid (parts.cells cell) else parts.cells other) apart

      shows-other : (other : ℕ) → ShowsCell other w.full w.poisoned (cells' other)
      shows-other other = elim (each_way (nat_eq cell other)) [
        | inl here ↦ subst (ShowsCell other w.full w.poisoned) (sym (here-is other here))
            (subst (λ (n : ℕ). ShowsCell n w.full w.poisoned (parked_at mid (Some at.found.0))) (nat-is cell other here) same)
        | inr apart ↦ subst (ShowsCell other w.full w.poisoned) (sym (there-is other apart)) (mirrors.cells other)
      ]

      parked-some : (other : ℕ) → IsSome (parts.cells other) → IsSome (cells' other)
      parked-some other some = elim (each_way (nat_eq cell other)) [
        | inl same ↦ subst IsSome (sym (here-is other same)) refl
        | inr apart ↦ subst IsSome (sym (there-is other apart)) some
      ]

      parked-queue : (c' : CoreBranch) (k' : Worker) → k'.hand ≡ [] → k'.list ≡ k.list → waiting_of (cells' cell) ≡ waiting_of (parts.cells cell) ++ (c' ∷ []) → (key : Key)
          → with_queue (Waiting cell) (with_queue (Hand v) [] (queue parts) (Waiting cell) ++ (c' ∷ [])) (with_queue (Hand v) [] (queue parts)) key ≡ queue (record (with_worker parts v k') { cells = cells' }) key
      parked-queue c' k' hand list in-cell (Hand u) = ap (λ (l : List CoreBranch). if nat_eq v u then l else queue parts (Hand u)) (sym hand) ∙ hand-alone parts v k stands k' list (Hand u)
      parked-queue c' k' hand list in-cell (Row u) = hand-alone parts v k stands k' list (Row u)
      parked-queue c' k' hand list in-cell (Parent j) = refl
      parked-queue c' k' hand list in-cell (Waiting other) = elim (each_way (nat_eq cell other)) [
        | inl same ↦
            ap (λ t. if t then waiting_of (parts.cells cell) ++ (c' ∷ []) else waiting_of (parts.cells other)) same ∙ sym in-cell ∙ ap (λ n. waiting_of (cells' n)) (nat-is cell other same)
        | inr apart ↦ ap (λ t. if t then waiting_of (parts.cells cell) ++ (c' ∷ []) else waiting_of (parts.cells other)) apart ∙ sym (ap waiting_of (there-is other apart))
      ]

    -- the branch is parked: the hand is empty, and the cell has one more
    pub open-done : (m : Meeting) → m ≡ meeting_of (parts.cells cell) → m ≡ Open → (mid : List CoreBranch)
        → ((b : CoreBranch) → k.hand ≡ b ∷ [] → mid ≡ (record b { at = b.at + 1 }) ∷ []) → (k' : Worker) → k'.hand ≡ [] → k'.held ≡ k.held → k'.list ≡ k.list
        → (cells' : ℕ → Option CoreCell) → ((other : ℕ) → cells' other ≡ (if nat_eq cell other then parked_at mid (parts.cells cell) else parts.cells other))
        → (after : World) × (happens w (Wait v) ≡ Ok after) × Mirrors items (record (with_worker parts v k') { cells = cells' }) after
    open-done m is at-open mid changed k' hand held-same list cells' cells-are =
        let a = at.acts in
        let which = open-is (has cell w.full) (has_in cell w.poisoned) (sym at-open ∙ meets m is) in
        let c' : CoreBranch = record at.c { at = at.c.at + 1 } in
        let b' = past_wait cell a.gone.x.branch at.rest in
        let parts' : Parts = record (with_worker parts v k') { cells = cells' } in
        let new : ShowsPool items (with_queue (Waiting cell) (with_queue (Hand v) [] (queue parts) (Waiting cell) ++ (c' ∷ [])) (with_queue (Hand v) [] (queue parts))) (λ u. held_of (slice_get parts.workers u)) (a.gone.others ++ (spot (AtCell cell) b' ∷ [])) =
        put items (with_queue (Hand v) [] (queue parts)) (λ u. held_of (slice_get parts.workers u)) a.gone.others a.gone.rest (Waiting cell) (AtCell cell) c' b' (key-at-cell cell) behind tt
        (λ single. absurd single) (λ u e. absurd (cc)) in
        let in-cell : waiting_of (cells' cell) ≡ waiting_of (parts.cells cell) ++ (c' ∷ []) =
        ap waiting_of (cells-are cell ∙ ap (λ t. if t then parked_at mid (parts.cells cell) else parts.cells cell) (nat-self cell)
        ∙ ap (parked_at mid) at.found.1) ∙ ap (λ l. at.found.0.waiting ++ l) (changed at.c a.only) ∙ ap (λ o. waiting_of o ++ (c' ∷ [])) (sym at.found.1) in (
          record w { pool = a.gone.others ++ (spot (AtCell cell) b' ∷ []) },
          wait-is ∙ ap (λ t. wait_at w v cell at.rest a.gone.x.branch a.gone.others t (has_in cell w.poisoned)) which.0
              ∙ ap (λ t. wait_at w v cell at.rest a.gone.x.branch a.gone.others false t) which.1,
          record {
            workers = length-set parts.workers v k' ∙ mirrors.workers;
            pool = same-queues items _ (queue parts') _ (held parts') _ (λ key. parked-queue mid cells' cells-are c' k' hand list in-cell key) (λ u. same-held k' held-same u) new;
            cells = λ other. shows-other mid cells' cells-are other;
            waits = λ place other item. parked-some mid cells' cells-are other (mirrors.waits place other item);
            joins = mirrors.joins;
            count = mirrors.count;
            has_room = let r = room-back parts (length w.joins) a.gone.takes (spot (AtCell cell) b') (λ each. let e = ap (made each) at.is in omega (arith, e)) mirrors.has_room in
                record { branches = r.branches; outcomes = r.outcomes; rights = r.rights; joins = r.joins; crowd = r.crowd; many = r.many };
          },
        )

  no-wait : (place : ℕ) (next : Next) (left : Script) (b : Branch) (others : List Spot) → ((cell : ℕ) → next ≡ WaitNext cell → ⊥) → IsNext items place next left → wait_on w v left b others ≡ Err WrongItem
  no-wait place next (Ends o) b others apart at = refl
  no-wait place next (TickThen rest) b others apart at = refl
  no-wait place next (SignalThen cell rest) b others apart at = refl
  no-wait place next (ForkThen limit cells moves children rest) b others apart at = refl
  no-wait place (WaitNext cell) (WaitThen other rest) b others apart at = absurd (apart cell refl)
  no-wait place TickNext (WaitThen other rest) b others apart at = absurd at
  no-wait place (SignalNext cell) (WaitThen other rest) b others apart at = absurd at
  no-wait place (ForkNext fork) (WaitThen other rest) b others apart at = absurd at
  no-wait place (EndNext o) (WaitThen other rest) b others apart at = absurd at

  pub wait-refused : (next : Next) → RunsNext items k next → ((cell : ℕ) → next ≡ WaitNext cell → ⊥) → happens w (Wait v) ≡ Err WrongItem
  wait-refused next runs apart =
      let a = acting items parts w mirrors v k stands None runs.branch runs.more runs.free runs.hand fit in
      runs-on items parts w mirrors v k stands runs.branch a _
      ∙ no-wait runs.branch.at next a.gone.x.branch.rest a.gone.x.branch a.gone.others apart (runs.comes a.gone.x.branch.rest a.gone.one.left)

  -- there is room for one more at a cell
  pub cell-room : (cell : ℕ) → Waits cell → length (waiting_of (parts.cells cell)) + 1 < 2 ^ 63
  cell-room cell at =
      let g = at.acts.gone in
      let a = show-length items (waiting_of (parts.cells cell)) (filter (stands_in (Waiting cell)) g.others) (g.rest.each (Waiting cell)) in
      let b = filter-length (stands_in (Waiting cell)) g.others in
      let c = takes-length g.takes in let d = mirrors.has_room.crowd in omega arith
