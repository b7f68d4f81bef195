-- The event of a worker's turn is accepted, and so is a pop of what is in a list; and there is one of them until the outermost join is done.
use Rattle.std.proofs.Common.{◌≡◌, ◌==◌, ℕ, zero, suc, ◌+◌, ◌-◌, ◌<◌, inl, inr, true, false, List, [], ◌∷◌, ◌++◌, take, drop, Some, None, refl, ap, sym, ◌∙◌, subst, arith, length}
use Rattle.std.proofs.lemmas.Bool.Decides.{nat_tests}
use Rattle.std.specs.Prelude.{Option, slice_get, filter}
use Rattle.std.specs.List.{AllByRecursion}
use Rattle.merc_script.specs.declared.items.Item.{Item}
use Rattle.merc_script.specs.Script.{Script, Ends, TickThen, WaitThen, SignalThen, ForkThen}
use Rattle.merc_core.specs.declared.branch.Branch.{Branch as CoreBranch}
use Rattle.merc_core.specs.declared.course.Next.{Next}
use Rattle.merc_core.specs.declared.course.Next.TheVariants.{Tick as TickNext, Wait as WaitNext, Signal as SignalNext, Fork as ForkNext, End as EndNext}
use Rattle.merc_core.specs.declared.event.Event.{Event}
use Rattle.merc_core.specs.declared.event.Event.TheVariants.{Pop, Resume}
use Rattle.merc_core.specs.declared.worker.Worker.{Worker}
use Rattle.merc_core.specs.World.{Branch, Runs, Holds, Location, Spot, spot, World}
use Rattle.merc_core.specs.Ready.{event_at}
use Rattle.merc_core.specs.Laws.{GoesOn, IsKept}
use Rattle.merc_core.specs.Standing.{IsNext}
use Rattle.merc_core.specs.Mirror.{Key, Hand, Row, stands_in, queue, hand_of, row_of, held, AllShow, Parts, Mirrors, AreFit}
use Rattle.merc_core.specs.Stepping.{RunsNext, IsIdle, empty, holding}
use Rattle.merc_core.specs.Replaying.{event_for, IsTurn, runs, holds, IsFirstTurn, first_pop}
use Rattle.merc_core.proofs.Pool.{Takes, chosen, takes-one}
use Rattle.merc_core.proofs.PoolShows.{nat-self, show-none}
use Rattle.merc_core.proofs.Steps.{Step, ticked, forks, signals, passes, starves, parks, finishes, takes_up, resumes, step_of}
use Rattle.merc_core.proofs.Live.{Live, StuckAt, Stuck}
use Rattle.merc_core.proofs.Progress.{Accepted, runs-ok, holds-ok}
use Rattle.merc_core.proofs.Acting.{Acting, acting, knows, filter-one}
use Rattle.merc_core.proofs.TakingUp.{pop-done, empty-list}

module _ (items : List Item) (v place : ℕ) where
  -- a branch comes to the item with which what is left of its script begins
  for-next : (next : Next) (left : Script) → IsNext items place next left → event_at v left ≡ event_for v next
  for-next TickNext (TickThen rest) is = refl
  for-next TickNext (Ends o) is = absurd is
  for-next TickNext (WaitThen cell rest) is = absurd is
  for-next TickNext (SignalThen cell rest) is = absurd is
  for-next TickNext (ForkThen limit cells moves children rest) is = absurd is
  for-next (WaitNext cell) (WaitThen other rest) is = refl
  for-next (WaitNext cell) (Ends o) is = absurd is
  for-next (WaitNext cell) (TickThen rest) is = absurd is
  for-next (WaitNext cell) (SignalThen other rest) is = absurd is
  for-next (WaitNext cell) (ForkThen limit cells moves children rest) is = absurd is
  for-next (SignalNext cell) (SignalThen other rest) is = refl
  for-next (SignalNext cell) (Ends o) is = absurd is
  for-next (SignalNext cell) (TickThen rest) is = absurd is
  for-next (SignalNext cell) (WaitThen other rest) is = absurd is
  for-next (SignalNext cell) (ForkThen limit cells moves children rest) is = absurd is
  for-next (ForkNext fork) (ForkThen limit cells moves children rest) is = refl
  for-next (ForkNext fork) (Ends o) is = absurd is
  for-next (ForkNext fork) (TickThen rest) is = absurd is
  for-next (ForkNext fork) (WaitThen cell rest) is = absurd is
  for-next (ForkNext fork) (SignalThen cell rest) is = absurd is
  for-next (EndNext o) (Ends other) is = refl
  for-next (EndNext o) (TickThen rest) is = absurd is
  for-next (EndNext o) (WaitThen cell rest) is = absurd is
  for-next (EndNext o) (SignalThen cell rest) is = absurd is
  for-next (EndNext o) (ForkThen limit cells moves children rest) is = absurd is

not-none : (n : ℕ) → (n == 0) ≡ false → 0 < n
not-none n is = grind (arith, nat_tests)

-- a worker that runs none has a parent in its hand, if anything
pub idle-turn : (items : List Item) (number : ℕ) (worker : Worker) → IsIdle worker → (length worker.hand == 0) ≡ false → IsTurn items number worker (Resume number)
idle-turn items number worker (empty none) some = absurd (let e = not-none (length worker.hand) some in let n = ap length none in omega (arith, e, n))
idle-turn items number worker (holding join held) some = holds join held (not-none (length worker.hand) some)

-- the worker of an event that was found, and its number among all
pub record Its (workers : List Worker) (IsSo : ℕ → Worker → Type 0) : Type 0 where
  pub number : ℕ
  pub worker : Worker
  pub stands : slice_get workers number ≡ Some worker
  pub is : IsSo number worker

abbrev pub AllOf : (Worker → Type 0) → List Worker → Type 0
AllOf IsSo workers = (number : ℕ) (worker : Worker) → slice_get workers number ≡ Some worker → IsSo worker

abbrev pub AreFree : List Worker → Type 0
AreFree workers = AllOf (λ worker. worker.hand ≡ []) workers

abbrev pub HaveNone : List Worker → Type 0
HaveNone workers = AllOf (λ worker. worker.list ≡ []) workers

all-more : (IsSo : Worker → Type 0) (first : Worker) (rest : List Worker) → IsSo first → AllOf IsSo rest → AllOf IsSo (first ∷ rest)
all-more IsSo first rest is all zero worker stands = let same : first ≡ worker = cc in subst IsSo same is
all-more IsSo first rest is all (suc number) worker stands = all number worker stands

-- what holds of each by its number holds of all
pub all-of : (IsSo : Worker → Type 0) (workers : List Worker) → AllOf IsSo workers → AllByRecursion IsSo workers
all-of IsSo [] all = tt
all-of IsSo (first ∷ rest) all = (all zero first refl, all-of IsSo rest (λ number worker stands. all (suc number) worker stands))

-- one behind the first, where all are numbered from this number on
its-more : (IsSo : ℕ → Worker → Type 0) (from : ℕ) (first : Worker) (rest : List Worker) → Its rest (λ i k. IsSo (from + 1 + i) k) → Its (first ∷ rest) (λ i k. IsSo (from + i) k)
its-more IsSo from first rest its = record {
  number = suc its.number;
  worker = its.worker;
  stands = its.stands;
  is = let e : from + 1 + its.number ≡ from + suc its.number = omega arith in subst (λ (n : ℕ). IsSo n its.worker) e its.is;
}

its-first : (IsSo : ℕ → Worker → Type 0) (from : ℕ) (first : Worker) (rest : List Worker) → IsSo from first → Its (first ∷ rest) (λ i k. IsSo (from + i) k)
its-first IsSo from first rest is = record {
  number = zero;
  worker = first;
  stands = refl;
  is = let e : from ≡ from + zero = omega arith in subst (λ (n : ℕ). IsSo n first) e is;
}

-- the first turn is the turn of some worker
turn-found : (items : List Item) (from : ℕ) (workers : List Worker) (event : Event) → IsFirstTurn items from workers (Some event) → Its workers (λ i k. IsTurn items (from + i) k event)
turn-found items from [] event is = absurd (cc)
turn-found items from (first ∷ rest) event (inl later) = its-more (λ n k. IsTurn items n k event) from first rest (turn-found items (from + 1) rest event later.1)
turn-found items from (first ∷ rest) event (inr here') =
    let same : here'.0 ≡ event = (let e = here'.1 in cc) in its-first (λ n k. IsTurn items n k event) from first rest (subst (IsTurn items from first) same here'.2)

-- neither a turn nor a pop ends a branch for want of memory

kept-next : (number : ℕ) (next : Next) → IsKept (event_for number next)
kept-next number TickNext = tt
kept-next number (WaitNext cell) = tt
kept-next number (SignalNext cell) = tt
kept-next number (ForkNext fork) = tt
kept-next number (EndNext o) = tt

kept-its : (items : List Item) (number : ℕ) (worker : Worker) (event : Event) → IsTurn items number worker event → IsKept event
kept-its items number worker _ (runs next is) = kept-next number next
kept-its items number worker _ (holds join held some) = tt

pub kept-turn : (items : List Item) (workers : List Worker) (event : Event) → IsFirstTurn items 0 workers (Some event) → IsKept event
kept-turn items workers event is = let its = turn-found items 0 workers event is in kept-its items (0 + its.number) its.worker event its.is

no-turn : (items : List Item) (from : ℕ) (workers : List Worker) → IsFirstTurn items from workers None → AreFree workers
no-turn items from [] is = λ number worker stands. absurd (cc)
no-turn items from (first ∷ rest) (inl later) = all-more (λ worker. worker.hand ≡ []) first rest later.0 (no-turn items (from + 1) rest later.1)
no-turn items from (first ∷ rest) (inr here') = absurd (let e = here'.1 in cc)

abbrev Pops : Event → ℕ → Worker → Type 0
Pops event number worker = (0 < length worker.list) × (event ≡ Pop number)

pop-found : (from : ℕ) (workers : List Worker) (event : Event) → first_pop from workers ≡ Some event → Its workers (λ i k. Pops event (from + i) k)
pop-found from [] event is = absurd (cc)
pop-found from (first ∷ rest) event is = elim (chosen (length first.list == 0) (first_pop (from + 1) rest) (Some (Pop from)) (Some event) is) [
  | inl none ↦ its-more (Pops event) from first rest (pop-found (from + 1) rest event none.1)
  | inr some ↦ its-first (Pops event) from first rest (not-none (length first.list) some.0, let e = some.1 in cc)
]

pub kept-pop : (workers : List Worker) (event : Event) → first_pop 0 workers ≡ Some event → IsKept event
kept-pop workers event is = let its = pop-found 0 workers event is in subst IsKept (sym its.is.1) tt

no-pop : (from : ℕ) (workers : List Worker) → first_pop from workers ≡ None → HaveNone workers
no-pop from [] is = λ number worker stands. absurd (cc)
no-pop from (first ∷ rest) is = elim (chosen (length first.list == 0) (first_pop (from + 1) rest) (Some (Pop from)) None is) [
  | inl none ↦ all-more (λ worker. worker.list ≡ []) first rest (empty-list first.list none.0) (no-pop (from + 1) rest none.1)
  | inr some ↦ absurd (let e = some.1 in cc)
]

abbrev found_with : List Spot → Spot → Option (Spot × List Spot)
found_with others x = Some (x, others)

located : (x : Spot) (others : List Spot) (location : Location) → x.location ≡ location → found_with others x ≡ found_with others (spot location x.branch)
located x others location is = ap (λ (l : Location). found_with others (spot l x.branch)) is

module _ (items : List Item) (parts : Parts) (w : World) (mirrors : Mirrors items parts w) (fit : AreFit items w) (due : ℕ → ℕ) (root : Script) (live : Live due root w) where
  held-turn : (v join : ℕ) (k : Worker) → slice_get parts.workers v ≡ Some k → k.held ≡ Some join → (l : List CoreBranch) → k.hand ≡ l → 0 < length l → Accepted w (Resume v)
  held-turn v join k stands held [] is some = absurd (omega arith)
  held-turn v join k stands held (c ∷ more) is some =
      let a : Acting items parts w mirrors v k stands (Some join) c = acting items parts w mirrors v k stands (Some join) c more held is fit in
      let stuck : StuckAt w.full w.poisoned w.joins w.stored (Holds v join) =
      subst (StuckAt w.full w.poisoned w.joins w.stored) a.location (takes-one (Stuck w.full w.poisoned w.joins w.stored) a.gone.takes live.stuck) in
      holds-ok w v join a.gone.x.branch a.gone.others (knows items parts w mirrors v k stands)
      (a.gone.is ∙ located a.gone.x a.gone.others (Holds v join) a.location) stuck.0 stuck.2 stuck.1 stuck.3

  runs-turn : (v : ℕ) (k : Worker) → slice_get parts.workers v ≡ Some k → (next : Next) → RunsNext items k next → Accepted w (event_for v next)
  runs-turn v k stands next r =
      let a : Acting items parts w mirrors v k stands None r.branch = acting items parts w mirrors v k stands None r.branch r.more r.free r.hand fit in
      let b = a.gone.x.branch in
      subst (Accepted w) (for-next items v r.branch.at next b.rest (r.comes b.rest a.gone.one.left))
      (runs-ok w v b b.rest a.gone.others (knows items parts w mirrors v k stands) (a.gone.is ∙ located a.gone.x a.gone.others (Runs v) a.location))

  turn-of : (v : ℕ) (k : Worker) → slice_get parts.workers v ≡ Some k → (event : Event) → IsTurn items v k event → Accepted w event
  turn-of v k stands _ (runs next is) = runs-turn v k stands next is
  turn-of v k stands _ (holds join held some) = held-turn v join k stands held k.hand refl some

  pub turn-ok : (event : Event) → IsFirstTurn items 0 parts.workers (Some event) → Accepted w event
  turn-ok event is = let its = turn-found items 0 parts.workers event is in
      let e : 0 + its.number ≡ its.number = omega arith in
      turn-of its.number its.worker its.stands event (subst (λ (n : ℕ). IsTurn items n its.worker event) e its.is)

  no-hand : AreFree parts.workers → (v : ℕ) → queue parts (Hand v) ≡ []
  no-hand free v = none-there (slice_get parts.workers v) refl
    where
      none-there : (o : Option Worker) → slice_get parts.workers v ≡ o → hand_of o ≡ []
      none-there None is = refl
      none-there (Some k) is = free v k is

  no-list : HaveNone parts.workers → (v : ℕ) → queue parts (Row v) ≡ []
  no-list none v = none-there (slice_get parts.workers v) refl
    where
      none-there : (o : Option Worker) → slice_get parts.workers v ≡ o → row_of o ≡ []
      none-there None is = refl
      none-there (Some k) is = none v k is

  pop-of : AreFree parts.workers → (v : ℕ) (k : Worker) → slice_get parts.workers v ≡ Some k → 0 < length k.list → Accepted w (Pop v)
  pop-of free v k stands some =
      let done = pop-done items parts w mirrors v k stands (free v k stands) some
      (record { hand = k.hand ++ drop (length k.list - 1) k.list; held = None; list = take (length k.list - 1) k.list }) refl refl refl in
      record { next = done.0; is = done.1 }

  pub pop-ok : IsFirstTurn items 0 parts.workers None → (event : Event) → first_pop 0 parts.workers ≡ Some event → Accepted w event
  pop-ok none event is =
      let its = pop-found 0 parts.workers event is in
      let e : 0 + its.number ≡ its.number = omega arith in
      subst (Accepted w) (sym (its.is.1 ∙ ap Pop e)) (pop-of (no-turn items 0 parts.workers none) its.number its.worker its.stands its.is.0)

  -- no branch stands in a list that is empty
  none-in : (key : Key) → queue parts key ≡ [] → {x : Spot} {others : List Spot} → Takes w.pool x others → stands_in key x ≡ true → ⊥
  none-in key nothing takes is =
      let none : filter (stands_in key) w.pool ≡ [] =
      show-none items (filter (stands_in key) w.pool) (subst (λ (l : List CoreBranch). AllShow items l (filter (stands_in key) w.pool)) nothing (mirrors.pool.each key)) in
      filter-one (λ x. ⊥) (stands_in key) takes is (subst (AllByRecursion (λ (x : Spot). ⊥)) (sym none) tt)

  module _ (free : AreFree parts.workers) (none : HaveNone parts.workers) where
    none-runs : (v : ℕ) (b : Branch) (others : List Spot) → Takes w.pool (spot (Runs v) b) others → ⊥
    none-runs v b others takes = none-in (Hand v) (no-hand free v) takes (nat-self v)

    none-steps : (e : Event) (w' : World) → Step w e w' → ⊥
    none-steps _ _ (ticked v b rest others worker takes) = none-runs v _ others takes
    none-steps _ _ (forks v b limit cells moves children rest others worker takes) = none-runs v _ others takes
    none-steps _ _ (signals v b cell rest others worker takes) = none-runs v _ others takes
    none-steps _ _ (passes v b cell rest others worker takes full) = none-runs v _ others takes
    none-steps _ _ (starves v b cell rest others worker takes poisoned) = none-runs v _ others takes
    none-steps _ _ (parks v b cell rest others worker takes full poisoned) = none-runs v _ others takes
    none-steps _ _ (finishes e v b o others worker takes how) = none-runs v _ others takes
    none-steps _ _ (takes_up e v u b others worker takes-up free' takes) = none-in (Row u) (no-list none u) takes (nat-self u)
    none-steps _ _ (resumes v b number join outcomes others worker takes is all) = none-in (Hand v) (no-hand free v) takes (nat-self v)

  -- so no event is accepted
  pub none-goes-on : IsFirstTurn items 0 parts.workers None → first_pop 0 parts.workers ≡ None → GoesOn w → ⊥
  none-goes-on free none on = none-steps (no-turn items 0 parts.workers free) (no-pop 0 parts.workers none) on.event on.next (step_of w on.event on.next on.accepted)
