-- A branch that a worker runs is taken up and put back.
use Rattle.std.proofs.Common.{◌≡◌, ℕ, zero, suc, ◌≤◌, ◌<◌, inl, inr, Bool, true, false, List, [], ◌∷◌, ◌++◌, Some, None, refl, ap, sym, ◌∙◌, subst, arith, length, length-set}
use Rattle.std.proofs.Math.ListN.{set}
use Rattle.std.proofs.lemmas.Option.{slice_get_within}
use Rattle.std.proofs.lemmas.Bool.Decides.{nat_tests}
use Rattle.std.specs.Prelude.{Option, Err, slice_get, filter, if◌then◌else◌, nat_eq, nat_lt}
use Rattle.std.specs.List.{AllByRecursion}
use Rattle.merc_script.specs.declared.items.Item.{Item}
use Rattle.merc_script.specs.Script.{Cell as ScriptCell, Move}
use Rattle.merc_core.specs.declared.branch.Branch.{Branch as CoreBranch}
use Rattle.merc_core.specs.declared.worker.Worker.{Worker}
use Rattle.merc_core.specs.declared.event.NotNow.TheVariants.{NoWorker, Idle}
use Rattle.merc_core.specs.World.{Branch, Runs, Spot, spot, World}
use Rattle.merc_core.specs.Events.{Answer, in_hand, running, if_found, if_runs}
use Rattle.merc_core.specs.Mirror.{Key, Hand, Row, Waiting, Parent, same_key, stands_in, in_hand_at, queue, held, held_of, hand_of, row_of, Parts, Shows, ShowsPool, Mirrors, AreFit, IsFitAt, made, HasRoom}
use Rattle.merc_core.specs.Stepping.{IsIdle, empty, holding}
use Rattle.merc_core.proofs.Pool.{Takes, here, there, each_way, takes-one}
use Rattle.merc_core.proofs.Steps.{put_back}
use Rattle.merc_core.proofs.Filters.{filter-yes, filter-no}
use Rattle.merc_core.proofs.PoolShows.{key-runs, same-key-is, with_queue, queue-same, same-queues, Gone, gone-first, gone-none, put, held-changed}
use Rattle.merc_core.proofs.Rooms.{room-back}

-- a worker is replaced
abbrev pub with_worker : Parts → ℕ → Worker → Parts
with_worker parts v k = record parts { workers = set parts.workers v k }

pub get-set-here : {A : Type 0} (xs : List A) (i : ℕ) (x : A) → i < length xs → slice_get (set xs i x) i ≡ Some x
get-set-here [] i x in_range = absurd (omega arith)
get-set-here (y ∷ ys) zero x in_range = refl
get-set-here (y ∷ ys) (suc i) x in_range = get-set-here ys i x (omega arith)

pub get-set-there : {A : Type 0} (xs : List A) (i j : ℕ) (x : A) → (i ≡ j → ⊥) → slice_get (set xs i x) j ≡ slice_get xs j
get-set-there [] i j x apart = refl
get-set-there (y ∷ ys) zero zero x apart = absurd (apart refl)
get-set-there (y ∷ ys) zero (suc j) x apart = refl
get-set-there (y ∷ ys) (suc i) zero x apart = refl
get-set-there (y ∷ ys) (suc i) (suc j) x apart = get-set-there ys i j x (λ e. apart (ap suc e))

nat-apart : (a b : ℕ) → nat_eq a b ≡ false → a ≡ b → ⊥
nat-apart a b test same = grind (arith, nat_tests)

pub nat-is : (a b : ℕ) → nat_eq a b ≡ true → a ≡ b
nat-is a b test = grind (arith, nat_tests)

pub worker-known : (v n : ℕ) → v < n → nat_lt v n ≡ true
worker-known v n less = grind (arith, nat_tests)

-- the lists where a worker is replaced
pub replaced : (parts : Parts) (v : ℕ) (k : Worker) → v < length parts.workers → (key : Key)
    → with_queue (Hand v) k.hand (with_queue (Row v) k.list (queue parts)) key ≡ queue (with_worker parts v k) key
replaced parts v k near (Hand u) =
    elim (each_way (nat_eq v u)) [
      | inl same ↦ (let e : v ≡ u = nat-is v u same in
          ap (λ t. if t then k.hand else queue parts (Hand u)) same ∙ sym (ap (λ o. hand_of o) (sym (ap (slice_get (set parts.workers v k)) e) ∙ get-set-here parts.workers v k near)))
      | inr apart ↦ ap (λ t. if t then k.hand else queue parts (Hand u)) apart ∙ sym (ap (λ o. hand_of o) (get-set-there parts.workers v u k (nat-apart v u apart)))
    ]
replaced parts v k near (Row u) =
    elim (each_way (nat_eq v u)) [
      | inl same ↦ (let e : v ≡ u = nat-is v u same in
          ap (λ t. if t then k.list else queue parts (Row u)) same ∙ sym (ap (λ o. row_of o) (sym (ap (slice_get (set parts.workers v k)) e) ∙ get-set-here parts.workers v k near)))
      | inr apart ↦ ap (λ t. if t then k.list else queue parts (Row u)) apart ∙ sym (ap (λ o. row_of o) (get-set-there parts.workers v u k (nat-apart v u apart)))
    ]
replaced parts v k near (Waiting c) = refl
replaced parts v k near (Parent j) = refl

pub held-there : (parts : Parts) (v u : ℕ) (k : Worker) → nat_eq v u ≡ false → held parts u ≡ held (with_worker parts v k) u
held-there parts v u k apart = sym (ap (λ o. held_of o) (get-set-there parts.workers v u k (nat-apart v u apart)))

pub held-here : (parts : Parts) (v : ℕ) (k : Worker) → v < length parts.workers → held (with_worker parts v k) v ≡ k.held
held-here parts v k near = ap (λ o. held_of o) (get-set-here parts.workers v k near)

-- the room is the same where a worker is replaced
pub room-worker : (parts : Parts) (v : ℕ) (k : Worker) (pool : List Spot) (joins : ℕ) → HasRoom parts pool joins → HasRoom (with_worker parts v k) pool joins
room-worker parts v k pool joins room =
    record { branches = room.branches; outcomes = room.outcomes; rights = room.rights; joins = room.joins; crowd = room.crowd; many = room.many }

-- what holds of each in a list holds of one that is taken out of it
pub filter-one : (Fact : Spot → Type 0) (test : Spot → Bool) {pool : List Spot} {x : Spot} {others : List Spot} → Takes pool x others → test x ≡ true → AllByRecursion Fact (filter test pool) → Fact x
filter-one Fact test (here x xs) is all = (let both : AllByRecursion Fact (x ∷ filter test xs) = subst (AllByRecursion Fact) (filter-yes test x xs is) all in both.0)
filter-one Fact test (there x y xs ys takes) is all = elim (each_way (test x)) [
  | inl p ↦ (let both : AllByRecursion Fact (x ∷ filter test xs) = subst (AllByRecursion Fact) (filter-yes test x xs p) all in filter-one Fact test takes is both.1)
  | inr f ↦ filter-one Fact test takes is (subst (AllByRecursion Fact) (filter-no test x xs f) all)
]

module _ (items : List Item) (parts : Parts) (w : World) (mirrors : Mirrors items parts w) (v : ℕ) (k : Worker) (stands : slice_get parts.workers v ≡ Some k) where
  pub worker-there : v < length parts.workers
  worker-there = slice_get_within parts.workers v k stands

  pub knows : nat_lt v w.workers ≡ true
  knows = worker-known v w.workers (subst (λ n. v < n) mirrors.workers worker-there)

  hand-is : queue parts (Hand v) ≡ k.hand
  hand-is = ap (λ o. hand_of o) stands

  held-is : held parts v ≡ k.held
  held-is = ap (λ o. held_of o) stands

  -- a worker with a branch in its hand
  pub record Acting (o : Option ℕ) (c : CoreBranch) : Type 0 where
    pub only : k.hand ≡ c ∷ []
    pub gone : Gone items (queue parts) (held parts) w.pool (in_hand v w.pool) (Hand v) c []
    pub location : gone.x.location ≡ in_hand_at v o
    pub fit : IsFitAt gone.x.location gone.x.branch.steps gone.x.branch.rest

  pub acting : (o : Option ℕ) (c : CoreBranch) (more : List CoreBranch) → k.held ≡ o → k.hand ≡ c ∷ more → AreFit items w → Acting o c
  acting o c more held is fit =
      let few : length (queue parts (Hand v)) ≤ 1 = mirrors.pool.single (Hand v) tt in
      let none : more ≡ [] = nothing more (let e = ap length (hand-is ∙ is) in omega (arith, e, few)) in
      let only : k.hand ≡ c ∷ [] = is ∙ ap (λ l. c ∷ l) none in
      let g : Gone items (queue parts) (λ u. held_of (slice_get parts.workers u)) w.pool (in_hand v w.pool) (Hand v) c [] =
      gone-first items (queue parts) (λ u. held_of (slice_get parts.workers u)) w.pool mirrors.pool (Hand v) c [] (hand-is ∙ only) in
      record {
        only = only;
        gone = g;
        location = filter-one (λ one. one.location ≡ in_hand_at v (held_of (slice_get parts.workers v))) (stands_in (Hand v)) g.takes g.stands (mirrors.pool.hands v)
            ∙ ap (in_hand_at v) (held-is ∙ held);
        fit = takes-one (λ one. IsFitAt one.location one.branch.steps one.branch.rest) g.takes fit.each;
      }
    where
      nothing : (l : List CoreBranch) → length l ≤ 0 → l ≡ []
      nothing [] few' = refl
      nothing (x ∷ xs) few' = absurd (omega arith)

  -- what an event of a worker that runs a branch comes to
  pub runs-on : (c : CoreBranch) (a : Acting None c) (go : Branch → List Spot → Answer) → running w v go ≡ go a.gone.x.branch a.gone.others
  runs-on c a go =
      ap (λ t. if t then if_found (in_hand v w.pool) go else Err NoWorker) knows
      ∙ ap (λ f. if_found f go) a.gone.is
      ∙ ap (λ l. if_runs l a.gone.x.branch a.gone.others go) a.location

  -- .. and of one that runs none
  pub runs-none : AreFit items w → IsIdle k → (go : Branch → List Spot → Answer) → running w v go ≡ Err Idle
  runs-none fit (empty none) go =
      ap (λ t. if t then if_found (in_hand v w.pool) go else Err NoWorker) knows
      ∙ ap (λ f. if_found f go) (gone-none items (queue parts) (λ u. held_of (slice_get parts.workers u)) w.pool mirrors.pool (Hand v) (hand-is ∙ none))
  runs-none fit (holding join is) go = ap (λ t. if t then if_found (in_hand v w.pool) go else Err NoWorker) knows ∙ held-one k.hand refl
    where
      held-one : (l : List CoreBranch) → k.hand ≡ l → if_found (in_hand v w.pool) go ≡ Err Idle
      held-one [] e = ap (λ f. if_found f go) (gone-none items (queue parts) (λ u. held_of (slice_get parts.workers u)) w.pool mirrors.pool (Hand v) (hand-is ∙ e))
      held-one (c ∷ more) e =
          let a : Acting (Some join) c = acting (Some join) c more is e fit in
          ap (λ f. if_found f go) a.gone.is ∙ ap (λ l. if_runs l a.gone.x.branch a.gone.others go) a.location

  -- the list of the worker stays
  row-same : (list : List CoreBranch) → list ≡ k.list → (key : Key) → with_queue (Row v) list (queue parts) key ≡ queue parts key
  row-same list is key =
      elim (each_way (same_key (Row v) key)) [
        | inl same ↦ (let e : Row v ≡ key = same-key-is (Row v) key same in
            ap (λ t. if t then list else queue parts key) same ∙ is ∙ sym (ap (λ o. row_of o) stands) ∙ ap (queue parts) e)
        | inr apart ↦ ap (λ t. if t then list else queue parts key) apart
      ]

  -- the hand alone is replaced
  pub hand-set : (k' : Worker) → k'.list ≡ k.list → (key : Key) → with_queue (Hand v) k'.hand (queue parts) key ≡ queue (with_worker parts v k') key
  hand-set k' list key = ap (λ l. if same_key (Hand v) key then k'.hand else l) (sym (row-same k'.list list key)) ∙ replaced parts v k' worker-there key

  hand-put : (c' : CoreBranch) (k' : Worker) → k'.hand ≡ c' ∷ [] → k'.list ≡ k.list → (key : Key)
      → with_queue (Hand v) (with_queue (Hand v) [] (queue parts) (Hand v) ++ (c' ∷ [])) (with_queue (Hand v) [] (queue parts)) key ≡ queue (with_worker parts v k') key
  hand-put c' k' hand list key =
      elim (each_way (same_key (Hand v) key)) [
        | inl same ↦
            ap (λ t. if t then with_queue (Hand v) [] (queue parts) (Hand v) ++ (c' ∷ []) else with_queue (Hand v) [] (queue parts) key) same
            ∙ ap (λ l. l ++ (c' ∷ [])) (queue-same (Hand v) [] (queue parts)) ∙ sym hand
            ∙ sym (ap (λ t. if t then k'.hand else queue parts key) same) ∙ hand-set k' list key
        | inr apart ↦
            ap (λ t. if t then with_queue (Hand v) [] (queue parts) (Hand v) ++ (c' ∷ []) else with_queue (Hand v) [] (queue parts) key) apart
            ∙ ap (λ t. if t then [] else queue parts key) apart
            ∙ sym (ap (λ t. if t then k'.hand else queue parts key) apart) ∙ hand-set k' list key
      ]

  runs-here : (k' : Worker) → k'.held ≡ None → (u : ℕ) → v ≡ u → Runs v ≡ in_hand_at u (held (with_worker parts v k') u)
  runs-here k' free u same = subst (λ (n : ℕ). Runs v ≡ in_hand_at n (held (with_worker parts v k') n)) same (sym (ap (in_hand_at v) (held-here parts v k' worker-there ∙ free)))

  -- the branch is put back into the hand, as it goes on
  pub back-in-hand : (o o' : Option ℕ) (c c' : CoreBranch) (a : Acting o c) (k' : Worker) (b' : Branch) → k'.hand ≡ c' ∷ [] → k'.list ≡ k.list → k'.held ≡ None → Shows items c' b'
      → ((each : ℕ → List ScriptCell → List Move → ℕ) → made each b'.rest ≤ made each a.gone.x.branch.rest)
      → Mirrors items (with_worker parts v k') (put_back w (Runs v) b' a.gone.others)
  back-in-hand o o' c c' a k' b' hand list free one less =
      let holds = λ (u : ℕ). held (with_worker parts v k') u in
      let empty-handed : ShowsPool items (with_queue (Hand v) [] (queue parts)) holds a.gone.others =
      held-changed items (with_queue (Hand v) [] (queue parts)) (λ u. held_of (slice_get parts.workers u)) a.gone.others a.gone.rest v holds
      (queue-same (Hand v) [] (queue parts)) (λ u apart. held-there parts v u k' apart) in
      let pool : ShowsPool items (with_queue (Hand v) (with_queue (Hand v) [] (queue parts) (Hand v) ++ (c' ∷ [])) (with_queue (Hand v) [] (queue parts))) holds (a.gone.others ++ (spot (Runs v) b' ∷ [])) =
      put items (with_queue (Hand v) [] (queue parts)) holds a.gone.others empty-handed (Hand v) (Runs v) c' b' (key-runs v) one tt
      (λ _. queue-same (Hand v) [] (queue parts)) (λ u e. runs-here k' free u (cc)) in
      record {
        workers = length-set parts.workers v k' ∙ mirrors.workers;
        pool = same-queues items _ _ _ _ _ (hand-put c' k' hand list) (λ u. refl) pool;
        cells = mirrors.cells;
        waits = mirrors.waits;
        joins = mirrors.joins;
        count = mirrors.count;
        has_room = room-worker parts v k' (a.gone.others ++ (spot (Runs v) b' ∷ [])) (length w.joins) (room-back parts (length w.joins) a.gone.takes (spot (Runs v) b') less mirrors.has_room);
      }

-- the worker that is read is the one that is written
pub same-worker : {A : Type 0} (workers : List A) (v : ℕ) (one other : A) → slice_get workers v ≡ Some one → slice_get workers v ≡ Some other → one ≡ other
same-worker workers v one other is is' = cc
