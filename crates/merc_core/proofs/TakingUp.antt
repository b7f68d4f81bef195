-- A worker takes up a branch from a list.
use Rattle.std.proofs.Common.{◌≡◌, ℕ, zero, suc, ◌-◌, ◌<◌, ◌==◌, inl, inr, true, false, List, [], ◌∷◌, ◌++◌, Some, None, refl, ap, sym, ◌∙◌, subst, arith, length, length-set, take, drop}
use Rattle.std.proofs.Math.ListN.{set}
use Rattle.std.proofs.lemmas.Option.{slice_get_within}
use Rattle.std.proofs.lemmas.Bool.Decides.{nat_tests}
use Rattle.std.specs.Prelude.{Ok, Err, slice_get, if◌then◌else◌, nat_eq, nat_lt}
use Rattle.merc_script.specs.declared.items.Item.{Item}
use Rattle.merc_core.specs.declared.branch.Branch.{Branch as CoreBranch}
use Rattle.merc_core.specs.declared.worker.Worker.{Worker}
use Rattle.merc_core.specs.declared.event.Event.TheVariants.{Pop, Steal}
use Rattle.merc_core.specs.declared.event.NotNow.TheVariants.{NoWorker, Busy, ListEmpty, SameWorker}
use Rattle.merc_core.specs.World.{Branch, Runs, Spot, spot, World}
use Rattle.merc_core.specs.Events.{Answer, in_hand, back_of, front_of, if_worker, if_free, take_up, happens}
use Rattle.merc_core.specs.Mirror.{Key, Hand, Row, same_key, in_hand_at, queue, held, held_of, hand_of, row_of, Parts, Shows, ShowsPool, Mirrors}
use Rattle.merc_core.proofs.Pool.{each_way}
use Rattle.merc_core.proofs.Steps.{put_back}
use Rattle.merc_core.proofs.QueueLists.{Begins, begins}
use Rattle.merc_core.proofs.PoolShows.{key-runs, same-key-is, with_queue, same-queues, Gone, gone-first, gone-last, gone-none, gone-no-last, put, held-changed}
use Rattle.merc_core.proofs.Rooms.{room-back}
use Rattle.merc_core.proofs.Acting.{with_worker, replaced, held-there, held-here, worker-known, nat-is, room-worker}

pub not-empty-list : {A : Type 0} (xs : List A) → (length xs == 0) ≡ false → 0 < length xs
not-empty-list xs test = let n = length xs in positive n test
  where
    positive : (n : ℕ) → (n == 0) ≡ false → 0 < n
    positive n test' = grind (arith, nat_tests)

pub empty-list : {A : Type 0} (xs : List A) → (length xs == 0) ≡ true → xs ≡ []
empty-list [] test = refl
empty-list (x ∷ xs) test = absurd (none (length xs) test)
  where
    none : (n : ℕ) → (suc n == 0) ≡ true → ⊥
    none n test' = grind (arith, nat_tests)

-- the last of a list
pub ends : {A : Type 0} (n : ℕ) (xs : List A) → length xs ≡ suc n → (front : List A) × (last : A) × (xs ≡ front ++ (last ∷ [])) × (take n xs ≡ front) × (drop n xs ≡ last ∷ [])
ends n [] long = absurd (omega (arith, long))
ends zero (x ∷ []) long = ([], x, refl, refl, refl)
ends zero (x ∷ y ∷ ys) long = absurd (omega (arith, long))
ends (suc n) (x ∷ xs) long = let e = ends n xs (omega (arith, long)) in (x ∷ e.0, e.1, ap (λ l. x ∷ l) e.2, ap (λ l. x ∷ l) e.3, e.4)

module _ (parts : Parts) (v : ℕ) (k : Worker) (stands : slice_get parts.workers v ≡ Some k) where
  near : v < length parts.workers
  near = slice_get_within parts.workers v k stands

  pub hand-alone : (k' : Worker) → k'.list ≡ k.list → (key : Key) → with_queue (Hand v) k'.hand (queue parts) key ≡ queue (with_worker parts v k') key
  hand-alone k' list key = ap (λ l. if same_key (Hand v) key then k'.hand else l) (sym row) ∙ replaced parts v k' near key
    where
      row : with_queue (Row v) k'.list (queue parts) key ≡ queue parts key
      row = elim (each_way (same_key (Row v) key)) [
        | inl same ↦ (let e : Row v ≡ key = same-key-is (Row v) key same in
            ap (λ t. if t then k'.list else queue parts key) same ∙ list ∙ sym (ap (λ o. row_of o) stands) ∙ ap (queue parts) e)
        | inr apart ↦ ap (λ t. if t then k'.list else queue parts key) apart
      ]

  pub row-alone : (k' : Worker) → k'.hand ≡ k.hand → (key : Key) → with_queue (Row v) k'.list (queue parts) key ≡ queue (with_worker parts v k') key
  row-alone k' hand key = sym same-hand ∙ replaced parts v k' near key
    where
      same-hand : with_queue (Hand v) k'.hand (with_queue (Row v) k'.list (queue parts)) key ≡ with_queue (Row v) k'.list (queue parts) key
      same-hand = elim (each_way (same_key (Hand v) key)) [
        | inl same ↦ (let e : Hand v ≡ key = same-key-is (Hand v) key same in
            ap (λ t. if t then k'.hand else with_queue (Row v) k'.list (queue parts) key) same ∙ hand ∙ sym (ap (λ o. hand_of o) stands)
            ∙ ap (with_queue (Row v) k'.list (queue parts)) e)
        | inr apart ↦ ap (λ t. if t then k'.hand else with_queue (Row v) k'.list (queue parts) key) apart
      ]

-- a branch that was taken out runs on a worker whose hand is empty
taken-up : (items : List Item) (parts : Parts) (pool : List Spot) (v : ℕ) (k : Worker) (stands : slice_get parts.workers v ≡ Some k) → k.hand ≡ [] → ShowsPool items (queue parts) (held parts) pool
    → (c : CoreBranch) (b : Branch) → Shows items c b → (k' : Worker) → k'.hand ≡ c ∷ [] → k'.list ≡ k.list → k'.held ≡ None
    → ShowsPool items (queue (with_worker parts v k')) (held (with_worker parts v k')) (pool ++ (spot (Runs v) b ∷ []))
taken-up items parts pool v k stands none shows c b one k' hand list free =
    let near' : v < length parts.workers = slice_get_within parts.workers v k stands in
    let holds = λ (u : ℕ). held (with_worker parts v k') u in
    let empty : queue parts (Hand v) ≡ [] = ap (λ o. hand_of o) stands ∙ none in
    let ready : ShowsPool items (queue parts) holds pool = held-changed items (queue parts) (λ u. held_of (slice_get parts.workers u)) pool shows v holds empty (λ u apart. held-there parts v u k' apart) in
    let new : ShowsPool items (with_queue (Hand v) (queue parts (Hand v) ++ (c ∷ [])) (queue parts)) holds (pool ++ (spot (Runs v) b ∷ [])) =
    put items (queue parts) holds pool ready (Hand v) (Runs v) c b (key-runs v) one tt (λ _. empty)
    (λ u e. let same : v ≡ u = cc in subst (λ (n : ℕ). Runs v ≡ in_hand_at n (holds n)) same (sym (ap (in_hand_at v) (held-here parts v k' near' ∙ free)))) in
    same-queues items _ _ _ _ _
    (λ key. ap (λ (l : List CoreBranch). if same_key (Hand v) key then l else queue parts key) (ap (λ l. l ++ (c ∷ [])) empty ∙ sym hand) ∙ hand-alone parts v k stands k' list key)
    (λ u. refl) new

module _ (items : List Item) (parts : Parts) (w : World) (mirrors : Mirrors items parts w) (v : ℕ) (k : Worker) (stands : slice_get parts.workers v ≡ Some k) where
  knows' : nat_lt v w.workers ≡ true
  knows' = worker-known v w.workers (subst (λ n. v < n) mirrors.workers (slice_get_within parts.workers v k stands))

  pub free-hand : k.hand ≡ [] → in_hand v w.pool ≡ None
  free-hand none = gone-none items (queue parts) (λ u. held_of (slice_get parts.workers u)) w.pool mirrors.pool (Hand v) (ap (λ o. hand_of o) stands ∙ none)

  busy-hand : (l : List CoreBranch) → k.hand ≡ l → 0 < length l → (answer : Answer) → if_free (in_hand v w.pool) answer ≡ Err Busy
  busy-hand [] is some answer = absurd (omega arith)
  busy-hand (c ∷ more) is some answer =
      let g = gone-first items (queue parts) (λ u. held_of (slice_get parts.workers u)) w.pool mirrors.pool (Hand v) c more (ap (λ o. hand_of o) stands ∙ is) in
      ap (λ f. if_free f answer) g.is

  pub pop-busy : 0 < length k.hand → happens w (Pop v) ≡ Err Busy
  pop-busy some =
      ap (λ t. if t then if_free (in_hand v w.pool) (take_up w v (back_of v w.pool)) else Err NoWorker) knows' ∙ busy-hand k.hand refl some (take_up w v (back_of v w.pool))

  pub pop-empty : k.hand ≡ [] → k.list ≡ [] → happens w (Pop v) ≡ Err ListEmpty
  pop-empty none empty =
      ap (λ t. if t then if_free (in_hand v w.pool) (take_up w v (back_of v w.pool)) else Err NoWorker) knows'
      ∙ ap (λ f. if_free f (take_up w v (back_of v w.pool))) (free-hand none)
      ∙ ap (take_up w v) (gone-no-last items (queue parts) (λ u. held_of (slice_get parts.workers u)) w.pool mirrors.pool (Row v) (ap (λ o. row_of o) stands ∙ empty))

  pub pop-done : k.hand ≡ [] → 0 < length k.list → (k' : Worker) → k'.hand ≡ k.hand ++ drop (length k.list - 1) k.list → k'.list ≡ take (length k.list - 1) k.list → k'.held ≡ None
      → (after : World) × (happens w (Pop v) ≡ Ok after) × Mirrors items (with_worker parts v k') after
  pop-done none some k' hand list free =
      let long : length k.list ≡ suc (length k.list - 1) = omega (arith, some) in
      let e = ends (length k.list - 1) k.list long in
      let g : Gone items (queue parts) (λ u. held_of (slice_get parts.workers u)) w.pool (back_of v w.pool) (Row v) e.1 e.0 =
      gone-last items (queue parts) (λ u. held_of (slice_get parts.workers u)) w.pool mirrors.pool (Row v) e.0 e.1 (ap (λ o. row_of o) stands ∙ e.2) in
      let near' : v < length parts.workers = slice_get_within parts.workers v k stands in
      let holds = λ (u : ℕ). held (with_worker parts v k') u in
      let empty : with_queue (Row v) e.0 (queue parts) (Hand v) ≡ [] = ap (λ o. hand_of o) stands ∙ none in
      let ready : ShowsPool items (with_queue (Row v) e.0 (queue parts)) holds g.others =
      held-changed items (with_queue (Row v) e.0 (queue parts)) (λ u. held_of (slice_get parts.workers u)) g.others g.rest v holds empty (λ u apart. held-there parts v u k' apart) in
      let new : ShowsPool items (with_queue (Hand v) (with_queue (Row v) e.0 (queue parts) (Hand v) ++ (e.1 ∷ [])) (with_queue (Row v) e.0 (queue parts))) holds (g.others ++ (spot (Runs v) g.x.branch ∷ [])) =
      put items (with_queue (Row v) e.0 (queue parts)) holds g.others ready (Hand v) (Runs v) e.1 g.x.branch (key-runs v) g.one tt (λ _. empty)
      (λ u same'. let same : v ≡ u = cc in subst (λ (n : ℕ). Runs v ≡ in_hand_at n (holds n)) same (sym (ap (in_hand_at v) (held-here parts v k' near' ∙ free)))) in
      let is-hand : with_queue (Row v) e.0 (queue parts) (Hand v) ++ (e.1 ∷ []) ≡ k'.hand = ap (λ l. l ++ (e.1 ∷ [])) empty ∙ sym (hand ∙ ap (λ l. l ++ drop (length k.list - 1) k.list) none ∙ e.4) in (
        put_back w (Runs v) g.x.branch g.others,
        ap (λ t. if t then if_free (in_hand v w.pool) (take_up w v (back_of v w.pool)) else Err NoWorker) knows'
            ∙ ap (λ f. if_free f (take_up w v (back_of v w.pool))) (free-hand none) ∙ ap (take_up w v) g.is,
        record {
          workers = length-set parts.workers v k' ∙ mirrors.workers;
          pool = same-queues items _ _ _ _ _
              (λ key. ap (λ (l : List CoreBranch). if same_key (Hand v) key then l else with_queue (Row v) e.0 (queue parts) key) is-hand
              ∙ ap (λ (l : List CoreBranch). if same_key (Hand v) key then k'.hand else (if same_key (Row v) key then l else queue parts key)) (sym (list ∙ e.3))
              ∙ replaced parts v k' near' key) (λ u. refl) new;
          cells = mirrors.cells;
          waits = mirrors.waits;
          joins = mirrors.joins;
          count = mirrors.count;
          has_room = room-worker parts v k' (g.others ++ (spot (Runs v) g.x.branch ∷ [])) (length w.joins) (room-back parts (length w.joins) g.takes (spot (Runs v) g.x.branch) (λ each. omega arith) mirrors.has_room);
        },
      )

-- Stealing

nat-differs : (a b : ℕ) → (a ≡ b → ⊥) → nat_eq a b ≡ false
nat-differs a b apart = grind (arith, nat_tests)

nat-equals : (a b : ℕ) → a ≡ b → nat_eq a b ≡ true
nat-equals a b same = grind (arith, nat_tests)

get-other : {A : Type 0} (xs : List A) (i j : ℕ) (x : A) → (i ≡ j → ⊥) → slice_get (set xs i x) j ≡ slice_get xs j
get-other [] i j x apart = refl
get-other (y ∷ ys) zero zero x apart = absurd (apart refl)
get-other (y ∷ ys) zero (suc j) x apart = refl
get-other (y ∷ ys) (suc i) zero x apart = refl
get-other (y ∷ ys) (suc i) (suc j) x apart = get-other ys i j x (λ e. apart (ap suc e))

module _ (items : List Item) (parts : Parts) (w : World) (mirrors : Mirrors items parts w) (v u : ℕ) (k : Worker) (stands : slice_get parts.workers v ≡ Some k) (victim : Worker) (there' : slice_get parts.workers u ≡ Some victim) where
  steal-knows : happens w (Steal v u) ≡ if_free (in_hand v w.pool) (if nat_eq v u then Err SameWorker else take_up w v (front_of u w.pool))
  steal-knows =
      ap (λ t. if t then if_worker w u (if_free (in_hand v w.pool) (if nat_eq v u then Err SameWorker else take_up w v (front_of u w.pool))) else Err NoWorker) (knows' items parts w mirrors v k stands)
      ∙ ap (λ t. if t then if_free (in_hand v w.pool) (if nat_eq v u then Err SameWorker else take_up w v (front_of u w.pool)) else Err NoWorker) (knows' items parts w mirrors u victim there')

  pub steal-busy : 0 < length k.hand → happens w (Steal v u) ≡ Err Busy
  steal-busy some = steal-knows ∙ busy-hand items parts w mirrors v k stands k.hand refl some _

  pub steal-same : k.hand ≡ [] → v ≡ u → happens w (Steal v u) ≡ Err SameWorker
  steal-same none same =
      steal-knows ∙ ap (λ f. if_free f (if nat_eq v u then Err SameWorker else take_up w v (front_of u w.pool))) (free-hand items parts w mirrors v k stands none)
      ∙ ap (λ t. if t then Err SameWorker else take_up w v (front_of u w.pool)) (nat-equals v u same)

  steals : k.hand ≡ [] → (v ≡ u → ⊥) → happens w (Steal v u) ≡ take_up w v (front_of u w.pool)
  steals none apart =
      steal-knows ∙ ap (λ f. if_free f (if nat_eq v u then Err SameWorker else take_up w v (front_of u w.pool))) (free-hand items parts w mirrors v k stands none)
      ∙ ap (λ t. if t then Err SameWorker else take_up w v (front_of u w.pool)) (nat-differs v u apart)

  pub steal-empty : k.hand ≡ [] → (v ≡ u → ⊥) → victim.list ≡ [] → happens w (Steal v u) ≡ Err ListEmpty
  steal-empty none apart empty =
      steals none apart ∙ ap (take_up w v) (gone-none items (queue parts) (λ x. held_of (slice_get parts.workers x)) w.pool mirrors.pool (Row u) (ap (λ o. row_of o) there' ∙ empty))

  -- the victim gave one, and the worker has it
  pub steal-done : k.hand ≡ [] → (v ≡ u → ⊥) → 0 < length victim.list → (victim' : Worker) → victim'.hand ≡ victim.hand → victim'.held ≡ victim.held → victim'.list ≡ drop 1 victim.list
      → (k1 : Worker) → slice_get (set parts.workers u victim') v ≡ Some k1 → (k' : Worker) → k'.hand ≡ [] ++ take 1 victim.list → k'.list ≡ k1.list → k'.held ≡ None
      → (after : World) × (happens w (Steal v u) ≡ Ok after) × Mirrors items (with_worker (with_worker parts u victim') v k') after
  steal-done none apart some victim' hand-same held-same list-left k1 stands1 k' hand list free =
      let b : Begins victim.list = begins victim.list some in
      let g : Gone items (queue parts) (λ x. held_of (slice_get parts.workers x)) w.pool (front_of u w.pool) (Row u) b.first b.rest =
      gone-first items (queue parts) (λ x. held_of (slice_get parts.workers x)) w.pool mirrors.pool (Row u) b.first b.rest (ap (λ o. row_of o) there' ∙ b.is) in
      let near-u : u < length parts.workers = slice_get_within parts.workers u victim there' in
      let parts1 : Parts = with_worker parts u victim' in
      let same1 : k1 ≡ k = (let e = sym stands1 ∙ get-other parts.workers u v victim' (λ e. apart (sym e)) ∙ stands in cc) in
      let none1 : k1.hand ≡ [] = ap (λ (x : Worker). x.hand) same1 ∙ none in
      let left : victim'.list ≡ b.rest = list-left ∙ ap (drop 1) b.is in
      let shows1 : ShowsPool items (queue parts1) (held parts1) g.others =
      same-queues items _ _ _ _ _
      (λ key. ap (λ (l : List CoreBranch). if same_key (Row u) key then l else queue parts key) (sym left) ∙ row-alone parts u victim there' victim' hand-same key)
      (λ x. elim (each_way (nat_eq u x)) [
        | inl is ↦ (let e : u ≡ x = nat-is u x is in
            subst (λ (n : ℕ). held_of (slice_get parts.workers n) ≡ held parts1 n) e (ap (λ o. held_of o) there' ∙ sym (held-here parts u victim' near-u ∙ held-same)))
        | inr is ↦ held-there parts u x victim' is
      ]) g.rest in (
        put_back w (Runs v) g.x.branch g.others,
        steals none apart ∙ ap (take_up w v) g.is,
        record {
          workers = length-set parts1.workers v k' ∙ length-set parts.workers u victim' ∙ mirrors.workers;
          pool = taken-up items parts1 g.others v k1 stands1 none1 shows1 b.first g.x.branch g.one k' (hand ∙ ap (λ l. take 1 l) b.is) list free;
          cells = mirrors.cells;
          waits = mirrors.waits;
          joins = mirrors.joins;
          count = mirrors.count;
          has_room = room-worker parts1 v k' (g.others ++ (spot (Runs v) g.x.branch ∷ [])) (length w.joins)
              (room-worker parts u victim' (g.others ++ (spot (Runs v) g.x.branch ∷ [])) (length w.joins) (room-back parts (length w.joins) g.takes (spot (Runs v) g.x.branch) (λ each. omega arith) mirrors.has_room));
        },
      )

pub some-worker : {A : Type 0} (xs : List A) (i : ℕ) → i < length xs → (x : A) × (slice_get xs i ≡ Some x)
some-worker [] i in_range = absurd (omega arith)
some-worker (x ∷ xs) zero in_range = (x, refl)
some-worker (x ∷ xs) (suc i) in_range = some-worker xs i (omega arith)
