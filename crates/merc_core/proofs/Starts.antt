-- The state at the start shows the world at the start.
use Rattle.std.proofs.Common.{◌≡◌, ℕ, zero, suc, ◌+◌, ◌-◌, ◌^◌, ◌≤◌, ◌<◌, false, List, [], ◌∷◌, ◌++◌, Some, None, refl, ap, sym, ◌∙◌, subst, arith, length, append-nil}
use Rattle.std.proofs.lemmas.List.{length-replicate, replicate-append-replicate}
use Rattle.std.proofs.lemmas.Bool.Decides.{nat_tests}
use Rattle.std.specs.Prelude.{Option, slice_get, replicate, if◌then◌else◌, nat_eq}
use Rattle.merc_script.specs.declared.items.Item.{Item}
use Rattle.merc_script.specs.Script.{Script}
use Rattle.merc_script.specs.Items.{items_of}
use Rattle.merc_core.specs.declared.branch.Branch.{Branch as CoreBranch}
use Rattle.merc_core.specs.declared.cell.Cell.{Cell as CoreCell}
use Rattle.merc_core.specs.declared.join.Join.{Join as CoreJoin}
use Rattle.merc_core.specs.declared.worker.Worker.{Worker}
use Rattle.merc_core.specs.World.{Runs, spot, first_branch, outermost, start}
use Rattle.merc_core.specs.Queues.{meeting_at, waiting_of}
use Rattle.merc_core.specs.Mirror.{Key, Hand, Row, Waiting, Parent, Parts, queue, held, hand_of, row_of, held_of, parents_of, in_hand_at, Shows, ShowsPool, ShowsCell, ShowsJoin, Mirrors, branches_made, rights_made, joins_made}
use Rattle.merc_core.specs.Starting.{made_among, IsOpen, AreOpen, root_branch, worker_with, first_workers, outermost_join}
use Rattle.merc_core.proofs.StandingLaws.{length-items_of, size-some}
use Rattle.merc_core.proofs.PoolShows.{key-runs, with_queue, queue-same, same-queues, put}
use Rattle.merc_core.proofs.StartRooms.{among-script, branches-few}

-- Workers that have nothing

no-hand : (n u : ℕ) → hand_of (slice_get (replicate n (worker_with [])) u) ≡ []
no-hand zero u = refl
no-hand (suc n) zero = refl
no-hand (suc n) (suc u) = no-hand n u

no-row : (n u : ℕ) → row_of (slice_get (replicate n (worker_with [])) u) ≡ []
no-row zero u = refl
no-row (suc n) zero = refl
no-row (suc n) (suc u) = no-row n u

zero-apart : (u : ℕ) → nat_eq 0 (suc u) ≡ false
zero-apart u = grind (arith, nat_tests)

none-waits : (cell : Option CoreCell) → IsOpen cell → waiting_of cell ≡ []
none-waits None opened = refl
none-waits (Some cell) opened = ap (λ (c : CoreCell). c.waiting) opened

shows-open : (cell : ℕ) (one : Option CoreCell) → IsOpen one → ShowsCell cell [] [] one
shows-open cell None opened = tt
shows-open cell (Some one) opened = ap (λ (c : CoreCell). meeting_at c.is_full c.is_poisoned) opened

shows-first : (root : Script) (number : ℕ) → ShowsJoin [] number (slice_get (outermost_join ∷ []) number) (slice_get (outermost root ∷ []) number)
shows-first root zero = record {
  limit = refl;
  small = omega arith;
  outcomes = refl;
  few = (tt, tt);
  children = omega arith;
}
shows-first root (suc number) = tt

module _ (root : Script) (items : List Item) (count : ℕ) (parts : Parts) (whole : items ≡ items_of root) (workers : parts.workers ≡ first_workers count) (cells : AreOpen items parts.cells)
    (joins : parts.joins ≡ outermost_join ∷ []) where
  shows-root : Shows items root_branch (first_branch root)
  shows-root = record {
    join = refl;
    child = refl;
    at = refl;
    steps = refl;
    signals = refl;
    left = ([], whole ∙ sym (append-nil (items_of root)));
    within = let a = ap length whole in let b = length-items_of root in let c = size-some root in omega (arith, a, b, c);
    few = omega arith;
  }

  abbrev nothing : Key → List CoreBranch
  nothing key = []

  first-queues : (key : Key) → with_queue (Hand 0) (root_branch ∷ []) nothing key ≡ queue parts key
  first-queues (Hand zero) = queue-same (Hand 0) (root_branch ∷ []) nothing ∙ sym (ap (λ (ws : List Worker). hand_of (slice_get ws 0)) workers)
  first-queues (Hand (suc u)) =
      ap (λ t. if t then root_branch ∷ [] else []) (zero-apart u) ∙ sym (ap (λ (ws : List Worker). hand_of (slice_get ws (suc u))) workers ∙ no-hand (count - 1) u)
  first-queues (Row zero) = sym (ap (λ (ws : List Worker). row_of (slice_get ws 0)) workers)
  first-queues (Row (suc u)) = sym (ap (λ (ws : List Worker). row_of (slice_get ws (suc u))) workers ∙ no-row (count - 1) u)
  first-queues (Waiting cell) = sym (none-waits (parts.cells cell) (cells.each cell))
  first-queues (Parent zero) = sym (ap (λ (js : List CoreJoin). parents_of (slice_get js 0)) joins)
  first-queues (Parent (suc j)) = sym (ap (λ (js : List CoreJoin). parents_of (slice_get js (suc j))) joins)

  first-held : held parts 0 ≡ None
  first-held = ap (λ (ws : List Worker). held_of (slice_get ws 0)) workers

  abbrev holds : ℕ → Option ℕ
  holds u = held parts u

  first-pool : ShowsPool items (queue parts) (held parts) (spot (Runs 0) (first_branch root) ∷ [])
  first-pool =
      same-queues items _ _ holds (held parts) _ first-queues (λ u. refl)
      (put items nothing holds [] (record { each = λ key. tt; hands = λ u. tt; single = λ key is. omega arith; early = tt })
      (Hand 0) (Runs 0) root_branch (first_branch root) (key-runs 0) shows-root tt (λ _. refl)
      (λ u e. subst (λ (i : ℕ). Runs 0 ≡ in_hand_at i (holds i)) (cc (e)) (sym (ap (in_hand_at 0) first-held))))

  pub first-shown : 1 ≤ count → length items < 2 ^ 63 → made_among joins_made items + 1 ≤ parts.room → length parts.branches ≡ made_among branches_made items
      → length parts.outcomes ≡ made_among branches_made items → length parts.rights ≡ made_among rights_made items → length parts.rights < 2 ^ 63 → Mirrors items parts (start root count)
  first-shown some small room branches outcomes rights few = record {
    workers = ap (λ (ws : List Worker). length ws) workers ∙ (let e = length-replicate (count - 1) (worker_with []) in omega (arith, e, some));
    pool = first-pool;
    cells = λ cell. shows-open cell (parts.cells cell) (cells.each cell);
    waits = cells.waits;
    joins = λ number. subst (λ (js : List CoreJoin). ShowsJoin [] number (slice_get js number) (slice_get (outermost root ∷ []) number)) (sym joins) (shows-first root number);
    count = ap (λ (js : List CoreJoin). length js) joins;
    has_room = (let b = ap (made_among branches_made) whole ∙ among-script branches_made root in let r = ap (made_among rights_made) whole ∙ among-script rights_made root in
        let j = ap (made_among joins_made) whole ∙ among-script joins_made root in record {
          branches = omega (arith, b, branches);
          outcomes = omega (arith, b, outcomes);
          rights = omega (arith, r, rights);
          joins = omega (arith, j, room);
          crowd = (let e = branches-few root in let l = ap length whole ∙ length-items_of root in omega (arith, b, branches, e, l, small));
          many = few;
        });
  }

-- the first worker, which runs the root's branch
pub workers-first : (none workers : List Worker) (hand : List CoreBranch) (one : Worker) → none ≡ [] → workers ≡ none ++ (one ∷ []) → one ≡ worker_with hand → hand ≡ root_branch ∷ [] → workers ≡ first_workers 1
workers-first none workers hand one nothing put runs is = put ∙ ap (λ (ws : List Worker). ws ++ (one ∷ [])) nothing ∙ ap (λ (w : Worker). w ∷ []) (runs ∙ ap worker_with is)

-- one worker more that has nothing
pub workers-more : (n : ℕ) (workers more : List Worker) (hand : List CoreBranch) (one : Worker) → 1 ≤ n → workers ≡ first_workers n → more ≡ workers ++ (one ∷ []) → one ≡ worker_with hand → hand ≡ []
    → more ≡ first_workers (n + 1)
workers-more n workers more hand one some is put idle nothing =
    put ∙ ap (λ (w : Worker). workers ++ (w ∷ [])) (idle ∙ ap worker_with nothing) ∙ ap (λ (ws : List Worker). ws ++ (worker_with [] ∷ [])) is
    ∙ ap (λ (ws : List Worker). worker_with (root_branch ∷ []) ∷ ws) (replicate-append-replicate (n - 1) 1 (worker_with []))
    ∙ (let e : n - 1 + 1 ≡ n + 1 - 1 = omega (arith, some) in ap (λ m. worker_with (root_branch ∷ []) ∷ replicate m (worker_with [])) e)
