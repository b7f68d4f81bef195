-- A branch ends.
use Rattle.std.proofs.Common.{◌≡◌, ℕ, zero, suc, ◌≤◌, ◌<◌, inl, inr, true, false, List, [], ◌∷◌, ◌++◌, Some, None, refl, ap, sym, ◌∙◌, subst, arith, length, length-set}
use Rattle.std.proofs.Math.ListN.{set}
use Rattle.std.proofs.lemmas.Bool.Decides.{nat_tests}
use Rattle.std.specs.List.{AllByRecursion}
use Rattle.merc_core.specs.Roomy.{IsRoomy}
use Rattle.std.proofs.lemmas.Option.{slice_get_past, slice_get_within}
use Rattle.std.specs.Prelude.{Option, slice_get, if◌then◌else◌, nat_eq, IsSome}
use Rattle.merc_script.specs.declared.outcome.Outcome.{Outcome}
use Rattle.merc_script.specs.declared.items.Item.{Item}
use Rattle.merc_script.specs.Script.{Children, NoChild, Child, Cell as ScriptCell, Move}
use Rattle.merc_script.specs.Joining.{HasFewSteps}
use Rattle.merc_core.specs.declared.branch.Branch.{Branch as CoreBranch}
use Rattle.merc_core.specs.declared.cell.Cell.{Cell as CoreCell}
use Rattle.merc_core.specs.declared.join.Join.{Join as CoreJoin}
use Rattle.merc_core.specs.declared.worker.Worker.{Worker}
use Rattle.merc_core.specs.World.{Spot, Join, Stored, World, stored_at, gathered, outcomes_of}
use Rattle.merc_core.specs.Events.{in_hand, finished, stored_with, poison, hold_if, hold}
use Rattle.merc_script.specs.Items.{script_of}
use Rattle.merc_core.specs.Given.{IsSettled, IsGone, AreLeft, HasLeft, IsOpenAt}
use Rattle.merc_core.specs.Outcomes.{with_first, all_stored, joined_if, joined_at}
use Rattle.merc_core.specs.Queues.{waiting_of, cells_after, list_after, stored_from}
use Rattle.merc_core.specs.Mirror.{Key, Hand, Row, Waiting, Parent, queue, held, held_of, hand_of, row_of, parents_of, stored_for, FewIf, IsJoin, ShowsJoin, Parts, ShowsPool, ShowsCell, Mirrors, AreFit, still_made, HasRoom, branches_made, rights_made, joins_made}
use Rattle.merc_core.proofs.Pool.{each_way, takes-one, takes-others}
use Rattle.merc_core.proofs.Givings.{left-weaker, acting-settled, poison-left}
use Rattle.merc_core.proofs.Acting.{with_worker, held-there, held-here, nat-is, replaced}
use Rattle.merc_core.proofs.PoolShows.{nat-self, with_queue, queue-same, same-queues, Gone, gone-first, held-changed}
use Rattle.merc_core.proofs.PoolMoves.{held_queues, hold-shows}
use Rattle.merc_core.proofs.Rooms.{still-takes, takes-length}
use Rattle.merc_core.proofs.Poisoning.{after_queues, poison-shows, after-hand, after-parent, after-other, after-row, after-cell, poisoned-shows, some-after, still-poison, length-poison, still-hold, length-hold, stored-apart, stored-here, few-stored}

module _ (items : List Item) (parts : Parts) (w : World) (mirrors : Mirrors items parts w) (fit : AreFit items w) (v : ℕ) (k : Worker) (stands : slice_get parts.workers v ≡ Some k) (c : CoreBranch) (only : k.hand ≡ c ∷ []) where
  pub taken-out : Gone items (queue parts) (λ u. held_of (slice_get parts.workers u)) w.pool (in_hand v w.pool) (Hand v) c []
  taken-out = gone-first items (queue parts) (λ u. held_of (slice_get parts.workers u)) w.pool mirrors.pool (Hand v) c [] (ap (λ o. hand_of o) stands ∙ only)

  -- of the rights that it was given it has some left, and the cells of the others are settled
  rights-left : AreLeft (IsSettled w.full w.poisoned) c.signals taken-out.x.branch.signals
  rights-left = subst (λ (had : List ℕ). AreLeft (IsSettled w.full w.poisoned) had taken-out.x.branch.signals) (sym taken-out.one.signals)
      (left-weaker (IsGone (script_of items) w.full w.poisoned w.joins taken-out.x.location) (IsSettled w.full w.poisoned)
      (λ cell gone. acting-settled (script_of items) w.full w.poisoned w.joins v taken-out.x.location taken-out.stands cell gone)
      (takes-one (HasLeft (script_of items) w.full w.poisoned w.joins) taken-out.takes fit.rights))

  pub poison-same : poison taken-out.x.branch.signals v taken-out.others ≡ poison c.signals v taken-out.others
  poison-same = sym (poison-left w.full w.poisoned rights-left v taken-out.others (takes-others (λ one. IsOpenAt w.full w.poisoned one.location) taken-out.takes fit.opened))

  near-v : v < length parts.workers
  near-v = slice_get_within parts.workers v k stands

  -- the lists behind the poisoning
  abbrev behind_queues : Key → List CoreBranch
  behind_queues = after_queues c.signals v (with_queue (Hand v) [] (queue parts))

  module _ (k' : Worker) (list : k'.list ≡ list_after c.signals parts.cells k.list) (cells' : ℕ → Option CoreCell) (cells-are : (other : ℕ) → cells' other ≡ cells_after c.signals parts.cells other) (joins' : List CoreJoin) where
    row-is : (u : ℕ) → behind_queues (Row u) ≡ queue (with_worker parts v k') (Row u)
    row-is u = elim (each_way (nat_eq v u)) [
      | inl same ↦ (let e : v ≡ u = nat-is v u same in
          subst (λ (n : ℕ). behind_queues (Row n) ≡ queue (with_worker parts v k') (Row n)) e
          (after-row c.signals v (with_queue (Hand v) [] (queue parts)) parts.cells (λ x. refl) k.list (ap (λ o. row_of o) stands) ∙ sym list
          ∙ sym (ap (λ t. if t then k'.list else queue parts (Row v)) (nat-self v)) ∙ replaced parts v k' near-v (Row v)))
      | inr apart ↦
          after-other c.signals v u (with_queue (Hand v) [] (queue parts)) apart
          ∙ sym (ap (λ t. if t then k'.list else queue parts (Row u)) apart) ∙ replaced parts v k' near-v (Row u)
    ]

    cell-is : (other : ℕ) → behind_queues (Waiting other) ≡ waiting_of (cells' other)
    cell-is other = after-cell c.signals v (with_queue (Hand v) [] (queue parts)) parts.cells (λ x. refl) other ∙ ap waiting_of (sym (cells-are other))

    hand-is' : (list' : List CoreBranch) → k'.hand ≡ list' → (u : ℕ) → (if nat_eq v u then list' else queue parts (Hand u)) ≡ queue (with_worker parts v k') (Hand u)
    hand-is' list' is u = ap (λ (l : List CoreBranch). if nat_eq v u then l else queue parts (Hand u)) (sym is) ∙ replaced parts v k' near-v (Hand u)

    poisoned-pool : ShowsPool items behind_queues (λ u. held_of (slice_get parts.workers u)) (poison c.signals v taken-out.others)
    poisoned-pool = poison-shows items c.signals v (with_queue (Hand v) [] (queue parts)) (λ u. held_of (slice_get parts.workers u)) taken-out.others taken-out.rest

    same-held : k'.held ≡ k.held → (u : ℕ) → held parts u ≡ held (with_worker parts v k') u
    same-held is u = elim (each_way (nat_eq v u)) [
      | inl same ↦ (let e : v ≡ u = nat-is v u same in
          subst (λ (n : ℕ). held parts n ≡ held (with_worker parts v k') n) e (ap (λ o. held_of o) stands ∙ sym (held-here parts v k' near-v ∙ is)))
      | inr apart ↦ held-there parts v u k' apart
    ]

    quiet-queues : k'.hand ≡ [] → ((j : ℕ) → parents_of (slice_get parts.joins j) ≡ parents_of (slice_get joins' j)) → (key : Key)
        → behind_queues key ≡ queue (record (with_worker parts v k') { cells = cells'; joins = joins' }) key
    quiet-queues hand parents (Hand u) = after-hand c.signals v u (with_queue (Hand v) [] (queue parts)) ∙ hand-is' [] hand u
    quiet-queues hand parents (Row u) = row-is u
    quiet-queues hand parents (Waiting other) = cell-is other
    quiet-queues hand parents (Parent j) = after-parent c.signals v j (with_queue (Hand v) [] (queue parts)) ∙ parents j

    -- no parent is held
    quiet-pool : k'.hand ≡ [] → k'.held ≡ k.held → ((j : ℕ) → parents_of (slice_get parts.joins j) ≡ parents_of (slice_get joins' j))
        → ShowsPool items (queue (record (with_worker parts v k') { cells = cells'; joins = joins' })) (held (record (with_worker parts v k') { cells = cells'; joins = joins' })) (poison c.signals v taken-out.others)
    quiet-pool hand free parents = same-queues items _ _ _ _ _ (quiet-queues hand parents) (same-held free) poisoned-pool

    held-queues : (join : ℕ) → k'.hand ≡ parents_of (slice_get parts.joins join) → ((j : ℕ) → (if nat_eq join j then [] else parents_of (slice_get parts.joins j)) ≡ parents_of (slice_get joins' j)) → (key : Key)
        → held_queues v join behind_queues key ≡ queue (record (with_worker parts v k') { cells = cells'; joins = joins' }) key
    held-queues join hand parents (Hand u) = elim (each_way (nat_eq v u)) [
      | inl same ↦
          ap (λ t. if t then behind_queues (Parent join) else behind_queues (Hand u)) same ∙ after-parent c.signals v join (with_queue (Hand v) [] (queue parts)) ∙ sym hand
          ∙ sym (ap (λ t. if t then k'.hand else queue parts (Hand u)) same) ∙ hand-is' k'.hand refl u
      | inr apart ↦
          ap (λ t. if t then behind_queues (Parent join) else behind_queues (Hand u)) apart ∙ after-hand c.signals v u (with_queue (Hand v) [] (queue parts))
          ∙ ap (λ t. if t then [] else queue parts (Hand u)) apart
          ∙ sym (ap (λ t. if t then k'.hand else queue parts (Hand u)) apart) ∙ hand-is' k'.hand refl u
    ]
    held-queues join hand parents (Row u) = row-is u
    held-queues join hand parents (Waiting other) = cell-is other
    held-queues join hand parents (Parent j) = ap (λ (l : List CoreBranch). if nat_eq join j then [] else l) (after-parent c.signals v j (with_queue (Hand v) [] (queue parts))) ∙ parents j

    -- the parent is held
    held-pool : (join : ℕ) → k'.hand ≡ parents_of (slice_get parts.joins join) → k'.held ≡ Some join
        → ((j : ℕ) → (if nat_eq join j then [] else parents_of (slice_get parts.joins j)) ≡ parents_of (slice_get joins' j))
        → ShowsPool items (queue (record (with_worker parts v k') { cells = cells'; joins = joins' })) (held (record (with_worker parts v k') { cells = cells'; joins = joins' })) (hold v join (poison c.signals v taken-out.others))
    held-pool join hand holds parents =
        let empty : behind_queues (Hand v) ≡ [] = after-hand c.signals v v (with_queue (Hand v) [] (queue parts)) ∙ queue-same (Hand v) [] (queue parts) in
        let ready : ShowsPool items behind_queues (λ u. held (with_worker parts v k') u) (poison c.signals v taken-out.others) =
        held-changed items behind_queues (λ u. held_of (slice_get parts.workers u)) (poison c.signals v taken-out.others) poisoned-pool v (λ u. held (with_worker parts v k') u) empty (λ u apart. held-there parts v u k' apart) in
        same-queues items _ _ _ _ _ (held-queues join hand parents) (λ u. refl)
        (hold-shows items behind_queues (λ u. held (with_worker parts v k') u) (poison c.signals v taken-out.others) ready v join empty (held-here parts v k' near-v ∙ holds))

    -- what else the world shows
    cells-show : (other : ℕ) → ShowsCell other w.full (w.poisoned ++ (taken-out.x.branch.signals ∷ [])) (cells' other)
    cells-show other =
        subst (ShowsCell other w.full (w.poisoned ++ (taken-out.x.branch.signals ∷ []))) (sym (cells-are other)) (poisoned-shows w.full w.poisoned rights-left parts.cells other (mirrors.cells other))

    cells-there : (other : ℕ) → IsSome (parts.cells other) → IsSome (cells' other)
    cells-there other some = subst IsSome (sym (cells-are other)) (some-after c.signals parts.cells other some)

    room-poisoned : (pool : List Spot) → ((each : ℕ → List ScriptCell → List Move → ℕ) → still_made each pool ≡ still_made each (poison c.signals v taken-out.others)) → length pool ≡ length (poison c.signals v taken-out.others)
        → HasRoom (record (with_worker parts v k') { cells = cells'; joins = joins' }) pool (length w.joins)
    room-poisoned pool makes long =
        let r = mirrors.has_room in
        let less = λ (each : ℕ → List ScriptCell → List Move → ℕ). still-poison each c.signals v taken-out.others in
        record {
          branches = let a = less branches_made in let b = still-takes branches_made taken-out.takes in let e = makes branches_made in let m = r.branches in omega arith;
          outcomes = let a = less branches_made in let b = still-takes branches_made taken-out.takes in let e = makes branches_made in let m = r.outcomes in omega arith;
          rights = let a = less rights_made in let b = still-takes rights_made taken-out.takes in let e = makes rights_made in let m = r.rights in omega arith;
          joins = let a = less joins_made in let b = still-takes joins_made taken-out.takes in let e = makes joins_made in let m = r.joins in omega arith;
          crowd = let a = length-poison c.signals v taken-out.others in let b = takes-length taken-out.takes in let m = r.crowd in omega (arith, long);
          many = r.many;
        }

    -- the finished world, where this is its pool
    module _ (o : Outcome) (pool : List Spot) (is-pool : hold_if v taken-out.x.branch.join (poison taken-out.x.branch.signals v taken-out.others)
        (outcomes_of (stored_with w taken-out.x.branch o) taken-out.x.branch.join (slice_get w.joins taken-out.x.branch.join)) ≡ pool) where
      finished-by : ShowsPool items (queue (record (with_worker parts v k') { cells = cells'; joins = joins' })) (held (record (with_worker parts v k') { cells = cells'; joins = joins' })) pool
          → HasRoom (record (with_worker parts v k') { cells = cells'; joins = joins' }) pool (length w.joins)
          → ((number : ℕ) → ShowsJoin (stored_with w taken-out.x.branch o) number (slice_get joins' number) (slice_get w.joins number)) → length joins' ≡ length parts.joins
          → Mirrors items (record (with_worker parts v k') { cells = cells'; joins = joins' }) (finished w v taken-out.x.branch taken-out.others o)
      finished-by shows room joins many =
          let parts' : Parts = record (with_worker parts v k') { cells = cells'; joins = joins' } in
          record {
            workers = length-set parts.workers v k' ∙ mirrors.workers;
            pool = subst (ShowsPool items (queue parts') (held parts')) (sym is-pool) shows;
            cells = cells-show;
            waits = λ place other item. cells-there other (mirrors.waits place other item);
            joins = joins;
            count = many ∙ mirrors.count;
            has_room = subst (λ (p : List Spot). HasRoom parts' p (length w.joins)) (sym is-pool) room;
          }

-- The three ways in which a branch ends: its join is none of the core's, or waits for other children, or is done.

get-set-here' : {A : Type 0} (xs : List A) (i : ℕ) (x : A) → i < length xs → slice_get (set xs i x) i ≡ Some x
get-set-here' [] i x in_range = absurd (omega arith)
get-set-here' (y ∷ ys) zero x in_range = refl
get-set-here' (y ∷ ys) (suc i) x in_range = get-set-here' ys i x (omega arith)

get-set-there' : {A : Type 0} (xs : List A) (i j : ℕ) (x : A) → (i ≡ j → ⊥) → slice_get (set xs i x) j ≡ slice_get xs j
get-set-there' [] i j x apart = refl
get-set-there' (y ∷ ys) zero zero x apart = absurd (apart refl)
get-set-there' (y ∷ ys) zero (suc j) x apart = refl
get-set-there' (y ∷ ys) (suc i) zero x apart = refl
get-set-there' (y ∷ ys) (suc i) (suc j) x apart = get-set-there' ys i j x (λ e. apart (ap suc e))

apart-nat : (a b : ℕ) → nat_eq a b ≡ false → a ≡ b → ⊥
apart-nat a b test same = grind (arith, nat_tests)

gathered-all : (stored : List Stored) (number child : ℕ) (all : Children) → gathered stored number child all ≡ all_stored (stored_for stored number child all)
gathered-all stored number child NoChild = refl
gathered-all stored number child (Child first more) = ap (with_first (stored_at number child stored)) (gathered-all stored number (suc child) more)

none-joined : (limit : ℕ) (all : Option (List Outcome)) → None ≡ joined_if limit all → all ≡ None
none-joined limit None is = refl
none-joined limit (Some os) is = absurd (cc)

some-joined : (limit : ℕ) (all : Option (List Outcome)) (o : Outcome) → Some o ≡ joined_if limit all → (os : List Outcome) × (all ≡ Some os)
some-joined limit None o is = absurd (cc)
some-joined limit (Some os) o is = (os, refl)

-- a join that gets nothing new shows still
shows-kept : (stored : List Stored) (new : Stored) (number : ℕ) (one : Option CoreJoin) (join : Option Join) → nat_eq new.join number ≡ false → ShowsJoin stored number one join → ShowsJoin (stored ++ (new ∷ [])) number one join
shows-kept stored new number None None apart shows = tt
shows-kept stored new number None (Some join) apart shows = absurd shows
shows-kept stored new number (Some one) None apart shows = absurd shows
shows-kept stored new number (Some one) (Some join) apart shows = record {
  limit = shows.limit;
  small = shows.small;
  outcomes = shows.outcomes ∙ sym (stored-apart stored new number 1 join.children apart);
  few = shows.few;
  children = shows.children;
}

shows-new : (stored : List Stored) (new : Stored) (number : ℕ) (j j' : CoreJoin) (join : Join) → nat_eq new.join number ≡ true → HasFewSteps new.outcome → j'.outcomes ≡ stored_from 1 new.child new.outcome j.outcomes → j'.limit ≡ j.limit
    → IsJoin stored number j join → IsJoin (stored ++ (new ∷ [])) number j' join
shows-new stored new number j j' join same few outcomes limit shows = record {
  limit = limit ∙ shows.limit;
  small = shows.small;
  outcomes = outcomes ∙ ap (stored_from 1 new.child new.outcome) shows.outcomes ∙ sym (stored-here stored new number 1 join.children same);
  few = subst (AllByRecursion FewIf) (sym outcomes) (few-stored 1 new.child new.outcome j.outcomes shows.few few);
  children = shows.children;
}

join-there : (stored : List Stored) (number : ℕ) (one : Option CoreJoin) (join : Option Join) (j : CoreJoin) → ShowsJoin stored number one join → one ≡ Some j → (spec : Join) × (join ≡ Some spec) × IsJoin stored number j spec
join-there stored number None join j shows is = absurd (cc)
join-there stored number (Some one) None j shows is = absurd shows
join-there stored number (Some one) (Some join) j shows is = (join, refl, (let same : one ≡ j = cc in subst (λ (x : CoreJoin). IsJoin stored number x join) same shows))

join-none : (stored : List Stored) (number : ℕ) (one : Option CoreJoin) (join : Option Join) → ShowsJoin stored number one join → one ≡ None → join ≡ None
join-none stored number None None shows is = refl
join-none stored number None (Some join) shows is = absurd shows
join-none stored number (Some one) join shows is = absurd (cc)

both-none : (stored stored' : List Stored) (number : ℕ) (one : Option CoreJoin) (join : Option Join) → one ≡ None → join ≡ None → ShowsJoin stored' number one join
both-none stored stored' number None None is is' = tt
both-none stored stored' number None (Some join) is is' = absurd (cc)
both-none stored stored' number (Some one) join is is' = absurd (cc)

module _ (items : List Item) (parts : Parts) (w : World) (mirrors : Mirrors items parts w) (fit : AreFit items w) (v : ℕ) (k : Worker) (stands : slice_get parts.workers v ≡ Some k) (c : CoreBranch) (only : k.hand ≡ c ∷ []) (o : Outcome) (few : HasFewSteps o)
    (k' : Worker) (list : k'.list ≡ list_after c.signals parts.cells k.list) (cells' : ℕ → Option CoreCell) (cells-are : (other : ℕ) → cells' other ≡ cells_after c.signals parts.cells other) where
  abbrev T : Gone items (queue parts) (λ u. held_of (slice_get parts.workers u)) w.pool (in_hand v w.pool) (Hand v) c []
  T = taken-out items parts w mirrors fit v k stands c only

  abbrev new_stored : Stored
  new_stored = record { join = T.x.branch.join; child = T.x.branch.child; outcome = o }

  pub done-past : length parts.joins ≤ c.join → k'.hand ≡ [] → k'.held ≡ k.held → Mirrors items (record (with_worker parts v k') { cells = cells'; joins = parts.joins }) (finished w v T.x.branch T.others o)
  done-past beyond hand free =
      let none : slice_get parts.joins c.join ≡ None = slice_get_past parts.joins c.join beyond in
      let spec-none : slice_get w.joins T.x.branch.join ≡ None = ap (slice_get w.joins) (sym T.one.join) ∙ join-none w.stored c.join _ _ (mirrors.joins c.join) none in
      finished-by items parts w mirrors fit v k stands c only k' list cells' cells-are parts.joins o (poison c.signals v T.others)
      (ap (λ j. hold_if v T.x.branch.join (poison T.x.branch.signals v T.others) (outcomes_of (stored_with w T.x.branch o) T.x.branch.join j)) spec-none ∙ poison-same items parts w mirrors fit v k stands c only)
      (quiet-pool items parts w mirrors fit v k stands c only k' list cells' cells-are parts.joins hand free (λ j. refl))
      (room-poisoned items parts w mirrors fit v k stands c only k' list cells' cells-are parts.joins (poison c.signals v T.others) (λ each. refl) refl)
      (λ number. elim (each_way (nat_eq T.x.branch.join number)) [
        | inl same ↦ (let e : T.x.branch.join ≡ number = nat-is T.x.branch.join number same in let f : c.join ≡ number = T.one.join ∙ e in
            both-none w.stored (stored_with w T.x.branch o) number _ _ (ap (slice_get parts.joins) (sym f) ∙ none) (ap (slice_get w.joins) (sym e) ∙ spec-none))
        | inr apart ↦ shows-kept w.stored new_stored number _ _ apart (mirrors.joins number)
      ]) refl

  module _ (j j' : CoreJoin) (at : slice_get parts.joins c.join ≡ Some j) (outcomes : j'.outcomes ≡ stored_from 1 c.child o j.outcomes) (limit : j'.limit ≡ j.limit) where
    near-join : c.join < length parts.joins
    near-join = slice_get_within parts.joins c.join j at

    spec-join : (spec : Join) × (slice_get w.joins c.join ≡ Some spec) × IsJoin w.stored c.join j spec
    spec-join = join-there w.stored c.join _ _ j (mirrors.joins c.join) at

    outcomes' : j'.outcomes ≡ stored_from 1 new_stored.child o j.outcomes
    outcomes' = outcomes ∙ ap (λ n. stored_from 1 n o j.outcomes) T.one.child

    same-join : nat_eq new_stored.join c.join ≡ true
    same-join = ap (λ n. nat_eq n c.join) (sym T.one.join) ∙ nat-self c.join

    joins-show : (number : ℕ) → ShowsJoin (stored_with w T.x.branch o) number (slice_get (set parts.joins c.join j') number) (slice_get w.joins number)
    joins-show number = elim (each_way (nat_eq T.x.branch.join number)) [
      | inl same ↦ (let f : c.join ≡ number = T.one.join ∙ nat-is T.x.branch.join number same in
          subst (λ (n : ℕ). ShowsJoin (stored_with w T.x.branch o) n (slice_get (set parts.joins c.join j') n) (slice_get w.joins n)) f
          (subst (λ (s : Option CoreJoin). ShowsJoin (stored_with w T.x.branch o) c.join s (slice_get w.joins c.join)) (sym (get-set-here' parts.joins c.join j' near-join))
          (subst (λ (s : Option Join). ShowsJoin (stored_with w T.x.branch o) c.join (Some j') s) (sym spec-join.1)
          (shows-new w.stored new_stored c.join j j' spec-join.0 same-join few outcomes' limit spec-join.2))))
      | inr apart ↦
          subst (λ (s : Option CoreJoin). ShowsJoin (stored_with w T.x.branch o) number s (slice_get w.joins number))
          (sym (get-set-there' parts.joins c.join number j' (λ e. apart-nat T.x.branch.join number apart (sym T.one.join ∙ e)))) (shows-kept w.stored new_stored number _ _ apart (mirrors.joins number))
    ]

    gathers : outcomes_of (stored_with w T.x.branch o) T.x.branch.join (slice_get w.joins T.x.branch.join) ≡ all_stored j'.outcomes
    gathers =
        ap (λ n. outcomes_of (stored_with w T.x.branch o) n (slice_get w.joins n)) (sym T.one.join) ∙ ap (outcomes_of (stored_with w T.x.branch o) c.join) spec-join.1
        ∙ gathered-all (stored_with w T.x.branch o) c.join 1 spec-join.0.children
        ∙ ap all_stored (stored-here w.stored new_stored c.join 1 spec-join.0.children same-join ∙ ap (stored_from 1 new_stored.child o) (sym spec-join.2.outcomes) ∙ sym outcomes')

    pub done-waits : j'.parent ≡ j.parent → None ≡ joined_at j' → k'.hand ≡ [] → k'.held ≡ k.held
        → Mirrors items (record (with_worker parts v k') { cells = cells'; joins = set parts.joins c.join j' }) (finished w v T.x.branch T.others o)
    done-waits parent waits hand free =
        finished-by items parts w mirrors fit v k stands c only k' list cells' cells-are (set parts.joins c.join j') o (poison c.signals v T.others)
        (ap (hold_if v T.x.branch.join (poison T.x.branch.signals v T.others)) (gathers ∙ none-joined j'.limit (all_stored j'.outcomes) waits) ∙ poison-same items parts w mirrors fit v k stands c only)
        (quiet-pool items parts w mirrors fit v k stands c only k' list cells' cells-are (set parts.joins c.join j') hand free
        (λ i. elim (each_way (nat_eq c.join i)) [
          | inl same ↦ (let e : c.join ≡ i = nat-is c.join i same in
              subst (λ (n : ℕ). parents_of (slice_get parts.joins n) ≡ parents_of (slice_get (set parts.joins c.join j') n)) e
              (ap (λ s. parents_of s) at ∙ sym parent ∙ sym (ap (λ s. parents_of s) (get-set-here' parts.joins c.join j' near-join))))
          | inr apart ↦ sym (ap (λ s. parents_of s) (get-set-there' parts.joins c.join i j' (apart-nat c.join i apart)))
        ]))
        (room-poisoned items parts w mirrors fit v k stands c only k' list cells' cells-are (set parts.joins c.join j') (poison c.signals v T.others) (λ each. refl) refl)
        joins-show (length-set parts.joins c.join j')

    pub done-held : j'.parent ≡ [] → (given : Outcome) → Some given ≡ joined_if j'.limit (all_stored j'.outcomes) → k'.hand ≡ j.parent → k'.held ≡ Some c.join
        → Mirrors items (record (with_worker parts v k') { cells = cells'; joins = set parts.joins c.join j' }) (finished w v T.x.branch T.others o)
    done-held parent given is hand holds =
        let all = some-joined j'.limit (all_stored j'.outcomes) given is in
        finished-by items parts w mirrors fit v k stands c only k' list cells' cells-are (set parts.joins c.join j') o (hold v c.join (poison c.signals v T.others))
        (ap (hold_if v T.x.branch.join (poison T.x.branch.signals v T.others)) (gathers ∙ all.1) ∙ ap (hold v T.x.branch.join) (poison-same items parts w mirrors fit v k stands c only)
        ∙ ap (λ n. hold v n (poison c.signals v T.others)) (sym T.one.join))
        (held-pool items parts w mirrors fit v k stands c only k' list cells' cells-are (set parts.joins c.join j') c.join (hand ∙ sym (ap (λ s. parents_of s) at)) holds
        (λ i. elim (each_way (nat_eq c.join i)) [
          | inl same ↦ (let e : c.join ≡ i = nat-is c.join i same in
              ap (λ t. if t then [] else parents_of (slice_get parts.joins i)) same
              ∙ subst (λ (n : ℕ). [] ≡ parents_of (slice_get (set parts.joins c.join j') n)) e (sym parent ∙ sym (ap (λ s. parents_of s) (get-set-here' parts.joins c.join j' near-join))))
          | inr apart ↦ ap (λ t. if t then [] else parents_of (slice_get parts.joins i)) apart ∙ sym (ap (λ s. parents_of s) (get-set-there' parts.joins c.join i j' (apart-nat c.join i apart)))
        ]))
        (room-poisoned items parts w mirrors fit v k stands c only k' list cells' cells-are (set parts.joins c.join j') (hold v c.join (poison c.signals v T.others))
        (λ each. still-hold each v c.join (poison c.signals v T.others)) (length-hold v c.join (poison c.signals v T.others)))
        joins-show (length-set parts.joins c.join j')

-- what is said of the branch that is found holds of the one that is there
pub found-same : (items : List Item) (parts new : Parts) (w : World) (v : ℕ) (o : Outcome) (x y : Spot) (others rest : List Spot) → in_hand v w.pool ≡ Some (x, others) → in_hand v w.pool ≡ Some (y, rest)
    → Mirrors items new (finished w v x.branch others o) → Mirrors items new (finished w v y.branch rest o)
found-same items parts new w v o x y others rest is is' shows =
    let same : (x, others) ≡ (y, rest) = cc in subst (λ (p : Spot × List Spot). Mirrors items new (finished w v p.0.branch p.1 o)) same shows

-- a hand holds one branch
pub one-in-hand : (items : List Item) (parts : Parts) (w : World) → Mirrors items parts w → (v : ℕ) (k : Worker) → slice_get parts.workers v ≡ Some k → (c : CoreBranch) (more : List CoreBranch) → k.hand ≡ c ∷ more → more ≡ []
one-in-hand items parts w mirrors v k stands c more is =
    let few : length (queue parts (Hand v)) ≤ 1 = mirrors.pool.single (Hand v) tt in
    nothing more (let e = ap length (ap (λ o. hand_of o) stands ∙ is) in omega (arith, e, few))
  where
    nothing : (l : List CoreBranch) → length l ≤ 0 → l ≡ []
    nothing [] few' = refl
    nothing (x ∷ xs) few' = absurd (omega arith)

pub roomy-of : (items : List Item) (parts : Parts) (w : World) → Mirrors items parts w → (v : ℕ) (k : Worker) → slice_get parts.workers v ≡ Some k → IsRoomy parts.cells k.list
roomy-of items parts w mirrors v k stands = record {
  items = items;
  queues = queue parts;
  holds = held parts;
  pool = w.pool;
  worker = v;
  shows = mirrors.pool;
  waits = λ cell. refl;
  row = ap (λ o. row_of o) stands;
  few = let r = mirrors.has_room.crowd in omega arith;
}

pub few-parents : (items : List Item) (parts : Parts) (w : World) → Mirrors items parts w → (number : ℕ) (j : CoreJoin) → slice_get parts.joins number ≡ Some j → length j.parent ≤ 1
few-parents items parts w mirrors number j at = let few = mirrors.pool.single (Parent number) tt in let e = ap (λ o. length (parents_of o)) at in omega (arith, few, e)
