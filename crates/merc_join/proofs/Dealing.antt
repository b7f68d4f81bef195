-- The steps of the call that makes a join.
use Rattle.std.proofs.Common.{◌≡◌, ◌≢◌, inl, ⊎_elim, ℕ, ◌+◌, ◌-◌, ◌<◌, List, [], ◌∷◌, ◌++◌, length, set, replicate, refl, sym, ap, ◌∙◌, subst, arith}
use Rattle.std.proofs.lemmas.List.{length-set, length-replicate, map-set}
use Rattle.std.proofs.lemmas.List.Folds.{sum_by-replicate}
use mathlib.Core.Option.{Option, none, some}
use mathlib.Core.Logic.{dite}
use native.Mathlib.Decide.{ℕ_discrete}
use lib.ListN.{get_elem?}
use Rattle.atomic_table.proofs.Lists.{at_set, at_map, at_longer, at_last, set_here, set_else, set_again}
use Rattle.atomic_table.specs.Table.{Me, takes, gives, rest, opening, Allows, Splits}
use Rattle.merc_script.specs.declared.outcome.Outcome.{Outcome}
use Rattle.merc_join.specs.declared.stub.Slot.{Slot}
use Rattle.merc_join.specs.declared.stub.Slot.TheVariants.{Empty, Parent}
use Rattle.merc_join.specs.declared.stub.Stage.TheVariants.{Bringing, Waiting, Last, Over}
use Rattle.merc_join.specs.declared.stub.Stub.{Stub}
use Rattle.merc_join.specs.Join.{Missing, Mark, mark, due, to_come, waiting, stub, first_stub, begun, after_split, split_off, Covers, slot_at, slots_of, Fits, Stands, Running, Reached, making, bringing, running, ending, over, Kept, TookPlace, Brought}
use Rattle.atomic_table.specs.Seated.{TableId}
use Rattle.merc_join.specs.declared.ends.Ticket.{Ticket}
use Rattle.merc_join.specs.Tickets.{ticket_child, ticket_parent, ticket_children, AreDealt}
use Rattle.merc_join.proofs.Lists.{got_end, below, at_end, same_at, only, repeated, of_repeated, repeated_more, set_last, map_repeated, sum_set}
use Rattle.merc_join.proofs.Keeping.{rank, fits_still, Owes, in_running, in_ending, own_mark, while_running, waits_missing}

module _ {P : Type 0} where
  -- the first seat, with the parent in its hands
  abbrev pub bringer : P → ℕ → Me (Slot P) (Stub P)
  bringer q n = (stub q 0 n Bringing Empty 0, (n, Parent q) ∷ [])

  -- the first seat took the parent's place and put the parent there
  pub brought : (n : ℕ) (q : P) (old m e : Me (Slot P) (Stub P)) → old ≡ (first_stub q n, []) → TookPlace old m → e ≡ (m.0, (n, Parent q) ∷ rest m.1) → e ≡ bringer q n
  brought n q old m e is tells changed =
      let view : m.0 ≡ stub q 0 n Bringing Empty 0 = tells.0 ∙ ap (λ (u : Me (Slot P) (Stub P)). stub u.0.parent u.0.child u.0.many Bringing Empty 0) is in
      let empty : rest m.1 ≡ [] = ap rest tells.1 ∙ ap (λ (u : Me (Slot P) (Stub P)). u.1) is in
      changed ∙ (λ k. (view k, (n, Parent q) ∷ empty k))

module _ {P : Type 0} where
  -- what is left of the first seat
  pub next_view : (old new : Me (Slot P) (Stub P)) (q : P) (dealt dealt' left left' child : ℕ) → old ≡ (begun q dealt (left + 1), []) → new ≡ (begun old.0.parent (child + 1) (old.0.many - 1), [])
      → child ≡ dealt → dealt' ≡ dealt + 1 → left ≡ left' + 1 → new ≡ (begun q dealt' (left' + 1), [])
  next_view old new q dealt dealt' left left' child was is child_is dealt_is left_is =
      let of : old.0.parent ≡ q = ap (λ (m : Me (Slot P) (Stub P)). m.0.parent) was in
      let many : old.0.many ≡ left + 1 = ap (λ (m : Me (Slot P) (Stub P)). m.0.many) was in
      let next : child + 1 ≡ dealt' = omega arith in
      let rest_is : old.0.many - 1 ≡ left' + 1 = omega arith in
      is ∙ (λ k. (begun (of k) (next k) (rest_is k), []))

  -- one ticket more
  pub more_dealt : (children : ℕ) (parent : P) (join : TableId) (tickets : List (Ticket P)) (ticket : Ticket P) → AreDealt children parent join tickets → ticket_child ticket ≡ length tickets → ticket_parent ticket ≡ parent
      → ticket.seat.table_id ≡ join → join.slots ≡ children + 1 → AreDealt children parent join (tickets ++ ticket ∷ [])
  more_dealt children parent join tickets ticket dealt child of join_is slots i t got = ⊎_elim (dealt i t)
      (λ (here : (i ≡ length tickets) × (ticket ≡ t)). subst (λ (x : ℕ × Ticket P). (ticket_child x.1 ≡ x.0) × (ticket_parent x.1 ≡ parent) × (ticket_children x.1 ≡ children) × (x.1.seat.table_id ≡ join)) (λ k. (sym here.0 k, here.1 k))
      (child, of, (let s : ticket.seat.table_id.slots ≡ join.slots = ap (λ (j : TableId). j.slots) join_is in omega arith), join_is))
      (got_end tickets ticket t i got)

module _ {P : Type 0} (ends : P → ℕ → Outcome → Type 0) (parent : P) where
  -- the table at the start
  opens : (n : ℕ) → 0 < n → Kept ends parent (opening (n ∷ []) (replicate (n + 1) Empty) (first_stub parent n))
  opens n some_child = subst (λ (h : List (Option (Slot P))). Reached ends parent (n ∷ []) h (first_stub parent n ∷ []))
      (sym (map_repeated some (n + 1) Empty ∙ repeated_more n (some Empty))) (making n some_child)

  pub opens_with : (n m : ℕ) (slots : List (Slot P)) → 0 < n → m ≡ n → slots ≡ replicate (n + 1) Empty → Kept ends parent (opening (n ∷ []) slots (first_stub parent m))
  opens_with n m slots some_child same are = subst (λ (x : ℕ × List (Slot P)). Kept ends parent (opening (n ∷ []) x.1 (first_stub parent x.0))) (λ k. (sym same k, sym are k)) (opens n some_child)

  first_only : (children n id : ℕ) (q : P) → get_elem? (first_stub parent children ∷ []) id ≡ some (first_stub q n) → (children ≡ n) × (parent ≡ q) × (id ≡ 0)
  first_only children n id q at = let only' = only (first_stub parent children) (first_stub q n) id at in (ap (λ (v : Stub P). v.many) only'.1, ap (λ (v : Stub P). v.parent) only'.1, only'.0)

  place_here : (n : ℕ) → 0 < n → Owes ends parent (first_stub parent n, []) (λ k. k) (λ _ m. TookPlace (first_stub parent n, []) m) 0 (n ∷ []) (replicate n (some Empty) ++ some Empty ∷ []) (first_stub parent n ∷ [])
  place_here n some_child = (
    stub parent 0 n Bringing Empty 0,
    takes n Empty,
    at_last (replicate n (some Empty)) (some Empty) n (length-replicate n (some Empty)),
    subst (λ (h : List (Option (Slot P))). Reached ends parent (n ∷ []) h (stub parent 0 n Bringing Empty 0 ∷ [])) (sym (set_last (replicate n (some Empty)) (some Empty) none n (length-replicate n (some Empty)))) (bringing n some_child),
    (refl, refl),
  )

  place_case : (id n : ℕ) (q : P) (words : List ℕ) (homes : List (Option (Slot P))) (views : List (Stub P)) → Reached ends parent words homes views → get_elem? views id ≡ some (first_stub q n)
      → Owes ends parent (first_stub q n, []) (λ k. k) (λ _ m. TookPlace (first_stub q n, []) m) id words homes views
  place_case id n q _ _ _ (making children some_child) at = let is = first_only children n id q at in
      subst (λ (x : (ℕ × P) × ℕ). Owes ends parent (first_stub x.0.1 x.0.0, []) (λ k. k) (λ _ m. TookPlace (first_stub x.0.1 x.0.0, []) m) x.1 (children ∷ []) (replicate children (some Empty) ++ some Empty ∷ []) (first_stub parent children ∷ []))
      (λ k. ((is.0 k, is.1 k), sym is.2 k)) (place_here children some_child)
  place_case id n q _ _ _ (bringing children some_child) at = absurd (let r = ap (λ (u : Stub P). rank u.stage) (only (stub parent 0 children Bringing Empty 0) (first_stub q n) id at).1 in omega arith)
  place_case id n q _ _ _ (running marks views run) at = absurd (let r = in_running ends parent marks views run id (first_stub q n) at in omega (arith, r.0))
  place_case id n q _ _ _ (ending outcomes last taken views end) at = absurd (⊎_elim (λ r. omega arith) (λ r. omega arith) (in_ending ends parent outcomes last taken Last views end id (first_stub q n) at))
  place_case id n q _ _ _ (over outcomes last taken views end) at = absurd (⊎_elim (λ r. omega arith) (λ r. omega arith) (in_ending ends parent outcomes last taken Over views end id (first_stub q n) at))

  pub takes_place : (slots id n : ℕ) (q : P) (me : Me (Slot P) (Stub P)) → me ≡ (first_stub q n, []) → Allows (Kept ends parent) slots id me 0 (λ k. k) (λ _ m. TookPlace me m)
  takes_place slots id n q me is = subst (λ (u : Me (Slot P) (Stub P)). Allows (Kept ends parent) slots id u 0 (λ k. k) (λ _ m. TookPlace u m)) (sym is)
      (λ s kept _ at _. place_case id n q s.words s.homes s.views kept at)

  first_runs : (n : ℕ) → 0 < n → Running ends parent (replicate n (mark 0 Missing)) (begun parent 0 n ∷ [])
  first_runs n some_child = record {
    some_missing = omega (arith, sum_by-replicate (λ (m : Mark). due m.progress) n (mark 0 Missing));
    each = λ j v at. let is = only (begun parent 0 n) v j at in subst (λ (x : ℕ × Stub P). Fits parent (replicate n (mark 0 Missing)) x.0 x.1) (λ k. (sym is.0 k, is.1 k)) (record {
      parent = refl;
      some_child = some_child;
      alone = inl refl;
      marked = λ i covers. let near : i < n = omega (arith, covers.1) in (mark 0 Missing, repeated n i (mark 0 Missing) near, refl, waiting);
    });
    owned = λ i m at. let is = of_repeated n i (mark 0 Missing) m at in subst (λ (x : Mark). Stands ends parent (begun parent 0 n ∷ []) i x) is.1 (record {
      seat = begun parent 0 n;
      at = refl;
      covers = (let near = is.0 in omega arith, let near = is.0 in omega arith);
      end = λ o done. absurd (cc);
    });
  }

  bring_here : (n : ℕ) → 0 < n → Owes ends parent (bringer parent n) (λ k. k) (λ _ m. Brought (bringer parent n) m) 0 (n ∷ []) (replicate n (some Empty) ++ none ∷ []) (stub parent 0 n Bringing Empty 0 ∷ [])
  bring_here n some_child =
      let marks : List Mark = replicate n (mark 0 Missing) in
      let homes : set (replicate n (some Empty) ++ none ∷ []) n (some (Parent parent)) ≡ slots_of marks ++ some (Parent parent) ∷ [] =
      set_last (replicate n (some Empty)) none (some (Parent parent)) n (length-replicate n (some Empty)) ∙ ap (λ (l : List (Option (Slot P))). l ++ some (Parent parent) ∷ []) (sym (map_repeated (λ (m : Mark). slot_at {P = P} m.progress) n (mark 0 Missing))) in
      let word : to_come marks ≡ n = omega (arith, sum_by-replicate (λ (m : Mark). due m.progress) n (mark 0 Missing)) in (
        begun parent 0 n,
        gives,
        tt,
        subst (λ (y : ℕ × List (Option (Slot P))). Reached ends parent (y.0 ∷ []) y.1 (begun parent 0 n ∷ [])) (λ k. (word k, sym homes k)) (running marks (begun parent 0 n ∷ []) (first_runs n some_child)),
        (refl, refl),
      )

  bring_case : (id n : ℕ) (q : P) (words : List ℕ) (homes : List (Option (Slot P))) (views : List (Stub P)) → Reached ends parent words homes views → get_elem? views id ≡ some (stub q 0 n Bringing Empty 0)
      → Owes ends parent (bringer q n) (λ k. k) (λ _ m. Brought (bringer q n) m) id words homes views
  bring_case id n q _ _ _ (making children some_child) at = absurd (let r = ap (λ (u : Stub P). rank u.stage) (only (first_stub parent children) (stub q 0 n Bringing Empty 0) id at).1 in omega arith)
  bring_case id n q _ _ _ (bringing children some_child) at =
      let is = only (stub parent 0 children Bringing Empty 0) (stub q 0 n Bringing Empty 0) id at in
      let many : children ≡ n = ap (λ (v : Stub P). v.many) is.1 in
      let same : parent ≡ q = ap (λ (v : Stub P). v.parent) is.1 in
      subst (λ (x : (ℕ × P) × ℕ). Owes ends parent (bringer x.0.1 x.0.0) (λ k. k) (λ _ m. Brought (bringer x.0.1 x.0.0) m) x.1 (children ∷ []) (replicate children (some Empty) ++ none ∷ []) (stub parent 0 children Bringing Empty 0 ∷ []))
      (λ k. ((many k, same k), sym is.0 k)) (bring_here children some_child)
  bring_case id n q _ _ _ (running marks views run) at = absurd (let r = in_running ends parent marks views run id (stub q 0 n Bringing Empty 0) at in omega (arith, r.0))
  bring_case id n q _ _ _ (ending outcomes last taken views end) at = absurd (⊎_elim (λ r. omega arith) (λ r. omega arith) (in_ending ends parent outcomes last taken Last views end id (stub q 0 n Bringing Empty 0) at))
  bring_case id n q _ _ _ (over outcomes last taken views end) at = absurd (⊎_elim (λ r. omega arith) (λ r. omega arith) (in_ending ends parent outcomes last taken Over views end id (stub q 0 n Bringing Empty 0) at))

  pub brings : (slots id n : ℕ) (q : P) (me : Me (Slot P) (Stub P)) → me ≡ bringer q n → Allows (Kept ends parent) slots id me 0 (λ k. k) (λ _ m. Brought me m)
  brings slots id n q me is = subst (λ (u : Me (Slot P) (Stub P)). Allows (Kept ends parent) slots id u 0 (λ k. k) (λ _ m. Brought u m)) (sym is)
      (λ s kept _ at _. bring_case id n q s.words s.homes s.views kept at)

  -- the first of a waiting seat's children gets a seat of its own
  splits_running : (id child many : ℕ) (q : P) (marks : List Mark) (views : List (Stub P)) → 1 < many → Running ends parent marks views → get_elem? views id ≡ some (begun q child many) → get_elem? marks child ≡ some (mark id Missing)
      → to_come (set marks child (mark (length views) Missing)) ≡ to_come marks
      → Running ends parent (set marks child (mark (length views) Missing)) (set views id (begun q (child + 1) (many - 1)) ++ begun q child 1 ∷ [])
  splits_running id child many q marks views more run at at_mark due =
      let v : Stub P = begun q child many in
      let l : Stub P = begun q (child + 1) (many - 1) in
      let r : Stub P = begun q child 1 in
      let new : ℕ = length views in
      let marks' : List Mark = set marks child (mark new Missing) in
      let near : child < length marks = below marks child (mark id Missing) at_mark in
      let near' : id < length views = below views id v at in
      let long : length (set views id l) ≡ new = length-set views id l in
      let fits = run.each id v at in
      let left : Fits parent marks' id l = record {
        parent = fits.parent;
        some_child = omega arith;
        alone = inl refl;
        marked = λ i covers. let was = fits.marked i (omega (arith, covers.0), omega (arith, covers.1)) in (
          was.0,
          set_else marks child i (mark new Missing) (λ (same : i ≡ child). omega (arith, covers.0)) ∙ was.1,
          was.2,
          was.3,
        );
      } in
      let right : Fits parent marks' new r = record {
        parent = fits.parent;
        some_child = omega arith;
        alone = inl refl;
        marked = λ i covers. let same : i ≡ child = omega (arith, covers.0, covers.1) in (mark new Missing, ap (λ (k : ℕ). get_elem? marks' k) same ∙ set_here marks child (mark new Missing) near, refl, waiting);
      } in record {
        some_missing = omega (arith, run.some_missing);
        each = λ j u e. ⊎_elim
            (λ (e' : get_elem? (set views id l) j ≡ some u). ⊎_elim (λ (t : (j ≡ id) × (l ≡ u)). subst (λ (x : ℕ × Stub P). Fits parent marks' x.0 x.1) (λ k. (sym t.0 k, t.1 k)) left)
            (λ (t : (j ≢ id) × (get_elem? views j ≡ some u)). fits_still parent marks child j (mark id Missing) (mark new Missing) u at_mark t.0 (run.each j u t.1))
            (at_set views id j l u e'))
            (λ (t : (j ≡ length (set views id l)) × (r ≡ u)). let there : j ≡ new = t.0 ∙ long in subst (λ (x : ℕ × Stub P). Fits parent marks' x.0 x.1) (λ k. (sym there k, t.1 k)) right)
            (at_end (set views id l) r u j e);
        owned = λ i m e. ⊎_elim
            (λ (t : (i ≡ child) × (mark new Missing ≡ m)). subst (λ (x : ℕ × Mark). Stands ends parent (set views id l ++ r ∷ []) x.0 x.1) (λ k. (sym t.0 k, t.1 k)) (record {
              seat = r;
              at = at_last (set views id l) r new long;
              covers = (omega arith, omega arith);
              end = λ o done. absurd (cc);
            }))
            (λ (t : (i ≢ child) × (get_elem? marks i ≡ some m)). let was = run.owned i m t.1 in dite (ℕ_discrete m.seat id)
            (λ (same : m.seat ≡ id).
            let is : was.seat ≡ v = same_at views m.seat was.seat v was.at (ap (λ (k : ℕ). get_elem? views k) same ∙ at) in
            let covers : Covers v i = subst (λ (u : Stub P). Covers u i) is was.covers in
            let other : i ≢ child = t.0 in
            record {
              seat = l;
              at = at_longer (set views id l) (r ∷ []) m.seat l (ap (λ (k : ℕ). get_elem? (set views id l) k) same ∙ set_here views id l near');
              covers = (omega (arith, covers.0), omega (arith, covers.1));
              end = was.end;
            })
            (λ (other : m.seat ≢ id). record {
              seat = was.seat;
              at = at_longer (set views id l) (r ∷ []) m.seat was.seat (set_else views id m.seat l other ∙ was.at);
              covers = was.covers;
              end = was.end;
            }))
            (at_set marks child i (mark new Missing) m e);
      }

  split_case : (id child many : ℕ) (q : P) → 1 < many → (marks : List Mark) (views : List (Stub P)) → Running ends parent marks views → get_elem? views id ≡ some (begun q child many)
      → Reached ends parent (to_come marks ∷ []) (slots_of marks ++ some (Parent parent) ∷ []) (set views id (begun q (child + 1) (many - 1)) ++ begun q child 1 ∷ [])
  split_case id child many q more marks views run at =
      let at_mark : get_elem? marks child ≡ some (mark id Missing) = own_mark ends parent marks views run id (begun q child many) at Missing (λ p agree. waits_missing Waiting p agree refl) in
      let new : Mark = mark (length views) Missing in
      let same : to_come (set marks child new) ≡ to_come marks = (let e = sum_set (λ (m : Mark). due m.progress) marks child (mark id Missing) new at_mark in omega arith) in
      let slots : slots_of {P = P} (set marks child new) ≡ slots_of marks = map-set (λ (m : Mark). slot_at {P = P} m.progress) marks child new
      ∙ set_again (slots_of marks) child (some Empty) (at_map (λ (m : Mark). slot_at {P = P} m.progress) marks child (mark id Missing) at_mark) in
      subst (λ (y : ℕ × List (Option (Slot P))). Reached ends parent (y.0 ∷ []) (y.1 ++ some (Parent parent) ∷ []) (set views id (begun q (child + 1) (many - 1)) ++ begun q child 1 ∷ []))
      (λ k. (same k, slots k)) (running (set marks child new) (set views id (begun q (child + 1) (many - 1)) ++ begun q child 1 ∷ []) (splits_running id child many q marks views more run at at_mark same))

  pub splits : (id child : ℕ) (v : Stub P) → v ≡ begun v.parent child v.many → 1 < v.many → Splits (Kept ends parent) id v (after_split v) (split_off v)
  splits id child v is more s kept at = let same : v ≡ begun v.parent v.child v.many = is ∙ ap (λ (k : ℕ). begun v.parent k v.many) (sym (ap (λ (u : Stub P). u.child) is)) in
      while_running ends parent (λ words homes views. Reached ends parent words homes (set views id (after_split v) ++ split_off v ∷ []))
      id (begun v.parent v.child v.many) (omega arith) (omega arith) (λ marks views run at'. split_case id v.child v.many v.parent more marks views run at') s.words s.homes s.views kept (at ∙ ap some same)
