-- Each kind of step on a join whose children are still to come keeps its rule.
use Rattle.std.proofs.Common.{◌≡◌, ◌≢◌, ◌⊎◌, inl, inr, ⊎_elim, ℕ, ◌+◌, ◌<◌, ◌≤◌, List, [], ◌∷◌, ◌++◌, length, set, refl, sym, ap, ◌∙◌, subst, arith, slice_index, slice_set}
use Rattle.std.proofs.lemmas.List.{length-map, set-append_left, map-set}
use mathlib.Core.Option.{Option, some}
use lib.ListN.{get_elem?}
use Rattle.atomic_table.proofs.Lists.{at_set, at_map, at_longer, set_here, set_else}
use Rattle.atomic_table.specs.Table.{Me, Act, takes, Valid, homes_after, carried_after, rest, Allows}
use Rattle.merc_script.specs.declared.outcome.Outcome.{Outcome}
use Rattle.merc_join.specs.declared.stub.Slot.{Slot}
use Rattle.merc_join.specs.declared.stub.Slot.TheVariants.{Empty, Ended, Parent}
use Rattle.merc_join.specs.declared.stub.Stage.{Stage}
use Rattle.merc_join.specs.declared.stub.Stage.TheVariants.{Making, Bringing, Waiting, Holding, Stopped, Last, Over}
use Rattle.merc_join.specs.declared.stub.Stub.{Stub}
use Rattle.merc_join.specs.Join.{Progress, Missing, Carried, Here, Mark, mark, due, to_come, Agree, waiting, holding, stopped, stub, first_stub, begun, Covers, slot_at, slots_of, Fits, Stands, Running, Ending, Reached, making, bringing, running, ending, over, Kept, IsBegun, last, Grabbed}
use Rattle.merc_join.proofs.Lists.{below, same_at, only, sum_set}

abbrev pub rank : Stage → ℕ
rank Making = 0
rank Bringing = 1
rank Waiting = 2
rank Holding = 3
rank Stopped = 4
rank Last = 5
rank Over = 6

pub agree_rank : (s : Stage) (p : Progress) → Agree s p → (2 ≤ rank s) × (rank s ≤ 4)
agree_rank _ _ waiting = (omega arith, omega arith)
agree_rank _ _ holding = (omega arith, omega arith)
agree_rank _ _ (stopped o) = (omega arith, omega arith)

pub waits_missing : (s : Stage) (p : Progress) → Agree s p → s ≡ Waiting → p ≡ Missing
waits_missing _ _ waiting is = refl
waits_missing _ _ holding is = absurd (let r : 3 ≡ 2 = ap rank is in omega arith)
waits_missing _ _ (stopped o) is = absurd (let r : 4 ≡ 2 = ap rank is in omega arith)

pub holds_carried : (s : Stage) (p : Progress) → Agree s p → s ≡ Holding → p ≡ Carried
holds_carried _ _ waiting is = absurd (let r : 2 ≡ 3 = ap rank is in omega arith)
holds_carried _ _ holding is = refl
holds_carried _ _ (stopped o) is = absurd (let r : 4 ≡ 3 = ap rank is in omega arith)

module _ {P : Type 0} where
  -- the slots after a change of one child's
  pub slots_set : (marks : List Mark) (child : ℕ) (m : Mark) (x : Option (Slot P)) → child < length marks → set (slots_of marks ++ x ∷ []) child (slot_at m.progress) ≡ slots_of (set marks child m) ++ x ∷ []
  slots_set marks child m x near =
      let near' : child < length (slots_of {P = P} marks) = omega (arith, length-map marks (λ (n : Mark). slot_at {P = P} n.progress)) in
      set-append_left (slots_of marks) (x ∷ []) child (slot_at m.progress) near' ∙ ap (λ (l : List (Option (Slot P))). l ++ x ∷ []) (sym (map-set (λ (n : Mark). slot_at {P = P} n.progress) marks child m))

  -- the slot of a child
  slot_there : (marks : List Mark) (child : ℕ) (m : Mark) (x : Option (Slot P)) → get_elem? marks child ≡ some m → get_elem? (slots_of marks ++ x ∷ []) child ≡ some (slot_at m.progress)
  slot_there marks child m x at = at_longer (slots_of marks) (x ∷ []) child (slot_at m.progress) (at_map (λ (n : Mark). slot_at {P = P} n.progress) marks child m at)

  -- another child's mark is changed
  pub fits_still : (parent : P) (marks : List Mark) (child j : ℕ) (old new : Mark) (v : Stub P) → get_elem? marks child ≡ some old → j ≢ old.seat → Fits parent marks j v → Fits parent (set marks child new) j v
  fits_still parent marks child j old new v at other fits = record {
    parent = fits.parent;
    some_child = fits.some_child;
    alone = fits.alone;
    marked = λ i covers. let found = fits.marked i covers in (
      found.0,
      set_else marks child i new (λ (same : i ≡ child). other (sym found.2 ∙ ap (λ (m : Mark). m.seat) (same_at marks i found.0 old found.1 (ap (λ (k : ℕ). get_elem? marks k) same ∙ at)))) ∙ found.1,
      found.2,
      found.3,
    );
  }

  -- the seat that took its slot and put the outcome there
  pub held : (child : ℕ) (o : Outcome) (old n e : Me (Slot P) (Stub P)) → IsBegun child old → Grabbed old n → e ≡ (n.0, (child, Ended o) ∷ rest n.1) → e ≡ (stub old.0.parent child 1 Holding Empty 0, (child, Ended o) ∷ [])
  held child o old n e is tells changed =
      let first : old.0.child ≡ child = ap (λ (m : Me (Slot P) (Stub P)). m.0.child) is in
      let view : n.0 ≡ stub old.0.parent child 1 Holding Empty 0 = tells.0 ∙ ap (λ (k : ℕ). stub old.0.parent k 1 Holding Empty 0) first in
      let empty : rest n.1 ≡ [] = ap rest tells.1 ∙ ap (λ (m : Me (Slot P) (Stub P)). m.1) is in
      changed ∙ (λ k. (view k, (child, Ended o) ∷ empty k))

module _ {P : Type 0} (ends : P → ℕ → Outcome → Type 0) (parent : P) where
  -- the seat has a step that keeps the rule and tells this
  abbrev pub Owes : Me (Slot P) (Stub P) → (ℕ → ℕ) → (ℕ → Me (Slot P) (Stub P) → Type 0) → ℕ → List ℕ → List (Option (Slot P)) → List (Stub P) → Type 0
  Owes me f tells id words homes views = (w : Stub P) × (a : Act (Slot P)) × Valid homes me.1 a
      × Reached ends parent (slice_set words 0 (f (slice_index words 0))) (homes_after homes me.1 a) (slice_set views id w) × tells (slice_index words 0) (w, carried_after me.1 a)

  pub in_running : (marks : List Mark) (views : List (Stub P)) → Running ends parent marks views → (id : ℕ) (v : Stub P) → get_elem? views id ≡ some v → (2 ≤ rank v.stage) × (rank v.stage ≤ 4)
  in_running marks views run id v at = let fits = run.each id v at in let covers : Covers v v.child = (omega arith, omega (arith, fits.some_child)) in let found = fits.marked v.child covers in agree_rank v.stage found.0.progress found.3

  pub in_ending : (outcomes : List Outcome) (last taken : ℕ) (stage : Stage) (views : List (Stub P)) → Ending ends parent outcomes last stage taken views → (id : ℕ) (v : Stub P) → get_elem? views id ≡ some v
      → (rank v.stage ≡ rank stage) ⊎ (rank v.stage ≡ 4)
  in_ending outcomes last taken stage views end id v at = ⊎_elim (λ t. inl (ap rank t.1)) (λ t. inr (ap rank t.1)) (end.each id v at).1

  -- a seat that waits or holds its slot is one of a join whose children are still to come
  pub while_running : (G : List ℕ → List (Option (Slot P)) → List (Stub P) → Type 0) (id : ℕ) (v : Stub P) → 2 ≤ rank v.stage → rank v.stage ≤ 3
      → ((marks : List Mark) (views : List (Stub P)) → Running ends parent marks views → get_elem? views id ≡ some v → G (to_come marks ∷ []) (slots_of marks ++ some (Parent parent) ∷ []) views)
      → (words : List ℕ) (homes : List (Option (Slot P))) (views : List (Stub P)) → Reached ends parent words homes views → get_elem? views id ≡ some v → G words homes views
  while_running G id v low high f _ _ _ (making n some_child) at = absurd (let r = ap (λ (u : Stub P). rank u.stage) (only (first_stub parent n) v id at).1 in omega arith)
  while_running G id v low high f _ _ _ (bringing n some_child) at = absurd (let r = ap (λ (u : Stub P). rank u.stage) (only (stub parent 0 n Bringing Empty 0) v id at).1 in omega arith)
  while_running G id v low high f _ _ _ (running marks views run) at = f marks views run at
  while_running G id v low high f _ _ _ (ending outcomes last taken views end) at = absurd (⊎_elim (λ r. omega arith) (λ r. omega arith) (in_ending outcomes last taken Last views end id v at))
  while_running G id v low high f _ _ _ (over outcomes last taken views end) at = absurd (⊎_elim (λ r. omega arith) (λ r. omega arith) (in_ending outcomes last taken Over views end id v at))

  -- the mark of a seat's first child
  pub own_mark : (marks : List Mark) (views : List (Stub P)) → Running ends parent marks views → (id : ℕ) (v : Stub P) → get_elem? views id ≡ some v → (p : Progress) → ((q : Progress) → Agree v.stage q → q ≡ p)
      → get_elem? marks v.child ≡ some (mark id p)
  own_mark marks views run id v at p forced =
      let fits = run.each id v at in let covers : Covers v v.child = (omega arith, omega (arith, fits.some_child)) in let found = fits.marked v.child covers in
      let is : found.0 ≡ mark id p = (λ k. mark (found.2 k) (forced found.0.progress found.3 k)) in
      found.1 ∙ ap some is

  -- a seat of one child goes on
  pub changed : (marks : List Mark) (views : List (Stub P)) (id child : ℕ) (q : P) (s s' : Stage) (put put' : Slot P) (taken taken' : ℕ) (old p : Progress) → Running ends parent marks views
      → get_elem? views id ≡ some (stub q child 1 s put taken) → get_elem? marks child ≡ some (mark id old) → Agree s' p → ((o : Outcome) → p ≡ Here o → ends parent child o)
      → 0 < to_come (set marks child (mark id p)) → Running ends parent (set marks child (mark id p)) (set views id (stub q child 1 s' put' taken'))
  changed marks views id child q s s' put put' taken taken' old p run at at_mark agree end_is some_missing =
      let v : Stub P = stub q child 1 s put taken in
      let w : Stub P = stub q child 1 s' put' taken' in
      let marks' : List Mark = set marks child (mark id p) in
      let near : child < length marks = below marks child (mark id old) at_mark in
      let near' : id < length views = below views id v at in
      let here : Fits parent marks' id w = record {
        parent = (run.each id v at).parent;
        some_child = omega arith;
        alone = inr refl;
        marked = λ i covers. let same : i ≡ child = omega (arith, covers.0, covers.1) in (mark id p, ap (λ (k : ℕ). get_elem? marks' k) same ∙ set_here marks child (mark id p) near, refl, agree);
      } in record {
        some_missing = some_missing;
        each = λ j u e. ⊎_elim (λ (t : (j ≡ id) × (w ≡ u)). subst (λ (x : ℕ × Stub P). Fits parent marks' x.0 x.1) (λ k. (sym t.0 k, t.1 k)) here)
            (λ (t : (j ≢ id) × (get_elem? views j ≡ some u)). fits_still parent marks child j (mark id old) (mark id p) u at_mark t.0 (run.each j u t.1))
            (at_set views id j w u e);
        owned = λ i m e. ⊎_elim
            (λ (t : (i ≡ child) × (mark id p ≡ m)). subst (λ (x : ℕ × Mark). Stands ends parent (set views id w) x.0 x.1) (λ k. (sym t.0 k, t.1 k)) (record {
              seat = w;
              at = set_here views id w near';
              covers = (omega arith, omega arith);
              end = end_is;
            }))
            (λ (t : (i ≢ child) × (get_elem? marks i ≡ some m)). let was = run.owned i m t.1 in record {
              seat = was.seat;
              at = set_else views id m.seat w (λ (same : m.seat ≡ id). t.0 (
                  let is : was.seat ≡ v = same_at views m.seat was.seat v was.at (ap (λ (k : ℕ). get_elem? views k) same ∙ at) in
                  let covers : Covers v i = subst (λ (u : Stub P). Covers u i) is was.covers in
                  omega (arith, covers.0, covers.1))) ∙ was.at;
              covers = was.covers;
              end = was.end;
            })
            (at_set marks child i (mark id p) m e);
      }

  -- the word is as long, and counts what is due
  pub due_set : (marks : List Mark) (child id : ℕ) (old p : Progress) → get_elem? marks child ≡ some (mark id old) → to_come (set marks child (mark id p)) + due old ≡ to_come marks + due p
  due_set marks child id old p at = sum_set (λ (m : Mark). due m.progress) marks child (mark id old) (mark id p) at

  grabs_running : (id child : ℕ) (q : P) (marks : List Mark) (views : List (Stub P)) → Running ends parent marks views → get_elem? views id ≡ some (begun q child 1)
      → Owes (begun q child 1, []) (λ n. n) (λ _ m. Grabbed (begun q child 1, []) m) id (to_come marks ∷ []) (slots_of marks ++ some (Parent parent) ∷ []) views
  grabs_running id child q marks views run at =
      let w : Stub P = stub q child 1 Holding Empty 0 in
      let x : Option (Slot P) = some (Parent parent) in
      let at_mark : get_elem? marks child ≡ some (mark id Missing) = own_mark marks views run id (begun q child 1) at Missing (λ p agree. waits_missing Waiting p agree refl) in
      let marks' : List Mark = set marks child (mark id Carried) in
      let due : to_come marks' ≡ to_come marks = (let e = due_set marks child id Missing Carried at_mark in omega arith) in
      let run' : Running ends parent marks' (set views id w) = changed marks views id child q Waiting Holding Empty Empty 0 0 Missing Carried run at at_mark holding (λ o is. absurd (cc)) (omega (arith, run.some_missing)) in (
        w,
        takes child Empty,
        slot_there marks child (mark id Missing) x at_mark,
        subst (λ (y : ℕ × List (Option (Slot P))). Reached ends parent (y.0 ∷ []) y.1 (set views id w)) (λ k. (due k, sym (slots_set marks child (mark id Carried) x (below marks child (mark id Missing) at_mark)) k)) (running marks' (set views id w) run'),
        (refl, refl),
      )

  grabs_here : (slots id child : ℕ) (q : P) → Allows (Kept ends parent) slots id (begun q child 1, []) 0 (λ n. n) (λ _ m. Grabbed (begun q child 1, []) m)
  grabs_here slots id child q s kept _ at _ = while_running (Owes (begun q child 1, []) (λ n. n) (λ _ m. Grabbed (begun q child 1, []) m) id) id (begun q child 1) (omega arith) (omega arith)
      (grabs_running id child q) s.words s.homes s.views kept at

  pub grabs : (slots id child : ℕ) (me : Me (Slot P) (Stub P)) → IsBegun child me → Allows (Kept ends parent) slots id me 0 (λ n. n) (λ _ m. Grabbed me m)
  grabs slots id child me is = subst (λ (u : Me (Slot P) (Stub P)). Allows (Kept ends parent) slots id u 0 (λ n. n) (λ _ m. Grabbed u m)) (sym is) (grabs_here slots id child me.0.parent)
