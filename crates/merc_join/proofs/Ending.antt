-- The step that counts a child, and each kind of step of the last seat.
use Rattle.std.proofs.Common.{◌≡◌, ◌≢◌, ◌⊎◌, inl, inr, ⊎_elim, ℕ, zero, suc, ◌+◌, ◌-◌, ◌%◌, ◌<◌, Bool, if◌then◌else◌, List, [], ◌∷◌, ◌++◌, length, map, set, refl, sym, ap, ◌∙◌, subst, arith, slice_index, ne_eqb}
use Rattle.std.proofs.lemmas.List.{length-append}
use Rattle.std.proofs.lemmas.List.Sums.{sum_by-cons}
use mathlib.Core.Option.{Option, none, some, some-injective, some-ne-none}
use lib.ListN.{get_elem?}
use Rattle.atomic_table.proofs.Lists.{at_set, at_map, at_last, set_here, set_else}
use Rattle.atomic_table.specs.Table.{Me, takes, gives, Allows}
use Rattle.merc_script.specs.declared.outcome.Outcome.{Outcome}
use Rattle.merc_script.specs.declared.outcome.Outcome.TheVariants.{Starved}
use Rattle.merc_join.specs.declared.stub.Slot.{Slot}
use Rattle.merc_join.specs.declared.stub.Slot.TheVariants.{Empty, Ended, Parent}
use Rattle.merc_join.specs.declared.stub.Stage.{Stage}
use Rattle.merc_join.specs.declared.stub.Stage.TheVariants.{Bringing, Holding, Stopped, Last, Over}
use Rattle.merc_join.specs.declared.stub.Stub.{Stub}
use Rattle.merc_join.specs.Join.{Progress, Missing, Carried, Here, Mark, mark, due, to_come, Agree, waiting, holding, stopped, stub, first_stub, Covers, slot_at, slots_of, left_of, Running, Own, Ending, Reached, making, bringing, running, ending, over, Kept, last, Counted, GotOutcome, GotParent}
use Rattle.merc_join.proofs.Lists.{below, there, same_at, only, set_last, term_le, at_unmap}
use Rattle.merc_join.proofs.Keeping.{rank, holds_carried, slots_set, Owes, while_running, own_mark, changed, due_set, in_running, in_ending}

-- the outcome of a child that has ended
abbrev outcome_of : Progress → Outcome
outcome_of Missing = Starved
outcome_of Carried = Starved
outcome_of (Here o) = o

abbrev outcomes_of : List Mark → List Outcome
outcomes_of marks = map (λ m. outcome_of m.progress) marks

-- nothing is due of a child that has ended
ended : (p : Progress) → due p ≡ 0 → p ≡ Here (outcome_of p)
ended Missing e = absurd (omega arith)
ended Carried e = absurd (omega arith)
ended (Here o) e = refl

stops : (s : Stage) (p : Progress) → Agree s p → due p ≡ 0 → s ≡ Stopped
stops _ _ waiting e = absurd (omega arith)
stops _ _ holding e = absurd (omega arith)
stops _ _ (stopped o) e = refl

-- what is due of each, where nothing is due of all
none_due : (marks : List Mark) (i : ℕ) (m : Mark) → to_come marks ≡ 0 → get_elem? marks i ≡ some m → due m.progress ≡ 0
none_due marks i m e at = let h = term_le (λ (n : Mark). due n.progress) marks i m at in omega arith

length-left_of : (P : Type 0) (taken : ℕ) (outcomes : List Outcome) → length (left_of {P = P} taken outcomes) ≡ length outcomes
length-left_of P taken [] = refl
length-left_of P zero (o ∷ os) = ap suc (length-left_of P zero os)
length-left_of P (suc taken) (o ∷ os) = ap suc (length-left_of P taken os)

module _ {P : Type 0} where
  all_here : (marks : List Mark) → to_come marks ≡ 0 → slots_of {P = P} marks ≡ left_of 0 (outcomes_of marks)
  all_here [] e = refl
  all_here (m ∷ ms) e =
      let first : due m.progress ≡ 0 = omega (arith, sum_by-cons (λ (n : Mark). due n.progress) m ms) in
      let others : to_come ms ≡ 0 = omega (arith, sum_by-cons (λ (n : Mark). due n.progress) m ms) in
      λ k. slot_at {P = P} (ended m.progress first k) ∷ all_here ms others k

  next_there : (taken : ℕ) (outcomes : List Outcome) (o : Outcome) (x : Option (Slot P)) → get_elem? outcomes taken ≡ some o → get_elem? (left_of taken outcomes ++ x ∷ []) taken ≡ some (some (Ended o))
  next_there taken [] o x at = absurd (some-ne-none o (sym at))
  next_there zero (p ∷ ps) o x at = ap (λ (q : Outcome). some (some (Ended q))) (some-injective p o at)
  next_there (suc taken) (p ∷ ps) o x at = next_there taken ps o x at

  next_taken : (taken : ℕ) (outcomes : List Outcome) (o : Outcome) (x : Option (Slot P)) → get_elem? outcomes taken ≡ some o → set (left_of taken outcomes ++ x ∷ []) taken none ≡ left_of (suc taken) outcomes ++ x ∷ []
  next_taken taken [] o x at = absurd (some-ne-none o (sym at))
  next_taken zero (p ∷ ps) o x at = refl
  next_taken (suc taken) (p ∷ ps) o x at = ap (λ (l : List (Option (Slot P))). none ∷ l) (next_taken taken ps o x at)

minus_one : (n : ℕ) → 0 < n → n < 18446744073709551616 → (n + 18446744073709551615) % 18446744073709551616 ≡ n - 1
minus_one n some_left small = omega arith

module _ {P : Type 0} (ends : P → ℕ → Outcome → Type 0) (parent : P) where
  -- the seat counts the last child
  finishes : (marks : List Mark) (views : List (Stub P)) (id child : ℕ) (q : P) (o : Outcome) → Running ends parent marks views → get_elem? views id ≡ some (stub q child 1 Holding Empty 0)
      → get_elem? marks child ≡ some (mark id Carried) → ends parent child o → to_come (set marks child (mark id (Here o))) ≡ 0
      → Ending ends parent (outcomes_of (set marks child (mark id (Here o)))) id Last 0 (set views id (stub q child 1 Last (Ended o) 0))
  finishes marks views id child q o run at at_mark end_is none_left =
      let v : Stub P = stub q child 1 Holding Empty 0 in
      let w : Stub P = stub q child 1 Last (Ended o) 0 in
      let m' : Mark = mark id (Here o) in
      let marks' : List Mark = set marks child m' in
      let here : get_elem? marks' child ≡ some m' = set_here marks child m' (below marks child (mark id Carried) at_mark) in record {
        end = λ i p e. let found = at_unmap (λ (m : Mark). outcome_of m.progress) marks' i p e in
            let done : found.0.progress ≡ Here p = ended found.0.progress (none_due marks' i found.0 none_left found.1) ∙ ap Here found.2 in
            ⊎_elim (λ (t : (i ≡ child) × (m' ≡ found.0)). let same : Here o ≡ Here p = ap (λ (m : Mark). m.progress) t.1 ∙ done in let same' : o ≡ p = cc in subst (λ (x : ℕ × Outcome). ends parent x.0 x.1) (λ k. (sym t.0 k, same' k)) end_is)
            (λ (t : (i ≢ child) × (get_elem? marks i ≡ some found.0)). (run.owned i found.0 t.1).end p done)
            (at_set marks child i m' found.0 found.1);
        each = λ j u e. ⊎_elim
            (λ (t : (j ≡ id) × (w ≡ u)). subst (λ (x : Stub P). (x.parent ≡ parent) × (((j ≡ id) × (x.stage ≡ Last) × (x.taken ≡ 0) × Own (outcomes_of marks') x) ⊎ ((j ≢ id) × (x.stage ≡ Stopped)))) t.1
            ((run.each id v at).parent, inl (t.0, refl, refl, (o, refl, at_map (λ (m : Mark). outcome_of m.progress) marks' child m' here))))
            (λ (t : (j ≢ id) × (get_elem? views j ≡ some u)).
            let fits = run.each j u t.1 in let covers : Covers u u.child = (omega arith, omega (arith, fits.some_child)) in let found = fits.marked u.child covers in
            let other : u.child ≢ child = (λ same. t.0 (sym found.2 ∙ ap (λ (m : Mark). m.seat) (same_at marks u.child found.0 (mark id Carried) found.1 (ap (λ (k : ℕ). get_elem? marks k) same ∙ at_mark)))) in
            (fits.parent, inr (t.0, stops u.stage found.0.progress found.3 (none_due marks' u.child found.0 none_left (set_else marks child u.child m' other ∙ found.1)))))
            (at_set views id j w u e);
        there = (w, set_here views id w (below views id v at));
      }

  counts_running : (id child : ℕ) (q : P) (o : Outcome) (end_of : ends q child o) (marks : List Mark) (views : List (Stub P)) (total : ℕ) → to_come marks ≡ total → total < 18446744073709551616
      → Running ends parent marks views → get_elem? views id ≡ some (stub q child 1 Holding Empty 0)
      → Owes ends parent (stub q child 1 Holding Empty 0, (child, Ended o) ∷ []) (λ n. (n + 18446744073709551615) % 18446744073709551616) (λ found m. Counted (stub q child 1 Holding Empty 0, (child, Ended o) ∷ []) found m) id
      (total ∷ []) (slots_of marks ++ some (Parent parent) ∷ []) views
  counts_running id child q o end_of marks views zero is small run at = absurd (omega (arith, run.some_missing))
  counts_running id child q o end_of marks views (suc zero) is small run at =
      let end_is : ends parent child o = subst (λ (r : P). ends r child o) (run.each id (stub q child 1 Holding Empty 0) at).parent end_of in
      let w : Stub P = stub q child 1 Last (Ended o) 0 in
      let x : Option (Slot P) = some (Parent parent) in
      let at_mark : get_elem? marks child ≡ some (mark id Carried) = own_mark ends parent marks views run id (stub q child 1 Holding Empty 0) at Carried (λ p agree. holds_carried Holding p agree refl) in
      let marks' : List Mark = set marks child (mark id (Here o)) in
      let none_left : to_come marks' ≡ 0 = (let e = due_set ends parent marks child id Carried (Here o) at_mark in omega arith) in
      let homes : set (slots_of marks ++ x ∷ []) child (some (Ended o)) ≡ left_of 0 (outcomes_of marks') ++ x ∷ [] =
      slots_set marks child (mark id (Here o)) x (below marks child (mark id Carried) at_mark) ∙ ap (λ (l : List (Option (Slot P))). l ++ x ∷ []) (all_here marks' none_left) in
      let word : (1 + 18446744073709551615) % 18446744073709551616 ≡ 0 = omega arith in (
        w,
        gives,
        tt,
        subst (λ (y : ℕ × List (Option (Slot P))). Reached ends parent (y.0 ∷ []) y.1 (set views id w)) (λ k. (sym word k, sym homes k)) (ending (outcomes_of marks') id 0 (set views id w) (finishes marks views id child q o run at at_mark end_is none_left)),
        (refl, refl),
      )
  counts_running id child q o end_of marks views (suc (suc n)) is small run at =
      let end_is : ends parent child o = subst (λ (r : P). ends r child o) (run.each id (stub q child 1 Holding Empty 0) at).parent end_of in
      let w : Stub P = stub q child 1 Stopped (Ended o) 0 in
      let x : Option (Slot P) = some (Parent parent) in
      let at_mark : get_elem? marks child ≡ some (mark id Carried) = own_mark ends parent marks views run id (stub q child 1 Holding Empty 0) at Carried (λ p agree. holds_carried Holding p agree refl) in
      let marks' : List Mark = set marks child (mark id (Here o)) in
      let left : to_come marks' + 1 ≡ suc (suc n) = (let e = due_set ends parent marks child id Carried (Here o) at_mark in omega arith) in
      let word : to_come marks' ≡ (suc (suc n) + 18446744073709551615) % 18446744073709551616 = omega (arith, minus_one (suc (suc n))) in
      let run' : Running ends parent marks' (set views id w) = changed ends parent marks views id child q Holding Stopped Empty (Ended o) 0 0 Carried (Here o) run at at_mark (stopped o)
      (λ p same. let same' : o ≡ p = cc in subst (λ (r : Outcome). ends parent child r) same' end_is) (omega arith) in (
        w,
        gives,
        tt,
        subst (λ (y : ℕ × List (Option (Slot P))). Reached ends parent (y.0 ∷ []) y.1 (set views id w)) (λ k. (word k, sym (slots_set marks child (mark id (Here o)) x (below marks child (mark id Carried) at_mark)) k)) (running marks' (set views id w) run'),
        (ap (λ (b : Bool). stub q child 1 (if b then Last else Stopped) (Ended o) 0) (sym (ne_eqb (suc (suc n)) 1 (λ e. omega arith))), refl),
      )

  counts_here : (slots id child : ℕ) (q : P) (o : Outcome) → ends q child o
      → Allows (Kept ends parent) slots id (stub q child 1 Holding Empty 0, (child, Ended o) ∷ []) 0 (λ n. (n + 18446744073709551615) % 18446744073709551616) (λ found m. Counted (stub q child 1 Holding Empty 0, (child, Ended o) ∷ []) found m)
  counts_here slots id child q o end_of s kept _ at small = while_running ends parent
      (λ words homes views. slice_index words 0 < 18446744073709551616 → Owes ends parent (stub q child 1 Holding Empty 0, (child, Ended o) ∷ []) (λ n. (n + 18446744073709551615) % 18446744073709551616) (λ found m. Counted (stub q child 1 Holding Empty 0, (child, Ended o) ∷ []) found m) id words homes views)
      id (stub q child 1 Holding Empty 0) (omega arith) (omega arith)
      (λ marks views run at' small'. counts_running id child q o end_of marks views (to_come marks) refl small' run at') s.words s.homes s.views kept at small

  pub counts : (slots id child : ℕ) (q : P) (o : Outcome) (me : Me (Slot P) (Stub P)) → me ≡ (stub q child 1 Holding Empty 0, (child, Ended o) ∷ []) → ends q child o
      → Allows (Kept ends parent) slots id me 0 (λ n. (n + 18446744073709551615) % 18446744073709551616) (λ found m. Counted me found m)
  counts slots id child q o me is end_of = subst (λ (u : Me (Slot P) (Stub P)). Allows (Kept ends parent) slots id u 0 (λ n. (n + 18446744073709551615) % 18446744073709551616) (λ found m. Counted u found m)) (sym is) (counts_here slots id child q o end_of)

  -- the last seat goes on
  moved : (outcomes : List Outcome) (id last taken taken' : ℕ) (stage stage' : Stage) (views : List (Stub P)) (v w : Stub P) → Ending ends parent outcomes last stage taken views → get_elem? views id ≡ some v → id ≡ last
      → w.parent ≡ parent → w.stage ≡ stage' → w.taken ≡ taken' → Own outcomes w → Ending ends parent outcomes last stage' taken' (set views id w)
  moved outcomes id last taken taken' stage stage' views v w end at first is_parent is_stage is_taken own = record {
    end = end.end;
    each = λ j u e. ⊎_elim
        (λ (t : (j ≡ id) × (w ≡ u)). subst (λ (x : Stub P). (x.parent ≡ parent) × (((j ≡ last) × (x.stage ≡ stage') × (x.taken ≡ taken') × Own outcomes x) ⊎ ((j ≢ last) × (x.stage ≡ Stopped)))) t.1
        (is_parent, inl (t.0 ∙ first, is_stage, is_taken, own)))
        (λ (t : (j ≢ id) × (get_elem? views j ≡ some u)). let was = end.each j u t.1 in (was.0, ⊎_elim (λ s. absurd (t.0 (s.0 ∙ sym first))) inr was.1))
        (at_set views id j w u e);
    there = (w, ap (λ (k : ℕ). get_elem? (set views id w) k) (sym first) ∙ set_here views id w (below views id v at));
  }

  -- the last seat is one of a join whose children have all ended, and whose parent is there
  while_ending : (G : List ℕ → List (Option (Slot P)) → List (Stub P) → Type 0) (id : ℕ) (v : Stub P) → v.stage ≡ Last
      → ((outcomes : List Outcome) (last : ℕ) (views : List (Stub P)) → Ending ends parent outcomes last Last v.taken views → get_elem? views id ≡ some v → id ≡ last → v.parent ≡ parent → Own outcomes v
      → G (0 ∷ []) (left_of v.taken outcomes ++ some (Parent parent) ∷ []) views)
      → (words : List ℕ) (homes : List (Option (Slot P))) (views : List (Stub P)) → Reached ends parent words homes views → get_elem? views id ≡ some v → G words homes views
  while_ending G id v is f _ _ _ (making n some_child) at = absurd (let r = ap (λ (u : Stub P). rank u.stage) (only (first_stub parent n) v id at).1 in let r' : rank v.stage ≡ 5 = ap rank is in omega arith)
  while_ending G id v is f _ _ _ (bringing n some_child) at = absurd (let r = ap (λ (u : Stub P). rank u.stage) (only (stub parent 0 n Bringing Empty 0) v id at).1 in let r' : rank v.stage ≡ 5 = ap rank is in omega arith)
  while_ending G id v is f _ _ _ (running marks views run) at = absurd (let r = in_running ends parent marks views run id v at in let r' : rank v.stage ≡ 5 = ap rank is in omega (arith, r.1))
  while_ending G id v is f _ _ _ (ending outcomes last taken views end) at = let was = end.each id v at in ⊎_elim
      (λ (t : (id ≡ last) × (v.stage ≡ Last) × (v.taken ≡ taken) × Own outcomes v).
      subst (λ (k : ℕ). Ending ends parent outcomes last Last k views → G (0 ∷ []) (left_of k outcomes ++ some (Parent parent) ∷ []) views) t.2 (λ end'. f outcomes last views end' at t.0 was.0 t.3) end)
      (λ (t : (id ≢ last) × (v.stage ≡ Stopped)). absurd (let r : 4 ≡ 5 = ap rank (sym t.1 ∙ is) in omega arith))
      was.1
  while_ending G id v is f _ _ _ (over outcomes last taken views end) at = absurd (let r' : rank v.stage ≡ 5 = ap rank is in ⊎_elim (λ r. omega arith) (λ r. omega arith) (in_ending ends parent outcomes last taken Over views end id v at))

  takes_outcome_ending : (slots id : ℕ) (me : Me (Slot P) (Stub P)) → me.0.stage ≡ Last → me.0.taken + 1 < slots → (outcomes : List Outcome) (last : ℕ) (views : List (Stub P)) → Ending ends parent outcomes last Last me.0.taken views
      → get_elem? views id ≡ some me.0 → id ≡ last → me.0.parent ≡ parent → Own outcomes me.0 → length (left_of me.0.taken outcomes ++ some (Parent parent) ∷ []) ≡ slots
      → Owes ends parent me (λ n. n) (λ _ n. GotOutcome ends me n) id (0 ∷ []) (left_of me.0.taken outcomes ++ some (Parent parent) ∷ []) views
  takes_outcome_ending slots id me is some_left outcomes last views end at first is_parent own long =
      let t : ℕ = me.0.taken in
      let x : Option (Slot P) = some (Parent parent) in
      let w : Stub P = stub me.0.parent me.0.child me.0.many Last me.0.put (t + 1) in
      let near : t < length outcomes = omega (arith, length-append (left_of {P = P} t outcomes) (x ∷ []), length-left_of P t outcomes) in
      let next = there outcomes t near in
      let on : t + 1 ≡ suc t = omega arith in
      let homes : set (left_of t outcomes ++ x ∷ []) t none ≡ left_of (t + 1) outcomes ++ x ∷ [] = next_taken t outcomes next.0 x next.1 ∙ ap (λ (k : ℕ). left_of k outcomes ++ x ∷ []) (sym on) in
      let end' : Ending ends parent outcomes last Last (t + 1) (set views id w) = moved outcomes id last t (t + 1) Last Last views me.0 w end at first is_parent refl refl own in (
        w,
        takes t (Ended next.0),
        next_there t outcomes next.0 x next.1,
        subst (λ (h : List (Option (Slot P))). Reached ends parent (0 ∷ []) h (set views id w)) (sym homes) (ending outcomes last (t + 1) (set views id w) end'),
        (
          refl,
          (
            next.0,
            refl,
            subst (λ (q : P). ends q t next.0) (sym is_parent) (end.end t next.0 next.1),
            λ (same : t ≡ me.0.child). own.1 ∙ ap Ended (same_at outcomes t own.0 next.0 (ap (λ (k : ℕ). get_elem? outcomes k) same ∙ own.2) next.1),
          ),
        ),
      )

  pub takes_outcome : (slots id : ℕ) (me : Me (Slot P) (Stub P)) → me.0.stage ≡ Last → me.0.taken + 1 < slots → Allows (Kept ends parent) slots id me 0 (λ n. n) (λ _ n. GotOutcome ends me n)
  takes_outcome slots id me is some_left s kept long at _ = while_ending
      (λ words homes views. length homes ≡ slots → Owes ends parent me (λ n. n) (λ _ n. GotOutcome ends me n) id words homes views) id me.0 is
      (λ outcomes last views end at' first is_parent own long'. takes_outcome_ending slots id me is some_left outcomes last views end at' first is_parent own long') s.words s.homes s.views kept at long

  takes_parent_ending : (slots id : ℕ) (me : Me (Slot P) (Stub P)) → me.0.stage ≡ Last → me.0.taken + 1 ≡ slots → (outcomes : List Outcome) (last : ℕ) (views : List (Stub P)) → Ending ends parent outcomes last Last me.0.taken views
      → get_elem? views id ≡ some me.0 → id ≡ last → me.0.parent ≡ parent → Own outcomes me.0 → length (left_of me.0.taken outcomes ++ some (Parent parent) ∷ []) ≡ slots
      → Owes ends parent me (λ n. n) (λ _ n. GotParent me n) id (0 ∷ []) (left_of me.0.taken outcomes ++ some (Parent parent) ∷ []) views
  takes_parent_ending slots id me is all_taken outcomes last views end at first is_parent own long =
      let t : ℕ = me.0.taken in
      let x : Option (Slot P) = some (Parent parent) in
      let w : Stub P = stub me.0.parent me.0.child me.0.many Over me.0.put t in
      let far : length (left_of {P = P} t outcomes) ≡ t = omega (arith, length-append (left_of {P = P} t outcomes) (x ∷ [])) in
      let end' : Ending ends parent outcomes last Over t (set views id w) = moved outcomes id last t t Last Over views me.0 w end at first is_parent refl refl own in (
        w,
        takes t (Parent parent),
        at_last (left_of t outcomes) x t far,
        subst (λ (h : List (Option (Slot P))). Reached ends parent (0 ∷ []) h (set views id w)) (sym (set_last (left_of t outcomes) x none t far)) (over outcomes last t (set views id w) end'),
        (refl, ap (λ (q : P). (t, Parent q) ∷ me.1) (sym is_parent)),
      )

  pub takes_parent : (slots id : ℕ) (me : Me (Slot P) (Stub P)) → me.0.stage ≡ Last → me.0.taken + 1 ≡ slots → Allows (Kept ends parent) slots id me 0 (λ n. n) (λ _ n. GotParent me n)
  takes_parent slots id me is all_taken s kept long at _ = while_ending
      (λ words homes views. length homes ≡ slots → Owes ends parent me (λ n. n) (λ _ n. GotParent me n) id words homes views) id me.0 is
      (λ outcomes last views end at' first is_parent own long'. takes_parent_ending slots id me is all_taken outcomes last views end at' first is_parent own long') s.words s.homes s.views kept at long
