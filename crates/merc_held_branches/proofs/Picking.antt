-- The right that stands at the place that is found is the one that is used, and the others stay in order.
use Rattle.std.proofs.Common.{◌≡◌, ℕ, zero, suc, ◌+◌, ◌<◌, ◌≤◌, Bool, true, false, List, [], ◌∷◌, map, length, drop, refl, sym, ap, ◌∙◌, subst, arith}
use Rattle.std.specs.Prelude.{Option, Some, None, slice_get, slice_index_or, if◌then◌else◌, ◌==◌, not}
use Rattle.std.specs.List.{All, remove}
use Rattle.merc_board.specs.Rights.{Due, Owed, wait_for, signal_for, passed_over, sooner_of, is_sooner}
use Rattle.merc_held_branches.specs.declared.branch.HeldWait.{HeldWait}
use Rattle.merc_held_branches.specs.declared.branch.HeldSignal.{HeldSignal}
use Rattle.merc_held_branches.specs.Lying.{due_of, owed_of}
use Rattle.merc_held_branches.specs.Picking.{lifted, later, wait_place, consumer_at, sooner_than, signal_place}

pub index_of : {A : Type 0} (l : List A) (i : ℕ) (x d : A) → slice_get l i ≡ Some x → slice_index_or l i d ≡ x
index_of [] i x d e = absurd (cc)
index_of (y ∷ ys) zero x d e = cc (e)
index_of (y ∷ ys) (suc i) x d e = index_of ys i x d e

got_near : {A : Type 0} (l : List A) (i : ℕ) (x : A) → slice_get l i ≡ Some x → i < length l
got_near [] i x e = absurd (cc)
got_near (y ∷ ys) zero x e = omega arith
got_near (y ∷ ys) (suc i) x e = let n = got_near ys i x e in omega (arith, n)

no_test : (b : Bool) → not b ≡ true → b ≡ false
no_test true e = absurd (cc)
no_test false e = refl

yes_test : (b : Bool) → not b ≡ false → b ≡ true
yes_test true e = refl
yes_test false e = absurd (cc)

outside : (b : Bool) (m n : ℕ) → (if b then Some m else Some n) ≡ Some (if b then m else n)
outside true m n = refl
outside false m n = refl

lifted_if : (b : Bool) (place i : ℕ) → lifted place (Some (if b then suc i else 0)) ≡ Some (if b then suc place + i else place)
lifted_if true place i = ap Some (omega arith)
lifted_if false place i = ap Some (omega arith)

lifted_later : (place : ℕ) (found : Option ℕ) → lifted place (later found) ≡ lifted (suc place) found
lifted_later place None = refl
lifted_later place (Some i) = ap Some (omega arith)

module _ {L : Type 0} where
  -- the right at a place of the list, which is used
  abbrev FoundWait : List (HeldWait L) → ℕ → Option (ℕ × List Due) → Type 0
  FoundWait waits i used = (right : HeldWait L) × (slice_get waits i ≡ Some right) × (used ≡ Some ((due_of right).cell, map due_of (remove waits i)))

  wait_here : (b : Bool) (place n variable : ℕ) (first : HeldWait L) (rest : List (HeldWait L)) → (if b then Some place else wait_place (suc place) variable rest) ≡ Some n
      → (wait_place (suc place) variable rest ≡ Some n → (i : ℕ) × (n ≡ suc place + i) × FoundWait rest i (wait_for variable (map due_of rest)))
      → (i : ℕ) × (n ≡ place + i) × FoundWait (first ∷ rest) i (if b then Some ((due_of first).cell, map due_of rest) else passed_over (due_of first) (wait_for variable (map due_of rest)))
  wait_here true place n variable first rest e more = let is : place ≡ n = cc (e) in (0, omega (arith, is), (first, refl, refl))
  wait_here false place n variable first rest e more = let f = more e in let at = f.1 in (suc f.0, omega (arith, at), (f.2.0, f.2.1, ap (passed_over (due_of first)) f.2.2))

  pub found_wait : (place n variable : ℕ) (waits : List (HeldWait L)) → wait_place place variable waits ≡ Some n → (i : ℕ) × (n ≡ place + i) × FoundWait waits i (wait_for variable (map due_of waits))
  found_wait place n variable [] e = absurd (cc)
  found_wait place n variable (first ∷ rest) e = wait_here (first.variable == variable) place n variable first rest e (λ o. found_wait (suc place) n variable rest o)

  none_here : (b : Bool) (place variable : ℕ) (first : HeldWait L) (rest : List (HeldWait L)) → (if b then Some place else wait_place (suc place) variable rest) ≡ None
      → (wait_place (suc place) variable rest ≡ None → wait_for variable (map due_of rest) ≡ None)
      → (if b then Some ((due_of first).cell, map due_of rest) else passed_over (due_of first) (wait_for variable (map due_of rest))) ≡ None
  none_here true place variable first rest e more = absurd (cc)
  none_here false place variable first rest e more = ap (passed_over (due_of first)) (more e)

  pub no_wait : (place variable : ℕ) (waits : List (HeldWait L)) → wait_place place variable waits ≡ None → wait_for variable (map due_of waits) ≡ None
  no_wait place variable [] e = refl
  no_wait place variable (first ∷ rest) e = none_here (first.variable == variable) place variable first rest e (λ o. no_wait (suc place) variable rest o)

  -- what a list of rights to signal has at the place that is found, or that none is found
  abbrev Used : List (HeldSignal L) → Option ℕ → Option (Owed × List Owed) → Type 0
  Used signals None used = used ≡ None
  Used signals (Some i) used = (right : HeldSignal L) × (slice_get signals i ≡ Some right) × (consumer_at signals i ≡ right.consumer) × (used ≡ Some (owed_of right, map owed_of (remove signals i)))

  used_sooner : (b : Bool) (i : ℕ) (first right : HeldSignal L) (rest : List (HeldSignal L)) → slice_get rest i ≡ Some right → consumer_at rest i ≡ right.consumer
      → Used (first ∷ rest) (Some (if b then suc i else 0)) (Some (if b then (owed_of right, owed_of first ∷ map owed_of (remove rest i)) else (owed_of first, map owed_of rest)))
  used_sooner true i first right rest at same = (right, at, same, refl)
  used_sooner false i first right rest at same = (first, refl, refl, refl)

  used_first : (first : HeldSignal L) (rest : List (HeldSignal L)) (found : Option ℕ) (used : Option (Owed × List Owed)) → Used rest found used
      → Used (first ∷ rest) (Some (sooner_than first.consumer rest found)) (Some (sooner_of (owed_of first) (map owed_of rest) used))
  used_first first rest None used e = subst (λ (u : Option (Owed × List Owed)). Used (first ∷ rest) (Some 0) (Some (sooner_of (owed_of first) (map owed_of rest) u))) (sym e) (first, refl, refl, refl)
  used_first first rest (Some i) used e =
      subst (λ (u : Option (Owed × List Owed)). Used (first ∷ rest) (Some (sooner_than first.consumer rest (Some i))) (Some (sooner_of (owed_of first) (map owed_of rest) u))) (sym e.3)
      (subst (λ (k : ℕ). Used (first ∷ rest) (Some (if is_sooner k first.consumer then suc i else 0)) (Some (if is_sooner e.0.consumer first.consumer then (owed_of e.0, owed_of first ∷ map owed_of (remove rest i)) else (owed_of first, map owed_of rest)))) (sym e.2)
      (used_sooner (is_sooner e.0.consumer first.consumer) i first e.0 rest e.1 e.2))

  used_over : (first : HeldSignal L) (rest : List (HeldSignal L)) (found : Option ℕ) (used : Option (Owed × List Owed)) → Used rest found used
      → Used (first ∷ rest) (later found) (passed_over (owed_of first) used)
  used_over first rest None used e = ap (passed_over (owed_of first)) e
  used_over first rest (Some i) used e = (e.0, e.1, e.2, ap (passed_over (owed_of first)) e.3)

  used_either : (b : Bool) (first : HeldSignal L) (rest : List (HeldSignal L)) (found : Option ℕ) (used : Option (Owed × List Owed)) → Used rest found used
      → Used (first ∷ rest) (if b then Some (sooner_than first.consumer rest found) else later found) (if b then Some (sooner_of (owed_of first) (map owed_of rest) used) else passed_over (owed_of first) used)
  used_either true first rest found used e = used_first first rest found used e
  used_either false first rest found used e = used_over first rest found used e

  pub used_signal : (variable : ℕ) (signals : List (HeldSignal L)) → Used signals (signal_place variable signals) (signal_for variable (map owed_of signals))
  used_signal variable [] = refl
  used_signal variable (first ∷ rest) = used_either (first.variable == variable) first rest (signal_place variable rest) (signal_for variable (map owed_of rest)) (used_signal variable rest)

  -- which place is used of a list from an item on

  consumer_dropped : (n p : ℕ) (l : List (HeldSignal L)) → consumer_at (drop n l) p ≡ consumer_at l (n + p)
  consumer_dropped zero p [] = refl
  consumer_dropped (suc n) p [] = refl
  consumer_dropped zero p (y ∷ ys) = ap (consumer_at (y ∷ ys)) (omega arith)
  consumer_dropped (suc n) p (y ∷ ys) = consumer_dropped n p ys ∙ ap (consumer_at (y ∷ ys)) (let e : suc (n + p) ≡ suc n + p = omega arith in e)

  -- the place that is used of a right and of those behind it, which use this one
  abbrev either_used : ℕ → List (HeldSignal L) → ℕ → Option ℕ → ℕ
  either_used consumer l place None = place
  either_used consumer l place (Some behind) = if is_sooner (consumer_at l behind) consumer then behind else place

  lifted_sooner : (place : ℕ) (consumer : ℕ) (l : List (HeldSignal L)) (found : Option ℕ)
      → lifted place (Some (sooner_than consumer (drop (suc place) l) found)) ≡ Some (either_used consumer l place (lifted (suc place) found))
  lifted_sooner place consumer l None = ap Some (omega arith)
  lifted_sooner place consumer l (Some i) = lifted_if (is_sooner (consumer_at (drop (suc place) l) i) consumer) place i
      ∙ ap (λ (k : ℕ). Some (if is_sooner k consumer then suc place + i else place)) (consumer_dropped (suc place) i l)

  used_here : (b : Bool) (place consumer : ℕ) (l : List (HeldSignal L)) (found : Option ℕ)
      → lifted place (if b then Some (sooner_than consumer (drop (suc place) l) found) else later found) ≡ (if b then Some (either_used consumer l place (lifted (suc place) found)) else lifted (suc place) found)
  used_here true place consumer l found = lifted_sooner place consumer l found
  used_here false place consumer l found = lifted_later place found

  dropped : (l : List (HeldSignal L)) (place : ℕ) (d : HeldSignal L) → place < length l → drop place l ≡ slice_index_or l place d ∷ drop (suc place) l
  dropped [] place d near = absurd (omega (arith, near))
  dropped (y ∷ ys) zero d near = refl
  dropped (y ∷ ys) (suc place) d near = dropped ys place d (omega (arith, near))

  used_from : (variable place : ℕ) (l : List (HeldSignal L)) (d : HeldSignal L) (behind : Option ℕ) → place < length l → behind ≡ lifted (suc place) (signal_place variable (drop (suc place) l))
      → (if (slice_index_or l place d).variable == variable then Some (either_used (slice_index_or l place d).consumer l place behind) else behind) ≡ lifted place (signal_place variable (drop place l))
  used_from variable place l d behind near is =
      ap (λ (o : Option ℕ). if (slice_index_or l place d).variable == variable then Some (either_used (slice_index_or l place d).consumer l place o) else o) is
      ∙ sym (ap (λ m. lifted place (signal_place variable m)) (dropped l place d near)
      ∙ used_here ((slice_index_or l place d).variable == variable) place (slice_index_or l place d).consumer l (signal_place variable (drop (suc place) l)))

  pub used_behind : (variable place : ℕ) (l : List (HeldSignal L)) (right : HeldSignal L) (behind : Option ℕ) → place < length l → right ≡ slice_index_or l place right → behind ≡ lifted (suc place) (signal_place variable (drop (suc place) l))
      → not (right.variable == variable) ≡ true → behind ≡ lifted place (signal_place variable (drop place l))
  used_behind variable place l right behind near read is other =
      ap (λ (b : Bool). if b then Some (either_used right.consumer l place behind) else behind) (sym (no_test (right.variable == variable) other))
      ∙ ap (λ (r : HeldSignal L). if r.variable == variable then Some (either_used r.consumer l place behind) else behind) read
      ∙ used_from variable place l right behind near is

  -- .. where those behind it use one
  pub used_of_two : (b : Bool) (variable place next : ℕ) (l : List (HeldSignal L)) (right : HeldSignal L) (behind : Option ℕ) → place < length l → right ≡ slice_index_or l place right
      → behind ≡ lifted (suc place) (signal_place variable (drop (suc place) l)) → not (right.variable == variable) ≡ false → behind ≡ Some next → is_sooner (consumer_at l next) right.consumer ≡ b
      → (if b then Some next else Some place) ≡ lifted place (signal_place variable (drop place l))
  used_of_two b variable place next l right behind near read is same there sooner = outside b next place
      ∙ ap (λ (x : Bool). Some (if x then next else place)) (sym sooner)
      ∙ ap (λ (o : Option ℕ). Some (either_used right.consumer l place o)) (sym there)
      ∙ ap (λ (x : Bool). if x then Some (either_used right.consumer l place behind) else behind) (sym (yes_test (right.variable == variable) same))
      ∙ ap (λ (r : HeldSignal L). if r.variable == variable then Some (either_used r.consumer l place behind) else behind) read
      ∙ used_from variable place l right behind near is

  -- a consumer that is read
  pub consumer_read : (l : List (HeldSignal L)) (place : ℕ) (right : HeldSignal L) → place < length l → right ≡ slice_index_or l place right → right.consumer ≡ consumer_at l place
  consumer_read [] place right near e = absurd (omega (arith, near))
  consumer_read (y ∷ ys) zero right near e = ap (λ (r : HeldSignal L). r.consumer) e
  consumer_read (y ∷ ys) (suc place) right near e = consumer_read ys place right (omega (arith, near)) e

  pub consumer_none : (l : List (HeldSignal L)) (place : ℕ) → length l ≤ place → 0 ≡ consumer_at l place
  consumer_none [] place e = refl
  consumer_none (y ∷ ys) zero e = absurd (omega (arith, e))
  consumer_none (y ∷ ys) (suc place) e = consumer_none ys place (omega (arith, e))

  -- a place that is used lies in the list
  pub signal_near : (variable place : ℕ) (l : List (HeldSignal L)) → signal_place variable l ≡ Some place → place < length l
  signal_near variable place l found = let u : Used l (Some place) (signal_for variable (map owed_of l)) = subst (λ (p : Option ℕ). Used l p (signal_for variable (map owed_of l))) found (used_signal variable l) in
      got_near l place u.0 u.1

  pub wait_near : (variable place : ℕ) (l : List (HeldWait L)) → wait_place 0 variable l ≡ Some place → place < length l
  wait_near variable place l found = let f = found_wait 0 place variable l found in let at = f.1 in let n = got_near l f.0 f.2.0 f.2.1 in omega (arith, at, n)

  -- taking the right out that was found
  pub took_wait : (variable place : ℕ) (old new : List (HeldWait L)) (result : HeldWait L) → wait_place 0 variable old ≡ Some place → result ≡ slice_index_or old place result → new ≡ remove old place
      → wait_for variable (map due_of old) ≡ Some ((due_of result).cell, map due_of new)
  took_wait variable place old new result found is gone =
      let f = found_wait 0 place variable old found in let at = f.1 in let here : place ≡ f.0 = omega (arith, at) in
      let same : result ≡ f.2.0 = is ∙ ap (λ i. slice_index_or old i result) here ∙ index_of old f.0 f.2.0 result f.2.1 in
      f.2.2 ∙ (λ k. Some ((due_of (sym same k)).cell, map due_of ((ap (remove old) (sym here) ∙ sym gone) k)))

  pub took_signal : (variable place : ℕ) (old new : List (HeldSignal L)) (result : HeldSignal L) → signal_place variable old ≡ Some place → result ≡ slice_index_or old place result → new ≡ remove old place
      → signal_for variable (map owed_of old) ≡ Some (owed_of result, map owed_of new)
  took_signal variable place old new result found is gone =
      let u : Used old (Some place) (signal_for variable (map owed_of old)) = subst (λ (p : Option ℕ). Used old p (signal_for variable (map owed_of old))) found (used_signal variable old) in
      let same : result ≡ u.0 = is ∙ index_of old place u.0 result u.1 in
      u.3 ∙ (λ k. Some (owed_of (sym same k), map owed_of (sym gone k)))

  pub no_signal : (variable : ℕ) (old : List (HeldSignal L)) → signal_place variable old ≡ None → signal_for variable (map owed_of old) ≡ None
  no_signal variable old found = subst (λ (p : Option ℕ). Used old p (signal_for variable (map owed_of old))) found (used_signal variable old)

all_removed : {A : Type 0} (Q : A → Type 0) (l : List A) (i : ℕ) → All Q l → All Q (remove l i)
all_removed Q [] zero all k d near = absurd (omega (arith, near))
all_removed Q [] (suc i) all k d near = absurd (omega (arith, near))
all_removed Q (x ∷ xs) zero all k d near = all (suc k) d (omega (arith, near))
all_removed Q (x ∷ xs) (suc i) all zero d near = all zero d (omega arith)
all_removed Q (x ∷ xs) (suc i) all (suc k) d near = all_removed Q xs i (λ j e close. all (suc j) e (omega (arith, close))) k d (omega (arith, near))

pub all_without : {A : Type 0} (Q : A → Type 0) (l m : List A) (i : ℕ) → m ≡ remove l i → All Q l → All Q m
all_without Q l m i is all = subst (All Q) (sym is) (all_removed Q l i all)
