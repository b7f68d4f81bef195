-- Rights with numbers of cells in place of names.
use Rattle.std.proofs.Common.{◌≡◌, ℕ, Bool, true, false, if◌then◌else◌, List, [], ◌∷◌, ◌++◌, map, filter, flat_map, refl, ap, sym, ◌∙◌}
use Rattle.std.specs.Prelude.{Option, Some, None, ◌==◌}
use Rattle.merc_script.specs.declared.cells.Move.{Move}
use Rattle.merc_core.specs.Rights.{has}
use Rattle.merc_board.specs.declared.fork.SharedCell.{SharedCell}
use Rattle.merc_board.specs.declared.fork.Handover.{Handover}
use Rattle.merc_board.specs.Rights.{Due, Owed, Rights, passed_over, wait_for, is_sooner, sooner_of, signal_for, own_waits, own_signals, child_for, goes_to, stays, waits_into, signals_into, waits_kept, signals_kept, child_rights, parent_rights}
use Rattle.merc_plan.specs.Hold.{moves_if}
use Rattle.merc_plan.specs.BranchScript.{renamed_move}
use Rattle.merc_plan.proofs.Sets.{first_in, rest_in}
use Rattle.merc_branch_laws.specs.Dealing.{moves_of}
use Rattle.merc_branch_laws.proofs.Finding.{due_cells, owed_cells}
use Rattle.merc_branch_laws.proofs.Handing.{map_both}

pub both_lists : (ws ws' : List Due) (ss ss' : List Owed) → ws ≡ ws' → ss ≡ ss' → ◌≡◌ {A = Rights} (record { waits = ws; signals = ss }) (record { waits = ws'; signals = ss' })
both_lists ws ws' ss ss' e d = ap with_waits e ∙ ap with_signals d
  where
    with_waits : List Due → Rights
    with_waits l = record { waits = l; signals = ss }

    with_signals : List Owed → Rights
    with_signals l = record { waits = ws'; signals = l }

module _ (f : ℕ → ℕ) where
  abbrev pub renamed_due : Due → Due
  renamed_due one = record { variable = one.variable; cell = f one.cell }

  abbrev pub renamed_owed : Owed → Owed
  renamed_owed one = record { variable = one.variable; consumer = one.consumer; cell = f one.cell }

  abbrev pub renamed_rights : Rights → Rights
  renamed_rights rights = record { waits = map renamed_due rights.waits; signals = map renamed_owed rights.signals }

  -- what is found

  abbrev wait_renamed : Option (ℕ × List Due) → Option (ℕ × List Due)
  wait_renamed None = None
  wait_renamed (Some found) = Some (f found.0, map renamed_due found.1)

  abbrev signal_renamed : Option (Owed × List Owed) → Option (Owed × List Owed)
  signal_renamed None = None
  signal_renamed (Some found) = Some (renamed_owed found.0, map renamed_owed found.1)

  wait_for_renamed : (x : ℕ) (ws : List Due) → wait_for x (map renamed_due ws) ≡ wait_renamed (wait_for x ws)
  wait_for_renamed x [] = refl
  wait_for_renamed x (w ∷ ws) = on (w.variable == x) (wait_for_renamed x ws)
    where
      over : (o : Option (ℕ × List Due)) → passed_over (renamed_due w) (wait_renamed o) ≡ wait_renamed (passed_over w o)
      over None = refl
      over (Some found) = refl

      on : (b : Bool) → wait_for x (map renamed_due ws) ≡ wait_renamed (wait_for x ws)
          → (if b then Some (f w.cell, map renamed_due ws) else passed_over (renamed_due w) (wait_for x (map renamed_due ws))) ≡ wait_renamed (if b then Some (w.cell, ws) else passed_over w (wait_for x ws))
      on true e = refl
      on false e = ap (λ (o : Option (ℕ × List Due)). passed_over (renamed_due w) o) e ∙ over (wait_for x ws)

  pub found_wait : (x c : ℕ) (ws others : List Due) → wait_for x ws ≡ Some (c, others) → wait_for x (map renamed_due ws) ≡ Some (f c, map renamed_due others)
  found_wait x c ws others e = wait_for_renamed x ws ∙ ap wait_renamed e

  signal_for_renamed : (x : ℕ) (ss : List Owed) → signal_for x (map renamed_owed ss) ≡ signal_renamed (signal_for x ss)
  signal_for_renamed x [] = refl
  signal_for_renamed x (s ∷ ss) = on (s.variable == x) (signal_for_renamed x ss)
    where
      over : (o : Option (Owed × List Owed)) → passed_over (renamed_owed s) (signal_renamed o) ≡ signal_renamed (passed_over s o)
      over None = refl
      over (Some found) = refl

      two : (b : Bool) (found : Owed × List Owed)
          → Some (if b then (renamed_owed found.0, renamed_owed s ∷ map renamed_owed found.1) else (renamed_owed s, map renamed_owed ss)) ≡ signal_renamed (Some (if b then (found.0, s ∷ found.1) else (s, ss)))
      two true found = refl
      two false found = refl

      sooner : (o : Option (Owed × List Owed)) → Some (sooner_of (renamed_owed s) (map renamed_owed ss) (signal_renamed o)) ≡ signal_renamed (Some (sooner_of s ss o))
      sooner None = refl
      sooner (Some found) = two (is_sooner found.0.consumer s.consumer) found

      on : (b : Bool) → signal_for x (map renamed_owed ss) ≡ signal_renamed (signal_for x ss)
          → (if b then Some (sooner_of (renamed_owed s) (map renamed_owed ss) (signal_for x (map renamed_owed ss))) else passed_over (renamed_owed s) (signal_for x (map renamed_owed ss)))
          ≡ signal_renamed (if b then Some (sooner_of s ss (signal_for x ss)) else passed_over s (signal_for x ss))
      on true e = ap (λ (o : Option (Owed × List Owed)). Some (sooner_of (renamed_owed s) (map renamed_owed ss) o)) e ∙ sooner (signal_for x ss)
      on false e = ap (λ (o : Option (Owed × List Owed)). passed_over (renamed_owed s) o) e ∙ over (signal_for x ss)

  pub found_signal : (x : ℕ) (o : Owed) (ss others : List Owed) → signal_for x ss ≡ Some (o, others) → signal_for x (map renamed_owed ss) ≡ Some (renamed_owed o, map renamed_owed others)
  found_signal x o ss others e = signal_for_renamed x ss ∙ ap signal_renamed e

  -- what is dealt out

  own_waits_renamed : (k : ℕ) (shared : List SharedCell) (cells : List ℕ) → own_waits k shared (map f cells) ≡ map renamed_due (own_waits k shared cells)
  own_waits_renamed k [] cells = refl
  own_waits_renamed k (one ∷ others) [] = refl
  own_waits_renamed k (one ∷ others) (c ∷ cells) = on (one.consumer == k) (own_waits_renamed k others cells)
    where
      on : (b : Bool) → own_waits k others (map f cells) ≡ map renamed_due (own_waits k others cells)
          → (if b then record { variable = one.variable; cell = f c } ∷ own_waits k others (map f cells) else own_waits k others (map f cells))
          ≡ map renamed_due (if b then record { variable = one.variable; cell = c } ∷ own_waits k others cells else own_waits k others cells)
      on true e = ap (λ (l : List Due). record { variable = one.variable; cell = f c } ∷ l) e
      on false e = e

  own_signals_renamed : (k : ℕ) (shared : List SharedCell) (cells : List ℕ) → own_signals k shared (map f cells) ≡ map renamed_owed (own_signals k shared cells)
  own_signals_renamed k [] cells = refl
  own_signals_renamed k (one ∷ others) [] = refl
  own_signals_renamed k (one ∷ others) (c ∷ cells) = on (one.producer == k) (own_signals_renamed k others cells)
    where
      on : (b : Bool) → own_signals k others (map f cells) ≡ map renamed_owed (own_signals k others cells)
          → (if b then record { variable = one.variable; consumer = one.consumer; cell = f c } ∷ own_signals k others (map f cells) else own_signals k others (map f cells))
          ≡ map renamed_owed (if b then record { variable = one.variable; consumer = one.consumer; cell = c } ∷ own_signals k others cells else own_signals k others cells)
      on true e = ap (λ (l : List Owed). record { variable = one.variable; consumer = one.consumer; cell = f c } ∷ l) e
      on false e = e

  chosen_renamed : {A : Type 0} (rename : A → A) (test : A → Bool) → ((x : A) → test (rename x) ≡ test x) → (xs : List A) → filter test (map rename xs) ≡ map rename (filter test xs)
  chosen_renamed rename test same [] = refl
  chosen_renamed {A} rename test same (x ∷ xs) =
      ap (λ (b : Bool). if b then rename x ∷ filter test (map rename xs) else filter test (map rename xs)) (same x) ∙ on (test x) (chosen_renamed rename test same xs)
    where
      on : (b : Bool) → filter test (map rename xs) ≡ map rename (filter test xs)
          → (if b then rename x ∷ filter test (map rename xs) else filter test (map rename xs)) ≡ map rename (if b then x ∷ filter test xs else filter test xs)
      on true e = ap (λ (l : List A). rename x ∷ l) e
      on false e = e

  pub waits_into_renamed : (k : ℕ) (moves : List Handover) (ws : List Due) → waits_into k moves (map renamed_due ws) ≡ map renamed_due (waits_into k moves ws)
  waits_into_renamed k moves ws = chosen_renamed renamed_due (λ (right : Due). goes_to k (child_for false right.variable moves)) (λ right. refl) ws

  pub signals_into_renamed : (k : ℕ) (moves : List Handover) (ss : List Owed) → signals_into k moves (map renamed_owed ss) ≡ map renamed_owed (signals_into k moves ss)
  signals_into_renamed k moves ss = chosen_renamed renamed_owed (λ (right : Owed). goes_to k (child_for true right.variable moves)) (λ right. refl) ss

  pub waits_kept_renamed : (moves : List Handover) (ws : List Due) → waits_kept moves (map renamed_due ws) ≡ map renamed_due (waits_kept moves ws)
  waits_kept_renamed moves ws = chosen_renamed renamed_due (λ (right : Due). stays (child_for false right.variable moves)) (λ right. refl) ws

  pub signals_kept_renamed : (moves : List Handover) (ss : List Owed) → signals_kept moves (map renamed_owed ss) ≡ map renamed_owed (signals_kept moves ss)
  signals_kept_renamed moves ss = chosen_renamed renamed_owed (λ (right : Owed). stays (child_for true right.variable moves)) (λ right. refl) ss

  pub child_renamed : (shared : List SharedCell) (moves : List Handover) (cells : List ℕ) (rights : Rights) (k : ℕ)
      → child_rights shared moves (map f cells) (renamed_rights rights) k ≡ renamed_rights (child_rights shared moves cells rights k)
  child_renamed shared moves cells rights k =
      both_lists _ _ _ _
      (ap (λ (l : List Due). l ++ waits_into k moves (map renamed_due rights.waits)) (own_waits_renamed k shared cells)
      ∙ ap (λ (l : List Due). map renamed_due (own_waits k shared cells) ++ l) (waits_into_renamed k moves rights.waits)
      ∙ sym (map_both renamed_due (own_waits k shared cells) (waits_into k moves rights.waits)))
      (ap (λ (l : List Owed). l ++ signals_into k moves (map renamed_owed rights.signals)) (own_signals_renamed k shared cells)
      ∙ ap (λ (l : List Owed). map renamed_owed (own_signals k shared cells) ++ l) (signals_into_renamed k moves rights.signals)
      ∙ sym (map_both renamed_owed (own_signals k shared cells) (signals_into k moves rights.signals)))

  pub parent_renamed : (shared : List SharedCell) (moves : List Handover) (cells : List ℕ) (rights : Rights)
      → parent_rights shared moves (map f cells) (renamed_rights rights) ≡ renamed_rights (parent_rights shared moves cells rights)
  parent_renamed shared moves cells rights =
      both_lists _ _ _ _
      (ap (λ (l : List Due). l ++ waits_kept moves (map renamed_due rights.waits)) (own_waits_renamed 0 shared cells)
      ∙ ap (λ (l : List Due). map renamed_due (own_waits 0 shared cells) ++ l) (waits_kept_renamed moves rights.waits)
      ∙ sym (map_both renamed_due (own_waits 0 shared cells) (waits_kept moves rights.waits)))
      (signals_kept_renamed moves rights.signals)

  -- what moves
  moved_if : (kind : Bool) (c : ℕ) (o : Option ℕ) → moves_if kind (f c) o ≡ map (renamed_move f) (moves_if kind c o)
  moved_if kind c None = refl
  moved_if kind c (Some child) = refl

  made_renamed : {A : Type 0} (rename : A → A) (make : A → List Move) → ((x : A) → make (rename x) ≡ map (renamed_move f) (make x)) → (xs : List A)
      → flat_map make (map rename xs) ≡ map (renamed_move f) (flat_map make xs)
  made_renamed rename make same [] = refl
  made_renamed rename make same (x ∷ xs) =
      ap (λ (l : List Move). l ++ flat_map make (map rename xs)) (same x) ∙ ap (λ (l : List Move). map (renamed_move f) (make x) ++ l) (made_renamed rename make same xs)
      ∙ sym (map_both (renamed_move f) (make x) (flat_map make xs))

  pub moves_renamed : (moves : List Handover) (rights : Rights) → moves_of moves (renamed_rights rights) ≡ map (renamed_move f) (moves_of moves rights)
  moves_renamed moves rights =
      let wait : (Due → List Move) = λ right. moves_if false right.cell (child_for false right.variable moves) in
      let signal : (Owed → List Move) = λ right. moves_if true right.cell (child_for true right.variable moves) in
      ap (λ (l : List Move). l ++ flat_map wait (map renamed_due rights.waits))
      (made_renamed renamed_owed signal (λ right. moved_if true right.cell (child_for true right.variable moves)) rights.signals)
      ∙ ap (λ (l : List Move). map (renamed_move f) (flat_map signal rights.signals) ++ l)
      (made_renamed renamed_due wait (λ right. moved_if false right.cell (child_for false right.variable moves)) rights.waits)
      ∙ sym (map_both (renamed_move f) (flat_map signal rights.signals) (flat_map wait rights.waits))

-- the same numbers of the same names

dues_agree : (f g : ℕ → ℕ) (ws : List Due) → ((c : ℕ) → has c (due_cells ws) ≡ true → f c ≡ g c) → map (renamed_due f) ws ≡ map (renamed_due g) ws
dues_agree f g [] h = refl
dues_agree f g (w ∷ ws) h =
    ap (λ (n : ℕ). record { variable = w.variable; cell = n } ∷ map (renamed_due f) ws) (h w.cell (first_in w.cell (due_cells ws)))
    ∙ ap (λ (l : List Due). renamed_due g w ∷ l) (dues_agree f g ws (λ c i. h c (rest_in c w.cell (due_cells ws) i)))

owed_agree : (f g : ℕ → ℕ) (ss : List Owed) → ((c : ℕ) → has c (owed_cells ss) ≡ true → f c ≡ g c) → map (renamed_owed f) ss ≡ map (renamed_owed g) ss
owed_agree f g [] h = refl
owed_agree f g (s ∷ ss) h =
    ap (λ (n : ℕ). record { variable = s.variable; consumer = s.consumer; cell = n } ∷ map (renamed_owed f) ss) (h s.cell (first_in s.cell (owed_cells ss)))
    ∙ ap (λ (l : List Owed). renamed_owed g s ∷ l) (owed_agree f g ss (λ c i. h c (rest_in c s.cell (owed_cells ss) i)))

pub rights_agree : (f g : ℕ → ℕ) (rights : Rights) → ((c : ℕ) → has c (due_cells rights.waits) ≡ true → f c ≡ g c) → ((c : ℕ) → has c (owed_cells rights.signals) ≡ true → f c ≡ g c)
    → renamed_rights f rights ≡ renamed_rights g rights
rights_agree f g rights w s =
    both_lists (map (renamed_due f) rights.waits) (map (renamed_due g) rights.waits) (map (renamed_owed f) rights.signals) (map (renamed_owed g) rights.signals)
    (dues_agree f g rights.waits w) (owed_agree f g rights.signals s)
