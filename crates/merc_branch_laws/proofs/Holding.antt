-- What a branch holds behind a wait, a signal and a fork, in a conjunct and in the body of a called procedure, and what it finds there.
use Rattle.std.proofs.Common.{◌≡◌, ℕ, suc, ◌+◌, ◌<◌, ◌⊎◌, inl, inr, Bool, true, false, not, if◌then◌else◌, List, [], ◌∷◌, ◌++◌, length, refl, ap, sym, subst, ◌∙◌, arith}
use Rattle.std.specs.Prelude.{Option, Some, None, ◌==◌}
use Rattle.merc_graded_tree.specs.Nodes.{Node}
use Rattle.merc_meaning.specs.Trace.{Env}
use Rattle.merc_script.specs.declared.cells.Move.{Move}
use Rattle.merc_core.specs.Rights.{has}
use Rattle.merc_core.specs.WellFormed.{AreDistinct}
use Rattle.merc_rights.specs.declared.sites.CellInfo.{CellInfo}
use Rattle.merc_rights.specs.declared.sites.Moved.{Moved}
use Rattle.merc_rights.specs.declared.sites.SiteInfo.{SiteInfo}
use Rattle.merc_board.specs.declared.fork.Handover.{Handover}
use Rattle.merc_board.specs.Rights.{Due, Owed, Rights, own_waits, own_signals, child_for, goes_to, stays, waits_into, signals_into, waits_kept, signals_kept, child_rights}
use Rattle.merc_plan.specs.Branch.{HeldWait, HeldSignal, Hold, Gift}
use Rattle.merc_plan.specs.Hold.{holding, with_env, wait_for as plan_wait, without_wait, signal_for as plan_signal, without_signal, named, own_waits as plan_waits, own_signals as plan_signals, moves_from, waits_into as plan_waits_into, signals_into as plan_signals_into, waits_kept as plan_waits_kept, conjunct_hold, hold_behind}
use Rattle.merc_plan.specs.Branches.{signal_cell}
use Rattle.merc_plan.proofs.NumberingLists.{distinct_append}
use Rattle.merc_plan.proofs.Sets.{clash, front_or, in_either}
use Rattle.merc_plan.proofs.Givers.{named_low}
use Rattle.merc_carried.specs.Sharing.{shared_of, given_of}
use Rattle.merc_branch_laws.specs.Dealing.{moves_of}
use Rattle.merc_branch_laws.proofs.Parts.{Part, nothing, part_front, part_filter, filter_part, has_part, distinct_part}
use Rattle.merc_branch_laws.proofs.Finding.{due_cells, owed_cells, first_for, rest_for, rest_part, first_part, due_of, dues, first_due, rest_due, best_for, without_owed, best_part, owed_of, owing, best_held, left_owed}
use Rattle.merc_branch_laws.proofs.Handing.{map_both, shared, names_from, own_dues, own_owed, own_uses, own_makes, used_named, made_named, uses_distinct, makes_distinct, handed, into_dues, into_owed, kept_dues, kept_owed, moves_same, HandsOver, part_hands, none_hand}
use Rattle.merc_branch_laws.proofs.Looking.{ArePart, past, past_part, past_more, rest_past, behind_wait, behind_signal, behind_fork, Covers, covers_less, Holds, SeesWait, SeesSignal}

pub names_high : (next : ℕ) (infos : List CellInfo) (c : ℕ) → has c (names_from next infos) ≡ true → c < next + length infos
names_high next [] c h = absurd (cc (h))
names_high next (info ∷ infos) c h = on (front_or c next (names_from (suc next) infos) h) (λ k. names_high (suc next) infos c k)
  where
    on : (c ≡ next) ⊎ (has c (names_from (suc next) infos) ≡ true) → (has c (names_from (suc next) infos) ≡ true → c < suc next + length infos) → c < next + suc (length infos)
    on (inl e) rec = omega (arith, e)
    on (inr e) rec = let l = rec e in omega (arith, l)

-- other values
pub holds_env : (next : ℕ) (frame : Bool) (pending : List Due) (left : Rights) (hold : Hold) (env : Env) → Holds next frame pending left hold → Holds next frame pending left (with_env hold env)
holds_env next frame pending left hold env h = record {
  begins = h.begins;
  some = h.some;
  others = h.others;
  waits = h.waits;
  covers_waits = h.covers_waits;
  covers_signals = h.covers_signals;
  wait_cells = h.wait_cells;
  signal_cells = h.signal_cells;
  low_waits = h.low_waits;
  low_signals = h.low_signals;
}

-- a called body, whatever is left to the branch
pub holds_called : (next : ℕ) (frame : Bool) (left : Rights) (hold : Hold) (env : Env) → Holds next frame [] left hold → Holds next false [] left (holding env hold.next)
holds_called next frame left hold env h = record {
  begins = h.begins;
  some = h.some;
  others = [];
  waits = refl;
  covers_waits = refl;
  covers_signals = refl;
  wait_cells = tt;
  signal_cells = tt;
  low_waits = λ c i. absurd (cc (i));
  low_signals = λ c i. absurd (cc (i));
}

-- Waiting.

front_found : (x c : ℕ) (pending fewer : List Due) → first_for x (pending ++ []) ≡ Some c → first_for x (pending ++ fewer) ≡ Some c
front_found x c [] fewer e = absurd (cc (e))
front_found x c (first ∷ pending) fewer e = on (first.variable == x) e (λ f. front_found x c pending fewer f)
  where
    on : (b : Bool) → (if b then Some first.cell else first_for x (pending ++ [])) ≡ Some c → (first_for x (pending ++ []) ≡ Some c → first_for x (pending ++ fewer) ≡ Some c)
        → (if b then Some first.cell else first_for x (pending ++ fewer)) ≡ Some c
    on true e rec = e
    on false e rec = rec e

found_covered : (frame : Bool) (x c : ℕ) (pending fewer others : List Due) → Covers Due frame fewer others → AreDistinct (due_cells (pending ++ others)) → first_for x (pending ++ others) ≡ Some c
    → has c (due_cells (pending ++ fewer)) ≡ true → first_for x (pending ++ fewer) ≡ Some c
found_covered true x c pending fewer others p d e h = first_part x c (pending ++ fewer) (pending ++ others) (part_front pending fewer others p) d e h
found_covered false x c pending fewer others p d e h = front_found x c pending fewer (subst (λ (l : List Due). first_for x (pending ++ l) ≡ Some c) p e)

module _ (next : ℕ) (frame : Bool) (pending : List Due) (left : Rights) (hold : Hold) (h : Holds next frame pending left hold) (x : ℕ) where
  pub sees_right : (right : HeldWait) → plan_wait x hold.waits ≡ Some right → SeesWait pending left.waits x right.cell
  sees_right right e fewer p zero_not i =
      found_covered frame x right.cell pending fewer h.others (covers_less frame fewer left.waits h.others p h.covers_waits) h.wait_cells
      (subst (λ (l : List Due). first_for x l ≡ Some right.cell) h.waits (first_due x hold.waits right e)) i

  past_covers : (frame : Bool) (others : List Due) → Covers Due frame left.waits others → Covers Due frame (past x pending left.waits) (past x pending others)
  past_covers true others p = past_more x pending left.waits others p
  past_covers false others p = ap (past x pending) p ∙ none pending
    where
      none : (pending : List Due) → past x pending [] ≡ []
      none [] = refl
      none (first ∷ more) = on (first.variable == x) (none more)
        where
          on : (b : Bool) → past x more [] ≡ [] → (if b then [] else past x more []) ≡ []
          on true e = refl
          on false e = e

  left_over : rest_for x (pending ++ h.others) ≡ rest_for x pending ++ past x pending h.others
  left_over = rest_past x pending h.others

  -- behind a wait
  pub holds_waited : (env : Env) → Holds next frame (rest_for x pending) (behind_wait x pending left) (record { env = env; waits = without_wait x hold.waits; signals = hold.signals; next = hold.next })
  holds_waited env = record {
    begins = h.begins;
    some = h.some;
    others = past x pending h.others;
    waits = rest_due x hold.waits ∙ ap (rest_for x) h.waits ∙ left_over;
    covers_waits = past_covers frame h.others h.covers_waits;
    covers_signals = h.covers_signals;
    wait_cells =
        subst (λ (l : List Due). AreDistinct (due_cells l)) left_over
        (distinct_part (λ (one : Due). one.cell) (rest_for x (pending ++ h.others)) (pending ++ h.others) (rest_part x (pending ++ h.others)) h.wait_cells);
    signal_cells = h.signal_cells;
    low_waits = λ c i. h.low_waits c (has_part (λ (one : Due). one.cell) c (past x pending h.others) h.others (past_part x pending h.others) i);
    low_signals = h.low_signals;
  }

-- without a right it is for cell 0, which nobody holds
pub sees_nothing : (pending waits : List Due) (x : ℕ) → SeesWait pending waits x 0
sees_nothing pending waits x fewer p zero_not i = clash (has 0 (due_cells (pending ++ fewer))) i zero_not

-- Signalling.

module _ (next : ℕ) (frame : Bool) (left : Rights) (hold : Hold) (h : Holds next frame [] left hold) (x : ℕ) where
  signal_covered : (frame : Bool) (fewer : List Owed) → Covers Owed frame fewer (owing hold.signals) → (right : HeldSignal) → best_for x (owing hold.signals) ≡ Some (owed_of right)
      → has right.cell (owed_cells fewer) ≡ true → (o : Owed) × ((best_for x fewer ≡ Some o) × (o.cell ≡ right.cell))
  signal_covered true fewer p right e i = (owed_of right, (best_part x fewer (owing hold.signals) (owed_of right) p h.signal_cells e i, refl))
  signal_covered false fewer p right e i = absurd (none (subst (λ (l : List Owed). best_for x l ≡ Some (owed_of right)) p e))
    where
      none : best_for x [] ≡ Some (owed_of right) → ⊥
      none e = cc

  pub sees_signal : SeesSignal left.signals x (signal_cell (plan_signal x hold.signals))
  sees_signal fewer p zero_not i = on (plan_signal x hold.signals) refl i
    where
      on : (o : Option HeldSignal) → plan_signal x hold.signals ≡ o → has (signal_cell o) (owed_cells fewer) ≡ true → (found : Owed) × ((best_for x fewer ≡ Some found) × (found.cell ≡ signal_cell o))
      on None e i = clash (has 0 (owed_cells fewer)) i zero_not
      on (Some right) e i =
          signal_covered frame fewer (covers_less frame fewer left.signals (owing hold.signals) p h.covers_signals) right (best_held x hold.signals right e) i

  signals_cover : (c : ℕ) (frame : Bool) (held : List Owed) → Covers Owed frame left.signals held → Covers Owed frame (without_owed c left.signals) (without_owed c held)
  signals_cover c true held p = part_filter (λ (one : Owed). not (one.cell == c)) left.signals held p
  signals_cover c false held p = ap (without_owed c) p

  -- behind a signal
  pub holds_signalled : (c : ℕ) → Holds next frame [] (behind_signal c left) (record { env = hold.env; waits = hold.waits; signals = without_signal c hold.signals; next = hold.next })
  holds_signalled c =
      let fewer : Part Owed (without_owed c (owing hold.signals)) (owing hold.signals) = filter_part (λ (one : Owed). not (one.cell == c)) (owing hold.signals) in
      let same : owing (without_signal c hold.signals) ≡ without_owed c (owing hold.signals) = left_owed c hold.signals in
      record {
        begins = h.begins;
        some = h.some;
        others = h.others;
        waits = h.waits;
        covers_waits = h.covers_waits;
        covers_signals = subst (λ (l : List Owed). Covers Owed frame (without_owed c left.signals) l) (sym same) (signals_cover c frame (owing hold.signals) h.covers_signals);
        wait_cells = h.wait_cells;
        signal_cells =
            subst (λ (l : List Owed). AreDistinct (owed_cells l)) (sym same)
            (distinct_part (λ (one : Owed). one.cell) (without_owed c (owing hold.signals)) (owing hold.signals) fewer h.signal_cells);
        low_waits = h.low_waits;
        low_signals = λ d i.
            h.low_signals d (has_part (λ (one : Owed). one.cell) d (without_owed c (owing hold.signals)) (owing hold.signals) fewer
            (subst (λ (l : List Owed). has d (owed_cells l) ≡ true) same i));
      }

-- Forking.

none_enter : (k : ℕ) (ws : List Due) → waits_into k [] ws ≡ []
none_enter k [] = refl
none_enter k (w ∷ ws) = none_enter k ws

none_signal : (k : ℕ) (ss : List Owed) → signals_into k [] ss ≡ []
none_signal k [] = refl
none_signal k (s ∷ ss) = none_signal k ss

-- what moves of what is left is of what moves of all that is held; nothing moves in a called body
entering_waits : (frame : Bool) (moves : List Moved) (k : ℕ) (fewer held : List Due) → (frame ≡ false → moves ≡ []) → Covers Due frame fewer held
    → Part Due (waits_into k (handed moves) fewer) (waits_into k (handed moves) held)
entering_waits true moves k fewer held still p = part_filter (λ (right : Due). goes_to k (child_for false right.variable (handed moves))) fewer held p
entering_waits false moves k fewer held still p =
    subst (λ (m : List Moved). Part Due (waits_into k (handed m) fewer) (waits_into k (handed m) held)) (sym (still refl))
    (subst (λ (l : List Due). Part Due (waits_into k [] fewer) (waits_into k [] l)) (sym p) (subst (λ (l : List Due). Part Due l []) (sym (none_enter k fewer)) nothing))

entering_signals : (frame : Bool) (moves : List Moved) (k : ℕ) (fewer held : List Owed) → (frame ≡ false → moves ≡ []) → Covers Owed frame fewer held
    → Part Owed (signals_into k (handed moves) fewer) (signals_into k (handed moves) held)
entering_signals true moves k fewer held still p = part_filter (λ (right : Owed). goes_to k (child_for true right.variable (handed moves))) fewer held p
entering_signals false moves k fewer held still p =
    subst (λ (m : List Moved). Part Owed (signals_into k (handed m) fewer) (signals_into k (handed m) held)) (sym (still refl))
    (subst (λ (l : List Owed). Part Owed (signals_into k [] fewer) (signals_into k [] l)) (sym p) (subst (λ (l : List Owed). Part Owed l []) (sym (none_signal k fewer)) nothing))

staying_waits : (frame : Bool) (moves : List Handover) (left held : List Due) → Covers Due frame left held → Covers Due frame (waits_kept moves left) (waits_kept moves held)
staying_waits true moves left held p = part_filter (λ (right : Due). stays (child_for false right.variable moves)) left held p
staying_waits false moves left held p = ap (waits_kept moves) p

staying_signals : (frame : Bool) (moves : List Handover) (left held : List Owed) → Covers Owed frame left held → Covers Owed frame (signals_kept moves left) (signals_kept moves held)
staying_signals true moves left held p = part_filter (λ (right : Owed). stays (child_for true right.variable moves)) left held p
staying_signals false moves left held p = ap (signals_kept moves) p

-- own cells, and others that are below them
module _ (next : ℕ) (infos : List CellInfo) (k : ℕ) where
  abbrev pub own_due : List Due
  own_due = own_waits k (shared infos) (names_from next infos)

  abbrev pub own_owe : List Owed
  own_owe = own_signals k (shared infos) (names_from next infos)

  own_due_named : (c : ℕ) → has c (due_cells own_due) ≡ true → has c (names_from next infos) ≡ true
  own_due_named c h = used_named k c next infos (subst (λ (l : List ℕ). has c l ≡ true) (own_uses k next infos) h)

  own_owe_named : (c : ℕ) → has c (owed_cells own_owe) ≡ true → has c (names_from next infos) ≡ true
  own_owe_named c h = made_named k c next infos (subst (λ (l : List ℕ). has c l ≡ true) (own_makes k next infos) h)

  pub due_both : (ws : List Due) → AreDistinct (due_cells ws) → ((c : ℕ) → has c (due_cells ws) ≡ true → c < next) → AreDistinct (due_cells (own_due ++ ws))
  due_both ws d low =
      subst (λ (l : List ℕ). AreDistinct l) (sym (map_both (λ (one : Due). one.cell) own_due ws))
      (distinct_append (due_cells own_due) (due_cells ws) (subst (λ (l : List ℕ). AreDistinct l) (sym (own_uses k next infos)) (uses_distinct k next infos)) d
      (λ c h i. let high = named_low next infos c (own_due_named c h) in let l = low c i in absurd (omega (arith, high, l))))

  pub owe_both : (ss : List Owed) → AreDistinct (owed_cells ss) → ((c : ℕ) → has c (owed_cells ss) ≡ true → c < next) → AreDistinct (owed_cells (own_owe ++ ss))
  owe_both ss d low =
      subst (λ (l : List ℕ). AreDistinct l) (sym (map_both (λ (one : Owed). one.cell) own_owe ss))
      (distinct_append (owed_cells own_owe) (owed_cells ss) (subst (λ (l : List ℕ). AreDistinct l) (sym (own_makes k next infos)) (makes_distinct k next infos)) d
      (λ c h i. let high = named_low next infos c (own_owe_named c h) in let l = low c i in absurd (omega (arith, high, l))))

  pub due_low : (ws : List Due) → ((c : ℕ) → has c (due_cells ws) ≡ true → c < next) → (c : ℕ) → has c (due_cells (own_due ++ ws)) ≡ true → c < next + length infos
  due_low ws low c h = on (in_either c (due_cells own_due) (due_cells ws) (subst (λ (l : List ℕ). has c l ≡ true) (map_both (λ (one : Due). one.cell) own_due ws) h))
    where
      on : (has c (due_cells own_due) ≡ true) ⊎ (has c (due_cells ws) ≡ true) → c < next + length infos
      on (inl i) = names_high next infos c (own_due_named c i)
      on (inr i) = let l = low c i in omega (arith, l)

  pub owe_low : (ss : List Owed) → ((c : ℕ) → has c (owed_cells ss) ≡ true → c < next) → (c : ℕ) → has c (owed_cells (own_owe ++ ss)) ≡ true → c < next + length infos
  owe_low ss low c h = on (in_either c (owed_cells own_owe) (owed_cells ss) (subst (λ (l : List ℕ). has c l ≡ true) (map_both (λ (one : Owed). one.cell) own_owe ss) h))
    where
      on : (has c (owed_cells own_owe) ≡ true) ⊎ (has c (owed_cells ss) ≡ true) → c < next + length infos
      on (inl i) = names_high next infos c (own_owe_named c i)
      on (inr i) = let l = low c i in omega (arith, l)

module _ (next : ℕ) (frame : Bool) (left : Rights) (hold : Hold) (h : Holds next frame [] left hold) (info : SiteInfo) (still : frame ≡ false → info.moves ≡ []) where
  abbrev moving_in : ℕ → List Due
  moving_in k = waits_into k (given_of info) h.others

  abbrev owed_in : ℕ → List Owed
  owed_in k = signals_into k (given_of info) (owing hold.signals)

  in_waits : (k : ℕ) → Part Due (moving_in k) h.others
  in_waits k = filter_part (λ (right : Due). goes_to k (child_for false right.variable (given_of info))) h.others

  in_signals : (k : ℕ) → Part Owed (owed_in k) (owing hold.signals)
  in_signals k = filter_part (λ (right : Owed). goes_to k (child_for true right.variable (given_of info))) (owing hold.signals)

  kid_dues : (k : ℕ) (given : List Gift) → dues (plan_waits k given (named hold.next info.cells) ++ plan_waits_into k info.moves hold.waits) ≡ own_due next info.cells k ++ moving_in k
  kid_dues k given =
      map_both due_of (plan_waits k given (named hold.next info.cells)) (plan_waits_into k info.moves hold.waits)
      ∙ ap (λ (l : List Due). l ++ dues (plan_waits_into k info.moves hold.waits)) (own_dues k given hold.next info.cells ∙ ap (λ (n : ℕ). own_due n info.cells k) h.begins)
      ∙ ap (λ (l : List Due). own_due next info.cells k ++ l) (into_dues info.moves k hold.waits ∙ ap (waits_into k (given_of info)) h.waits)

  kid_owing : (k : ℕ) → owing (plan_signals k (named hold.next info.cells) ++ plan_signals_into k info.moves hold.signals) ≡ own_owe next info.cells k ++ owed_in k
  kid_owing k =
      map_both owed_of (plan_signals k (named hold.next info.cells)) (plan_signals_into k info.moves hold.signals)
      ∙ ap (λ (l : List Owed). l ++ owing (plan_signals_into k info.moves hold.signals)) (own_owed k hold.next info.cells ∙ ap (λ (n : ℕ). own_owe n info.cells k) h.begins)
      ∙ ap (λ (l : List Owed). own_owe next info.cells k ++ l) (into_owed info.moves k hold.signals)

  low_in : (k c : ℕ) → has c (due_cells (moving_in k)) ≡ true → c < next
  low_in k c i = h.low_waits c (has_part (λ (one : Due). one.cell) c (moving_in k) h.others (in_waits k) i)

  owed_low_in : (k c : ℕ) → has c (owed_cells (owed_in k)) ≡ true → c < next
  owed_low_in k c i = h.low_signals c (has_part (λ (one : Owed). one.cell) c (owed_in k) (owing hold.signals) (in_signals k) i)

  -- a conjunct, of all that may be left
  pub holds_kid : (fewer : Rights) → ArePart fewer left → (k : ℕ) (goal : Node) (given : List Gift)
      → Holds (next + length info.cells) true [] (child_rights (shared_of info) (given_of info) (names_from next info.cells) fewer k) (conjunct_hold info k goal hold given)
  holds_kid fewer p k goal given = record {
    begins = ap (λ (n : ℕ). n + length info.cells) h.begins;
    some = let s = h.some in omega (arith, s);
    others = own_due next info.cells k ++ moving_in k;
    waits = kid_dues k given;
    covers_waits =
        part_front (own_due next info.cells k) (waits_into k (given_of info) fewer.waits) (moving_in k)
        (entering_waits frame info.moves k fewer.waits h.others still (covers_less frame fewer.waits left.waits h.others p.0 h.covers_waits));
    covers_signals =
        subst (λ (l : List Owed). Part Owed (own_owe next info.cells k ++ signals_into k (given_of info) fewer.signals) l) (sym (kid_owing k))
        (part_front (own_owe next info.cells k) (signals_into k (given_of info) fewer.signals) (owed_in k)
        (entering_signals frame info.moves k fewer.signals (owing hold.signals) still (covers_less frame fewer.signals left.signals (owing hold.signals) p.1 h.covers_signals)));
    wait_cells = due_both next info.cells k (moving_in k) (distinct_part (λ (one : Due). one.cell) (moving_in k) h.others (in_waits k) h.wait_cells) (low_in k);
    signal_cells =
        subst (λ (l : List Owed). AreDistinct (owed_cells l)) (sym (kid_owing k))
        (owe_both next info.cells k (owed_in k) (distinct_part (λ (one : Owed). one.cell) (owed_in k) (owing hold.signals) (in_signals k) h.signal_cells) (owed_low_in k));
    low_waits = due_low next info.cells k (moving_in k) (low_in k);
    low_signals = λ c i. owe_low next info.cells k (owed_in k) (owed_low_in k) c (subst (λ (l : List Owed). has c (owed_cells l) ≡ true) (kid_owing k) i);
  }

  abbrev kept_here : List Due
  kept_here = waits_kept (given_of info) h.others

  abbrev owed_here : List Owed
  owed_here = signals_kept (given_of info) (owing hold.signals)

  here_waits : Part Due kept_here h.others
  here_waits = filter_part (λ (right : Due). stays (child_for false right.variable (given_of info))) h.others

  here_signals : Part Owed owed_here (owing hold.signals)
  here_signals = filter_part (λ (right : Owed). stays (child_for true right.variable (given_of info))) (owing hold.signals)

  low_here : (c : ℕ) → has c (due_cells kept_here) ≡ true → c < next
  low_here c i = h.low_waits c (has_part (λ (one : Due). one.cell) c kept_here h.others here_waits i)

  -- behind the fork
  pub holds_behind : (given : List Gift) → Holds next frame (own_due next info.cells 0) (behind_fork info left) (hold_behind info hold given)
  holds_behind given = record {
    begins = h.begins;
    some = h.some;
    others = kept_here;
    waits =
        map_both due_of (plan_waits 0 given (named hold.next info.cells)) (plan_waits_kept info.moves hold.waits)
        ∙ ap (λ (l : List Due). l ++ dues (plan_waits_kept info.moves hold.waits)) (own_dues 0 given hold.next info.cells ∙ ap (λ (n : ℕ). own_due n info.cells 0) h.begins)
        ∙ ap (λ (l : List Due). own_due next info.cells 0 ++ l) (kept_dues info.moves hold.waits ∙ ap (waits_kept (given_of info)) h.waits);
    covers_waits = staying_waits frame (given_of info) left.waits h.others h.covers_waits;
    covers_signals =
        subst (λ (l : List Owed). Covers Owed frame (signals_kept (given_of info) left.signals) l) (sym (kept_owed info.moves hold.signals))
        (staying_signals frame (given_of info) left.signals (owing hold.signals) h.covers_signals);
    wait_cells = due_both next info.cells 0 kept_here (distinct_part (λ (one : Due). one.cell) kept_here h.others here_waits h.wait_cells) low_here;
    signal_cells =
        subst (λ (l : List Owed). AreDistinct (owed_cells l)) (sym (kept_owed info.moves hold.signals))
        (distinct_part (λ (one : Owed). one.cell) owed_here (owing hold.signals) here_signals h.signal_cells);
    low_waits = low_here;
    low_signals = λ c i.
        h.low_signals c (has_part (λ (one : Owed). one.cell) c owed_here (owing hold.signals) here_signals
        (subst (λ (l : List Owed). has c (owed_cells l) ≡ true) (kept_owed info.moves hold.signals) i));
  }

  nothing_of : (moves : List Handover) (waits : List Due) (signals : List Owed) → waits ≡ [] → signals ≡ [] → moves_of moves (record { waits = waits; signals = signals }) ≡ []
  nothing_of moves waits signals e d =
      ap (λ (l : List Due). moves_of moves (record { waits = l; signals = signals })) e ∙ ap (λ (l : List Owed). moves_of moves (record { waits = []; signals = l })) d

  hands_as : (frame : Bool) (fewer : Rights) → (frame ≡ false → info.moves ≡ []) → Covers Due frame fewer.waits h.others → Covers Owed frame fewer.signals (owing hold.signals)
      → HandsOver (given_of info) (moves_of (given_of info) (record { waits = h.others; signals = owing hold.signals })) fewer
  hands_as true fewer none w s = part_hands (given_of info) (record { waits = h.others; signals = owing hold.signals }) fewer w s h.wait_cells h.signal_cells
  hands_as false fewer none w s =
      subst (λ (l : List Move). HandsOver (given_of info) l fewer) (sym (nothing_of (given_of info) h.others (owing hold.signals) w s))
      (subst (λ (m : List Moved). HandsOver (handed m) [] fewer) (sym (none refl)) (none_hand fewer))

  -- what moves
  pub hands_over : (fewer : Rights) → ArePart fewer left → HandsOver (given_of info) (moves_from info.moves hold) fewer
  hands_over fewer p =
      subst (λ (l : List Move). HandsOver (given_of info) l fewer)
      (sym (moves_same info.moves hold ∙ ap (λ (l : List Due). moves_of (given_of info) (record { waits = l; signals = owing hold.signals })) h.waits))
      (hands_as frame fewer still (covers_less frame fewer.waits left.waits h.others p.0 h.covers_waits)
      (covers_less frame fewer.signals left.signals (owing hold.signals) p.1 h.covers_signals))
