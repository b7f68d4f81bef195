-- Each cell that a script still holds, by name, is one of the rights that are left.
use Rattle.std.proofs.Common.{◌≡◌, ℕ, ◌+◌, ◌≤◌, ◌<◌, ◌⊎◌, inl, inr, Bool, true, false, not, List, [], ◌∷◌, ◌++◌, length, refl, sym, subst, ◌∙◌, arith}
use Rattle.std.specs.Prelude.{Some, ◌==◌}
use Rattle.merc_script.specs.declared.cells.Move.{Move}
use Rattle.merc_script.specs.Script.{Cell}
use Rattle.merc_core.specs.Rights.{has, without, numbers_of, moved, moved_to, made_by, used_by, signals_at, waits_at, signals_behind}
use Rattle.merc_core.specs.WellFormed.{AreDistinct, MoveFits, held_of, ForkFits}
use Rattle.merc_rights.specs.declared.sites.SiteInfo.{SiteInfo}
use Rattle.merc_board.specs.Rights.{Due, Owed, Rights, child_for, goes_to, stays, waits_into, signals_into, waits_kept, signals_kept, child_rights}
use Rattle.merc_plan.specs.Hold.{named}
use Rattle.merc_plan.proofs.NumberingLists.{without_in}
use Rattle.merc_plan.proofs.Sets.{clash, absent, first_in, in_left, in_right, in_either, moved_move, moved_of_to}
use Rattle.merc_plan.proofs.Givers.{named_low}
use Rattle.merc_plan.proofs.Judging.{makes, uses}
use Rattle.merc_carried.specs.Sharing.{shared_of, given_of}
use Rattle.merc_branch_laws.proofs.Parts.{Part, filter_part, has_part, distinct_part}
use Rattle.merc_branch_laws.proofs.Finding.{due_cells, owed_cells, first_for, rest_for, rest_part, rest_has, without_owed, left_has}
use Rattle.merc_branch_laws.proofs.Handing.{map_both, names_from, own_uses, own_makes, used_named, made_named, HandsOver}
use Rattle.merc_branch_laws.proofs.Looking.{past, past_part, rest_past, behind_wait, behind_signal, behind_fork}
use Rattle.merc_branch_laws.proofs.Holding.{own_due, own_owe, due_low, owe_low, owe_both}

pub record Kept (next : ℕ) (signals waits : List ℕ) (pending : List Due) (left : Rights) : Type 0 where
  pub some : 1 ≤ next
  pub has_waits : (c : ℕ) → has c waits ≡ true → has c (due_cells (pending ++ left.waits)) ≡ true
  pub has_signals : (c : ℕ) → has c signals ≡ true → has c (owed_cells left.signals) ≡ true
  pub no_wait : has 0 (due_cells (pending ++ left.waits)) ≡ false
  pub no_signal : has 0 (owed_cells left.signals) ≡ false
  pub low_waits : (c : ℕ) → has c (due_cells left.waits) ≡ true → c < next
  pub low_signals : (c : ℕ) → has c (owed_cells left.signals) ≡ true → c < next
  pub signal_cells : AreDistinct (owed_cells left.signals)

-- a root holds nothing
pub kept_none : (next : ℕ) → 1 ≤ next → Kept next [] [] [] (record { waits = []; signals = [] })
kept_none next s = record {
  some = s;
  has_waits = λ c h. absurd (cc (h));
  has_signals = λ c h. absurd (cc (h));
  no_wait = refl;
  no_signal = refl;
  low_waits = λ c h. absurd (cc (h));
  low_signals = λ c h. absurd (cc (h));
  signal_cells = tt;
}

due_in : (c : ℕ) (xs ys : List Due) → has c (due_cells (xs ++ ys)) ≡ true → (has c (due_cells xs) ≡ true) ⊎ (has c (due_cells ys) ≡ true)
due_in c xs ys h = in_either c (due_cells xs) (due_cells ys) (subst (λ (l : List ℕ). has c l ≡ true) (map_both (λ (one : Due). one.cell) xs ys) h)

in_due : (c : ℕ) (xs ys : List Due) → (has c (due_cells xs) ≡ true) ⊎ (has c (due_cells ys) ≡ true) → has c (due_cells (xs ++ ys)) ≡ true
in_due c xs ys h = subst (λ (l : List ℕ). has c l ≡ true) (sym (map_both (λ (one : Due). one.cell) xs ys)) (on h)
  where
    on : (has c (due_cells xs) ≡ true) ⊎ (has c (due_cells ys) ≡ true) → has c (due_cells xs ++ due_cells ys) ≡ true
    on (inl i) = in_left c (due_cells xs) (due_cells ys) i
    on (inr i) = in_right c (due_cells xs) (due_cells ys) i

owed_in : (c : ℕ) (xs ys : List Owed) → has c (owed_cells (xs ++ ys)) ≡ true → (has c (owed_cells xs) ≡ true) ⊎ (has c (owed_cells ys) ≡ true)
owed_in c xs ys h = in_either c (owed_cells xs) (owed_cells ys) (subst (λ (l : List ℕ). has c l ≡ true) (map_both (λ (one : Owed). one.cell) xs ys) h)

in_owed : (c : ℕ) (xs ys : List Owed) → (has c (owed_cells xs) ≡ true) ⊎ (has c (owed_cells ys) ≡ true) → has c (owed_cells (xs ++ ys)) ≡ true
in_owed c xs ys h = subst (λ (l : List ℕ). has c l ≡ true) (sym (map_both (λ (one : Owed). one.cell) xs ys)) (on h)
  where
    on : (has c (owed_cells xs) ≡ true) ⊎ (has c (owed_cells ys) ≡ true) → has c (owed_cells xs ++ owed_cells ys) ≡ true
    on (inl i) = in_left c (owed_cells xs) (owed_cells ys) i
    on (inr i) = in_right c (owed_cells xs) (owed_cells ys) i

other_than : (d c : ℕ) → d ≡ c → has d (c ∷ []) ≡ false → ⊥
other_than d c e h = clash (has c (c ∷ [])) (first_in c []) (subst (λ (n : ℕ). has n (c ∷ []) ≡ false) e h)

module _ (next : ℕ) (signals waits : List ℕ) (pending : List Due) (left : Rights) (k : Kept next signals waits pending left) (x c : ℕ) (found : first_for x (pending ++ left.waits) ≡ Some c) where
  same_rest : rest_for x (pending ++ left.waits) ≡ rest_for x pending ++ past x pending left.waits
  same_rest = rest_past x pending left.waits

  still_kept : (d : ℕ) → (d ≡ c) ⊎ (has d (due_cells (rest_for x (pending ++ left.waits))) ≡ true) → has d (c ∷ []) ≡ false → has d (due_cells (rest_for x pending ++ past x pending left.waits)) ≡ true
  still_kept d (inl e) n = absurd (other_than d c e n)
  still_kept d (inr i) n = subst (λ (l : List Due). has d (due_cells l) ≡ true) same_rest i

  -- behind a wait for this cell
  pub kept_waited : Kept next signals (without (c ∷ []) waits) (rest_for x pending) (behind_wait x pending left)
  kept_waited = record {
    some = k.some;
    has_waits = λ d h. let w = without_in d (c ∷ []) waits h in still_kept d (rest_has x c d (pending ++ left.waits) found (k.has_waits d w.0)) w.1;
    has_signals = k.has_signals;
    no_wait = absent 0 (due_cells (rest_for x pending ++ past x pending left.waits)) (λ h.
        clash (has 0 (due_cells (pending ++ left.waits)))
        (has_part (λ (one : Due). one.cell) 0 (rest_for x (pending ++ left.waits)) (pending ++ left.waits) (rest_part x (pending ++ left.waits))
        (subst (λ (l : List Due). has 0 (due_cells l) ≡ true) (sym same_rest) h)) k.no_wait);
    no_signal = k.no_signal;
    low_waits = λ d h. k.low_waits d (has_part (λ (one : Due). one.cell) d (past x pending left.waits) left.waits (past_part x pending left.waits) h);
    low_signals = k.low_signals;
    signal_cells = k.signal_cells;
  }

module _ (next : ℕ) (signals waits : List ℕ) (left : Rights) (k : Kept next signals waits [] left) (c : ℕ) where
  fewer_signals : Part Owed (without_owed c left.signals) left.signals
  fewer_signals = filter_part (λ (one : Owed). not (one.cell == c)) left.signals

  still_owed : (d : ℕ) → (d ≡ c) ⊎ (has d (owed_cells (without_owed c left.signals)) ≡ true) → has d (c ∷ []) ≡ false → has d (owed_cells (without_owed c left.signals)) ≡ true
  still_owed d (inl e) n = absurd (other_than d c e n)
  still_owed d (inr i) n = i

  -- behind a signal through this cell
  pub kept_signalled : Kept next (without (c ∷ []) signals) waits [] (behind_signal c left)
  kept_signalled = record {
    some = k.some;
    has_waits = k.has_waits;
    has_signals = λ d h. let w = without_in d (c ∷ []) signals h in still_owed d (left_has c d left.signals (k.has_signals d w.0)) w.1;
    no_wait = k.no_wait;
    no_signal = absent 0 (owed_cells (without_owed c left.signals)) (λ h.
        clash (has 0 (owed_cells left.signals)) (has_part (λ (one : Owed). one.cell) 0 (without_owed c left.signals) left.signals fewer_signals h) k.no_signal);
    low_waits = k.low_waits;
    low_signals = λ d h. k.low_signals d (has_part (λ (one : Owed). one.cell) d (without_owed c left.signals) left.signals fewer_signals h);
    signal_cells = distinct_part (λ (one : Owed). one.cell) (without_owed c left.signals) left.signals fewer_signals k.signal_cells;
  }

-- A fork: its own cells have these names, and each right that moves is held.
module _ (next : ℕ) (signals waits : List ℕ) (left : Rights) (k : Kept next signals waits [] left) (info : SiteInfo) (cells : List Cell) (moves : List Move)
    (used : (n : ℕ) → used_by n cells ≡ uses n (named next info.cells)) (made : (n : ℕ) → made_by n cells ≡ makes n (named next info.cells))
    (hands : HandsOver (given_of info) moves left) (steps limit count : ℕ) (fits : ForkFits steps signals waits limit cells moves count) where
  holds_wait : (c : ℕ) (m : Move) → m.cell ≡ c → m.signal ≡ false → has m.cell (held_of m.signal signals waits) ≡ true → has c waits ≡ true
  holds_wait c m e d h = subst (λ (n : ℕ). has n waits ≡ true) e (subst (λ (b : Bool). has m.cell (held_of b signals waits) ≡ true) d h)

  holds_signal : (c : ℕ) (m : Move) → m.cell ≡ c → m.signal ≡ true → has m.cell (held_of m.signal signals waits) ≡ true → has c signals ≡ true
  holds_signal c m e d h = subst (λ (n : ℕ). has n signals ≡ true) e (subst (λ (b : Bool). has m.cell (held_of b signals waits) ≡ true) d h)

  pub moved_waits_left : (c : ℕ) → has c (moved false moves) ≡ true → has c (due_cells left.waits) ≡ true
  moved_waits_left c h = let m = moved_move (MoveFits count signals waits) false c moves fits.each_move h in k.has_waits c (holds_wait c m.0 m.1.1.0 m.1.1.1 m.1.0.held)

  pub moved_signals_left : (c : ℕ) → has c (moved true moves) ≡ true → has c (owed_cells left.signals) ≡ true
  moved_signals_left c h = let m = moved_move (MoveFits count signals waits) true c moves fits.each_move h in k.has_signals c (holds_signal c m.0 m.1.1.0 m.1.1.1 m.1.0.held)

  own_due_high : (n c : ℕ) → has c (due_cells (own_due next info.cells n)) ≡ true → next ≤ c
  own_due_high n c h = named_low next info.cells c (used_named n c next info.cells (subst (λ (l : List ℕ). has c l ≡ true) (own_uses n next info.cells) h))

  own_owe_high : (n c : ℕ) → has c (owed_cells (own_owe next info.cells n)) ≡ true → next ≤ c
  own_owe_high n c h = named_low next info.cells c (made_named n c next info.cells (subst (λ (l : List ℕ). has c l ≡ true) (own_makes n next info.cells) h))

  zero_low : next ≤ 0 → ⊥
  zero_low l = let s = k.some in absurd (omega (arith, l, s))

  used_due : (n c : ℕ) → has c (used_by n cells) ≡ true → has c (due_cells (own_due next info.cells n)) ≡ true
  used_due n c h = subst (λ (l : List ℕ). has c l ≡ true) (used n ∙ sym (own_uses n next info.cells)) h

  made_owed : (n c : ℕ) → has c (made_by n cells) ≡ true → has c (owed_cells (own_owe next info.cells n)) ≡ true
  made_owed n c h = subst (λ (l : List ℕ). has c l ≡ true) (made n ∙ sym (own_makes n next info.cells)) h

  module _ (n : ℕ) where
    abbrev in_waits : List Due
    in_waits = waits_into n (given_of info) left.waits

    abbrev in_signals : List Owed
    in_signals = signals_into n (given_of info) left.signals

    in_waits_part : Part Due in_waits left.waits
    in_waits_part = filter_part (λ (right : Due). goes_to n (child_for false right.variable (given_of info))) left.waits

    in_signals_part : Part Owed in_signals left.signals
    in_signals_part = filter_part (λ (right : Owed). goes_to n (child_for true right.variable (given_of info))) left.signals

    low_in : (c : ℕ) → has c (due_cells in_waits) ≡ true → c < next
    low_in c h = k.low_waits c (has_part (λ (one : Due). one.cell) c in_waits left.waits in_waits_part h)

    low_owed_in : (c : ℕ) → has c (owed_cells in_signals) ≡ true → c < next
    low_owed_in c h = k.low_signals c (has_part (λ (one : Owed). one.cell) c in_signals left.signals in_signals_part h)

    kid_waits : (c : ℕ) → (has c (used_by n cells) ≡ true) ⊎ (has c (moved_to n false moves) ≡ true) → (has c (due_cells (own_due next info.cells n)) ≡ true) ⊎ (has c (due_cells in_waits) ≡ true)
    kid_waits c (inl h) = inl (used_due n c h)
    kid_waits c (inr h) = inr (hands.into_waits n c h (moved_waits_left c (moved_of_to n false c moves h)))

    kid_signals : (c : ℕ) → (has c (made_by n cells) ≡ true) ⊎ (has c (moved_to n true moves) ≡ true) → (has c (owed_cells (own_owe next info.cells n)) ≡ true) ⊎ (has c (owed_cells in_signals) ≡ true)
    kid_signals c (inl h) = inl (made_owed n c h)
    kid_signals c (inr h) = inr (hands.into_signals n c h (moved_signals_left c (moved_of_to n true c moves h)))

    no_due : (has 0 (due_cells (own_due next info.cells n)) ≡ true) ⊎ (has 0 (due_cells in_waits) ≡ true) → ⊥
    no_due (inl h) = zero_low (own_due_high n 0 h)
    no_due (inr h) = clash (has 0 (due_cells left.waits)) (has_part (λ (one : Due). one.cell) 0 in_waits left.waits in_waits_part h) k.no_wait

    no_owed : (has 0 (owed_cells (own_owe next info.cells n)) ≡ true) ⊎ (has 0 (owed_cells in_signals) ≡ true) → ⊥
    no_owed (inl h) = zero_low (own_owe_high n 0 h)
    no_owed (inr h) = clash (has 0 (owed_cells left.signals)) (has_part (λ (one : Owed). one.cell) 0 in_signals left.signals in_signals_part h) k.no_signal

    -- what a conjunct is dealt
    pub kept_kid : Kept (next + length info.cells) (signals_at n cells moves) (waits_at n cells moves) [] (child_rights (shared_of info) (given_of info) (names_from next info.cells) left n)
    kept_kid = record {
      some = let s = k.some in omega (arith, s);
      has_waits = λ c h. in_due c (own_due next info.cells n) in_waits (kid_waits c (in_either c (used_by n cells) (moved_to n false moves) h));
      has_signals = λ c h. in_owed c (own_owe next info.cells n) in_signals (kid_signals c (in_either c (made_by n cells) (moved_to n true moves) h));
      no_wait = absent 0 (due_cells (own_due next info.cells n ++ in_waits)) (λ h. no_due (due_in 0 (own_due next info.cells n) in_waits h));
      no_signal = absent 0 (owed_cells (own_owe next info.cells n ++ in_signals)) (λ h. no_owed (owed_in 0 (own_owe next info.cells n) in_signals h));
      low_waits = due_low next info.cells n in_waits low_in;
      low_signals = owe_low next info.cells n in_signals low_owed_in;
      signal_cells = owe_both next info.cells n in_signals (distinct_part (λ (one : Owed). one.cell) in_signals left.signals in_signals_part k.signal_cells) low_owed_in;
    }

  abbrev kept_here : List Due
  kept_here = waits_kept (given_of info) left.waits

  abbrev owed_here : List Owed
  owed_here = signals_kept (given_of info) left.signals

  here_part : Part Due kept_here left.waits
  here_part = filter_part (λ (right : Due). stays (child_for false right.variable (given_of info))) left.waits

  owed_part : Part Owed owed_here left.signals
  owed_part = filter_part (λ (right : Owed). stays (child_for true right.variable (given_of info))) left.signals

  behind_waits : (c : ℕ) → (has c (used_by 0 cells) ≡ true) ⊎ (has c (without (numbers_of cells) (without (moved false moves) waits)) ≡ true)
      → (has c (due_cells (own_due next info.cells 0)) ≡ true) ⊎ (has c (due_cells kept_here) ≡ true)
  behind_waits c (inl h) = inl (used_due 0 c h)
  behind_waits c (inr h) =
      let w = without_in c (moved false moves) waits (without_in c (numbers_of cells) (without (moved false moves) waits) h).0 in
      inr (hands.kept_waits c (k.has_waits c w.0) w.1)

  no_here : (has 0 (due_cells (own_due next info.cells 0)) ≡ true) ⊎ (has 0 (due_cells kept_here) ≡ true) → ⊥
  no_here (inl h) = zero_low (own_due_high 0 0 h)
  no_here (inr h) = clash (has 0 (due_cells left.waits)) (has_part (λ (one : Due). one.cell) 0 kept_here left.waits here_part h) k.no_wait

  -- what the branch has behind the fork
  pub kept_behind : Kept next (signals_behind signals moves) (used_by 0 cells ++ without (numbers_of cells) (without (moved false moves) waits)) (own_due next info.cells 0) (behind_fork info left)
  kept_behind = record {
    some = k.some;
    has_waits = λ c h. in_due c (own_due next info.cells 0) kept_here (behind_waits c (in_either c (used_by 0 cells) (without (numbers_of cells) (without (moved false moves) waits)) h));
    has_signals = λ c h. let w = without_in c (moved true moves) signals h in hands.kept_signals c (k.has_signals c w.0) w.1;
    no_wait = absent 0 (due_cells (own_due next info.cells 0 ++ kept_here)) (λ h. no_here (due_in 0 (own_due next info.cells 0) kept_here h));
    no_signal = absent 0 (owed_cells owed_here) (λ h.
        clash (has 0 (owed_cells left.signals)) (has_part (λ (one : Owed). one.cell) 0 owed_here left.signals owed_part h) k.no_signal);
    low_waits = λ c h. k.low_waits c (has_part (λ (one : Due). one.cell) c kept_here left.waits here_part h);
    low_signals = λ c h. k.low_signals c (has_part (λ (one : Owed). one.cell) c owed_here left.signals owed_part h);
    signal_cells = distinct_part (λ (one : Owed). one.cell) owed_here left.signals owed_part k.signal_cells;
  }
