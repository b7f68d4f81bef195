-- A script told by names that is formed is, told by numbers, a well-formed root script.
use Rattle.std.proofs.Common.{◌≡◌, ℕ, suc, ◌+◌, ◌≤◌, ◌<◌, ◌⊎◌, inl, inr, Bool, true, false, List, [], ◌∷◌, ◌++◌, map, length, if◌then◌else◌, nat_eq, Option, None, refl, ap, sym, subst, ◌∙◌, arith}
use Rattle.std.specs.List.{AllByRecursion}
use Rattle.merc_value.specs.Value.{Value}
use Rattle.merc_script.specs.declared.outcome.Outcome.{Outcome}
use Rattle.merc_script.specs.declared.outcome.Outcome.TheVariants.{Ok as Fine, Raise, Limit, Starved, NoMemory}
use Rattle.merc_script.specs.declared.cells.Move.{Move}
use Rattle.merc_script.specs.Script.{Script, Ends, TickThen, WaitThen, SignalThen, ForkThen, Children, NoChild, Child, Cell, count, ends}
use Rattle.merc_script.specs.Joining.{joined}
use Rattle.merc_core.specs.Rights.{has, without, numbers_of, moved, moved_to, made_by, used_by, signals_at, waits_at, signals_behind, waits_behind}
use Rattle.merc_core.specs.WellFormed.{AreDistinct, ForkFits, CellFits, MoveFits, held_of, EndsWell, Follows, gain, value_in, cells_of, cells_in, Formed, FormedAll, WellFormed}
use Rattle.merc_plan.specs.BranchScript.{with_numbers, renamed_cell, renamed_move, width, all_width, numbered, all_numbered, no_numbers}
use Rattle.merc_plan.proofs.Judging.{told_values, NamesFit, NamedFormed, AllNamedFormed}
use Rattle.merc_plan.proofs.NumberingLists.{has_one, in_left, in_right, in_either, map_in, has_map, map_same, without_map, all_mapped, without_in, without_keeps, distinct_map}
use Rattle.merc_plan.proofs.NumberingCells.{numbers_renamed, moved_renamed, used_renamed, signals_renamed, waits_renamed, among_all, IsOld, moved_old, moved_to_old, with_old, with_range, with_apart, value_renamed, distinct_cells, Agrees, agrees_left, agrees_right, cells_either}
use Rattle.merc_plan.proofs.NumberingSizes.{numbered_ends, numbered_count, numbered_follows, IsWithin, own_within, numbers_within, all_within}

-- no two cells of a script by numbers have one number

own_apart : (cells : List Cell) (first : ℕ) (numbers : ℕ → ℕ) (n later many : ℕ) → first + length cells ≤ later
    → has n (numbers_of (map (renamed_cell (with_numbers cells first numbers)) cells)) ≡ true → IsWithin later many n → ⊥
own_apart cells first numbers n later many far h w =
    let a = (own_within cells first numbers n h).1 in let b = w.0 in absurd (omega (arith, a, b, far))

behind_own : (l : ℕ) (cells : List Cell) (first : ℕ) (numbers : ℕ → ℕ) (all : Children) (r : Script) (n : ℕ)
    → has n (numbers_of (map (renamed_cell (with_numbers cells first numbers)) cells)) ≡ true
    → has n (numbers_of (cells_in (all_numbered (with_numbers cells first numbers) (first + length cells) all)
    ++ cells_of (numbered (with_numbers cells first numbers) (first + length cells + all_width all) r))) ≡ true → ⊥
behind_own l cells first numbers all r n h k =
    let inner = with_numbers cells first numbers in
    elim (cells_either n (cells_in (all_numbered inner (first + length cells) all)) (cells_of (numbered inner (first + length cells + all_width all) r)) k) [
      | inl i ↦ own_apart cells first numbers n (first + length cells) (all_width all) (omega arith) h (all_within inner (first + length cells) all n i)
      | inr i ↦ own_apart cells first numbers n (first + length cells + all_width all) (width r) (omega arith) h (numbers_within inner (first + length cells + all_width all) r n i)
    ]

behind_children : (numbers : ℕ → ℕ) (first : ℕ) (all : Children) (r : Script) (n : ℕ)
    → has n (numbers_of (cells_in (all_numbered numbers first all))) ≡ true → has n (numbers_of (cells_of (numbered numbers (first + all_width all) r))) ≡ true → ⊥
behind_children numbers first all r n h k =
    let a = (all_within numbers first all n h).1 in let b = (numbers_within numbers (first + all_width all) r n k).0 in absurd (omega (arith, a, b))

behind_child : (numbers : ℕ → ℕ) (first : ℕ) (s : Script) (more : Children) (n : ℕ)
    → has n (numbers_of (cells_of (numbered numbers first s))) ≡ true → has n (numbers_of (cells_in (all_numbered numbers (first + width s) more))) ≡ true → ⊥
behind_child numbers first s more n h k =
    let a = (numbers_within numbers first s n h).1 in let b = (all_within numbers (first + width s) more n k).0 in absurd (omega (arith, a, b))

own_distinct : (cells : List Cell) (first : ℕ) (numbers : ℕ → ℕ) → AreDistinct (numbers_of cells) → AreDistinct (numbers_of (map (renamed_cell (with_numbers cells first numbers)) cells))
own_distinct cells first numbers d =
    let inner = with_numbers cells first numbers in
    subst AreDistinct (sym (numbers_renamed inner cells)) (distinct_map inner (numbers_of cells) (λ c e h k same. with_apart cells first numbers c e h k same) d)

mutual
  pub numbered_distinct : (numbers : ℕ → ℕ) (first : ℕ) (S : Script) (value : ℕ → Option Value) (s : ℕ) (signals waits : List ℕ) → NamedFormed value s signals waits S
      → AreDistinct (numbers_of (cells_of (numbered numbers first S)))
  numbered_distinct numbers first (Ends o) value s signals waits f = tt
  numbered_distinct numbers first (TickThen r) value s signals waits f = numbered_distinct numbers first r value (suc s) signals waits f
  numbered_distinct numbers first (WaitThen c r) value s signals waits f = numbered_distinct numbers first r value s signals (without (c ∷ []) waits) f.1.1
  numbered_distinct numbers first (SignalThen c r) value s signals waits f = numbered_distinct numbers first r value s (without (c ∷ []) signals) waits f.1.1
  numbered_distinct numbers first (ForkThen l cells moves all r) value s signals waits f =
      let inner = with_numbers cells first numbers in
      let B = cells_in (all_numbered inner (first + length cells) all) in
      let C = cells_of (numbered inner (first + length cells + all_width all) r) in
      distinct_cells (map (renamed_cell inner) cells) (B ++ C) (own_distinct cells first numbers f.1.0.distinct)
      (distinct_cells B C (all_distinct inner (first + length cells) all (told_values value cells) cells moves 1 f.1.1.0)
      (numbered_distinct inner (first + length cells + all_width all) r (told_values value cells) (s + gain (joined l (ends all))) (signals_behind signals moves)
      (used_by 0 cells ++ without (numbers_of cells) (without (moved false moves) waits)) f.1.1.1.1)
      (λ n h k. behind_children inner (first + length cells) all r n h k))
      (λ n h k. behind_own l cells first numbers all r n h k)

  all_distinct : (numbers : ℕ → ℕ) (first : ℕ) (all : Children) (value : ℕ → Option Value) (cells : List Cell) (moves : List Move) (k : ℕ) → AllNamedFormed value cells moves k all
      → AreDistinct (numbers_of (cells_in (all_numbered numbers first all)))
  all_distinct numbers first NoChild value cells moves k f = tt
  all_distinct numbers first (Child s more) value cells moves k f =
      distinct_cells (cells_of (numbered numbers first s)) (cells_in (all_numbered numbers (first + width s) more))
      (numbered_distinct numbers first s value 0 (signals_at k cells moves) (waits_at k cells moves) f.0) (all_distinct numbers (first + width s) more value cells moves (suc k) f.1)
      (λ n h i. behind_child numbers first s more n h i)

-- a right to signal, or one to wait
abbrev pub IsHeld : List ℕ → List ℕ → ℕ → Type 0
IsHeld signals waits c = (has c signals ≡ true) ⊎ (has c waits ≡ true)

-- The numbers of what is held by name: no two have one, all are below the next, and their values are those by name. What may be waited for by name may be
-- waited for by number.
pub record AreTold (value values : ℕ → Option Value) (numbers : ℕ → ℕ) (next : ℕ) (signals waits waited : List ℕ) : Type 0 where
  pub apart : (c d : ℕ) → IsHeld signals waits c → IsHeld signals waits d → numbers c ≡ numbers d → c ≡ d
  pub low : (c : ℕ) → IsHeld signals waits c → numbers c < next
  pub same : (c : ℕ) → IsHeld signals waits c → values (numbers c) ≡ value c
  pub waits_too : (c : ℕ) → has c waits ≡ true → has (numbers c) waited ≡ true

told_later : (value values : ℕ → Option Value) (numbers : ℕ → ℕ) (next later : ℕ) (signals waits waited : List ℕ) → next ≤ later
    → AreTold value values numbers next signals waits waited → AreTold value values numbers later signals waits waited
told_later value values numbers next later signals waits waited far t = record {
  apart = t.apart;
  low = λ c h. let a = t.low c h in omega (arith, a, far);
  same = t.same;
  waits_too = t.waits_too;
}

told_wait : (value values : ℕ → Option Value) (numbers : ℕ → ℕ) (next : ℕ) (signals waits waited : List ℕ) (c : ℕ) → has c waits ≡ true
    → AreTold value values numbers next signals waits waited → AreTold value values numbers next signals (without (c ∷ []) waits) (without (numbers c ∷ []) waited)
told_wait value values numbers next signals waits waited c there t = record {
  apart = λ d e h i same. t.apart d e (held d h) (held e i) same;
  low = λ d h. t.low d (held d h);
  same = λ d h. t.same d (held d h);
  waits_too = λ d h. let i = without_in d (c ∷ []) waits h in
      without_keeps (numbers d) (numbers c ∷ []) waited
      (has_map numbers d (c ∷ []) (λ e k same. t.apart e d (subst (λ z. IsHeld signals waits z) (has_one e c k) (inr there)) (inr i.0) same) ∙ i.1) (t.waits_too d i.0);
}
  where
    held : (d : ℕ) → IsHeld signals (without (c ∷ []) waits) d → IsHeld signals waits d
    held d (inl h) = inl h
    held d (inr h) = inr (without_in d (c ∷ []) waits h).0

told_signal : (value values : ℕ → Option Value) (numbers : ℕ → ℕ) (next : ℕ) (signals waits waited : List ℕ) (c : ℕ)
    → AreTold value values numbers next signals waits waited → AreTold value values numbers next (without (c ∷ []) signals) waits waited
told_signal value values numbers next signals waits waited c t = record {
  apart = λ d e h i same. t.apart d e (held d h) (held e i) same;
  low = λ d h. t.low d (held d h);
  same = λ d h. t.same d (held d h);
  waits_too = t.waits_too;
}
  where
    held : (d : ℕ) → IsHeld (without (c ∷ []) signals) waits d → IsHeld signals waits d
    held d (inl h) = inl (without_in d (c ∷ []) signals h).0
    held d (inr h) = inr h

-- a fork's own cell, or one that is held from before
abbrev pub IsOwnOrOld : List Cell → List ℕ → List ℕ → ℕ → Type 0
IsOwnOrOld cells signals waits c = (has c (numbers_of cells) ≡ true) ⊎ ((has c (numbers_of cells) ≡ false) × IsHeld signals waits c)

-- what a fork's children and its parent hold
module _ (value values : ℕ → Option Value) (numbers : ℕ → ℕ) (first : ℕ) (signals waits waited : List ℕ) (t : AreTold value values numbers first signals waits waited) (cells : List Cell)
    (agrees : Agrees values (map (renamed_cell (with_numbers cells first numbers)) cells)) where
  abbrev inner : ℕ → ℕ
  inner c = with_numbers cells first numbers c

  inner_apart : (c d : ℕ) → IsOwnOrOld cells signals waits c → IsOwnOrOld cells signals waits d → inner c ≡ inner d → c ≡ d
  inner_apart c d (inl h) (inl k) same = with_apart cells first numbers c d h k same
  inner_apart c d (inl h) (inr k) same =
      let a = (with_range cells first numbers c h).0 in let b = with_old cells first numbers d k.0 in let e = t.low d k.1 in absurd (omega (arith, a, b, e, same))
  inner_apart c d (inr h) (inl k) same =
      let a = (with_range cells first numbers d k).0 in let b = with_old cells first numbers c h.0 in let e = t.low c h.1 in absurd (omega (arith, a, b, e, same))
  inner_apart c d (inr h) (inr k) same = t.apart c d h.1 k.1 (sym (with_old cells first numbers c h.0) ∙ same ∙ with_old cells first numbers d k.0)

  inner_low : (c : ℕ) → IsOwnOrOld cells signals waits c → inner c < first + length cells
  inner_low c (inl h) = (with_range cells first numbers c h).1
  inner_low c (inr h) = let b = with_old cells first numbers c h.0 in let e = t.low c h.1 in omega (arith, b, e)

  inner_same : (c : ℕ) → IsOwnOrOld cells signals waits c → values (inner c) ≡ told_values value cells c
  inner_same c (inl h) =
      agrees (inner c) (ap (has (inner c)) (numbers_renamed inner cells) ∙ map_in inner c (numbers_of cells) h)
      ∙ value_renamed inner c cells (λ d k same. with_apart cells first numbers d c k h same)
      ∙ sym (ap (λ b. if b then value_in cells c else value c) h)
  inner_same c (inr h) = ap values (with_old cells first numbers c h.0) ∙ t.same c h.1 ∙ sym (ap (λ b. if b then value_in cells c else value c) h.0)

  pub told_inside : (next : ℕ) (signals' waits' waited' : List ℕ) → first + length cells ≤ next → ((c : ℕ) → IsHeld signals' waits' c → IsOwnOrOld cells signals waits c)
      → ((c : ℕ) → has c waits' ≡ true → has (inner c) waited' ≡ true) → AreTold (told_values value cells) values inner next signals' waits' waited'
  told_inside next signals' waits' waited' far old too = record {
    apart = λ c d h k same. inner_apart c d (old c h) (old d k) same;
    low = λ c h. let a = inner_low c (old c h) in omega (arith, a, far);
    same = λ c h. inner_same c (old c h);
    waits_too = too;
  }

  module _ (moves : List Move) (n s l : ℕ) (fits : ForkFits s signals waits l cells moves n) (names : NamesFit signals cells moves) where
    move_old : (signal : Bool) (c : ℕ) → has c (moved signal moves) ≡ true → IsOld (held_of signal signals waits) (numbers_of cells) c
    move_old signal c h = moved_old n signals waits (numbers_of cells) signal c moves fits.each_move names.fresh h

    to_old : (k : ℕ) (signal : Bool) (c : ℕ) → has c (moved_to k signal moves) ≡ true → IsOld (held_of signal signals waits) (numbers_of cells) c
    to_old k signal c h = moved_to_old n signals waits (numbers_of cells) k signal c moves fits.each_move names.fresh h

    child_old : (k c : ℕ) → IsHeld (signals_at k cells moves) (waits_at k cells moves) c → IsOwnOrOld cells signals waits c
    child_old k c (inl h) = elim (in_either c (made_by k cells) (moved_to k true moves) h) [
      | inl i ↦ inl (among_all (λ one. nat_eq one.producer k) c cells i)
      | inr i ↦ inr ((to_old k true c i).1, inl (to_old k true c i).0)
    ]
    child_old k c (inr h) = elim (in_either c (used_by k cells) (moved_to k false moves) h) [
      | inl i ↦ inl (among_all (λ one. nat_eq one.consumer k) c cells i)
      | inr i ↦ inr ((to_old k false c i).1, inr (to_old k false c i).0)
    ]

    pub told_child : (next k : ℕ) → first + length cells ≤ next
        → AreTold (told_values value cells) values inner next (signals_at k cells moves) (waits_at k cells moves) (waits_at k (map (renamed_cell inner) cells) (map (renamed_move inner) moves))
    told_child next k far =
        told_inside next (signals_at k cells moves) (waits_at k cells moves) (waits_at k (map (renamed_cell inner) cells) (map (renamed_move inner) moves)) far (λ c h. child_old k c h)
        (λ c h. ap (has (inner c)) (waits_renamed inner k cells moves) ∙ map_in inner c (waits_at k cells moves) h)

    behind_old : (c : ℕ) → IsHeld (signals_behind signals moves) (used_by 0 cells ++ without (numbers_of cells) (without (moved false moves) waits)) c → IsOwnOrOld cells signals waits c
    behind_old c (inl h) = let i = (without_in c (moved true moves) signals h).0 in inr (names.apart c i, inl i)
    behind_old c (inr h) = elim (in_either c (used_by 0 cells) (without (numbers_of cells) (without (moved false moves) waits)) h) [
      | inl i ↦ inl (among_all (λ one. nat_eq one.consumer 0) c cells i)
      | inr i ↦ (let j = without_in c (numbers_of cells) (without (moved false moves) waits) i in inr (j.1, inr (without_in c (moved false moves) waits j.0).0))
    ]

    wait_left : (c : ℕ) → has c waits ≡ true → has c (moved false moves) ≡ false → has c (numbers_of cells) ≡ false → has (inner c) (without (moved false (map (renamed_move inner) moves)) waited) ≡ true
    wait_left c h here new =
        without_keeps (inner c) (moved false (map (renamed_move inner) moves)) waited
        (ap (has (inner c)) (moved_renamed inner false moves)
        ∙ has_map inner c (moved false moves) (λ d k same. inner_apart d c (inr ((move_old false d k).1, inr (move_old false d k).0)) (inr (new, inr h)) same) ∙ here)
        (subst (λ m. has m waited ≡ true) (sym (with_old cells first numbers c new)) (t.waits_too c h))

    pub told_behind : (next : ℕ) → first + length cells ≤ next
        → AreTold (told_values value cells) values inner next (signals_behind signals moves) (used_by 0 cells ++ without (numbers_of cells) (without (moved false moves) waits))
        (waits_behind waited (map (renamed_cell inner) cells) (map (renamed_move inner) moves))
    told_behind next far =
        told_inside next (signals_behind signals moves) (used_by 0 cells ++ without (numbers_of cells) (without (moved false moves) waits))
        (waits_behind waited (map (renamed_cell inner) cells) (map (renamed_move inner) moves)) far (λ c h. behind_old c h)
        (λ c h. elim (in_either c (used_by 0 cells) (without (numbers_of cells) (without (moved false moves) waits)) h) [
          | inl i ↦
              in_left (inner c) (used_by 0 (map (renamed_cell inner) cells)) (without (moved false (map (renamed_move inner) moves)) waited)
              (ap (has (inner c)) (used_renamed inner 0 cells) ∙ map_in inner c (used_by 0 cells) i)
          | inr i ↦
              (let j = without_in c (numbers_of cells) (without (moved false moves) waits) i in let o = without_in c (moved false moves) waits j.0 in
              in_right (inner c) (used_by 0 (map (renamed_cell inner) cells)) (without (moved false (map (renamed_move inner) moves)) waited) (wait_left c o.0 o.1 j.1))
        ])

    pub signals_same : signals_behind (map numbers signals) (map (renamed_move inner) moves) ≡ map inner (signals_behind signals moves)
    signals_same =
        ap (λ gone. without gone (map numbers signals)) (moved_renamed inner true moves)
        ∙ ap (without (map inner (moved true moves))) (map_same numbers inner signals (λ c h. sym (with_old cells first numbers c (names.apart c h))))
        ∙ without_map inner (moved true moves) signals (λ g x h k same. inner_apart g x (inr ((move_old true g h).1, inl (move_old true g h).0)) (inr (names.apart x k, inl k)) same)

    each_cell_fits : (many : ℕ) (some : List Cell) → AllByRecursion (CellFits many) some → AllByRecursion (CellFits many) (map (renamed_cell inner) some)
    each_cell_fits many [] all = tt
    each_cell_fits many (one ∷ some) all = (record { from_one = all.0.from_one; to_last = all.0.to_last; right = all.0.right }, each_cell_fits many some all.1)

    move_held : (one : Move) → has one.cell (numbers_of cells) ≡ false → has one.cell (held_of one.signal signals waits) ≡ true → has (inner one.cell) (held_of one.signal (map numbers signals) waited) ≡ true
    move_held one new held = subst (λ m. has m (held_of one.signal (map numbers signals) waited) ≡ true) (sym (with_old cells first numbers one.cell new)) (on one.signal one.cell held)
      where
        on : (b : Bool) (c : ℕ) → has c (held_of b signals waits) ≡ true → has (numbers c) (held_of b (map numbers signals) waited) ≡ true
        on true c h = map_in numbers c signals h
        on false c h = t.waits_too c h

    each_move_fits : (many : ℕ) (some : List Move) → AllByRecursion (MoveFits many signals waits) some → AllByRecursion (λ m. has m.cell (numbers_of cells) ≡ false) some
        → AllByRecursion (MoveFits many (map numbers signals) waited) (map (renamed_move inner) some)
    each_move_fits many [] all fresh = tt
    each_move_fits many (one ∷ some) all fresh =
        (record { from_one = all.0.from_one; to_last = all.0.to_last; held = move_held one fresh.0 all.0.held }, each_move_fits many some all.1 fresh.1)

    once : (signal : Bool) → AreDistinct (moved signal moves) → AreDistinct (moved signal (map (renamed_move inner) moves))
    once signal d =
        subst AreDistinct (sym (moved_renamed inner signal moves))
        (distinct_map inner (moved signal moves) (λ c e h k same. inner_apart c e (old signal c (move_old signal c h)) (old signal e (move_old signal e k)) same) d)
      where
        old : (signal : Bool) (c : ℕ) → IsOld (held_of signal signals waits) (numbers_of cells) c → IsOwnOrOld cells signals waits c
        old true c h = inr (h.1, inl h.0)
        old false c h = inr (h.1, inr h.0)

    pub fork_fits : (many : ℕ) → many ≡ n → ForkFits s (map numbers signals) waited l (map (renamed_cell inner) cells) (map (renamed_move inner) moves) many
    fork_fits many is = record {
      some = subst (λ m. 1 ≤ m) (sym is) fits.some;
      few = subst (λ m. m ≤ 64) (sym is) fits.few;
      early = fits.early;
      limited = fits.limited;
      each_cell = each_cell_fits many cells (subst (λ m. AllByRecursion (CellFits m) cells) (sym is) fits.each_cell);
      each_move = each_move_fits many moves (subst (λ m. AllByRecursion (MoveFits m signals waits) moves) (sym is) fits.each_move) names.fresh;
      signals_once = once true fits.signals_once;
      waits_once = once false fits.waits_once;
    }

-- what moves is none of the fork's own cells, so that it has its number from before
moves_alike : (cells : List Cell) (first : ℕ) (numbers : ℕ → ℕ) (moves : List Move) → AllByRecursion (λ m. has m.cell (numbers_of cells) ≡ false) moves
    → map (renamed_move (with_numbers cells first numbers)) moves ≡ map (renamed_move numbers) moves
moves_alike cells first numbers [] fresh = refl
moves_alike cells first numbers (one ∷ moves) fresh =
    ap (λ (n : ℕ). (record { cell = n; child = one.child; signal = one.signal }) ∷ map (renamed_move (with_numbers cells first numbers)) moves) (with_old cells first numbers one.cell fresh.0)
    ∙ ap (λ l. renamed_move numbers one ∷ l) (moves_alike cells first numbers moves fresh.1)

-- a fork by numbers, with these moves
abbrev IsFork : (ℕ → Option Value) → ℕ → List ℕ → List ℕ → ℕ → List Cell → Children → Script → List Move → Type 0
IsFork values s signals waits l cells all r moves =
    ForkFits s signals waits l cells moves (count all)
    × FormedAll values cells moves 1 all
    × Follows s (joined l (ends all)) r
    × Formed values (s + gain (joined l (ends all))) (signals_behind signals moves) (waits_behind waits cells moves) r

ends_well : (numbers : ℕ → ℕ) (o : Outcome) (signals : List ℕ) → EndsWell o signals → EndsWell o (map numbers signals)
ends_well numbers (Fine n) signals h = (ap (map numbers) h.0, h.1)
ends_well numbers (Raise e n) signals h = h
ends_well numbers Limit signals h = h
ends_well numbers Starved signals h = h
ends_well numbers NoMemory signals h = h

mutual
  pub formed_on : (values : ℕ → Option Value) (S : Script) (value : ℕ → Option Value) (s : ℕ) (numbers : ℕ → ℕ) (first : ℕ) (signals waits waited : List ℕ)
      → AreTold value values numbers first signals waits waited → Agrees values (cells_of (numbered numbers first S)) → NamedFormed value s signals waits S
      → Formed values s (map numbers signals) waited (numbered numbers first S)
  formed_on values (Ends o) value s numbers first signals waits waited t a f =
      (all_mapped (λ c. value c ≡ None) (λ c. values c ≡ None) numbers signals (λ c h none. t.same c (inl h) ∙ none) f.0, ends_well numbers o signals f.1)
  formed_on values (TickThen r) value s numbers first signals waits waited t a f = formed_on values r value (suc s) numbers first signals waits waited t a f
  formed_on values (WaitThen c r) value s numbers first signals waits waited t a f = (
    t.waits_too c f.0,
    λ none. ap (numbered numbers first) (f.1.0 (sym (t.same c (inr f.0)) ∙ none)),
    formed_on values r value s numbers first signals (without (c ∷ []) waits) (without (numbers c ∷ []) waited) (told_wait value values numbers first signals waits waited c f.0 t) a f.1.1,
  )
  formed_on values (SignalThen c r) value s numbers first signals waits waited t a f = (
    map_in numbers c signals f.0,
    λ none. f.1.0 (sym (t.same c (inl f.0)) ∙ none),
    subst (λ l. Formed values s l waited (numbered numbers first r))
        (sym (without_map numbers (c ∷ []) signals (λ g x h k same. t.apart g x (inl (subst (λ z. has z signals ≡ true) (has_one g c h) f.0)) (inl k) same)))
        (formed_on values r value s numbers first (without (c ∷ []) signals) waits waited (told_signal value values numbers first signals waits waited c t) a f.1.1),
  )
  formed_on values (ForkThen l cells moves all r) value s numbers first signals waits waited t a f =
      let inner' = with_numbers cells first numbers in
      let A = map (renamed_cell inner') cells in
      let B = cells_in (all_numbered inner' (first + length cells) all) in
      let C = cells_of (numbered inner' (first + length cells + all_width all) r) in
      let own = agrees_left values A (B ++ C) a in
      let others = agrees_right values A (B ++ C) (λ n h k. behind_own l cells first numbers all r n h k) a in
      let e : joined l (ends (all_numbered inner' (first + length cells) all)) ≡ joined l (ends all) = ap (joined l) (numbered_ends inner' (first + length cells) all) in
      subst (IsFork values s (map numbers signals) waited l A (all_numbered inner' (first + length cells) all) (numbered inner' (first + length cells + all_width all) r))
      (moves_alike cells first numbers moves f.1.0.fresh) (
        fork_fits value values numbers first signals waits waited t cells own moves (count all) s l f.0 f.1.0 (count (all_numbered inner' (first + length cells) all)) (numbered_count inner' (first + length cells) all),
        formed_all values all (told_values value cells) inner' (first + length cells) cells moves 1
            (λ k. told_child value values numbers first signals waits waited t cells own moves (count all) s l f.0 f.1.0 (first + length cells) k (omega arith)) (agrees_left values B C others) f.1.1.0,
        subst (λ o. Follows s o (numbered inner' (first + length cells + all_width all) r)) (sym e)
            (numbered_follows inner' (first + length cells + all_width all) s (joined l (ends all)) r f.1.1.1.0),
        subst (λ o. Formed values (s + gain o) (signals_behind (map numbers signals) (map (renamed_move inner') moves)) (waits_behind waited A (map (renamed_move inner') moves))
            (numbered inner' (first + length cells + all_width all) r)) (sym e)
            (subst (λ held. Formed values (s + gain (joined l (ends all))) held (waits_behind waited A (map (renamed_move inner') moves)) (numbered inner' (first + length cells + all_width all) r))
            (sym (signals_same value values numbers first signals waits waited t cells own moves (count all) s l f.0 f.1.0))
            (formed_on values r (told_values value cells) (s + gain (joined l (ends all))) inner' (first + length cells + all_width all) (signals_behind signals moves)
            (used_by 0 cells ++ without (numbers_of cells) (without (moved false moves) waits)) (waits_behind waited A (map (renamed_move inner') moves))
            (told_behind value values numbers first signals waits waited t cells own moves (count all) s l f.0 f.1.0 (first + length cells + all_width all) (omega arith))
            (agrees_right values B C (λ n h k. behind_children inner' (first + length cells) all r n h k) others) f.1.1.1.1)),
      )

  formed_all : (values : ℕ → Option Value) (all : Children) (value : ℕ → Option Value) (numbers : ℕ → ℕ) (first : ℕ) (cells : List Cell) (moves : List Move) (k : ℕ)
      → ((k : ℕ) → AreTold value values numbers first (signals_at k cells moves) (waits_at k cells moves) (waits_at k (map (renamed_cell numbers) cells) (map (renamed_move numbers) moves)))
      → Agrees values (cells_in (all_numbered numbers first all)) → AllNamedFormed value cells moves k all
      → FormedAll values (map (renamed_cell numbers) cells) (map (renamed_move numbers) moves) k (all_numbered numbers first all)
  formed_all values NoChild value numbers first cells moves k told a f = tt
  formed_all values (Child s more) value numbers first cells moves k told a f =
      let waited = waits_at k (map (renamed_cell numbers) cells) (map (renamed_move numbers) moves) in (
        subst (λ held. Formed values 0 held waited (numbered numbers first s)) (sym (signals_renamed numbers k cells moves))
            (formed_on values s value 0 numbers first (signals_at k cells moves) (waits_at k cells moves) waited (told k)
            (agrees_left values (cells_of (numbered numbers first s)) (cells_in (all_numbered numbers (first + width s) more)) a) f.0),
        formed_all values more value numbers (first + width s) cells moves (suc k)
            (λ j. told_later value values numbers first (first + width s) (signals_at j cells moves) (waits_at j cells moves) (waits_at j (map (renamed_cell numbers) cells) (map (renamed_move numbers) moves))
            (omega arith) (told j))
            (agrees_right values (cells_of (numbered numbers first s)) (cells_in (all_numbered numbers (first + width s) more)) (λ n h i. behind_child numbers first s more n h i) a) f.1,
      )

none_told : (value values : ℕ → Option Value) (numbers : ℕ → ℕ) → AreTold value values numbers 0 [] [] []
none_told value values numbers = record {
  apart = λ c d h k same. absurd (none c h);
  low = λ c h. absurd (none c h);
  same = λ c h. absurd (none c h);
  waits_too = λ c h. absurd (cc);
}
  where
    none : (c : ℕ) → IsHeld [] [] c → ⊥
    none c (inl h) = absurd (cc)
    none c (inr h) = absurd (cc)

pub numbered_formed : (S : Script) → NamedFormed (λ c. None) 0 [] [] S → WellFormed (numbered no_numbers 0 S)
numbered_formed S f = record {
  distinct = numbered_distinct no_numbers 0 S (λ c. None) 0 [] [] f;
  formed =
      let values = value_in (cells_of (numbered no_numbers 0 S)) in
      formed_on values S (λ c. None) 0 no_numbers 0 [] [] [] (none_told (λ c. None) values no_numbers) (λ n h. refl) f;
}
