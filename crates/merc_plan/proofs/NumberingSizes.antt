-- A script by numbers ends as the script by names does, and has as many cells; their numbers stand in one block.
use Rattle.std.proofs.Common.{◌≡◌, ℕ, suc, ◌+◌, ◌≤◌, ◌<◌, inl, inr, true, List, [], ◌∷◌, ◌++◌, map, length, length-append, refl, ap, sym, subst, ◌∙◌, arith}
use Rattle.merc_script.specs.declared.outcome.Outcome.{Outcome}
use Rattle.merc_script.specs.declared.outcome.Outcome.TheVariants.{Ok as Fine, Raise, Limit, Starved, NoMemory}
use Rattle.merc_script.specs.declared.cells.Move.{Move}
use Rattle.merc_script.specs.Script.{Script, Ends, TickThen, WaitThen, SignalThen, ForkThen, Children, NoChild, Child, Cell, count, ends, end_of}
use Rattle.merc_core.specs.Rights.{has, numbers_of}
use Rattle.merc_core.specs.WellFormed.{cells_of, cells_in, Follows}
use Rattle.merc_plan.specs.BranchScript.{with_numbers, renamed_cell, width, all_width, numbered, all_numbered}
use Rattle.merc_plan.proofs.NumberingLists.{from_map}
use Rattle.merc_plan.proofs.NumberingCells.{numbers_renamed, cells_either, with_range}

pub numbered_end : (numbers : ℕ → ℕ) (first : ℕ) (S : Script) → end_of (numbered numbers first S) ≡ end_of S
numbered_end numbers first (Ends o) = refl
numbered_end numbers first (TickThen r) = numbered_end numbers first r
numbered_end numbers first (WaitThen c r) = numbered_end numbers first r
numbered_end numbers first (SignalThen c r) = numbered_end numbers first r
numbered_end numbers first (ForkThen l cells moves all r) = numbered_end (with_numbers cells first numbers) (first + length cells + all_width all) r

pub numbered_ends : (numbers : ℕ → ℕ) (first : ℕ) (all : Children) → ends (all_numbered numbers first all) ≡ ends all
numbered_ends numbers first NoChild = refl
numbered_ends numbers first (Child s more) =
    ap (λ o. o ∷ ends (all_numbered numbers (first + width s) more)) (numbered_end numbers first s) ∙ ap (λ l. end_of s ∷ l) (numbered_ends numbers (first + width s) more)

pub numbered_count : (numbers : ℕ → ℕ) (first : ℕ) (all : Children) → count (all_numbered numbers first all) ≡ count all
numbered_count numbers first NoChild = refl
numbered_count numbers first (Child s more) = ap (λ n. suc n) (numbered_count numbers (first + width s) more)

-- what follows a fork is an end on both sides
pub numbered_follows : (numbers : ℕ → ℕ) (first s : ℕ) (o : Outcome) (r : Script) → Follows s o r → Follows s o (numbered numbers first r)
numbered_follows numbers first s (Fine n) r h = h
numbered_follows numbers first s (Raise e n) r h = ap (numbered numbers first) h
numbered_follows numbers first s Limit r h = ap (numbered numbers first) h
numbered_follows numbers first s Starved r h = ap (numbered numbers first) h
numbered_follows numbers first s NoMemory r h = absurd h

length_mapped : (f : ℕ → ℕ) (cells : List Cell) → length (map (renamed_cell f) cells) ≡ length cells
length_mapped f [] = refl
length_mapped f (one ∷ cells) = ap (λ n. suc n) (length_mapped f cells)

three : (a b c : List Cell) → length (a ++ (b ++ c)) ≡ length a + (length b + length c)
three a b c = length-append a (b ++ c) ∙ ap (λ n. length a + n) (length-append b c)

mutual
  pub width_same : (numbers : ℕ → ℕ) (first : ℕ) (S : Script) → width (numbered numbers first S) ≡ width S
  width_same numbers first (Ends o) = refl
  width_same numbers first (TickThen r) = width_same numbers first r
  width_same numbers first (WaitThen c r) = width_same numbers first r
  width_same numbers first (SignalThen c r) = width_same numbers first r
  width_same numbers first (ForkThen l cells moves all r) =
      let inner = with_numbers cells first numbers in
      let a = length_mapped inner cells in
      let b = cells_same inner (first + length cells) all in
      let c = width_same inner (first + length cells + all_width all) r in
      let d = three (map (renamed_cell inner) cells) (cells_in (all_numbered inner (first + length cells) all)) (cells_of (numbered inner (first + length cells + all_width all) r)) in
      let e = three cells (cells_in all) (cells_of r) in
      omega (arith, a, b, c, d, e)

  cells_same : (numbers : ℕ → ℕ) (first : ℕ) (all : Children) → length (cells_in (all_numbered numbers first all)) ≡ length (cells_in all)
  cells_same numbers first NoChild = refl
  cells_same numbers first (Child s more) =
      let a = width_same numbers first s in
      let b = cells_same numbers (first + width s) more in
      let c = length-append (cells_of (numbered numbers first s)) (cells_in (all_numbered numbers (first + width s) more)) in
      let d = length-append (cells_of s) (cells_in more) in
      omega (arith, a, b, c, d)

pub width_in : (all : Children) → length (cells_in all) ≡ all_width all
width_in NoChild = refl
width_in (Child s more) = let a = width_in more in let b = length-append (cells_of s) (cells_in more) in omega (arith, a, b)

pub fork_width : (l : ℕ) (cells : List Cell) (moves : List Move) (all : Children) (r : Script) → width (ForkThen l cells moves all r) ≡ length cells + all_width all + width r
fork_width l cells moves all r = let a = three cells (cells_in all) (cells_of r) in let b = width_in all in omega (arith, a, b)

-- numbers from one on, so many
abbrev pub IsWithin : ℕ → ℕ → ℕ → Type 0
IsWithin first many n = (first ≤ n) × (n < first + many)

pub own_within : (cells : List Cell) (first : ℕ) (numbers : ℕ → ℕ) (n : ℕ) → has n (numbers_of (map (renamed_cell (with_numbers cells first numbers)) cells)) ≡ true → IsWithin first (length cells) n
own_within cells first numbers n h =
    let inner = with_numbers cells first numbers in
    let r = from_map inner n (numbers_of cells) (sym (ap (has n) (numbers_renamed inner cells)) ∙ h) in
    subst (λ m. IsWithin first (length cells) m) r.1.1 (with_range cells first numbers r.0 r.1.0)

mutual
  pub numbers_within : (numbers : ℕ → ℕ) (first : ℕ) (S : Script) (n : ℕ) → has n (numbers_of (cells_of (numbered numbers first S))) ≡ true → IsWithin first (width S) n
  numbers_within numbers first (Ends o) n h = absurd (cc)
  numbers_within numbers first (TickThen r) n h = numbers_within numbers first r n h
  numbers_within numbers first (WaitThen c r) n h = numbers_within numbers first r n h
  numbers_within numbers first (SignalThen c r) n h = numbers_within numbers first r n h
  numbers_within numbers first (ForkThen l cells moves all r) n h =
      let inner = with_numbers cells first numbers in
      let A = map (renamed_cell inner) cells in
      let B = cells_in (all_numbered inner (first + length cells) all) in
      let C = cells_of (numbered inner (first + length cells + all_width all) r) in
      let w = fork_width l cells moves all r in
      elim (cells_either n A (B ++ C) h) [
        | inl i ↦ (let a = (own_within cells first numbers n i).0 in let b = (own_within cells first numbers n i).1 in (a, omega (arith, b, w)))
        | inr i ↦ elim (cells_either n B C i) [
          | inl k ↦
              (let a = (all_within inner (first + length cells) all n k).0 in let b = (all_within inner (first + length cells) all n k).1 in
              (omega (arith, a), omega (arith, b, w)))
          | inr k ↦
              (let a = (numbers_within inner (first + length cells + all_width all) r n k).0 in let b = (numbers_within inner (first + length cells + all_width all) r n k).1 in
              (omega (arith, a), omega (arith, b, w)))
        ]
      ]

  pub all_within : (numbers : ℕ → ℕ) (first : ℕ) (all : Children) (n : ℕ) → has n (numbers_of (cells_in (all_numbered numbers first all))) ≡ true → IsWithin first (all_width all) n
  all_within numbers first NoChild n h = absurd (cc)
  all_within numbers first (Child s more) n h =
      elim (cells_either n (cells_of (numbered numbers first s)) (cells_in (all_numbered numbers (first + width s) more)) h) [
        | inl k ↦ (let a = (numbers_within numbers first s n k).0 in let b = (numbers_within numbers first s n k).1 in (a, omega (arith, b)))
        | inr k ↦ (let a = (all_within numbers (first + width s) more n k).0 in let b = (all_within numbers (first + width s) more n k).1 in (omega (arith, a), omega (arith, b)))
      ]
