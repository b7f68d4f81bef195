-- Cells of a block that are copies of a heap's cells.
use Rattle.std.proofs.Common.{◌≡◌, ℕ, zero, suc, ◌+◌, ◌<◌, ◌≤◌, List, [], ◌∷◌, ◌++◌, length, map, Some, refl, sym, ap, subst, ◌∙◌, arith, ⊎_elim, slice_get, take, length-append}
use Rattle.std.specs.Prelude.{◌==◌}
use Rattle.std.specs.List.{All, position_or_len}
use Rattle.std.proofs.lemmas.Bool.{cases_lt}
use Rattle.std.proofs.lemmas.List.{map-append}
use Rattle.merc_value.specs.Value.{Con}
use Rattle.merc_value.specs.Block.{CellData, BlockData, AreLower, IsBelow, word_values, cell_values, value_of, no_value}
use Rattle.merc_value.specs.Writing.{arguments_at}
use Rattle.merc_value.specs.declared.word.Word.{Word}
use Rattle.merc_value.specs.declared.word.Word.TheVariants.{Int as IntWord, Text as TextWord, Atom as AtomWord, Cell as CellWord}
use Rattle.merc_value.proofs.Values.{All-first, All-rest, cell_value_at}
use Rattle.merc_value.proofs.BlockLaws.{found_below, value_of-with_cell, value_of-new_cell}
use Rattle.merc_heap.specs.Heap.{symbol_of}
use Rattle.merc_heap.proofs.EqualityLemmas.{value_applied}
use Rattle.merc_heap.proofs.MetLemmas.{arguments_lower}
use Rattle.merc_segments.specs.Segments.{AreWordsFor}
use Rattle.merc_segments.specs.Places.{LeadsInto, IsClosed, copy_of, AreCopies}
use Rattle.merc_segments.proofs.PlaceLemmas.{has_found, number_lower, found_number, take_next}
use Rattle.merc_segments.proofs.ThawLemmas.{All-none, All-both}

-- a cell has a constructor
pub cell_symbol : (heap : List CellData) → AreLower heap → (place : ℕ) → place < length heap → (symbol : ℕ) × (symbol_of (value_of heap (CellWord place)) ≡ Some symbol)
cell_symbol heap lower place within = by (found_below heap place within)
  where
    by : (at : CellData) × (slice_get heap place ≡ Some at) → (symbol : ℕ) × (symbol_of (value_of heap (CellWord place)) ≡ Some symbol)
    by found = (found.0.symbol, ap symbol_of (cell_value_at heap place found.0 no_value found.1 (lower place found.0 found.1)))

-- The next cell of the block, at this place of the heap.
module _ (heap : List CellData) (lower : AreLower heap) (places : List ℕ) (closed : IsClosed heap places) (block : List CellData) (place : ℕ) (next : slice_get places (length block) ≡ Some place) (copies : AreCopies heap places block) where
  pub next_within : place < length heap
  next_within = closed.within place (has_found places (length block) place next)

  copy_below : (word : Word) → LeadsInto places word → IsBelow place word → IsBelow (length block) (copy_of places word)
  copy_below (IntWord number) leads below = tt
  copy_below (TextWord name) leads below = tt
  copy_below (AtomWord symbol) leads below = tt
  copy_below (CellWord other) leads below =
      number_lower places closed.rises (length block) (position_or_len (λ o. o == other) places) other place next (found_number places other leads) below

  copies_below : (words : List Word) → All (LeadsInto places) words → All (IsBelow place) words → All (IsBelow (length block)) (map (copy_of places) words)
  copies_below [] leads below = All-none (IsBelow (length block))
  copies_below (word ∷ words) leads below =
      All-both (IsBelow (length block)) (copy_of places word) (map (copy_of places) words)
      (copy_below word (All-first (LeadsInto places) word words leads) (All-first (IsBelow place) word words below))
      (copies_below words (All-rest (LeadsInto places) word words leads) (All-rest (IsBelow place) word words below))

  pub fields_below : All (IsBelow (length block)) (map (copy_of places) (arguments_at heap place))
  fields_below = copies_below (arguments_at heap place) (closed.fields place (has_found places (length block) place next)) (arguments_lower heap lower place next_within)

  copy_value : (word : Word) → LeadsInto places word → IsBelow place word → value_of block (copy_of places word) ≡ value_of heap word
  copy_value (IntWord number) leads below = refl
  copy_value (TextWord name) leads below = refl
  copy_value (AtomWord symbol) leads below = refl
  copy_value (CellWord other) leads below =
      copies (position_or_len (λ o. o == other) places) other (copy_below (CellWord other) leads below) (found_number places other leads)

  copy_values : (words : List Word) → All (LeadsInto places) words → All (IsBelow place) words
      → word_values (cell_values block) (map (copy_of places) words) ≡ word_values (cell_values heap) words
  copy_values [] leads below = refl
  copy_values (word ∷ words) leads below =
      let first = copy_value word (All-first (LeadsInto places) word words leads) (All-first (IsBelow place) word words below) in
      let rest = copy_values words (All-rest (LeadsInto places) word words leads) (All-rest (IsBelow place) word words below) in
      cc (first, rest)

  module _ (symbol : ℕ) (is : symbol_of (value_of heap (CellWord place)) ≡ Some symbol) where
    abbrev pub copy : CellData
    copy = record { symbol = symbol; arguments = map (copy_of places) (arguments_at heap place) }

    copied_value : value_of (block ++ copy ∷ []) (CellWord (length block)) ≡ value_of heap (CellWord place)
    copied_value =
        value_of-new_cell (record { cells = block; roots = [] }) symbol (map (copy_of places) (arguments_at heap place))
        ∙ ap (Con symbol) (copy_values (arguments_at heap place) (closed.fields place (has_found places (length block) place next)) (arguments_lower heap lower place next_within))
        ∙ sym (value_applied heap lower (CellWord place) symbol next_within is)

    pub copies_next : AreCopies heap places (block ++ copy ∷ [])
    copies_next number other within found = ⊎_elim
        (λ (before : number < length block).
        value_of-with_cell (record { cells = block; roots = [] }) symbol (map (copy_of places) (arguments_at heap place)) (CellWord number) before
        ∙ copies number other before found)
        (λ (behind : length block ≤ number).
        let here : number ≡ length block = omega (arith, behind, within, length-append block (copy ∷ [])) in
        let both : Some other ≡ Some place = sym found ∙ ap (slice_get places) here ∙ next in
        let one : place ≡ other = cc in
        ap (λ (n : ℕ). value_of (block ++ copy ∷ []) (CellWord n)) here ∙ copied_value ∙ ap (λ (n : ℕ). value_of heap (CellWord n)) one)
        (cases_lt number (length block))

abbrev pub block_with : List CellData → List Word → BlockData
block_with cells roots = record { cells = cells; roots = roots }

number_within : (places : List ℕ) (number place : ℕ) → slice_get places number ≡ Some place → number < length places
number_within [] number place found = absurd (cc)
number_within (first ∷ places) zero place found = omega arith
number_within (first ∷ places) (suc number) place found = omega (arith, number_within places number place found)

-- one field more
pub copied_next : (places : List ℕ) (words : List Word) (k : ℕ) (word : Word) → slice_get words k ≡ Some word
    → map (copy_of places) (take k words) ++ copy_of places word ∷ [] ≡ map (copy_of places) (take (k + 1) words)
copied_next places words k word found = sym (ap (map (copy_of places)) (take_next words k word found) ∙ map-append (copy_of places) (take k words) (word ∷ []))

pub mapped_below : (bound : ℕ) (places : List ℕ) (words : List Word) → All (IsBelow bound) (map (copy_of places) words) → (k : ℕ) (word : Word) → slice_get words k ≡ Some word
    → IsBelow bound (copy_of places word)
mapped_below bound places [] below k word found = absurd (cc)
mapped_below bound places (first ∷ words) below zero word found =
    let one : first ≡ word = cc in
    subst (λ (w : Word). IsBelow bound (copy_of places w)) one (All-first (IsBelow bound) (copy_of places first) (map (copy_of places) words) below)
mapped_below bound places (first ∷ words) below (suc k) word found =
    mapped_below bound places words (All-rest (IsBelow bound) (copy_of places first) (map (copy_of places) words) below) k word found

-- The words for the roots, where all cells are copied.
module _ (heap : List CellData) (places : List ℕ) (block : List CellData) (copies : AreCopies heap places block) (count : length block ≡ length places) where
  root_below : (word : Word) → LeadsInto places word → IsBelow (length block) (copy_of places word)
  root_below (IntWord number) leads = tt
  root_below (TextWord name) leads = tt
  root_below (AtomWord symbol) leads = tt
  root_below (CellWord place) leads =
      omega (arith, count, number_within places (position_or_len (λ o. o == place) places) place (found_number places place leads))

  root_value : (word : Word) → LeadsInto places word → value_of block (copy_of places word) ≡ value_of heap word
  root_value (IntWord number) leads = refl
  root_value (TextWord name) leads = refl
  root_value (AtomWord symbol) leads = refl
  root_value (CellWord place) leads = copies (position_or_len (λ o. o == place) places) place (root_below (CellWord place) leads) (found_number places place leads)

  pub copied_roots : (words : List Word) → All (LeadsInto places) words → AreWordsFor block (map (value_of heap) words) (map (copy_of places) words)
  copied_roots [] leads = record { below = All-none (IsBelow (length block)); same = refl }
  copied_roots (word ∷ words) leads =
      let first = root_value word (All-first (LeadsInto places) word words leads) in
      let others = copied_roots words (All-rest (LeadsInto places) word words leads) in
      let rest = others.same in
      record {
        below = All-both (IsBelow (length block)) (copy_of places word) (map (copy_of places) words) (root_below word (All-first (LeadsInto places) word words leads)) others.below;
        same = cc (first, rest);
      }
