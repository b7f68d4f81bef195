-- Each word of a whole block stands for exactly one value.
use Rattle.std.proofs.Common.{◌≡◌, ℕ, zero, suc, ◌<◌, ◌≤◌, List, [], ◌∷◌, ◌++◌, length, Some, get_or, refl, sym, ap, subst, ◌∙◌, arith, slice_get}
use Rattle.std.specs.List.{All}
use Rattle.merc_value.specs.Value.{Value, Values, Con}
use Rattle.merc_value.specs.Block.{CellData, BlockData, StandsFor, StandForAll, int, text, atom, cell, nothing, both, IsBelow, AreLower, IsWhole, word_value, word_values, cell_values, value_of, with_cell, no_value}
use Rattle.merc_value.specs.declared.word.Word.{Word}
use Rattle.merc_value.specs.declared.word.Word.TheVariants.{Int as IntWord, Text as TextWord, Atom as AtomWord, Cell as CellWord}
use Rattle.merc_value.proofs.Values.{get_or-append_front, get_or-append_last, All-first, All-rest, cell_value_at, cell_values-snoc, length-cell_values}

mutual
  only_value : (cells : List CellData) → AreLower cells → (word : Word) (value : Value) → StandsFor cells word value → value ≡ value_of cells word
  only_value cells lower _ _ (int number) = refl
  only_value cells lower _ _ (text name) = refl
  only_value cells lower _ _ (atom symbol) = refl
  only_value cells lower _ _ (cell place at arguments found each) =
      ap (Con at.symbol) (only_values cells lower at.arguments arguments each) ∙ sym (cell_value_at cells place at no_value found (lower place at found))

  only_values : (cells : List CellData) → AreLower cells → (words : List Word) (values : Values) → StandForAll cells words values → values ≡ word_values (cell_values cells) words
  only_values cells lower _ _ nothing = refl
  only_values cells lower _ _ (both word words value values first rest) =
      let one = only_value cells lower word value first in
      let others = only_values cells lower words values rest in
      cc (one, others)

pub found_below : (cells : List CellData) (place : ℕ) → place < length cells → (at : CellData) × (slice_get cells place ≡ Some at)
found_below [] place below = absurd (omega (arith, below))
found_below (at ∷ cells) zero below = (at, refl)
found_below (at ∷ cells) (suc place) below = found_below cells place (omega (arith, below))

pub found_within : (cells : List CellData) (place : ℕ) (at : CellData) → slice_get cells place ≡ Some at → place < length cells
found_within [] place at found = absurd (cc)
found_within (first ∷ cells) zero at found = omega arith
found_within (first ∷ cells) (suc place) at found = omega (arith, found_within cells place at found)

pub raised : (place bound : ℕ) → place ≤ bound → (word : Word) → IsBelow place word → IsBelow bound word
raised place bound under (IntWord number) below = tt
raised place bound under (TextWord name) below = tt
raised place bound under (AtomWord symbol) below = tt
raised place bound under (CellWord other) below = omega (arith, below, under)

pub all_raised : (place bound : ℕ) → place ≤ bound → (words : List Word) → All (IsBelow place) words → All (IsBelow bound) words
all_raised place bound under words below k d within = raised place bound under (get_or words k d) (below k d within)

module _ (cells : List CellData) (lower : AreLower cells) where
  each_stands : (bound : ℕ) → ((word : Word) → IsBelow bound word → StandsFor cells word (value_of cells word))
      → (words : List Word) → All (IsBelow bound) words → StandForAll cells words (word_values (cell_values cells) words)
  each_stands bound stands [] below = nothing
  each_stands bound stands (word ∷ words) below =
      both word words _ _ (stands word (All-first (IsBelow bound) word words below)) (each_stands bound stands words (All-rest (IsBelow bound) word words below))

  -- by induction on a place above all that the word leads to
  stands_below : (bound : ℕ) → bound ≤ length cells → (word : Word) → IsBelow bound word → StandsFor cells word (value_of cells word)
  stands_below bound within (IntWord number) below = int number
  stands_below bound within (TextWord name) below = text name
  stands_below bound within (AtomWord symbol) below = atom symbol
  stands_below zero within (CellWord place) below = absurd (omega (arith, below))
  stands_below (suc bound) within (CellWord place) below =
      let found : (at : CellData) × (slice_get cells place ≡ Some at) = found_below cells place (omega (arith, below, within)) in
      at_cell bound place found.0 found.1 (omega (arith, below)) (stands_below bound (omega (arith, within)))
    where
      at_cell : (bound place : ℕ) (at : CellData) → slice_get cells place ≡ Some at → place ≤ bound
          → ((word : Word) → IsBelow bound word → StandsFor cells word (value_of cells word)) → StandsFor cells (CellWord place) (value_of cells (CellWord place))
      at_cell bound place at found under stands =
          subst (StandsFor cells (CellWord place)) (sym (cell_value_at cells place at no_value found (lower place at found)))
          (cell place at _ found (each_stands bound stands at.arguments (all_raised place bound under at.arguments (lower place at found))))

-- A word of a whole block stands for its value ..
pub stands_for : (block : BlockData) → IsWhole block → (word : Word) → IsBelow (length block.cells) word → StandsFor block.cells word (value_of block.cells word)
stands_for block whole word below = stands_below block.cells whole.lower (length block.cells) (omega arith) word below

-- .. and for no other one.
pub stands_for_one : (block : BlockData) → IsWhole block → (word : Word) (value : Value) → StandsFor block.cells word value → value ≡ value_of block.cells word
stands_for_one block whole word value stands = only_value block.cells whole.lower word value stands

value_kept : (values : List Value) (next : Value) (word : Word) → IsBelow (length values) word → word_value (values ++ next ∷ []) word ≡ word_value values word
value_kept values next (IntWord number) below = refl
value_kept values next (TextWord name) below = refl
value_kept values next (AtomWord symbol) below = refl
value_kept values next (CellWord place) below = get_or-append_front values (next ∷ []) place no_value below

-- Where a cell is put behind the others, each word keeps its value ..
pub value_of-with_cell : (block : BlockData) (symbol : ℕ) (arguments : List Word) (word : Word) → IsBelow (length block.cells) word
    → value_of (with_cell block symbol arguments).cells word ≡ value_of block.cells word
value_of-with_cell block symbol arguments word below =
    let values = cell_values-snoc block.cells (record { symbol = symbol; arguments = arguments }) in
    ap (λ (vs : List Value). word_value vs word) values
    ∙ value_kept (cell_values block.cells) _ word (subst (λ (n : ℕ). IsBelow n word) (sym (length-cell_values block.cells)) below)

-- .. and the new cell's word has its constructor with the arguments' values.
pub value_of-new_cell : (block : BlockData) (symbol : ℕ) (arguments : List Word)
    → value_of (with_cell block symbol arguments).cells (CellWord (length block.cells)) ≡ Con symbol (word_values (cell_values block.cells) arguments)
value_of-new_cell block symbol arguments =
    let values = cell_values-snoc block.cells (record { symbol = symbol; arguments = arguments }) in
    ap (λ (vs : List Value). get_or vs (length block.cells) no_value) values
    ∙ ap (λ (n : ℕ). get_or (cell_values block.cells ++ Con symbol (word_values (cell_values block.cells) arguments) ∷ []) n no_value) (sym (length-cell_values block.cells))
    ∙ get_or-append_last (cell_values block.cells) _ no_value
