-- Values as they lie in a block of memory: cells, each a constructor with a word for each argument, and the roots,
-- which are words. A word in a cell leads to lower cells alone, so that each word stands for exactly one value.
use Rattle.std.specs.Prelude.{◌≡◌, ℕ, ◌<◌, List, [], ◌∷◌, ◌++◌, length, map, Some, slice_get, slice_index_or}
use Rattle.std.specs.List.{All}
use Rattle.merc_base.specs.Names.{nil_name}
use Rattle.merc_value.specs.Value.{Value, Values, Int, Text, Con, none, more}
use Rattle.merc_value.specs.declared.word.Word.{Word}
use Rattle.merc_value.specs.declared.word.Word.TheVariants.{Int as IntWord, Text as TextWord, Atom as AtomWord, Cell as CellWord}

-- a cell: a constructor's name, and the words of its arguments
pub record CellData : Type 0 where
  pub symbol : ℕ
  pub arguments : List Word

-- a block: its cells by place, and its roots by number
pub record BlockData : Type 0 where
  pub cells : List CellData
  pub roots : List Word

-- what a word stands for, among these cells
mutual
  pub data StandsFor (cells : List CellData) : Word → Value → Type 0 where
    int : (number : _) → StandsFor cells (IntWord number) (Int number)
    text : (name : ℕ) → StandsFor cells (TextWord name) (Text name)
    atom : (symbol : ℕ) → StandsFor cells (AtomWord symbol) (Con symbol none)
    cell : (place : ℕ) (at : CellData) (arguments : Values) → slice_get cells place ≡ Some at
        → StandForAll cells at.arguments arguments → StandsFor cells (CellWord place) (Con at.symbol arguments)

  -- words stand for values, each for its own
  pub data StandForAll (cells : List CellData) : List Word → Values → Type 0 where
    nothing : StandForAll cells [] none
    both : (word : Word) (words : List Word) (value : Value) (values : Values)
        → StandsFor cells word value → StandForAll cells words values → StandForAll cells (word ∷ words) (more value values)

-- a word leads to no cell at this place or above
abbrev pub IsBelow : ℕ → Word → Type 0
IsBelow place (IntWord number) = Unit {0}
IsBelow place (TextWord name) = Unit {0}
IsBelow place (AtomWord symbol) = Unit {0}
IsBelow place (CellWord other) = other < place

-- each word in a cell leads to a lower one
abbrev pub AreLower : List CellData → Type 0
AreLower cells = (place : ℕ) (at : CellData) → slice_get cells place ≡ Some at → All (IsBelow place) at.arguments

-- each word of a block leads to a cell that is there, and in a cell to a lower one
pub record IsWhole (block : BlockData) : Type 0 where
  pub lower : AreLower block.cells
  pub within : All (IsBelow (length block.cells)) block.roots

-- the block with one cell more, which goes last
abbrev pub with_cell : BlockData → ℕ → List Word → BlockData
with_cell block symbol arguments = record {
  cells = block.cells ++ record { symbol = symbol; arguments = arguments } ∷ [];
  roots = block.roots;
}

-- the block with one root more, which goes last
abbrev pub with_root : BlockData → Word → BlockData
with_root block word = record { cells = block.cells; roots = block.roots ++ word ∷ [] }

-- what a word that leads past the cells would stand for; no word of a block does
abbrev pub no_value : Value
no_value = Con nil_name none

-- the value of a word, where these are the values of the cells
abbrev pub word_value : List Value → Word → Value
word_value values (IntWord number) = Int number
word_value values (TextWord name) = Text name
word_value values (AtomWord symbol) = Con symbol none
word_value values (CellWord place) = slice_index_or values place no_value

abbrev pub word_values : List Value → List Word → Values
word_values values [] = none
word_values values (word ∷ words) = more (word_value values word) (word_values values words)

-- the value of a cell, where these are the values of the cells below it
abbrev pub cell_value : List Value → CellData → Value
cell_value values at = Con at.symbol (word_values values at.arguments)

-- the values of cells, behind those of the cells before them
abbrev pub values_behind : List Value → List CellData → List Value
values_behind values [] = values
values_behind values (at ∷ cells) = values_behind (values ++ cell_value values at ∷ []) cells

-- the value of each cell, by place
unfoldable pub cell_values : List CellData → List Value
cell_values cells = values_behind [] cells

-- the value of a word, among these cells
abbrev pub value_of : List CellData → Word → Value
value_of cells word = word_value (cell_values cells) word

-- the value of each root, by number
abbrev pub root_values : BlockData → List Value
root_values block = map (value_of block.cells) block.roots
