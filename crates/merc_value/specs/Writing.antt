-- What the writer of values has still to do, on its stack.
use Rattle.std.specs.Prelude.{◌≡◌, ℕ, ◌+◌, ◌*◌, ◌<◌, ◌≤◌, false, List, [], ◌∷◌, ◌++◌, length, drop, Option, Some, None, slice_get, codes}
use Rattle.std.specs.Fmt.{signed_decimal}
use Rattle.merc_base.specs.Names.{cons_name, nil_name}
use Rattle.merc_base.specs.Characters.{double_quote_code}
use Rattle.merc_value.specs.Value.{Value, Values, Int, Text, Con, none, more}
use Rattle.merc_value.specs.Block.{CellData, IsBelow, word_values, cell_values, value_of}
use Rattle.merc_value.specs.Text.{text_at, quoted, name_text, is_nil, is_cons, value_text, tail_text, arguments_text, others_text}
use Rattle.merc_value.specs.declared.word.Word.{Word}
use Rattle.merc_value.specs.declared.shape.Shape.{Shape}
use Rattle.merc_value.specs.declared.shape.Shape.TheVariants.{Int as IntShape, Text as TextShape, Nil, Pair, Atom as AtomShape, Applied}
use Rattle.merc_value.specs.declared.writing.Todo.{Todo}
use Rattle.merc_value.specs.declared.writing.Todo.TheVariants.{Whole, Tail, Arguments, Others, Close}
use Rattle.merc_value.specs.declared.writing.Piece.{Piece}
use Rattle.merc_value.specs.declared.writing.Piece.TheVariants.{Nothing, EmptyList, OpenList, CloseList, OpenArguments, CloseArguments, Comma, Bar, Int as IntPiece, Text as TextPiece, Symbol}

-- the arguments of the cell at a place
abbrev pub arguments_of : Option CellData → List Word
arguments_of None = []
arguments_of (Some at) = at.arguments

abbrev pub arguments_at : List CellData → ℕ → List Word
arguments_at cells place = arguments_of (slice_get cells place)

-- the values of the arguments of the cell at a place, from this argument on
abbrev pub arguments_from : List CellData → ℕ → ℕ → Values
arguments_from cells place first = word_values (cell_values cells) (drop first (arguments_at cells place))

-- the value is one of this shape
abbrev pub HasShape : List CellData → Value → Shape → Type 0
HasShape cells value (IntShape number) = value ≡ Int number
HasShape cells value (TextShape name) = value ≡ Text name
HasShape cells value Nil = value ≡ Con nil_name none
HasShape cells value (Pair head tail) = value ≡ Con cons_name (more (value_of cells head) (more (value_of cells tail) none))
HasShape cells value (AtomShape symbol) = (value ≡ Con symbol none) × (is_nil symbol none ≡ false)
HasShape cells value (Applied symbol place) =
    (value ≡ Con symbol (arguments_from cells place 0))
    × (is_nil symbol (arguments_from cells place 0) ≡ false)
    × (is_cons symbol (arguments_from cells place 0) ≡ false)

-- the words in a shape lead below this place
abbrev pub IsShapeBelow : ℕ → Shape → Type 0
IsShapeBelow bound (IntShape number) = Unit {0}
IsShapeBelow bound (TextShape name) = Unit {0}
IsShapeBelow bound Nil = Unit {0}
IsShapeBelow bound (Pair head tail) = IsBelow bound head × IsBelow bound tail
IsShapeBelow bound (AtomShape symbol) = Unit {0}
IsShapeBelow bound (Applied symbol place) = place < bound

-- what is written for an entry of the stack
abbrev pub todo_text : List (List ℕ) → List CellData → Todo → List ℕ
todo_text names cells (Whole word) = value_text names (value_of cells word)
todo_text names cells (Tail word) = tail_text names (value_of cells word) ++ codes "]"
todo_text names cells (Arguments place) = arguments_text names (arguments_from cells place 0)
todo_text names cells (Others place first) = others_text names (arguments_from cells place first) ++ codes ")"
todo_text names cells Close = codes "]"

-- what is written for a stack, its last entry first
abbrev pub pending : List (List ℕ) → List CellData → List Todo → List ℕ
pending names cells [] = []
pending names cells (todo ∷ stack) = pending names cells stack ++ todo_text names cells todo

-- what an entry leads to lies below this place
abbrev pub IsTodoBelow : ℕ → Todo → Type 0
IsTodoBelow bound (Whole word) = IsBelow bound word
IsTodoBelow bound (Tail word) = IsBelow bound word
IsTodoBelow bound (Arguments place) = place < bound
IsTodoBelow bound (Others place first) = place < bound
IsTodoBelow bound Close = Unit {0}

abbrev pub AreTodosBelow : ℕ → List Todo → Type 0
AreTodosBelow bound [] = Unit {0}
AreTodosBelow bound (todo ∷ stack) = IsTodoBelow bound todo × AreTodosBelow bound stack

-- the text of a piece
abbrev pub piece_text : List (List ℕ) → Piece → List ℕ
piece_text names Nothing = []
piece_text names EmptyList = codes "[]"
piece_text names OpenList = codes "["
piece_text names CloseList = codes "]"
piece_text names OpenArguments = codes "("
piece_text names CloseArguments = codes ")"
piece_text names Comma = codes ", "
piece_text names Bar = codes " | "
piece_text names (IntPiece number) = signed_decimal number
piece_text names (TextPiece name) = quoted double_quote_code (text_at names name)
piece_text names (Symbol name) = name_text (text_at names name)

-- A piece is taken off a text that stands before what is pending. What remains of the text is pending then.
pub record Takes (cells : List CellData) (text : List (List ℕ) → List ℕ) (old new : List Todo) (piece : Piece) : Type 0 where
  pub whole : (names : List (List ℕ)) → piece_text names piece ++ pending names cells new ≡ text names ++ pending names cells old
  pub below : AreTodosBelow (length cells) old → AreTodosBelow (length cells) new
  pub few : (names : List (List ℕ)) → length new ≤ length old + 2 * length (piece_text names piece)

-- a front of a text is put behind the old text
pub record AppendsFront (text old new : List ℕ) : Type 0 where
  pub front : List ℕ
  pub rest : List ℕ
  pub whole : front ++ rest ≡ text
  pub appended : new ≡ old ++ front
