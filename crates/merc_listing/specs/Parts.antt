-- The parts of a listing: slots, places, symbols, operators and modes, as they are written.
use Rattle.std.specs.Prelude.{ℕ, zero, suc, ◌+◌, List, [], ◌∷◌, ◌++◌, length, map, max, codes}
use Rattle.std.specs.List.{flat_map}
use Rattle.std.specs.Fmt.{decimal, signed_decimal}
use Rattle.merc_base.specs.Characters.{double_quote_code}
use Rattle.merc_tree.specs.declared.declarations.Arg.{Arg}
use Rattle.merc_tree.specs.declared.declarations.Arg.TheVariants.{Input, Output}
use Rattle.merc_goal_tree.specs.declared.goal.Comparison.{Comparison}
use Rattle.merc_goal_tree.specs.declared.goal.Comparison.TheVariants.{Less, Greater, AtMost, AtLeast}
use Rattle.merc_goal_tree.specs.declared.goal.Operation.{Operation}
use Rattle.merc_goal_tree.specs.declared.goal.Operation.TheVariants.{Add, Subtract, Multiply, Quotient, Div, Mod, Rem}
use Rattle.merc_goal_tree.specs.declared.goal.Symbol.{Symbol}
use Rattle.merc_goal_tree.specs.declared.goal.Symbol.TheVariants.{Constructor, Integer as IntegerSymbol, Text as TextSymbol}
use Rattle.merc_value.specs.Value.{none}
use Rattle.merc_value.specs.Text.{text_at, name_text, quoted, symbol_text as value_symbol_text}
use Rattle.merc_code.specs.declared.instruction.Instruction.{Instruction}
use Rattle.merc_code.specs.declared.instruction.Instruction.TheVariants.{Integer, Text, Copy, Build, Split, Literal, Test, Arithmetic, Compare, Raise, Jump, Switch, Try, Mark, Commit, Soften, Call, Return, Fail, Answer, Fork, Wait, Signal, Close}
use Rattle.merc_code.specs.Steps.{Code, ProcedureCode}

-- Slots and places.

abbrev pub slot : ℕ → List ℕ
slot number = codes "s" ++ decimal number

abbrev pub label : ℕ → List ℕ
label place = codes "L" ++ decimal place

-- The slots of a frame are its variables, of which the arguments come first, and behind them its marks.

-- the variables that an instruction names
abbrev pub named : Instruction → List ℕ
named (Integer to number) = to ∷ []
named (Text to text) = to ∷ []
named (Copy to from) = to ∷ from ∷ []
named (Build to symbol arguments) = to ∷ arguments
named (Split whole symbol arguments) = whole ∷ arguments
named (Literal whole symbol) = whole ∷ []
named (Test one other) = one ∷ other ∷ []
named (Arithmetic operation result one other) = result ∷ one ∷ other ∷ []
named (Compare comparison one other) = one ∷ other ∷ []
named (Raise text) = text ∷ []
named (Jump skipped) = []
named (Switch whole targets) = whole ∷ []
named (Try skipped) = []
named (Mark mark) = []
named (Commit mark) = []
named (Soften mark) = []
named (Call procedure arguments) = arguments
named Return = []
named Fail = []
named (Answer variables) = variables
named (Fork site) = []
named (Wait variable) = variable ∷ []
named (Signal variable) = variable ∷ []
named Close = []

-- the first number behind these
abbrev pub beyond : List ℕ → ℕ
beyond [] = zero
beyond (variable ∷ variables) = max (suc variable) (beyond variables)

abbrev pub beyond_named : Code → ℕ
beyond_named [] = zero
beyond_named (instruction ∷ rest) = max (beyond (named instruction)) (beyond_named rest)

-- the slot of a procedure's first mark
abbrev pub first_mark : ProcedureCode → ℕ
first_mark procedure = max (length procedure.places) (beyond_named procedure.code)

-- Symbols.

-- a constructor's name, the empty list's as in values
abbrev pub constructor_text : List (List ℕ) → ℕ → ℕ → List ℕ
constructor_text names name zero = value_symbol_text names name none
constructor_text names name (suc more) = name_text (text_at names name)

-- a text within quotes
abbrev pub string_text : List (List ℕ) → ℕ → List ℕ
string_text names text = quoted double_quote_code (text_at names text)

abbrev pub symbol_text : List (List ℕ) → Symbol → List ℕ
symbol_text names (Constructor name arity) = constructor_text names name arity ++ codes "/" ++ decimal arity
symbol_text names (IntegerSymbol number) = signed_decimal number
symbol_text names (TextSymbol text) = string_text names text

-- Operators.

abbrev pub operation_text : Operation → List ℕ
operation_text Add = codes "+"
operation_text Subtract = codes "-"
operation_text Multiply = codes "*"
operation_text Quotient = codes "//"
operation_text Div = codes "div"
operation_text Mod = codes "mod"
operation_text Rem = codes "rem"

abbrev pub comparison_text : Comparison → List ℕ
comparison_text Less = codes "<"
comparison_text Greater = codes ">"
comparison_text AtMost = codes "=<"
comparison_text AtLeast = codes ">="

-- Modes.

abbrev pub place_text : Arg → List ℕ
place_text Input = codes "in"
place_text Output = codes "out"

-- each behind a comma and a blank
abbrev pub more_places : List Arg → List ℕ
more_places [] = []
more_places (place ∷ places) = codes ", " ++ place_text place ++ more_places places

-- the places of a mode in brackets; nothing where there is none
abbrev pub places_text : List Arg → List ℕ
places_text [] = []
places_text (place ∷ places) = codes "(" ++ place_text place ++ more_places places ++ codes ")"
