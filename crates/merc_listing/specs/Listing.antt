-- The listing of compiled code: each procedure of the file in each of its modes, with the clauses of its predicate and with its instructions.
use Rattle.std.specs.Prelude.{ℕ, zero, suc, ◌+◌, List, [], ◌∷◌, ◌++◌, map, Option, Some, None, slice_get, codes}
use Rattle.std.specs.List.{flat_map}
use Rattle.std.specs.Fmt.{decimal, signed_decimal}
use Rattle.merc_tree.specs.declared.declarations.Arg.{Arg}
use Rattle.merc_tree.specs.declared.declarations.ModeDecl.{ModeDecl}
use Rattle.merc_tree.specs.declared.declarations.PredDecl.{PredDecl}
use Rattle.merc_graded_tree.specs.declared.basic.Procedure.{Procedure}
use Rattle.merc_value.specs.Text.{text_at, name_text}
use Rattle.merc_code.specs.declared.instruction.Instruction.{Instruction}
use Rattle.merc_code.specs.declared.instruction.Instruction.TheVariants.{Integer, Text, Copy, Build, Split, Literal, Test, Arithmetic, Compare, Raise, Jump, Switch, Try, Mark, Commit, Soften, Call, Return, Fail, Answer, Fork, Wait, Signal, Close}
use Rattle.merc_code.specs.declared.instruction.Target.{Target}
use Rattle.merc_code.specs.Steps.{Code, ProcedureCode}
use Rattle.merc_last_calls.specs.LastCalls.{outputs}
use Rattle.merc_live.specs.Reads.{inputs}
use Rattle.merc_listing.specs.Parts.{slot, label, first_mark, string_text, symbol_text, operation_text, comparison_text, places_text}

abbrev pub line_end : List ℕ
line_end = codes "\n"

-- each of these texts behind a blank
abbrev pub spaced : List (List ℕ) → List ℕ
spaced texts = flat_map (λ text. codes " " ++ text) texts

abbrev pub word : Instruction → List ℕ
word (Integer to number) = codes "int"
word (Text to text) = codes "text"
word (Copy to from) = codes "copy"
word (Build to symbol arguments) = codes "build"
word (Split whole symbol arguments) = codes "split"
word (Literal whole symbol) = codes "literal"
word (Test one other) = codes "test"
word (Arithmetic operation result one other) = codes "arith"
word (Compare comparison one other) = codes "compare"
word (Raise text) = codes "raise"
word (Jump skipped) = codes "jump"
word (Switch whole targets) = codes "switch"
word (Try skipped) = codes "try"
word (Mark mark) = codes "mark"
word (Commit mark) = codes "commit"
word (Soften mark) = codes "soften"
word (Call procedure arguments) = codes "call"
word Return = codes "return"
word Fail = codes "fail"
word (Answer variables) = codes "answer"
word (Fork site) = codes "fork"
word (Wait variable) = codes "wait"
word (Signal variable) = codes "signal"
word Close = codes "close"

-- the place behind so many of the instructions that follow one
abbrev pub behind : ℕ → ℕ → List ℕ
behind place skipped = label (suc (place + skipped))

-- A predicate in one of its modes.

abbrev pub mode_in : Option PredDecl → ℕ → Option ModeDecl
mode_in None mode = None
mode_in (Some declared) mode = slice_get declared.modes mode

-- no places for a mode that is not there
abbrev pub places_in : Option ModeDecl → List Arg
places_in None = []
places_in (Some mode) = mode.args

-- no text for a predicate that is not there
abbrev pub name_in : List (List ℕ) → Option PredDecl → List ℕ
name_in names None = []
name_in names (Some declared) = text_at names declared.name

abbrev pub mode_text : List ℕ → List Arg → List ℕ
mode_text name places = name_text name ++ places_text places

-- the slots of a call's inputs, and behind a colon those of its outputs
abbrev pub call_slots : List Arg → List ℕ → List (List ℕ)
call_slots places arguments = map slot (inputs places arguments) ++ codes ":" ∷ map slot (outputs places arguments)

abbrev pub places_of : List PredDecl → Procedure → List Arg
places_of predicates procedure = places_in (mode_in (slice_get predicates procedure.predicate) procedure.mode)

-- Given are the texts of names and the predicates by their numbers.
module _ (names : List (List ℕ)) (predicates : List PredDecl) where
  abbrev pub procedure_text : Procedure → List ℕ
  procedure_text procedure = mode_text (name_in names (slice_get predicates procedure.predicate)) (places_of predicates procedure)

  -- a symbol, and where a switch goes on for it
  abbrev pub target_text : ℕ → Target → List ℕ
  target_text place target = symbol_text names target.symbol ++ codes ":" ++ behind place target.skipped

  -- Given is the slot of the procedure's first mark.
  module _ (marks : ℕ) where
    -- the operands of an instruction at a place
    abbrev pub operands : ℕ → Instruction → List (List ℕ)
    operands place (Integer to number) = slot to ∷ signed_decimal number ∷ []
    operands place (Text to text) = slot to ∷ string_text names text ∷ []
    operands place (Copy to from) = slot to ∷ slot from ∷ []
    operands place (Build to symbol arguments) = slot to ∷ symbol_text names symbol ∷ map slot arguments
    operands place (Split whole symbol arguments) = slot whole ∷ symbol_text names symbol ∷ map slot arguments
    operands place (Literal whole symbol) = slot whole ∷ symbol_text names symbol ∷ []
    operands place (Test one other) = slot one ∷ slot other ∷ []
    operands place (Arithmetic operation result one other) = operation_text operation ∷ slot result ∷ slot one ∷ slot other ∷ []
    operands place (Compare comparison one other) = comparison_text comparison ∷ slot one ∷ slot other ∷ []
    operands place (Raise text) = slot text ∷ []
    operands place (Jump skipped) = behind place skipped ∷ []
    operands place (Switch whole targets) = slot whole ∷ map (target_text place) targets
    operands place (Try skipped) = behind place skipped ∷ []
    operands place (Mark mark) = slot (marks + mark) ∷ []
    operands place (Commit mark) = slot (marks + mark) ∷ []
    operands place (Soften mark) = slot (marks + mark) ∷ []
    operands place (Call procedure arguments) = procedure_text procedure ∷ call_slots (places_of predicates procedure) arguments
    operands place Return = []
    operands place Fail = []
    operands place (Answer variables) = []
    operands place (Fork site) = decimal site.number ∷ []
    operands place (Wait variable) = slot variable ∷ []
    operands place (Signal variable) = slot variable ∷ []
    operands place Close = []

    -- two blanks, the place, the word and its operands
    abbrev pub instruction_line : ℕ → Instruction → List ℕ
    instruction_line place instruction = codes "  " ++ label place ++ codes " " ++ word instruction ++ spaced (operands place instruction) ++ line_end

    -- the lines of code whose first instruction stands at this place
    abbrev pub code_lines : ℕ → Code → List ℕ
    code_lines place [] = []
    code_lines place (instruction ∷ rest) = instruction_line place instruction ++ code_lines (suc place) rest

  -- a predicate in a mode, the lines of its clauses, and the lines of its code
  abbrev pub procedure_lines : PredDecl → List ℕ → ModeDecl → ProcedureCode → List ℕ
  procedure_lines declared clauses mode procedure =
      mode_text (text_at names declared.name) mode.args ++ codes ":" ++ line_end ++ clauses ++ code_lines (first_mark procedure) zero procedure.code

  -- in each of these modes
  abbrev pub modes_lines : PredDecl → List ℕ → List ModeDecl → List ProcedureCode → List ℕ
  modes_lines declared clauses [] procedures = []
  modes_lines declared clauses (mode ∷ modes) [] = []
  modes_lines declared clauses (mode ∷ modes) (procedure ∷ procedures) =
      procedure_lines declared clauses mode procedure ++ modes_lines declared clauses modes procedures

  -- these predicates, as far as there are lines of clauses
  abbrev pub predicates_lines : List PredDecl → List (List ProcedureCode) → List (List ℕ) → List ℕ
  predicates_lines [] procedures clauses = []
  predicates_lines (declared ∷ rest) [] clauses = []
  predicates_lines (declared ∷ rest) (compiled ∷ procedures) [] = []
  predicates_lines (declared ∷ rest) (compiled ∷ procedures) (first ∷ clauses) =
      modes_lines declared first declared.modes compiled ++ predicates_lines rest procedures clauses

-- The listing of a module's code: of the predicates of the file, which stand before those of the library. Each of these alone has its clauses' lines here.
abbrev pub listing : List (List ℕ) → List PredDecl → List (List ProcedureCode) → List (List ℕ) → List ℕ
listing names predicates procedures clauses = predicates_lines names predicates predicates procedures clauses
