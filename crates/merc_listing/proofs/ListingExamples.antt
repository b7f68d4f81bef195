-- Worked examples of listings: each word once, and whole procedures.
use Rattle.std.specs.Prelude.{◌≡◌, ◌+◌, ◌<◌, ℕ, pos, negsuc, List, [], ◌∷◌, ◌++◌, Some, None, slice_get, codes, refl}
use Rattle.std.proofs.Common.{arith, slice_index, ap}
use Rattle.std.specs.Fmt.{digits}
use Rattle.merc_base.specs.declared.category.Category.TheVariants.{Det, Multi}
use Rattle.merc_base.specs.declared.place.Span.{Span}
use Rattle.merc_tree.specs.Types.{TypeExpr, IntType}
use Rattle.merc_tree.specs.declared.declarations.Arg.{Arg}
use Rattle.merc_tree.specs.declared.declarations.Arg.TheVariants.{Input, Output}
use Rattle.merc_tree.specs.declared.declarations.ModeDecl.{ModeDecl}
use Rattle.merc_tree.specs.declared.declarations.PredDecl.{PredDecl}
use Rattle.merc_goal_tree.specs.declared.goal.Comparison.TheVariants.{Less, Greater, AtMost, AtLeast}
use Rattle.merc_goal_tree.specs.declared.goal.Operation.TheVariants.{Add, Subtract, Multiply, Quotient, Div, Mod, Rem}
use Rattle.merc_goal_tree.specs.declared.goal.Symbol.{Symbol}
use Rattle.merc_goal_tree.specs.declared.goal.Symbol.TheVariants.{Constructor, Integer as IntegerSymbol, Text as TextSymbol}
use Rattle.merc_graded_tree.specs.declared.basic.Procedure.{Procedure}
use Rattle.merc_graded_tree.specs.declared.basic.Site.{Site}
use Rattle.merc_value.specs.Text.{word_operators}
use Rattle.merc_code.specs.declared.instruction.Instruction.{Instruction}
use Rattle.merc_code.specs.declared.instruction.Instruction.TheVariants.{Integer, Text, Copy, Build, Split, Literal, Test, Arithmetic, Compare, Raise, Jump, Switch, Try, Mark, Commit, Soften, Call, Return, Fail, Answer, Fork, Wait, Signal, Close}
use Rattle.merc_code.specs.declared.instruction.Target.{Target}
use Rattle.merc_code.specs.Steps.{Code, ProcedureCode}
use Rattle.merc_listing.specs.Parts.{named, beyond, first_mark, symbol_text, operation_text, comparison_text, places_text}
use Rattle.merc_listing.specs.Listing.{instruction_line, code_lines, procedure_text, procedure_lines, listing}

-- names: 0 is `add`, 1 is `[]`, 2 is `[|]`, 3 is `Red`, 4 is a text with quotes, 5 is `p`
abbrev names : List (List ℕ)
names = codes "add" ∷ codes "[]" ∷ codes "[|]" ∷ codes "Red" ∷ codes "say \"no\"\n" ∷ codes "p" ∷ []

abbrev at : ℕ → Span
at byte = record { first = byte; past = byte + 1; line = 1 }

abbrev mode : List Arg → ModeDecl
mode places = record { args = places; category = Det; span = at 0 }

abbrev predicate : ℕ → List ModeDecl → PredDecl
predicate name modes = record { name = name; args = []; modes = modes; span = at 0; unit = None }

-- the first predicate is `add` in two modes, the second is `p` without arguments
abbrev predicates : List PredDecl
predicates = predicate 0 (mode (Input ∷ Input ∷ Output ∷ []) ∷ mode (Input ∷ Output ∷ Input ∷ []) ∷ []) ∷ predicate 5 (mode [] ∷ []) ∷ []

abbrev called : ℕ → ℕ → Procedure
called number in_mode = record { predicate = number; mode = in_mode }

abbrev site : ℕ → Site
site number = record { number = number }

abbrev target : Symbol → ℕ → Target
target symbol skipped = record { symbol = symbol; skipped = skipped }

-- an instruction at place 7, in a procedure whose first mark has slot 5
abbrev line : Instruction → List ℕ
line instruction = instruction_line names predicates 5 7 instruction

differ : (m n : ℕ) → m < n → m ≡ n → ⊥
differ m n less same = omega (arith, less, same)

-- ---- instructions

line-int : line (Integer 2 (negsuc 41)) ≡ codes "  L7 int s2 -42\n"
unfolding digits
line-int = refl

line-text : line (Text 2 4) ≡ codes "  L7 text s2 \"say \\\"no\\\"\\n\"\n"
unfolding digits
line-text = refl

line-copy : line (Copy 1 0) ≡ codes "  L7 copy s1 s0\n"
unfolding digits
line-copy = refl

line-build : line (Build 12 (Constructor 2 2) (3 ∷ 4 ∷ [])) ≡ codes "  L7 build s12 '[|]'/2 s3 s4\n"
unfolding digits word_operators
line-build = refl

-- the empty list is written as in values, and another constructor of its name is not
line-empty_list : line (Build 0 (Constructor 1 0) []) ≡ codes "  L7 build s0 []/0\n"
unfolding digits
line-empty_list = refl

line-other_empty : line (Build 0 (Constructor 1 1) (1 ∷ [])) ≡ codes "  L7 build s0 '[]'/1 s1\n"
unfolding digits word_operators
line-other_empty = refl

line-split : line (Split 0 (Constructor 3 1) (1 ∷ [])) ≡ codes "  L7 split s0 'Red'/1 s1\n"
unfolding digits word_operators
line-split = refl

line-literal : line (Literal 0 (IntegerSymbol (pos 3))) ≡ codes "  L7 literal s0 3\n"
unfolding digits
line-literal = refl

line-literal_text : line (Literal 0 (TextSymbol 5)) ≡ codes "  L7 literal s0 \"p\"\n"
unfolding digits
line-literal_text = refl

line-test : line (Test 1 2) ≡ codes "  L7 test s1 s2\n"
unfolding digits
line-test = refl

line-arith : line (Arithmetic Add 2 0 1) ≡ codes "  L7 arith + s2 s0 s1\n"
unfolding digits
line-arith = refl

line-compare : line (Compare AtMost 0 1) ≡ codes "  L7 compare =< s0 s1\n"
unfolding digits
line-compare = refl

line-raise : line (Raise 3) ≡ codes "  L7 raise s3\n"
unfolding digits
line-raise = refl

-- the next instruction stands at place 8
line-jump : line (Jump 2) ≡ codes "  L7 jump L10\n"
unfolding digits
line-jump = refl

line-jump_to_next : line (Jump 0) ≡ codes "  L7 jump L8\n"
unfolding digits
line-jump_to_next = refl

line-switch : line (Switch 0 (target (Constructor 1 0) 0 ∷ target (Constructor 2 2) 3 ∷ [])) ≡ codes "  L7 switch s0 []/0:L8 '[|]'/2:L11\n"
unfolding digits word_operators
line-switch = refl

line-try : line (Try 4) ≡ codes "  L7 try L12\n"
unfolding digits
line-try = refl

-- marks are the slots behind the variables
line-mark : line (Mark 0) ≡ codes "  L7 mark s5\n"
unfolding digits
line-mark = refl

line-commit : line (Commit 1) ≡ codes "  L7 commit s6\n"
unfolding digits
line-commit = refl

line-soften : line (Soften 0) ≡ codes "  L7 soften s5\n"
unfolding digits
line-soften = refl

-- inputs stand before the colon and outputs behind it, whatever places they have
line-call : line (Call (called 0 1) (3 ∷ 4 ∷ 1 ∷ [])) ≡ codes "  L7 call add(in, out, in) s3 s1 : s4\n"
unfolding digits word_operators
line-call = refl

line-call_of_no_arguments : line (Call (called 1 0) []) ≡ codes "  L7 call p :\n"
unfolding digits word_operators
line-call_of_no_arguments = refl

line-return : line Return ≡ codes "  L7 return\n"
unfolding digits
line-return = refl

line-fail : line Fail ≡ codes "  L7 fail\n"
unfolding digits
line-fail = refl

line-answer : line (Answer (0 ∷ 1 ∷ [])) ≡ codes "  L7 answer\n"
unfolding digits
line-answer = refl

line-fork : line (Fork (site 2)) ≡ codes "  L7 fork 2\n"
unfolding digits
line-fork = refl

line-wait : line (Wait 3) ≡ codes "  L7 wait s3\n"
unfolding digits
line-wait = refl

line-signal : line (Signal 3) ≡ codes "  L7 signal s3\n"
unfolding digits
line-signal = refl

line-close : line Close ≡ codes "  L7 close\n"
unfolding digits
line-close = refl

-- a jump names a place, and not how many instructions it skips
line-counterexample : line (Jump 2) ≡ codes "  L7 jump L2\n" → ⊥
unfolding digits
line-counterexample same = differ 49 50 (omega arith) (ap (λ (text : List ℕ). slice_index text 11) same)

-- ---- operators

operations : operation_text Subtract ++ operation_text Multiply ++ operation_text Quotient ++ operation_text Div ++ operation_text Mod ++ operation_text Rem ≡ codes "-*//divmodrem"
operations = refl

comparisons : comparison_text Less ++ comparison_text Greater ++ comparison_text AtLeast ≡ codes "<>>="
comparisons = refl

-- ---- slots of marks

-- the least number behind the arguments and all variables that the code names
abbrev marked : ProcedureCode
marked = record { places = Input ∷ []; code = Mark 0 ∷ Try 3 ∷ Copy 4 0 ∷ Commit 0 ∷ Jump 1 ∷ Commit 0 ∷ Return ∷ [] }

first_mark-example : first_mark marked ≡ 5
first_mark-example = refl

first_mark-of_arguments : first_mark (record { places = Input ∷ Output ∷ []; code = Fail ∷ [] }) ≡ 2
first_mark-of_arguments = refl

first_mark-counterexample : first_mark marked ≡ 4 → ⊥
first_mark-counterexample is_a_variable = cc

named-example : named (Build 1 (Constructor 2 2) (6 ∷ 0 ∷ [])) ≡ 1 ∷ 6 ∷ 0 ∷ []
named-example = refl

beyond-example : beyond (1 ∷ 6 ∷ 0 ∷ []) ≡ 7
beyond-example = refl

beyond-none : beyond [] ≡ 0
beyond-none = refl

-- ---- procedures

places-example : places_text (Input ∷ Input ∷ Output ∷ []) ≡ codes "(in, in, out)"
places-example = refl

places-none : places_text [] ≡ []
places-none = refl

-- one that is not there has no name and no places
procedure_text-of_none : procedure_text names predicates (called 2 0) ≡ codes "''"
procedure_text-of_none = refl

abbrev adds : ProcedureCode
adds = record { places = Input ∷ Input ∷ Output ∷ []; code = Arithmetic Add 2 0 1 ∷ Return ∷ [] }

abbrev subtracts : ProcedureCode
subtracts = record { places = Input ∷ Output ∷ Input ∷ []; code = Arithmetic Subtract 1 2 0 ∷ Return ∷ [] }

abbrev add_clause : List ℕ
add_clause = codes "% add(X, Y, Z) :- Z = X + Y.\n"

-- the predicate of the file in its two modes; the code of `p`, which has no lines of clauses, is not listed
listing-example : listing names predicates ((adds ∷ subtracts ∷ []) ∷ (adds ∷ []) ∷ []) (add_clause ∷ [])
    ≡ codes "add(in, in, out):\n% add(X, Y, Z) :- Z = X + Y.\n  L0 arith + s2 s0 s1\n  L1 return\n"
    ++ codes "add(in, out, in):\n% add(X, Y, Z) :- Z = X + Y.\n  L0 arith - s1 s2 s0\n  L1 return\n"
unfolding digits word_operators
listing-example = refl

listing-of_none : listing names predicates ((adds ∷ subtracts ∷ []) ∷ (adds ∷ []) ∷ []) [] ≡ []
listing-of_none = refl

procedure_lines-no_arguments : procedure_lines names predicates (predicate 5 (mode [] ∷ [])) (codes "% p.\n") (mode []) (record { places = []; code = Return ∷ [] })
    ≡ codes "p:\n% p.\n  L0 return\n"
unfolding digits word_operators
procedure_lines-no_arguments = refl

-- the first mode alone is not the listing
listing-counterexample : listing names predicates ((adds ∷ subtracts ∷ []) ∷ []) (add_clause ∷ [])
    ≡ codes "add(in, in, out):\n% add(X, Y, Z) :- Z = X + Y.\n  L0 arith + s2 s0 s1\n  L1 return\n" → ⊥
unfolding digits word_operators
listing-counterexample same = is_there 97 (ap (λ (text : List ℕ). slice_get text 81) same)
  where
    is_there : (byte : ℕ) → Some byte ≡ None → ⊥
    is_there byte same = cc
