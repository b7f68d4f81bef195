-- Valid code: each place that it names is that of a later instruction of its own, each slot is written before it is read, and calls agree with the called procedures.
use Rattle.std.specs.Prelude.{◌≡◌, ℕ, zero, suc, ◌<◌, Bool, true, false, List, [], ◌∷◌, length, drop, Option, Some, None}
use Rattle.std.specs.List.{AllByRecursion, Contains}
use Rattle.merc_tree.specs.declared.declarations.Arg.{Arg}
use Rattle.merc_tree.specs.declared.declarations.Arg.TheVariants.{Input, Output}
use Rattle.merc_graded_tree.specs.declared.basic.Procedure.{Procedure}
use Rattle.merc_graded_tree.specs.declared.basic.Site.{Site}
use Rattle.merc_code.specs.declared.instruction.Instruction.{Instruction}
use Rattle.merc_code.specs.declared.instruction.Instruction.TheVariants.{Call, Fork}
use Rattle.merc_code.specs.Steps.{Code, ProcedureCode, ConjunctCode, Codes}
use Rattle.merc_live.specs.Reads.{is_in, reads, gives, goes_on, skips, MayReadMark}

-- Each place at which an instruction may go on otherwise is that of a later instruction.
abbrev pub NamesLaterPlaces : Code → Type 0
NamesLaterPlaces [] = Unit {0}
NamesLaterPlaces (instruction ∷ rest) = AllByRecursion (λ skipped. skipped < length rest) (skips instruction) × NamesLaterPlaces rest

-- a call has as many arguments as the procedure has places, which is there
abbrev pub HasPlaces : Option ProcedureCode → List ℕ → Type 0
HasPlaces None arguments = ⊥
HasPlaces (Some procedure) arguments = length procedure.places ≡ length arguments

abbrev pub CallAgrees : Codes → Instruction → Type 0
CallAgrees codes (Call procedure arguments) = HasPlaces (codes.procedures procedure) arguments
CallAgrees codes instruction = Unit {0}

-- the variables at the Input places, of which the first place has this one
abbrev pub own_inputs : ℕ → List Arg → List ℕ
own_inputs variable [] = []
own_inputs variable (Input ∷ places) = variable ∷ own_inputs (suc variable) places
own_inputs variable (Output ∷ places) = own_inputs (suc variable) places

-- the variables at whose values an instruction itself looks; at a fork it is the conjuncts that do
abbrev pub looks_at : Codes → Option (List Arg) → Instruction → List ℕ
looks_at codes own (Fork site) = []
looks_at codes own instruction = reads codes own instruction

-- Given are the code of the procedures and of the conjuncts, and which calls may come back.
module _ (codes : Codes) (comes_back : Procedure → Bool) where
  -- whether what follows an instruction may come next
  abbrev pub goes_past : Instruction → Bool
  goes_past (Call procedure arguments) = comes_back procedure
  goes_past instruction = goes_on instruction

  -- On some way through the code, or through that of a conjunct that is forked there, the variable is read and was not written before. The frame is that of a
  -- procedure with these places, if it is one of a procedure.
  pub data ReadsUnwritten (variable : ℕ) : Option (List Arg) → Code → Type 0 where
    here : (own : Option (List Arg)) (instruction : Instruction) (rest : Code) → is_in variable (looks_at codes own instruction) ≡ true → ReadsUnwritten variable own (instruction ∷ rest)
    later : (own : Option (List Arg)) (instruction : Instruction) (rest : Code) → goes_past instruction ≡ true → is_in variable (gives codes instruction) ≡ false
        → ReadsUnwritten variable own rest → ReadsUnwritten variable own (instruction ∷ rest)
    there : (own : Option (List Arg)) (instruction : Instruction) (rest : Code) (skipped : ℕ) → is_in skipped (skips instruction) ≡ true
        → ReadsUnwritten variable own (drop skipped rest) → ReadsUnwritten variable own (instruction ∷ rest)
    forked : (own : Option (List Arg)) (site : Site) (rest : Code) (conjunct : ConjunctCode) → Contains (codes.conjuncts site.number) conjunct
        → ReadsUnwritten variable None conjunct.code → ReadsUnwritten variable own (Fork site ∷ rest)

  -- Code is valid in a frame of a procedure with these places, if it is one of a procedure, which begins with values of these variables.
  pub record IsValid (own : Option (List Arg)) (given : List ℕ) (code : Code) : Type 0 where
    pub places : NamesLaterPlaces code
    pub variables : (variable : ℕ) → ReadsUnwritten variable own code → is_in variable given ≡ true
    pub marks : (mark : ℕ) → MayReadMark mark code → ⊥
    pub calls : AllByRecursion (CallAgrees codes) code

  -- a procedure's code begins with values of the arguments at its Input places
  abbrev pub IsValidProcedure : ProcedureCode → Type 0
  IsValidProcedure procedure = IsValid (Some procedure.places) (own_inputs zero procedure.places) procedure.code

  -- a conjunct's code may begin with values of all variables that it uses
  abbrev pub IsValidConjunct : ConjunctCode → Type 0
  IsValidConjunct conjunct = IsValid None conjunct.used conjunct.code

  pub record AreValid : Type 0 where
    pub procedures : (procedure : Procedure) (code : ProcedureCode) → codes.procedures procedure ≡ Some code → IsValidProcedure code
    pub conjuncts : (site : ℕ) (conjunct : ConjunctCode) → Contains (codes.conjuncts site) conjunct → IsValidConjunct conjunct
