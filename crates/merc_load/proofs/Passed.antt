-- What is passed to a procedure, and where its outputs go.
use Rattle.std.specs.Prelude.{ℕ, zero, suc, ◌+◌, ◌<◌, ◌≤◌, List, [], ◌∷◌, length}
use Rattle.std.specs.List.{All}
use Rattle.std.proofs.Common.{arith}
use Rattle.std.proofs.lemmas.List.Elements.{All-cons, All-head, All-nil, All-tail}
use Rattle.merc_tree.specs.declared.declarations.Arg.{Arg}
use Rattle.merc_tree.specs.declared.declarations.Arg.TheVariants.{Input, Output}
use Rattle.merc_graded_tree.specs.declared.basic.Procedure.{Procedure}
use Rattle.merc_code.specs.Steps.{Codes, ProcedureCode}
use Rattle.merc_last_calls.specs.LastCalls.{outputs}
use Rattle.merc_frames.specs.declared.passing.Pass.{Pass}
use Rattle.merc_layout.specs.declared.entries.Entry.{Entry}
use Rattle.merc_load.specs.Loaded.{IsEntry, inputs}
use Rattle.merc_load.specs.declared.loaded.Loaded.{Loaded}

module _ (count : ℕ) where
  -- what a call passes goes to variables of the called procedure's frame
  inputs_to : (first : ℕ) (places : List Arg) (arguments : List ℕ) → first + length places ≤ count → All (λ (pass : Pass). pass.to < count) (inputs first places arguments)
  inputs_to first [] arguments room = All-nil (λ (pass : Pass). pass.to < count)
  inputs_to first (place ∷ places) [] room = All-nil (λ (pass : Pass). pass.to < count)
  inputs_to first (Input ∷ places) (argument ∷ arguments) room =
      All-cons (λ (pass : Pass). pass.to < count) (record { from = argument; to = first }) (inputs (suc first) places arguments) (omega (arith, room)) (inputs_to (suc first) places arguments (omega (arith, room)))
  inputs_to first (Output ∷ places) (argument ∷ arguments) room = inputs_to (suc first) places arguments (omega (arith, room))

  -- it is taken from the arguments
  pub inputs_from : (first : ℕ) (places : List Arg) (arguments : List ℕ) → All (λ (variable : ℕ). variable < count) arguments → All (λ (pass : Pass). pass.from < count) (inputs first places arguments)
  inputs_from first [] arguments below = All-nil (λ (pass : Pass). pass.from < count)
  inputs_from first (place ∷ places) [] below = All-nil (λ (pass : Pass). pass.from < count)
  inputs_from first (Input ∷ places) (argument ∷ arguments) below =
      All-cons (λ (pass : Pass). pass.from < count) (record { from = argument; to = first }) (inputs (suc first) places arguments) (All-head (λ (variable : ℕ). variable < count) argument arguments below)
      (inputs_from (suc first) places arguments (All-tail (λ (variable : ℕ). variable < count) argument arguments below))
  inputs_from first (Output ∷ places) (argument ∷ arguments) below = inputs_from (suc first) places arguments (All-tail (λ (variable : ℕ). variable < count) argument arguments below)

  -- so is where the outputs go
  pub outputs_below : (places : List Arg) (arguments : List ℕ) → All (λ (variable : ℕ). variable < count) arguments → All (λ (variable : ℕ). variable < count) (outputs places arguments)
  outputs_below [] arguments below = All-nil (λ (variable : ℕ). variable < count)
  outputs_below (place ∷ places) [] below = All-nil (λ (variable : ℕ). variable < count)
  outputs_below (Input ∷ places) (argument ∷ arguments) below = outputs_below places arguments (All-tail (λ (variable : ℕ). variable < count) argument arguments below)
  outputs_below (Output ∷ places) (argument ∷ arguments) below =
      All-cons (λ (variable : ℕ). variable < count) argument (outputs places arguments) (All-head (λ (variable : ℕ). variable < count) argument arguments below)
      (outputs_below places arguments (All-tail (λ (variable : ℕ). variable < count) argument arguments below))

-- What is passed to a procedure that is there goes to slots of the frames of its entry.
pub passed_inside : (program : Loaded) (codes : Codes) (entry_of : Procedure → Entry) (procedure : Procedure) (code : ProcedureCode) (e : IsEntry program codes entry_of procedure code) (arguments : List ℕ)
    → All (λ (pass : Pass). pass.to < (entry_of procedure).size) (inputs zero code.places arguments)
passed_inside program codes entry_of procedure code e arguments = inputs_to (entry_of procedure).size zero code.places arguments (omega (arith, e.arguments, e.room))
