-- That the clauses of library units have no fault, so that what is told of a module's clauses is a fault of the file's own.
use Rattle.std.specs.Prelude.{◌≡◌, ℕ, ◌⊎◌, List, ◌++◌, None}
use Rattle.std.specs.List.{IsDistinct}
use Rattle.std.specs.Str.{bytes_eq}
use Rattle.merc_base.specs.Names.{HoldsFixed}
use Rattle.merc_base.specs.declared.refusal.Refusal.{Refusal}
use Rattle.merc_tree.specs.Term.{Term}
use Rattle.merc_tree.specs.declared.declarations.Clause.{Clause}
use Rattle.merc_tree.specs.declared.declarations.Module.{Module}
use Rattle.merc_items.specs.ReadModule.{IsModule}
use Rattle.merc_flat.specs.Flat.{clause_form_fault, clause_name_fault}
use Rattle.merc_check.specs.Accepted.{IsTypedClause, RefusesClauses}
use Rattle.merc_program_laws.specs.ClauseFaults.{IsAmong, HasClauseFault, IsProcedureFault, file_clauses}

-- A table of names, as each is: the constants come first, and each text stands once.
pub record IsTable (names : List (List ℕ)) : Type 0 where
  pub fixed : HoldsFixed names
  pub distinct : IsDistinct bytes_eq names

-- The goal of a clause has a form and keeps the limits, its names are known, and its variables have types.
pub record IsFaultless (names : List (List ℕ)) (known : Module) (clause : Clause) : Type 0 where
  pub form : clause_form_fault names known clause ≡ None
  pub named : clause_name_fault names known clause ≡ None
  pub typed : IsTypedClause names known clause

-- The clauses of a module are those of the file, and behind them those of units, each of which is faultless.
pub record HasFaultlessUnits (names : List (List ℕ)) (terms : List Term) (known : Module) : Type 0 where
  pub unit_clauses : List Clause
  pub whole : known.clauses ≡ file_clauses terms ++ unit_clauses
  pub faultless : (clause : Clause) → IsAmong clause unit_clauses → IsFaultless names known clause

-- Each module that a text is has faultless units.
abbrev pub UnitsAreFaultless : Type 0
UnitsAreFaultless = (before after : List (List ℕ)) (text : List ℕ) (terms : List Term) (found : Module)
    → IsTable before → IsModule before after text terms found → HasFaultlessUnits after terms found

-- a fault of a clause of the file, in one of the phases of clauses
pub record IsFileFault (names : List (List ℕ)) (terms : List Term) (known : Module) (told : Refusal) : Type 0 where
  pub phase : ℕ
  pub clause : Clause
  pub among : IsAmong clause (file_clauses terms)
  pub fault : HasClauseFault names known clause phase told

-- What is told of a module that a text is is a fault of a clause of the file, or one of its procedures.
abbrev pub TellsFileFault : Type 0
TellsFileFault = (before after : List (List ℕ)) (text : List ℕ) (terms : List Term) (found : Module) (told : Refusal)
    → IsTable before → IsModule before after text terms found → RefusesClauses after found told → IsFileFault after terms found told ⊎ IsProcedureFault after terms found told
