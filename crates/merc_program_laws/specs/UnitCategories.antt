-- That the procedures of library units have no fault of categories, so that what is told of a module's categories is a fault of the file's own.
use Rattle.std.specs.Prelude.{◌≡◌, ℕ, List, [], Some, None}
use Rattle.merc_base.specs.declared.refusal.Refusal.{Refusal}
use Rattle.merc_tree.specs.Term.{Term}
use Rattle.merc_tree.specs.declared.declarations.Module.{Module}
use Rattle.merc_order.specs.Procedures.{bound_at}
use Rattle.merc_grading.specs.Faults.{Body, Procedure, category_fault, finished, mode_faults, procedures_of}
use Rattle.merc_items.specs.ReadModule.{IsModule}
use Rattle.merc_flat.specs.Flat.{clause_node}
use Rattle.merc_order_laws.specs.ProcedureBodies.{IsBodyOf}
use Rattle.merc_check.specs.Accepted.{HaveBodies}
use Rattle.merc_program_laws.specs.ClauseFaults.{IsAmong}
use Rattle.merc_program_laws.specs.UnitClauses.{IsTable}

-- Given are the texts of names and a module.
module _ (names : List (List ℕ)) (known : Module) where
  -- a procedure has this body
  abbrev pub HasBody : Procedure → Body → Type 0
  HasBody = IsBodyOf known (clause_node names known)

  -- what is wrong with its categories
  abbrev pub category_faults : Procedure → Body → List Refusal
  category_faults procedure body = mode_faults procedure.predicate.unit procedure.mode (finished known.types known.preds (bound_at procedure.mode.args) body)

  -- The procedures of units have no fault of categories, whatever types by which they are typed the variables of their bodies have.
  abbrev pub HasNoUnitFault : Type 0
  HasNoUnitFault = (procedure : Procedure) (unit : ℕ) (body : Body) → IsAmong procedure (procedures_of known.preds) → procedure.predicate.unit ≡ Some unit → HasBody procedure body
      → category_faults procedure body ≡ []

  -- a fault of the categories of a procedure of the file
  pub record IsFileCategoryFault (told : Refusal) : Type 0 where
    pub procedure : Procedure
    pub body : Body
    pub among : IsAmong procedure (procedures_of known.preds)
    pub own : procedure.predicate.unit ≡ None
    pub has : HasBody procedure body
    pub fault : IsAmong told (category_faults procedure body)

-- Each module that a text is has units without a fault of categories.
abbrev pub UnitsHaveNoCategoryFault : Type 0
UnitsHaveNoCategoryFault = (before after : List (List ℕ)) (text : List ℕ) (terms : List Term) (found : Module)
    → IsTable before → IsModule before after text terms found → HasNoUnitFault after found

-- What is told of the categories of a module that a text is is a fault of a procedure of the file, whatever bodies its procedures have.
abbrev pub TellsFileCategory : Type 0
TellsFileCategory = (before after : List (List ℕ)) (text : List ℕ) (terms : List Term) (found : Module) (told : Refusal)
    → IsTable before → IsModule before after text terms found → (bodies : List Body) → HaveBodies after found bodies
    → category_fault found.types found.preds bodies ≡ Some told → IsFileCategoryFault after found told
