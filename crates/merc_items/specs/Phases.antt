-- What is wrong with the items of a module: one relation for each phase of the check.
use Rattle.std.specs.Prelude.{ℕ, List}
use Rattle.merc_base.specs.FirstFault.{HasNone}
use Rattle.merc_base.specs.declared.place.Place.{Place}
use Rattle.merc_base.specs.declared.refusal.Rule.{Rule}
use Rattle.merc_base.specs.declared.refusal.Rule.TheVariants.{UnknownType, DeclaredTwice, Undeclared}
use Rattle.merc_base.specs.declared.refusal.Detail.{Detail}
use Rattle.merc_base.specs.declared.refusal.Detail.TheVariants.{Plain}
use Rattle.merc_tree.specs.Term.{Term}
use Rattle.merc_item_forms.specs.FormFaults.{HasFormFault, own_name}
use Rattle.merc_entries.specs.DoubleFaults.{HasDouble}
use Rattle.merc_declared.specs.UnknownTypes.{HasUnknownType}
use Rattle.merc_declared.specs.ModeFaults.{HasModeFault}
use Rattle.merc_declared.specs.AloneItems.{IsAlone}
use Rattle.merc_entries.specs.Entries.{Entry}

-- the phases in their order; two come before them, tokens and terms

abbrev pub forms_phase : ℕ
forms_phase = 3

abbrev pub doubles_phase : ℕ
doubles_phase = 4

abbrev pub types_phase : ℕ
types_phase = 5

abbrev pub modes_phase : ℕ
modes_phase = 6

abbrev pub clauses_phase : ℕ
clauses_phase = 7

-- the faults of a phase
pub data HasFault (names : List (List ℕ)) (terms : List Term) (entries : List Entry) : ℕ → Rule → Detail → Place → Type 0 where
  form : (rule : Rule) (detail : Detail) (place : Place) → HasFormFault names terms rule detail place → HasFault names terms entries forms_phase rule detail place
  double : (place : Place) → HasDouble entries place → HasFault names terms entries doubles_phase DeclaredTwice Plain place
  unknown_type : (place : Place) → HasUnknownType names (own_name terms) entries place → HasFault names terms entries types_phase UnknownType Plain place
  mode : (rule : Rule) (detail : Detail) (place : Place) → HasModeFault entries rule detail place → HasFault names terms entries modes_phase rule detail place
  alone : (place : Place) → IsAlone (own_name terms) entries place → HasFault names terms entries clauses_phase Undeclared Plain place

-- the items have no fault in any phase
abbrev pub HasNoFault : List (List ℕ) → List Term → List Entry → Type 0
HasNoFault names terms entries = (phase : ℕ) → HasNone (HasFault names terms entries phase)
