-- The first fault of the items of a module: the first of one phase, where the phases before have none.
use Rattle.std.proofs.Common.{ℕ, ◌<◌, List, arith}
use Rattle.merc_base.specs.FirstFault.{AtPlaces, at, HasNone, AnswersFirst, IsFirstOf}
use Rattle.merc_base.specs.declared.place.Place.{Place}
use Rattle.merc_base.specs.declared.refusal.Rule.{Rule}
use Rattle.merc_base.specs.declared.refusal.Rule.TheVariants.{DeclaredTwice, UnknownType, Undeclared}
use Rattle.merc_base.specs.declared.refusal.Detail.{Detail}
use Rattle.merc_base.specs.declared.refusal.Detail.TheVariants.{Plain}
use Rattle.merc_base.specs.declared.refusal.Fault.{Fault}
use Rattle.merc_base.specs.declared.refusal.Fault.TheVariants.{Refused, NoMemory}
use Rattle.merc_tree.specs.Term.{Term}
use Rattle.merc_terms.specs.Items.{IsRefusal}
use Rattle.merc_entries.specs.DoubleFaults.{HasDouble}
use Rattle.merc_entries.specs.Entries.{Entry}
use Rattle.merc_item_forms.specs.FormFaults.{HasFormFault, own_name}
use Rattle.merc_declared.specs.UnknownTypes.{HasUnknownType}
use Rattle.merc_declared.specs.ModeFaults.{HasModeFault}
use Rattle.merc_declared.specs.AloneItems.{IsAlone}
use Rattle.merc_items.specs.Phases.{forms_phase, doubles_phase, types_phase, modes_phase, clauses_phase, HasFault, form, double, unknown_type, mode, alone, HasNoFault}

module _ (names : List (List ℕ)) (terms : List Term) (entries : List Entry) where
  abbrev Faults : ℕ → Rule → Detail → Place → Type 0
  Faults = HasFault names terms entries

  abbrev FormFaults : Rule → Detail → Place → Type 0
  FormFaults = HasFormFault names terms

  abbrev Doubles : Rule → Detail → Place → Type 0
  Doubles = AtPlaces DeclaredTwice (HasDouble entries)

  abbrev UnknownTypes : Rule → Detail → Place → Type 0
  UnknownTypes = AtPlaces UnknownType (HasUnknownType names (own_name terms) entries)

  abbrev ModeFaults : Rule → Detail → Place → Type 0
  ModeFaults = HasModeFault entries

  abbrev Lonely : Rule → Detail → Place → Type 0
  Lonely = AtPlaces Undeclared (IsAlone (own_name terms) entries)

  -- the faults of a phase are those of one relation

  to_form : (rule : Rule) (detail : Detail) (place : Place) → FormFaults rule detail place → Faults forms_phase rule detail place
  to_form rule detail place has = form rule detail place has

  of_form : (rule : Rule) (detail : Detail) (place : Place) → Faults forms_phase rule detail place → FormFaults rule detail place
  of_form _ _ _ (form rule detail place has) = has

  to_double : (rule : Rule) (detail : Detail) (place : Place) → Doubles rule detail place → Faults doubles_phase rule detail place
  to_double _ _ _ (at place has) = double place has

  of_double : (rule : Rule) (detail : Detail) (place : Place) → Faults doubles_phase rule detail place → Doubles rule detail place
  of_double _ _ _ (double place has) = at place has

  to_unknown : (rule : Rule) (detail : Detail) (place : Place) → UnknownTypes rule detail place → Faults types_phase rule detail place
  to_unknown _ _ _ (at place has) = unknown_type place has

  of_unknown : (rule : Rule) (detail : Detail) (place : Place) → Faults types_phase rule detail place → UnknownTypes rule detail place
  of_unknown _ _ _ (unknown_type place has) = at place has

  to_mode : (rule : Rule) (detail : Detail) (place : Place) → ModeFaults rule detail place → Faults modes_phase rule detail place
  to_mode rule detail place has = mode rule detail place has

  of_mode : (rule : Rule) (detail : Detail) (place : Place) → Faults modes_phase rule detail place → ModeFaults rule detail place
  of_mode _ _ _ (mode rule detail place has) = has

  to_alone : (rule : Rule) (detail : Detail) (place : Place) → Lonely rule detail place → Faults clauses_phase rule detail place
  to_alone _ _ _ (at place has) = alone place has

  of_alone : (rule : Rule) (detail : Detail) (place : Place) → Faults clauses_phase rule detail place → Lonely rule detail place
  of_alone _ _ _ (alone place has) = at place has

  -- no fault before a phase

  none_before : (phase : ℕ) → (forms_phase < phase → HasNone FormFaults) → (doubles_phase < phase → HasNone Doubles) → (types_phase < phase → HasNone UnknownTypes)
      → (modes_phase < phase → HasNone ModeFaults) → (clauses_phase < phase → HasNone Lonely) → (before : ℕ) → before < phase → HasNone (Faults before)
  none_before phase forms doubles types modes clauses _ less _ _ _ (form rule detail place has) = forms less rule detail place has
  none_before phase forms doubles types modes clauses _ less _ _ _ (double place has) = doubles less DeclaredTwice Plain place (at place has)
  none_before phase forms doubles types modes clauses _ less _ _ _ (unknown_type place has) = types less UnknownType Plain place (at place has)
  none_before phase forms doubles types modes clauses _ less _ _ _ (mode rule detail place has) = modes less rule detail place has
  none_before phase forms doubles types modes clauses _ less _ _ _ (alone place has) = clauses less Undeclared Plain place (at place has)

  pub no_fault : HasNone FormFaults → HasNone Doubles → HasNone UnknownTypes → HasNone ModeFaults → HasNone Lonely → HasNoFault names terms entries
  no_fault forms doubles types modes clauses _ _ _ _ (form rule detail place has) = forms rule detail place has
  no_fault forms doubles types modes clauses _ _ _ _ (double place has) = doubles DeclaredTwice Plain place (at place has)
  no_fault forms doubles types modes clauses _ _ _ _ (unknown_type place has) = types UnknownType Plain place (at place has)
  no_fault forms doubles types modes clauses _ _ _ _ (mode rule detail place has) = modes rule detail place has
  no_fault forms doubles types modes clauses _ _ _ _ (alone place has) = clauses Undeclared Plain place (at place has)

  -- the first fault of a phase, where no phase before has one
  first_of : (phase : ℕ) (Has : Rule → Detail → Place → Type 0) → ((rule : Rule) (detail : Detail) (place : Place) → Has rule detail place → Faults phase rule detail place)
      → ((rule : Rule) (detail : Detail) (place : Place) → Faults phase rule detail place → Has rule detail place) → ((before : ℕ) → before < phase → HasNone (Faults before))
      → (fault : Fault) → AnswersFirst Has fault → IsRefusal (IsFirstOf Faults) fault
  first_of phase Has to of none (Refused refusal) first = record {
    phase = phase;
    earlier = none;
    decides = record {
      fault = to refusal.rule refusal.detail refusal.place first.fault;
      first = λ rule detail place fault. first.first rule detail place (of rule detail place fault);
    };
  }
  first_of phase Has to of none NoMemory first = tt

  pub forms_refused : (fault : Fault) → AnswersFirst FormFaults fault → IsRefusal (IsFirstOf Faults) fault
  forms_refused fault first =
      first_of forms_phase FormFaults to_form of_form
      (none_before forms_phase (λ less. absurd (omega (arith, less))) (λ less. absurd (omega (arith, less))) (λ less. absurd (omega (arith, less)))
      (λ less. absurd (omega (arith, less))) (λ less. absurd (omega (arith, less)))) fault first

  module _ (forms : HasNone FormFaults) where
    pub doubles_refused : (fault : Fault) → AnswersFirst Doubles fault → IsRefusal (IsFirstOf Faults) fault
    doubles_refused fault first =
        first_of doubles_phase Doubles to_double of_double
        (none_before doubles_phase (λ less. forms) (λ less. absurd (omega (arith, less))) (λ less. absurd (omega (arith, less))) (λ less. absurd (omega (arith, less)))
        (λ less. absurd (omega (arith, less)))) fault first

    module _ (doubles : HasNone Doubles) where
      pub types_refused : (fault : Fault) → AnswersFirst UnknownTypes fault → IsRefusal (IsFirstOf Faults) fault
      types_refused fault first =
          first_of types_phase UnknownTypes to_unknown of_unknown
          (none_before types_phase (λ less. forms) (λ less. doubles) (λ less. absurd (omega (arith, less))) (λ less. absurd (omega (arith, less)))
          (λ less. absurd (omega (arith, less)))) fault first

      module _ (types : HasNone UnknownTypes) where
        pub modes_refused : (fault : Fault) → AnswersFirst ModeFaults fault → IsRefusal (IsFirstOf Faults) fault
        modes_refused fault first =
            first_of modes_phase ModeFaults to_mode of_mode
            (none_before modes_phase (λ less. forms) (λ less. doubles) (λ less. types) (λ less. absurd (omega (arith, less))) (λ less. absurd (omega (arith, less)))) fault first

        pub clauses_refused : HasNone ModeFaults → (fault : Fault) → AnswersFirst Lonely fault → IsRefusal (IsFirstOf Faults) fault
        clauses_refused modes fault first =
            first_of clauses_phase Lonely to_alone of_alone
            (none_before clauses_phase (λ less. forms) (λ less. doubles) (λ less. types) (λ less. modes) (λ less. absurd (omega (arith, less)))) fault first
