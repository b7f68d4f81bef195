-- The items of a file have one first fault, since they rise.
use Rattle.std.proofs.Common.{◌≡◌, ℕ, List, sym, subst}
use Rattle.merc_base.specs.FirstFault.{IsFirst, IsFirstOf}
use Rattle.merc_base.specs.declared.refusal.Refusal.{Refusal}
use Rattle.merc_base.proofs.FirstFaultLaws.{IsFirst-unique, one_phase}
use Rattle.merc_tree.specs.Term.{Term}
use Rattle.merc_item_forms.specs.FormFaults.{Rises}
use Rattle.merc_entries.specs.Entries.{entries}
use Rattle.merc_items.specs.Phases.{HasFault}
use Rattle.merc_items.proofs.FaultPlaces.{fault-place, same_place}
use Rattle.merc_items.proofs.FaultDetails.{same_detail}

pub one_first : (names : List (List ℕ)) (terms : List Term) (items : ℕ → List Term) (one other : Refusal) → Rises terms
    → IsFirstOf (HasFault names terms (entries items terms)) one → IsFirstOf (HasFault names terms (entries items terms)) other → one ≡ other
one_first names terms items one other rises is is' =
    let Faults = HasFault names terms (entries items terms) in
    let moved = subst (λ (phase : ℕ). IsFirst (Faults phase) other) (sym (one_phase Faults one other is is')) is'.decides in
    IsFirst-unique (Faults is.phase)
    (λ rule rule' detail detail' place place' fault fault' bytes.
    same_place terms place place' rises (fault-place names terms items is.phase rule detail place fault) (fault-place names terms items is.phase rule' detail' place' fault') bytes)
    (λ rule detail detail' place fault fault'. same_detail names terms (entries items terms) is.phase rule detail detail' place rises fault fault')
    one other is.decides moved
