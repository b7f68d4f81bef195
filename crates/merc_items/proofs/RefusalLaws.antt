-- A text that is no module is refused in one way.
use Rattle.std.proofs.Common.{◌≡◌, ℕ, List, sym, subst}
use Rattle.std.specs.List.{IsDistinct}
use Rattle.std.specs.Str.{bytes_eq}
use Rattle.merc_base.specs.FirstFault.{IsFirstOf}
use Rattle.merc_base.specs.declared.refusal.Refusal.{Refusal}
use Rattle.merc_tree.specs.Term.{Term}
use Rattle.merc_entries.specs.Entries.{entries}
use Rattle.merc_item_forms.specs.FormFaults.{Rises}
use Rattle.merc_items.specs.Phases.{HasFault}
use Rattle.merc_items.specs.ReadModule.{RefusesItemsOf, first, RefusesModule, no_items, items as items_refused}
use Rattle.merc_items.proofs.OneFault.{one_first}
use Rattle.merc_items.proofs.ModuleLaws.{AreUnits-unique}
use Rattle.merc_items.proofs.ReadingLaws.{reads-rises}
use Rattle.merc_terms.proofs.TextLaws.{ReadsItems-distinct, ReadsItems-unique, RefusesText-unique, RefusesText-excludes}

-- the items of a file are refused in one way
pub RefusesItemsOf-unique : (before : List (List ℕ)) (terms : List Term) (one other : Refusal) → IsDistinct bytes_eq before → Rises terms
    → RefusesItemsOf before terms one → RefusesItemsOf before terms other → one ≡ other
RefusesItemsOf-unique before terms _ _ distinct rises (first after items one units fault) (first after' items' other units' fault') =
    let same = AreUnits-unique before after after' items items' distinct units units' in
    let names = subst (λ (names : List (List ℕ)). IsFirstOf (HasFault names terms (entries items' terms)) other) (sym same.0) fault' in
    let moved = subst (λ (some : ℕ → List Term). IsFirstOf (HasFault after terms (entries some terms)) other) (sym same.1) names in
    one_first after terms items one other rises fault moved

-- a text is refused in one way
pub RefusesModule-unique : (before : List (List ℕ)) (text : List ℕ) (one other : Refusal) → IsDistinct bytes_eq before → RefusesModule before text one → RefusesModule before text other → one ≡ other
RefusesModule-unique before text _ _ distinct (no_items one refuses) (no_items other refuses') = RefusesText-unique before text distinct one other refuses refuses'
RefusesModule-unique before text _ _ distinct (no_items one refuses) (items_refused after terms other reads refuses') = absurd (RefusesText-excludes before text distinct one after terms refuses reads)
RefusesModule-unique before text _ _ distinct (items_refused after terms one reads refuses) (no_items other refuses') = absurd (RefusesText-excludes before text distinct other after terms refuses' reads)
RefusesModule-unique before text _ _ distinct (items_refused after terms one reads refuses) (items_refused after' terms' other reads' refuses') =
    let same = ReadsItems-unique before text distinct after after' terms terms' reads reads' in
    let names = subst (λ (names : List (List ℕ)). RefusesItemsOf names terms' other) (sym same.0) refuses' in
    let moved = subst (λ (some : List Term). RefusesItemsOf after some other) (sym same.1) names in
    RefusesItemsOf-unique after terms one other (ReadsItems-distinct before text distinct after terms reads) (reads-rises before after text terms reads) refuses moved
