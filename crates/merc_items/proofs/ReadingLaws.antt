-- What is read of a text, and what is refused.
use Rattle.std.proofs.Common.{◌≡◌, ℕ, List, ◌++◌, append_assoc, sym, ap, subst, ◌∙◌}
use Rattle.merc_base.specs.FirstFault.{IsFirstOf}
use Rattle.merc_base.specs.declared.refusal.Fault.{Fault}
use Rattle.merc_base.specs.declared.refusal.Fault.TheVariants.{Refused, NoMemory}
use Rattle.merc_tree.specs.Term.{Term}
use Rattle.merc_tree.specs.declared.declarations.Module.{Module}
use Rattle.merc_terms.specs.Items.{IsRefusal}
use Rattle.merc_terms.specs.Texts.{ReadsItems, RefusesText}
use Rattle.merc_item_forms.specs.FormFaults.{Rises}
use Rattle.merc_entries.specs.Entries.{Entry, entries}
use Rattle.merc_entries.specs.EntryValue.{AreInOrder}
use Rattle.merc_entries.specs.Units.{AreUnits}
use Rattle.merc_entries.proofs.EntryOrder.{entries_in_order}
use Rattle.merc_items.specs.ModuleOf.{module_of}
use Rattle.merc_items.specs.Phases.{HasFault, HasNoFault}
use Rattle.merc_items.specs.ReadModule.{IsModuleOf, RefusesItemsOf, first, RefusesModule, no_items, items as items_refused}
use Rattle.merc_items.proofs.Rising.{items-rises}

-- the items of a text begin one behind the other
pub reads-rises : (before after : List (List ℕ)) (text : List ℕ) (terms : List Term) → ReadsItems before after text terms → Rises terms
reads-rises before after text terms reads = items-rises after text reads.read.spelled reads.tokens terms reads.read.has.all reads.read.named reads.items

pub text-refused : (before : List (List ℕ)) (text : List ℕ) (fault : Fault) → IsRefusal (RefusesText before text) fault → IsRefusal (RefusesModule before text) fault
text-refused before text (Refused refusal) refuses = no_items refusal refuses
text-refused before text NoMemory refuses = tt

pub items_of-refused : (before names : List (List ℕ)) (text : List ℕ) (terms : List Term) (fault : Fault) → ReadsItems before names text terms
    → IsRefusal (RefusesItemsOf names terms) fault → IsRefusal (RefusesModule before text) fault
items_of-refused before names text terms (Refused refusal) reads refuses = items_refused names terms refusal reads refuses
items_of-refused before names text terms NoMemory reads refuses = tt

-- the items of the units stand among the entries of a file
module _ (before after : List (List ℕ)) (terms : List Term) (items : ℕ → List Term) (units : AreUnits before after items) (all : List Entry) (same : all ≡ entries items terms) where
  pub items-refused : (fault : Fault) → IsRefusal (IsFirstOf (HasFault after terms all)) fault → IsRefusal (RefusesItemsOf before terms) fault
  items-refused (Refused refusal) fault = first after items refusal units (subst (λ (some : List Entry). IsFirstOf (HasFault after terms some) refusal) same fault)
  items-refused NoMemory fault = tt

  pub is_module : (found : Module) → HasNoFault after terms all → found ≡ module_of after terms all → IsModuleOf before after terms found
  is_module found faultless is = record {
    items = items;
    units = units;
    faultless = subst (HasNoFault after terms) same faultless;
    same = is ∙ ap (module_of after terms) same;
  }

pub entries-order : (terms : List Term) (items : ℕ → List Term) (all : List Entry) → Rises terms → all ≡ entries items terms → AreInOrder all
entries-order terms items all rises same = subst AreInOrder (sym same) (entries_in_order items terms rises)

-- a table that grows twice grows
pub grows_twice : (before middle after more more' : List (List ℕ)) → middle ≡ before ++ more → after ≡ middle ++ more' → (all : List (List ℕ)) × (after ≡ before ++ all)
grows_twice before middle after more more' one two = (more ++ more', two ∙ ap (λ (names : List (List ℕ)). names ++ more') one ∙ append_assoc before more more')
