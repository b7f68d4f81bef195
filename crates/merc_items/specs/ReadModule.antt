-- The module that a text is, or what is wrong with it.
use Rattle.std.specs.Prelude.{◌≡◌, ℕ, List}
use Rattle.merc_base.specs.FirstFault.{IsFirstOf}
use Rattle.merc_base.specs.declared.refusal.Refusal.{Refusal}
use Rattle.merc_tree.specs.Term.{Term}
use Rattle.merc_tree.specs.declared.declarations.Module.{Module}
use Rattle.merc_terms.specs.Texts.{ReadsItems, RefusesText}
use Rattle.merc_entries.specs.Entries.{entries}
use Rattle.merc_items.specs.Phases.{HasFault, HasNoFault}
use Rattle.merc_items.specs.ModuleOf.{module_of}
use Rattle.merc_entries.specs.Units.{AreUnits}

-- The items of a file are a module, among those of the units that it imports without a fault. The table held the first names before the units were read,
-- and holds the second behind them.
pub record IsModuleOf (before after : List (List ℕ)) (terms : List Term) (found : Module) : Type 0 where
  pub items : ℕ → List Term
  pub units : AreUnits before after items
  pub faultless : HasNoFault after terms (entries items terms)
  pub same : found ≡ module_of after terms (entries items terms)

-- what is wrong with the items of a file: their first fault among those of the units
pub data RefusesItemsOf (before : List (List ℕ)) (terms : List Term) : Refusal → Type 0 where
  first : (after : List (List ℕ)) (items : ℕ → List Term) (refusal : Refusal) → AreUnits before after items → IsFirstOf (HasFault after terms (entries items terms)) refusal → RefusesItemsOf before terms refusal

-- a text is items that are a module
pub record IsModule (before after : List (List ℕ)) (text : List ℕ) (terms : List Term) (found : Module) : Type 0 where
  pub read_names : List (List ℕ)
  pub reads : ReadsItems before read_names text terms
  pub is : IsModuleOf read_names after terms found

-- what is wrong with a text that is no module: it is no items, or its items are no module
pub data RefusesModule (before : List (List ℕ)) (text : List ℕ) : Refusal → Type 0 where
  no_items : (refusal : Refusal) → RefusesText before text refusal → RefusesModule before text refusal
  items : (read_names : List (List ℕ)) (terms : List Term) (refusal : Refusal) → ReadsItems before read_names text terms → RefusesItemsOf read_names terms refusal → RefusesModule before text refusal
