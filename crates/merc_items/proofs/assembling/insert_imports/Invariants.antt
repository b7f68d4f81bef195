use Rattle.std.proofs.Common.{◌≡◌, drop}
use Rattle.std.specs.List.{flat_map}
use Rattle.merc_item_forms.specs.Items.{item_of}
use Rattle.merc_entries.specs.Entries.{imports, with_units}
use Rattle.merc_items.proofs.assembling.insert_imports.Given as goal

abbrev pub invariant-loop-index : goal.invariant-loop-index
invariant-loop-index l =
    with_units l.units (flat_map (λ term. imports (item_of term)) (drop l.index l.terms)) ≡ with_units l.fn.units (flat_map (λ term. imports (item_of term)) l.terms)
