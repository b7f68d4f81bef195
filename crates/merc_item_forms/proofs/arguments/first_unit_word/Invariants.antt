use Rattle.std.proofs.Common.{◌≡◌, drop}
use Rattle.std.specs.List.{flat_map}
use Rattle.merc_item_forms.specs.FormChecks.{first_of, unit_words}
use Rattle.merc_item_forms.proofs.arguments.first_unit_word.Given as goal

abbrev pub invariant-loop-unit : goal.invariant-loop-unit
invariant-loop-unit l = first_of (flat_map unit_words (drop l.unit-index l.units)) ≡ first_of (flat_map unit_words l.units)
