use Rattle.std.proofs.Common.{◌≡◌, drop}
use Rattle.std.specs.List.{flat_map}
use Rattle.merc_item_forms.specs.FormChecks.{first_of}
use Rattle.merc_item_forms.specs.Forms.{constructor_words}
use Rattle.merc_item_forms.proofs.arguments.first_constructor_word.Given as goal

abbrev pub invariant-loop-constructor : goal.invariant-loop-constructor
invariant-loop-constructor l = first_of (flat_map constructor_words (drop l.constructor-index l.constructors)) ≡ first_of (flat_map constructor_words l.constructors)
