use Rattle.std.proofs.Common.{◌≡◌, drop}
use Rattle.std.specs.List.{flat_map}
use Rattle.merc_item_forms.specs.FormChecks.{first_of}
use Rattle.merc_item_forms.specs.Forms.{argument_words}
use Rattle.merc_item_forms.proofs.arguments.first_argument_word.Given as goal

abbrev pub invariant-loop-argument : goal.invariant-loop-argument
invariant-loop-argument l = first_of (flat_map argument_words (drop l.argument-index l.arguments)) ≡ first_of (flat_map argument_words l.arguments)
