use Rattle.std.proofs.Common.{◌≡◌, drop, Some}
use Rattle.std.specs.List.{flat_map}
use Rattle.merc_item_forms.specs.FormChecks.{first_of}
use Rattle.merc_item_forms.specs.Forms.{mode_words}
use Rattle.merc_item_forms.proofs.arguments.first_mode_word.Given as goal

abbrev pub invariant-loop-mode : goal.invariant-loop-mode
invariant-loop-mode l = first_of (flat_map (λ mode. mode_words (Some mode)) (drop l.mode-index l.modes)) ≡ first_of (flat_map (λ mode. mode_words (Some mode)) l.modes)
