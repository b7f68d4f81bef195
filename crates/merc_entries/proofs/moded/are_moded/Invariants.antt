use Rattle.std.proofs.Common.{◌≡◌, length}
use Rattle.std.specs.List.{list_all}
use Rattle.merc_item_forms.specs.Forms.{is_moded}
use Rattle.merc_entries.proofs.moded.are_moded.Given as goal

abbrev pub invariant-loop-last : goal.invariant-loop-last
invariant-loop-last l = list_all is_moded l.arguments ≡ list_all is_moded l.fn.arguments

abbrev pub decreases-loop-last : goal.decreases-loop-last
decreases-loop-last l = length l.arguments
