use Rattle.std.proofs.Common.{◌≡◌, ◌==◌, true, drop}
use Rattle.merc_item_forms.specs.FormChecks.{refusal_from}
use Rattle.merc_item_forms.proofs.forms.first_refusal.Given as goal

abbrev pub invariant-loop-index : goal.invariant-loop-index
invariant-loop-index l = refusal_from l.names l.own (l.index == 0) (drop l.index l.terms) ≡ refusal_from l.names l.own true l.terms
