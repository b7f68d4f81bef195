use Rattle.std.proofs.Common.{◌≡◌, ◌++◌}
use Rattle.merc_value.specs.Text.{is_blank}
use Rattle.merc_scopes.specs.Scopes.{occurrences}
use Rattle.merc_flat_form.proofs.HeadLaws.{waiting, sizes}
use Rattle.merc_flat_form.proofs.heads.push_occurrences.Given as goal

abbrev pub invariant-loop-part : goal.invariant-loop-part
invariant-loop-part l =
    l.found.items ++ waiting (is_blank l.names) l.left.items ≡ l.fn.found.items ++ occurrences (is_blank l.names) l.whole.at l.whole.term

abbrev pub decreases-loop-part : goal.decreases-loop-part
decreases-loop-part l = sizes l.left.items
