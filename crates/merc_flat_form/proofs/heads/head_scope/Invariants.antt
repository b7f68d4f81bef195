use Rattle.std.proofs.Common.{◌≡◌, ◌++◌, drop}
use Rattle.merc_value.specs.Text.{is_blank}
use Rattle.merc_flat_form.specs.HeadTasks.{head_parts}
use Rattle.merc_flat_form.proofs.heads.head_scope.Given as goal

abbrev pub invariant-loop-number : goal.invariant-loop-number
invariant-loop-number l =
    l.found.items ++ head_parts (is_blank l.names) l.number (drop l.number l.argument-items) ≡ head_parts (is_blank l.names) 0 l.argument-items
