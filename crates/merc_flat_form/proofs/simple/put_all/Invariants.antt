use Rattle.std.proofs.Common.{◌≡◌, ◌++◌}
use Rattle.merc_flat_form.specs.FlatForm.{simple}
use Rattle.merc_flat_form.proofs.simple.put_all.Given as goal

abbrev pub invariant-loop-goal : goal.invariant-loop-goal
invariant-loop-goal l = l.nodes ≡ l.fn.nodes ++ simple l.span l.yielded
