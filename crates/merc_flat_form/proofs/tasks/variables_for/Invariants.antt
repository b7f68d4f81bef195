use Rattle.std.proofs.Common.{◌≡◌, ◌++◌, map, drop}
use Rattle.merc_value.specs.Text.{is_blank}
use Rattle.merc_flat_form.specs.Levels.{scope_of}
use Rattle.merc_flat_form.specs.Tasks.{variable_for}
use Rattle.merc_flat_form.proofs.tasks.variables_for.Given as goal

abbrev pub invariant-loop-argument : goal.invariant-loop-argument
invariant-loop-argument l =
    l.found.items ++ map (variable_for (is_blank l.names) (scope_of l.stack)) (drop l.argument-index l.arguments)
    ≡ map (variable_for (is_blank l.names) (scope_of l.stack)) l.arguments
