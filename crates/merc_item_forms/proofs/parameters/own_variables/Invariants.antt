use Rattle.std.proofs.Common.{◌≡◌, ◌++◌, drop}
use Rattle.merc_item_forms.specs.Parameters.{own_variables}
use Rattle.merc_item_forms.proofs.parameters.own_variables.Given as goal

abbrev pub invariant-loop-parameter : goal.invariant-loop-parameter
invariant-loop-parameter l = l.variables.items ++ own_variables l.names (drop l.parameter-index l.parameters) ≡ own_variables l.names l.parameters
