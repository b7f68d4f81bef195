use Rattle.std.proofs.Common.{◌≡◌, ◌++◌, drop, map}
use Rattle.merc_bodies.specs.Numbering.{new_number}
use Rattle.merc_bodies.proofs.renaming.new_variables.Given as goal

abbrev pub invariant-loop-variable : goal.invariant-loop-variable
invariant-loop-variable l = l.new ++ map (new_number l.numbering) (drop l.variable-index l.variables) ≡ map (new_number l.numbering) l.variables
