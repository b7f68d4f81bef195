use Rattle.std.proofs.Common.{◌≡◌, map, take}
use Rattle.merc_flat_form.proofs.opening.variables_of.Given as goal

abbrev pub invariant-loop-one : goal.invariant-loop-one
invariant-loop-one l = l.variables ≡ map (λ one. one.at) (take l.one-index l.found)
