use Rattle.std.proofs.Common.{◌≡◌, drop}
use Rattle.merc_type_expr.specs.Solving.{walked}
use Rattle.merc_type_expr.proofs.following.walked_found.Given as goal

abbrev pub invariant-loop-binding : goal.invariant-loop-binding
invariant-loop-binding l = walked (drop l.binding-index l.found) l.at ≡ walked l.found l.of
