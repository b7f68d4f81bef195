use Rattle.std.proofs.Common.{◌≡◌, drop}
use Rattle.merc_type_expr.specs.Unifier.{bound_to}
use Rattle.merc_type_expr.proofs.subst.Subst.get.Given as goal

abbrev pub invariant-loop-binding : goal.invariant-loop-binding
invariant-loop-binding l = bound_to (drop l.binding-index l.binding-items) l.name ≡ bound_to l.binding-items l.name
