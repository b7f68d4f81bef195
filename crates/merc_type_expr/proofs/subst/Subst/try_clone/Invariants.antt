use Rattle.std.proofs.Common.{◌≡◌, take}
use Rattle.merc_type_expr.proofs.subst.Subst.try_clone.Given as goal

abbrev pub invariant-loop-binding : goal.invariant-loop-binding
invariant-loop-binding l = l.bindings.items ≡ take l.binding-index l.binding-items
