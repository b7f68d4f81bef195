use Rattle.std.proofs.Common.{◌≡◌, take}
use Rattle.merc_type_expr.proofs.solving.owned.Given as goal

abbrev pub invariant-loop-binding : goal.invariant-loop-binding
invariant-loop-binding l = l.bindings.items ≡ take l.binding-index l.found
