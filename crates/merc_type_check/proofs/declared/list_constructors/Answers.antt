use Rattle.std.proofs.Common.{List, sym, subst}
use Rattle.merc_tree.specs.Types.{TypeExpr}
use Rattle.merc_type_check.specs.TypeNumbers.{AreAllWithin}
use Rattle.merc_type_check.proofs.declared.list_constructors.Goals as goal

pub list_type-requires : goal.list_type-requires
list_type-requires c = subst (λ (t : List TypeExpr). AreAllWithin t c.args.constructors.now) (sym c.loop-declared.invariant) c.requires
