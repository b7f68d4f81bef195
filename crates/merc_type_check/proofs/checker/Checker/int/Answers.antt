use Rattle.std.proofs.Common.{◌≡◌, List, Some, subst}
use Rattle.std.specs.Prelude.{slice_get}
use Rattle.merc_tree.specs.Types.{TypeExpr, IntType}
use Rattle.merc_type_check.proofs.checker.Checker.int.Goals as goal

pub returns : goal.returns
returns c = subst (λ (t : List TypeExpr). slice_get t c.int.result ≡ Some IntType) c.requires.table c.int.ensures
