use Rattle.std.proofs.Common.{◌≡◌, List, Some, subst}
use Rattle.std.specs.Prelude.{slice_get}
use Rattle.merc_tree.specs.Types.{TypeExpr, TextType}
use Rattle.merc_type_check.proofs.checker.Checker.text.Goals as goal

pub returns : goal.returns
returns c = subst (λ (t : List TypeExpr). slice_get t c.text.result ≡ Some TextType) c.requires.table c.text.ensures
