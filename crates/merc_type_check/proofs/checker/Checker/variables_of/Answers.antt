use Rattle.std.proofs.Common.{List, subst}
use Rattle.std.specs.Option.{IfSome}
use Rattle.merc_tree.specs.Types.{TypeExpr}
use Rattle.merc_type_table.specs.Table.{type_at}
use Rattle.merc_type_matching.specs.Matched.{AreMatched}
use Rattle.merc_type_check.proofs.checker.Checker.variables_of.Goals as goal

pub returns : goal.returns
returns c =
    subst (λ (t : List TypeExpr). IfSome c.variables_of.result (λ pairs. AreMatched pairs.now (type_at t c.args.number) (type_at t c.args.number))) c.requires.listed
    c.variables_of.ensures
