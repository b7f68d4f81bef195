use Rattle.std.proofs.Common.{◌≡◌, ◌<◌, List, length, sym, subst}
use Rattle.merc_tree.specs.Types.{TypeExpr}
use Rattle.merc_type_table.specs.Table.{made, type_at, IsComplete}
use Rattle.merc_type_check.proofs.checker.Checker.node.Goals as goal

pub node-requires : goal.node-requires
node-requires c = subst (λ (t : List TypeExpr). c.args.number < length t) (sym c.requires.sound.table) c.requires.declared

pub returns-clause-is : goal.returns-clause-is
returns-clause-is c = subst (λ (t : List TypeExpr). type_at t c.args.number ≡ made t c.node.result) c.requires.sound.table c.node.ensures.is

pub returns-clause-complete : goal.returns-clause-complete
returns-clause-complete c = subst (λ (t : List TypeExpr). IsComplete t c.node.result) c.requires.sound.table c.node.ensures.complete
