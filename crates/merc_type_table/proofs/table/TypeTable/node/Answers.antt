use Rattle.std.proofs.Common.{◌≡◌, ◌<◌, length, Some, ap, arith}
use Rattle.std.specs.Prelude.{slice_get}
use Rattle.merc_type_table.proofs.Made.{count_made, made_at, read_there}
use Rattle.merc_type_table.proofs.table.TypeTable.node.Goals as goal

pub index-requires-2 : goal.index-requires-2
index-requires-2 c =
    let count = count_made c.self.inside.nodes.items in
    let view = ap length c.self.view_is in
    let less = c.requires in
    omega arith

pub returns-clause-is : goal.returns-clause-is
returns-clause-is c =
    let count = count_made c.self.inside.nodes.items in
    let view = ap length c.self.view_is in
    let less : c.args.number < length c.self.inside.nodes.items = let l = c.requires in omega arith in
    let there : slice_get c.self.inside.nodes.items c.args.number ≡ Some c.index-2.result.now =
    read_there c.self.inside.nodes.items c.index.result c.args.number c.index-2.result.now c.index.ensures less c.index-2.ensures in
    rw (← c.self.view_is) (made_at c.self.inside.nodes.items c.args.number c.index-2.result.now there (c.self.invariant.before c.args.number c.index-2.result.now there))

pub returns-clause-before : goal.returns-clause-before
returns-clause-before c =
    let count = count_made c.self.inside.nodes.items in
    let view = ap length c.self.view_is in
    let less : c.args.number < length c.self.inside.nodes.items = let l = c.requires in omega arith in
    c.self.invariant.before c.args.number c.index-2.result.now
    (read_there c.self.inside.nodes.items c.index.result c.args.number c.index-2.result.now c.index.ensures less c.index-2.ensures)

pub returns-clause-complete : goal.returns-clause-complete
returns-clause-complete c =
    let count = count_made c.self.inside.nodes.items in
    let view = ap length c.self.view_is in
    let less : c.args.number < length c.self.inside.nodes.items = let l = c.requires in omega arith in
    rw (← c.self.view_is) (c.self.invariant.complete c.args.number c.index-2.result.now
    (read_there c.self.inside.nodes.items c.index.result c.args.number c.index-2.result.now c.index.ensures less c.index-2.ensures))
