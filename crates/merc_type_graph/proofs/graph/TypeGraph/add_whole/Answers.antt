use Rattle.std.proofs.Common.{◌≡◌, List, ap, subst}
use Rattle.std.proofs.lemmas.Result.{on_ok_weaker}
use Rattle.merc_tree.specs.Types.{TypeExpr}
use Rattle.merc_type_table.specs.Table.{type_at}
use Rattle.merc_type_graph.specs.Solutions.{Graph, WholeEntry}
use Rattle.merc_type_graph.specs.Cells.{entries_of}
use Rattle.merc_type_graph.specs.Changes.{Adds}
use Rattle.merc_type_graph.proofs.Adding.{adds_applied}
use Rattle.merc_type_graph.proofs.graph.TypeGraph.add_whole.Goals as goal

pub returns-clause-solutions : goal.returns-clause-solutions
returns-clause-solutions c =
    let view : entries_of c.self.inside.store c.self.inside.cells.items ≡ c.args.self.now.entries = ap (λ (g : Graph). g.entries) c.self.view_is in
    let table : c.self.inside.store.table.now ≡ c.args.self.now.table = ap (λ (g : Graph). g.table) c.self.view_is in
    on_ok_weaker c.add.result
    (λ h. subst (λ (t : List TypeExpr). Adds c.args.self.now.entries (entries_of c.self.inside.store c.add.new.cells.items) (WholeEntry (type_at t c.args.whole))) table
    (adds_applied c.args.self.now.entries (entries_of c.self.inside.store c.add.new.cells.items) (entries_of c.self.inside.store c.self.inside.cells.items)
    (WholeEntry (type_at c.self.inside.store.table.now c.args.whole)) view h))
    c.add.ensures.added
