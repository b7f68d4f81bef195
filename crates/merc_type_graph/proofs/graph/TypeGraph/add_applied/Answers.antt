use Rattle.std.proofs.Common.{◌≡◌, ap}
use Rattle.std.proofs.lemmas.Result.{on_ok_weaker}
use Rattle.merc_type_graph.specs.Solutions.{Applied, Graph}
use Rattle.merc_type_graph.specs.Cells.{entries_of}
use Rattle.merc_type_graph.proofs.Adding.{adds_applied}
use Rattle.merc_type_graph.proofs.graph.TypeGraph.add_applied.Goals as goal

pub returns-clause-solutions : goal.returns-clause-solutions
returns-clause-solutions c =
    let view : entries_of c.self.inside.store c.self.inside.cells.items ≡ c.args.self.now.entries = ap (λ (g : Graph). g.entries) c.self.view_is in
    on_ok_weaker c.add_application.result
    (λ h. adds_applied c.args.self.now.entries (entries_of c.add_application.new.store c.add_application.new.cells.items)
    (entries_of c.self.inside.store c.self.inside.cells.items) (Applied c.args.name c.args.arguments.now) view h)
    c.add_application.ensures.added
