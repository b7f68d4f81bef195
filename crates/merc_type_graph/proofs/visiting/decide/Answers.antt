use Rattle.std.proofs.Common.{length, ◌∙◌}
use Rattle.merc_type_graph.proofs.Deciding.{new_marks}
use Rattle.merc_type_graph.proofs.visiting.decide.Goals as goal

pub visit_all-requires-clause-fresh : goal.visit_all-requires-clause-fresh
visit_all-requires-clause-fresh c =
    new_marks (length c.args.cells.now) c.deref_mut.result.now (c.deref_mut.ensures.value ∙ c.in_ok-marks.ensures.items_if_clones_equal (λ y e. e))
