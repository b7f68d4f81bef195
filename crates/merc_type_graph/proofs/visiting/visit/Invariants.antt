use Rattle.std.proofs.Common.{◌≡◌, ◌≢◌, ℕ, reverse}
use Rattle.merc_type_graph.specs.Visiting.{mark_at, visit_left, IsVisiting}
use Rattle.merc_type_graph.specs.declared.visiting.Mark.TheVariants.{New, Done}
use Rattle.merc_type_graph.proofs.visiting.visit.Given as goal

abbrev pub invariant-loop-frame : goal.invariant-loop-frame
invariant-loop-frame l = record {
  visiting : IsVisiting l.store l.cells l.marks (reverse l.stack.items);
  kept : (i : ℕ) → mark_at l.fn.marks i ≡ Done → mark_at l.marks i ≡ Done;
  begun : mark_at l.marks l.start ≢ New;
}

abbrev pub decreases-loop-frame : goal.decreases-loop-frame
decreases-loop-frame l = visit_left l.store l.cells l.marks (reverse l.stack.items)
