use Rattle.std.proofs.Common.{arith}
use Rattle.merc_type_graph.proofs.Deciding.{none_done, one_done, all_done}
use Rattle.merc_type_graph.proofs.visiting.visit_all.Goals as goal

pub loop-start-init : goal.loop-start-init
loop-start-init c = none_done c.args.store.now c.args.cells.now c.args.marks.now c.requires.count c.requires.fresh

pub loop-start-preserved : goal.loop-start-preserved
loop-start-preserved c =
    one_done c.args.store.now c.args.cells.now c.loop-start.marks c.visit_once.new.marks c.loop-start.start c.in_ok-visit_once.field-0 c.if-not-branch.false
    c.in_ok-visit_once.ensures c.loop-start.invariant

pub returns : goal.returns
returns c = all_done c.args.store.now c.args.cells.now c.loop-start.marks c.loop-start.start c.loop-start.invariant (omega arith)
