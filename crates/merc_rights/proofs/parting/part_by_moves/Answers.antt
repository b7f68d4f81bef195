use Rattle.std.proofs.Common.{◌∙◌, ap, sym, not}
use Rattle.merc_graded_tree.specs.Nodes.{nodes_of}
use Rattle.merc_rights.specs.Waits.{moves, stays}
use Rattle.merc_rights.proofs.MoveLaws.{parted_more, not_not}
use Rattle.merc_rights.proofs.parting.part_by_moves.Goals as goal

pub loop-wait-preserved : goal.loop-wait-preserved
loop-wait-preserved c =
    let goals = nodes_of c.args.members.now.goals.items in
    let more = parted_more (stays goals) (moves goals) c.args.waits.now c.loop-wait.wait-index c.wait-item.result (not c.moves-moves.result)
    c.loop-wait.parted.before c.put.new.parted.before c.loop-wait.parted.inside c.put.new.parted.inside
    c.wait-item.is c.loop-wait-test.true (ap not (sym c.moves-moves.ensures)) (sym c.moves-moves.ensures ∙ not_not c.moves-moves.result)
    c.loop-wait.invariant.before c.loop-wait.invariant.inside c.in_ok-put.ensures.before c.in_ok-put.ensures.inside in
    record { before = more.0; inside = more.1 }
