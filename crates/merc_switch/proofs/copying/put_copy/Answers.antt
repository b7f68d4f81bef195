use Rattle.merc_graded_tree.specs.Labels.{labels_of}
use Rattle.merc_switch.proofs.Copies.{all_found, builds, first_left, is_there, next_found, rest_found, rest_built}
use Rattle.merc_switch.proofs.copying.put_copy.Goals as goal

pub loop-index-init : goal.loop-index-init
loop-index-init c = record { found = all_found c.args.goal.now _; same = builds c.args.goal.now c.args.found.now }

pub put-requires : goal.put-requires
put-requires c =
    next_found _ _ _ _ _ c.in_ok-try_clone-in-Some.ensures (first_left (labels_of c.args.goal.now) c.loop-index.index c.in-Some.label c.in-Some.ensures) c.loop-index.invariant.found

pub unreachable-requires : goal.unreachable-requires
unreachable-requires c = is_there _ c.loop-index.index c.part_count-index-end.result c.in-None.ensures c.loop-index-test.true c.part_count-index-end.ensures

pub loop-index-preserved : goal.loop-index-preserved
loop-index-preserved c =
    let next = first_left (labels_of c.args.goal.now) c.loop-index.index c.in-Some.label c.in-Some.ensures in
    let same = c.in_ok-try_clone-in-Some.ensures in
    record {
      found = rest_found _ _ _ _ _ _ same next c.in_ok-put-in-Some.ensures.ok c.loop-index.invariant.found;
      same = rest_built _ _ _ _ _ _ _ same next c.in_ok-put-in-Some.ensures.ok c.loop-index.invariant.same;
    }
