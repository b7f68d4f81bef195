use Rattle.merc_goal_tree.specs.Parts.{parts_of}
use Rattle.merc_bodies.specs.Numbering.{new_number}
use Rattle.merc_bodies.proofs.Parts.{is_there, first_left}
use Rattle.merc_bodies.proofs.Rebuilds.{rebuilds, all_found_at, next_found, rest_found, rest_rebuilt}
use Rattle.merc_bodies.proofs.renaming.push_renamed.Goals as goal

pub loop-index-init : goal.loop-index-init
loop-index-init c = record {
  found = all_found_at c.args.form.now _;
  same = rebuilds (new_number c.args.numbering.now) c.args.form.now c.args.nodes.now;
}

pub push_part-requires-clause-there : goal.push_part-requires-clause-there
push_part-requires-clause-there c =
    next_found (new_number c.args.numbering.now) _ _ _ _ (first_left (parts_of c.args.form.now) c.loop-index.index _ c.in-Some.ensures) c.loop-index.invariant.found

pub unreachable-requires : goal.unreachable-requires
unreachable-requires c = is_there _ c.loop-index.index c.part_count-index-end.result c.in-None.ensures c.loop-index-test.true c.part_count-index-end.ensures

pub loop-index-preserved : goal.loop-index-preserved
loop-index-preserved c =
    let next = first_left (parts_of c.args.form.now) c.loop-index.index _ c.in-Some.ensures in
    record {
      found = rest_found (new_number c.args.numbering.now) _ _ _ _ _ next c.in_ok-push_part-in-Some.ensures c.loop-index.invariant.found;
      same = rest_rebuilt (new_number c.args.numbering.now) _ _ _ _ _ _ next c.in_ok-push_part-in-Some.ensures c.loop-index.invariant.same;
    }
