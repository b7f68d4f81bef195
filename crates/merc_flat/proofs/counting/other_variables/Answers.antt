use Rattle.merc_goal_tree.specs.Parts.{parts_of}
use Rattle.merc_flat.proofs.CountLaws.{no_part, part_added, same_numbers}
use Rattle.merc_flat.proofs.counting.other_variables.Goals as goal
use Rattle.merc_flat.proofs.counting.other_variables.Goals.{in-Some+in_ok-add_root, in_default}

pub loop-index-preserved : goal.loop-index-preserved
loop-index-preserved c =
    elim c.match-part.branch [
      | in-Some+in_ok-add_root w ↦
          rw w.found-is
          (same_numbers _ _ _ (part_added c.args.arity (parts_of c.args.goal.now) c.loop-index.index w.in-Some.root.now w.in-Some.field-0-1 w.in-Some.ensures)
          (w.in_ok-add_root.ensures _ c.loop-index.invariant))
      | in_default w ↦
          rw w.found-is (same_numbers _ _ _ (no_part c.args.arity (parts_of c.args.goal.now) c.loop-index.index w.in_default.ensures) c.loop-index.invariant)
    ]
