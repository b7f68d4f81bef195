use Rattle.std.proofs.Common.{◌<◌, length, arith}
use Rattle.std.proofs.lemmas.List.{length-drop}
use Rattle.merc_core.proofs.QueueLists.{not-empty, starve-some, starve-kept, starve-room}
use Rattle.merc_core.proofs.cell.starve_all.Goals as goal

pub move_first-requires-clause-some : goal.move_first-requires-clause-some
move_first-requires-clause-some c =
    let some : 0 < length c.loop-branches.branches = not-empty (length c.loop-branches.branches) c.loop-branches-test.ensures in
    omega (arith, starve-some c.loop-branches.branches c.end_first.new.list some c.end_first.ensures)

pub move_first-requires-clause-room : goal.move_first-requires-clause-room
move_first-requires-clause-room c =
    let some : 0 < length c.loop-branches.branches = not-empty (length c.loop-branches.branches) c.loop-branches-test.ensures in
    omega (arith, starve-room c.loop-branches.list c.loop-branches.branches c.args.list.now c.args.branches.now c.loop-branches.invariant, c.requires)

pub loop-branches-smaller : goal.loop-branches-smaller
loop-branches-smaller c =
    let some : 0 < length c.loop-branches.branches = not-empty (length c.loop-branches.branches) c.loop-branches-test.ensures in
    let e = starve-some c.loop-branches.branches c.end_first.new.list some c.end_first.ensures in
    rw c.move_first.ensures.from (simp length-drop (omega (arith, e, some)))

pub loop-branches-preserved : goal.loop-branches-preserved
loop-branches-preserved c =
    let some : 0 < length c.loop-branches.branches = not-empty (length c.loop-branches.branches) c.loop-branches-test.ensures in
    let kept = starve-kept c.loop-branches.list c.loop-branches.branches c.end_first.new.list _ some c.end_first.ensures c.loop-branches.invariant in
    rw (c.move_first.ensures.from, c.move_first.ensures.into) kept
