use Rattle.std.proofs.Common.{◌≡◌, take}
use Rattle.std.specs.List.{filter}
use Rattle.merc_graded_tree.specs.Nodes.{nodes_of}
use Rattle.merc_rights.specs.Waits.{moves, rights_of, stays}
use Rattle.merc_rights.proofs.parting.part_by_moves.Given as goal

abbrev pub invariant-loop-wait : goal.invariant-loop-wait
invariant-loop-wait l = record { before : l.parted.before ≡ rights_of (filter (stays (nodes_of l.members.goals.items)) (take l.wait-index l.waits)); inside : l.parted.inside ≡ filter (moves (nodes_of l.members.goals.items)) (take l.wait-index l.waits) }
