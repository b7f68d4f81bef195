use Rattle.std.proofs.Common.{◌≡◌, map, take}
use Rattle.merc_rights.specs.Rows.{pairs_from}
use Rattle.merc_graded_tree.specs.Nodes.{outputs_of}
use Rattle.merc_rights.proofs.members.binders.Given as goal

abbrev pub invariant-loop-number : goal.invariant-loop-number
invariant-loop-number l = l.pairs.items ≡ pairs_from 0 (map outputs_of (take l.number l.goals))
