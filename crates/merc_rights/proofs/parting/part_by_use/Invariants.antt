use Rattle.std.proofs.Common.{◌≡◌, ◌∷◌, [], take}
use Rattle.merc_graded_tree.specs.Nodes.{Node}
use Rattle.merc_graded_tree.specs.Variables.{in_node}
use Rattle.merc_rights.specs.Waits.{others, rights_of, those_waits}
use Rattle.merc_rights.proofs.parting.part_by_use.Given as goal

abbrev pub invariant-loop-wait : goal.invariant-loop-wait
invariant-loop-wait l = (goal : Node) → l.condition.goals.items ≡ goal ∷ [] → (l.parted.before ≡ rights_of (those_waits (in_node goal) (take l.wait-index l.waits))) × (l.parted.inside ≡ those_waits (others (in_node goal)) (take l.wait-index l.waits))
