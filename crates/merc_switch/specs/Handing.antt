-- The counts of one of several lists of disjuncts.
use Rattle.std.specs.Prelude.{◌<◌, List, [], length, Option, IfSome}
use Rattle.std.specs.List.{slice_index_or}
use Rattle.merc_graded_tree.specs.Nodes.{Node, outputs_of}
use Rattle.merc_switch.specs.declared.handing.Handed.{Handed}
use Rattle.merc_switch.specs.Selections.{CountsOutputs}

-- the counts are those of the list at that index, as long as there is one
abbrev pub IsHanded : Node → Option Handed → List (List Node) → Type 0
IsHanded whole handed groups = IfSome handed (λ handed. handed.index < length groups → CountsOutputs (outputs_of whole) handed.counts (slice_index_or groups handed.index []))
