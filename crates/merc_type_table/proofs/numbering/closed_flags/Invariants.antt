use Rattle.std.proofs.Common.{◌≡◌, map, take}
use Rattle.merc_type_table.specs.Table.{is_closed, types_made}
use Rattle.merc_type_table.proofs.numbering.closed_flags.Given as goal

abbrev pub invariant-loop-node : goal.invariant-loop-node
invariant-loop-node l = l.closed.items ≡ take l.node-index (map is_closed (types_made l.nodes))
