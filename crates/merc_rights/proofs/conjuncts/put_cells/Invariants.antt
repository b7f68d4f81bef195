use Rattle.std.proofs.Common.{◌≡◌, ◌++◌, map, take}
use Rattle.merc_rights.proofs.conjuncts.put_cells.Given as goal

abbrev pub invariant-loop-consumer : goal.invariant-loop-consumer
invariant-loop-consumer l = l.cells.items ≡ l.fn.cells.items ++ map (λ consumer. record { variable = l.variable; producer = l.producer; consumer = consumer }) (take l.consumer-index l.consumers)
