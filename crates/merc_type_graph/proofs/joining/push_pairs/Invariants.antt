use Rattle.std.proofs.Common.{◌≡◌, ◌++◌}
use Rattle.merc_type_graph.specs.Joining.{zipped}
use Rattle.merc_type_graph.proofs.joining.push_pairs.Given as goal

abbrev pub invariant-loop-one : goal.invariant-loop-one
invariant-loop-one l = l.pairs.items ++ zipped l.one-iterator.a.rest.now l.one-iterator.b.rest.now ≡ l.fn.pairs.items ++ zipped l.ones l.others
