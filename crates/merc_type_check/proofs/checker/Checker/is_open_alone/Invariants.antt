use Rattle.std.proofs.Common.{take}
use Rattle.std.specs.List.{AllByRecursion}
use Rattle.merc_type_check.specs.Serving.{IsClosedBut}
use Rattle.merc_type_check.proofs.checker.Checker.is_open_alone.Given as goal

abbrev pub invariant-loop-number : goal.invariant-loop-number
invariant-loop-number l = AllByRecursion (IsClosedBut l.self.graph.table l.only) (take l.number-index l.numbers)
