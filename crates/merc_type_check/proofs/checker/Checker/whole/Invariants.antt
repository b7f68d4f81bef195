use Rattle.std.proofs.Common.{map, take}
use Rattle.merc_type_check.specs.Progress.{AllStand, Nothing, Step}
use Rattle.merc_type_check.proofs.checker.Checker.whole.Given as goal

abbrev pub invariant-loop-name : goal.invariant-loop-name
invariant-loop-name l = record {
  grows : Step l.fn.self l.self Nothing;
  stand : AllStand l.self l.places.items (λ types instance. map (instance l.fn.user) (take l.name-index l.params));
}
