use Rattle.std.proofs.Common.{take}
use Rattle.merc_type_matching.specs.Matched.{AgreeOn}
use Rattle.merc_type_check.specs.Progress.{Step}
use Rattle.merc_type_check.proofs.checker.Checker.stand_alike.Given as goal

abbrev pub invariant-loop-pair : goal.invariant-loop-pair
invariant-loop-pair l = Step l.fn.self l.self (λ types instance. AgreeOn (instance l.fn.one) (instance l.fn.other) (take l.pair-index l.pairs))
