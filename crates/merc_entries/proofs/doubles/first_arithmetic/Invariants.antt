use Rattle.std.proofs.Common.{◌≡◌, map, drop}
use Rattle.merc_entries.specs.DoubleFaults.{is_arithmetic}
use Rattle.merc_entries.specs.FirstPlaces.{declared_value, first_such}
use Rattle.merc_entries.proofs.doubles.first_arithmetic.Given as goal

abbrev pub invariant-loop-constructor : goal.invariant-loop-constructor
invariant-loop-constructor l =
    first_such is_arithmetic (map (declared_value (λ key. key)) (drop l.constructor-index l.constructors))
    ≡ first_such is_arithmetic (map (declared_value (λ key. key)) l.constructors)
