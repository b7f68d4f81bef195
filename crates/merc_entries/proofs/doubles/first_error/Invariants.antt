use Rattle.std.proofs.Common.{◌≡◌, map, drop}
use Rattle.merc_base.specs.Names.{error_name}
use Rattle.merc_entries.specs.Entries.{is_key, key}
use Rattle.merc_entries.specs.FirstPlaces.{declared_value, first_such}
use Rattle.merc_entries.proofs.doubles.first_error.Given as goal

abbrev pub invariant-loop-predicate : goal.invariant-loop-predicate
invariant-loop-predicate l =
    first_such (is_key (key error_name 1)) (map (declared_value (λ key. key)) (drop l.predicate-index l.predicates))
    ≡ first_such (is_key (key error_name 1)) (map (declared_value (λ key. key)) l.predicates)
