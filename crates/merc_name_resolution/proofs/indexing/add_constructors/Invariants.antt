use Rattle.std.proofs.Common.{◌≡◌, ◌++◌, ℕ, map, drop}
use Rattle.merc_base.specs.Groups.{kept}
use Rattle.merc_name_resolution.specs.Indexing.{constructor_seen, constructors_among}
use Rattle.merc_name_resolution.proofs.indexing.add_constructors.Given as goal

abbrev pub invariant-loop-constructor : goal.invariant-loop-constructor
invariant-loop-constructor l = (name arity : ℕ) → map constructor_seen (kept l.groups name arity) ++ constructors_among l.declared (drop l.constructor-index l.constructor-items) name arity ≡ map constructor_seen (kept l.fn.groups name arity) ++ constructors_among l.declared l.constructor-items name arity
