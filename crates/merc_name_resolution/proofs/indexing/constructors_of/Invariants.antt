use Rattle.std.proofs.Common.{◌≡◌, ◌++◌, ℕ, map, drop}
use Rattle.merc_base.specs.Groups.{kept}
use Rattle.merc_name_resolution.specs.Indexing.{constructor_seen, constructors_of}
use Rattle.merc_name_resolution.proofs.indexing.constructors_of.Given as goal

abbrev pub invariant-loop-declared : goal.invariant-loop-declared
invariant-loop-declared l = (name arity : ℕ) → map constructor_seen (kept l.groups name arity) ++ constructors_of (drop l.declared-index l.types) name arity ≡ constructors_of l.types name arity
