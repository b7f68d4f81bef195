use Rattle.std.proofs.Common.{◌≡◌, map, drop}
use Rattle.merc_name_resolution.specs.Indexing.{any_allowed, constructor_seen}
use Rattle.merc_name_resolution.proofs.known.any_allowed.Given as goal

abbrev pub invariant-loop-declared : goal.invariant-loop-declared
invariant-loop-declared l = any_allowed l.own l.qualifier (map constructor_seen (drop l.declared-index l.found)) ≡ any_allowed l.own l.qualifier (map constructor_seen l.found)
