use Rattle.std.proofs.Common.{◌≡◌, map, drop}
use Rattle.merc_name_resolution.specs.Indexing.{first_allowed, predicate_seen}
use Rattle.merc_name_resolution.proofs.known.first_allowed.Given as goal

abbrev pub invariant-loop-number : goal.invariant-loop-number
invariant-loop-number l = first_allowed l.own l.qualifier (map predicate_seen (drop l.number-index l.found)) l.none ≡ first_allowed l.own l.qualifier (map predicate_seen l.found) l.none
