use Rattle.std.proofs.Common.{◌≡◌, ◌++◌, ℕ, map, drop}
use Rattle.merc_base.specs.Groups.{kept}
use Rattle.merc_name_resolution.specs.Indexing.{predicate_seen, predicates_from}
use Rattle.merc_name_resolution.proofs.indexing.predicates_of.Given as goal

abbrev pub invariant-loop-number : goal.invariant-loop-number
invariant-loop-number l = (name arity : ℕ) → map predicate_seen (kept l.groups name arity) ++ predicates_from l.number (drop l.number l.preds) name arity ≡ predicates_from 0 l.preds name arity
