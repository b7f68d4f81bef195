-- The clauses before the index are typed, and what is kept of declared types is so.
use Rattle.std.proofs.Common.{◌≡◌, map, take}
use Rattle.std.specs.List.{AllByRecursion}
use Rattle.merc_tree.specs.declared.declarations.Clause.{Clause}
use Rattle.merc_goal_tree.specs.Nodes.{Node}
use Rattle.merc_type_matching.specs.Kept.{AreKept}
use Rattle.merc_check.specs.Untyped.{IsTypedAs}
use Rattle.merc_check.proofs.checking.first_untyped.Given as goal

abbrev pub invariant-loop-index : goal.invariant-loop-index
invariant-loop-index l = record {
  typed : (form : Clause → Node) → l.forms ≡ map form l.known.clauses → AllByRecursion (IsTypedAs l.known form) (take l.index l.clause-items);
  kept : AreKept l.declared.table l.matchings;
}
