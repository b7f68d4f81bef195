use Rattle.std.proofs.Common.{◌≡◌, ◌++◌}
use Rattle.std.specs.Vec.Iter.{into_iter_items}
use Rattle.merc_code.specs.Steps.{Codes}
use Rattle.merc_layout.specs.Entries.{AreAdded}
use Rattle.merc_layout.specs.Sizes.{TellsLent}
use Rattle.merc_layout.specs.KnownConjuncts.{AreKnownConjuncts}
use Rattle.merc_layout.proofs.conjuncts.place_conjuncts.Given as goal

abbrev pub invariant-loop-those : goal.invariant-loop-those
invariant-loop-those l = record {
  added : AreAdded l.fn.pieces l.pieces;
  left : l.yielded ++ into_iter_items l.those-iterator ≡ l.fn.conjuncts;
  known : (codes : Codes) → TellsLent l.lent codes.conjuncts → AreKnownConjuncts codes l.pieces l.table l.yielded;
}
