use Rattle.std.proofs.Common.{◌≡◌, ◌++◌}
use Rattle.std.specs.Vec.Iter.{into_iter_items}
use Rattle.merc_code.specs.Steps.{Codes}
use Rattle.merc_layout.specs.Entries.{AreAdded, Each}
use Rattle.merc_layout.specs.Sizes.{TellsLent}
use Rattle.merc_layout.specs.KnownConjuncts.{IsKnownConjunct}
use Rattle.merc_layout.proofs.conjuncts.place_those.Given as goal

abbrev pub invariant-loop-conjunct : goal.invariant-loop-conjunct
invariant-loop-conjunct l = record {
  added : AreAdded l.fn.pieces l.pieces;
  left : l.yielded ++ into_iter_items l.conjunct-iterator ≡ l.fn.those;
  known : (codes : Codes) → TellsLent l.lent codes.conjuncts → Each (IsKnownConjunct codes l.pieces) l.known l.yielded;
}
