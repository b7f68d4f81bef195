use Rattle.std.proofs.Common.{◌≡◌, ◌∷◌, [], ◌++◌, drop, length}
use Rattle.merc_goal_tree.specs.Parts.{parts_of}
use Rattle.merc_bodies.specs.Renamed.{renamed}
use Rattle.merc_bodies.specs.Rebuilding.{rebuilt, AreFound}
use Rattle.merc_bodies.specs.Numbering.{new_number}
use Rattle.merc_bodies.proofs.renaming.push_renamed.Given as goal

abbrev pub invariant-loop-index : goal.invariant-loop-index
invariant-loop-index l = record {
  found : AreFound (drop l.index (parts_of l.form)) (length l.nodes);
  same : rebuilt (new_number l.numbering) (drop l.index (parts_of l.form)) l.nodes ≡ l.fn.nodes ++ renamed (new_number l.numbering) l.form ∷ [];
}
