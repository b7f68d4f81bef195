use Rattle.std.proofs.Common.{◌≡◌, ◌++◌, drop}
use Rattle.std.specs.List.{flat_map}
use Rattle.merc_goal_tree.specs.Parts.{parts_of}
use Rattle.merc_bodies.specs.Occurrences.{own_in, own_among, part_variables}
use Rattle.merc_bodies.proofs.occurrences.occurrences.Given as goal

abbrev pub invariant-loop-index : goal.invariant-loop-index
invariant-loop-index l = l.own.items ++ own_in l.arity (flat_map part_variables (drop l.index (parts_of l.form))) ≡ own_among l.arity l.form
