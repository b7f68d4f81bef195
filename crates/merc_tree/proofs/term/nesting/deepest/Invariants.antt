use Rattle.std.proofs.Common.{◌≡◌, drop}
use Rattle.merc_tree.specs.Nesting.{greater}
use Rattle.merc_tree.specs.Parts.{deepest_part}
use Rattle.merc_tree.proofs.term.nesting.deepest.Given as goal

abbrev pub invariant-loop-part : goal.invariant-loop-part
invariant-loop-part l = greater l.deepest (deepest_part (drop l.part-index l.parts)) ≡ deepest_part l.parts
