-- A term has two numbers for each of its parts.
use Rattle.std.proofs.Common.{◌≡◌, ◌+◌, length, arith}
use Rattle.std.proofs.lemmas.List.{length-append}
use Rattle.merc_tree.specs.Term.{Term, Terms, Variable, Integer, Text, Application, none, more}
use Rattle.merc_tree.specs.Postfix.{shapes_of, all_shapes}
use Rattle.merc_goals.specs.Written.{parts, parts_of}

mutual
  pub parts_shapes : (term : Term) → parts term ≡ length (shapes_of term) + length (shapes_of term)
  parts_shapes (Variable name span) = omega arith
  parts_shapes (Integer value span) = omega arith
  parts_shapes (Text text span) = omega arith
  parts_shapes (Application name qualifier arguments span) = omega (arith, all_parts_shapes arguments, length-append (all_shapes arguments))

  all_parts_shapes : (terms : Terms) → parts_of terms ≡ length (all_shapes terms) + length (all_shapes terms)
  all_parts_shapes none = omega arith
  all_parts_shapes (more first rest) = omega (arith, parts_shapes first, all_parts_shapes rest, length-append (shapes_of first) (all_shapes rest))
