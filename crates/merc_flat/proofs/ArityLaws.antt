-- A term has no more arguments than numbers.
use Rattle.std.proofs.Common.{◌≤◌, length, arith}
use Rattle.merc_tree.specs.Term.{Term, Terms, Variable, Integer, Text, Application, none, more, list_of}
use Rattle.merc_tree.specs.Shape.{arguments_of}
use Rattle.merc_goals.specs.Written.{parts, parts_of}

one_or_more : (term : Term) → 1 ≤ parts term
one_or_more (Variable name span) = omega arith
one_or_more (Integer value span) = omega arith
one_or_more (Text text span) = omega arith
one_or_more (Application name qualifier arguments span) = omega arith

fewer_terms : (terms : Terms) → length (list_of terms) ≤ parts_of terms
fewer_terms none = omega arith
fewer_terms (more first rest) = omega (arith, one_or_more first, fewer_terms rest)

pub fewer_arguments : (term : Term) → length (arguments_of term) ≤ parts term
fewer_arguments (Variable name span) = omega arith
fewer_arguments (Integer value span) = omega arith
fewer_arguments (Text text span) = omega arith
fewer_arguments (Application name qualifier arguments span) = omega (arith, fewer_terms arguments)
