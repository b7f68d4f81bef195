-- The integers of clauses.
use Rattle.std.specs.Prelude.{Option, Some, None}
use Rattle.merc_tree.specs.Term.{Term, HasWords}
use Rattle.merc_tree.specs.declared.declarations.Clause.{Clause}

abbrev pub BodyHasWords : Option Term → Type 0
BodyHasWords None = Unit {0}
BodyHasWords (Some body) = HasWords body

-- each integer in a clause's head and in its body is one of 64 bits
pub record ClauseHasWords (clause : Clause) : Type 0 where
  pub head : HasWords clause.head
  pub body : BodyHasWords clause.body
