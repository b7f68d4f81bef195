-- The fact `p(7).`, and `p(9223372036854775808).`, whose integer is too great.
use Rattle.std.specs.Prelude.{ℕ, None, pos}
use Rattle.std.proofs.Common.{arith}
use Rattle.std.proofs.Math.Facts.{sfits_lit}
use Rattle.merc_tree.specs.Term.{Integer, Application, none, more, no_span}
use Rattle.merc_tree.specs.declared.declarations.Clause.{Clause}
use Rattle.merc_program_laws.specs.ClauseWords.{ClauseHasWords}

abbrev fact : ℕ → Clause
fact value = record { head = Application 200 None (more (Integer (pos value) no_span) none) no_span; body = None; span = no_span }

small : ClauseHasWords (fact 7)
small = record { head = (sfits_lit tt, tt); body = tt }

too_great : ClauseHasWords (fact 9223372036854775808) → ⊥
too_great words = let fits = words.head.0.sfits in omega (arith, fits)
