use Rattle.std.proofs.Common.{ℕ, List, [], ◌∷◌}
use Rattle.merc_rights.specs.Groups.{AreHeld}
use Rattle.merc_rights.specs.Rights.{Right}
use Rattle.merc_rights.specs.Rows.{Tells}
use Rattle.merc_rights.proofs.FoundLaws.{FoundUpTo}
use Rattle.merc_rights.proofs.conjuncts.found_without.Given as goal

abbrev pub invariant-loop-producer : goal.invariant-loop-producer
invariant-loop-producer l = (variables : List ℕ) → Tells l.held (variables ∷ []) → (moved : List (ℕ × Right)) → AreHeld variables moved → FoundUpTo l.members.goals.items l.fn.outputs moved l.producer l.found
