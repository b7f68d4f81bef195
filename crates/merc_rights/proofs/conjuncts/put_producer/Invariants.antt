use Rattle.std.proofs.Common.{ℕ, List, [], ◌∷◌, take}
use Rattle.merc_rights.specs.Groups.{AreHeld}
use Rattle.merc_rights.specs.Members.{AddsVariables}
use Rattle.merc_rights.specs.Rights.{Right}
use Rattle.merc_rights.specs.Rows.{Tells}
use Rattle.merc_rights.proofs.conjuncts.put_producer.Given as goal

abbrev pub invariant-loop-variable : goal.invariant-loop-variable
invariant-loop-variable l = (list variables : List ℕ) → Tells l.outputs (list ∷ []) → Tells l.held (variables ∷ []) → (moved : List (ℕ × Right)) → AreHeld variables moved
    → AddsVariables l.members.goals.items list moved l.producer (take l.variable-index l.variable-items) l.fn.found l.found
