-- Which procedures leave no choice point behind, by predicate and mode.
use Rattle.std.specs.Prelude.{ℕ, Bool, false, List, Option, Some, None}
use Rattle.std.specs.List.{slice_get, slice_index_or}
use Rattle.merc_graded_tree.specs.declared.basic.Procedure.{Procedure}

abbrev pub at_mode : Option (List Bool) → ℕ → Bool
at_mode None mode = false
at_mode (Some modes) mode = slice_index_or modes mode false

-- one that is not there is not among them
abbrev pub contained : List (List Bool) → Procedure → Bool
contained predicates procedure = at_mode (slice_get predicates procedure.predicate) procedure.mode
