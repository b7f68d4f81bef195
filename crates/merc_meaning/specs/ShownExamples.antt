-- Worked examples of what the answers of a run show.
use Rattle.std.specs.Prelude.{◌≡◌, ℕ, pos, [], ◌∷◌, Option, Some, None, refl}
use Rattle.merc_value.specs.Value.{Value, Int}
use Rattle.merc_meaning.specs.Trace.{Ends, Tick, Answer, RunDone}
use Rattle.merc_meaning.specs.Shown.{shown}

abbrev int : ℕ → Option Value
int number = Some (Int (pos number))

shown-example : shown (1 ∷ 2 ∷ []) (Tick (Answer (int 1 ∷ int 2 ∷ []) (Ends RunDone))) ≡ Tick (Answer (int 2 ∷ None ∷ []) (Ends RunDone))
shown-example = refl

-- in the order of the variables
shown-counterexample : shown (1 ∷ 0 ∷ []) (Answer (int 1 ∷ int 2 ∷ []) (Ends RunDone)) ≡ Answer (int 1 ∷ int 2 ∷ []) (Ends RunDone) → ⊥
shown-counterexample same = cc
