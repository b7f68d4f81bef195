-- What the answers of a run show.
use Rattle.std.specs.Prelude.{ℕ, List, map}
use Rattle.merc_meaning.specs.Trace.{Run, Ends, Tick, Answer}
use Rattle.merc_meaning.specs.Steps.{value_at}

-- of each answer of a run the values of these variables
abbrev pub shown : List ℕ → Run → Run
shown variables (Ends end) = Ends end
shown variables (Tick rest) = Tick (shown variables rest)
shown variables (Answer env rest) = Answer (map (value_at env) variables) (shown variables rest)
