-- What is answered of that which the words ask for.
use Rattle.std.specs.Prelude.{ℕ, List, Option, codes}
use Rattle.merc_words.specs.Words.{IsSolve as IsSolveWith}
pub use Rattle.merc_words.specs.Words.{IsCheck}
unfoldable pub use Rattle.merc_words.specs.Words.{default_steps}
use Rattle.merc_top.specs.declared.words.Request.{Request}
use Rattle.merc_top.specs.declared.words.Request.TheVariants.{Solve, Check}

-- The words are `solve FILE GOAL`, with options. How many workers take part says nothing of what is due.
abbrev pub IsSolve : List (List ℕ) → List ℕ → List ℕ → ℕ → Option ℕ → Type 0
IsSolve words file goal steps most = (workers : ℕ) × IsSolveWith words file goal workers steps most

-- The words ask for this. Words that ask for a listing of code, or for a module that is grown, ask for nothing that is answered yet.
abbrev pub IsRequest : List (List ℕ) → Request → Type 0
IsRequest words (Solve file goal steps most) = IsSolve words file.now goal.now steps most
IsRequest words (Check file) = IsCheck words file.now

-- the words ask for nothing that is answered
abbrev pub IsNoRequest : List (List ℕ) → Type 0
IsNoRequest words = (request : Request) → IsRequest words request → ⊥

-- the name of the file that is asked for
abbrev pub file_of : Request → List ℕ
file_of (Solve file goal steps most) = file.now
file_of (Check file) = file.now

-- the line that every refusal of the words is answered by
unfoldable pub usage_line : List ℕ
usage_line = codes "usage: merc solve FILE GOAL [--workers N] [--steps N] [--max N] | check FILE | code FILE | grow N [--workers N]\n"
