-- How the outcomes of a fork's children are joined to one.
use Rattle.std.specs.Prelude.{ℕ, ◌+◌, ◌≤◌, Bool, true, false, List, [], ◌∷◌, if◌then◌else◌, nat_le}
use Rattle.merc_script.specs.declared.outcome.Outcome.{Outcome}
use Rattle.merc_script.specs.declared.outcome.Outcome.TheVariants.{Ok as Fine, Raise, Limit, Starved, NoMemory}

-- The outcomes are walked from the left, and the steps of those that are fine are summed up. The first of the others
-- decides, if the limit is not passed before.
abbrev pub walk : ℕ → ℕ → List Outcome → Outcome
walk limit sum [] = Fine sum
walk limit sum (Fine steps ∷ others) = if nat_le (sum + steps) limit then walk limit (sum + steps) others else Limit
walk limit sum (Raise text steps ∷ others) = if nat_le (sum + steps) limit then Raise text (sum + steps) else Limit
walk limit sum (Limit ∷ others) = Limit
walk limit sum (Starved ∷ others) = Starved
walk limit sum (NoMemory ∷ others) = NoMemory

-- memory was refused to one of them
abbrev pub lacks_memory : List Outcome → Bool
lacks_memory [] = false
lacks_memory (NoMemory ∷ others) = true
lacks_memory (Fine steps ∷ others) = lacks_memory others
lacks_memory (Raise text steps ∷ others) = lacks_memory others
lacks_memory (Limit ∷ others) = lacks_memory others
lacks_memory (Starved ∷ others) = lacks_memory others

-- Want of memory comes before all else. Otherwise the walk from the left decides.
abbrev pub joined : ℕ → List Outcome → Outcome
joined limit outcomes = if lacks_memory outcomes then NoMemory else walk limit 0 outcomes

-- One outcome more, where those to the left of it are joined to one. Want of memory comes before all else.
abbrev pub joined_with : ℕ → Outcome → Outcome → Outcome
joined_with limit NoMemory next = NoMemory
joined_with limit (Fine sum) NoMemory = NoMemory
joined_with limit (Fine sum) (Fine steps) = if nat_le (sum + steps) limit then Fine (sum + steps) else Limit
joined_with limit (Fine sum) (Raise text steps) = if nat_le (sum + steps) limit then Raise text (sum + steps) else Limit
joined_with limit (Fine sum) Limit = Limit
joined_with limit (Fine sum) Starved = Starved
joined_with limit (Raise text steps) NoMemory = NoMemory
joined_with limit (Raise text steps) (Fine more) = Raise text steps
joined_with limit (Raise text steps) (Raise other more) = Raise text steps
joined_with limit (Raise text steps) Limit = Raise text steps
joined_with limit (Raise text steps) Starved = Raise text steps
joined_with limit Limit NoMemory = NoMemory
joined_with limit Limit (Fine more) = Limit
joined_with limit Limit (Raise other more) = Limit
joined_with limit Limit Limit = Limit
joined_with limit Limit Starved = Limit
joined_with limit Starved NoMemory = NoMemory
joined_with limit Starved (Fine more) = Starved
joined_with limit Starved (Raise other more) = Starved
joined_with limit Starved Limit = Starved
joined_with limit Starved Starved = Starved

-- outcomes joined one after the other, behind those that are joined to one
abbrev pub joined_behind : ℕ → Outcome → List Outcome → Outcome
joined_behind limit before [] = before
joined_behind limit before (next ∷ others) = joined_behind limit (joined_with limit before next) others

-- an outcome as a script has it that made so many steps before
abbrev pub later : ℕ → Outcome → Outcome
later before (Raise text steps) = Raise text (before + steps)
later before (Fine steps) = Fine steps
later before Limit = Limit
later before Starved = Starved
later before NoMemory = NoMemory

-- the most steps that an outcome counts
abbrev pub most_steps : ℕ
most_steps = 1000000000

-- an outcome counts no more steps than that
abbrev pub HasFewSteps : Outcome → Type 0
HasFewSteps (Fine steps) = steps ≤ most_steps
HasFewSteps (Raise text steps) = steps ≤ most_steps
HasFewSteps Limit = Unit {0}
HasFewSteps Starved = Unit {0}
HasFewSteps NoMemory = Unit {0}
