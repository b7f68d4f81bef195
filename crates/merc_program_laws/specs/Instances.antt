-- When an assignment is an instance of an answer, and what is said of the answers of a run.
use Rattle.std.specs.Prelude.{◌≡◌, ◌⊎◌, ℕ, zero, suc, true, List, [], ◌∷◌, Option, Some}
use Rattle.merc_graded_tree.specs.Variables.{among}
use Rattle.merc_value.specs.Value.{Value}
use Rattle.merc_meaning.specs.Trace.{Env, Run, Ends, Tick, Answer, RunDone, RunRaised, LimitPassed}
use Rattle.merc_meaning.specs.Steps.{value_at}
use Rattle.merc_meaning.specs.Truth.{Assignment}

-- a value is the one that is there, if one is
abbrev pub Agrees : Option Value → Value → Type 0
Agrees there value = (found : Value) → there ≡ Some found → value ≡ found

-- A call's arguments have the values that the body's first variables have here, as far as these have any.
abbrev pub ArgumentsAgree : List ℕ → Assignment → (ℕ → Option Value) → Type 0
ArgumentsAgree [] values inner = Unit {0}
ArgumentsAgree (argument ∷ arguments) values inner = Agrees (inner zero) (values argument) × ArgumentsAgree arguments values (λ variable. inner (suc variable))

-- An assignment is an instance of what a body's environment says of a call: of its inputs before it, of all arguments at an answer.
abbrev pub IsCallInstance : List ℕ → Assignment → Env → Type 0
IsCallInstance arguments values env = ArgumentsAgree arguments values (value_at env)

-- An assignment is an answer to a goal: its answer variables have the answer's values.
abbrev pub IsAnswer : List ℕ → Assignment → Env → Type 0
IsAnswer answers values answer = (variable : ℕ) → among answers variable ≡ true → value_at answer variable ≡ Some (values variable)

-- each answer of a run is so
abbrev pub EachOfRun : (Env → Type 0) → Run → Type 0
EachOfRun Holds (Ends end) = Unit {0}
EachOfRun Holds (Tick rest) = EachOfRun Holds rest
EachOfRun Holds (Answer env rest) = Holds env × EachOfRun Holds rest

-- some answer of a run is so
abbrev pub HasOfRun : (Env → Type 0) → Run → Type 0
HasOfRun Holds (Ends end) = ⊥
HasOfRun Holds (Tick rest) = HasOfRun Holds rest
HasOfRun Holds (Answer env rest) = Holds env ⊎ HasOfRun Holds rest

-- the run ends freely, with no exception and before its limit
abbrev pub EndsFreely : Run → Type 0
EndsFreely (Ends RunDone) = Unit {0}
EndsFreely (Ends (RunRaised text)) = ⊥
EndsFreely (Ends LimitPassed) = ⊥
EndsFreely (Tick rest) = EndsFreely rest
EndsFreely (Answer env rest) = EndsFreely rest
