-- Assignments that are instances of environments and answers, or not. Under `texts 7` every variable has the text 7.
use Rattle.std.specs.Prelude.{◌≡◌, ℕ, [], ◌∷◌, Option, Some, None, refl}
use Rattle.std.proofs.Common.{inl, inr}
use Rattle.merc_value.specs.Value.{Value, Text}
use Rattle.merc_meaning.specs.Trace.{Run, Ends, Tick, Answer, RunDone, RunRaised, LimitPassed}
use Rattle.merc_meaning.specs.Truth.{Assignment, IsAssignment}
use Rattle.merc_program_laws.specs.Instances.{IsCallInstance, IsAnswer, EachOfRun, HasOfRun, EndsFreely}

abbrev pub texts : ℕ → Assignment
texts number = λ variable. Text number

pub texts_are_values : (number : ℕ) → IsAssignment (texts number)
texts_are_values number variable = tt

abbrev pub text : ℕ → Option Value
text number = Some (Text number)

pub same_value : {one other : Value} → Some one ≡ Some other → one ≡ other
same_value h = cc

-- Of a call with two arguments, an input of 7 and an output that is free.

input_agrees : IsCallInstance (4 ∷ 5 ∷ []) (texts 7) (text 7 ∷ None ∷ [])
input_agrees = ((λ found e. same_value e), ((λ found e. absurd cc), tt))

input_differs : IsCallInstance (4 ∷ 5 ∷ []) (texts 7) (text 8 ∷ None ∷ []) → ⊥
input_differs h = let wrong : Text 7 ≡ Text 8 = h.0 (Text 8) refl in cc

-- At an answer the output counts too.

output_agrees : IsCallInstance (4 ∷ 5 ∷ []) (texts 7) (text 7 ∷ text 7 ∷ [])
output_agrees = ((λ found e. same_value e), ((λ found e. same_value e), tt))

output_differs : IsCallInstance (4 ∷ 5 ∷ []) (texts 7) (text 7 ∷ text 8 ∷ []) → ⊥
output_differs h = let wrong : Text 7 ≡ Text 8 = h.1.0 (Text 8) refl in cc

-- the body's other variables do not
own_differs : IsCallInstance (4 ∷ []) (texts 7) (text 7 ∷ text 8 ∷ [])
own_differs = ((λ found e. same_value e), tt)

-- Of a goal only the answer variables count, and each must have a value.

no_answer_variables : IsAnswer [] (texts 7) (text 8 ∷ [])
no_answer_variables variable h = absurd cc

wrong_answer : IsAnswer (0 ∷ []) (texts 7) (text 8 ∷ []) → ⊥
wrong_answer h = let wrong : text 8 ≡ text 7 = h 0 refl in cc

answer_without_value : IsAnswer (0 ∷ []) (texts 7) [] → ⊥
answer_without_value h = let wrong : None ≡ text 7 = h 0 refl in cc

-- Runs.

abbrev two_answers : Run
two_answers = Answer (text 7 ∷ []) (Tick (Answer (text 8 ∷ []) (Ends RunDone)))

each_seven : EachOfRun (λ env. env ≡ text 7 ∷ []) (Tick (Answer (text 7 ∷ []) (Ends LimitPassed)))
each_seven = (refl, tt)

not_each_seven : EachOfRun (λ env. env ≡ text 7 ∷ []) two_answers → ⊥
not_each_seven h = cc h.1.0

has_eight : HasOfRun (λ env. env ≡ text 8 ∷ []) two_answers
has_eight = inr (inl refl)

has_none : HasOfRun (λ env. env ≡ text 8 ∷ []) (Tick (Ends RunDone)) → ⊥
has_none h = h

ends_freely : EndsFreely two_answers
ends_freely = tt

raised : EndsFreely (Answer (text 7 ∷ []) (Ends (RunRaised 5))) → ⊥
raised h = h

limited : EndsFreely (Tick (Ends LimitPassed)) → ⊥
limited h = h
