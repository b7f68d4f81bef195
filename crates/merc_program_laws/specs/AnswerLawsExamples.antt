-- Traces and runs that say the truth, or not. `is(in)` is true of the text 7.
use Rattle.std.specs.Prelude.{◌≡◌, ℕ, Bool, true, false, ◌==◌, ◌||◌, is_some, [], ◌∷◌, slice_get, refl}
use Rattle.std.proofs.Common.{inl, inr, ap, sym, ◌∙◌}
use Rattle.std.proofs.lemmas.Bool.Decides.{Decides-eqb}
use Rattle.merc_graded_tree.specs.Variables.{among}
use Rattle.merc_value.specs.Value.{Text}
use Rattle.merc_tree.specs.declared.declarations.Arg.TheVariants.{Input}
use Rattle.merc_goal_tree.specs.declared.goal.Symbol.TheVariants.{Text as TextSymbol}
use Rattle.merc_graded_tree.specs.Nodes.{Node}
use Rattle.merc_graded_tree.specs.declared.basic.BasicGoal.TheVariants.{Fail, Build}
use Rattle.merc_meaning.specs.Trace.{Ends, Tick, Answer, Done, TooDeep, RunDone, LimitPassed, one_answer}
use Rattle.merc_meaning.specs.Steps.{value_at}
use Rattle.merc_meaning.specs.Truth.{NoCall}
use Rattle.merc_meaning.specs.RunExamples.{basic, procedure}
use Rattle.merc_meaning.specs.Runs.{Program, ProcedureBody}
use Rattle.merc_program_laws.specs.Instances.{IsCallInstance}
use Rattle.merc_program_laws.specs.InstancesExamples.{text, texts, texts_are_values, same_value}
use Rattle.merc_program_laws.specs.AnswerLaws.{AnswersAreYes, OthersAreNo, AnswersAreWhole, RunAnswersAreYes, RunOthersAreNo}

abbrev is : ℕ → Node
is number = basic (Build 0 (TextSymbol number) []) []

abbrev is_body : ProcedureBody
is_body = record { places = Input ∷ []; body = is 7 }

abbrev program : Program
program called = slice_get (is_body ∷ []) called.predicate

instance_of_text : (number : ℕ) → IsCallInstance (0 ∷ []) (texts number) (text number ∷ [])
instance_of_text number = ((λ found e. same_value e), tt)

-- Answers of calls.

seven_is : AnswersAreYes program 1 (procedure 0) (0 ∷ []) (Tick (one_answer (text 7 ∷ [])))
seven_is = ((λ values are instance. (values, are, (refl, tt), ((λ h. h), (values, are, (λ variable outside. refl), instance.0 (Text 7) refl)))), tt)

eight_is_not : AnswersAreYes program 1 (procedure 0) (0 ∷ []) (Tick (one_answer (text 8 ∷ []))) → ⊥
eight_is_not h =
    let body = h.0 (texts 8) (texts_are_values 8) (instance_of_text 8) in
    let own = body.3.1 in
    let wrong : Text 7 ≡ Text 8 = sym own.3 ∙ own.2 0 refl ∙ body.2.0 in
    absurd cc

-- a call is open at stage 0
seven_too_early : AnswersAreYes program 0 (procedure 0) (0 ∷ []) (Tick (one_answer (text 7 ∷ []))) → ⊥
seven_too_early h = h.0 (texts 7) (texts_are_values 7) (instance_of_text 7)

-- What is no answer.

eight_fails : OthersAreNo program 1 (procedure 0) (0 ∷ []) (text 8 ∷ []) (Tick (Ends Done))
eight_fails done values are instance = inl (λ inner are_inner entered. inr (λ own are_own same equal.
    let wrong : Text 7 ≡ Text 8 = sym equal ∙ same 0 refl ∙ entered.0 ∙ instance.0 (Text 8) refl in
    absurd cc))

seven_is_not_no : NoCall program 1 (procedure 0) (0 ∷ []) (texts 7) → ⊥
seven_is_not_no h = elim (h (texts 7) (texts_are_values 7) (refl, tt)) as (λ _. ⊥) [
  | inl none ↦ none
  | inr each ↦ each (texts 7) (texts_are_values 7) (λ variable outside. refl) refl
]

seven_fails : OthersAreNo program 1 (procedure 0) (0 ∷ []) (text 7 ∷ []) (Tick (Ends Done)) → ⊥
seven_fails h = elim (h tt (texts 7) (texts_are_values 7) (instance_of_text 7)) as (λ _. ⊥) [ inl wrong ↦ seven_is_not_no wrong | inr has ↦ has ]

seven_is_answered : OthersAreNo program 1 (procedure 0) (0 ∷ []) (text 7 ∷ []) (Tick (one_answer (text 7 ∷ [])))
seven_is_answered done values are instance = inr (inl instance)

-- what goes too deep says nothing of what it did not answer
seven_too_deep : OthersAreNo program 1 (procedure 0) (0 ∷ []) (text 7 ∷ []) (Ends TooDeep)
seven_too_deep done values are instance = absurd done

-- Runs of the goal `X = "7"`.

only : {A : Type 0} (b : Bool) → (b ≡ true → A) → (b || false) ≡ true → A
only true f h = f refl
only false f h = absurd cc

at_x : (number variable : ℕ) → among (0 ∷ []) variable ≡ true → value_at (text number ∷ []) variable ≡ text number
at_x number variable h = only (variable == 0) (λ e. ap (value_at (text number ∷ [])) ((Decides-eqb variable 0).0 e)) h

whole : AnswersAreWhole (0 ∷ []) (Answer (text 7 ∷ []) (Ends RunDone))
whole = ((λ variable h. ap is_some (at_x 7 variable h)), tt)

not_whole : AnswersAreWhole (0 ∷ []) (Answer [] (Ends RunDone)) → ⊥
not_whole h = let wrong = h.0 0 refl in absurd cc

run_says_seven : RunAnswersAreYes program 1 (0 ∷ []) (is 7) (Answer (text 7 ∷ []) (Ends RunDone))
run_says_seven = ((λ values are answer. ((λ h. h), (values, are, (λ variable outside. refl), sym (same_value (answer 0 refl))))), tt)

run_says_eight : RunAnswersAreYes program 1 (0 ∷ []) (is 7) (Answer (text 8 ∷ []) (Ends RunDone)) → ⊥
run_says_eight h =
    let own = (h.0 (texts 8) (texts_are_values 8) (at_x 8)).1 in
    let wrong : Text 7 ≡ Text 8 = sym own.3 ∙ own.2 0 refl in
    absurd cc

failure_says_none : RunOthersAreNo program 1 (0 ∷ []) (basic Fail []) (Ends RunDone)
failure_says_none free values are = inl (inr (λ others are_others agree. tt))

run_says_none : RunOthersAreNo program 1 (0 ∷ []) (is 7) (Ends RunDone) → ⊥
run_says_none h = elim (h tt (texts 7) (texts_are_values 7)) as (λ _. ⊥) [
  | inl wrong ↦ elim wrong as (λ _. ⊥) [ inl none ↦ none | inr each ↦ each (texts 7) (texts_are_values 7) (λ variable outside. refl) refl ]
  | inr has ↦ has
]

-- a run that passes its limit says nothing of what it did not answer
limit_says_nothing : RunOthersAreNo program 1 (0 ∷ []) (is 7) (Ends LimitPassed)
limit_says_nothing free values are = absurd free
