-- The answers of a run that the words ask for are true, and where it ends freely nothing else is.
use Rattle.std.proofs.Common.{◌≡◌, ◌<◌, ◌⊎◌, ◌∙◌, inl, inr, ℕ, suc, Bool, true, false, ◌==◌, ◌||◌, if◌then◌else◌, List, [], ◌∷◌, map, Option, Some, None, refl, sym, subst, arith}
use Rattle.std.proofs.lemmas.Bool.Decides.{Decides-eqb}
use Rattle.std.proofs.lemmas.Option.{same_Some}
use Rattle.merc_base.specs.Names.{fixed_names}
use Rattle.merc_base.specs.Outside.{Files}
use Rattle.merc_base.proofs.NameExamples.{HoldsFixed-fixed}
use Rattle.merc_base.proofs.NameLaws.{fixed_names-distinct}
use Rattle.merc_tree.specs.Types.{TypeExpr, TypeVariable}
use Rattle.merc_tree.specs.declared.declarations.TypeDef.{TypeDef}
use Rattle.merc_value.specs.Value.{Value, Text, IsValue}
use Rattle.merc_graded_tree.specs.Nodes.{Node}
use Rattle.merc_graded_tree.specs.Variables.{among}
use Rattle.merc_meaning.specs.Trace.{Env, Run, Ends, Tick, Answer, RunDone, RunRaised, LimitPassed}
use Rattle.merc_meaning.specs.Steps.{value_at}
use Rattle.merc_meaning.specs.Shown.{shown}
use Rattle.merc_meaning.specs.Truth.{Assignment, IsAssignment, YesAt}
use Rattle.merc_meaning.specs.Runs.{run}
use Rattle.merc_program_laws.specs.AcceptedLaws.{IsChecked, IsGradedGoal}
use Rattle.merc_program_laws.specs.AnswerLaws.{RunAnswersAreYes, RunOthersAreNo}
use Rattle.merc_program_laws.specs.CategoryLaws.{GivesAll}
use Rattle.merc_program_laws.specs.Instances.{IsAnswer, EachOfRun, HasOfRun, EndsFreely}
use Rattle.merc_program_laws.specs.ModuleLaws.{BecomesGoodQuery}
use Rattle.merc_program_laws.proofs.Accepted.{runs_answer_in_types, runs_answer_truly}
use Rattle.merc_program_laws.proofs.AcceptedGood.{accepted_goal_becomes_good}
use Rattle.merc_program_laws.proofs.Stages.{stays_no}
use Rattle.merc_program_laws.proofs.Truthful.{typed_value}
use Rattle.merc_solving.specs.RunLines.{run_lines, run_status}
use Rattle.merc_top.specs.Output.{IsAskedRun}
use Rattle.merc_top.specs.Truth.{asked_program, asked_variables, instance_of, IsTrueAnswer, IsFalseInstance, OthersAreFalse, IsTruthful}
use Rattle.merc_top.proofs.OutputLaws.{IsOutput-unique}
use Rattle.merc_top.proofs.Causes.{asked_output}

-- Runs, and what their answers show.

each_both : (P Q : Env → Type 0) (ran : Run) → EachOfRun P ran → EachOfRun Q ran → EachOfRun (λ env. P env × Q env) ran
each_both P Q (Ends end) h k = tt
each_both P Q (Tick rest) h k = each_both P Q rest h k
each_both P Q (Answer env rest) h k = ((h.0, k.0), each_both P Q rest h.1 k.1)

-- what holds of each answer at each later stage
each_stage : (P : ℕ → Env → Type 0) (steps : ℕ) (ran : Run) → ((stage : ℕ) → steps < stage → EachOfRun (P stage) ran) → EachOfRun (λ env. (stage : ℕ) → steps < stage → P stage env) ran
each_stage P steps (Ends end) h = tt
each_stage P steps (Tick rest) h = each_stage P steps rest h
each_stage P steps (Answer env rest) h = (λ stage later. (h stage later).0, each_stage P steps rest (λ stage later. (h stage later).1))

each_shown : (P Q : Env → Type 0) (answers : List ℕ) → ((env : Env) → P env → Q (map (value_at env) answers)) → (ran : Run) → EachOfRun P ran → EachOfRun Q (shown answers ran)
each_shown P Q answers shows (Ends end) h = tt
each_shown P Q answers shows (Tick rest) h = each_shown P Q answers shows rest h
each_shown P Q answers shows (Answer env rest) h = (shows env h.0, each_shown P Q answers shows rest h.1)

has_shown : (P Q : Env → Type 0) (answers : List ℕ) → ((env : Env) → P env → Q (map (value_at env) answers)) → (ran : Run) → HasOfRun P ran → HasOfRun Q (shown answers ran)
has_shown P Q answers shows (Ends end) h = h
has_shown P Q answers shows (Tick rest) h = has_shown P Q answers shows rest h
has_shown P Q answers shows (Answer env rest) (inl h) = inl (shows env h)
has_shown P Q answers shows (Answer env rest) (inr h) = inr (has_shown P Q answers shows rest h)

ends_shown : (answers : List ℕ) (ran : Run) → EndsFreely (shown answers ran) → EndsFreely ran
ends_shown answers (Ends RunDone) free = free
ends_shown answers (Ends (RunRaised text)) free = free
ends_shown answers (Ends LimitPassed) free = free
ends_shown answers (Tick rest) free = ends_shown answers rest free
ends_shown answers (Answer env rest) free = ends_shown answers rest free

-- What variables have is shown of each of them.

either_is : (one other : Bool) → other ≡ true → (one || other) ≡ true
either_is true other h = refl
either_is false other h = h

one_is : (one other : Bool) → one ≡ true → (one || other) ≡ true
one_is true other h = refl
one_is false other h = absurd cc

same_each : {B : Type 0} (f g : ℕ → B) (variables : List ℕ) → ((variable : ℕ) → among variables variable ≡ true → f variable ≡ g variable) → map f variables ≡ map g variables
same_each f g [] same = refl
same_each f g (first ∷ rest) same =
    let here : f first ≡ g first = same first (one_is (first == first) (among rest first) ((Decides-eqb first first).1 refl)) in
    let behind : map f rest ≡ map g rest = same_each f g rest (λ variable h. same variable (either_is (variable == first) (among rest variable) h)) in
    cc

-- The values that an answer gives: each of these variables has the one that it has there, and all others have one and the same.

abbrev value_or : Option Value → Value
value_or None = Text 0
value_or (Some value) = value

abbrev given : List ℕ → Env → Assignment
given answers env variable = if among answers variable then value_or (value_at env variable) else Text 0

given_value : (is_answer : Bool) (there : Option Value) → (is_answer ≡ true → (value : Value) → there ≡ Some value → IsValue value) → IsValue (if is_answer then value_or there else Text 0)
given_value true None values = tt
given_value true (Some value) values = values refl value refl
given_value false there values = tt

given_there : (is_answer : Bool) (there : Option Value) (value : Value) → is_answer ≡ true → there ≡ Some value → there ≡ Some (if is_answer then value_or there else Text 0)
given_there true None value h is = absurd cc
given_there true (Some other) value h is = refl
given_there false there value h is = absurd cc

module _ (declared : List TypeDef) (instance types : ℕ → TypeExpr) (answers : List ℕ) (env : Env) (gives : GivesAll declared instance types answers env) where
  given_values : IsAssignment (given answers env)
  given_values variable = given_value (among answers variable) (value_at env variable) (λ is_answer value is.
      let own = gives variable is_answer in
      subst (λ (some : Value). IsValue some) (same_Some _ _ (sym own.1 ∙ is)) (typed_value declared own.0 _ own.2))

  given_answer : IsAnswer answers (given answers env) env
  given_answer variable is_answer = let own = gives variable is_answer in given_there (among answers variable) (value_at env variable) own.0 is_answer own.1

  given_shown : map (λ variable. Some (given answers env variable)) answers ≡ map (value_at env) answers
  given_shown = same_each (λ variable. Some (given answers env variable)) (value_at env) answers (λ variable is_answer. sym (given_answer variable is_answer))

-- the first of a list of one
alone : (one other : Node) → one ∷ [] ≡ other ∷ [] → one ≡ other
alone one other same = cc

-- Given is a run that is asked.
module _ (file goal : List ℕ) (steps : ℕ) (names : List (List ℕ)) (variables : List ℕ) (asked : Run) (ran : IsAskedRun file goal steps names variables asked) where
  abbrev answers : List ℕ
  answers = asked_variables ran

  abbrev whole : Run
  whole = run (asked_program ran) ran.tree steps

  checked : IsChecked fixed_names ran.file_names file ran.items ran.found ran.trees
  checked = record { fixed = HoldsFixed-fixed; distinct = fixed_names-distinct; accepted = ran.module_is; graded = ran.module_trees }

  graded : IsGradedGoal names ran.found ran.term ran.tree
  graded body has = alone ran.tree _ (ran.goal_tree body has)

  becomes : BecomesGoodQuery names ran.found answers ran.term
  becomes = accepted_goal_becomes_good fixed_names ran.file_names names file goal ran.items ran.found ran.term ran.module_is ran.goal_is

  -- a type variable stands for itself
  abbrev itself : ℕ → TypeExpr
  itself name = TypeVariable name

  abbrev Gives : Env → Type 0
  Gives env = GivesAll ran.found.types itself becomes.body.types answers env

  -- the goal is yes at a stage with an answer's values
  abbrev SaysYes : ℕ → Env → Type 0
  SaysYes stage env = (values : Assignment) → IsAssignment values → IsAnswer answers values env → YesAt (asked_program ran) stage (among answers) ran.tree values

  typed : EachOfRun Gives whole
  typed = runs_answer_in_types fixed_names ran.file_names file ran.items ran.found ran.trees checked names goal ran.term ran.goal_is ran.tree graded becomes.body becomes.is itself steps

  says : (stage : ℕ) → steps < stage → RunAnswersAreYes (asked_program ran) stage answers ran.tree whole × RunOthersAreNo (asked_program ran) stage answers ran.tree whole
  says stage later =
      let all = runs_answer_truly fixed_names ran.file_names file ran.items ran.found ran.trees checked names goal ran.term ran.goal_is ran.tree graded steps stage later in
      (all.1, all.2)

  true_answer : (env : Env) → Gives env × ((stage : ℕ) → steps < stage → SaysYes stage env) → IsTrueAnswer ran (map (value_at env) answers)
  true_answer env h = record {
    values = given answers env;
    are_values = given_values ran.found.types itself becomes.body.types answers env h.0;
    gives = given_shown ran.found.types itself becomes.body.types answers env h.0;
    yes = λ stage later. h.1 stage later (given answers env) (given_values ran.found.types itself becomes.body.types answers env h.0)
        (given_answer ran.found.types itself becomes.body.types answers env h.0);
  }

  solutions : EachOfRun (IsTrueAnswer ran) asked
  solutions =
      subst (λ (some : Run). EachOfRun (IsTrueAnswer ran) some) (sym ran.run_is)
      (each_shown (λ env. Gives env × ((stage : ℕ) → steps < stage → SaysYes stage env)) (IsTrueAnswer ran) answers true_answer whole
      (each_both Gives (λ env. (stage : ℕ) → steps < stage → SaysYes stage env) whole typed (each_stage SaysYes steps whole (λ stage later. (says stage later).0))))

  others : EndsFreely asked → OthersAreFalse ran
  others free values are =
      let free_whole : EndsFreely whole = ends_shown answers whole (subst (λ (some : Run). EndsFreely some) ran.run_is free) in
      elim ((says (suc steps) (omega arith)).1 free_whole values are) as (λ _. IsFalseInstance ran values ⊎ HasOfRun (λ answer. instance_of ran values ≡ answer) asked) [
        | inl false_soon ↦ inl (λ stage later. stays_no (asked_program ran) (suc steps) stage (omega (arith, later)) (among answers) ran.tree values false_soon)
        | inr has ↦ inr (subst (λ (some : Run). HasOfRun (λ answer. instance_of ran values ≡ answer) some) (sym ran.run_is)
            (has_shown (IsAnswer answers values) (λ answer. instance_of ran values ≡ answer) answers
            (λ env is. same_each (λ variable. Some (values variable)) (value_at env) answers (λ variable is_answer. sym (is variable is_answer))) whole has))
      ]

pub truthful : (words : List (List ℕ)) (files : Files) → IsTruthful words files
truthful words files = record {
  lines = λ names variables most asked asks lines due is.
      IsOutput-unique words files lines (run_lines names variables most asked) due (run_status most asked) is (asked_output words files names variables most asked asks);
  solutions = λ names variables most asked asks. solutions asks.text asks.goal asks.steps names variables asked asks.run_is;
  others = λ names variables most asked asks. others asks.text asks.goal asks.steps names variables asked asks.run_is;
}
