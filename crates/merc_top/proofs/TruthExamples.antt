-- Answers that are true, and instances that are false, or not. Given is a run whose goal has the one answer variable X: the goal is `X = "7"`, or `fail`.
use Rattle.std.specs.Prelude.{◌≡◌, ℕ, suc, List, [], ◌∷◌, map, Some, refl}
use Rattle.std.proofs.Common.{inl, inr, ap, sym, subst, ◌∙◌, arith}
use Rattle.merc_value.specs.Value.{Text}
use Rattle.merc_goal_tree.specs.declared.goal.Symbol.TheVariants.{Text as TextSymbol}
use Rattle.merc_graded_tree.specs.declared.basic.BasicGoal.TheVariants.{Fail, Build}
use Rattle.merc_graded_tree.specs.Nodes.{Node}
use Rattle.merc_graded_tree.specs.Variables.{among}
use Rattle.merc_meaning.specs.RunExamples.{basic}
use Rattle.merc_meaning.specs.Trace.{Run, Ends, RunDone}
use Rattle.merc_meaning.specs.Truth.{Assignment, YesAt, NoAt}
use Rattle.merc_program_laws.specs.InstancesExamples.{text, texts, texts_are_values}
use Rattle.merc_program_laws.specs.Instances.{HasOfRun}
use Rattle.merc_top.specs.Output.{IsAskedRun}
use Rattle.merc_top.specs.Truth.{asked_program, asked_variables, instance_of, IsTrueAnswer, IsFalseInstance, OthersAreFalse}

abbrev seven : Node
seven = basic (Build 0 (TextSymbol 7) []) []

first_is : (values : Assignment) → map (λ variable. Some (values variable)) (0 ∷ []) ≡ text 8 ∷ [] → values 0 ≡ Text 8
first_is values same = cc

module _ {file goal : List ℕ} {steps : ℕ} {names : List (List ℕ)} {variables : List ℕ} {asked : Run} (ran : IsAskedRun file goal steps names variables asked)
    (answers_are : asked_variables ran ≡ 0 ∷ []) where
  -- what a goal is
  yes_of : (tree : Node) (stage : ℕ) (values : Assignment) → ran.tree ≡ tree → YesAt (asked_program ran) stage (among (asked_variables ran)) ran.tree values
      → YesAt (asked_program ran) stage (among (0 ∷ [])) tree values
  yes_of tree stage values is h =
      subst (λ (some : Node). YesAt (asked_program ran) stage (among (0 ∷ [])) some values) is
      (subst (λ (some : List ℕ). YesAt (asked_program ran) stage (among some) ran.tree values) answers_are h)

  of_yes : (tree : Node) (stage : ℕ) (values : Assignment) → ran.tree ≡ tree → YesAt (asked_program ran) stage (among (0 ∷ [])) tree values
      → YesAt (asked_program ran) stage (among (asked_variables ran)) ran.tree values
  of_yes tree stage values is h =
      subst (λ (some : List ℕ). YesAt (asked_program ran) stage (among some) ran.tree values) (sym answers_are)
      (subst (λ (some : Node). YesAt (asked_program ran) stage (among (0 ∷ [])) some values) (sym is) h)

  no_of : (tree : Node) (stage : ℕ) (values : Assignment) → ran.tree ≡ tree → NoAt (asked_program ran) stage (among (asked_variables ran)) ran.tree values
      → NoAt (asked_program ran) stage (among (0 ∷ [])) tree values
  no_of tree stage values is h =
      subst (λ (some : Node). NoAt (asked_program ran) stage (among (0 ∷ [])) some values) is
      (subst (λ (some : List ℕ). NoAt (asked_program ran) stage (among some) ran.tree values) answers_are h)

  of_no : (tree : Node) (stage : ℕ) (values : Assignment) → ran.tree ≡ tree → NoAt (asked_program ran) stage (among (0 ∷ [])) tree values
      → NoAt (asked_program ran) stage (among (asked_variables ran)) ran.tree values
  of_no tree stage values is h =
      subst (λ (some : List ℕ). NoAt (asked_program ran) stage (among some) ran.tree values) (sym answers_are)
      (subst (λ (some : Node). NoAt (asked_program ran) stage (among (0 ∷ [])) some values) (sym is) h)

  gives : (number : ℕ) → instance_of ran (texts number) ≡ text number ∷ []
  gives number = ap (λ (some : List ℕ). map (λ variable. text number) some) answers_are

  -- `X = "7"`
  module _ (is : ran.tree ≡ seven) where
    pub IsTrueAnswer-example : IsTrueAnswer ran (text 7 ∷ [])
    IsTrueAnswer-example = record {
      values = texts 7;
      are_values = texts_are_values 7;
      gives = gives 7;
      yes = λ stage later. of_yes seven stage (texts 7) is ((λ h. h), (texts 7, texts_are_values 7, (λ variable outside. refl), refl));
    }

    pub IsTrueAnswer-counterexample : IsTrueAnswer ran (text 8 ∷ []) → ⊥
    IsTrueAnswer-counterexample h =
        let eight : h.values 0 ≡ Text 8 = first_is h.values (sym (ap (λ (some : List ℕ). map (λ variable. Some (h.values variable)) some) answers_are) ∙ h.gives) in
        let own = (yes_of seven (suc steps) h.values is (h.yes (suc steps) (omega arith))).1 in
        let wrong : Text 7 ≡ Text 8 = sym own.3 ∙ own.2 0 refl ∙ eight in
        absurd cc

    pub IsFalseInstance-example : IsFalseInstance ran (texts 8)
    IsFalseInstance-example stage later = of_no seven stage (texts 8) is (inr (λ others are agree equal.
        let wrong : Text 7 ≡ Text 8 = sym equal ∙ agree 0 refl in
        absurd cc))

    pub IsFalseInstance-counterexample : IsFalseInstance ran (texts 7) → ⊥
    IsFalseInstance-counterexample h = elim (no_of seven (suc steps) (texts 7) is (h (suc steps) (omega arith))) as (λ _. ⊥) [
      | inl none ↦ none
      | inr each ↦ each (texts 7) (texts_are_values 7) (λ variable outside. refl) refl
    ]

    -- a run without an answer
    pub OthersAreFalse-counterexample : asked ≡ Ends RunDone → OthersAreFalse ran → ⊥
    OthersAreFalse-counterexample none h = elim (h (texts 7) (texts_are_values 7)) as (λ _. ⊥) [
      | inl wrong ↦ IsFalseInstance-counterexample wrong
      | inr has ↦ subst (λ (some : Run). HasOfRun (λ answer. instance_of ran (texts 7) ≡ answer) some) none has
    ]

  -- `fail`
  pub OthersAreFalse-example : ran.tree ≡ basic Fail [] → OthersAreFalse ran
  OthersAreFalse-example is values are = inl (λ stage later. of_no (basic Fail []) stage values is (inr (λ others are_others agree. tt)))
