-- The tasks for a term give the goals that name it.
use Rattle.std.proofs.Common.{◌≡◌, ℕ, suc, ◌+◌, ◌*◌, ◌≤◌, ◌<◌, ◌==◌, ◌&&◌, Bool, true, false, pos, List, [], ◌∷◌, ◌++◌, length, map, Option, Some, None, if◌then◌else◌, refl, ap, sym, ◌∙◌, arith}
use Rattle.std.proofs.lemmas.Bool.Decides.{nat_tests}
use Rattle.std.proofs.lemmas.List.{append_assoc, append-nil, length-append}
use Rattle.std.specs.Option.{is_none}
use Rattle.merc_base.specs.Names.{minus_name}
use Rattle.merc_tree.specs.Term.{Term, Terms, Variable, Integer, Text, Application, none, more, list_of}
use Rattle.merc_goals.specs.Written.{parts, parts_of}
use Rattle.merc_goal_tree.specs.declared.goal.SimpleGoal.{SimpleGoal}
use Rattle.merc_goal_tree.specs.declared.goal.SimpleGoal.TheVariants.{Shape as ShapeGoal}
use Rattle.merc_goal_tree.specs.declared.goal.Symbol.TheVariants.{Constructor, Integer as IntegerSymbol}
use Rattle.merc_goal_tree.specs.declared.goal.Operation.{Operation}
use Rattle.merc_goal_tree.specs.declared.goal.Operation.TheVariants.{Subtract}
use Rattle.merc_scopes.specs.declared.occurrence.Occurrence.{Occurrence}
use Rattle.merc_goals.specs.Numbers.{NumberedTerm}
use Rattle.merc_flat_form.specs.declared.tasks.Task.{Task}
use Rattle.merc_flat_form.specs.declared.tasks.Task.TheVariants.{Give, Put}
use Rattle.merc_flat_form.specs.FlatForm.{variable_at, variables_at, applied, naming, naming_all, is_negation, operation_of}
use Rattle.merc_goals.specs.Numbers.{numbered_from}
use Rattle.merc_flat_form.specs.Numbering.{is_negative}
use Rattle.merc_flat_form.specs.Tasks.{argument_task, argument_tasks, applied_plan, variable_for, goals_of_task, performed, application_by, plan}

-- the last argument's task comes last of all, and so stands first
pub argument_tasks-push : (front : List NumberedTerm) (last : NumberedTerm) → argument_tasks (front ++ last ∷ []) ≡ argument_task last ++ argument_tasks front
argument_tasks-push [] last = sym (append-nil (argument_task last))
argument_tasks-push (first ∷ rest) last =
    ap (λ l. l ++ argument_task first) (argument_tasks-push rest last) ∙ append_assoc (argument_task last) (argument_tasks rest) (argument_task first)

pub push_step : (tasks pushed : List Task) (left popped : List NumberedTerm) (last : NumberedTerm) (whole : List Task)
    → left ≡ popped ++ last ∷ [] → pushed ≡ tasks ++ argument_task last → tasks ++ argument_tasks left ≡ whole → pushed ++ argument_tasks popped ≡ whole
push_step tasks pushed left popped last whole popping pushing before =
    ap (λ l. l ++ argument_tasks popped) pushing
    ∙ append_assoc tasks (argument_task last) (argument_tasks popped)
    ∙ ap (λ l. tasks ++ l) (sym (argument_tasks-push popped last) ∙ ap argument_tasks (sym popping))
    ∙ before

not_one : (n : ℕ) → (suc (suc n) == 1) ≡ false
not_one n = grind (arith, nat_tests)

-- how much is left to do
abbrev pub weight : Task → ℕ
weight (Give variable whole) = 2 * parts whole.term
weight (Put goal) = 1

abbrev pub total : List Task → ℕ
total [] = 0
total (task ∷ rest) = weight task + total rest

pub total-append : (front back : List Task) → total (front ++ back) ≡ total front + total back
total-append [] back = omega arith
total-append (task ∷ rest) back = omega (arith, total-append rest back)

arguments-total : (at : ℕ) (terms : Terms) → total (argument_tasks (numbered_from at (list_of terms))) ≤ 2 * parts_of terms
arguments-total at none = omega arith
arguments-total at (more (Variable name span) rest) =
    omega (arith, total-append (argument_tasks (numbered_from (at + 2) (list_of rest))) [], arguments-total (at + 2) rest)
arguments-total at (more (Integer value span) rest) =
    omega (
      arith,
      total-append (argument_tasks (numbered_from (at + 2) (list_of rest))) (Give at (record { term = Integer value span; at = at }) ∷ []),
      arguments-total (at + 2) rest,
    )
arguments-total at (more (Text text span) rest) =
    omega (
      arith,
      total-append (argument_tasks (numbered_from (at + 2) (list_of rest))) (Give at (record { term = Text text span; at = at }) ∷ []),
      arguments-total (at + 2) rest,
    )
arguments-total at (more (Application name qualifier arguments span) rest) =
    let first = Application name qualifier arguments span in
    omega (
      arith,
      total-append (argument_tasks (numbered_from (at + parts first) (list_of rest))) (Give at (record { term = first; at = at }) ∷ []),
      arguments-total (at + parts first) rest,
    )

applied-total : (operation : Option Operation) (variable name : ℕ) (operands : List ℕ) (inner : List Task)
    → total (applied_plan operation variable name operands inner) ≡ 1 + total inner
applied-total None variable name operands inner =
    omega (arith, total-append inner (Put (ShapeGoal variable (Constructor name (length operands)) operands) ∷ []))
applied-total (Some operation) variable name [] inner =
    omega (arith, total-append inner (Put (ShapeGoal variable (Constructor name 0) []) ∷ []))
applied-total (Some operation) variable name (only ∷ []) inner =
    omega (arith, total-append inner (Put (ShapeGoal variable (Constructor name 1) (only ∷ [])) ∷ []))
applied-total (Some operation) variable name (left ∷ right ∷ []) inner = omega arith
applied-total (Some operation) variable name (left ∷ right ∷ third ∷ rest) inner =
    let operands : List ℕ = left ∷ right ∷ third ∷ rest in
    omega (arith, total-append inner (Put (ShapeGoal variable (Constructor name (length operands)) operands) ∷ []))

-- Given is which names are `_`, and what names stand for.
module _ (blank : ℕ → Bool) (scope : List Occurrence) where
  pub performed-append : (front back : List Task)
      → performed blank scope (front ++ back) ≡ performed blank scope back ++ performed blank scope front
  performed-append [] back = sym (append-nil (performed blank scope back))
  performed-append (task ∷ rest) back =
      ap (λ l. l ++ goals_of_task blank scope task) (performed-append rest back)
      ∙ append_assoc (performed blank scope back) (performed blank scope rest) (goals_of_task blank scope task)

  -- tasks behind others
  pub joined : (front back : List Task) (first inner : List SimpleGoal) → performed blank scope front ≡ inner → performed blank scope back ≡ first
      → performed blank scope (front ++ back) ≡ first ++ inner
  joined front back first inner a b = performed-append front back ∙ cc (a, b)

  pub arguments_named : (at : ℕ) (terms : Terms) → performed blank scope (argument_tasks (numbered_from at (list_of terms))) ≡ naming_all blank scope at terms
  arguments_named at none = refl
  arguments_named at (more (Variable name span) rest) = joined (argument_tasks (numbered_from (at + 2) (list_of rest))) [] [] _ (arguments_named (at + 2) rest) refl
  arguments_named at (more (Integer value span) rest) =
      joined (argument_tasks (numbered_from (at + 2) (list_of rest))) (Give at (record { term = Integer value span; at = at }) ∷ []) _ _ (arguments_named (at + 2) rest) refl
  arguments_named at (more (Text text span) rest) =
      joined (argument_tasks (numbered_from (at + 2) (list_of rest))) (Give at (record { term = Text text span; at = at }) ∷ []) _ _ (arguments_named (at + 2) rest) refl
  arguments_named at (more (Application name qualifier arguments span) rest) =
      let first = Application name qualifier arguments span in
      joined (argument_tasks (numbered_from (at + parts first) (list_of rest))) (Give at (record { term = first; at = at }) ∷ []) _ _ (arguments_named (at + parts first) rest) refl

  pub variable-is : (at : ℕ) (term : Term) → variable_for blank scope (record { term = term; at = at }) ≡ variable_at blank scope at term
  variable-is at (Variable name span) = refl
  variable-is at (Integer value span) = refl
  variable-is at (Text text span) = refl
  variable-is at (Application name qualifier arguments span) = refl

  pub variables-are : (at : ℕ) (terms : Terms) → map (variable_for blank scope) (numbered_from at (list_of terms)) ≡ variables_at blank scope at terms
  variables-are at none = refl
  variables-are at (more first rest) = cc (variable-is at first, variables-are (at + parts first) rest)

  applied-performed : (operation : Option Operation) (variable name : ℕ) (operands : List ℕ) (inner : List Task)
      → performed blank scope (applied_plan operation variable name operands inner) ≡ applied blank operation variable name operands (performed blank scope inner)
  applied-performed None variable name operands inner =
      performed-append inner (Put (ShapeGoal variable (Constructor name (length operands)) operands) ∷ [])
  applied-performed (Some operation) variable name [] inner = performed-append inner (Put (ShapeGoal variable (Constructor name 0) []) ∷ [])
  applied-performed (Some operation) variable name (only ∷ []) inner =
      performed-append inner (Put (ShapeGoal variable (Constructor name 1) (only ∷ [])) ∷ [])
  applied-performed (Some operation) variable name (left ∷ right ∷ []) inner = refl
  applied-performed (Some operation) variable name (left ∷ right ∷ third ∷ rest) inner =
      let operands : List ℕ = left ∷ right ∷ third ∷ rest in
      performed-append inner (Put (ShapeGoal variable (Constructor name (length operands)) operands) ∷ [])

  -- an application over the arguments as they stand
  over_arguments : (operation : Option Operation) (variable name at : ℕ) (front : List ℕ) (terms : Terms)
      → performed blank scope (applied_plan operation variable name (front ++ map (variable_for blank scope) (numbered_from at (list_of terms))) (argument_tasks (numbered_from at (list_of terms))))
      ≡ applied blank operation variable name (front ++ variables_at blank scope at terms) (naming_all blank scope at terms)
  over_arguments operation variable name at front terms =
      applied-performed operation variable name _ _
      ∙ ap (λ l. applied blank operation variable name (front ++ l) (performed blank scope (argument_tasks (numbered_from at (list_of terms))))) (variables-are at terms)
      ∙ ap (λ l. applied blank operation variable name (front ++ variables_at blank scope at terms) l) (arguments_named at terms)

  application-performed : (negative : Bool) (variable name : ℕ) (qualifier : Option ℕ) (at : ℕ) (terms : Terms)
      → performed blank scope (application_by blank scope negative variable name qualifier at (numbered_from (at + 2) (list_of terms)))
      ≡ (if negative
      then ShapeGoal (at + 1) (IntegerSymbol (pos 0)) [] ∷ applied blank (Some Subtract) variable name ((at + 1) ∷ variables_at blank scope (at + 2) terms) (naming_all blank scope (at + 2) terms)
      else applied blank (if is_none qualifier then operation_of name else None) variable name (variables_at blank scope (at + 2) terms) (naming_all blank scope (at + 2) terms))
  application-performed true variable name qualifier at terms =
      joined
      (applied_plan (Some Subtract) variable name ((at + 1) ∷ map (variable_for blank scope) (numbered_from (at + 2) (list_of terms)))
      (argument_tasks (numbered_from (at + 2) (list_of terms))))
      (Put (ShapeGoal (at + 1) (IntegerSymbol (pos 0)) []) ∷ []) _ _ (over_arguments (Some Subtract) variable name (at + 2) ((at + 1) ∷ []) terms) refl
  application-performed false variable name qualifier at terms =
      over_arguments (if is_none qualifier then operation_of name else None) variable name (at + 2) [] terms

  application-total : (negative : Bool) (variable name : ℕ) (qualifier : Option ℕ) (at : ℕ) (terms : Terms)
      → total (application_by blank scope negative variable name qualifier at (numbered_from (at + 2) (list_of terms))) < 4 + 2 * parts_of terms
  application-total true variable name qualifier at terms =
      let inner : List Task = argument_tasks (numbered_from (at + 2) (list_of terms)) in
      let operands : List ℕ = (at + 1) ∷ map (variable_for blank scope) (numbered_from (at + 2) (list_of terms)) in
      omega (
        arith,
        total-append (applied_plan (Some Subtract) variable name operands inner) (Put (ShapeGoal (at + 1) (IntegerSymbol (pos 0)) []) ∷ []),
        applied-total (Some Subtract) variable name operands inner,
        arguments-total (at + 2) terms,
      )
  application-total false variable name qualifier at terms =
      omega (
        arith,
        applied-total (if is_none qualifier then operation_of name else None) variable name (map (variable_for blank scope) (numbered_from (at + 2) (list_of terms)))
            (argument_tasks (numbered_from (at + 2) (list_of terms))),
        arguments-total (at + 2) terms,
      )

  negation-is : (name : ℕ) (qualifier : Option ℕ) (at : ℕ) (terms : Terms)
      → is_negative name (is_none qualifier) (length (numbered_from at (list_of terms))) ≡ is_negation name qualifier terms
  negation-is name qualifier at none = refl
  negation-is name qualifier at (more only none) = refl
  negation-is name qualifier at (more first (more second rest)) =
      ap (λ one. one && (name == minus_name) && is_none qualifier) (not_one (length (numbered_from (at + parts first + parts second) (list_of rest))))

  plan_term : (variable at : ℕ) (term : Term) → performed blank scope (plan blank scope variable (record { term = term; at = at })) ≡ naming blank scope variable at term
  plan_term variable at (Variable name span) = refl
  plan_term variable at (Integer value span) = refl
  plan_term variable at (Text text span) = refl
  plan_term variable at (Application name qualifier arguments span) =
      application-performed (is_negative name (is_none qualifier) (length (numbered_from (at + 2) (list_of arguments)))) variable name qualifier at arguments
      ∙ rw (negation-is name qualifier (at + 2) arguments)

  plan_total : (variable at : ℕ) (term : Term) → total (plan blank scope variable (record { term = term; at = at })) < 2 * parts term
  plan_total variable at (Variable name span) = omega arith
  plan_total variable at (Integer value span) = omega arith
  plan_total variable at (Text text span) = omega arith
  plan_total variable at (Application name qualifier arguments span) =
      omega (arith, application-total (is_negative name (is_none qualifier) (length (numbered_from (at + 2) (list_of arguments)))) variable name qualifier at arguments)

  -- one step of the loop over tasks

  pub give_step : (tasks popped planned : List Task) (variable : ℕ) (whole : NumberedTerm) (goals all : List SimpleGoal)
      → tasks ≡ popped ++ Give variable whole ∷ [] → planned ≡ popped ++ plan blank scope variable whole
      → goals ++ performed blank scope tasks ≡ all → goals ++ performed blank scope planned ≡ all
  give_step tasks popped planned variable whole goals all popping planning before =
      let after : performed blank scope planned ≡ naming blank scope variable whole.at whole.term ++ performed blank scope popped =
      ap (performed blank scope) planning ∙ joined popped _ _ _ refl (plan_term variable whole.at whole.term) in
      let first : performed blank scope tasks ≡ naming blank scope variable whole.at whole.term ++ performed blank scope popped =
      ap (performed blank scope) popping ∙ performed-append popped (Give variable whole ∷ []) in
      ap (λ l. goals ++ l) (after ∙ sym first) ∙ before

  pub put_step : (tasks popped : List Task) (goal : SimpleGoal) (goals pushed all : List SimpleGoal)
      → tasks ≡ popped ++ Put goal ∷ [] → pushed ≡ goals ++ goal ∷ []
      → goals ++ performed blank scope tasks ≡ all → pushed ++ performed blank scope popped ≡ all
  put_step tasks popped goal goals pushed all popping pushing before =
      ap (λ l. l ++ performed blank scope popped) pushing
      ∙ append_assoc goals (goal ∷ []) (performed blank scope popped)
      ∙ ap (λ l. goals ++ l) (sym (ap (performed blank scope) popping ∙ performed-append popped (Put goal ∷ [])))
      ∙ before

  pub give_size : (tasks popped planned : List Task) (variable : ℕ) (whole : NumberedTerm)
      → tasks ≡ popped ++ Give variable whole ∷ [] → planned ≡ popped ++ plan blank scope variable whole → total planned < total tasks
  give_size tasks popped planned variable whole popping planning =
      omega (
        arith,
        ap total popping,
        ap total planning,
        total-append popped (Give variable whole ∷ []),
        total-append popped (plan blank scope variable whole),
        plan_total variable whole.at whole.term,
      )

pub put_size : (tasks popped : List Task) (goal : SimpleGoal) → tasks ≡ popped ++ Put goal ∷ [] → total popped < total tasks
put_size tasks popped goal popping = omega (arith, ap total popping, total-append popped (Put goal ∷ []))
