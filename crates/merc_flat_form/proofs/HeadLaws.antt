-- The variables of terms, and the arguments of heads.
use Rattle.std.proofs.Common.{◌≡◌, ℕ, ◌+◌, ◌<◌, ◌≤◌, ◌==◌, ◌||◌, Bool, true, false, if◌then◌else◌, List, [], ◌∷◌, ◌++◌, length, drop, reverse, refl, ap, sym, ◌∙◌, add-zero, zero-add, arith}
use Rattle.std.proofs.lemmas.List.{append_assoc, append-nil, drop_all, reverse-append}
use Rattle.merc_tree.specs.Term.{Term, Terms, Variable, Integer, Text, Application, none, more, list_of}
use Rattle.merc_tree.specs.Shape.{shape_of, arguments_of}
use Rattle.merc_tree.specs.declared.term.Shape.TheVariants.{Variable as VariableShape}
use Rattle.merc_goals.specs.Written.{parts, parts_of}
use Rattle.merc_goal_tree.specs.declared.goal.SimpleGoal.{SimpleGoal}
use Rattle.merc_goal_tree.specs.declared.goal.SimpleGoal.TheVariants.{Same}
use Rattle.merc_scopes.specs.declared.occurrence.Occurrence.{Occurrence}
use Rattle.merc_scopes.specs.Scopes.{occurrences, occurrences_of}
use Rattle.merc_goals.specs.Numbers.{NumberedTerm}
use Rattle.merc_flat_form.specs.declared.tasks.Task.{Task}
use Rattle.merc_flat_form.specs.declared.tasks.Task.TheVariants.{Put}
use Rattle.merc_flat_form.specs.FlatForm.{argument_terms, variable_of, head_scope, head_goal, head_goals}
use Rattle.merc_goals.specs.Numbers.{numbered_from}
use Rattle.merc_flat_form.specs.Numbering.{numbered_arguments}
use Rattle.merc_flat_form.specs.Tasks.{performed}
use Rattle.merc_flat_form.specs.HeadTasks.{named, head_parts, head_task, head_tasks}
use Rattle.merc_flat_form.proofs.TaskLaws.{joined, performed-append}
use Rattle.merc_flat_form.proofs.GoalLaws.{arguments-listed}

pub reversed_step : (left pushed : List NumberedTerm) (rest popped : List NumberedTerm) (last : NumberedTerm) (whole : List NumberedTerm)
    → rest ≡ popped ++ last ∷ [] → pushed ≡ left ++ last ∷ [] → left ++ reverse rest ≡ whole → pushed ++ reverse popped ≡ whole
reversed_step left pushed rest popped last whole popping pushing before =
    ap (λ l. l ++ reverse popped) pushing
    ∙ append_assoc left (last ∷ []) (reverse popped)
    ∙ ap (λ l. left ++ l) (sym (ap reverse popping ∙ reverse-append popped (last ∷ [])))
    ∙ before

-- how many parts terms have
abbrev pub sizes : List NumberedTerm → ℕ
sizes [] = 0
sizes (one ∷ rest) = parts one.term + sizes rest

sizes-append : (front back : List NumberedTerm) → sizes (front ++ back) ≡ sizes front + sizes back
sizes-append [] back = omega arith
sizes-append (one ∷ rest) back = omega (arith, sizes-append rest back)

sizes-reverse : (list : List NumberedTerm) → sizes (reverse list) ≡ sizes list
sizes-reverse [] = refl
sizes-reverse (one ∷ rest) =
    omega (
      arith,
      ap sizes (reverse-append (one ∷ []) rest),
      sizes-append (reverse rest) (one ∷ []),
      sizes-reverse rest,
    )

sizes-from : (at : ℕ) (terms : Terms) → sizes (numbered_from at (list_of terms)) ≡ parts_of terms
sizes-from at none = refl
sizes-from at (more first rest) = omega (arith, sizes-from (at + parts first) rest)

arguments_less : (at : ℕ) (term : Term) → sizes (reverse (numbered_arguments (record { term = term; at = at }))) < parts term
arguments_less at (Variable name span) = omega arith
arguments_less at (Integer value span) = omega arith
arguments_less at (Text text span) = omega arith
arguments_less at (Application name qualifier arguments span) =
    omega (arith, sizes-reverse (numbered_from (at + 2) (list_of arguments)), sizes-from (at + 2) arguments)

pub part_less : (left popped pushed : List NumberedTerm) (part : NumberedTerm) → left ≡ popped ++ part ∷ []
    → pushed ≡ popped ++ reverse (numbered_arguments part) → sizes pushed < sizes left
part_less left popped pushed part popping pushing =
    omega (
      arith,
      ap sizes popping,
      ap sizes pushing,
      sizes-append popped (part ∷ []),
      sizes-append popped (reverse (numbered_arguments part)),
      arguments_less part.at part.term,
    )

some_parts : (term : Term) → 0 < parts term
some_parts (Variable name span) = omega arith
some_parts (Integer value span) = omega arith
some_parts (Text text span) = omega arith
some_parts (Application name qualifier arguments span) = omega arith

pub variable_less : (left popped : List NumberedTerm) (part : NumberedTerm) → left ≡ popped ++ part ∷ [] → sizes popped < sizes left
variable_less left popped part popping = omega (arith, ap sizes popping, sizes-append popped (part ∷ []), some_parts part.term)

module _ (blank : ℕ → Bool) where
  -- the variables of terms on a stack, those of the last of them first
  abbrev pub waiting : List NumberedTerm → List Occurrence
  waiting [] = []
  waiting (one ∷ rest) = waiting rest ++ occurrences blank one.at one.term

  waiting-append : (front back : List NumberedTerm) → waiting (front ++ back) ≡ waiting back ++ waiting front
  waiting-append [] back = sym (append-nil (waiting back))
  waiting-append (one ∷ rest) back =
      ap (λ l. l ++ occurrences blank one.at one.term) (waiting-append rest back)
      ∙ append_assoc (waiting back) (waiting rest) (occurrences blank one.at one.term)

  waiting-reverse : (at : ℕ) (terms : Terms) → waiting (reverse (numbered_from at (list_of terms))) ≡ occurrences_of blank at terms
  waiting-reverse at none = refl
  waiting-reverse at (more first rest) =
      let one : NumberedTerm = record { term = first; at = at } in
      let others : List NumberedTerm = numbered_from (at + parts first) (list_of rest) in
      ap waiting (reverse-append (one ∷ []) others)
      ∙ waiting-append (reverse others) (one ∷ [])
      ∙ ap (λ l. occurrences blank at first ++ l) (waiting-reverse (at + parts first) rest)

  waiting-arguments : (at : ℕ) (term : Term) → ((name : ℕ) → shape_of term ≡ VariableShape name → ⊥)
      → waiting (reverse (numbered_arguments (record { term = term; at = at }))) ≡ occurrences blank at term
  waiting-arguments at (Variable name span) other = absurd (other name refl)
  waiting-arguments at (Integer value span) other = refl
  waiting-arguments at (Text text span) other = refl
  waiting-arguments at (Application name qualifier arguments span) other = waiting-reverse (at + 2) arguments

  waiting-variable : (at name : ℕ) (term : Term) → shape_of term ≡ VariableShape name → occurrences blank at term ≡ named blank name at
  waiting-variable at name (Variable other span) is = let same : other ≡ name = cc in ap (λ n. named blank n at) same
  waiting-variable at name (Integer value span) is = cc
  waiting-variable at name (Text text span) is = cc
  waiting-variable at name (Application other qualifier arguments span) is = cc

  pub arguments_step : (left popped pushed : List NumberedTerm) (part : NumberedTerm) (found whole : List Occurrence) → left ≡ popped ++ part ∷ []
      → pushed ≡ popped ++ reverse (numbered_arguments part) → ((name : ℕ) → shape_of part.term ≡ VariableShape name → ⊥)
      → found ++ waiting left ≡ whole → found ++ waiting pushed ≡ whole
  arguments_step left popped pushed part found whole popping pushing other before =
      let after : waiting pushed ≡ occurrences blank part.at part.term ++ waiting popped =
      ap waiting pushing ∙ waiting-append popped (reverse (numbered_arguments part)) ∙ ap (λ l. l ++ waiting popped) (waiting-arguments part.at part.term other) in
      let first : waiting left ≡ occurrences blank part.at part.term ++ waiting popped = ap waiting popping ∙ waiting-append popped (part ∷ []) in
      ap (λ l. found ++ l) (after ∙ sym first) ∙ before

  pub variable_step : (left popped : List NumberedTerm) (part : NumberedTerm) (name : ℕ) (found more_found whole : List Occurrence) → left ≡ popped ++ part ∷ []
      → shape_of part.term ≡ VariableShape name → more_found ≡ found ++ named blank name part.at
      → found ++ waiting left ≡ whole → more_found ++ waiting popped ≡ whole
  variable_step left popped part name found more_found whole popping is pushing before =
      ap (λ l. l ++ waiting popped) (pushing ∙ ap (λ l. found ++ l) (sym (waiting-variable part.at name part.term is)))
      ∙ append_assoc found (occurrences blank part.at part.term) (waiting popped)
      ∙ ap (λ l. found ++ l) (sym (ap waiting popping ∙ waiting-append popped (part ∷ [])))
      ∙ before

  parts-named : (number at : ℕ) (terms : Terms) → head_parts blank number (numbered_from at (list_of terms)) ≡ head_scope blank number at terms
  parts-named number at none = refl
  parts-named number at (more (Variable name span) rest) = ap (λ l. named blank name number ++ l) (parts-named (number + 1) (at + 2) rest)
  parts-named number at (more (Integer value span) rest) = parts-named (number + 1) (at + 2) rest
  parts-named number at (more (Text text span) rest) = parts-named (number + 1) (at + 2) rest
  parts-named number at (more (Application name qualifier arguments span) rest) =
      let first = Application name qualifier arguments span in
      ap (λ l. occurrences blank at first ++ l) (parts-named (number + 1) (at + parts first) rest)

  pub scope-end : (items : List NumberedTerm) (number : ℕ) (found : List Occurrence) → length items ≤ number
      → found ++ head_parts blank number (drop number items) ≡ head_parts blank 0 items → found ≡ head_parts blank 0 items
  scope-end items number found past before =
      sym (append-nil found) ∙ ap (λ l. found ++ head_parts blank number l) (sym (drop_all number items past)) ∙ before

  pub scope-named : (at : ℕ) (head copied : Term) (arguments : List NumberedTerm) → copied ≡ head
      → arguments ≡ numbered_arguments (record { term = copied; at = at })
      → head_parts blank 0 arguments ≡ head_scope blank 0 (at + 2) (argument_terms head)
  scope-named at head copied arguments copying listing =
      ap (head_parts blank 0) (listing ∙ ap (λ l. numbered_from (at + 2) l) (ap arguments_of copying ∙ arguments-listed head))
      ∙ parts-named 0 (at + 2) (argument_terms head)

module _ (blank : ℕ → Bool) (scope : List Occurrence) where
  -- the last argument's task stands first
  tasks-push : (number : ℕ) (front : List NumberedTerm) (last : NumberedTerm)
      → head_tasks blank scope number (front ++ last ∷ [])
      ≡ head_task blank scope (shape_of last.term) (number + length front) last ++ head_tasks blank scope number front
  tasks-push number [] last =
      ap (λ n. head_task blank scope (shape_of last.term) n last) (sym (add-zero number))
      ∙ sym (append-nil (head_task blank scope (shape_of last.term) (number + 0) last))
  tasks-push number (first ∷ rest) last =
      ap (λ l. l ++ head_task blank scope (shape_of first.term) number first) (tasks-push (number + 1) rest last)
      ∙ append_assoc (head_task blank scope (shape_of last.term) (number + 1 + length rest) last) (head_tasks blank scope (number + 1) rest)
      (head_task blank scope (shape_of first.term) number first)
      ∙ ap (λ n. head_task blank scope (shape_of last.term) n last ++ (head_tasks blank scope (number + 1) rest ++ head_task blank scope (shape_of first.term) number first))
      (omega arith)

  pub head_step : (tasks pushed : List Task) (rest popped : List NumberedTerm) (last : NumberedTerm) (number : ℕ) (whole : List Task)
      → rest ≡ popped ++ last ∷ [] → number ≡ length popped → pushed ≡ tasks ++ head_task blank scope (shape_of last.term) number last
      → tasks ++ head_tasks blank scope 0 rest ≡ whole → pushed ++ head_tasks blank scope 0 popped ≡ whole
  head_step tasks pushed rest popped last number whole popping counting pushing before =
      ap (λ l. l ++ head_tasks blank scope 0 popped) (pushing ∙ ap (λ n. tasks ++ head_task blank scope (shape_of last.term) n last) (counting ∙ sym (zero-add (length popped))))
      ∙ append_assoc tasks (head_task blank scope (shape_of last.term) (0 + length popped) last) (head_tasks blank scope 0 popped)
      ∙ ap (λ l. tasks ++ l) (sym (ap (head_tasks blank scope 0) popping ∙ tasks-push 0 popped last))
      ∙ before

  same-performed : (test : Bool) (goal : SimpleGoal)
      → performed blank scope (if test then [] else Put goal ∷ []) ≡ (if test then [] else goal ∷ [])
  same-performed true goal = refl
  same-performed false goal = refl

  task-performed : (number at : ℕ) (term : Term)
      → performed blank scope (head_task blank scope (shape_of term) number (record { term = term; at = at })) ≡ head_goal blank scope number at term
  task-performed number at (Variable name span) =
      same-performed (blank name || (variable_of scope name == number)) (Same number (variable_of scope name))
  task-performed number at (Integer value span) = refl
  task-performed number at (Text text span) = refl
  task-performed number at (Application name qualifier arguments span) = refl

  tasks-performed : (number at : ℕ) (terms : Terms)
      → performed blank scope (head_tasks blank scope number (numbered_from at (list_of terms))) ≡ head_goals blank scope number at terms
  tasks-performed number at none = refl
  tasks-performed number at (more first rest) =
      joined blank scope (head_tasks blank scope (number + 1) (numbered_from (at + parts first) (list_of rest)))
      (head_task blank scope (shape_of first) number (record { term = first; at = at })) _ _ (tasks-performed (number + 1) (at + parts first) rest)
      (task-performed number at first)

  pub head-performed : (at : ℕ) (head copied : Term) (arguments : List NumberedTerm) (tasks planned : List Task) → copied ≡ head
      → arguments ≡ numbered_arguments (record { term = copied; at = at }) → tasks ≡ []
      → planned ≡ tasks ++ head_tasks blank scope 0 arguments → performed blank scope planned ≡ head_goals blank scope 0 (at + 2) (argument_terms head)
  head-performed at head copied arguments tasks planned copying listing empty planning =
      let listed : arguments ≡ numbered_from (at + 2) (list_of (argument_terms head)) =
      listing ∙ ap (λ l. numbered_from (at + 2) l) (ap arguments_of copying ∙ arguments-listed head) in
      ap (performed blank scope) (planning ∙ ap (λ l. l ++ head_tasks blank scope 0 arguments) empty ∙ ap (head_tasks blank scope 0) listed) ∙ tasks-performed 0 (at + 2) (argument_terms head)
