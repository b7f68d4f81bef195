-- What is to be done to write down the entries of a goal, from its last entry to its first. The last of the tasks comes first.
use Rattle.std.specs.Prelude.{ℕ, ◌==◌, ◌||◌, List, [], ◌∷◌, length, map, Option, Some, None, if◌then◌else◌}
use Rattle.merc_base.specs.Names.{arrow_name, fail_name, false_name, if_name, not_name, not_provable_name, true_name}
use Rattle.merc_base.specs.declared.place.Span.{Span}
use Rattle.merc_tree.specs.Term.{Term, span_of}
use Rattle.merc_tree.specs.Shape.{shape_of}
use Rattle.merc_tree.specs.declared.term.Shape.{Shape}
use Rattle.merc_tree.specs.declared.term.Shape.TheVariants.{Variable as VariableShape}
use Rattle.merc_operands.specs.Operands.{operands_of}
use Rattle.merc_operands.specs.declared.operands.Operands.{Operands}
use Rattle.merc_operands.specs.declared.operands.Operands.TheVariants.{Zero, One, Two, Many, Qualified, NotApplied}
use Rattle.merc_goals.specs.Written.{listed_variables}
use Rattle.merc_goals.specs.Roles.{role_of}
use Rattle.merc_goals.specs.Numbers.{left_of}
use Rattle.merc_goals.specs.Links.{sides_of, sides, condition_sides, chain}
use Rattle.merc_goals.specs.declared.roles.Role.{Role}
use Rattle.merc_goals.specs.declared.roles.Role.TheVariants.{Conjunction as ConjunctionRole, Parallel as ParallelRole, Disjunction as DisjunctionRole, Else, Misplaced, Existential, Universal, Equation, Inequation, Comparison, Unsupported, Call}
use Rattle.merc_goals.specs.declared.roles.ChainKind.{ChainKind}
use Rattle.merc_goals.specs.declared.roles.ChainKind.TheVariants.{Conjuncts, ParallelConjuncts, Disjuncts}
use Rattle.merc_goals.specs.Numbers.{NumberedTerm}
use Rattle.merc_goals.specs.declared.links.Both.{Both}
use Rattle.merc_goals.specs.declared.planning.Task.{Task}
use Rattle.merc_goals.specs.declared.planning.Task.TheVariants.{Read, Put}
use Rattle.merc_goals.specs.declared.goal.Form.{Form}
use Rattle.merc_goals.specs.declared.goal.Form.TheVariants.{Truth as TruthForm, Failure as FailureForm, Equal as EqualForm, Compared as ComparedForm, Called as CalledForm, Conjunction as ConjunctionForm, Parallel as ParallelForm, Disjunction as DisjunctionForm, Conditional as ConditionalForm, Negated as NegatedForm, Quantified as QuantifiedForm, WrongForm as NoForm, OutsideProfile as OutsideForm}

abbrev pub plain_plan : ℕ → Form → Span → List Task
plain_plan start form span = Put form 0 span start ∷ []

abbrev pub call_plan : ℕ → NumberedTerm → List Task
call_plan start whole = Put (CalledForm whole.term) whole.at (span_of whole.term) start ∷ []

-- a name alone
abbrev pub name_plan : ℕ → NumberedTerm → ℕ → List Task
name_plan start whole name =
    if name == true_name then plain_plan start TruthForm (span_of whole.term)
    else if (name == fail_name) || (name == false_name) then plain_plan start FailureForm (span_of whole.term)
    else call_plan start whole

-- a variable or a literal
abbrev pub unapplied_plan : ℕ → Shape → Span → List Task
unapplied_plan start (VariableShape name) span = plain_plan start OutsideForm span
unapplied_plan start other span = plain_plan start NoForm span

-- a name with one argument
abbrev pub one_plan : ℕ → NumberedTerm → ℕ → Term → List Task
one_plan start whole name only =
    if (name == not_name) || (name == not_provable_name) then Put NegatedForm 0 (span_of whole.term) start ∷ Read (left_of whole.at only) ∷ []
    else if name == if_name then plain_plan start NoForm (span_of whole.term)
    else call_plan start whole

abbrev pub chain_form : ChainKind → ℕ → Form
chain_form Conjuncts count = ConjunctionForm count
chain_form ParallelConjuncts count = ParallelForm count
chain_form Disjuncts count = DisjunctionForm count

abbrev pub members_plan : ℕ → ChainKind → List NumberedTerm → Span → List Task
members_plan start kind members span = Put (chain_form kind (length members)) 0 span start ∷ map (λ n. Read n) members

abbrev pub chain_plan : ℕ → ChainKind → NumberedTerm → List Task
chain_plan start kind whole = members_plan start kind (chain kind whole.at whole.term) (span_of whole.term)

abbrev pub conditional_plan : ℕ → Both → NumberedTerm → Span → List Task
conditional_plan start parts else_part span = Put ConditionalForm 0 span start ∷ Read parts.left ∷ Read parts.right ∷ Read else_part ∷ []

abbrev pub arrow_plan : ℕ → NumberedTerm → Option Both → NumberedTerm → List Task
arrow_plan start whole (Some parts) right = conditional_plan start parts right (span_of whole.term)
arrow_plan start whole None right = chain_plan start Disjuncts whole

abbrev pub alternatives_plan : ℕ → NumberedTerm → Both → List Task
alternatives_plan start whole both = arrow_plan start whole (sides arrow_name both.left) both.right

abbrev pub if_plan : ℕ → Option Both → NumberedTerm → Span → List Task
if_plan start (Some parts) right span = conditional_plan start parts right span
if_plan start None right span = plain_plan start NoForm span

abbrev pub else_plan : ℕ → Both → Span → List Task
else_plan start both span = if_plan start (condition_sides both.left) both.right span

abbrev pub some_by : ℕ → Option (List ℕ) → NumberedTerm → Span → List Task
some_by start (Some variables) right span = Put (QuantifiedForm variables) 0 span start ∷ Read right ∷ []
some_by start None right span = plain_plan start NoForm span

abbrev pub some_plan : ℕ → Both → Span → List Task
some_plan start both span = some_by start (listed_variables both.left.term) both.right span

abbrev pub all_by : ℕ → Option (List ℕ) → NumberedTerm → Span → List Task
all_by start (Some variables) right span =
    Put NegatedForm 0 span start ∷ Put (QuantifiedForm variables) 0 span start ∷ Put NegatedForm 0 span start ∷ Read right ∷ []
all_by start None right span = plain_plan start NoForm span

abbrev pub all_plan : ℕ → Both → Span → List Task
all_plan start both span = all_by start (listed_variables both.left.term) both.right span

-- a name of this role with two arguments
abbrev pub two_plan : ℕ → NumberedTerm → Role → ℕ → Both → List Task
two_plan start whole ConjunctionRole name both = chain_plan start Conjuncts whole
two_plan start whole ParallelRole name both = chain_plan start ParallelConjuncts whole
two_plan start whole DisjunctionRole name both = alternatives_plan start whole both
two_plan start whole Else name both = else_plan start both (span_of whole.term)
two_plan start whole Misplaced name both = plain_plan start NoForm (span_of whole.term)
two_plan start whole Existential name both = some_plan start both (span_of whole.term)
two_plan start whole Universal name both = all_plan start both (span_of whole.term)
two_plan start whole Equation name both = Put (EqualForm both.left.term both.right.term) whole.at (span_of whole.term) start ∷ []
two_plan start whole Inequation name both =
    Put NegatedForm 0 (span_of whole.term) start ∷ Put (EqualForm both.left.term both.right.term) whole.at (span_of whole.term) start ∷ []
two_plan start whole Comparison name both = Put (ComparedForm name both.left.term both.right.term) whole.at (span_of whole.term) start ∷ []
two_plan start whole Unsupported name both = plain_plan start OutsideForm (span_of whole.term)
two_plan start whole Call name both = call_plan start whole

-- a term by its operands
abbrev pub plan_by : ℕ → NumberedTerm → Operands → List Task
plan_by start whole (Zero name) = name_plan start whole name
plan_by start whole (One name only) = one_plan start whole name only
plan_by start whole (Two name left right) = two_plan start whole (role_of name) name (sides_of whole.at left right)
plan_by start whole (Many name) = call_plan start whole
plan_by start whole Qualified = call_plan start whole
plan_by start whole NotApplied = unapplied_plan start (shape_of whole.term) (span_of whole.term)

abbrev pub plan : ℕ → NumberedTerm → List Task
plan start whole = plan_by start whole (operands_of whole.term)
