-- The numbers of a term's arguments, and of the forms in its plan, keep the limit where those of the term do.
use Rattle.std.proofs.Common.{◌≡◌, ℕ, ◌+◌, ◌==◌, ◌||◌, Bool, true, false, List, [], ◌∷◌, ◌++◌, map, Option, Some, None, if◌then◌else◌, subst, arith}
use Rattle.std.specs.List.{AllByRecursion}
use Rattle.merc_base.specs.Names.{fail_name, false_name, if_name, not_name, not_provable_name, true_name, arrow_name}
use Rattle.merc_base.specs.declared.place.Span.{Span}
use Rattle.merc_tree.specs.Term.{Term, Variable, Integer, Text, Application, none, more, span_of}
use Rattle.merc_operands.specs.Operands.{operands_of}
use Rattle.merc_operands.specs.declared.operands.Operands.TheVariants.{One, Two}
use Rattle.merc_goals.specs.Written.{listed_variables}
use Rattle.merc_goals.specs.Entries.{FormFits}
use Rattle.merc_goals.specs.Numbers.{BothFit, Fits, NumberedTerm, left_of, right_of}
use Rattle.merc_goals.specs.Links.{sides_of, sides, condition_sides, chain}
use Rattle.merc_goals.specs.Plans.{plan, plain_plan, call_plan, two_plan, members_plan, arrow_plan, if_plan, some_by, all_by}
use Rattle.merc_goals.specs.Roles.{role_of}
use Rattle.merc_goals.specs.declared.links.Both.{Both}
use Rattle.merc_goals.specs.declared.planning.Task.{Task}
use Rattle.merc_goals.specs.declared.planning.Task.TheVariants.{Read, Put}
use Rattle.merc_goals.specs.declared.goal.Form.TheVariants.{Truth as TruthForm, Failure as FailureForm, Negated as NegatedForm, WrongForm as NoForm}
use Rattle.merc_goals.specs.declared.roles.ChainKind.{ChainKind}
use Rattle.merc_goals.specs.declared.roles.ChainKind.TheVariants.{Conjuncts, ParallelConjuncts, Disjuncts}
use Rattle.merc_goals.specs.declared.roles.Role.{Role}
use Rattle.merc_goals.specs.declared.roles.Role.TheVariants.{Conjunction as ConjunctionRole, Parallel as ParallelRole, Disjunction as DisjunctionRole, Else, Misplaced, Existential, Universal, Equation, Inequation, Comparison, Unsupported, Call}

pub two_fit : (at : ℕ) (term : Term) (name : ℕ) (left right : Term) → operands_of term ≡ Two name left right → Fits at term → BothFit at left right
two_fit at (Variable own span) name left right is fits = absurd cc
two_fit at (Integer value span) name left right is fits = absurd cc
two_fit at (Text text span) name left right is fits = absurd cc
two_fit at (Application own None none span) name left right is fits = absurd cc
two_fit at (Application own None (more only none) span) name left right is fits = absurd cc
two_fit at (Application own None (more first (more second none)) span) name left right is fits =
    let same : first ≡ left = cc in
    let same' : second ≡ right = cc in
    subst (λ (l : Term). BothFit at l right) same (subst (λ (r : Term). BothFit at first r) same' (omega (arith, fits)))
two_fit at (Application own None (more first (more second (more third rest))) span) name left right is fits = absurd cc
two_fit at (Application own (Some qualifier) arguments span) name left right is fits = absurd cc

pub one_fits : (at : ℕ) (term : Term) (name : ℕ) (only : Term) → operands_of term ≡ One name only → Fits at term → Fits (at + 2) only
one_fits at (Variable own span) name only is fits = absurd cc
one_fits at (Integer value span) name only is fits = absurd cc
one_fits at (Text text span) name only is fits = absurd cc
one_fits at (Application own None none span) name only is fits = absurd cc
one_fits at (Application own None (more first none) span) name only is fits =
    let same : first ≡ only = cc in
    subst (λ (t : Term). Fits (at + 2) t) same (omega (arith, fits))
one_fits at (Application own None (more first (more second none)) span) name only is fits = absurd cc
one_fits at (Application own None (more first (more second (more third rest))) span) name only is fits = absurd cc
one_fits at (Application own (Some qualifier) arguments span) name only is fits = absurd cc

-- what is put down keeps the limit

abbrev pub TaskFits : Task → Type 0
TaskFits (Read numbered) = Unit {0}
TaskFits (Put form at span start) = FormFits at form

abbrev pub TasksFit : List Task → Type 0
TasksFit tasks = AllByRecursion TaskFits tasks

fits_if : (test : Bool) (some other : List Task) → TasksFit some → TasksFit other → TasksFit (if test then some else other)
fits_if true some other fits fits' = fits
fits_if false some other fits fits' = fits'

reads_fit : (members : List NumberedTerm) → TasksFit (map (λ n. Read n) members)
reads_fit [] = tt
reads_fit (first ∷ rest) = (tt, reads_fit rest)

chain_fits : (start : ℕ) (kind : ChainKind) (members : List NumberedTerm) (span : Span) → TasksFit (members_plan start kind members span)
chain_fits start Conjuncts members span = (tt, reads_fit members)
chain_fits start ParallelConjuncts members span = (tt, reads_fit members)
chain_fits start Disjuncts members span = (tt, reads_fit members)

arrow_fits : (start : ℕ) (whole : NumberedTerm) (found : Option Both) (right : NumberedTerm) → TasksFit (arrow_plan start whole found right)
arrow_fits start whole None right = chain_fits start Disjuncts (chain Disjuncts whole.at whole.term) (span_of whole.term)
arrow_fits start whole (Some both) right = (tt, (tt, (tt, (tt, tt))))

else_fits : (start : ℕ) (found : Option Both) (right : NumberedTerm) (span : Span) → TasksFit (if_plan start found right span)
else_fits start None right span = (tt, tt)
else_fits start (Some both) right span = (tt, (tt, (tt, (tt, tt))))

some_fits : (start : ℕ) (variables : Option (List ℕ)) (right : NumberedTerm) (span : Span) → TasksFit (some_by start variables right span)
some_fits start None right span = (tt, tt)
some_fits start (Some variables) right span = (tt, (tt, tt))

all_fits : (start : ℕ) (variables : Option (List ℕ)) (right : NumberedTerm) (span : Span) → TasksFit (all_by start variables right span)
all_fits start None right span = (tt, tt)
all_fits start (Some variables) right span = (tt, (tt, (tt, (tt, tt))))

module _ (start at name : ℕ) (left right : Term) (span : Span) (fits : Fits at (Application name None (more left (more right none)) span)) where
  abbrev whole : NumberedTerm
  whole = record { term = Application name None (more left (more right none)) span; at = at }

  both : BothFit at left right
  both = omega (arith, fits)

  two_plan-fits : (role : Role) → TasksFit (two_plan start whole role name (sides_of at left right))
  two_plan-fits ConjunctionRole = chain_fits start Conjuncts (chain Conjuncts whole.at whole.term) span
  two_plan-fits ParallelRole = chain_fits start ParallelConjuncts (chain ParallelConjuncts whole.at whole.term) span
  two_plan-fits DisjunctionRole = arrow_fits start whole (sides arrow_name (left_of at left)) (right_of at left right)
  two_plan-fits Else = else_fits start (condition_sides (left_of at left)) (right_of at left right) span
  two_plan-fits Misplaced = (tt, tt)
  two_plan-fits Existential = some_fits start (listed_variables left) (right_of at left right) span
  two_plan-fits Universal = all_fits start (listed_variables left) (right_of at left right) span
  two_plan-fits Equation = (both, tt)
  two_plan-fits Inequation = (tt, (both, tt))
  two_plan-fits Comparison = (both, tt)
  two_plan-fits Unsupported = (tt, tt)
  two_plan-fits Call = (fits, tt)

plan_of-fits : (start at : ℕ) (term : Term) → Fits at term → TasksFit (plan start (record { term = term; at = at }))
plan_of-fits start at (Variable name span) fits = (tt, tt)
plan_of-fits start at (Integer value span) fits = (tt, tt)
plan_of-fits start at (Text text span) fits = (tt, tt)
plan_of-fits start at (Application name None none span) fits =
    fits_if (name == true_name) (plain_plan start TruthForm span) _ (tt, tt)
    (fits_if ((name == fail_name) || (name == false_name)) (plain_plan start FailureForm span) (call_plan start (record { term = Application name None none span; at = at })) (tt, tt) (fits, tt))
plan_of-fits start at (Application name None (more only none) span) fits =
    fits_if ((name == not_name) || (name == not_provable_name)) (Put NegatedForm 0 span start ∷ Read (left_of at only) ∷ []) _ (tt, (tt, tt))
    (fits_if (name == if_name) (plain_plan start NoForm span) (call_plan start (record { term = Application name None (more only none) span; at = at })) (tt, tt) (fits, tt))
plan_of-fits start at (Application name None (more left (more right none)) span) fits = two_plan-fits start at name left right span fits (role_of name)
plan_of-fits start at (Application name None (more first (more second (more third rest))) span) fits = (fits, tt)
plan_of-fits start at (Application name (Some qualifier) arguments span) fits = (fits, tt)

pub plan_fits : (start : ℕ) (whole : NumberedTerm) → Fits whole.at whole.term → TasksFit (plan start whole)
plan_fits start whole fits = plan_of-fits start whole.at whole.term fits

-- tasks on a stack

pub fit_append : (some others : List Task) → TasksFit some → TasksFit others → TasksFit (some ++ others)
fit_append [] others fits fits' = fits'
fit_append (first ∷ some) others fits fits' = (fits.0, fit_append some others fits.1 fits')

pub fit_popped : (some : List Task) (last : Task) → TasksFit (some ++ last ∷ []) → TasksFit some × TaskFits last
fit_popped [] last fits = (tt, fits.0)
fit_popped (first ∷ some) last fits = let rest = fit_popped some last fits.1 in ((fits.0, rest.0), rest.1)
