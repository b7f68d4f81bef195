-- The goal that a name with two arguments is, by the name's role.
use Rattle.std.proofs.Common.{◌≡◌, ℕ, ◌+◌, ◌==◌, ◌||◌, Bool, true, false, Option, Some, None, if◌then◌else◌, refl, ap, sym, ◌∙◌}
use Rattle.merc_base.specs.Names.{all_name, ampersand_name, arrow_name, at_least_name, at_most_name, colon_colon_name, comma_name, else_name, equal_equal_name, equal_name, equivalent_name, greater_name, if_name, implies_name, is_name, less_name, not_equal_name, semicolon_name, some_name, then_name}
use Rattle.merc_base.specs.declared.place.Span.{Span}
use Rattle.merc_tree.specs.Term.{Term, Variable, Integer, Text, Application, none, more}
use Rattle.merc_goals.specs.Written.{Written, Equal, Compared, Called, Conjunction, Parallel, Negated, WrongForm, OutsideProfile, joined, conjuncts, parallel_conjuncts, alternatives, conditional, quantified, listed_variables, binary, written, arrow_parts, if_then_parts, then_parts}
use Rattle.merc_goals.specs.Roles.{role_of}
use Rattle.merc_goals.specs.Numbers.{left_of, right_of}
use Rattle.merc_goals.specs.Links.{sides, condition_sides, is_arrow}
use Rattle.merc_goals.specs.Numbers.{NumberedTerm}
use Rattle.merc_goals.specs.declared.links.Both.{Both}
use Rattle.merc_goals.specs.declared.roles.Role.{Role}
use Rattle.merc_goals.specs.declared.roles.Role.TheVariants.{Conjunction as ConjunctionRole, Parallel as ParallelRole, Disjunction as DisjunctionRole, Else, Misplaced, Existential, Universal, Equation, Inequation, Comparison, Unsupported, Call}

abbrev pub by_role : Role → ℕ → ℕ → Term → Term → Written → Written → Option (Written × Written) → Option (Written × Written) → Span → Written
by_role ConjunctionRole at name left right first second arrow if_then span = Conjunction (joined (conjuncts first) (conjuncts second)) span
by_role ParallelRole at name left right first second arrow if_then span = Parallel (joined (parallel_conjuncts first) (parallel_conjuncts second)) span
by_role DisjunctionRole at name left right first second arrow if_then span = alternatives arrow first second span
by_role Else at name left right first second arrow if_then span = conditional if_then second span
by_role Misplaced at name left right first second arrow if_then span = WrongForm span
by_role Existential at name left right first second arrow if_then span = quantified false (listed_variables left) second span
by_role Universal at name left right first second arrow if_then span = quantified true (listed_variables left) second span
by_role Equation at name left right first second arrow if_then span = Equal at left right span
by_role Inequation at name left right first second arrow if_then span = Negated (Equal at left right span) span
by_role Comparison at name left right first second arrow if_then span = Compared at name left right span
by_role Unsupported at name left right first second arrow if_then span = OutsideProfile span
by_role Call at name left right first second arrow if_then span = Called at name None (more left (more right none)) span

through : (f : Role → Written) (test : Bool) (role other : Role) (goal rest : Written) → f role ≡ goal → f other ≡ rest → f (if test then role else other) ≡ (if test then goal else rest)
through f true role other goal rest is others = is
through f false role other goal rest is others = others

pub binary-by_role : (at name : ℕ) (left right : Term) (first second : Written) (arrow if_then : Option (Written × Written)) (span : Span)
    → by_role (role_of name) at name left right first second arrow if_then span ≡ binary at name left right first second arrow if_then span
binary-by_role at name left right first second arrow if_then span =
    let f : Role → Written = λ r. by_role r at name left right first second arrow if_then span in
    through f (name == comma_name) _ _ _ _ refl
    (through f (name == ampersand_name) _ _ _ _ refl
    (through f (name == semicolon_name) _ _ _ _ refl
    (through f (name == else_name) _ _ _ _ refl
    (through f ((name == arrow_name) || (name == then_name)) _ _ _ _ refl
    (through f (name == some_name) _ _ _ _ refl
    (through f (name == all_name) _ _ _ _ refl
    (through f (name == equal_name) _ _ _ _ refl
    (through f (name == not_equal_name) _ _ _ _ refl
    (through f ((name == less_name) || (name == greater_name) || (name == at_most_name) || (name == at_least_name)) _ _ _ _ refl
    (through f ((name == implies_name) || (name == equivalent_name) || (name == is_name) || (name == equal_equal_name) || (name == colon_colon_name)) _ _ _ _ refl refl))))))))))

-- the goal of a term with its number
abbrev pub goal_at : NumberedTerm → Written
goal_at numbered = written numbered.at numbered.term

abbrev pub both_goals : Both → Written × Written
both_goals both = (goal_at both.left, goal_at both.right)

abbrev pub goals_at : Option Both → Option (Written × Written)
goals_at None = None
goals_at (Some both) = Some (both_goals both)

goals_if : (test : Bool) (both : Both) → (if test then Some (both_goals both) else None) ≡ goals_at (if test then Some both else None)
goals_if true both = refl
goals_if false both = refl

pub arrow_parts-sides : (at : ℕ) (term : Term) → arrow_parts at term ≡ goals_at (sides arrow_name (record { term = term; at = at }))
arrow_parts-sides at (Variable name span) = refl
arrow_parts-sides at (Integer value span) = refl
arrow_parts-sides at (Text text span) = refl
arrow_parts-sides at (Application name None none span) = refl
arrow_parts-sides at (Application name None (more only none) span) = refl
arrow_parts-sides at (Application name None (more left (more right none)) span) =
    goals_if (name == arrow_name) (record { left = left_of at left; right = right_of at left right })
arrow_parts-sides at (Application name None (more first (more second (more third rest))) span) = refl
arrow_parts-sides at (Application name (Some qualifier) arguments span) = refl

pub then_parts-sides : (at : ℕ) (term : Term) → then_parts at term ≡ goals_at (sides then_name (record { term = term; at = at }))
then_parts-sides at (Variable name span) = refl
then_parts-sides at (Integer value span) = refl
then_parts-sides at (Text text span) = refl
then_parts-sides at (Application name None none span) = refl
then_parts-sides at (Application name None (more only none) span) = refl
then_parts-sides at (Application name None (more left (more right none)) span) =
    goals_if (name == then_name) (record { left = left_of at left; right = right_of at left right })
then_parts-sides at (Application name None (more first (more second (more third rest))) span) = refl
then_parts-sides at (Application name (Some qualifier) arguments span) = refl

parts_if : (test : Bool) (parts : Option (Written × Written)) (found : Option Both) → parts ≡ goals_at found
    → (if test then parts else None) ≡ goals_at (if test then found else None)
parts_if true parts found is = is
parts_if false parts found is = refl

pub if_then_parts-sides : (at : ℕ) (term : Term) → if_then_parts at term ≡ goals_at (condition_sides (record { term = term; at = at }))
if_then_parts-sides at (Variable name span) = refl
if_then_parts-sides at (Integer value span) = refl
if_then_parts-sides at (Text text span) = refl
if_then_parts-sides at (Application name None none span) = refl
if_then_parts-sides at (Application name None (more only none) span) =
    parts_if (name == if_name) (then_parts (at + 2) only) (sides then_name (left_of at only)) (then_parts-sides (at + 2) only)
if_then_parts-sides at (Application name None (more left (more right none)) span) = refl
if_then_parts-sides at (Application name None (more first (more second (more third rest))) span) = refl
if_then_parts-sides at (Application name (Some qualifier) arguments span) = refl

-- whether there are parts
abbrev pub is_some : Option (Written × Written) → Bool
is_some None = false
is_some (Some parts) = true

some_if : (test : Bool) (parts : Written × Written) → test ≡ is_some (if test then Some parts else None)
some_if true parts = refl
some_if false parts = refl

pub is_arrow-parts : (at : ℕ) (term : Term) → is_arrow term ≡ is_some (arrow_parts at term)
is_arrow-parts at (Variable name span) = refl
is_arrow-parts at (Integer value span) = refl
is_arrow-parts at (Text text span) = refl
is_arrow-parts at (Application name None none span) = refl
is_arrow-parts at (Application name None (more only none) span) = refl
is_arrow-parts at (Application name None (more left (more right none)) span) = some_if (name == arrow_name) _
is_arrow-parts at (Application name None (more first (more second (more third rest))) span) = refl
is_arrow-parts at (Application name (Some qualifier) arguments span) = refl

-- the goal of a term with two arguments
pub written-by_role : (at name : ℕ) (left right : Term) (span : Span)
    → written at (Application name None (more left (more right none)) span)
    ≡ by_role (role_of name) at name left right (goal_at (left_of at left)) (goal_at (right_of at left right))
    (goals_at (sides arrow_name (left_of at left))) (goals_at (condition_sides (left_of at left))) span
written-by_role at name left right span =
    let first = goal_at (left_of at left) in
    let second = goal_at (right_of at left right) in
    sym (binary-by_role at name left right first second (arrow_parts (at + 2) left) (if_then_parts (at + 2) left) span)
    ∙ ap (λ arrow. by_role (role_of name) at name left right first second arrow (if_then_parts (at + 2) left) span) (arrow_parts-sides (at + 2) left)
    ∙ ap (λ parts. by_role (role_of name) at name left right first second (goals_at (sides arrow_name (left_of at left))) parts span) (if_then_parts-sides (at + 2) left)
