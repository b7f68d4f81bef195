-- The plan of a term writes the entries of the goal that it is.
use Rattle.std.proofs.Common.{◌≡◌, ℕ, suc, ◌+◌, ◌==◌, ◌||◌, true, false, List, [], ◌∷◌, ◌++◌, length, Option, Some, None, if◌then◌else◌, refl, ap, sym, subst, ◌∙◌}
use Rattle.merc_base.specs.Names.{arrow_name, fail_name, false_name, if_name, not_name, not_provable_name, true_name}
use Rattle.merc_base.specs.declared.place.Span.{Span}
use Rattle.merc_tree.specs.Term.{Term, Variable, Integer, Text, Application, none, more, span_of}
use Rattle.merc_goals.specs.Written.{Written, WrittenGoals, Truth, Failure, Called, Negated, WrongForm, alternatives, conditional, quantified, listed_variables, written}
use Rattle.merc_goals.specs.Entries.{goal_list, entry_before, entries_of, all_entries}
use Rattle.merc_goals.specs.Roles.{role_of}
use Rattle.merc_goals.specs.Numbers.{left_of, right_of}
use Rattle.merc_goals.specs.Links.{sides_of, sides, condition_sides, chain}
use Rattle.merc_goals.specs.Plans.{plan, plain_plan, call_plan, two_plan, members_plan, chain_form, conditional_plan, arrow_plan, if_plan, some_by, all_by}
use Rattle.merc_goals.proofs.RoleLaws.{by_role, goal_at, goals_at, written-by_role}
use Rattle.merc_goals.proofs.ChainGoals.{members_of, goals_for, chain_goals}
use Rattle.merc_goals.proofs.Writing.{Writes, writes_read, writes_before, writes_put, writes_leaf, writes_if, writes_members}
use Rattle.merc_goals.specs.Numbers.{NumberedTerm}
use Rattle.merc_goals.specs.declared.links.Both.{Both}
use Rattle.merc_goals.specs.declared.planning.Task.TheVariants.{Read, Put}
use Rattle.merc_goals.specs.declared.goal.Form.TheVariants.{Truth as TruthForm, Failure as FailureForm, Equal as EqualForm, Compared as ComparedForm, Called as CalledForm, Conditional as ConditionalForm, Negated as NegatedForm, Quantified as QuantifiedForm, WrongForm as NoForm, OutsideProfile as OutsideForm}
use Rattle.merc_goals.specs.declared.roles.ChainKind.{ChainKind}
use Rattle.merc_goals.specs.declared.roles.ChainKind.TheVariants.{Conjuncts, ParallelConjuncts, Disjuncts}
use Rattle.merc_goals.specs.declared.roles.Role.{Role}
use Rattle.merc_goals.specs.declared.roles.Role.TheVariants.{Conjunction as ConjunctionRole, Parallel as ParallelRole, Disjunction as DisjunctionRole, Else, Misplaced, Existential, Universal, Equation, Inequation, Comparison, Unsupported, Call}

length-goals : (members : List NumberedTerm) → length members ≡ length (goal_list (goals_for members))
length-goals [] = refl
length-goals (first ∷ rest) = ap suc (length-goals rest)

-- a chain is one list of goals
writes_chain : (start : ℕ) (kind : ChainKind) (span : Span) (members : List NumberedTerm) (goals : WrittenGoals) → goals_for members ≡ goals
    → Writes start (members_plan start kind members span) (entry_before (chain_form kind (length (goal_list goals))) 0 span (all_entries goals))
writes_chain start kind span members goals is =
    let count : length members ≡ length (goal_list goals) = length-goals members ∙ ap (λ g. length (goal_list g)) is in
    let P : WrittenGoals → Type 0 = λ g. Writes start (members_plan start kind members span) (entry_before (chain_form kind (length (goal_list goals))) 0 span (all_entries g)) in
    let Q : ℕ → Type 0 = λ n. Writes start (members_plan start kind members span) (entry_before (chain_form kind n) 0 span (all_entries (goals_for members))) in
    subst P is (subst Q count (writes_put start (chain_form kind (length members)) 0 span _ _ (writes_members start members)))

writes_conditional : (start : ℕ) (both : Both) (right : NumberedTerm) (span : Span)
    → Writes start (conditional_plan start both right span)
    (entry_before ConditionalForm 0 span (entries_of (goal_at both.left) ++ (entries_of (goal_at both.right) ++ entries_of (goal_at right))))
writes_conditional start both right span =
    writes_put start ConditionalForm 0 span _ _
    (writes_before start both.left _ _ (writes_before start both.right _ _ (writes_read start right)))

writes_alternatives : (start : ℕ) (whole : NumberedTerm) (found : Option Both) (right : NumberedTerm) (first : Written)
    → goals_for (chain Disjuncts whole.at whole.term) ≡ members_of (alternatives (goals_at found) first (goal_at right) (span_of whole.term)) Disjuncts
    → Writes start (arrow_plan start whole found right) (entries_of (alternatives (goals_at found) first (goal_at right) (span_of whole.term)))
writes_alternatives start whole None right first is = writes_chain start Disjuncts (span_of whole.term) (chain Disjuncts whole.at whole.term) _ is
writes_alternatives start whole (Some both) right first is = writes_conditional start both right (span_of whole.term)

writes_else : (start : ℕ) (found : Option Both) (right : NumberedTerm) (span : Span)
    → Writes start (if_plan start found right span) (entries_of (conditional (goals_at found) (goal_at right) span))
writes_else start None right span = writes_leaf start NoForm 0 span
writes_else start (Some both) right span = writes_conditional start both right span

writes_some : (start : ℕ) (variables : Option (List ℕ)) (right : NumberedTerm) (span : Span)
    → Writes start (some_by start variables right span) (entries_of (quantified false variables (goal_at right) span))
writes_some start None right span = writes_leaf start NoForm 0 span
writes_some start (Some variables) right span = writes_put start (QuantifiedForm variables) 0 span _ _ (writes_read start right)

writes_all : (start : ℕ) (variables : Option (List ℕ)) (right : NumberedTerm) (span : Span)
    → Writes start (all_by start variables right span) (entries_of (quantified true variables (goal_at right) span))
writes_all start None right span = writes_leaf start NoForm 0 span
writes_all start (Some variables) right span =
    writes_put start NegatedForm 0 span _ _
    (writes_put start (QuantifiedForm variables) 0 span _ _ (writes_put start NegatedForm 0 span _ _ (writes_read start right)))

module _ (start at name : ℕ) (left right : Term) (span : Span) where
  abbrev whole : NumberedTerm
  whole = record { term = Application name None (more left (more right none)) span; at = at }

  abbrev goal_by : Role → Written
  goal_by role =
      by_role role at name left right (goal_at (left_of at left)) (goal_at (right_of at left right))
      (goals_at (sides arrow_name (left_of at left))) (goals_at (condition_sides (left_of at left))) span

  writes_two : (role : Role) → ((kind : ChainKind) → goals_for (chain kind whole.at whole.term) ≡ members_of (goal_by role) kind)
      → Writes start (two_plan start whole role name (sides_of at left right)) (entries_of (goal_by role))
  writes_two ConjunctionRole goals = writes_chain start Conjuncts span (chain Conjuncts whole.at whole.term) _ (goals Conjuncts)
  writes_two ParallelRole goals = writes_chain start ParallelConjuncts span (chain ParallelConjuncts whole.at whole.term) _ (goals ParallelConjuncts)
  writes_two DisjunctionRole goals =
      writes_alternatives start whole (sides arrow_name (left_of at left)) (right_of at left right) (goal_at (left_of at left)) (goals Disjuncts)
  writes_two Else goals = writes_else start (condition_sides (left_of at left)) (right_of at left right) span
  writes_two Misplaced goals = writes_leaf start NoForm 0 span
  writes_two Existential goals = writes_some start (listed_variables left) (right_of at left right) span
  writes_two Universal goals = writes_all start (listed_variables left) (right_of at left right) span
  writes_two Equation goals = writes_leaf start (EqualForm left right) at span
  writes_two Inequation goals = writes_put start NegatedForm 0 span _ _ (writes_leaf start (EqualForm left right) at span)
  writes_two Comparison goals = writes_leaf start (ComparedForm name left right) at span
  writes_two Unsupported goals = writes_leaf start OutsideForm 0 span
  writes_two Call goals = writes_leaf start (CalledForm whole.term) at span

writes_term : (start at : ℕ) (term : Term) → Writes start (plan start (record { term = term; at = at })) (entries_of (written at term))
writes_term start at (Variable name span) = writes_leaf start OutsideForm 0 span
writes_term start at (Integer value span) = writes_leaf start NoForm 0 span
writes_term start at (Text text span) = writes_leaf start NoForm 0 span
writes_term start at (Application name None none span) =
    let term = Application name None none span in
    let call = call_plan start (record { term = term; at = at }) in
    let goal : Written = Called at name None none span in
    writes_if start (name == true_name) (plain_plan start TruthForm span) (if (name == fail_name) || (name == false_name) then plain_plan start FailureForm span else call)
    (Truth span) (if (name == fail_name) || (name == false_name) then Failure span else goal) (writes_leaf start TruthForm 0 span)
    (writes_if start ((name == fail_name) || (name == false_name)) (plain_plan start FailureForm span) call (Failure span) goal
    (writes_leaf start FailureForm 0 span) (writes_leaf start (CalledForm term) at span))
writes_term start at (Application name None (more only none) span) =
    let term = Application name None (more only none) span in
    let call = call_plan start (record { term = term; at = at }) in
    let goal : Written = Called at name None (more only none) span in
    writes_if start ((name == not_name) || (name == not_provable_name)) (Put NegatedForm 0 span start ∷ Read (left_of at only) ∷ []) (if name == if_name then plain_plan start NoForm span else call)
    (Negated (written (at + 2) only) span) (if name == if_name then WrongForm span else goal)
    (writes_put start NegatedForm 0 span (Read (left_of at only) ∷ []) (entries_of (written (at + 2) only)) (writes_read start (left_of at only)))
    (writes_if start (name == if_name) (plain_plan start NoForm span) call (WrongForm span) goal
    (writes_leaf start NoForm 0 span) (writes_leaf start (CalledForm term) at span))
writes_term start at (Application name None (more left (more right none)) span) =
    let term = Application name None (more left (more right none)) span in
    let is = written-by_role at name left right span in
    let P : Written → Type 0 = λ goal. Writes start (plan start (record { term = term; at = at })) (entries_of goal) in
    subst P (sym is)
    (writes_two start at name left right span (role_of name) (λ kind. chain_goals kind at term ∙ ap (λ goal. members_of goal kind) is))
writes_term start at (Application name None (more first (more second (more third rest))) span) =
    writes_leaf start (CalledForm (Application name None (more first (more second (more third rest))) span)) at span
writes_term start at (Application name (Some qualifier) arguments span) =
    writes_leaf start (CalledForm (Application name (Some qualifier) arguments span)) at span

pub writes_plan : (start : ℕ) (numbered : NumberedTerm) → Writes start (plan start numbered) (entries_of (goal_at numbered))
writes_plan start numbered = writes_term start numbered.at numbered.term
