-- Goals and clauses in flat form have their literals as they are written.
use Rattle.std.proofs.Common.{ℕ, ◌+◌, Bool, List, [], ◌∷◌, ◌++◌, length, Option, Some, None}
use Rattle.std.specs.List.{AllByRecursion}
use Rattle.merc_base.specs.declared.place.Span.{Span}
use Rattle.merc_tree.specs.Term.{Term, Variable, Integer, Text, Application, HasWords, HaveWords, list_of}
use Rattle.merc_tree.specs.declared.declarations.Module.{Module}
use Rattle.merc_goals.specs.Written.{Written, WrittenGoals, Truth, Failure, Equal, Compared, Called, Conjunction as WrittenConjunction, Parallel as WrittenParallel, Disjunction as WrittenDisjunction, Conditional as WrittenConditional, Negated, Quantified as WrittenQuantified, WrongForm, OutsideProfile, no_goals, more_goals, parts, written, written_span}
use Rattle.merc_goal_tree.specs.Nodes.{Node, nodes_of}
use Rattle.merc_goal_tree.specs.declared.goal.SimpleGoal.{SimpleGoal}
use Rattle.merc_name_resolution.specs.declared.callee.Callee.{Callee}
use Rattle.merc_name_resolution.specs.Known.{callee_in}
use Rattle.merc_scopes.specs.declared.occurrence.Occurrence.{Occurrence}
use Rattle.merc_value.specs.Text.{is_blank}
use Rattle.merc_scopes.specs.Scopes.{introduced}
use Rattle.merc_answer_variables.specs.AnswerVariables.{answer_variables}
use Rattle.merc_flat_form.specs.FlatForm.{argument_terms, body_goals, called, compared, equal, flat, flat_all, flat_each, head_goals, head_scope, one_goal, simple}
use Rattle.merc_flat.specs.Flat.{arity_of, query_node}
use Rattle.merc_order_laws.specs.WrittenGoals.{all_simple_goals, simple_goals}
use Rattle.merc_order_laws.proofs.Written.{all_joined}
use Rattle.merc_program_laws.specs.ProgramBodies.{HasWrittenLiterals}
use Rattle.merc_program_laws.specs.ClauseWords.{BodyHasWords}
use Rattle.merc_program_laws.specs.TextLaws.{ClauseHasLiterals}
use Rattle.merc_program_laws.proofs.FormLiterals.{AreLiteral, called_literal, compared_sides, equal_literal, head_goals_literal, joined}
use Rattle.merc_program_laws.proofs.WrittenWords.{GoalHasWords, GoalsHaveWords, written_words}

abbrev pub HaveLiterals : List Node → Type 0
HaveLiterals goals = AllByRecursion HasWrittenLiterals goals

pub nodes_literal : (goals : List Node) → HaveLiterals goals → AreLiteral (all_simple_goals (nodes_of goals))
nodes_literal [] h = tt
nodes_literal (first ∷ rest) h = joined (simple_goals first) (all_simple_goals (nodes_of rest)) h.0 (nodes_literal rest h.1)

one_literal : (span : Span) (goals : List Node) → HaveLiterals goals → HasWrittenLiterals (one_goal span goals)
one_literal span [] h = (tt, tt)
one_literal span (only ∷ []) h = h.0
one_literal span (first ∷ second ∷ rest) h = nodes_literal (first ∷ second ∷ rest) h

simple_literal : (span : Span) (goals : List SimpleGoal) → AreLiteral goals → HaveLiterals (simple span goals)
simple_literal span [] h = tt
simple_literal span (first ∷ rest) h = ((h.0, tt), simple_literal span rest h.1)

-- Given are which names are `_`, and what a name with a qualifier and so many arguments calls.
module _ (blank : ℕ → Bool) (callee : ℕ → Option ℕ → ℕ → Callee) where
  mutual
    flat_literal : (scope : List Occurrence) (goal : Written) → GoalHasWords goal → HaveLiterals (flat blank callee scope goal)
    flat_literal scope (Truth span) words = ((tt, tt), tt)
    flat_literal scope (Failure span) words = ((tt, tt), tt)
    flat_literal scope (Equal at left right span) words =
        let known = scope ++ introduced blank (Equal at left right span) in
        simple_literal span (equal blank known at left right) (equal_literal blank known at left right words.0 words.1)
    flat_literal scope (Compared at name left right span) words =
        let known = scope ++ introduced blank (Compared at name left right span) in
        simple_literal span (compared blank known at name left right) (compared_sides blank known at name left right words.0 words.1)
    flat_literal scope (Called at name qualifier arguments span) words =
        let known = scope ++ introduced blank (Called at name qualifier arguments span) in
        let meant = callee name qualifier (length (list_of arguments)) in
        simple_literal span (called blank known at meant arguments) (called_literal blank known at meant arguments words)
    flat_literal scope (WrittenConjunction goals span) words = flat_all_literal (scope ++ introduced blank (WrittenConjunction goals span)) goals words
    flat_literal scope (WrittenParallel goals span) words = (flat_each_literal (scope ++ introduced blank (WrittenParallel goals span)) goals words, tt)
    flat_literal scope (WrittenDisjunction goals span) words = (flat_each_literal scope goals words, tt)
    flat_literal scope (WrittenConditional condition then_part else_part span) words =
        let region = scope ++ introduced blank (WrittenConditional condition then_part else_part span) in
        let one = one_goal (written_span condition) (flat blank callee region condition) in
        let then = one_goal (written_span then_part) (flat blank callee region then_part) in
        let other = one_goal (written_span else_part) (flat blank callee scope else_part) in (
          joined (simple_goals one) (simple_goals then ++ simple_goals other) (one_literal (written_span condition) (flat blank callee region condition) (flat_literal region condition words.0))
              (joined (simple_goals then) (simple_goals other) (one_literal (written_span then_part) (flat blank callee region then_part) (flat_literal region then_part words.1)) (one_literal (written_span else_part) (flat blank callee scope else_part) (flat_literal scope else_part words.2))),
          tt,
        )
    flat_literal scope (Negated goal span) words = (one_literal (written_span goal) (flat blank callee scope goal) (flat_literal scope goal words), tt)
    flat_literal scope (WrittenQuantified variables goal span) words =
        let known = introduced blank (WrittenQuantified variables goal span) ++ scope in
        (one_literal (written_span goal) (flat blank callee known goal) (flat_literal known goal words), tt)
    flat_literal scope (WrongForm span) words = tt
    flat_literal scope (OutsideProfile span) words = tt

    flat_all_literal : (scope : List Occurrence) (goals : WrittenGoals) → GoalsHaveWords goals → HaveLiterals (flat_all blank callee scope goals)
    flat_all_literal scope no_goals words = tt
    flat_all_literal scope (more_goals first rest) words =
        all_joined HasWrittenLiterals (flat blank callee scope first) (flat_all blank callee scope rest) (flat_literal scope first words.0) (flat_all_literal scope rest words.1)

    flat_each_literal : (scope : List Occurrence) (goals : WrittenGoals) → GoalsHaveWords goals → AreLiteral (all_simple_goals (flat_each blank callee scope goals))
    flat_each_literal scope no_goals words = tt
    flat_each_literal scope (more_goals first rest) words =
        joined (simple_goals (one_goal (written_span first) (flat blank callee scope first))) (all_simple_goals (flat_each blank callee scope rest))
        (one_literal (written_span first) (flat blank callee scope first) (flat_literal scope first words.0)) (flat_each_literal scope rest words.1)

  part_literal : (scope : List Occurrence) (goal : Written) → GoalHasWords goal → HasWrittenLiterals (one_goal (written_span goal) (flat blank callee scope goal))
  part_literal scope goal words = one_literal (written_span goal) (flat blank callee scope goal) (flat_literal scope goal words)

  body_literal : (scope : List Occurrence) (at : ℕ) (body : Option Term) → BodyHasWords body → HaveLiterals (body_goals blank callee scope at body)
  body_literal scope at None words = tt
  body_literal scope at (Some body) words = flat_literal scope (written at body) (written_words at body words)

argument_words : (head : Term) → HasWords head → HaveWords (argument_terms head)
argument_words (Application name qualifier arguments span) words = words
argument_words (Variable name span) words = tt
argument_words (Integer value span) words = tt
argument_words (Text text span) words = tt

pub clause_has_literals : ClauseHasLiterals
clause_has_literals names known clause words =
    let blank = is_blank names in
    let at = arity_of clause in
    let arguments = argument_terms clause.head in
    let scope = head_scope blank 0 (at + 2) arguments in
    let heads = head_goals blank scope 0 (at + 2) arguments in
    let bodies = body_goals blank (callee_in known) scope (at + parts clause.head) clause.body in
    one_literal clause.span (simple clause.span heads ++ bodies)
    (all_joined HasWrittenLiterals (simple clause.span heads) bodies
    (simple_literal clause.span heads (head_goals_literal blank scope 0 (at + 2) arguments (argument_words clause.head words.head)))
    (body_literal blank (callee_in known) scope (at + parts clause.head) clause.body words.body))

pub goal_has_literals : (names : List (List ℕ)) (known : Module) (goal : Written) → GoalHasWords goal → HasWrittenLiterals (query_node names known goal)
goal_has_literals names known goal words = part_literal (is_blank names) (callee_in known) (answer_variables names goal) goal words
