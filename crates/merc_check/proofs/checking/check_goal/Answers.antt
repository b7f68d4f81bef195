-- A goal is refused where its form is, or what the form says of it.
use Rattle.std.proofs.Common.{◌≡◌, ℕ, List, [], ◌∷◌, map, Some, slice_get, sym, ap, ◌∙◌}
use Rattle.std.proofs.lemmas.Option.{same_Some}
use Rattle.std.proofs.lemmas.Result.{err_from_is_err_and, IfOk-weaker, IfErr-weaker}
use Rattle.merc_tree.specs.Term.{Term}
use Rattle.merc_tree.specs.declared.declarations.Module.{Module}
use Rattle.merc_goals.specs.Written.{written}
use Rattle.merc_goal_tree.specs.Nodes.{Node}
use Rattle.merc_scopes.specs.declared.occurrence.Occurrence.{Occurrence}
use Rattle.merc_flat.specs.Flat.{query_fault, query_node}
use Rattle.merc_order_laws.specs.ProcedureBodies.{IsAskedBody}
use Rattle.merc_check.specs.Accepted.{RefusesGoal}
use Rattle.merc_check.specs.Accepted.RefusesGoal.{fault}
use Rattle.merc_check.proofs.GoalForms.{of_goal, of_form}
use Rattle.merc_check.proofs.Refusals.{IsRefusal-weaker}
use Rattle.merc_check.proofs.checking.check_goal.Goals as goal

-- a goal whose form is alone in its list
form_is : (names : List (List ℕ)) (known : Module) (goal : Term) (forms : List Node) (form : Node) → forms ≡ query_node names known (written 0 goal) ∷ []
    → Some form ≡ slice_get forms 0 → query_node names known (written 0 goal) ≡ form
form_is names known goal forms form alone only = sym (same_Some _ _ (only ∙ ap (λ (some : List Node). slice_get some 0) alone))

pub returns-in_err-query-clause-refused : goal.returns-in_err-query-clause-refused
returns-in_err-query-clause-refused c =
    let p = err_from_is_err_and c.from_residual.result c.from_residual.ensures.1 in
    rw (p.1, p.2)
    (IsRefusal-weaker (λ refusal. query_fault c.args.names.now c.args.known.now (written 0 c.args.goal.now) ≡ Some refusal)
    (RefusesGoal c.args.names.now c.args.known.now c.args.goal.now) c.in_err-query.field-0.0 fault c.in_err-query.ensures.refused)

pub returns-clause-refused : goal.returns-clause-refused
returns-clause-refused c =
    IfErr-weaker c.check_form-asked.result _ _
    (λ fault refuses. refuses c.args.names.now c.args.goal.now
    record {
      faultless = c.in_ok-query.ensures.faultless;
      form_is = form_is c.args.names.now c.args.known.now c.args.goal.now c.in_ok-query.query.form c.in-Some.form c.in_ok-query.ensures.form c.in-Some.ensures;
      answers_are = c.as_slice.ensures ∙ c.in_ok-query.ensures.answers;
    } c.span.ensures) c.check_form-asked.ensures.refused

pub returns-clause-accepted : goal.returns-clause-accepted
returns-clause-accepted c =
    IfOk-weaker c.check_form-asked.result _ _
    (λ asked accepts. accepts c.args.names.now c.args.goal.now
    record {
      faultless = c.in_ok-query.ensures.faultless;
      form_is = form_is c.args.names.now c.args.known.now c.args.goal.now c.in_ok-query.query.form c.in-Some.form c.in_ok-query.ensures.form c.in-Some.ensures;
      answers_are = c.as_slice.ensures ∙ c.in_ok-query.ensures.answers;
    }) c.check_form-asked.ensures.accepted

pub returns-clause-graded : goal.returns-clause-graded
returns-clause-graded c =
    IfOk-weaker c.check_form-asked.result _ _
    (λ asked graded body has. graded body
    (of_form c.args.names.now c.args.known.now c.args.goal.now c.in-Some.form c.as_slice.result.now
    (form_is c.args.names.now c.args.known.now c.args.goal.now c.in_ok-query.query.form c.in-Some.form c.in_ok-query.ensures.form c.in-Some.ensures)
    (c.as_slice.ensures ∙ c.in_ok-query.ensures.answers)
    (λ (numbers : List ℕ) (goal : Node). IsAskedBody c.args.known.now numbers goal body) has)) c.check_form-asked.ensures.graded

pub returns-clause-answers : goal.returns-clause-answers
returns-clause-answers c =
    IfOk-weaker c.check_form-asked.result _ _
    (λ asked is.
    of_goal c.args.names.now c.args.known.now c.args.goal.now c.in-Some.form c.as_slice.result.now
    (form_is c.args.names.now c.args.known.now c.args.goal.now c.in_ok-query.query.form c.in-Some.form c.in_ok-query.ensures.form c.in-Some.ensures)
    (c.as_slice.ensures ∙ c.in_ok-query.ensures.answers)
    (λ (numbers : List ℕ) (goal : Node). asked.answers ≡ numbers) is) c.check_form-asked.ensures.answers

pub returns-clause-names : goal.returns-clause-names
returns-clause-names c =
    IfOk-weaker c.check_form-asked.result _ _
    (λ asked is. is ∙ ap (λ (found : List Occurrence). map (λ (variable : Occurrence). variable.name) found) (c.as_slice.ensures ∙ c.in_ok-query.ensures.answers)) c.check_form-asked.ensures.names
