-- Clauses are refused where a form is, or what the forms say of them.
use Rattle.std.proofs.Common.{◌≡◌, Some}
use Rattle.std.proofs.lemmas.Result.{err_from_is_err_and, IfErr-weaker, IfOk-weaker}
use Rattle.merc_flat.specs.Flat.{clause_node, clauses_fault}
use Rattle.merc_check.specs.Accepted.{RefusesClauses}
use Rattle.merc_check.specs.Accepted.RefusesClauses.{fault}
use Rattle.merc_check.proofs.Refusals.{IsRefusal-weaker}
use Rattle.merc_check.proofs.checking.check_clauses.Goals as goal

pub returns-in_err-forms-clause-refused : goal.returns-in_err-forms-clause-refused
returns-in_err-forms-clause-refused c =
    let p = err_from_is_err_and c.from_residual.result c.from_residual.ensures.1 in
    rw (p.1, p.2)
    (IsRefusal-weaker (λ refusal. clauses_fault c.args.names.now c.args.known.now ≡ Some refusal) (RefusesClauses c.args.names.now c.args.known.now)
    c.in_err-forms.field-0.0 fault c.in_err-forms.ensures.refused)

pub check_forms-trees-requires-clause-forms : goal.check_forms-trees-requires-clause-forms
check_forms-trees-requires-clause-forms c = (clause_node c.args.names.now c.args.known.now, c.in_ok-forms.ensures.forms)

pub returns-clause-refused : goal.returns-clause-refused
returns-clause-refused c =
    IfErr-weaker c.check_forms-trees.result _ _ (λ fault refuses. refuses c.args.names.now c.in_ok-forms.ensures.faultless c.in_ok-forms.ensures.forms) c.check_forms-trees.ensures.refused

pub returns-clause-accepted : goal.returns-clause-accepted
returns-clause-accepted c =
    IfOk-weaker c.check_forms-trees.result _ _ (λ trees accepts. accepts c.args.names.now c.in_ok-forms.ensures.faultless c.in_ok-forms.ensures.forms) c.check_forms-trees.ensures.accepted

pub returns-clause-graded : goal.returns-clause-graded
returns-clause-graded c = IfOk-weaker c.check_forms-trees.result _ _ (λ trees graded. graded c.args.names.now c.in_ok-forms.ensures.forms) c.check_forms-trees.ensures.graded
