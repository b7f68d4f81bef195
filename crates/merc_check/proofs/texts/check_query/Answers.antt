-- A goal is refused where its text is no term, or the term is refused over the module.
use Rattle.std.proofs.Common.{ap, ◌∙◌}
use Rattle.std.proofs.lemmas.Result.{err_from_is_err_and}
use Rattle.merc_tree.specs.Term.{Term}
use Rattle.merc_check.specs.Accepted.{query_names}
use Rattle.merc_check.specs.Checked.{CheckedModule}
use Rattle.merc_check.proofs.TextLaws.{no_term-refused, goal-refused, goal-accepted, goal-graded, goal-answers}
use Rattle.merc_check.proofs.texts.check_query.Goals as goal

pub returns-in_err-goal-clause-refused : goal.returns-in_err-goal-clause-refused
returns-in_err-goal-clause-refused c =
    let p = err_from_is_err_and c.from_residual.result c.from_residual.ensures.1 in
    rw (p.1, p.2) (no_term-refused c.args.names.now c.args.text.now c.bytes.result.now c.bytes.ensures c.args.checked.now.module c.in_err-goal.field-0.0 c.in_err-goal.ensures.refused)

pub returns-in-Err-clause-refused : goal.returns-in-Err-clause-refused
returns-in-Err-clause-refused c =
    goal-refused c.args.names.now c.args.text.now c.bytes.result.now c.bytes.ensures c.args.checked.now.module _ (ap (λ (whole : CheckedModule). whole.module) c.checked.view_is)
    c.read_goal_text.new.names c.in_ok-goal.goal c.as_ref.result c.in_ok-goal.ensures.found c.as_ref.ensures c.in-Err.fault c.in-Err.ensures.refused

pub returns-in-Ok-clause-accepted : goal.returns-in-Ok-clause-accepted
returns-in-Ok-clause-accepted c =
    goal-accepted c.args.names.now c.args.text.now c.bytes.result.now c.bytes.ensures c.args.checked.now.module _ (ap (λ (whole : CheckedModule). whole.module) c.checked.view_is)
    c.read_goal_text.new.names c.in_ok-goal.goal c.as_ref.result c.in_ok-goal.ensures.found c.as_ref.ensures c.in-Ok.ensures.accepted

pub returns-in-Ok-clause-graded : goal.returns-in-Ok-clause-graded
returns-in-Ok-clause-graded c =
    goal-graded c.args.names.now c.args.text.now c.bytes.result.now c.bytes.ensures c.args.checked.now.module _ (ap (λ (whole : CheckedModule). whole.module) c.checked.view_is)
    c.read_goal_text.new.names c.in_ok-goal.goal c.as_ref.result c.in_ok-goal.ensures.found c.as_ref.ensures c.in-Ok.asked.trees c.in-Ok.ensures.graded

pub returns-in-Ok-clause-answers : goal.returns-in-Ok-clause-answers
returns-in-Ok-clause-answers c =
    goal-answers c.args.names.now c.args.text.now c.bytes.result.now c.bytes.ensures c.args.checked.now.module _ (ap (λ (whole : CheckedModule). whole.module) c.checked.view_is)
    c.read_goal_text.new.names c.in_ok-goal.goal c.as_ref.result c.in_ok-goal.ensures.found c.as_ref.ensures c.in-Ok.asked.answers c.in-Ok.ensures.answers

pub returns-in-Ok-clause-names : goal.returns-in-Ok-clause-names
returns-in-Ok-clause-names c = c.in-Ok.ensures.names ∙ ap (λ (term : Term). query_names c.read_goal_text.new.names term) c.as_ref.ensures
