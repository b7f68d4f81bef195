use Rattle.std.proofs.lemmas.Result.{IfErr-weaker, IfOk-weaker, err_from_is_err_and}
use Rattle.merc_terms.specs.Texts.{goal_limit}
use Rattle.merc_terms.specs.Texts.RefusesGoalText.{long}
use Rattle.merc_terms.proofs.TextSteps.{goal_tokens-refused, goal-refused}
use Rattle.merc_terms.proofs.texts.read_goal_text.Goals as goal

pub returns-then-text-gt-GOAL_LIMIT-clause-refused : goal.returns-then-text-gt-GOAL_LIMIT-clause-refused
unfolding goal_limit
returns-then-text-gt-GOAL_LIMIT-clause-refused c = long c.if-text-gt-GOAL_LIMIT.true

pub returns-in_err-tokens-clause-refused : goal.returns-in_err-tokens-clause-refused
unfolding goal_limit
returns-in_err-tokens-clause-refused c =
    let p = err_from_is_err_and c.from_residual.result c.from_residual.ensures.1 in
    rw (p.1, p.2) (goal_tokens-refused c.args.names.now c.args.text.now c.if-text-gt-GOAL_LIMIT.false c.in_err-tokens.field-0.0 c.in_err-tokens.ensures.refused)

pub returns-clause-found : goal.returns-clause-found
unfolding goal_limit
returns-clause-found c =
    IfOk-weaker c.read_goal-term.result _ _
    (λ term is. record { within = c.if-text-gt-GOAL_LIMIT.false; tokens = c.in_ok-tokens.tokens; read = c.in_ok-tokens.ensures.found; goal = is })
    c.read_goal-term.ensures.found

pub returns-clause-refused : goal.returns-clause-refused
unfolding goal_limit
returns-clause-refused c =
    IfErr-weaker c.read_goal-term.result _ _
    (λ fault refuses. goal-refused c.args.names.now c.args.text.now c.tokens.new.names c.in_ok-tokens.tokens c.if-text-gt-GOAL_LIMIT.false c.in_ok-tokens.ensures.found fault refuses)
    c.read_goal-term.ensures.refused
