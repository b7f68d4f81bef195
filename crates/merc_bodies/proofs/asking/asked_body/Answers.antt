use Rattle.std.proofs.Common.{map, ap, ◌∙◌, ℕ}
use Rattle.merc_bodies.specs.Renamed.{renamed}
use Rattle.merc_bodies.proofs.InHand.{asked_numbers, only_goal}
use Rattle.merc_bodies.proofs.asking.asked_body.Goals as goal

pub returns-clause-goal : goal.returns-clause-goal
returns-clause-goal c =
    only_goal _ _ _ _ c.new-nodes.ensures c.in_ok-push_renamed.ensures c.in-Some.ensures
    ∙ ap (λ (new : ℕ → ℕ). renamed new c.args.form.now)
    (asked_numbers c.in_ok-numbering.numbering c.take.new.self c.args.form.now c.in_ok-take.ensures.goes_on c.in_ok-numbering.ensures.arity c.in_ok-numbering.ensures.arguments)

pub returns-clause-answers : goal.returns-clause-answers
returns-clause-answers c =
    c.in_ok-answers.ensures
    ∙ ap (λ (new : ℕ → ℕ). map new c.args.answers.now)
    (asked_numbers c.in_ok-numbering.numbering c.take.new.self c.args.form.now c.in_ok-take.ensures.goes_on c.in_ok-numbering.ensures.arity c.in_ok-numbering.ensures.arguments)
