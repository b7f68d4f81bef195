use Rattle.std.proofs.Common.{ap, sym, ◌∙◌}
use Rattle.std.specs.Option.{option_map}
use Rattle.merc_goals.specs.Faults.{earlier, first_span}
use Rattle.merc_flat_form.specs.FlatForm.{argument_terms}
use Rattle.merc_flat.specs.GoalFaults.{unknown, unknown_among}
use Rattle.merc_flat.specs.Flat.{goal_of}
use Rattle.merc_flat.specs.UnknownNames.{unknown_refusal}
use Rattle.merc_flat.proofs.UnknownLaws.{first_span-append}
use Rattle.merc_flat.proofs.clauses.clause_name_fault.Goals as goal

pub returns : goal.returns
returns c =
    let known = c.args.known.now in
    let clause = c.args.clause.now in
    let head = c.in_ok-head.ensures ∙ ap (λ t. first_span (unknown_among known (argument_terms t))) c.as_ref.ensures in
    c.name_fault.ensures
    ∙ ap (option_map unknown_refusal)
    (c.earlier.ensures
    ∙ ap (λ f. earlier f c.in_ok-body.body) head
    ∙ ap (earlier (first_span (unknown_among known (argument_terms clause.head)))) c.in_ok-body.ensures
    ∙ sym (first_span-append (unknown_among known (argument_terms clause.head)) (unknown known (goal_of clause))))
