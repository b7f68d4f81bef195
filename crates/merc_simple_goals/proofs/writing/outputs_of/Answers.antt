use Rattle.std.proofs.Common.{◌∙◌, [], ap}
use Rattle.std.specs.List.{filter}
use Rattle.merc_order.specs.Bound.{among}
use Rattle.merc_goal_facts.specs.Bounds.{all_behind}
use Rattle.merc_simple_goals.specs.Outputs.{is_output}
use Rattle.merc_simple_goals.proofs.Outputs.{outputs_are}
use Rattle.merc_simple_goals.proofs.writing.outputs_of.Goals as goal

pub returns-clause-outputs : goal.returns-clause-outputs
returns-clause-outputs c = λ total modes of known stretch.
    outputs_are total modes of c.args.facts.now c.args.all.now c.args.start c.in_ok-end.end (among c.args.bound.now) c.see_outputs.new.seen c.in_ok-outputs.outputs known stretch c.in_ok-end.ensures
    (c.in_ok-see_outputs.ensures
    ∙ ap (λ all. all_behind c.args.seen.now (filter (λ variable. is_output (among c.args.bound.now) all c.args.start c.in_ok-end.end variable) c.as_slice.result.now)) c.occurrences.ensures
    ∙ ap (λ old. all_behind old (filter (λ variable. is_output (among c.args.bound.now) c.args.all.now c.args.start c.in_ok-end.end variable) c.as_slice.result.now)) c.requires
    ∙ ap (λ binds. all_behind [] (filter (λ variable. is_output (among c.args.bound.now) c.args.all.now c.args.start c.in_ok-end.end variable) binds)) c.as_slice.ensures)
    c.in_ok-outputs.ensures
