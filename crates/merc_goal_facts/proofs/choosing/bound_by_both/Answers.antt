use Rattle.std.proofs.Common.{◌&&◌, ◌∙◌, ap, sym}
use Rattle.std.specs.List.{filter}
use Rattle.merc_order.specs.Bound.{among}
use Rattle.merc_goal_facts.specs.Arms.{among_all}
use Rattle.merc_goal_facts.specs.Bounds.{all_behind}
use Rattle.merc_goal_facts.proofs.Arms.{both_are}
use Rattle.merc_goal_facts.proofs.choosing.bound_by_both.Goals as goal

pub returns-in_ok-both-in-Some-clause-bound : goal.returns-in_ok-both-in-Some-clause-bound
returns-in_ok-both-in-Some-clause-bound c = λ variable.
    both_are c.in-Some.bound c.args.binds.now c.bind_all.new.self _ variable
    (c.in_ok-bind_all-in-Some.ensures ∙ ap (λ l. all_behind l c.args.binds.now) c.requires)
    (c.in_ok-both-in-Some.ensures ∙ ap (filter (λ v. among c.bind_all.new.self v)) c.as_slice.ensures)
    ∙ ap (λ b. among_all b variable && among c.args.binds.now variable) (sym c.in-Some.is)
