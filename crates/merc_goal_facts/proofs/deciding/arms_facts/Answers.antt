use Rattle.std.proofs.Common.{◌∙◌, ap}
use Rattle.std.specs.List.{filter}
use Rattle.merc_goal_facts.specs.Arms.{those_bound, those_owed}
use Rattle.merc_goal_facts.specs.Bounds.{all_behind}
use Rattle.merc_goal_facts.specs.Outside.{occurs_outside}
use Rattle.merc_goal_facts.proofs.deciding.arms_facts.Goals as goal

pub returns-clause-binds : goal.returns-clause-binds
returns-clause-binds c =
    c.in_ok-binds.ensures
    ∙ ap (λ every. filter (λ variable. occurs_outside c.args.stretch.all.now c.args.stretch.start c.args.stretch.end variable) (those_bound c.args.bindings.reached c.args.bindings.some.now every))
    (c.in_ok-bind_all.ensures ∙ ap (λ l. all_behind l c.args.bindings.every.now) c.requires)

pub returns-clause-owed : goal.returns-clause-owed
returns-clause-owed c =
    c.in_ok-owed.ensures
    ∙ ap (λ every. filter (λ variable. occurs_outside c.args.stretch.all.now c.args.stretch.start c.args.stretch.end variable) (those_owed c.args.bindings.reached c.args.bindings.some.now every))
    (c.in_ok-bind_all.ensures ∙ ap (λ l. all_behind l c.args.bindings.every.now) c.requires)
