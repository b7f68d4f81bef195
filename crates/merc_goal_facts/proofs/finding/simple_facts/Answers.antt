use Rattle.std.proofs.Common.{◌∙◌, ap}
use Rattle.merc_goal_tree.specs.Variables.{variables_of}
use Rattle.merc_order.specs.Procedures.{modes_of}
use Rattle.merc_goal_facts.specs.Bounds.{all_behind}
use Rattle.merc_goal_facts.proofs.Found.{simple_are}
use Rattle.merc_goal_facts.proofs.Needs.{simple_needed}
use Rattle.merc_goal_facts.proofs.finding.simple_facts.Goals as goal

pub returns-clause-facts : goal.returns-clause-facts
returns-clause-facts c = λ total span.
    simple_are total (modes_of c.args.predicates.now) c.args.goal.now span _ (c.is_simple_reached.ensures total)
    (c.in_ok-put_goal.ensures.found ∙ ap (λ l. all_behind l (variables_of c.args.goal.now)) c.new-binds.ensures) c.new.ensures c.new-2.ensures
    (simple_needed total (modes_of c.args.predicates.now) c.args.goal.now span _ c.in_ok-needs.ensures) c.occurrence_count.ensures
