use Rattle.merc_goal_facts.proofs.Disjunctions.{found_are}
use Rattle.merc_goal_facts.proofs.deciding.disjunction_facts.Goals as goal

pub returns-clause-facts : goal.returns-clause-facts
returns-clause-facts c =
    found_are c.args.facts.now c.args.joined.now c.args.stretch.all.now c.args.stretch.start c.args.stretch.end c.is_any_reached-reached.result c.in_ok-some.some c.as_slice.result.now c.as_slice-2.result.now c.those_of_all.result.now c.in_ok-every.every
    c.arms_facts.result (record { any_is = c.is_any_reached-reached.ensures; some_are = c.in_ok-some.ensures.bound; every_are = c.in_ok-every.ensures.bound }) c.as_slice.ensures c.as_slice-2.ensures c.those_of_all.ensures
    c.arms_facts.ensures.reached c.arms_facts.ensures.binds c.arms_facts.ensures.owed c.arms_facts.ensures.condition c.arms_facts.ensures.needs c.arms_facts.ensures.occurrences
