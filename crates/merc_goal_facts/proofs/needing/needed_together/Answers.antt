use Rattle.std.proofs.Common.{sym}
use Rattle.merc_goal_facts.specs.Needs.{found_in}
use Rattle.merc_goal_facts.proofs.Needs.{empty_list, none_needed, needed_not_brought}
use Rattle.merc_goal_facts.proofs.needing.needed_together.Goals as goal

pub returns-then-is_empty-clause-needed : goal.returns-then-is_empty-clause-needed
returns-then-is_empty-clause-needed c =
    none_needed (found_in c.args.facts.now c.args.joined.now) c.in_ok-some.some c.as_slice.result.now c.in_ok-some.ensures.needed c.as_slice.ensures (empty_list c.as_slice.result.now (sym c.if-is_empty.ensures))

pub returns-clause-needed : goal.returns-clause-needed
returns-clause-needed c =
    needed_not_brought (found_in c.args.facts.now c.args.joined.now) c.in_ok-some.some c.as_slice-2.result.now c.bind_brought.new.set _
    c.in_ok-some.ensures.needed c.as_slice-2.ensures c.in_ok-bind_brought.ensures c.in_ok-needed.ensures
