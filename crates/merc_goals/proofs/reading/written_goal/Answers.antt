use Rattle.std.proofs.Common.{ap, sym, ◌∙◌}
use Rattle.merc_goals.specs.Written.{written}
use Rattle.merc_goals.specs.Entries.{entries_of, written_of}
use Rattle.merc_goals.specs.EntryCode.{written_of-entries_of}
use Rattle.merc_goals.proofs.RoleLaws.{goal_at}
use Rattle.merc_goals.proofs.Writing.{turned}
use Rattle.merc_goals.proofs.reading.written_goal.Goals as goal

pub invariant_of-result : goal.invariant_of-result
invariant_of-result c =
    let is = turned (goal_at c.first-root.result) _ _ c.in_ok-entries.ensures c.reverse.ensures.items in
    ap entries_of (ap written_of is ∙ written_of-entries_of (goal_at c.first-root.result)) ∙ sym is

pub returns : goal.returns
returns c =
    let is = turned (goal_at c.first-root.result) _ _ c.in_ok-entries.ensures c.reverse.ensures.items in
    ap written_of is ∙ written_of-entries_of (goal_at c.first-root.result) ∙ ap goal_at c.first-root.ensures ∙ ap (written c.args.at) c.copy.ensures
