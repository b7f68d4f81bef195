use Rattle.std.proofs.Common.{◌≡◌, [], length, ap, sym, ◌∙◌}
use Rattle.merc_goal_tree.specs.Entries.{built}
use Rattle.merc_goal_tree.proofs.EntryLaws.{length-starts_from}
use Rattle.merc_goal_tree.proofs.Cuts.{only_goal_is, only_entries}
use Rattle.merc_goal_tree.proofs.nodes.Nodes.into_only.Goals as goal

pub returns-then-len-ne1 : goal.returns-then-len-ne1
returns-then-len-ne1 c one =
    c.if-len-ne1.true (c.len.ensures ∙ c.self.inside.starts.ok.0 ∙ ap length c.self.invariant.1 ∙ length-starts_from 0 (built c.self.inside.entries.items []) ∙ ap length c.self.view_is ∙ one)

pub invariant_of-result : goal.invariant_of-result
invariant_of-result c =
    let goals = built c.self.inside.entries.items [] in
    let one : length goals ≡ 1 = cc (c.self.inside.starts.ok.0, length-starts_from 0 goals, ap length c.self.invariant.1) in
    only_entries c.self.inside.entries.items c.self.invariant.0 one

pub returns : goal.returns
returns c =
    let goals = built c.self.inside.entries.items [] in
    let one : length goals ≡ 1 = cc (c.self.inside.starts.ok.0, length-starts_from 0 goals, ap length c.self.invariant.1) in
    sym c.self.view_is ∙ only_goal_is goals one
