use Rattle.std.proofs.Common.{◌∙◌, ap, map, ◌++◌}
use Rattle.merc_rights.specs.Members.{wait_shares, uses_it}
use Rattle.merc_rights.specs.Rows.{numbers_from}
use Rattle.merc_rights.specs.declared.rights.Awaited.{Awaited}
use Rattle.merc_rights.proofs.Indexes.{flat_more}
use Rattle.merc_rights.proofs.arms.put_shares.Goals as goal

pub loop-wait-preserved : goal.loop-wait-preserved
loop-wait-preserved c =
    let goals = c.args.members.now.goals.items in
    flat_more (wait_shares goals) c.args.waits.now c.loop-wait.wait-index c.wait-item.result c.args.found.now.items c.loop-wait.found.items c.put_share.new.found.items
    c.wait-item.is c.loop-wait-test.true c.loop-wait.invariant
    (c.in_ok-put_share.ensures ∙ ap (λ l. c.loop-wait.found.items ++ map (λ number. (number, c.wait-item.result)) l) (c.deref.ensures.value ∙ c.in_ok-users.ensures)
    ∙ ap (λ (w : Awaited). c.loop-wait.found.items ++ map (λ number. (number, c.wait-item.result)) (numbers_from (uses_it w.right.variable) 0 0 goals)) c.wait.view_is)
