use Rattle.std.proofs.Common.{◌∙◌, ap}
use Rattle.merc_rights.specs.Members.{turn_wait_at, uses_it}
use Rattle.merc_rights.specs.Rows.{next_from}
use Rattle.merc_rights.specs.declared.rights.Awaited.{Awaited}
use Rattle.merc_rights.proofs.turns.turn_of_wait.Goals as goal

pub returns-in-None : goal.returns-in-None
returns-in-None c =
    ap (turn_wait_at c.args.members.now.goals.items c.args.wait.now) c.in-None.ensures
    ∙ ap (λ (w : Awaited). turn_wait_at c.args.members.now.goals.items c.args.wait.now (next_from (uses_it w.right.variable) 0 0 c.args.members.now.goals.items)) c.wait.view_is
