use Rattle.std.proofs.Common.{◌∙◌, ap, sym, not, suc}
use Rattle.std.specs.Option.{is_some}
use Rattle.merc_rights.specs.Rows.{next_from}
use Rattle.merc_rights.specs.declared.rights.Awaited.{Awaited}
use Rattle.merc_rights.specs.Members.{uses_it}
use Rattle.merc_rights.proofs.MoveLaws.{moves_some, moves_none, both_of, first_not}
use Rattle.merc_rights.proofs.parting.moves.Goals as goal

pub returns-in-None : goal.returns-in-None
returns-in-None c =
    let goals = c.args.members.now.goals.items in
    moves_none goals c.args.wait (sym c.in-None.is ∙ c.next_user.ensures ∙ ap (λ (w : Awaited). next_from (uses_it w.right.variable) 0 0 goals) c.wait.view_is)

pub returns-then-not-wait : goal.returns-then-not-wait
returns-then-not-wait c =
    let goals = c.args.members.now.goals.items in
    let user = c.in-Some.user in
    ap not c.is_used_behind.ensures ∙ ap (λ (w : Awaited). not (is_some (next_from (uses_it w.right.variable) (suc user) 0 goals))) c.wait.view_is
    ∙ both_of (not c.args.wait.later) _ (ap (λ (w : Awaited). not w.later) (sym c.wait.view_is) ∙ c.if-not-wait.true)
    ∙ moves_some goals c.args.wait user (sym c.in-Some.is ∙ c.next_user.ensures ∙ ap (λ (w : Awaited). next_from (uses_it w.right.variable) 0 0 goals) c.wait.view_is)

pub returns-else-not-wait : goal.returns-else-not-wait
returns-else-not-wait c =
    let same = ap (λ (w : Awaited). not w.later) (sym c.wait.view_is) in
    sym same ∙ first_not (not c.args.wait.later) _ (same ∙ c.if-not-wait.false)
