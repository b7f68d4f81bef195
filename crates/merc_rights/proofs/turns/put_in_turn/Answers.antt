use Rattle.std.proofs.lemmas.Result.{on_ok_weaker}
use Rattle.merc_rights.proofs.Indexes.{next_binder}
use Rattle.merc_rights.proofs.TurnLaws.{turn_put, turn_none}
use Rattle.merc_rights.proofs.turns.put_in_turn.Goals as goal

pub returns-in-Some : goal.returns-in-Some
returns-in-Some c = on_ok_weaker c.put_group.result (λ put goals tells.
    turn_put goals c.args.group c.in-Some.number c.args.found.now.items c.put_group.new.groups.items (next_binder c.args.group.variable 0 c.args.binders.now goals _ tells c.in-Some.ensures) put) c.put_group.ensures

pub returns-in-None : goal.returns-in-None
returns-in-None c goals tells =
    turn_none goals c.args.group c.args.found.now.items (next_binder c.args.group.variable 0 c.args.binders.now goals _ tells c.in-None.ensures)
