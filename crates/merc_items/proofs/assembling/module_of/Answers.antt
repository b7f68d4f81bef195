use Rattle.merc_items.proofs.assembling.module_of.Goals as goal

pub returns-in-Ok : goal.returns-in-Ok
returns-in-Ok c = c.in-Ok.ensures c.args.terms.now c.own_name.ensures c.in_ok-units.ensures
