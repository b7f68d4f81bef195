use Rattle.merc_scopes.specs.Scopes.{without}
use Rattle.merc_scopes.proofs.Standings.{popped_first, pushed}
use Rattle.merc_scopes.proofs.introducing.quantify.Goals as goal

pub returns : goal.returns
returns c = λ found lists holds.
    let top = popped_first c.args.stack.now.items c.take_first-places.new.stack.items c.take_first-places.result found lists c.take_first-places.ensures holds in
    let own = c.in_ok-own.ensures found top.0 in
    (own.0, pushed c.take_first-places.new.stack.items c.push.new.self.items c.take_own.new.places (without c.args.variables.now found) lists c.in_ok-push.ensures.items own.1 top.1)
