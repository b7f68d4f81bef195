use Rattle.std.proofs.lemmas.Result.{on_ok_weaker}
use Rattle.merc_value.specs.Block.{root_values}
use Rattle.merc_store.proofs.ThawingLemmas.{gives_value}
use Rattle.merc_store.proofs.store.Store.give_value.Goals as goal

pub returns-clause-ok : goal.returns-clause-ok
returns-clause-ok c = on_ok_weaker c.thaw_into.result (λ thawed given is. gives_value c.args.self.now c.thaw_into.new.self c.args.to (root_values c.args.value.now) given is thawed) c.thaw_into.ensures.ok
