use Rattle.std.proofs.Common.{sym, ◌∙◌}
use Rattle.merc_value.specs.Block.{value_of}
use Rattle.merc_store.proofs.KindLemmas.{target_found, target_lacks}
use Rattle.merc_store.proofs.store.Store.target.Goals as goal

pub returns-in-Some : goal.returns-in-Some
returns-in-Some c variables env marks fits within = c.first_target.ensures (value_of c.args.self.now.cells c.in-Some.word) c.head.ensures ∙ target_found c.args.self.now c.args.whole c.in-Some.word c.args.targets.now variables env marks fits within (sym c.word.ensures.word ∙ c.in-Some.is)

pub returns-in-None : goal.returns-in-None
returns-in-None c variables env marks fits within = target_lacks c.args.self.now c.args.whole c.args.targets.now variables env marks fits within (sym c.word.ensures.word ∙ c.in-None.is)
