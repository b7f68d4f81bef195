use Rattle.std.proofs.Common.{◌∙◌}
use Rattle.merc_store.proofs.FreezingLemmas.{held_tells}
use Rattle.merc_store.proofs.store.Store.has_value.Goals as goal

pub returns : goal.returns
returns c = c.is_some.ensures ∙ held_tells c.args.self.now.cells c.args.self.now.stacks.current c.args.variable c.word.result c.word.ensures.word
