use Rattle.std.proofs.Common.{sym, ◌∙◌}
use Rattle.merc_store.proofs.KindLemmas.{literal_lacks, literal_does, literal_fails}
use Rattle.merc_store.proofs.ReadingLemmas.{none_of}
use Rattle.merc_value.specs.Block.{value_of}
use Rattle.merc_store.proofs.store.Store.literal_apart.Goals as goal

pub returns-in_default : goal.returns-in_default
returns-in_default c = literal_lacks c.args.self.now c.args.whole c.args.symbol.now (sym c.word.ensures.word ∙ none_of c.word.result c.in_default.not-Some)

pub returns-then-is_head : goal.returns-then-is_head
returns-then-is_head c = literal_does c.args.self.now c.args.whole c.args.symbol.now c.in-Some.word (sym c.word.ensures.word ∙ c.in-Some.is)
    (sym (c.is_head.ensures (value_of c.args.self.now.cells c.in-Some.word) c.head.ensures) ∙ c.if-is_head.true)

pub returns-else-is_head : goal.returns-else-is_head
returns-else-is_head c = literal_fails c.args.self.now c.args.whole c.args.symbol.now c.in-Some.word (sym c.word.ensures.word ∙ c.in-Some.is)
    (sym (c.is_head.ensures (value_of c.args.self.now.cells c.in-Some.word) c.head.ensures) ∙ c.if-is_head.false)
