use Rattle.merc_item_forms.specs.Forms.{argument_words}
use Rattle.merc_item_forms.proofs.Words.{word_found}
use Rattle.merc_item_forms.proofs.arguments.first_argument_word.Goals as goal

pub returns-in-Some : goal.returns-in-Some
returns-in-Some c =
    word_found argument_words c.args.arguments.now c.loop-argument.argument-index c.argument-item.result c.loop-argument-test.true c.argument-item.is
    _ c.loop-argument.invariant c.in-Some.word c.in-Some.ensures
