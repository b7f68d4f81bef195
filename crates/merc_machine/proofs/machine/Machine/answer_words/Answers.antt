use Rattle.std.proofs.Common.{arith}
use Rattle.merc_machine.proofs.Shown.{answer_shown, shown_whole}
use Rattle.merc_machine.proofs.machine.Machine.answer_words.Goals as goal

-- src/answering.rt:32:5
pub returns-clause-words : goal.returns-clause-words
returns-clause-words c = λ values h. answer_shown c.args.self.now c.answer_variables-variable-items.result.now c.loop-variable.words.items c.answer_variables-variable-items.ensures
    (shown_whole _ _ _ _ c.loop-variable.variable-index c.loop-variable.invariant.1 (omega (arith, c.loop-variable-test.false))) values h
