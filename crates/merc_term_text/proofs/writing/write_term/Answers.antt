-- The table holds the constants, and so the text reads back.
use Rattle.merc_term_text.proofs.ReadsBack.{reads_back}
use Rattle.merc_term_text.proofs.writing.write_term.Goals as goal

pub write_whole-requires : goal.write_whole-requires
write_whole-requires c = c.text-minus.ensures.fixed

pub returns-clause-reads_back : goal.returns-clause-reads_back
returns-clause-reads_back c = λ text read. reads_back c.args.names.now text c.args.term.now c.text-minus.ensures.fixed read
