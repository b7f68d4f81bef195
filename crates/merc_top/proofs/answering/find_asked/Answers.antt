-- What is answered is looked for; what is not is answered as words are that ask for nothing.
use Rattle.merc_top.proofs.answering.find_asked.Goals as goal

pub returns-in-Some-clause-finds : goal.returns-in-Some-clause-finds
returns-in-Some-clause-finds g c = λ words asks. c.find_answer.ensures.finds words (c.in-Some.ensures words asks)

pub returns-in-None-clause-finds : goal.returns-in-None-clause-finds
returns-in-None-clause-finds g c = λ words asks. c.find_usage.ensures words (g.S.Shelf.files c.args.shelf.now) (g.S.Shelf.read_faults c.args.shelf.now) (c.in-None.ensures words asks)
