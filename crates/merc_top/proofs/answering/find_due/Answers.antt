-- Words that ask for nothing ask for nothing that is answered.
use Rattle.merc_top.proofs.Requests.{none-answered}
use Rattle.merc_top.proofs.answering.find_due.Goals as goal

pub returns-in-Ok-clause-finds : goal.returns-in-Ok-clause-finds
returns-in-Ok-clause-finds g c = c.find_asked-found.ensures.finds c.args.words.now c.in-Ok.ensures.request

pub returns-in-Err-Usage-clause-finds : goal.returns-in-Err-Usage-clause-finds
returns-in-Err-Usage-clause-finds g c =
    c.find_usage.ensures c.args.words.now (g.S.Shelf.files c.args.shelf.now) (g.S.Shelf.read_faults c.args.shelf.now) (none-answered c.args.words.now (c.in-Err-Usage.ensures.usage (c.in-Err-Usage.field-0-is)))
