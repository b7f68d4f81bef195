-- An entry goes last.
use Rattle.merc_term_text.proofs.WalkLemmas.{puts_one}
use Rattle.merc_term_text.proofs.writing.put.Goals as goal

pub returns : goal.returns
returns c = puts_one c.args.stack.now.items c.push.new.self.items c.args.work c.in_ok-push.ensures.items
