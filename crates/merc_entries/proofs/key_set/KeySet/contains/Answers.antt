use Rattle.std.proofs.Common.{sym}
use Rattle.merc_entries.proofs.KeyLaws.{none-found}
use Rattle.merc_entries.proofs.key_set.KeySet.contains.Goals as goal

pub returns-in-None : goal.returns-in-None
returns-in-None c = rw c.in-None.is (sym (none-found c.args.self.now.keys.keys))
