use Rattle.std.proofs.Common.{ap, ◌∙◌}
use Rattle.std.specs.List.{list_any}
use Rattle.merc_entries.proofs.KeyLaws.{any-key, is_found}
use Rattle.merc_entries.proofs.key_set.KeySet.insert.Goals as goal

pub returns-in_ok-insert : goal.returns-in_ok-insert
returns-in_ok-insert c = λ found. rw c.in-Some.is (ap (list_any (is_found found)) c.in_ok-insert.ensures.keys ∙ any-key found c.args.self.now.keys.keys c.in-Some.key)
