use Rattle.std.proofs.Common.{rules}
use Rattle.merc_terms.proofs.ItemLaws.{at_end_none, at_end_one}
use Rattle.merc_terms.proofs.items.is_at_end.Goals as goal

pub returns-in-empty : goal.returns-in-empty
returns-in-empty c = at_end_none c.args.tokens.now c.in-empty.len_below

pub returns-in-len1 : goal.returns-in-len1
returns-in-len1 c = at_end_one c.args.tokens.now c.only-item.result c.eq.result c.in-len1.len_at_least c.in-len1.len_below c.only-item.is (search rules) (search rules)
