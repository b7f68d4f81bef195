use Rattle.std.proofs.Common.{◌<◌, length, arith, rules}
use Rattle.merc_store.proofs.FillLemmas.{field_below}
use Rattle.merc_store.proofs.splitting.fill.Goals as goal

pub returns-in-len2-len2-clause-held : goal.returns-in-len2-len2-clause-held
returns-in-len2-len2-clause-held c cells below held =
    let long : 1 < length c.args.fields.now = search rules in
    let fields = c.args.fields.now in
    let one = c.put-in-len2-len2.ensures.held cells (field_below cells fields below 0 c.first-item-then-this-lt3-2.result (omega (arith, long)) c.first-item-then-this-lt3-2.is) held in
    c.put-in-len2-len2-2.ensures.held cells (field_below cells fields below 1 c.second-item.result (omega (arith, long)) c.second-item.is) one

pub returns-in-len3-len3-clause-held : goal.returns-in-len3-len3-clause-held
returns-in-len3-len3-clause-held c cells below held =
    let long : 2 < length c.args.fields.now = search rules in
    let fields = c.args.fields.now in
    let one = c.put-in-len3-len3.ensures.held cells (field_below cells fields below 0 c.first-item-then-this-lt4-2.result (omega (arith, long)) c.first-item-then-this-lt4-2.is) held in
    let two = c.put-in-len3-len3-2.ensures.held cells (field_below cells fields below 1 c.second-item-then-this-lt4-2.result (omega (arith, long)) c.second-item-then-this-lt4-2.is) one in
    c.put-in-len3-len3-3.ensures.held cells (field_below cells fields below 2 c.third-item.result (omega (arith, long)) c.third-item.is) two
