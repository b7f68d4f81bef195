use Rattle.std.proofs.Common.{◌<◌, length, arith, rules}
use Rattle.merc_store.proofs.FillLemmas.{field_below}
use Rattle.merc_store.proofs.splitting.fill_more.Goals as goal

pub returns-in-len4-len4-clause-held : goal.returns-in-len4-len4-clause-held
returns-in-len4-len4-clause-held c cells below held =
    let long : 3 < length c.args.fields.now = search rules in
    let fields = c.args.fields.now in
    let one = c.put.ensures.held cells (field_below cells fields below 0 c.first-item.result (omega (arith, long)) c.first-item.is) held in
    let two = c.put-in-len4-len4.ensures.held cells (field_below cells fields below 1 c.second-item.result (omega (arith, long)) c.second-item.is) one in
    let three = c.put-in-len4-len4-2.ensures.held cells (field_below cells fields below 2 c.third-item.result (omega (arith, long)) c.third-item.is) two in
    c.put-in-len4-len4-3.ensures.held cells (field_below cells fields below 3 c.fourth-item.result (omega (arith, long)) c.fourth-item.is) three
