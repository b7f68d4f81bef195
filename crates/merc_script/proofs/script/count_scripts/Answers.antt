use Rattle.std.proofs.Common.{◌-◌, length, arith}
use Rattle.merc_script.proofs.Reading.{none_read}
use Rattle.merc_script.proofs.script.count_scripts.Goals as goal

pub returns-in-None : goal.returns-in-None
returns-in-None c =
    none_read (length c.loop-rest.rest.now - 1) c.loop-rest.rest.now c.loop-rest.invariant.read c.args.items.now c.item-item.result c.loop-rest.count
    (omega (arith, c.in-len1-up.len_at_least)) c.item-item.is c.loop-rest.invariant.whole c.loop-rest.invariant.scripts c.in-None.ensures
