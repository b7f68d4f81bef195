use Rattle.merc_rights.proofs.Indexes.{map_more, map_all}
use Rattle.merc_rights.proofs.occurrences.put_all.Goals as goal

pub loop-variable-preserved : goal.loop-variable-preserved
loop-variable-preserved c =
    map_more (λ variable. (variable, c.args.number)) c.args.variables.now c.loop-variable.variable-index c.variable-item.result c.args.pairs.now.items c.loop-variable.pairs.items c.put.new.pairs.items
    c.variable-item.is c.loop-variable-test.true c.loop-variable.invariant c.in_ok-put.ensures

pub returns : goal.returns
returns c = map_all (λ variable. (variable, c.args.number)) c.args.variables.now c.loop-variable.variable-index c.args.pairs.now.items c.loop-variable.pairs.items c.loop-variable-test.false c.loop-variable.invariant
