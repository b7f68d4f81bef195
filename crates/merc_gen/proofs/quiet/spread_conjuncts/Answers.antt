use Rattle.merc_gen.proofs.Quieting.{conjuncts}
use Rattle.merc_gen.proofs.quiet.spread_conjuncts.Goals as goal

pub returns : goal.returns
returns c = λ single running. conjuncts single running c.args.goals c.args.left.now.items c.push_all.new.left.items c.in_ok-push_all.ensures
