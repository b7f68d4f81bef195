use Rattle.std.proofs.Common.{◌≡◌, ◌∙◌, sym, map, rules}
use Rattle.merc_gen.specs.Generated.{conjunct_code}
use Rattle.merc_gen.specs.Singles.{contained}
use Rattle.merc_gen.proofs.Walks.{codes-each, one_fewer}
use Rattle.merc_gen.proofs.forked.put_each.Goals as goal

pub loop-goal-smaller : goal.loop-goal-smaller
loop-goal-smaller c = one_fewer c.loop-goal.left.items c.pop.new.self.items c.in-Some.goal c.in-Some.ensures.items

pub returns : goal.returns
returns c =
    let all : c.loop-goal.codes ≡ map (conjunct_code (contained c.args.singles.now)) c.args.goals = search rules in
    all ∙ sym (codes-each (contained c.args.singles.now) c.args.goals)
