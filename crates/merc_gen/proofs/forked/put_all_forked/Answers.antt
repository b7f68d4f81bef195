use Rattle.std.proofs.Common.{◌++◌, map}
use Rattle.merc_gen.specs.Generated.{conjunct_codes}
use Rattle.merc_gen.specs.Singles.{contained}
use Rattle.merc_gen.specs.Sites.{forked_in}
use Rattle.merc_gen.proofs.Walks.{forked-walked, walks_fewer}
use Rattle.merc_gen.proofs.forked.put_all_forked.Goals as goal

pub loop-next-smaller : goal.loop-next-smaller
loop-next-smaller c = walks_fewer c.loop-next.left.items c.pop.new.self.items c.push_parts.new.left.items c.in-Some.next c.in-Some.ensures.items c.in_ok-push_parts.ensures

pub loop-next-preserved : goal.loop-next-preserved
loop-next-preserved c =
    forked-walked (conjunct_codes (contained c.args.singles.now)) c.loop-next.left.items c.pop.new.self.items c.push_parts.new.left.items c.in-Some.next c.loop-next.conjuncts c.put_own.new.conjuncts
    (c.args.conjuncts.now ++ map (conjunct_codes (contained c.args.singles.now)) (forked_in c.args.goal.now)) c.in-Some.ensures.items c.in_ok-push_parts.ensures c.in_ok-put_own.ensures
    c.loop-next.invariant
