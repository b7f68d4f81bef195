use Rattle.std.proofs.Common.{arith}
use Rattle.merc_gen.proofs.Quieting.{disjuncts, loud}
use Rattle.merc_gen.proofs.quiet.spread_disjuncts.Goals as goal

pub returns-then-len-gt1 : goal.returns-then-len-gt1
returns-then-len-gt1 c = λ single. loud single c.args.goals c.args.left.now.items (omega (arith, c.len.ensures, c.if-len-gt1.true))

pub returns : goal.returns
returns c = λ single.
    disjuncts single c.args.goals c.args.left.now.items c.push_all.new.left.items (omega (arith, c.len.ensures, c.if-len-gt1.false)) c.in_ok-push_all.ensures
