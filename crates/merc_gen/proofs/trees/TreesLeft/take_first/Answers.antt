use Rattle.std.proofs.Common.{arith}
use Rattle.merc_gen.proofs.Lists.{first_taken}
use Rattle.merc_gen.proofs.trees.TreesLeft.take_first.Goals as goal

pub returns : goal.returns
returns c =
    first_taken c.self.inside.trees.now c.self.inside.taken c.get-first.result c.args.self.now c.self.view_is (omega (arith, c.if-self-len.false, c.len.ensures)) c.get-first.ensures
