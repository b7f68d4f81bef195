use Rattle.std.proofs.Common.{subst}
use Rattle.merc_switch_choice.specs.Gaps.{AreGaps}
use Rattle.merc_switch_choice.proofs.GapLaws.{kept_avoided}
use Rattle.merc_switch_choice.proofs.counted.Disjuncts.gap.Goals as goal

pub returns : goal.returns
returns c =
    let gaps = c.self.inside.summary.gaps in
    kept_avoided gaps c.args.self.now c.args.variable c.of.result c.of.ensures (subst (λ l. AreGaps gaps l) c.self.view_is c.self.invariant.gaps_are)
