use Rattle.std.proofs.Common.{◌-◌, ap, sym, ◌∙◌}
use Rattle.merc_core.specs.Forking.{past_scripts}
use Rattle.merc_core.proofs.ForkParts.{past-on}
use Rattle.merc_core.proofs.course.Course.past_scripts.Goals as goal

pub loop-left-preserved : goal.loop-left-preserved
loop-left-preserved c =
    ap (λ p. past_scripts c.args.self.now.past.items p (c.loop-left.left - 1)) c.past_script-at.ensures
    ∙ sym (past-on c.args.self.now.past.items c.loop-left.at c.loop-left.left c.loop-left-test.true) ∙ c.loop-left.invariant
