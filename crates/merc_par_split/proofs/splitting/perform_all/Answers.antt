use Rattle.std.proofs.Common.{◌∙◌, ap, sym}
use Rattle.merc_par_split.specs.Tasks.{after_all}
use Rattle.merc_par_split.proofs.StepLaws.{at_with}
use Rattle.merc_par_split.proofs.splitting.perform_all.Goals as goal

pub returns : goal.returns
returns c = sym c.loop-task.invariant.same ∙ ap (λ l. after_all l (at_with c.loop-task.nodes c.loop-task.sites.items)) c.in_default.ensures
