use Rattle.std.proofs.Common.{subst, Some}
use Rattle.merc_switch.specs.Selections.{MayCountAll}
use Rattle.merc_switch.proofs.handing.hand_on.Goals as goal

pub remove_others-requires-clause-counts : goal.remove_others-requires-clause-counts
remove_others-requires-clause-counts c = subst (λ o. MayCountAll c.args.whole.now o c.args.groups.now) c.in-Some.is c.requires
