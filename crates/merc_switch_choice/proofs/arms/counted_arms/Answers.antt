use Rattle.std.proofs.Common.{sym, subst}
use Rattle.merc_switch_choice.specs.Arms.{AreArms}
use Rattle.merc_switch_choice.proofs.arms.counted_arms.Goals as goal

pub returns-in-Ok : goal.returns-in-Ok
returns-in-Ok c = λ groups are. subst (λ l. AreArms c.args.parts.symbols.items l groups) (sym c.in-Ok.ensures) are
