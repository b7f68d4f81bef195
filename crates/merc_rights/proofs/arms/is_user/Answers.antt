use Rattle.merc_rights.specs.Members.{uses_it}
use Rattle.merc_rights.proofs.MemberLaws.{next_here, next_not}
use Rattle.merc_rights.proofs.arms.is_user.Goals as goal

pub returns-in-Some : goal.returns-in-Some
returns-in-Some c = λ d less. next_here (uses_it c.args.variable) c.args.number c.args.members.now.goals.items d c.in-Some.user less c.in-Some.ensures

pub returns-in-None : goal.returns-in-None
returns-in-None c = λ d less. next_not (uses_it c.args.variable) c.args.number c.args.members.now.goals.items d less c.in-None.ensures
