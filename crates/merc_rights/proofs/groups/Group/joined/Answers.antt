use Rattle.merc_rights.proofs.GroupLaws.{joined_is}
use Rattle.merc_rights.proofs.groups.Group.joined.Goals as goal

pub returns-clause-rights : goal.returns-clause-rights
returns-clause-rights c all =
    joined_is c.args.self.variable c.args.other.variable c.args.self.conjuncts.items c.args.other.conjuncts.items c.in_ok-conjuncts.conjuncts.items c.in_ok-conjuncts.ensures all
