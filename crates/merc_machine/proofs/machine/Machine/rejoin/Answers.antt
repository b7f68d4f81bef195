-- Behind a fork whose conjuncts ended well the machine has before it what comes behind their steps.
use Rattle.merc_machine.proofs.Giving.{joins}
use Rattle.merc_machine.proofs.machine.Machine.rejoin.Goals as goal

pub place_behind_meeting-there-requires : goal.place_behind_meeting-there-requires
place_behind_meeting-there-requires c = (_, c.requires.at)

pub returns-in-Ok-clause-goes_on : goal.returns-in-Ok-clause-goes_on
returns-in-Ok-clause-goes_on c = λ steps is forked next means.
    joins c.args.self.now c.args.site c.in-Ok.steps steps (let same = c.in-Ok.is in cc) c.place_behind_meeting-there.result c.requires.at c.place_behind_meeting-there.ensures forked next means
