-- Behind a wait the variable has the value that it was given.
use Rattle.merc_machine.proofs.Giving.{gives, wait-slot}
use Rattle.merc_machine.proofs.machine.Machine.give.Goals as goal

pub place_behind_meeting-there-requires : goal.place_behind_meeting-there-requires
place_behind_meeting-there-requires c = (_, c.requires.at)

pub give_value-requires-clause-slot : goal.give_value-requires-clause-slot
give_value-requires-clause-slot c = wait-slot c.args.self.now c.args.variable c.requires.at c.requires.means.0 c.requires.means.1

pub returns-clause-goes_on : goal.returns-clause-goes_on
returns-clause-goes_on c = λ given is forked next means.
    gives c.args.self.now c.args.variable c.place_behind_meeting-there.result c.give_value.new.self given c.requires.at c.place_behind_meeting-there.ensures c.sound.ensures
    (c.in_ok-give_value.ensures.ok given is) forked next means
