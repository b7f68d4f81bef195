-- The variable of a signal has the value that is handed on.
use Rattle.merc_machine.proofs.Giving.{hands, passes}
use Rattle.merc_machine.proofs.machine.Machine.value_of.Goals as goal

pub place_behind_meeting-there-requires : goal.place_behind_meeting-there-requires
place_behind_meeting-there-requires c = (_, c.requires.at)

pub returns-clause-goes_on : goal.returns-clause-goes_on
returns-clause-goes_on c = λ value forked next means. (
  c.in_ok-block.ensures value (hands c.args.self.now c.args.variable value c.requires.at forked next means),
  passes c.args.self.now c.args.variable c.place_behind_meeting-there.result value c.requires.at c.place_behind_meeting-there.ensures forked next means,
)
