-- Machines that stand at scripts stand behind their meetings at what is left of them.
use Rattle.std.proofs.Common.{◌∙◌}
use Rattle.merc_script.specs.Script.{SignalThen, WaitThen, ForkThen}
use Rattle.merc_course.specs.Course.{Given, Joined, Passed}
use Rattle.merc_machine_laws.specs.AtScripts.{ConjunctsAreThere, ConjunctsStartAtScripts, ForksEndScripts, ForksGoOnAtScripts, MeetingsAreItems, SignalsGoOnAtScripts, WaitsEndScripts, WaitsGoOnAtScripts}
use Rattle.merc_machine_laws.proofs.Conjuncts.{known_as_forked}
use Rattle.merc_machine_laws.proofs.Meetings.{at_fork, at_signal, at_wait}
use Rattle.merc_machine_laws.proofs.StandsAtItems.{behind_fork, behind_signal, behind_wait, child_course, fork_end, fork_item, forked_stand, same_there, signal_item, wait_end, wait_item}

pub meetings_are_items : MeetingsAreItems
meetings_are_items values machine script s = (
  (λ site at. let m = at_fork values machine script s site at in fork_item values site.number m.forked m.next script m.stands),
  (λ variable at. let m = at_wait values machine script s variable at in wait_item values variable m.forked m.next script m.stands),
  (λ variable at. let m = at_signal values machine script s variable at in signal_item values variable m.0 m.1.forked m.1.next script m.1.stands),
)

pub conjuncts_are_there : ConjunctsAreThere
conjuncts_are_there values machine site limit cells moves children rest s at number =
    let m = at_fork values machine (ForkThen limit cells moves children rest) s site at in
    let all = forked_stand values site.number limit cells moves m.forked m.next children rest m.stands in
    known_as_forked machine site m.forked m.next m.means at number ∙ same_there values m.forked children all number

pub conjuncts_start : ConjunctsStartAtScripts
conjuncts_start values machine site limit cells moves children rest s at number script found child is =
    let m = at_fork values machine (ForkThen limit cells moves children rest) s site at in
    let all = forked_stand values site.number limit cells moves m.forked m.next children rest m.stands in
    let c = child_course values m.forked children all number script found in
    record { course = c.0; means = is m.forked m.next m.means c.0 c.1; stands = c.2 }

pub forks_go_on : ForksGoOnAtScripts
forks_go_on values machine site limit cells moves children rest s at steps joins after is =
    let m = at_fork values machine (ForkThen limit cells moves children rest) s site at in record {
      course = m.next (Joined steps);
      means = is m.forked m.next m.means;
      stands = behind_fork values site.number limit cells moves m.forked m.next children rest m.stands steps joins;
    }

pub forks_end : ForksEndScripts
forks_end values machine site limit cells moves children rest s at none =
    let m = at_fork values machine (ForkThen limit cells moves children rest) s site at in
    fork_end values site.number limit cells moves m.forked m.next children rest m.stands none

pub waits_go_on : WaitsGoOnAtScripts
waits_go_on values machine variable cell rest s at value has after is =
    let m = at_wait values machine (WaitThen cell rest) s variable at in record {
      course = m.next (Given value);
      means = is m.forked m.next m.means;
      stands = behind_wait values variable cell m.forked m.next rest m.stands value has;
    }

pub waits_end : WaitsEndScripts
waits_end values machine variable cell rest s at none =
    let m = at_wait values machine (WaitThen cell rest) s variable at in
    wait_end values variable cell m.forked m.next rest m.stands none

pub signals_go_on : SignalsGoOnAtScripts
signals_go_on values machine variable cell rest s at =
    let m = at_signal values machine (SignalThen cell rest) s variable at in
    let behind = behind_signal values variable cell m.0 m.1.forked m.1.next rest m.1.stands in (
      m.0,
      behind.0,
      (m.1.forked, m.1.next, m.1.means),
      (λ after is. record { course = m.1.next Passed; means = is m.1.forked m.1.next m.1.means; stands = behind.1 }),
    )
