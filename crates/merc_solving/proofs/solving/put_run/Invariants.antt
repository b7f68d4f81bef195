-- The lines of the answers so far are written, and the machine has the rest of the run left.
use Rattle.merc_meaning.specs.Trace.{Run}
use Rattle.merc_course.specs.Course.{whole}
use Rattle.merc_machine.specs.Running.{Means}
use Rattle.merc_solving.proofs.RunLemmas.{Progress}
use Rattle.merc_solving.proofs.solving.put_run.Given as goal

abbrev pub invariant-loop : goal.invariant-loop
invariant-loop g l =
    (asked : Run) → Means l.fn.machine (whole asked)
    → Progress l.ready.names l.ready.variables l.ready.most asked l.machine (g.K.Sink.sink_state l.fn.sink) (g.K.Sink.sink_state l.sink)
    l.fn.ticks l.ticks l.count
