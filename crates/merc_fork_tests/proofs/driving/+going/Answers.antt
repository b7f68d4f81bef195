use Rattle.std.proofs.Common.{arith, ap, Some}
use Rattle.std.proofs.lemmas.Result.{IfOk-weaker}
use Rattle.merc_fork_tests.proofs.Stopping.{answered, left-behind}
use Rattle.merc_fork_tests.proofs.driving.+going.Goals as goal

pub go_on-run_fork-requires : goal.go_on-run_fork-requires
go_on-run_fork-requires t c =
    let met = c.in-AtFork.ensures.ran c.requires.means.0 c.requires.means.1 in (omega arith, (met.at, ((met.forked, met.next, met.means), omega (arith, met.ran.spends, c.requires.fits))))

pub go_on-wait-requires-clause-at : goal.go_on-wait-requires-clause-at
go_on-wait-requires-clause-at t c = (c.in-AtWait.ensures.ran c.requires.means.0 c.requires.means.1).at

pub go_on-wait-requires-clause-means : goal.go_on-wait-requires-clause-means
go_on-wait-requires-clause-means t c = let met = c.in-AtWait.ensures.ran c.requires.means.0 c.requires.means.1 in (met.forked, met.next, met.means)

pub go_on-signal-requires-clause-at : goal.go_on-signal-requires-clause-at
go_on-signal-requires-clause-at t c = (c.in-AtSignal.ensures.ran c.requires.means.0 c.requires.means.1).1.at

pub go_on-signal-requires-clause-means : goal.go_on-signal-requires-clause-means
go_on-signal-requires-clause-means t c = let met = c.in-AtSignal.ensures.ran c.requires.means.0 c.requires.means.1 in (met.0, met.1.forked, met.1.next, met.1.means)

pub go_on-returns-in-SliceOver-clause-goes_on : goal.go_on-returns-in-SliceOver-clause-goes_on
go_on-returns-in-SliceOver-clause-goes_on t c = let ran = c.in-SliceOver.ensures.ran c.requires.means.0 c.requires.means.1 in (ran.0, ran.2)

pub go_on-returns-in-SliceOver-clause-fits : goal.go_on-returns-in-SliceOver-clause-fits
go_on-returns-in-SliceOver-clause-fits t c = λ not_refused. let ran = c.in-SliceOver.ensures.ran c.requires.means.0 c.requires.means.1 in omega (arith, ran.1.spends, c.requires.fits)

pub go_on-returns-in-AtWait-clause-fits : goal.go_on-returns-in-AtWait-clause-fits
go_on-returns-in-AtWait-clause-fits t c =
    let met = c.in-AtWait.ensures.ran c.requires.means.0 c.requires.means.1 in
    IfOk-weaker c.wait.result _ _ (λ stop same not_refused. omega (arith, same, met.ran.spends, c.requires.fits)) c.wait.ensures.spends

pub go_on-returns-in-AtSignal-clause-fits : goal.go_on-returns-in-AtSignal-clause-fits
go_on-returns-in-AtSignal-clause-fits t c =
    let met = c.in-AtSignal.ensures.ran c.requires.means.0 c.requires.means.1 in
    IfOk-weaker c.signal.result _ _ (λ stop same not_refused. omega (arith, same, met.1.ran.spends, c.requires.fits)) c.signal.ensures.spends

pub go_on-returns-in_default : goal.go_on-returns-in_default
go_on-returns-in_default t c =
    let ran = c.run.ensures.ran c.requires.means.0 c.requires.means.1 in record {
      goes_on = tt;
      means = answered c.run.result _ _ _ _ _ _ ran;
      fits = λ not_refused. omega (arith, left-behind c.run.result _ _ _ _ _ _ ran (λ e. not_refused (ap Some e)), c.requires.fits);
    }

pub run_conjunct-run_on-requires : goal.run_conjunct-run_on-requires
run_conjunct-run_on-requires t c =
    let m = c.requires.means in
    let made = c.child.ensures.forked m.0 m.1 m.2 in (
      omega arith,
      ((made.0, c.in_ok-child.ensures.means m.0 m.1 m.2 made.0 made.1), omega (arith, c.in_ok-child.ensures.limit.1, c.requires.fits)),
    )
