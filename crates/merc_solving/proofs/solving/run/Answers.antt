-- The machine has before it the run that the code makes.
use Rattle.std.proofs.Common.{refl}
use Rattle.std.proofs.lemmas.Result.{err_from_is_err_and}
use Rattle.merc_transfer.proofs.WritingLemmas.{puts_front-none}
use Rattle.merc_course.specs.Course.{whole}
use Rattle.merc_solving.specs.RunLines.{run_lines}
use Rattle.merc_solving.proofs.solving.run.Goals as goal

-- Where memory is refused nothing was written.
pub returns-in_err-machine : goal.returns-in_err-machine
returns-in_err-machine g c =
    let cut = err_from_is_err_and c.from_residual.result c.from_residual.ensures.1 in
    rw (cut.1, cut.2) (λ asked _.
    (puts_front-none (run_lines c.args.ready.now.names c.args.ready.now.variables c.args.ready.now.most asked) (g.K.Sink.sink_state c.args.sink.now), refl))

pub put_run-requires-clause-means : goal.put_run-requires-clause-means
put_run-requires-clause-means g c =
    let makes = c.requires.makes.1 in
    let starts = c.in_ok-machine.ensures.starts makes.codes makes.query makes.program (whole c.requires.makes.0) makes.yields in
    (c.requires.makes.0, starts)

pub returns : goal.returns
returns g c = λ asked makes.
    let starts = c.in_ok-machine.ensures.starts makes.codes makes.query makes.program (whole asked) makes.yields in
    c.put_run.ensures asked starts
