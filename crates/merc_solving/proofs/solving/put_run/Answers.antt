-- The machine makes the rest of the run, and each line is written as it comes.
use Rattle.std.proofs.Common.{refl, arith}
use Rattle.std.proofs.lemmas.Result.{err_from_is_err_and}
use Rattle.merc_course.specs.Course.{whole}
use Rattle.merc_machine.specs.declared.running.Stop.TheVariants.{Answer, SliceOver}
use Rattle.merc_solving.proofs.AloneRuns.{ran_alone, stops_alone}
use Rattle.merc_solving.proofs.RunLemmas.{answer-cut, enough, not_enough, progress-answered, progress-begins, progress-cut, progress-moved, solves-stop, solves-stopped}
use Rattle.merc_solving.proofs.solving.put_run.Goals as goal

pub loop-init : goal.loop-init
loop-init g c = λ asked means.
    progress-begins c.args.ready.now.names c.args.ready.now.variables c.args.ready.now.most asked c.args.machine.now (g.K.Sink.sink_state c.args.sink.now) c.args.ticks.now means

pub run-requires-clause-means : goal.run-requires-clause-means
run-requires-clause-means g c = λ running. let kept = c.loop.invariant c.requires.means.0 c.requires.means.1 in (whole kept.rest, kept.means)

-- As many answers are told as are wanted.
pub put_end-requires : goal.put_end-requires
put_end-requires g c = let kept = c.loop.invariant c.requires.means.0 c.requires.means.1 in omega (arith, kept.puts.faults, c.requires.sink)

pub returns-then-eq : goal.returns-then-eq
returns-then-eq g c = λ asked means.
    solves-stopped c.args.ready.now.names c.args.ready.now.variables c.args.ready.now.most asked c.loop.machine (g.K.Sink.sink_state c.args.sink.now) (g.K.Sink.sink_state c.loop.sink)
    c.args.ticks.now c.loop.ticks c.loop.count
    (c.loop.invariant asked means) (enough c.args.ready.now.most c.loop.count c.if-eq.ensures) _ _ _ c.put_end.result
    refl refl (c.put_end.ensures.writes _ (c.stopped_line.ensures c.args.ready.now.names)) c.put_end.ensures.status

pub put_answer-requires : goal.put_answer-requires
put_answer-requires g c = let kept = c.loop.invariant c.requires.means.0 c.requires.means.1 in omega (arith, kept.puts.faults, c.requires.sink)

pub returns-in_err-put_answer-in-Answer : goal.returns-in_err-put_answer-in-Answer
returns-in_err-put_answer-in-Answer g c =
    let cut = err_from_is_err_and c.from_residual.result c.from_residual.ensures.1 in
    rw (cut.1, cut.2) (λ asked means.
    let kept = c.loop.invariant asked means in
    let ran = ran_alone kept.rest c.loop.machine c.run.new.self c.loop.ticks c.run.new.ticks Answer 4294967295 (c.in-Answer.ensures.ran (whole kept.rest) kept.means) in
    answer-cut c.args.ready.now.names c.args.ready.now.variables c.args.ready.now.most asked c.loop.machine (g.K.Sink.sink_state c.args.sink.now) (g.K.Sink.sink_state c.loop.sink)
    c.args.ticks.now c.loop.ticks c.loop.count
    kept (not_enough c.args.ready.now.most c.loop.count c.if-eq.ensures) c.run.new.self ran.1 ran.2 ran.0 c.run.new.ticks ran.3 ran.5 ran.4 _ c.in_err-put_answer-in-Answer.field-0.0
    (c.in_err-put_answer-in-Answer.ensures ran.1 ran.6))

pub returns-in_err-count-in-Answer : goal.returns-in_err-count-in-Answer
returns-in_err-count-in-Answer g c =
    let cut = err_from_is_err_and c.from_residual-in_err-count-in-Answer.result c.from_residual-in_err-count-in-Answer.ensures.1 in
    rw (cut.1, cut.2) (λ asked means.
    let kept = c.loop.invariant asked means in
    let ran = ran_alone kept.rest c.loop.machine c.run.new.self c.loop.ticks c.run.new.ticks Answer 4294967295 (c.in-Answer.ensures.ran (whole kept.rest) kept.means) in
    let wrote = c.in_ok-put_answer-in-Answer.ensures ran.1 ran.6 in
    progress-cut c.args.ready.now.names c.args.ready.now.variables c.args.ready.now.most asked c.run.new.self (g.K.Sink.sink_state c.args.sink.now) (g.K.Sink.sink_state c.put_answer.new.sink)
    c.args.ticks.now c.run.new.ticks _
    (progress-answered c.args.ready.now.names c.args.ready.now.variables c.args.ready.now.most asked c.loop.machine (g.K.Sink.sink_state c.args.sink.now) (g.K.Sink.sink_state c.loop.sink)
    c.args.ticks.now c.loop.ticks c.loop.count
    kept (not_enough c.args.ready.now.most c.loop.count c.if-eq.ensures) c.run.new.self ran.1 ran.2 ran.0 c.run.new.ticks ran.3 ran.5 ran.4 _ wrote))

pub put_stop-requires-clause-sink : goal.put_stop-requires-clause-sink
put_stop-requires-clause-sink g c = let kept = c.loop.invariant c.requires.means.0 c.requires.means.1 in omega (arith, kept.puts.faults, c.requires.sink)

pub put_stop-requires-clause-alone : goal.put_stop-requires-clause-alone
put_stop-requires-clause-alone g c =
    let kept = c.loop.invariant c.requires.means.0 c.requires.means.1 in
    let ran = ran_alone kept.rest c.loop.machine c.run.new.self c.loop.ticks c.run.new.ticks c.run.result 4294967295 (c.run.ensures.ran (whole kept.rest) kept.means) in
    stops_alone kept.rest c.loop.machine c.run.new.self c.loop.ticks c.run.new.ticks c.run.result 4294967295 ran

pub returns-in_default : goal.returns-in_default
returns-in_default g c = λ asked means.
    let kept = c.loop.invariant asked means in
    solves-stop c.args.ready.now.names c.args.ready.now.variables c.args.ready.now.most asked c.loop.machine (g.K.Sink.sink_state c.args.sink.now) (g.K.Sink.sink_state c.loop.sink)
    c.args.ticks.now c.loop.ticks c.loop.count
    kept (not_enough c.args.ready.now.most c.loop.count c.if-eq.ensures) c.run.result c.run.new.self 4294967295 c.run.new.ticks _ c.put_stop.result
    (ran_alone kept.rest c.loop.machine c.run.new.self c.loop.ticks c.run.new.ticks c.run.result 4294967295 (c.run.ensures.ran (whole kept.rest) kept.means)) c.put_stop.ensures

pub loop-preserved : goal.loop-preserved
loop-preserved g c = λ asked means.
    let kept = c.loop.invariant asked means in
    let ran = ran_alone kept.rest c.loop.machine c.run.new.self c.loop.ticks c.run.new.ticks Answer 4294967295 (c.in-Answer.ensures.ran (whole kept.rest) kept.means) in
    let wrote = c.in_ok-put_answer-in-Answer.ensures ran.1 ran.6 in
    rw c.in_ok-count-in-Answer.ensures
    (progress-answered c.args.ready.now.names c.args.ready.now.variables c.args.ready.now.most asked c.loop.machine (g.K.Sink.sink_state c.args.sink.now) (g.K.Sink.sink_state c.loop.sink)
    c.args.ticks.now c.loop.ticks c.loop.count
    kept (not_enough c.args.ready.now.most c.loop.count c.if-eq.ensures) c.run.new.self ran.1 ran.2 ran.0 c.run.new.ticks ran.3 ran.5 ran.4 _ wrote)

pub loop-preserved-in-SliceOver : goal.loop-preserved-in-SliceOver
loop-preserved-in-SliceOver g c = λ asked means.
    let kept = c.loop.invariant asked means in
    let ran = ran_alone kept.rest c.loop.machine c.run.new.self c.loop.ticks c.run.new.ticks SliceOver 4294967295 (c.in-SliceOver.ensures.ran (whole kept.rest) kept.means) in
    progress-moved c.args.ready.now.names c.args.ready.now.variables c.args.ready.now.most asked c.loop.machine (g.K.Sink.sink_state c.args.sink.now) (g.K.Sink.sink_state c.loop.sink)
    c.args.ticks.now c.loop.ticks c.loop.count
    kept (not_enough c.args.ready.now.most c.loop.count c.if-eq.ensures) c.run.new.self ran.0 4294967295 c.run.new.ticks ran.1 ran.3 ran.2

pub returns : goal.returns
returns g c = λ asked means. progress-cut c.args.ready.now.names c.args.ready.now.variables c.args.ready.now.most asked c.loop.machine (g.K.Sink.sink_state c.args.sink.now) (g.K.Sink.sink_state c.loop.sink)
    c.args.ticks.now c.loop.ticks c.loop.count (c.loop.invariant asked means)
