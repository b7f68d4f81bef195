use Rattle.merc_par_split.proofs.laws.keeps_traces.Goals as goal
use Rattle.merc_par_split.proofs.SameTraces.{split_trace, split_call_trace, split_run}

abbrev pub returns-clause-traces : goal.returns-clause-traces
returns-clause-traces c = split_trace

abbrev pub returns-clause-calls : goal.returns-clause-calls
returns-clause-calls c = split_call_trace

abbrev pub returns-clause-runs : goal.returns-clause-runs
returns-clause-runs c = split_run
