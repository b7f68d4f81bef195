use Rattle.merc_script_laws.proofs.laws.joins_show_traces.Goals as goal
use Rattle.merc_script_laws.proofs.AcceptedScripts.{joins_are_traces, scripts_join}

abbrev pub returns-clause-joins : goal.returns-clause-joins
returns-clause-joins c = joins_are_traces

abbrev pub returns-clause-forks : goal.returns-clause-forks
returns-clause-forks c = scripts_join
