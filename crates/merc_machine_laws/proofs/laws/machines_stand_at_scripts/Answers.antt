use Rattle.merc_machine_laws.proofs.laws.machines_stand_at_scripts.Goals as goal
use Rattle.merc_machine_laws.proofs.MachinesAtScripts.{conjuncts_are_there, conjuncts_start, forks_end, forks_go_on, meetings_are_items, signals_go_on, waits_end, waits_go_on}
use Rattle.merc_machine_laws.proofs.Starting.{goals_start}

abbrev pub returns-clause-goals : goal.returns-clause-goals
returns-clause-goals c = goals_start

abbrev pub returns-clause-items : goal.returns-clause-items
returns-clause-items c = meetings_are_items

abbrev pub returns-clause-there : goal.returns-clause-there
returns-clause-there c = conjuncts_are_there

abbrev pub returns-clause-conjuncts : goal.returns-clause-conjuncts
returns-clause-conjuncts c = conjuncts_start

abbrev pub returns-clause-behind_forks : goal.returns-clause-behind_forks
returns-clause-behind_forks c = forks_go_on

abbrev pub returns-clause-fork_ends : goal.returns-clause-fork_ends
returns-clause-fork_ends c = forks_end

abbrev pub returns-clause-behind_waits : goal.returns-clause-behind_waits
returns-clause-behind_waits c = waits_go_on

abbrev pub returns-clause-wait_ends : goal.returns-clause-wait_ends
returns-clause-wait_ends c = waits_end

abbrev pub returns-clause-behind_signals : goal.returns-clause-behind_signals
returns-clause-behind_signals c = signals_go_on
