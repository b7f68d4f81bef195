use Rattle.merc_branch_laws.proofs.laws.steps_are_faced.Goals as goal
use Rattle.merc_branch_laws.proofs.Faces.{ends_faced, ticks_faced, answers_faced, waits_faced, signals_faced, forks_faced, children_faced}

abbrev pub returns-clause-ends : goal.returns-clause-ends
returns-clause-ends c = ends_faced

abbrev pub returns-clause-ticks : goal.returns-clause-ticks
returns-clause-ticks c = ticks_faced

abbrev pub returns-clause-answers : goal.returns-clause-answers
returns-clause-answers c = answers_faced

abbrev pub returns-clause-waits : goal.returns-clause-waits
returns-clause-waits c = waits_faced

abbrev pub returns-clause-signals : goal.returns-clause-signals
returns-clause-signals c = signals_faced

abbrev pub returns-clause-forks : goal.returns-clause-forks
returns-clause-forks c = forks_faced

abbrev pub returns-clause-children : goal.returns-clause-children
returns-clause-children c = children_faced
