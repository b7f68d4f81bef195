use Rattle.merc_course.proofs.laws.goals_alone_do_what_they_mean.Goals as goal
use Rattle.merc_course.proofs.Wholes.{alone-goals, alone-runs}

abbrev pub returns-clause-goals : goal.returns-clause-goals
returns-clause-goals c = alone-goals

abbrev pub returns-clause-runs : goal.returns-clause-runs
returns-clause-runs c = alone-runs
