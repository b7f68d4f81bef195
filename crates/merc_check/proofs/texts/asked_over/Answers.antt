use Rattle.merc_check.proofs.texts.asked_over.Goals as goal

pub check_goal-asked-requires : goal.check_goal-asked-requires
check_goal-asked-requires c = rw c.in_ok-known.ensures c.requires

pub returns-clause-accepted : goal.returns-clause-accepted
returns-clause-accepted c = rw c.in_ok-known.ensures at c.check_goal-asked.ensures.accepted

pub returns-clause-graded : goal.returns-clause-graded
returns-clause-graded c = rw c.in_ok-known.ensures at c.check_goal-asked.ensures.graded

pub returns-clause-answers : goal.returns-clause-answers
returns-clause-answers c = rw c.in_ok-known.ensures at c.check_goal-asked.ensures.answers

pub returns-clause-refused : goal.returns-clause-refused
returns-clause-refused c = rw c.in_ok-known.ensures at c.check_goal-asked.ensures.refused
