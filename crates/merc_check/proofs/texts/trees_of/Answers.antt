use Rattle.merc_check.proofs.texts.trees_of.Goals as goal

pub check_clauses-trees-requires : goal.check_clauses-trees-requires
check_clauses-trees-requires c = rw c.in_ok-known.ensures c.requires

pub returns-clause-accepted : goal.returns-clause-accepted
returns-clause-accepted c = rw c.in_ok-known.ensures at c.check_clauses-trees.ensures.accepted

pub returns-clause-graded : goal.returns-clause-graded
returns-clause-graded c = rw c.in_ok-known.ensures at c.check_clauses-trees.ensures.graded

pub returns-clause-refused : goal.returns-clause-refused
returns-clause-refused c = rw c.in_ok-known.ensures at c.check_clauses-trees.ensures.refused
