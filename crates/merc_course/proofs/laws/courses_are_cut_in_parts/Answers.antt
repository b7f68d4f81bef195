use Rattle.merc_course.proofs.laws.courses_are_cut_in_parts.Goals as goal
use Rattle.merc_course.proofs.Alike.{cut-after, cut-each, cut-taken, cut-first, cut-choose, cut-negated, cut-closed}

abbrev pub returns-clause-in_order : goal.returns-clause-in_order
returns-clause-in_order c = cut-after

abbrev pub returns-clause-each_answer : goal.returns-clause-each_answer
returns-clause-each_answer c = cut-each

abbrev pub returns-clause-taken : goal.returns-clause-taken
returns-clause-taken c = cut-taken

abbrev pub returns-clause-first : goal.returns-clause-first
returns-clause-first c = cut-first

abbrev pub returns-clause-chosen : goal.returns-clause-chosen
returns-clause-chosen c = cut-choose

abbrev pub returns-clause-denied : goal.returns-clause-denied
returns-clause-denied c = cut-negated

abbrev pub returns-clause-ended : goal.returns-clause-ended
returns-clause-ended c = cut-closed
