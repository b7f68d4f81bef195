use Rattle.merc_course.proofs.laws.traces_are_courses.Goals as goal
use Rattle.merc_course.proofs.Wholes.{whole-after, whole-each, whole-taken, whole-first, whole-choose, whole-negated, whole-cut, whole-replied, whole-shown}

abbrev pub returns-clause-in_order : goal.returns-clause-in_order
returns-clause-in_order c = whole-after

abbrev pub returns-clause-each_answer : goal.returns-clause-each_answer
returns-clause-each_answer c = whole-each

abbrev pub returns-clause-taken : goal.returns-clause-taken
returns-clause-taken c = whole-taken

abbrev pub returns-clause-first : goal.returns-clause-first
returns-clause-first c = whole-first

abbrev pub returns-clause-chosen : goal.returns-clause-chosen
returns-clause-chosen c = whole-choose

abbrev pub returns-clause-denied : goal.returns-clause-denied
returns-clause-denied c = whole-negated

abbrev pub returns-clause-limited : goal.returns-clause-limited
returns-clause-limited c = whole-cut

abbrev pub returns-clause-alone : goal.returns-clause-alone
returns-clause-alone c = whole-replied

abbrev pub returns-clause-seen : goal.returns-clause-seen
returns-clause-seen c = whole-shown
