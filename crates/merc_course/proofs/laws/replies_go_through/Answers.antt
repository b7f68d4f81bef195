use Rattle.merc_course.proofs.laws.replies_go_through.Goals as goal
use Rattle.merc_course.proofs.Replies.{replied-taken, replied-first, replied-negated, replied-closed, replied-shown}

abbrev pub returns-clause-taken : goal.returns-clause-taken
returns-clause-taken c = replied-taken

abbrev pub returns-clause-first : goal.returns-clause-first
returns-clause-first c = replied-first

abbrev pub returns-clause-denied : goal.returns-clause-denied
returns-clause-denied c = replied-negated

abbrev pub returns-clause-ended : goal.returns-clause-ended
returns-clause-ended c = replied-closed

abbrev pub returns-clause-seen : goal.returns-clause-seen
returns-clause-seen c = replied-shown
