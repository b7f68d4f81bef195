use Rattle.merc_code.specs.Meaning.{start}
use Rattle.merc_last_calls.proofs.laws.last_calls_change_no_course_from_the_start.Goals as goal
use Rattle.merc_last_calls.proofs.Runs.{without, with_last_calls, starts}

abbrev pub returns-clause-with_last_calls : goal.returns-clause-with_last_calls
returns-clause-with_last_calls c codes code limit course y = with_last_calls codes (start code limit) (start code limit) course (starts code limit) y

abbrev pub returns-clause-without : goal.returns-clause-without
returns-clause-without c codes code limit course y = without codes (start code limit) course y (start code limit) (starts code limit)
