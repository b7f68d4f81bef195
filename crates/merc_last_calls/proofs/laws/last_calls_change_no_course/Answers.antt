use Rattle.merc_last_calls.proofs.laws.last_calls_change_no_course.Goals as goal
use Rattle.merc_last_calls.proofs.Runs.{without, with_last_calls}

abbrev pub returns-clause-with_last_calls : goal.returns-clause-with_last_calls
returns-clause-with_last_calls c codes lean state course m y = with_last_calls codes lean state course m y

abbrev pub returns-clause-without : goal.returns-clause-without
returns-clause-without c codes lean state course m y = without codes lean course y state m
