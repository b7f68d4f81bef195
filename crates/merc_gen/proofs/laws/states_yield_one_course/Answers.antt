use Rattle.merc_gen.proofs.laws.states_yield_one_course.Goals as goal
use Rattle.merc_gen.proofs.OneRun.{one-run}

abbrev pub returns : goal.returns
returns c = one-run
