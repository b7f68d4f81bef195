use Rattle.merc_par_split.proofs.laws.keeps_forks_and_calls.Goals as goal
use Rattle.merc_par_split.proofs.Counting.{split_forks, split_calls}

abbrev pub returns-clause-forks : goal.returns-clause-forks
returns-clause-forks c = split_forks

abbrev pub returns-clause-calls : goal.returns-clause-calls
returns-clause-calls c = split_calls
