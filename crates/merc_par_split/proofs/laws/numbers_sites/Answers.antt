use Rattle.merc_par_split.proofs.laws.numbers_sites.Goals as goal
use Rattle.merc_par_split.proofs.Numbering.{split_sites}
use Rattle.merc_par_split.proofs.PlannedCounts.{planned_count}
use Rattle.std.proofs.Common.{[]}
use Rattle.merc_par_split.specs.Split.{nothing}

abbrev pub returns-clause-numbers : goal.returns-clause-numbers
returns-clause-numbers c = split_sites

abbrev pub returns-clause-plans : goal.returns-clause-plans
returns-clause-plans c = λ tree. planned_count tree nothing [] []
