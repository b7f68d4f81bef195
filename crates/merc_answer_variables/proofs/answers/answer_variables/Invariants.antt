use Rattle.std.proofs.Common.{◌≡◌, ◌++◌, List, length}
use Rattle.merc_goals.specs.Entries.{entries_of, goals_in}
use Rattle.merc_goals.specs.Entries.{GoalEntry}
use Rattle.merc_value.specs.Text.{is_blank}
use Rattle.merc_answer_variables.specs.Reading.{IsRead}
use Rattle.merc_answer_variables.proofs.answers.answer_variables.Given as goal

abbrev pub invariant-loop-rest : goal.invariant-loop-rest
invariant-loop-rest l = record {
  behind : List GoalEntry;
  whole : l.rest ++ behind ≡ entries_of l.goal;
  read : IsRead (is_blank l.names) (goals_in behind) l.reader;
}

abbrev pub decreases-loop-rest : goal.decreases-loop-rest
decreases-loop-rest l = length l.rest
