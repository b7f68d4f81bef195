use Rattle.merc_answers.proofs.laws.taps_see_in_order.Goals as goal
use Rattle.merc_answers.proofs.TapLists.{saw_none, saw_both, fails_last}

abbrev pub returns-clause-nothing : goal.returns-clause-nothing
returns-clause-nothing c = saw_none

abbrev pub returns-clause-both : goal.returns-clause-both
returns-clause-both c = saw_both

abbrev pub returns-clause-faults : goal.returns-clause-faults
returns-clause-faults c = fails_last
