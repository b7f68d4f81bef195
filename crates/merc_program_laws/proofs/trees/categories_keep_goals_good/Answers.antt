use Rattle.merc_program_laws.proofs.trees.categories_keep_goals_good.Goals as goal
use Rattle.merc_program_laws.proofs.GradedSights.{graded_ends, graded_outputs, in_graded, graded_is_typed, graded_has_literals}
use Rattle.merc_program_laws.proofs.GradedGood.{graded_is_good, graded_has_guards}

pub returns-clause-good : goal.returns-clause-good
returns-clause-good c = graded_is_good

pub returns-clause-ends : goal.returns-clause-ends
returns-clause-ends c = graded_ends

pub returns-clause-outputs : goal.returns-clause-outputs
returns-clause-outputs c = graded_outputs

pub returns-clause-variables : goal.returns-clause-variables
returns-clause-variables c = in_graded

pub returns-clause-guarded : goal.returns-clause-guarded
returns-clause-guarded c = graded_has_guards

pub returns-clause-typed : goal.returns-clause-typed
returns-clause-typed c = graded_is_typed

pub returns-clause-literals : goal.returns-clause-literals
returns-clause-literals c = graded_has_literals
