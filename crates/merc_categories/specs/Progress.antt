-- What is done of procedures, in the course of their check.
use Rattle.std.specs.Prelude.{◌≡◌, ◌+◌, List, length}
use Rattle.merc_base.specs.FirstFault.{first_of_faults}
use Rattle.merc_tree.specs.declared.declarations.Module.{Module}
use Rattle.merc_graded_tree.specs.Nodes.{Node}
use Rattle.merc_grading.specs.Faults.{Body, Procedure, all_finished, procedure_faults}
use Rattle.merc_categories.specs.declared.checking.Progress.{Progress}
use Rattle.merc_categories.specs.Fitted.{AreFitted}

-- These procedures, the first ones, are done: their trees are there, and the first of their faults.
pub record IsDone (known : Module) (trees : List Node) (procedures : List Procedure) (progress : Progress) : Type 0 where
  pub left : length procedures + progress.left ≡ length trees
  pub graded : (bodies : List Body) → AreFitted known.types bodies trees → progress.graded ≡ all_finished known.types known.preds procedures bodies
  pub fault : (bodies : List Body) → AreFitted known.types bodies trees
      → progress.fault ≡ first_of_faults (procedure_faults procedures (all_finished known.types known.preds procedures bodies))
