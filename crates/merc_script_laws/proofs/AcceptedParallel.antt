-- In accepted modules and goals each parallel conjunct is det or erroneous, and each parallel conjunction has from one to 64 of them.
use Rattle.std.proofs.Common.{◌≡◌, ℕ, List, [], ◌∷◌}
use Rattle.std.specs.List.{AllByRecursion}
use Rattle.merc_tree.specs.Term.{Term}
use Rattle.merc_tree.specs.declared.declarations.Module.{Module}
use Rattle.merc_order.specs.Bound.{nothing}
use Rattle.merc_grading.specs.Faults.{Body, parallel_faults, procedures_of}
use Rattle.merc_check.specs.Accepted.{HasBody, HaveBodies, query_answers}
use Rattle.merc_check.specs.Checked.{IsAccepted, IsGoal}
use Rattle.merc_program_laws.specs.ModuleLaws.{BecomesGood, BecomesGoodQuery}
use Rattle.merc_program_laws.specs.OrderedBodies.{finished_body}
use Rattle.merc_program_laws.specs.ProgramBodies.{finished_bodies}
use Rattle.merc_script_laws.specs.Parallel.{HasFew}
use Rattle.merc_script_laws.proofs.Beside.{IsBeside, accepted_beside, asked_beside}
use Rattle.merc_script_laws.proofs.Few.{BodyHasFew, accepted_few, asked_goal_few}

-- a body with its switches and categories
abbrev pub IsParallelBody : Body → Type 0
IsParallelBody body = (parallel_faults body.tree ≡ []) × HasFew body.tree

both : (bodies : List Body) → AllByRecursion IsBeside bodies → AllByRecursion BodyHasFew bodies → AllByRecursion IsParallelBody bodies
both [] beside few = tt
both (body ∷ bodies) beside few = ((beside.0, few.0), both bodies beside.1 few.1)

-- Whatever types by which they are typed their variables have, the bodies of an accepted module are so.
pub accepted_bodies : (before after : List (List ℕ)) (text : List ℕ) (items : List Term) (found : Module) → IsAccepted before after text items found → (bodies : List Body)
    → HaveBodies after found bodies → AllByRecursion IsParallelBody (finished_bodies found (procedures_of found.preds) bodies)
accepted_bodies before after text items found is bodies are =
    both (finished_bodies found (procedures_of found.preds) bodies) (accepted_beside after found is.clauses bodies are) (accepted_few after found is.clauses bodies are)

pub accepted_goal_body : (before after : List (List ℕ)) (found : Module) (text : List ℕ) (goal : Term) → IsGoal before after found text goal → (body : Body) → HasBody after found goal body
    → IsParallelBody (finished_body found nothing body)
accepted_goal_body before after found text goal is body has = (asked_beside after found goal is.accepted body has, asked_goal_few after found goal is.accepted body has)

-- So are those with which it becomes a good program.
pub accepted_parallel : (before after : List (List ℕ)) (text : List ℕ) (items : List Term) (found : Module) → IsAccepted before after text items found → (good : BecomesGood after found)
    → AllByRecursion IsParallelBody (finished_bodies found (procedures_of found.preds) good.bodies)
accepted_parallel before after text items found is good = accepted_bodies before after text items found is good.bodies good.are

pub accepted_goal_parallel : (before after : List (List ℕ)) (found : Module) (text : List ℕ) (goal : Term) → IsGoal before after found text goal
    → (good : BecomesGoodQuery after found (query_answers after found goal) goal) → IsParallelBody (finished_body found nothing good.body)
accepted_goal_parallel before after found text goal is good = accepted_goal_body before after found text goal is good.body good.is
