use Rattle.std.proofs.Common.{List, Option, Err}
use Rattle.std.proofs.lemmas.Result.{err_from_is_err_and}
use Rattle.merc_base.specs.declared.refusal.Fault.{Fault}
use Rattle.merc_base.specs.declared.refusal.Fault.TheVariants.{Refused, NoMemory}
use Rattle.merc_base.specs.declared.refusal.Refusal.{Refusal}
use Rattle.merc_graded_tree.specs.Nodes.{Node as OrderedNode}
use Rattle.merc_grading.specs.Faults.{query_category_fault}
use Rattle.merc_modes.specs.Told.{IsTold}
use Rattle.merc_check.specs.declared.checking.AskedGoal.{AskedGoal}
use Rattle.merc_check.proofs.checking.with_categories.Goals as goal

-- a reason says the same, whatever there is without one
same_reason : (A B : Type 0) (fault : Option Refusal) (reason : Fault) → IsTold {T = A} fault (Err reason) → IsTold {T = B} fault (Err reason)
same_reason A B fault (Refused refusal) told = told
same_reason A B fault NoMemory told = tt

pub returns-in_err-trees-clause-told : goal.returns-in_err-trees-clause-told
returns-in_err-trees-clause-told c =
    let p = err_from_is_err_and c.from_residual.result c.from_residual.ensures.1 in
    rw (p.1, p.2)
    (λ answers goal tree body one query asked.
    same_reason (List OrderedNode) AskedGoal (query_category_fault c.args.known.now.types c.args.known.now.preds body) c.in_err-trees.field-0.0 (c.in_err-trees.ensures.told answers goal tree body one query asked))
