use Rattle.std.proofs.Common.{List, [], ◌∷◌, ◌++◌, refl, sym, ap, ◌-◌, ◌∙◌}
use Rattle.merc_order.specs.Procedures.{bound_at}
use Rattle.merc_tree.specs.declared.declarations.Arg.{Arg}
use Rattle.merc_grading.specs.Faults.{finished}
use Rattle.merc_categories.specs.Fitted.{typed_as}
use Rattle.merc_categories.proofs.Steps.{next_done}
use Rattle.merc_categories.proofs.checking.check_mode.Goals as goal

pub returns-clause-done : goal.returns-clause-done
returns-clause-done c = λ procedures done.
    next_done c.args.known.now c.args.trees.now procedures (record { predicate = c.args.declared.now; mode = c.args.mode.now }) c.args.progress.now
    (record { left = c.args.progress.now.left - 1; graded = c.finish.new.graded; fault = c.first_of-progress.result })
    (c.len.result - c.args.progress.now.left) c.in-Some.tree c.in_ok-fault.fault done c.requires.enough (ap (λ n. n - c.args.progress.now.left) c.len.ensures)
    (sym c.get.ensures ∙ c.in-Some.is)
    (λ types fits. c.in_ok-finish.ensures types fits
    ∙ ap (λ (places : List Arg). c.args.progress.now.graded ++ finished c.args.known.now.types c.args.known.now.preds (bound_at places) (typed_as types c.in-Some.tree) ∷ []) c.as_slice.ensures)
    c.in_ok-fault.ensures c.first_of-progress.ensures refl
