use Rattle.std.proofs.Common.{◌∙◌, ◌++◌, ◌∷◌, [], length, ap}
use Rattle.merc_graded_tree.specs.declared.entries.Root.TheVariants.{Disjunction as RootOf}
use Rattle.merc_par_split.specs.Tasks.{member_tasks, relabelled, shares_of}
use Rattle.merc_par_split.specs.declared.tasks.Task.TheVariants.{Close}
use Rattle.merc_par_split.proofs.Leaving.{ok_weaker, whole_left}
use Rattle.merc_par_split.proofs.placing.leave_disjunction.Goals as goal

pub returns : goal.returns
returns c =
    ok_weaker c.leave_waits.result _ _
    (whole_left c.args.placing.now c.leave_signals.new.placing (RootOf (length c.args.goals)) (c.args.goals) (length c.as_slice-before.result.now) c.args.tasks.now c.leave_signals.new.tasks c.leave_close.new.tasks c.leave_alone.new.tasks c.leave_waits.new.tasks
    c.in_ok-leave_signals.ensures.left (ap length c.as_slice-before.ensures) c.in_ok-leave_signals.ensures.tasks (c.in_ok-leave_close.ensures ∙ ap (λ n. Close (relabelled c.leave_signals.new.placing.goal (RootOf n)) ∷ c.leave_signals.new.tasks) c.len.ensures)
    (c.in_ok-leave_alone.ensures ∙ ap (λ l. member_tasks c.leave_signals.new.placing.first (shares_of 0 l [] [] []) ++ c.leave_close.new.tasks) c.in_ok-listed.ensures)) c.leave_waits.ensures
