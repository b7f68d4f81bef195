use Rattle.std.proofs.Common.{◌∙◌, ◌++◌, [], ap, length}
use Rattle.merc_graded_tree.specs.declared.entries.Root.TheVariants.{Switch}
use Rattle.merc_graded_tree.specs.Nodes.{span_of}
use Rattle.merc_par_split.specs.Tasks.{closed}
use Rattle.merc_par_split.specs.declared.tasks.Task.TheVariants.{Signals}
use Rattle.merc_par_split.proofs.Leaving.{ok_weaker, switch_inside}
use Rattle.merc_par_split.proofs.placing.leave_switch_inside.Goals as goal

pub returns : goal.returns
returns c =
    let placing = c.args.placing.now in
    let parted = c.args.parted.now in
    let root = Switch c.args.variable c.args.symbols.now in
    ok_weaker c.leave_arms.result _ _
    (switch_inside placing c.take_signals-signals.new.self c.args.arms c.in_ok-goals.goals.items parted.inside c.as_slice-inside.result.now c.take_signals-signals.result
    (closed placing.goal root (length parted.before) (Signals [] (span_of placing.goal)) 0 ++ c.args.tasks.now) c.leave_switch_close.new.tasks c.leave_arms.new.tasks
    c.take_signals-signals.ensures.left c.in_ok-goals.ensures c.as_slice-inside.ensures c.take_signals-signals.ensures.taken
    (c.in_ok-leave_switch_close.ensures ∙ ap (λ n. closed placing.goal root n (Signals [] (span_of placing.goal)) 0 ++ c.args.tasks.now) (ap length c.as_slice-before.ensures))) c.leave_arms.ensures
