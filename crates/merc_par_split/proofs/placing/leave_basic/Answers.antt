use Rattle.std.proofs.Common.{[], length, ap, refl}
use Rattle.merc_graded_tree.specs.declared.entries.Root.TheVariants.{Basic as RootOf}
use Rattle.merc_par_split.proofs.Leaving.{ok_weaker, whole_left}
use Rattle.merc_par_split.proofs.placing.leave_basic.Goals as goal

pub returns : goal.returns
returns c =
    ok_weaker c.leave_waits.result _ _
    (whole_left c.args.placing.now c.leave_signals.new.placing (RootOf c.args.basic.now) ([]) (length c.as_slice-before.result.now) c.args.tasks.now c.leave_signals.new.tasks c.leave_basic_close.new.tasks c.leave_basic_close.new.tasks c.leave_waits.new.tasks
    c.in_ok-leave_signals.ensures.left (ap length c.as_slice-before.ensures) c.in_ok-leave_signals.ensures.tasks c.in_ok-leave_basic_close.ensures refl) c.leave_waits.ensures
