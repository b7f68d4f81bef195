use Rattle.std.proofs.Common.{[], ◌∷◌}
use Rattle.std.proofs.lemmas.Result.{on_ok_weaker}
use Rattle.merc_gen.specs.declared.tasks.Task.TheVariants.{Emit}
use Rattle.merc_gen.proofs.Performing.{one_more}
use Rattle.merc_gen.proofs.generating.emit_before.Goals as goal

pub returns : goal.returns
returns c =
    on_ok_weaker c.leave-2.result (λ left. one_more c.args.tasks.now.items c.leave.new.tasks.items c.leave-2.new.tasks.items (c.args.task ∷ []) (Emit c.args.goal c.args.mark)
    c.in_ok-leave.ensures left) c.leave-2.ensures
