use Rattle.std.proofs.Common.{◌∙◌, ap, suc, [], ◌∷◌, ◌++◌}
use Rattle.std.proofs.lemmas.Result.{on_ok_weaker}
use Rattle.merc_code.specs.declared.instruction.Instruction.TheVariants.{Mark}
use Rattle.merc_gen.specs.declared.tasks.Task.TheVariants.{Put, Branch, Bare}
use Rattle.merc_gen.proofs.Performing.{one_more}
use Rattle.merc_gen.proofs.generating.leave_marked.Goals as goal

pub returns : goal.returns
returns c =
    let tasks = c.args.tasks.now.items in
    let marked = c.in_ok-leave.ensures ∙ ap (λ m. tasks ++ Put (Mark m) ∷ []) c.new.ensures in
    let branched = one_more tasks c.leave.new.tasks.items c.leave-2.new.tasks.items (Put (Mark c.args.mark) ∷ []) (Branch c.args.place) marked c.in_ok-leave-2.ensures in
    on_ok_weaker c.leave-3.result (λ left. one_more tasks c.leave-2.new.tasks.items c.leave-3.new.tasks.items (Put (Mark c.args.mark) ∷ Branch c.args.place ∷ [])
    (Bare c.args.goal (suc c.args.mark)) branched (left ∙ ap (λ n. c.leave-2.new.tasks.items ++ Bare c.args.goal n ∷ []) c.in_ok-inner.ensures)) c.leave-3.ensures
