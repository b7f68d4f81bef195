use Rattle.std.proofs.Common.{◌∙◌, ap, [], ◌∷◌, ◌++◌}
use Rattle.std.proofs.lemmas.Result.{on_ok_weaker}
use Rattle.merc_code.specs.declared.instruction.Instruction.TheVariants.{Commit, Mark}
use Rattle.merc_gen.specs.Singles.{contained}
use Rattle.merc_gen.specs.declared.tasks.Task.TheVariants.{Put}
use Rattle.merc_gen.proofs.Performing.{emit_cut, emit_plain}
use Rattle.merc_gen.proofs.generating.emit.Goals as goal

pub returns-then-not-branch : goal.returns-then-not-branch
returns-then-not-branch c =
    on_ok_weaker c.leave.result (λ left. emit_plain (contained c.args.singles.now) c.args.goal c.args.mark c.in_ok-is_cut.field-0 c.args.tasks.now.items c.leave.new.tasks.items
    c.args.code.now c.in_ok-is_cut.ensures c.if-not-branch.true left) c.leave.ensures

pub returns : goal.returns
returns c =
    on_ok_weaker c.leave-3.result (λ left. emit_cut (contained c.args.singles.now) c.args.goal c.args.mark c.in_ok-inner.inner c.in_ok-is_cut.field-0 c.args.tasks.now.items
    c.leave-2.new.tasks.items c.leave-3.new.tasks.items c.args.code.now c.put_first.new.self c.in_ok-is_cut.ensures c.if-not-branch.false c.in_ok-inner.ensures
    (c.in_ok-put_first.ensures ∙ ap (λ m. Commit m ∷ c.args.code.now) c.new.ensures)
    (c.in_ok-leave.ensures ∙ ap (λ m. c.args.tasks.now.items ++ Put (Mark m) ∷ []) c.new-2.ensures) left) c.leave-3.ensures
