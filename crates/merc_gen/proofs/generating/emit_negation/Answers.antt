use Rattle.std.proofs.Common.{◌∙◌, ap, ◌∷◌}
use Rattle.std.proofs.lemmas.Result.{on_ok_weaker}
use Rattle.merc_code.specs.declared.instruction.Instruction.TheVariants.{Commit}
use Rattle.merc_gen.proofs.Parting.{emit_negated}
use Rattle.merc_gen.proofs.generating.emit_negation.Goals as goal

pub returns : goal.returns
returns c =
    on_ok_weaker c.put_first-2.result (λ put single. emit_negated single c.args.goal c.args.mark c.len.result c.args.tasks.now.items c.leave_marked.new.tasks.items
    c.args.code.now c.put_first.new.self c.put_first-2.new.self c.len.ensures c.in_ok-leave_marked.ensures c.in_ok-put_first.ensures
    (put ∙ ap (λ m. Commit m ∷ c.put_first.new.self) c.new.ensures)) c.put_first-2.ensures
