use Rattle.std.proofs.lemmas.Result.{on_ok_weaker}
use Rattle.merc_gen.proofs.Performing.{emit_decided}
use Rattle.merc_gen.proofs.generating.emit_condition.Goals as goal

pub returns : goal.returns
returns c =
    on_ok_weaker c.put_jump.result (λ put single. emit_decided single c.args.condition c.args.then_part c.args.mark c.args.behind c.len.result c.is_once-once.result c.leaving.result
    c.args.tasks.now.items c.leave_marked.new.tasks.items c.emit_before.new.tasks.items c.args.code.now c.put_jump.new.code c.is_once-once.ensures c.leaving.ensures c.len.ensures put
    c.in_ok-leave_marked.ensures c.in_ok-emit_before.ensures) c.put_jump.ensures
