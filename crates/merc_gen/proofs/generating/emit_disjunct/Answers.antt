use Rattle.std.proofs.lemmas.Result.{on_ok_weaker}
use Rattle.merc_gen.proofs.Parting.{disjunct_step}
use Rattle.merc_gen.proofs.generating.emit_disjunct.Goals as goal

pub returns-in_ok-emit_before-in-Some : goal.returns-in_ok-emit_before-in-Some
returns-in_ok-emit_before-in-Some c =
    on_ok_weaker c.put_jump.result (λ put single. disjunct_step single c.args.goals c.take_last.new.self c.in-Some.last c.args.mark c.args.behind c.len.result
    c.args.tasks.now.items c.leave.new.tasks.items c.emit_before.new.tasks.items c.args.code.now c.put_jump.new.code c.in-Some.ensures c.len.ensures
    c.in_ok-leave-in-Some.ensures c.in_ok-emit_before-in-Some.ensures put) c.put_jump.ensures
