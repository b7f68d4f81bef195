use Rattle.std.proofs.lemmas.Result.{on_ok_weaker}
use Rattle.merc_gen.proofs.Parting.{disjuncts_start}
use Rattle.merc_gen.proofs.generating.start_disjunction.Goals as goal

pub returns-in-Some : goal.returns-in-Some
returns-in-Some c =
    on_ok_weaker c.emit_before.result (λ left single. disjuncts_start single c.args.goals c.take_last.new.self c.in-Some.last c.args.mark c.len.result c.args.tasks.now.items
    c.emit_before.new.tasks.items c.args.code.now c.in-Some.ensures c.len.ensures left) c.emit_before.ensures
