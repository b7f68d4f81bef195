use Rattle.std.proofs.lemmas.Result.{on_ok_weaker}
use Rattle.merc_gen.proofs.Parting.{in_turn_step}
use Rattle.merc_gen.proofs.generating.emit_in_turn.Goals as goal

pub returns-in-Some : goal.returns-in-Some
returns-in-Some c =
    on_ok_weaker c.emit_before.result (λ left single code. in_turn_step single c.args.goals c.take_last.new.self c.in-Some.last c.args.mark c.args.tasks.now.items
    c.emit_before.new.tasks.items code c.in-Some.ensures left) c.emit_before.ensures
