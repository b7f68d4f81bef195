use Rattle.std.proofs.Common.{refl}
use Rattle.std.proofs.lemmas.Result.{on_ok_weaker}
use Rattle.merc_gen.proofs.Switching.{arm_step}
use Rattle.merc_gen.proofs.generating.emit_arm.Goals as goal

pub returns-in_ok-put_jump-in-Some : goal.returns-in_ok-put_jump-in-Some
returns-in_ok-put_jump-in-Some c =
    on_ok_weaker c.emit_before.result (λ left single. arm_step single c.args.arms
    (record { variable = c.args.arms.variable; symbols = c.args.arms.symbols; left = c.take_last.new.self; mark = c.args.arms.mark; behind = c.args.arms.behind; starts = c.push.new.self })
    c.take_last.new.self c.in-Some.last c.len-start.result c.args.tasks.now.items c.emit_before.new.tasks.items c.args.code.now c.put_jump.new.code
    c.in-Some.ensures c.len-start.ensures refl refl refl refl refl c.in_ok-push.ensures.items c.in_ok-put_jump-in-Some.ensures left) c.emit_before.ensures
