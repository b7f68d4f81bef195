use Rattle.std.proofs.Common.{◌∙◌, ap, sym, refl, length, ◌≤◌, ◌∷◌, subst}
use Rattle.std.proofs.lemmas.Result.{on_ok_weaker}
use Rattle.merc_code.specs.declared.instruction.Instruction.TheVariants.{Switch}
use Rattle.merc_gen.proofs.Switching.{switch_none, switch_start}
use Rattle.merc_gen.proofs.generating.start_switch.Goals as goal

pub returns-in_default : goal.returns-in_default
returns-in_default c =
    on_ok_weaker c.put_first.result (λ put single. switch_none single c.args.variable c.args.symbols.now c.args.arms c.with_symbols-left.result c.args.mark
    c.args.tasks.now.items c.args.code.now c.put_first.new.self (c.with_symbols-left.ensures.same c.args.symbols.now (ap length (sym c.as_slice.ensures))) c.in_default.ensures.0
    (put ∙ ap (λ l. Switch c.args.variable l ∷ c.args.code.now) c.new.ensures)) c.put_first.ensures

pub returns : goal.returns
returns c =
    on_ok_weaker c.emit_before.result (λ left single. switch_start single c.args.variable c.args.symbols.now c.args.arms c.with_symbols-left.result c.take_last.new.self c.in-Some.last c.args.mark
    (record { variable = c.args.variable; symbols = c.args.symbols; left = c.take_last.new.self; mark = c.args.mark; behind = c.len.result; starts = c.new-2.result })
    c.args.tasks.now.items c.emit_before.new.tasks.items c.args.code.now
    (subst (λ l. length c.with_symbols-left.result ≤ length l) c.as_slice.ensures c.with_symbols-left.ensures.short)
    (c.with_symbols-left.ensures.same c.args.symbols.now (ap length (sym c.as_slice.ensures))) c.in-Some.ensures refl refl refl refl c.len.ensures c.new-2.ensures.items
    left) c.emit_before.ensures
