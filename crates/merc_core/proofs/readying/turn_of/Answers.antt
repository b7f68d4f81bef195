use Rattle.std.proofs.Common.{subst, sym}
use Rattle.merc_core.specs.declared.course.Next.{Next}
use Rattle.merc_core.specs.Replaying.{IsTurn, runs, event_for}
use Rattle.merc_core.proofs.Turns.{idle-turn}
use Rattle.merc_core.proofs.readying.turn_of.Goals as goal

pub returns-in-None : goal.returns-in-None
returns-in-None c = idle-turn c.args.course.now.items.items c.args.number c.args.worker.now c.in-None.ensures (sym c.if-is_empty.ensures)

pub returns-in-Tick : goal.returns-in-Tick
returns-in-Tick c = subst (λ (n : Next). IsTurn c.args.course.now.items.items c.args.number c.args.worker.now (event_for c.args.number n)) c.in-Tick.is (runs c.in-Some.next c.in-Some.ensures)

pub returns-in-Wait : goal.returns-in-Wait
returns-in-Wait c = subst (λ (n : Next). IsTurn c.args.course.now.items.items c.args.number c.args.worker.now (event_for c.args.number n)) c.in-Wait.is (runs c.in-Some.next c.in-Some.ensures)

pub returns-in-Signal : goal.returns-in-Signal
returns-in-Signal c = subst (λ (n : Next). IsTurn c.args.course.now.items.items c.args.number c.args.worker.now (event_for c.args.number n)) c.in-Signal.is (runs c.in-Some.next c.in-Some.ensures)

pub returns-in-Fork : goal.returns-in-Fork
returns-in-Fork c = subst (λ (n : Next). IsTurn c.args.course.now.items.items c.args.number c.args.worker.now (event_for c.args.number n)) c.in-Fork.is (runs c.in-Some.next c.in-Some.ensures)

pub returns-in-End : goal.returns-in-End
returns-in-End c = subst (λ (n : Next). IsTurn c.args.course.now.items.items c.args.number c.args.worker.now (event_for c.args.number n)) c.in-End.is (runs c.in-Some.next c.in-Some.ensures)
