use Rattle.std.proofs.Common.{◌≡◌, ◌-◌, suc, arith, length}
use Rattle.merc_answer_variables.proofs.TakingLaws.{taking_starts, taking_none, taking_step}
use Rattle.merc_answer_variables.proofs.reader.take_all.Goals as goal

pub loop-left-init : goal.loop-left-init
loop-left-init c = λ blank written each. taking_starts blank c.args.count written c.args.goals.now.items c.args.all.now c.requires each

pub returns-in-None : goal.returns-in-None
returns-in-None c = λ blank written each.
    let none : length c.loop-left.goals.items ≡ 0 = cc (c.loop-left.goals.ok.0, c.in-None.ensures.cases.0) in
    taking_none blank c.args.count c.loop-left.left written c.loop-left.goals.items c.pop.new.self.items c.loop-left.all none c.in-None.ensures.items (c.loop-left.invariant blank written each)

pub loop-left-preserved : goal.loop-left-preserved
loop-left-preserved c = λ blank written each.
    let less : c.loop-left.left ≡ suc (c.loop-left.left - 1) = omega (arith, c.loop-left-test.true) in
    taking_step blank c.args.count c.loop-left.left (c.loop-left.left - 1) written c.loop-left.goals.items c.pop.new.self.items c.in-Some.next c.loop-left.all c.join.new.self
    less c.in-Some.ensures.items c.in_ok-join-in-Some.ensures (c.loop-left.invariant blank written each)
