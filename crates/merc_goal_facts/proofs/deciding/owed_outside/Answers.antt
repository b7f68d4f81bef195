use Rattle.std.proofs.lemmas.Result.{IfOk-weaker}
use Rattle.merc_goal_facts.specs.Outside.{occurs_outside}
use Rattle.merc_goal_facts.proofs.ArmLaws.{owed_as_apart, none_owed}
use Rattle.merc_goal_facts.proofs.deciding.owed_outside.Goals as goal

pub returns-then-not-reached : goal.returns-then-not-reached
returns-then-not-reached c =
    none_owed (λ variable. occurs_outside c.args.stretch.all.now c.args.stretch.start c.args.stretch.end variable) c.args.reached c.args.some.now c.args.set.now c.new.result c.if-not-reached.true c.new.ensures

pub returns : goal.returns
returns c =
    IfOk-weaker c.those_outside.result _ _ (λ owed is.
    owed_as_apart (λ variable. occurs_outside c.args.stretch.all.now c.args.stretch.start c.args.stretch.end variable) c.args.reached c.args.some.now c.args.set.now c.in_ok-differing.differing c.as_slice.result.now owed
    c.if-not-reached.false c.in_ok-differing.ensures c.as_slice.ensures is) c.those_outside.ensures
