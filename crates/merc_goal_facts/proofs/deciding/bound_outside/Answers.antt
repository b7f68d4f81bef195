use Rattle.std.proofs.lemmas.Result.{IfOk-weaker}
use Rattle.merc_goal_facts.specs.Outside.{occurs_outside}
use Rattle.merc_goal_facts.proofs.ArmLaws.{bound_by_some, bound_by_every}
use Rattle.merc_goal_facts.proofs.deciding.bound_outside.Goals as goal

pub returns-then-reached : goal.returns-then-reached
returns-then-reached c =
    IfOk-weaker c.those_outside.result _ _ (λ bound is.
    bound_by_some (λ variable. occurs_outside c.args.stretch.all.now c.args.stretch.start c.args.stretch.end variable) c.args.reached c.args.some.now c.args.set.now bound c.if-reached.true is) c.those_outside.ensures

pub returns : goal.returns
returns c =
    IfOk-weaker c.those_outside-2.result _ _ (λ bound is.
    bound_by_every (λ variable. occurs_outside c.args.stretch.all.now c.args.stretch.start c.args.stretch.end variable) c.args.reached c.args.some.now c.args.set.now c.in_ok-shared.shared c.as_slice.result.now bound
    c.if-reached.false c.in_ok-shared.ensures c.as_slice.ensures is) c.those_outside-2.ensures
