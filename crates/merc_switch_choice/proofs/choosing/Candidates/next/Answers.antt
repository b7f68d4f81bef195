use Rattle.std.proofs.Common.{◌∙◌, ap}
use Rattle.merc_switch_choice.specs.Choosing.{is_covered}
use Rattle.merc_switch_choice.proofs.LeftLaws.{takes_covered, takes_last}
use Rattle.merc_switch_choice.proofs.choosing.Candidates.next.Goals as goal

pub returns-then-branch-clause-choice : goal.returns-then-branch-clause-choice
returns-then-branch-clause-choice c =
    let declared = c.args.known.now.types in
    takes_covered declared c.args.disjuncts.now c.args.self.now _ _ c.in-Some.variable _ _ c.loop-variable.invariant.left c.in-Some.ensures.taken c.in-Some.ensures.least
    (c.in_ok-is_covered.ensures.covered ∙ ap (λ d. is_covered declared d c.in-Some.variable) c.loop-variable.invariant.disjuncts) c.if-branch.true

pub returns-clause-choice : goal.returns-clause-choice
returns-clause-choice c =
    takes_last c.args.known.now.types c.args.disjuncts.now c.args.self.now c.pop_least-2.result _ _ _ _ c.loop-variable.invariant.left c.in_default.ensures.taken c.in_default.ensures.none c.pop_least-2.ensures.taken
    c.pop_least-2.ensures.least
