use Rattle.std.proofs.Common.{◌≡◌, [], rules, subst, sym}
use Rattle.merc_layout.specs.Entries.{Each}
use Rattle.merc_layout.proofs.Lent.{IsAbove, tells_lent}
use Rattle.merc_layout.proofs.Lists.{Each-all, Each-more}
use Rattle.merc_layout.proofs.sizes.lent_at_sites.Goals as goal

pub loop-those-init : goal.loop-those-init
loop-those-init c = subst (λ lent. Each IsAbove lent []) (sym c.new-lent.ensures) tt

pub loop-those-preserved : goal.loop-those-preserved
loop-those-preserved c =
    let given : c.as_slice.result.now ≡ c.those-item.result = search rules in
    Each-more IsAbove c.loop-those.lent c.push.new.self c.args.conjuncts.now c.loop-those.those-index c.in_ok-above_used.field-0 c.those-item.result
    c.in_ok-push.ensures.ok c.loop-those-test.true c.those-item.is c.loop-those.invariant (subst (IsAbove c.in_ok-above_used.field-0) given c.in_ok-above_used.ensures)

pub returns : goal.returns
returns c =
    tells_lent c.loop-those.lent c.args.conjuncts.now (Each-all IsAbove c.loop-those.lent c.args.conjuncts.now c.loop-those.those-index c.loop-those-test.false c.loop-those.invariant)
