use Rattle.std.proofs.Common.{◌≡◌, ◌+◌, ◌∙◌, ap, drop, sym, subst}
use Rattle.merc_goal_facts.specs.Bounds.{all_behind}
use Rattle.merc_readiness.specs.Sweeps.{Extends}
use Rattle.merc_readiness.proofs.Binding.{extends_on, extends_all}
use Rattle.merc_goal_order.proofs.Positions.{next_item}
use Rattle.merc_goal_order.proofs.Watched.{binds_more}
use Rattle.merc_goal_order.proofs.watching.unbound_in.Goals as goal

pub loop-found-preserved : goal.loop-found-preserved
loop-found-preserved c =
    let i = c.loop-found.invariant in
    let facts = c.args.facts.now in
    let index = c.loop-found.found-index in
    let found = c.found-item.result in
    record {
      extends = extends_on c.args.bound.now c.loop-found.bound c.bind_all.new.self i.extends
          (subst (λ l. Extends c.loop-found.bound l) (sym c.in_ok-bind_all.ensures) (extends_all c.loop-found.bound c.as_slice.result.now));
      reach = λ variable. i.reach variable
          ∙ binds_more (drop index facts) (drop (index + 1) facts) found c.loop-found.bound c.bind_all.new.self (next_item facts index found c.loop-found-test.true c.found-item.is)
          (c.in_ok-bind_all.ensures ∙ ap (λ l. all_behind c.loop-found.bound l) c.as_slice.ensures) variable;
    }
