use Rattle.std.proofs.Common.{◌≡◌, ◌-◌, ◌∙◌, length, take, drop, ap, sym, subst}
use Rattle.merc_order.specs.Procedures.{modes_of}
use Rattle.merc_goal_facts.specs.Bounds.{all_behind}
use Rattle.merc_readiness.specs.Sweeps.{Extends}
use Rattle.merc_readiness.proofs.Binding.{extends_on, extends_all}
use Rattle.merc_goal_order.proofs.Watched.{stuck_watch, not_true, tail_is}
use Rattle.merc_goal_order.proofs.Wholes.{undone_is}
use Rattle.merc_goal_order.proofs.watching.is_stuck.Goals as goal

pub returns-clause-same : goal.returns-clause-same
returns-clause-same c =
    let bound = c.args.bound.now in
    let free = c.args.free.now in
    let behind = take (length free - c.args.watched.high) (drop c.args.watched.high free) in
    let first = subst (λ l. Extends bound l) (sym c.in_ok-bind_all.ensures) (extends_all bound (take c.args.watched.low free)) in
    let second = subst (λ l. Extends c.bind_all.new.self l) (sym c.in_ok-bind_all-2.ensures) (extends_all c.bind_all.new.self behind) in
    undone_is bound c.is_ready.new.bound c.undo.new.self c.mark-known.result
    (subst (λ l. Extends bound l) (sym c.in_ok-ready.ensures.same) (extends_on bound c.bind_all.new.self c.bind_all-2.new.self first second)) c.mark-known.ensures c.undo.ensures

pub returns-clause-stuck : goal.returns-clause-stuck
returns-clause-stuck c = λ stuck total known reaches.
    let bound = c.args.bound.now in
    let free = c.args.free.now in
    stuck_watch total (modes_of c.args.setting.now.predicates.now) c.args.placed.now.goal.now c.args.placed.now.facts.now bound free c.bind_all-2.new.self c.args.watched.low c.args.watched.high c.requires.placed.0
    (c.in_ok-bind_all-2.ensures ∙ ap (λ l. all_behind c.bind_all.new.self l) (tail_is free c.args.watched.high) ∙ ap (λ b. all_behind b (drop c.args.watched.high free)) c.in_ok-bind_all.ensures) known reaches
    (c.in_ok-ready.ensures.tells total known ∙ not_true c.in_ok-ready.ready stuck)
