use Rattle.std.proofs.Common.{◌≡◌, ◌∙◌, ◌+◌, ◌-◌, ◌<◌, ◌++◌, length, sym, ap, arith}
use Rattle.merc_core.specs.Queues.{stored_from}
use Rattle.merc_core.proofs.Spoiling.{stored-before, stored-behind, stored-there, stored-room}
use Rattle.merc_core.proofs.ending.store.Goals as goal
use Rattle.merc_core.proofs.ending.store.Goals.{then-child-eq0-via-then-child-eq0, then-child-eq0-via-else-child-eq0+then-child-len}

pub returns-then-child-eq0 : goal.returns-then-child-eq0
returns-then-child-eq0 c = elim c.then-child-eq0.branch [
  | then-child-eq0-via-then-child-eq0 w ↦ sym (stored-before 1 c.args.child c.args.outcome c.args.outcomes.now (let e = w.if-child-eq0.true in omega (arith, e)))
  | then-child-eq0-via-else-child-eq0+then-child-len w ↦ sym (stored-behind 1 c.args.child c.args.outcome c.args.outcomes.now
      (let e = w.if-child-len.true in let f = w.len.ensures.value in omega (arith, e, f)))
]

pub returns-in-Ok : goal.returns-in-Ok
returns-in-Ok c =
    let near : c.args.child - 1 < length c.args.outcomes.now = omega arith in
    let same : 1 + (c.args.child - 1) ≡ c.args.child = omega arith in
    c.move_all.ensures.into ∙ ap (λ l. l ++ c.store_first.new.outcomes) c.in-Ok.ensures.items
    ∙ stored-there 1 (c.args.child - 1) c.args.outcome c.args.outcomes.now c.store_first.new.outcomes near (λ first rest is. c.store_first.ensures first rest (c.in-Ok.ensures.tail ∙ is))
    ∙ ap (λ k. stored_from 1 k c.args.outcome c.args.outcomes.now) same

pub move_all-requires : goal.move_all-requires
move_all-requires c =
    let near : c.args.child - 1 < length c.args.outcomes.now = omega arith in
    let e = stored-room (c.args.child - 1) c.args.outcome c.args.outcomes.now c.store_first.new.outcomes near (λ first rest is. c.store_first.ensures first rest (c.in-Ok.ensures.tail ∙ is)) in
    let f = ap length c.in-Ok.ensures.items in let g = c.len.ensures.value in let h = c.len.ensures.fits in omega (arith, e, f, g, h)
