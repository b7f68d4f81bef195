use Rattle.std.proofs.Common.{◌∙◌, sym}
use Rattle.merc_simple_goals.proofs.Putting.{unbound_gives, test_gives, assign_gives}
use Rattle.merc_simple_goals.proofs.writing.order_same.Goals as goal
use Rattle.merc_simple_goals.proofs.writing.order_same.Goals.{then-is_bound, else-is_bound}

pub returns-then-not-is_bound : goal.returns-then-not-is_bound
returns-then-not-is_bound c = λ total modes.
    rw (← c.is_bound-is_bound.ensures)
    (unbound_gives total modes c.args.one c.args.other _ c.is_bound-is_bound.result c.args.frame.outputs c.args.frame.span c.args.written.now c.put_if.new.written c.put_if.result
    (sym c.is_bound.ensures ∙ c.if-not-is_bound.true) c.put_if.ensures)

pub returns : goal.returns
returns c = λ total modes.
    elim c.if-is_bound.branch [
      | then-is_bound w ↦
          test_gives total modes c.args.one c.args.other _ _ c.args.frame.outputs c.args.frame.span c.args.written.now c.put_if-2.new.written c.put_if-2.result c.if-is_bound.goal
          (sym c.is_bound.ensures ∙ c.if-not-is_bound.false) (sym c.is_bound-is_bound.ensures ∙ w.if-is_bound.true) w.goal-is c.put_if-2.ensures
      | else-is_bound w ↦
          assign_gives total modes c.args.one c.args.other _ _ c.args.frame.outputs c.args.frame.span c.args.written.now c.put_if-2.new.written c.put_if-2.result c.if-is_bound.goal
          (sym c.is_bound.ensures ∙ c.if-not-is_bound.false) (sym c.is_bound-is_bound.ensures ∙ w.if-is_bound.false) w.goal-is c.put_if-2.ensures
    ]
