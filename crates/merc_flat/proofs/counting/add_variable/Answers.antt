use Rattle.merc_flat.proofs.CountLaws.{kept, one_added, same_numbers}
use Rattle.merc_flat.proofs.counting.add_variable.Goals as goal

pub returns-in_ok-insert : goal.returns-in_ok-insert
returns-in_ok-insert c = λ numbers before.
    rw c.number-number.ensures at
    (same_numbers _ _ _ (kept c.args.arity c.number-number.result numbers c.if-arity-number.true)
    (one_added c.args.found.now c.insert.new.self c.number-number.result c.in_ok-insert.field-0 c.in_ok-insert.ensures.added c.in_ok-insert.ensures.updates.0 c.in_ok-insert.ensures.len numbers before))
