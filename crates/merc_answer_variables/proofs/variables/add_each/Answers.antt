use Rattle.std.specs.Map.Iter.{deref}
use Rattle.std.proofs.lemmas.Map.Iter.{rest_more}
use Rattle.merc_answer_variables.proofs.MapLaws.{with_step}
use Rattle.merc_answer_variables.proofs.variables.add_each.Goals as goal

pub loop-name-preserved : goal.loop-name-preserved
loop-name-preserved c = λ q.
    let reading = rest_more deref c.loop-name.name-iterator c.next.new.self c.next.result c.in-Some.name c.in-Some.is c.next.ensures.steps in
    with_step q c.in-Some.name.now _ _ _ c.loop-name.name-iterator c.next.new.self reading (c.in_ok-insert.ensures.updates.0 q) (c.loop-name.invariant q)
