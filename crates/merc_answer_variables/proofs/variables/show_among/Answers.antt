use Rattle.std.specs.Ordering.{nat_cmp}
use Rattle.std.specs.BTreeMap.{get}
use Rattle.std.specs.Map.Iter.{deref_pair}
use Rattle.std.proofs.Common.{ℕ, sym, ◌∙◌}
use Rattle.std.proofs.lemmas.Map.Iter.{rest_more}
use Rattle.merc_answer_variables.proofs.MapLaws.{among_step}
use Rattle.merc_answer_variables.proofs.variables.show_among.Goals as goal

pub loop-name-preserved-in_ok-insert : goal.loop-name-preserved-in_ok-insert
loop-name-preserved-in_ok-insert c = λ q.
    let reading = rest_more deref_pair c.loop-name.name-iterator c.next.new.self c.next.result (c.in-Some.name, c.in-Some.field-0-1) c.in-Some.is c.next.ensures.steps in
    among_step q c.in-Some.name.now c.in-Some.field-0-1.now (λ (k : ℕ). get nat_cmp c.args.many.now k) _ _ _ c.loop-name.name-iterator c.next.new.self reading
    (sym c.contains_key.ensures ∙ c.if-contains_key.true) (c.in_ok-insert.ensures.updates.0 q) (c.loop-name.invariant q)
