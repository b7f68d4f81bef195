use Rattle.std.specs.Ordering.{nat_cmp}
use Rattle.std.specs.BTreeMap.{get}
use Rattle.std.specs.Map.Iter.{deref_pair}
use Rattle.std.proofs.Common.{ℕ, sym, ◌∙◌}
use Rattle.std.proofs.lemmas.Map.Iter.{rest_more}
use Rattle.merc_answer_variables.proofs.MapLaws.{hide_step}
use Rattle.merc_answer_variables.proofs.variables.hide_among.Goals as goal

pub loop-name-preserved-then-contains_key : goal.loop-name-preserved-then-contains_key
loop-name-preserved-then-contains_key c = λ q.
    let reading = rest_more deref_pair c.loop-name.name-iterator c.next.new.self c.next.result (c.in-Some.name, c.in-Some.field-0-1) c.in-Some.is c.next.ensures.steps in
    hide_step q c.in-Some.name.now c.in-Some.field-0-1.now (λ (k : ℕ). get nat_cmp c.args.many.now k) _ _ _ c.loop-name.name-iterator c.next.new.self reading
    (sym c.contains_key.ensures ∙ c.if-contains_key.true) (c.remove.ensures.updates.0 q) (c.loop-name.invariant q)
