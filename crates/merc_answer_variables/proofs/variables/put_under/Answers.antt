use Rattle.std.specs.Ordering.{nat_cmp}
use Rattle.std.specs.BTreeMap.{get}
use Rattle.std.specs.Map.Iter.{deref_pair}
use Rattle.std.proofs.Common.{◌≡◌, ℕ, false, Option, Some, None, is_some, sym, ◌∙◌, refl}
use Rattle.std.proofs.lemmas.Map.Iter.{rest_more}
use Rattle.merc_answer_variables.proofs.MapLaws.{under_step}
use Rattle.merc_answer_variables.proofs.variables.put_under.Goals as goal

lacks : (found : Option ℕ) → is_some found ≡ false → found ≡ None
lacks None is = refl
lacks (Some place) is = absurd (cc)

pub loop-name-preserved-in_ok-insert : goal.loop-name-preserved-in_ok-insert
loop-name-preserved-in_ok-insert c = λ q.
    let reading = rest_more deref_pair c.loop-name.name-iterator c.next.new.self c.next.result (c.in-Some.name, c.in-Some.place) c.in-Some.is c.next.ensures.steps in
    under_step q c.in-Some.name.now c.in-Some.place.now (λ (k : ℕ). get nat_cmp c.loop-name.first k) _ _ c.loop-name.name-iterator c.next.new.self reading
    (lacks _ (sym c.contains_key.ensures ∙ c.if-not-contains_key.true)) (c.in_ok-insert.ensures.updates.0 q) (c.loop-name.invariant q)
