-- A number that is kept of a functor is its number, also once another one stands behind the others.
use Rattle.std.proofs.Common.{◌≡◌, ◌≤◌, ◌∙◌, ◌+◌, ◌++◌, ◌∷◌, [], Some, List, cond, length, slice_get, subst, sym, ap, arith}
use Rattle.std.specs.HashMap.{get}
use Rattle.merc_heap.specs.declared.functors.Functor.{Functor}
use Rattle.merc_heap.specs.declared.slot.TheConstants.{MOST}
use Rattle.merc_heap.specs.Functors.{numbered, same_functor, IsNumberOf}
use Rattle.merc_heap.proofs.NumberLemmas.{found_number, numbers_after, pushed_number}
use Rattle.merc_heap.proofs.functors.Functors.sought_number.Goals as goal

pub returns-in-Some-clause-number : goal.returns-in-Some-clause-number
returns-in-Some-clause-number c =
    subst (λ l. slice_get (numbered l) c.in-Some.number.now ≡ Some c.args.functor) c.self.view_is
    (found_number c.self.inside.others.items c.args.functor c.in-Some.number.now _ c.in-Some.ensures.value (c.self.invariant c.args.functor)).1

pub returns-in-Some-clause-small : goal.returns-in-Some-clause-small
returns-in-Some-clause-small c = (found_number c.self.inside.others.items c.args.functor c.in-Some.number.now _ c.in-Some.ensures.value (c.self.invariant c.args.functor)).0

module _ (c : goal.After-push_reserved) where
  abbrev others : List Functor
  others = c.self.inside.others.items

  stored : c.push_reserved.new.self.items ≡ others ++ c.args.functor ∷ []
  stored = c.push_reserved.ensures.items ∙ ap (λ l. l ++ c.args.functor ∷ []) c.in_ok-reserve.ensures.items

  counted : 2 + c.in-Ok.count ≡ 2 + length others
  counted = omega (arith, c.in-Ok.ensures.1, c.len.ensures, c.self.inside.others.ok)

  small : 2 + length others ≤ MOST
  small = omega (arith, c.if-count.true, c.in-Ok.ensures.1, c.len.ensures, c.self.inside.others.ok)

pub invariant_of-self-2 : goal.invariant_of-self-2
invariant_of-self-2 c = λ functor.
    let before = get same_functor c.self.inside.numbers functor in
    subst (λ found. IsNumberOf c.push_reserved.new.self.items functor found) (sym (c.in_ok-insert.ensures.updates.0 functor))
    (subst (λ n. IsNumberOf c.push_reserved.new.self.items functor (cond (same_functor c.args.functor functor) (Some n) before)) (sym (counted c))
    (subst (λ l. IsNumberOf l functor (cond (same_functor c.args.functor functor) (Some (2 + length (others c))) before)) (sym (stored c))
    (numbers_after (others c) c.args.functor functor before (small c) (c.self.invariant functor))))

pub returns-clause-number : goal.returns-clause-number
returns-clause-number c = ap (λ l. slice_get (numbered l) (2 + c.in-Ok.count)) (stored c) ∙ ap (slice_get (numbered (others c ++ c.args.functor ∷ []))) (counted c) ∙ pushed_number (others c) c.args.functor
