-- What the last ticket is given.
use Rattle.std.proofs.Common.{◌≡◌, ⊎_elim, ℕ, ◌<◌, List, [], ◌∷◌, ◌++◌, length, refl, sym, ap, ◌∙◌, subst, Some, slice_get, ◌==◌, if◌then◌else◌}
use Rattle.merc_script.specs.declared.outcome.Outcome.{Outcome}
use Rattle.merc_join.specs.declared.stub.Slot.{Slot}
use Rattle.merc_join.specs.declared.stub.Slot.TheVariants.{Empty, Ended}
use Rattle.merc_join.specs.declared.stub.Stage.TheVariants.{Holding, Stopped, Last}
use Rattle.merc_join.specs.declared.stub.Stub.{Stub}
use Rattle.atomic_table.specs.Table.{Me}
use Rattle.merc_join.specs.Join.{stub, last, Counted}
use Rattle.merc_join.specs.Answers.{AreOutcomes}
use Rattle.merc_join.proofs.Lists.{got_end, got_there}

module _ {P : Type 0} (ends : P → ℕ → Outcome → Type 0) where
  pub more_outcomes : (v w : Stub P) (i : ℕ) (outcomes : List Outcome) (o : Outcome) → length outcomes ≡ i → AreOutcomes ends v.parent v.child v.put outcomes
      → w ≡ stub v.parent v.child v.many Last v.put i → ends w.parent i o → (i ≡ w.child → w.put ≡ Ended o) → AreOutcomes ends v.parent v.child v.put (outcomes ++ o ∷ [])
  more_outcomes v w i outcomes o long each is end own k p got = ⊎_elim (each k p)
      (λ (t : (k ≡ length outcomes) × (o ≡ p)). let place : k ≡ i = t.0 ∙ long in (
        subst (λ (x : (P × ℕ) × Outcome). ends x.0.0 x.0.1 x.1) (λ j. ((ap (λ (u : Stub P). u.parent) is j, sym place j), t.1 j)) end,
        λ same. sym (ap (λ (u : Stub P). u.put) is) ∙ (own (sym place ∙ (same ∙ sym (ap (λ (u : Stub P). u.child) is))) ∙ ap Ended t.1),
      ))
      (got_end outcomes o p k got)

  abbrev ended_as : Outcome → Slot P
  ended_as o = Ended o

  -- the outcome of the ticket's own child
  pub own_outcome : (parent : P) (child : ℕ) (o : Outcome) (outcomes : List Outcome) → child < length outcomes → AreOutcomes ends parent child (Ended o) outcomes → slice_get outcomes child ≡ Some o
  own_outcome parent child o outcomes near each = let found = got_there outcomes child near in let put : ended_as o ≡ ended_as found.0 = (each child found.0 found.1).1 refl in let same : found.0 ≡ o = cc in found.1 ∙ ap Some same

module _ {P : Type 0} where
  -- the seat that has counted its child
  pub counted : (child found : ℕ) (o : Outcome) (old m n : Me (Slot P) (Stub P)) → m ≡ (stub old.0.parent child 1 Holding Empty 0, (child, Ended o) ∷ []) → Counted m found n
      → n.0 ≡ stub old.0.parent child 1 (if found == 1 then Last else Stopped) (Ended o) 0
  counted child found o old m n is tells = tells.0 ∙ ap (λ (u : Me (Slot P) (Stub P)). stub u.0.parent u.0.child 1 (if found == 1 then Last else Stopped) (last u.1) 0) is
