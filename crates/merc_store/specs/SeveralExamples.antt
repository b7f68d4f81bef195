-- Several instructions, one behind the other, of which one fails.
use Rattle.std.proofs.Common.{◌≡◌, zero, suc, [], ◌∷◌, pos, Some, refl, subst, arith}
use Rattle.std.proofs.lemmas.List.Elements.{All-nil}
use Rattle.merc_value.specs.Value.{Int}
use Rattle.merc_meaning.specs.Trace.{Env}
use Rattle.merc_code.specs.Steps.{Effect, Binds, Fails, Raises}
use Rattle.merc_layout.specs.Frames.{FitsInstruction}
use Rattle.merc_store.specs.Several.{IsOther, KeepsOthers, PerformsEach, DoesEach}
use Rattle.merc_store.specs.PerformingExamples.{store, store-grows, store-fits}
use Rattle.merc_store.specs.declared.store.Done.TheVariants.{Bound, Failed, Raised}

other-example : IsOther 1 (0 ∷ 2 ∷ [])
other-example = (λ e. absurd (omega (arith, e)), (λ e. absurd (omega (arith, e)), tt))

other-not : IsOther 2 (0 ∷ 2 ∷ []) → ⊥
other-not other = other.1.0 refl

-- the second variable may be given a value
keeps-example : KeepsOthers (1 ∷ []) (Some (Int (pos 7)) ∷ []) (Some (Int (pos 7)) ∷ Some (Int (pos 9)) ∷ [])
keeps-example zero other = refl
keeps-example (suc zero) other = absurd (other.0 refl)
keeps-example (suc (suc variable)) other = refl

-- but not the first
keeps-not : KeepsOthers (1 ∷ []) (Some (Int (pos 7)) ∷ []) (Some (Int (pos 8)) ∷ []) → ⊥
keeps-not keeps = let same : Some (Int (pos 8)) ≡ Some (Int (pos 7)) = keeps 0 ((λ e. absurd (omega (arith, e))), tt) in absurd (cc)

each-example : PerformsEach store store 2 (Some (Int (pos 7)) ∷ []) (3 ∷ []) (1 ∷ []) Fails Failed
each-example = (Some (Int (pos 7)) ∷ [], store-grows, store-fits, λ variable other. refl)

each-not : PerformsEach store store 2 (Some (Int (pos 7)) ∷ []) (3 ∷ []) (1 ∷ []) (Raises 4) (Raised 5) → ⊥
each-not same = absurd (omega (arith, same))

none_effect : (env : Env) (effect : Effect) → Some (Binds env) ≡ Some effect → Binds env ≡ effect
none_effect env effect is = cc

-- without instructions nothing fails
does_each-example : DoesEach store store [] Bound
does_each-example = record {
  performs = λ variables env marks effect fits within found. subst (λ e. PerformsEach store store variables env marks [] e Bound) (none_effect env effect found) (store-grows, fits);
}

does_each-not : DoesEach store store [] Failed → ⊥
does_each-not does = does.performs 2 (Some (Int (pos 7)) ∷ []) (3 ∷ []) (Binds (Some (Int (pos 7)) ∷ [])) store-fits (All-nil (FitsInstruction 2 3)) refl
