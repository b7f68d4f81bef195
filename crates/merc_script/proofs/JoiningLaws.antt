-- Outcomes that are joined one after the other are joined as a whole.
use Rattle.std.proofs.Common.{◌≡◌, ℕ, ◌+◌, Bool, true, false, List, [], ◌∷◌, refl, ◌∙◌}
use Rattle.std.specs.Prelude.{if◌then◌else◌, nat_le}
use Rattle.merc_script.specs.declared.outcome.Outcome.{Outcome}
use Rattle.merc_script.specs.declared.outcome.Outcome.TheVariants.{Ok as Fine, Raise, Limit, Starved, NoMemory}
use Rattle.merc_script.specs.Joining.{walk, lacks_memory, joined, joined_behind}

behind-lack : (limit : ℕ) (os : List Outcome) → joined_behind limit NoMemory os ≡ NoMemory
behind-lack limit [] = refl
behind-lack limit (o ∷ os) = behind-lack limit os

behind-raise : (limit text steps : ℕ) (os : List Outcome) → joined_behind limit (Raise text steps) os ≡ (if lacks_memory os then NoMemory else Raise text steps)
behind-raise limit text steps [] = refl
behind-raise limit text steps (NoMemory ∷ os) = behind-lack limit os
behind-raise limit text steps (Fine more ∷ os) = behind-raise limit text steps os
behind-raise limit text steps (Raise other more ∷ os) = behind-raise limit text steps os
behind-raise limit text steps (Limit ∷ os) = behind-raise limit text steps os
behind-raise limit text steps (Starved ∷ os) = behind-raise limit text steps os

behind-limit : (limit : ℕ) (os : List Outcome) → joined_behind limit Limit os ≡ (if lacks_memory os then NoMemory else Limit)
behind-limit limit [] = refl
behind-limit limit (NoMemory ∷ os) = behind-lack limit os
behind-limit limit (Fine more ∷ os) = behind-limit limit os
behind-limit limit (Raise other more ∷ os) = behind-limit limit os
behind-limit limit (Limit ∷ os) = behind-limit limit os
behind-limit limit (Starved ∷ os) = behind-limit limit os

behind-starved : (limit : ℕ) (os : List Outcome) → joined_behind limit Starved os ≡ (if lacks_memory os then NoMemory else Starved)
behind-starved limit [] = refl
behind-starved limit (NoMemory ∷ os) = behind-lack limit os
behind-starved limit (Fine more ∷ os) = behind-starved limit os
behind-starved limit (Raise other more ∷ os) = behind-starved limit os
behind-starved limit (Limit ∷ os) = behind-starved limit os
behind-starved limit (Starved ∷ os) = behind-starved limit os

within : (limit sum : ℕ) (b : Bool) (os : List Outcome) → joined_behind limit (Fine sum) os ≡ (if lacks_memory os then NoMemory else walk limit sum os)
    → joined_behind limit (if b then Fine sum else Limit) os ≡ (if lacks_memory os then NoMemory else (if b then walk limit sum os else Limit))
within limit sum true os rest = rest
within limit sum false os rest = behind-limit limit os

raised : (limit text sum : ℕ) (b : Bool) (os : List Outcome) → joined_behind limit (if b then Raise text sum else Limit) os ≡ (if lacks_memory os then NoMemory else (if b then Raise text sum else Limit))
raised limit text sum true os = behind-raise limit text sum os
raised limit text sum false os = behind-limit limit os

behind-fine : (limit sum : ℕ) (os : List Outcome) → joined_behind limit (Fine sum) os ≡ (if lacks_memory os then NoMemory else walk limit sum os)
behind-fine limit sum [] = refl
behind-fine limit sum (Fine steps ∷ os) = within limit (sum + steps) (nat_le (sum + steps) limit) os (behind-fine limit (sum + steps) os)
behind-fine limit sum (Raise text steps ∷ os) = raised limit text (sum + steps) (nat_le (sum + steps) limit) os
behind-fine limit sum (Limit ∷ os) = behind-limit limit os
behind-fine limit sum (Starved ∷ os) = behind-starved limit os
behind-fine limit sum (NoMemory ∷ os) = behind-lack limit os

pub joined-in-order : (limit : ℕ) (os : List Outcome) → joined_behind limit (Fine 0) os ≡ joined limit os
joined-in-order limit os = behind-fine limit 0 os

-- A walk gives no want of memory that was not there, so that it comes exactly where one of the outcomes is NoMemory.
not-memory : (b : Bool) (one : Outcome) → (one ≡ NoMemory → ⊥) → (if b then one else Limit) ≡ NoMemory → ⊥
not-memory true one other is = other is
not-memory false one other is = absurd (cc)

pub walk-has-memory : (limit sum : ℕ) (os : List Outcome) → lacks_memory os ≡ false → walk limit sum os ≡ NoMemory → ⊥
walk-has-memory limit sum [] none is = absurd (cc)
walk-has-memory limit sum (Fine steps ∷ os) none is = not-memory (nat_le (sum + steps) limit) (walk limit (sum + steps) os) (walk-has-memory limit (sum + steps) os none) is
walk-has-memory limit sum (Raise text steps ∷ os) none is = not-memory (nat_le (sum + steps) limit) (Raise text (sum + steps)) (λ e. absurd (cc)) is
walk-has-memory limit sum (Limit ∷ os) none is = absurd (cc)
walk-has-memory limit sum (Starved ∷ os) none is = absurd (cc)
walk-has-memory limit sum (NoMemory ∷ os) none is = absurd (cc)
