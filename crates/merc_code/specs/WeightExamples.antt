-- Worked examples of weights.
use Rattle.std.specs.Prelude.{◌≡◌, [], ◌∷◌, refl}
use Rattle.merc_code.specs.declared.instruction.Instruction.TheVariants.{Try, Return, Fail}
use Rattle.merc_code.specs.Steps.{Code, caller, Dead, GoesOn, At, Back}
use Rattle.merc_code.specs.Weight.{doubled, left_in, weight}

doubled-example : doubled 3 ≡ 22
doubled-example = refl

left_in-example : left_in (caller (Fail ∷ Return ∷ []) [] [] [] [] ∷ caller (Return ∷ []) [] [] [] [] ∷ []) ≡ 5
left_in-example = refl

-- a choice point that is made weighs less than the instruction that makes it

abbrev both : Code
both = Fail ∷ Return ∷ []

weight-before : weight (At (Try 1 ∷ both) [] [] [] [] 9) ≡ 22
weight-before = refl

weight-behind : weight (At both [] [] [] (GoesOn (Return ∷ []) [] [] [] ∷ []) 9) ≡ 15
weight-behind = refl

weight-back : weight (Back (Dead ∷ GoesOn (Return ∷ []) [] [] [] ∷ []) 9) ≡ 6
weight-back = refl

weight-not : weight (At both [] [] [] [] 9) ≡ weight (At both [] [] (caller (Return ∷ []) [] [] [] [] ∷ []) [] 9) → ⊥
weight-not leaves_callers_out = cc
