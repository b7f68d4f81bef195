-- Procedures among those that leave no choice point behind, and others.
use Rattle.std.specs.Prelude.{◌≡◌, Bool, true, false, List, [], ◌∷◌, refl}
use Rattle.merc_gen.specs.Singles.{contained}

-- of two predicates the first has two modes, of which one is among them
abbrev told : List (List Bool)
told = (true ∷ false ∷ []) ∷ (true ∷ []) ∷ []

first_mode : contained told (record { predicate = 0; mode = 0 }) ≡ true
first_mode = refl

second_mode : contained told (record { predicate = 0; mode = 1 }) ≡ false
second_mode = refl

no_mode : contained told (record { predicate = 1; mode = 1 }) ≡ false
no_mode = refl

no_predicate : contained told (record { predicate = 2; mode = 0 }) ≡ true → ⊥
no_predicate wrong = cc
